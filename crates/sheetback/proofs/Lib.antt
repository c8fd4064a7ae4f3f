pub mod CallBack
pub mod Cases
pub mod Placed
pub mod SheetBack
pub mod Short
pub mod Tokens
