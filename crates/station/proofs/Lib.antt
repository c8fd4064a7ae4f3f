pub mod Numbers
pub mod JoinNumbers
pub mod RosterNumbers
pub mod SheetNumbers
