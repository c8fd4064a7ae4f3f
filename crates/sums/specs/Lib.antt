pub mod LinearSum
pub mod Rising
pub mod Linear
pub mod Norm
pub mod Bounds
pub mod Struct
