pub mod WordLaws
pub mod NthLaws
pub mod AgreeLaws
pub mod WriteLaws
pub mod FindLaws
pub mod JoinLaws
