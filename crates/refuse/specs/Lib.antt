pub mod Refuse
