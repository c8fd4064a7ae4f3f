pub mod Nodes
pub mod Skip
pub mod LeafLaws
pub mod IfLaws
pub mod SurveyLaws
