pub mod JoinLaws
pub mod EndLaws
pub mod BeginLaws
