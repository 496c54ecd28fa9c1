pub mod Exact
pub mod ExactLists
pub mod MoreLaws
pub mod ExactParts
pub mod ExtraCounts
pub mod ExactFields
pub mod Deeper
