mod Constants
mod CutLaws
mod Cuts
mod Fixed
mod LogicalIfs
mod Longest
mod Numbers
mod Passes
mod TokenAt
pub mod TokenLaws
mod TokenSteps
