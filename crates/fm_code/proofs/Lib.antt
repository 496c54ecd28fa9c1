mod FusedLaws
pub mod StackLaws
