pub mod ExactStatements
pub mod Long
pub mod CardLaws
