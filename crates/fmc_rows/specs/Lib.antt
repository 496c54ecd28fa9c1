pub mod TreeText
