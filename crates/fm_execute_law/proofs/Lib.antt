mod Back
mod Turns
mod Variables
mod Firsts
mod Shown
mod Digits
mod SameWords
mod PartsBack
mod SameLines
pub mod SameTexts
pub mod Programs
