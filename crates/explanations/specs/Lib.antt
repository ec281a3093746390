pub mod Explained
pub mod Claims
