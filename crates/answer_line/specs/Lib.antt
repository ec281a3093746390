pub mod Line
pub mod Claims
