pub mod Claims
pub mod Format
pub mod Numbers
