pub mod Claims
pub mod Earlier
pub mod Format
