pub mod Received
pub mod Size
