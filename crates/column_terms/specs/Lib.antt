pub mod Pairs
pub mod Ramps
pub mod Readers
