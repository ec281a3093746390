pub mod Arrays
pub mod Laws
pub mod Members
pub mod Walk
pub mod Steps
