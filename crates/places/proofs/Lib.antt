pub mod Laws
pub mod Members
