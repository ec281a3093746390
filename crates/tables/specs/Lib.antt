pub mod Layout
pub mod Lists
