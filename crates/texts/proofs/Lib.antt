pub mod Enough
pub mod Examples
pub mod LineLaws
pub mod ScalLines
pub mod TextLaws
pub mod WordLaws
