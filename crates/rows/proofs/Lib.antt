pub mod Fill
pub mod Gathered
pub mod Table
