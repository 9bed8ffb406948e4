pub mod Lookup
pub mod Refusal
