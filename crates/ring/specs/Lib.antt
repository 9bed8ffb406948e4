pub mod Begins
pub mod Fetch
