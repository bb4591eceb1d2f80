pub mod Bounds
pub mod Making
