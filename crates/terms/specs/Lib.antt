pub mod Checks
pub mod Cores
pub mod Refusals
pub mod Sums
pub mod Units
