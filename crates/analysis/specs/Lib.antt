pub mod Placed
pub mod Fit
pub mod Demand
pub mod Roles
pub mod Examined
pub mod Times
pub mod Windows
pub mod Easing
