pub mod Allocations
pub mod Outcomes
pub mod Retimings
pub mod Timely
pub mod OnlyOne
pub mod Lateness
pub mod Rehearsals
pub mod Trials
