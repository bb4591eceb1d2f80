pub mod FirstOut
pub mod Handed
pub mod Numbering
pub mod Sums
