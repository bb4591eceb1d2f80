pub mod Cutting
pub mod Day
pub mod Numerals
pub mod Tally
pub mod Transcript
