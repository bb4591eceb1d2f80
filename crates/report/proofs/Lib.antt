pub mod Decimal
pub mod Puts
pub mod Pairs
pub mod Rows
pub mod Judging
pub mod WorkedBounds
pub mod FromBelow
pub mod WorkedTimes
