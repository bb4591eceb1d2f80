pub mod Text
pub mod Listed
pub mod Checked
pub mod Worked
