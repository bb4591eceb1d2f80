pub mod Numbers
pub mod Scripts
pub mod Exported
