mod Cuts
mod Lines
mod Reading
