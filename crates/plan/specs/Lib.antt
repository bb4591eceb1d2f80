pub mod Born
pub mod Adoption
pub mod Calls
pub mod Answers
pub mod Trial
pub mod History
pub mod Rehearsal
