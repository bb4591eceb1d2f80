pub mod Sentences
pub mod Slack
