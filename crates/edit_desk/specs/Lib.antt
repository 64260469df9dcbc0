pub mod ReplyText
pub mod Answers
pub mod Versions
