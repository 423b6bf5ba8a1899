pub mod Answered
pub mod Counts
pub mod Lines
pub mod Questions
pub mod Text
