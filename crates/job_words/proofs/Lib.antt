pub mod OneWord
pub mod SampleWords
