pub mod Kinds
pub mod Generators
pub mod Spans
pub mod Refusals
