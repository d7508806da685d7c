pub mod Affine
pub mod Makers
pub mod Meanings
pub mod Operators
pub mod Results
pub mod Widening
