pub mod Known
pub mod CutLaws
pub mod ReadLaws
pub mod NextLaws
