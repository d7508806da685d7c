pub mod CutLines
mod DistinctNames
pub mod EntryKinds
pub mod LineLemmas
mod PartLemmas
mod QuestionLemmas
mod ReadingLemmas
pub mod SaysOnce
pub mod StepLemmas
