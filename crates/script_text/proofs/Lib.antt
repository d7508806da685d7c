mod PartLemmas
pub mod SpellLemmas
mod UnreadLemmas
mod VariableLemmas
