pub mod SystemTurns
pub mod PostConversions
mod CommandLemmas
