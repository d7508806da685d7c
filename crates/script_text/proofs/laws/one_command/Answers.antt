use Rattle.script_text.proofs.SpellLemmas as lemma
use Rattle.script_text.proofs.laws.one_command.Goals as goal

pub returns : goal.returns
returns c = lemma.spells_one
