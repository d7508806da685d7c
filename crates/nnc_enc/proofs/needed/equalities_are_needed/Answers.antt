use Rattle.nnc_enc.proofs.NeededLemmas as lemmas
use Rattle.nnc_enc.proofs.needed.equalities_are_needed.Goals as goal

pub returns : goal.returns
returns c = lemmas.equalities_are_needed
