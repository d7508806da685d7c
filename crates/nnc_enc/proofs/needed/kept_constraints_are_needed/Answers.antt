use Rattle.nnc_enc.proofs.ConsLemmas as lemmas
use Rattle.nnc_enc.proofs.needed.kept_constraints_are_needed.Goals as goal

pub returns : goal.returns
returns c = lemmas.kept_constraints_are_needed
