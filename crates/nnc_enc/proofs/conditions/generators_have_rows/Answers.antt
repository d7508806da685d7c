use Rattle.nnc_enc.proofs.ConditionLemmas as lemmas
use Rattle.nnc_enc.proofs.conditions.generators_have_rows.Goals as goal

pub returns : goal.returns
returns c = lemmas.generators_have_rows
