use Rattle.nnc_enc.proofs.ConditionLemmas as lemmas
use Rattle.nnc_enc.proofs.conditions.rows_have_vectors.Goals as goal

pub returns : goal.returns
returns c = lemmas.rows_have_vectors
