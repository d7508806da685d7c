use Rattle.nnc_enc.proofs.SpareLemmas as lemmas
use Rattle.nnc_enc.proofs.results.strong_vectors_are_needed.Goals as goal

pub returns : goal.returns
returns c = lemmas.strong_vectors_are_needed
