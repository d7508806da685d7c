use Rattle.nnc_enc.proofs.GensLemmas as lemmas
use Rattle.nnc_enc.proofs.needed.level_vectors_are_needed.Goals as goal

pub returns : goal.returns
returns c = lemmas.level_vectors_are_needed
