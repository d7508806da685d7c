use Rattle.nnc_enc.proofs.CodedLemmas as lemmas
use Rattle.nnc_enc.proofs.results.ray_is_coded.Goals as goal

pub returns : goal.returns
returns c = lemmas.ray_is_coded
