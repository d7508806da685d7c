use Rattle.nnc_enc.proofs.RedundantPoints as lemmas
use Rattle.nnc_enc.proofs.vectors.point_is_redundant.Goals as goal

pub returns : goal.returns
returns c = lemmas.point_is_redundant
