use Rattle.nnc_enc.proofs.Decoded as lemmas
use Rattle.nnc_enc.proofs.vectors.points_are_needed.Goals as goal

pub returns : goal.returns
returns c = lemmas.points_are_needed
