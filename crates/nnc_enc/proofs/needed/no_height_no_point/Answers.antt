use Rattle.nnc_enc.proofs.LineLemmas as lemmas
use Rattle.nnc_enc.proofs.needed.no_height_no_point.Goals as goal

pub returns : goal.returns
returns c = lemmas.no_height_no_point
