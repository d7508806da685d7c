use Rattle.nnc_enc.proofs.LineLemmas as lemmas
use Rattle.nnc_enc.proofs.needed.lines_are_needed.Goals as goal

pub returns : goal.returns
returns c = lemmas.lines_are_needed
