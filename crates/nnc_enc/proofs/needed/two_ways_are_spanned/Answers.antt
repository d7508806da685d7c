use Rattle.nnc_enc.proofs.LineLemmas as lemmas
use Rattle.nnc_enc.proofs.needed.two_ways_are_spanned.Goals as goal

pub returns : goal.returns
returns c = lemmas.two_ways_are_spanned
