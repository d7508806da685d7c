use Rattle.nnc_enc.proofs.NeededLemmas as lemmas
use Rattle.nnc_enc.proofs.needed.zero_rows_are_spanned.Goals as goal

pub returns : goal.returns
returns c = lemmas.zero_rows_are_spanned
