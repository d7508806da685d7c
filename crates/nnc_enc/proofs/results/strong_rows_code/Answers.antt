use Rattle.nnc_enc.proofs.ResultLemmas as lemmas
use Rattle.nnc_enc.proofs.results.strong_rows_code.Goals as goal

pub returns : goal.returns
returns c = lemmas.strong_rows_code
