use Rattle.nnc_enc.proofs.RedundantRows as lemmas
use Rattle.nnc_enc.proofs.rows.strict_row_is_redundant.Goals as goal

pub returns : goal.returns
returns c = lemmas.strict_row_is_redundant
