use Rattle.nnc_enc.proofs.LeftOutRows as lemmas
use Rattle.nnc_enc.proofs.rows.kept_rows_hold.Goals as goal

pub returns : goal.returns
returns c = lemmas.kept_rows_hold
