use Rattle.nnc_enc.proofs.NeededRows as lemmas
use Rattle.nnc_enc.proofs.rows.strict_rows_are_needed.Goals as goal

pub returns : goal.returns
returns c = lemmas.strict_rows_are_needed
