use Rattle.nnc_enc.proofs.LevelRows as lemmas
use Rattle.nnc_enc.proofs.rows.level_rows_are_needed.Goals as goal

pub returns : goal.returns
returns c = lemmas.level_rows_are_needed
