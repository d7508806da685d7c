use Rattle.nnc_enc.proofs.CodedRows as lemmas
use Rattle.nnc_enc.proofs.rows.rows_are_coded.Goals as goal

pub returns : goal.returns
returns c = lemmas.rows_are_coded
