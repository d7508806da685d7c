use Rattle.nnc_enc.proofs.EncodedRows as lemmas
use Rattle.nnc_enc.proofs.coded_sets.constraints_code.Goals as goal

pub returns : goal.returns
returns c = record { coded = lemmas.constraints_are_coded; encoded = lemmas.constraints_encode }
