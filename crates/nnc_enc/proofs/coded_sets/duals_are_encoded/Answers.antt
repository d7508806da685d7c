use Rattle.nnc_enc.proofs.EncodedDuals as lemmas
use Rattle.nnc_enc.proofs.coded_sets.duals_are_encoded.Goals as goal

pub returns : goal.returns
returns c = record { dual = lemmas.encoded_has_dual; cone = lemmas.dual_is_encoded }
