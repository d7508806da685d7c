use Rattle.nnc_enc.proofs.CodedVectors as coded
use Rattle.nnc_enc.proofs.EncodedVectors as lemmas
use Rattle.nnc_enc.proofs.coded_sets.generators_code.Goals as goal

pub returns : goal.returns
returns c = record { encoded = lemmas.generators_encode; coded = lemmas.spanned_is_coded; spanned = coded.coded_is_spanned }
