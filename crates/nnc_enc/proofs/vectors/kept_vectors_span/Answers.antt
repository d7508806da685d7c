use Rattle.nnc_enc.proofs.Decoded as lemmas
use Rattle.nnc_enc.proofs.vectors.kept_vectors_span.Goals as goal

pub returns : goal.returns
returns c = lemmas.kept_vectors_span
