use Rattle.nnc_enc.proofs.Decoded as lemmas
use Rattle.nnc_enc.proofs.vectors.vectors_are_coded.Goals as goal

pub returns : goal.returns
returns c = lemmas.vectors_are_coded
