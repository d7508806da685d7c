use Rattle.nnc_enc.proofs.ResultLemmas as lemmas
use Rattle.nnc_enc.proofs.results.decoded_vectors_code.Goals as goal

pub returns : goal.returns
returns c = lemmas.decoded_vectors_code
