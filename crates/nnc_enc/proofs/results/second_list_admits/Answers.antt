use Rattle.nnc_enc.proofs.CodedLemmas as lemmas
use Rattle.nnc_enc.proofs.results.second_list_admits.Goals as goal

pub returns : goal.returns
returns c = lemmas.second_list_admits
