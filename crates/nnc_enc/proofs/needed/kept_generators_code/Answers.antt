use Rattle.nnc_enc.proofs.GensLemmas as lemmas
use Rattle.nnc_enc.proofs.needed.kept_generators_code.Goals as goal

pub returns : goal.returns
returns c = record { decodes = lemmas.listed_decodes; code = lemmas.kept_generators_code }
