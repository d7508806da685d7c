use Rattle.cone_laws.proofs.Bipolar as lemmas
use Rattle.cone_laws.proofs.duality.bipolar_law.Goals as goal

pub returns : goal.returns
returns c = record { admitted_is_spanned = lemmas.admitted_is_spanned; spanned_is_admitted = lemmas.spanned_is_admitted }
