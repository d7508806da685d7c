use Rattle.cone_laws.proofs.MemberLemmas.{spanned_within}
use Rattle.cone_laws.proofs.members.spanned_is_within.Goals as goal

pub returns : goal.returns
returns c = spanned_within
