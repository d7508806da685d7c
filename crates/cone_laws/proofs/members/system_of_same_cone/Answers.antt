use Rattle.cone_laws.proofs.MemberLemmas.{same_cone}
use Rattle.cone_laws.proofs.members.system_of_same_cone.Goals as goal

pub returns : goal.returns
returns c = same_cone
