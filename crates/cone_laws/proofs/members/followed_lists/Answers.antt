use Rattle.cone_laws.proofs.MemberLemmas.{first_alone, rows_of_both}
use Rattle.cone_laws.proofs.members.followed_lists.Goals as goal

pub returns : goal.returns
returns c = record { first = first_alone; both = rows_of_both }
