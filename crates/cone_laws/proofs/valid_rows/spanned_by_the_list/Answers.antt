use Rattle.cone_laws.proofs.ValidRows.{spanned_by_the_list}
use Rattle.cone_laws.proofs.valid_rows.spanned_by_the_list.Goals as goal

pub returns : goal.returns
returns c = spanned_by_the_list
