use Rattle.std.specs.Prelude.{All}
use Rattle.std.proofs.Common.{sym, subst}
use Rattle.row_core.specs.Sizes.{HaveBits}
use Rattle.flat_rows.proofs.Marked.{all_marked}
use Rattle.row_store.proofs.MarkedVectors.{kept_seen}
use Rattle.row_store.proofs.vectors.VectorList.keep_rows.Goals as goal

pub returns-clause-rows : goal.returns-clause-rows
returns-clause-rows c = kept_seen c.self.inside.eq c.self.inside.store c.args.self.now c.keep_rows.new.self.rows c.args.keep.now c.self.view_is c.keep_rows.ensures.rows

pub invariant_of-self : goal.invariant_of-self
invariant_of-self c = subst (All (HaveBits c.self.inside.bits)) (sym c.keep_rows.ensures.rows) (all_marked (HaveBits c.self.inside.bits) c.args.keep.now c.self.inside.store.rows c.self.invariant)
