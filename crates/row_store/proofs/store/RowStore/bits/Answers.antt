use Rattle.std.specs.Prelude.{◌^◌}
use Rattle.row_core.specs.Sizes.{IsWithin}
use Rattle.flat_rows.proofs.Flat.{All-each}
use Rattle.row_store.proofs.store.RowStore.bits.Goals as goal

pub returns : goal.returns
returns c = rw (← c.self.view_is) (All-each (IsWithin (2 ^ c.bits.result)) c.self.inside.rows c.cells.result.now c.cells.ensures c.bits.ensures.within)
