use Rattle.std.specs.Prelude.{List}
use Rattle.std.specs.Borrow.{Lends, Fml, RattleType, MutBor, Array}
use Rattle.flat_rows.specs.Flat.{Flat, with_cells}
use Rattle.flat_rows.specs.contracts.rows.FlatRows.{the_row}

-- once the loan ends, the rows have the cells that it shows last
abbrev pub lends_cells : (T : RattleType) → MutBor (Flat T.Denot) → MutBor (List T.Denot) → Fml
lends_cells T rows cells = Lends (the_row T) (Array T 0) rows cells (with_cells rows.now)
