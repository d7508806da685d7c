use Rattle.std.proofs.Common.{IsTrue}
use Rattle.sat_bits.proofs.RowSearches.{third_words}
use Rattle.sat_bits.proofs.searches.has_third_row.Goals as goal

pub returns-in-1 : goal.returns-in-1
returns-in-1 c =
    third_words c.args.cells.now c.args.width c.args.rows c.args.i c.args.j (IsTrue c.some_other_covers.result) c.in-1.is c.requires.rows c.some_other_covers.ensures.fit c.requires.first c.requires.second c.some_other_covers.ensures.third
