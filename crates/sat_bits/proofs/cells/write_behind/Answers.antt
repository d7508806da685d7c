use Rattle.sat_bits.proofs.CellLemmas.{written_behind}
use Rattle.sat_bits.proofs.cells.write_behind.Goals as goal

pub returns : goal.returns
returns c = written_behind c.args.width c.args.row c.args.front c.args.words.now c.args.cells.now c.fill_front.new.cells c.join_behind.new.cells c.requires.front c.requires.none c.fill_front.ensures c.join_behind.ensures
