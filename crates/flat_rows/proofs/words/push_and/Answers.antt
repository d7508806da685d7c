use Rattle.std.proofs.Common.{ℕ, ap}
use Rattle.flat_rows.specs.Flat.{Flat, entries_at}
use Rattle.flat_rows.proofs.WordRows.{and_pushed}
use Rattle.flat_rows.proofs.words.push_and.Goals as goal

pub returns-clause-rows : goal.returns-clause-rows
returns-clause-rows c =
    let old : Flat ℕ = c.args.rows.now in
    and_pushed old.rows c.push_copy.new.self.rows c.and_onto.new.rows.rows (entries_at old.rows c.args.i) c.len-last.result c.args.j c.push_copy.ensures.rows c.len-last.ensures c.requires.second (ap (λ (t : Flat ℕ). t.rows) c.and_onto.ensures)
