use Rattle.std.proofs.Common.{◌≡◌, ◌-◌, ◌<◌, ◌++◌, ℕ, true, false, Bool, List, length, replicate, ap, sym, ◌∙◌, arith}
use Rattle.std.proofs.lemmas.List.{length_push}
use Rattle.flat_rows.proofs.LastRows.{last_row}
use Rattle.sat_bits.specs.Places.{place}
use Rattle.sat_matrix.specs.Tables.{Table, bits_of}
use Rattle.sat_matrix.specs.Words.{bits_in}
use Rattle.sat_matrix.proofs.BitRows.{seen_in, true_within}
use Rattle.sat_matrix.proofs.WrittenRows.{last_written}
use Rattle.sat_matrix.proofs.matrix.SatMatrix.push_row_behind.Goals as goal

pub write_behind-requires-clause-row : goal.write_behind-requires-clause-row
write_behind-requires-clause-row c = omega (arith, c.len-row.ensures, ap length c.push_false.ensures.rows, length_push c.args.self.now.rows (replicate c.args.self.now.columns false))

pub write_behind-requires-clause-front : goal.write_behind-requires-clause-front
write_behind-requires-clause-front c = omega (arith, c.push_false.ensures.columns, c.requires.columns)

pub write_behind-requires-clause-none : goal.write_behind-requires-clause-none
write_behind-requires-clause-none c =
    last_row c.args.self.now.rows c.push_false.new.self.rows (replicate c.args.self.now.columns false) c.len-row.result c.push_false.ensures.rows c.len-row.ensures
    ∙ ap (λ (n : ℕ). replicate n false) (sym c.push_false.ensures.columns)

pub write_behind-requires-clause-within : goal.write_behind-requires-clause-within
write_behind-requires-clause-within c = λ j t.
    let other = c.other.inside in
    let below : j < c.args.other.now.columns = true_within other.columns other.words c.args.other.now c.args.i j c.other.invariant c.other.view_is c.requires.row (ap (λ (r : List ℕ). place r j) (sym c.row.ensures.value) ∙ t) in
    omega (arith, below, c.push_false.ensures.columns, c.requires.columns)

pub returns-clause-rows : goal.returns-clause-rows
returns-clause-rows c =
    let old = c.args.self.now in
    let made = c.push_false.new.self in
    let other = c.other.inside in
    let front : List Bool = replicate c.args.front true in
    let s = seen_in other.columns other.words c.args.other.now c.other.view_is in
    let rest : made.columns - c.args.front ≡ other.columns = omega (arith, c.push_false.ensures.columns, c.requires.columns, s.wide) in
    let same : bits_in (made.columns - c.args.front) c.row.result.now ≡ bits_of c.args.other.now.rows c.args.i =
    ap (λ (n : ℕ). bits_in n c.row.result.now) rest ∙ ap (λ (r : List ℕ). bits_in other.columns r) c.row.ensures.value ∙ sym (s.row c.args.i (omega (arith, s.count, c.requires.row))) in
    last_written old.rows made.rows c.write_behind.new.self.rows (replicate old.columns false) (front ++ bits_in (made.columns - c.args.front) c.row.result.now) (front ++ bits_of c.args.other.now.rows c.args.i) c.len-row.result
    c.push_false.ensures.rows c.len-row.ensures (ap (λ (t : Table). t.rows) c.write_behind.ensures) (ap (λ (bits : List Bool). front ++ bits) same)
