use Rattle.std.specs.Prelude.{◌≡◌, ℕ, ◌+◌, ◌*◌, ◌<◌, List, length, ℤ, pos, None, IfSome, slice_index_or, get_or}
use Rattle.std.specs.Int.{w64}
use mir.Val.{SFits}
use Rattle.std.proofs.lemmas.Int.{to_z-of_z}
use Rattle.std.proofs.lemmas.Nat.{mul-add-lt}
use Rattle.std.proofs.lemmas.List.{get_or_read}
use Rattle.std.proofs.lemmas.List.Elements.{All-get_or}
use Rattle.std.proofs.Common.{arith, rules, ◌∙◌, ap, sym, subst}
use Rattle.difference_bounds.specs.Fractions.{IsFraction}
use Rattle.difference_bounds.specs.Walks.{Bound}
use Rattle.difference_bounds.specs.Tables.{Table, bounds_of}
use Rattle.difference_bounds.specs.Words.{other, kept, cells_of}
use Rattle.difference_bounds.proofs.CellLemmas.{cells_length, cell_is, room_by}
use Rattle.difference_bounds.proofs.WordLemmas.{told_or_other}
use Rattle.difference_bounds.proofs.PlaceWords.{place_fits, row_fits, word_below, word_read}
use Rattle.difference_bounds.proofs.table.BoundTable.get.Goals as goal

pub overflow_mul-index : goal.overflow_mul-index
overflow_mul-index c = row_fits c.self.inside.places c.args.i c.self.invariant.table.few (subst (λ (n : ℕ). c.args.i < n) (sym (ap (λ (t : Table). t.places) c.self.view_is)) c.requires.row)

pub overflow_add-index : goal.overflow_add-index
overflow_add-index c =
    let same : c.args.self.now.places ≡ c.self.inside.places = sym (ap (λ (t : Table). t.places) c.self.view_is) in
    place_fits c.self.inside.places c.args.i c.args.j c.self.invariant.table.few (subst (λ (n : ℕ). c.args.i < n) same c.requires.row) (subst (λ (n : ℕ). c.args.j < n) same c.requires.column)

pub index-requires : goal.index-requires
index-requires c =
    let s = c.self.inside in
    let same : c.args.self.now.places ≡ s.places = sym (ap (λ (t : Table). t.places) c.self.view_is) in
    let below = word_below _ c.args.self.now s.words.items s.fractions.items s.places c.args.i c.args.j c.self.invariant c.self.view_is same (subst (λ (n : ℕ). c.args.i < n) same c.requires.row) (subst (λ (n : ℕ). c.args.j < n) same c.requires.column) in
    omega (arith, below, s.words.ok)

pub bound_at-requires-clause-told : goal.bound_at-requires-clause-told
bound_at-requires-clause-told c =
    let s = c.self.inside in
    let same : c.args.self.now.places ≡ s.places = sym (ap (λ (t : Table). t.places) c.self.view_is) in
    told_or_other (bounds_of c.args.self.now c.args.i c.args.j) _ (word_read _ c.args.self.now s.words.items s.fractions.items s.places c.args.i c.args.j c.self.invariant c.self.view_is same (subst (λ (n : ℕ). c.args.i < n) same c.requires.row) (subst (λ (n : ℕ). c.args.j < n) same c.requires.column) c.index.result.now c.index.ensures)

pub bound_at-requires-clause-cell : goal.bound_at-requires-clause-cell
bound_at-requires-clause-cell c = λ e.
    let m = c.self.inside.places in
    let ws = c.self.inside.words.items in
    let bs = c.self.inside.fractions.items in
    let at = c.args.i * m + c.args.j in
    let same : m ≡ c.args.self.now.places = ap (λ (t : Table). t.places) c.self.view_is in
    let li : c.args.i < m = subst (λ (n : ℕ). c.args.i < n) (sym same) c.requires.row in
    let lj : c.args.j < m = subst (λ (n : ℕ). c.args.j < n) (sym same) c.requires.column in
    let within : at < m * m = mul-add-lt c.args.i m c.args.j m li lj in
    let below : at < length ws = omega (arith, within, c.self.invariant.table.full, c.self.invariant.worded.full) in
    let read : c.index.result.now ≡ get_or ws at (pos 0) = get_or_read ws at c.index.result.now below c.index.ensures (pos 0) in
    let fits : SFits w64 c.index.result.now = search rules in
    let unlike : get_or ws at (pos 0) ≡ other = sym read ∙ (sym (to_z-of_z w64 c.index.result.now fits) ∙ e) in
    let slice : c.deref.result.now ≡ bs = search rules in
    subst (λ (xs : List Bound). at < length xs) (sym slice) (room_by ws bs at c.self.invariant.worded c.self.invariant.room below unlike)

pub returns-clause-value : goal.returns-clause-value
returns-clause-value c =
    let m = c.self.inside.places in
    let ws = c.self.inside.words.items in
    let bs = c.self.inside.fractions.items in
    let at = c.args.i * m + c.args.j in
    let same : m ≡ c.args.self.now.places = ap (λ (t : Table). t.places) c.self.view_is in
    let li : c.args.i < m = subst (λ (n : ℕ). c.args.i < n) (sym same) c.requires.row in
    let lj : c.args.j < m = subst (λ (n : ℕ). c.args.j < n) (sym same) c.requires.column in
    let within : at < m * m = mul-add-lt c.args.i m c.args.j m li lj in
    let below : at < length ws = omega (arith, within, c.self.invariant.table.full, c.self.invariant.worded.full) in
    let read : c.index.result.now ≡ get_or ws at (pos 0) = get_or_read ws at c.index.result.now below c.index.ensures (pos 0) in
    let fits : SFits w64 c.index.result.now = search rules in
    let slice : c.deref.result.now ≡ bs = search rules in
    c.bound_at.ensures
    ∙ (ap (λ (z : ℤ). kept z (slice_index_or c.deref.result.now at None)) (to_z-of_z w64 c.index.result.now fits ∙ read)
    ∙ (ap (λ (xs : List Bound). kept (get_or ws at (pos 0)) (slice_index_or xs at None)) slice
    ∙ (sym (cell_is ws bs at below) ∙ ap (λ (t : Table). bounds_of t c.args.i c.args.j) c.self.view_is)))

pub returns-clause-fraction : goal.returns-clause-fraction
returns-clause-fraction c =
    let m = c.self.inside.places in
    let ws = c.self.inside.words.items in
    let bs = c.self.inside.fractions.items in
    let at = c.args.i * m + c.args.j in
    let same : m ≡ c.args.self.now.places = ap (λ (t : Table). t.places) c.self.view_is in
    let li : c.args.i < m = subst (λ (n : ℕ). c.args.i < n) (sym same) c.requires.row in
    let lj : c.args.j < m = subst (λ (n : ℕ). c.args.j < n) (sym same) c.requires.column in
    let within : at < m * m = mul-add-lt c.args.i m c.args.j m li lj in
    let below : at < length ws = omega (arith, within, c.self.invariant.table.full, c.self.invariant.worded.full) in
    let read : c.index.result.now ≡ get_or ws at (pos 0) = get_or_read ws at c.index.result.now below c.index.ensures (pos 0) in
    let fits : SFits w64 c.index.result.now = search rules in
    let slice : c.deref.result.now ≡ bs = search rules in
    let value : c.bound_at.result ≡ slice_index_or (cells_of ws bs) at None =
    c.bound_at.ensures
    ∙ (ap (λ (z : ℤ). kept z (slice_index_or c.deref.result.now at None)) (to_z-of_z w64 c.index.result.now fits ∙ read)
    ∙ (ap (λ (xs : List Bound). kept (get_or ws at (pos 0)) (slice_index_or xs at None)) slice
    ∙ sym (cell_is ws bs at below))) in
    subst (λ (b : Bound). IfSome b IsFraction) (sym value) (All-get_or (λ (b : Bound). IfSome b IsFraction) (cells_of ws bs) at None (subst (λ (n : ℕ). at < n) (sym (cells_length ws bs)) below) c.self.invariant.table.fractions)
