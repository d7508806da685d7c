use Rattle.std.specs.Prelude.{◌≡◌, ℕ, ◌+◌, ◌*◌, ◌<◌, None, length, slice_index_or}
use Rattle.std.specs.Int.{w64}
use mir.Val.{SFits, of_z, to_z}
use Rattle.std.proofs.lemmas.Int.{to_z-of_z}
use Rattle.std.proofs.lemmas.Nat.{mul-add-lt}
use Rattle.std.proofs.Common.{arith, ◌∙◌, ap, sym, subst, refl}
use Rattle.difference_bounds.specs.Tables.{Table, bounds_of}
use Rattle.difference_bounds.specs.Words.{IsTold, told}
use Rattle.difference_bounds.proofs.CellLemmas.{kept_told, told_word, told_fraction, cell_here, cell_elsewhere, stored_set}
use Rattle.difference_bounds.proofs.CellPlaces.{other_cell}
use Rattle.difference_bounds.proofs.table.BoundTable.put.Goals as goal

pub invariant_of-self : goal.invariant_of-self
invariant_of-self c =
    let m = c.self.inside.places in
    let ws = c.self.inside.words.items in
    let bs = c.self.inside.fractions.items in
    let at = c.args.i * m + c.args.j in
    let w = to_z w64 (of_z w64 c.args.word) in
    let same : m ≡ c.args.self.now.places = ap (λ (t : Table). t.places) c.self.view_is in
    let li : c.args.i < m = subst (λ (n : ℕ). c.args.i < n) (sym same) c.requires.row in
    let lj : c.args.j < m = subst (λ (n : ℕ). c.args.j < n) (sym same) c.requires.column in
    let within : at < m * m = mul-add-lt c.args.i m c.args.j m li lj in
    let below : at < length ws = omega (arith, within, c.self.invariant.table.full, c.self.invariant.worded.full) in
    let fits : SFits w64 c.args.word = c.ranges.word in
    let tells : IsTold w = subst IsTold (sym (to_z-of_z w64 c.args.word fits)) c.requires.told in
    stored_set ws bs bs at w (told w) below (kept_told w (slice_index_or bs at None) tells) (λ p n. refl) m c.self.invariant (told_word w tells) (told_fraction w tells) c.self.invariant.room

pub returns-clause-here : goal.returns-clause-here
returns-clause-here c =
    let m = c.self.inside.places in
    let ws = c.self.inside.words.items in
    let bs = c.self.inside.fractions.items in
    let at = c.args.i * m + c.args.j in
    let w = to_z w64 (of_z w64 c.args.word) in
    let same : m ≡ c.args.self.now.places = ap (λ (t : Table). t.places) c.self.view_is in
    let li : c.args.i < m = subst (λ (n : ℕ). c.args.i < n) (sym same) c.requires.row in
    let lj : c.args.j < m = subst (λ (n : ℕ). c.args.j < n) (sym same) c.requires.column in
    let within : at < m * m = mul-add-lt c.args.i m c.args.j m li lj in
    let below : at < length ws = omega (arith, within, c.self.invariant.table.full, c.self.invariant.worded.full) in
    let fits : SFits w64 c.args.word = c.ranges.word in
    let tells : IsTold w = subst IsTold (sym (to_z-of_z w64 c.args.word fits)) c.requires.told in
    cell_here ws bs bs at w (told w) below (kept_told w (slice_index_or bs at None) tells) (λ p n. refl) ∙ ap told (to_z-of_z w64 c.args.word fits)

pub returns-clause-elsewhere : goal.returns-clause-elsewhere
returns-clause-elsewhere c = λ p q lp lq n.
    let m = c.self.inside.places in
    let ws = c.self.inside.words.items in
    let bs = c.self.inside.fractions.items in
    let at = c.args.i * m + c.args.j in
    let w = to_z w64 (of_z w64 c.args.word) in
    let same : m ≡ c.args.self.now.places = ap (λ (t : Table). t.places) c.self.view_is in
    let li : c.args.i < m = subst (λ (x : ℕ). c.args.i < x) (sym same) c.requires.row in
    let lj : c.args.j < m = subst (λ (x : ℕ). c.args.j < x) (sym same) c.requires.column in
    let lq' : q < m = subst (λ (x : ℕ). q < x) (sym same) lq in
    let within : at < m * m = mul-add-lt c.args.i m c.args.j m li lj in
    let below : at < length ws = omega (arith, within, c.self.invariant.table.full, c.self.invariant.worded.full) in
    let fits : SFits w64 c.args.word = c.ranges.word in
    let tells : IsTold w = subst IsTold (sym (to_z-of_z w64 c.args.word fits)) c.requires.told in
    cell_elsewhere ws bs bs at w (told w) below (kept_told w (slice_index_or bs at None) tells) (λ r k. refl) (p * m + q) (other_cell m c.args.i c.args.j p q lj lq' n)
    ∙ ap (λ (t : Table). bounds_of t p q) c.self.view_is
