-- What the conversion in another order gives is what that in the list's order gives.
use Rattle.std.specs.Prelude.{◌≡◌, ℕ, ◌<◌, List, length, Bool, true, false, All, Option, Some, None, MatchBool, MatchOption}
use Rattle.std.proofs.Common.{sym, subst, ◌∙◌, arith}
use Rattle.std.proofs.lemmas.List.Elements.{All-from_get_or}
use Rattle.std.proofs.lemmas.Bool.{false≢true}
use Rattle.row_core.specs.Lists.{Row, Rows, vectors}
use Rattle.sat_matrix.specs.ZeroTables.{IsZeroTable}
use Rattle.cone_laws.specs.Cones.{Upto}
use Rattle.cone_laws.specs.Canon.{Canon}
use Rattle.cone_laws.proofs.MemberLemmas.{same_cone}
use Rattle.chernikova.specs.declared.beside.Beside.{Beside}
use Rattle.chernikova.specs.declared.cone.Cone.{Cone}
use Rattle.row_core.specs.MarkedLists.{AreLists}
use Rattle.chernikova.specs.Conversion.{IsState, IsConverted}
use Rattle.chernikova.specs.Orders.{IsPlaced}
use Rattle.chernikova.specs.Beside.{IsBeside, IsDone}
use Rattle.chernikova.proofs.Rankings.{rearranged_canon, rearranged_zeros, rearranged_lists}
use Rattle.chernikova.proofs.Reordered.{reordered_admit, reordered_zeros}

-- a conversion that doesn't run
pub beside_idle : (width : ℕ) (rows : List Row) (beside : Beside) → beside.running ≡ false → IsBeside width rows beside
beside_idle width rows beside e = λ runs. absurd (false≢true (sym e ∙ runs))

pub done_state : (width : ℕ) (rows : List Row) (beside : Beside) → IsDone width rows beside → IsState width beside.rows.rows (length rows) beside.system
done_state width rows beside h =
    let P : ℕ → Type 0 = λ k. IsState width beside.rows.rows k beside.system in
    subst P h.all h.running.state

pub done_places : (width : ℕ) (rows : List Row) (beside : Beside) → IsDone width rows beside → All (λ i. i < beside.system.sat.columns) beside.places.items
done_places width rows beside h =
    let state : IsState width beside.rows.rows (length rows) beside.system = done_state width rows beside h in
    All-from_get_or (λ (i : ℕ). i < beside.system.sat.columns) beside.places.items 0
    (λ i below. omega (arith, h.running.reordered.within i (omega (arith, below, h.running.reordered.as_many_places)), state.zeros.columns))

placed_canon : (width : ℕ) (rows : List Row) (beside : Beside) (cone : Cone) → IsDone width rows beside → IsPlaced beside.system beside.places.items cone → Canon (Upto width rows (length rows)) (vectors cone.lines.rows) (vectors cone.rays.rows)
placed_canon width rows beside cone h p =
    let n : ℕ = length rows in
    let P : Rows → Type 0 = λ lines. Canon (Upto width rows (length rows)) (vectors lines.rows) (vectors cone.rays.rows) in
    let Q : Rows → Type 0 = λ rays. Canon (Upto width rows (length rows)) (vectors p.sorted.lines.rows) (vectors rays.rows) in
    subst P (sym p.lines) (subst Q (sym p.rays)
    ((same_cone width beside.rows.rows n rows n (vectors p.sorted.lines.rows) (vectors p.sorted.rays.rows) (reordered_admit width rows beside.rows.rows beside.places.items h.running.reordered)).1
    (rearranged_canon width beside.rows.rows n beside.system p.sorted (done_state width rows beside h) p.is_sorted)))

placed_lists : (width : ℕ) (rows : List Row) (beside : Beside) (cone : Cone) → IsDone width rows beside → IsPlaced beside.system beside.places.items cone → AreLists width cone.lines cone.rays
placed_lists width rows beside cone h p =
    let P : Rows → Type 0 = λ lines. AreLists width lines cone.rays in
    let Q : Rows → Type 0 = λ rays. AreLists width p.sorted.lines rays in
    subst P (sym p.lines) (subst Q (sym p.rays) (rearranged_lists width beside.rows.rows (length rows) beside.system p.sorted (done_state width rows beside h) p.is_sorted))

placed_zeros : (width : ℕ) (rows : List Row) (beside : Beside) (cone : Cone) → IsDone width rows beside → IsPlaced beside.system beside.places.items cone → IsZeroTable rows (length rows) (vectors cone.rays.rows) cone.sat
placed_zeros width rows beside cone h p =
    let P : Rows → Type 0 = λ rays. IsZeroTable rows (length rows) (vectors rays.rows) cone.sat in
    subst P (sym p.rays)
    (reordered_zeros rows beside.rows.rows beside.places.items (vectors p.sorted.rays.rows) p.sorted.sat cone.sat h.running.reordered
    (rearranged_zeros width beside.rows.rows (length rows) beside.system p.sorted (done_state width rows beside h) p.is_sorted) p.columns p.rows)

pub placed_converted : (width : ℕ) (rows : List Row) (beside : Beside) (cone : Cone) → IsDone width rows beside → IsPlaced beside.system beside.places.items cone → IsConverted width rows cone
placed_converted width rows beside cone h p = record {
  canon = placed_canon width rows beside cone h p;
  lists = placed_lists width rows beside cone h p;
  sat = placed_zeros width rows beside cone h p;
}

-- which of two conversions has all rows
pub first_of : (b : Bool) (A B : Type 0) → b ≡ true → MatchBool b A B → A
first_of b A B e h = let P : Bool → Type 0 = λ x. MatchBool x A B in subst P e h

pub second_of : (b : Bool) (A B : Type 0) → b ≡ false → MatchBool b A B → B
second_of b A B e h = let P : Bool → Type 0 = λ x. MatchBool x A B in subst P e h

-- what holds where there is no number, and where there is one
pub none_of : (o : Option ℕ) (A B : Type 0) → o ≡ None → MatchOption o A (λ n. B) → A
none_of o A B e h = let P : Option ℕ → Type 0 = λ x. MatchOption x A (λ n. B) in subst P e h

pub some_of : (o : Option ℕ) (A B : Type 0) (n : ℕ) → o ≡ Some n → MatchOption o A (λ n. B) → B
some_of o A B n e h = let P : Option ℕ → Type 0 = λ x. MatchOption x A (λ n. B) in subst P e h
