use Rattle.std.specs.Prelude.{◌≡◌, ◌≢◌, ℕ, ◌<◌, List, [], length, ℤ, pos, slice_index_or}
use Rattle.std.proofs.Common.{refl, sym, ap, ◌∙◌, subst, arith, inl, inr}
use Rattle.std.proofs.lemmas.List.{get_or_default}
use Rattle.std.proofs.lemmas.List.Elements.{Contains-get_or}
use Rattle.row_core.specs.Vectors.{dot}
use Rattle.row_core.specs.Lists.{Row, row_at, vector_at}
use Rattle.sat_matrix.specs.Tables.{Table}
use Rattle.cone_laws.specs.Steps.{IsLastCrossing, IsCrossing}
use Rattle.row_core.specs.Pairs.{pair_at, value_at}
use Rattle.cone_laws.specs.Leaves.{IsOther, IsLineCase, IsRayCase}
use Rattle.row_core.specs.Combinations.{CombinationLeaves}
use Rattle.row_store.specs.declared.fault.CombineFault.{CombineFault}
use Rattle.row_store.specs.declared.fault.Part.{Part}
use Rattle.row_store.specs.declared.fault.Part.TheVariants.{Lines, Rays}
use Rattle.row_store.specs.declared.fault.Place.{Place}
use Rattle.sat_matrix.specs.ZeroTables.{IsZeroTable}
use Rattle.row_store.specs.Values.{values_on}
use Rattle.sat_matrix.specs.Pairs.{IsCross, AreAllCrosses}
use Rattle.chernikova.specs.Faults.{IsCombineFault}
use Rattle.row_store.specs.Faults.{part_of, part_values, vector_of, value_of, IsLineFault, IsPairFault}
use Rattle.chernikova.proofs.StateLemmas.{crossing_from}
use Rattle.row_store.proofs.ValueLemmas.{length-values_on, value_at-values_on}

-- what the values tell of the last line that crosses
pub last_from : (a : List ℤ) (lines : List (List ℤ)) (values : List ℤ) (i : ℕ) → values ≡ values_on a lines → (i < length values) × (value_at values i ≢ pos 0) × ((k : ℕ) → i < k → k < length values → value_at values k ≡ pos 0) → IsLastCrossing a lines i
last_from a lines values i e h =
    let size : length values ≡ length lines = ap length e ∙ length-values_on a lines in
    let at : (k : ℕ) → k < length lines → value_at values k ≡ dot a (vector_at lines k) = λ k below. ap (λ vs. value_at vs k) e ∙ value_at-values_on a lines k below in
    let inside : i < length lines = omega (arith, h.0, size) in
    record {
      below = inside;
      crosses = λ z. h.1 (at i inside ∙ z);
      last = λ k more below. sym (at k below) ∙ h.2 k more (omega (arith, size, below));
    }

pub flat_from : (a : List ℤ) (lines : List (List ℤ)) (values : List ℤ) → values ≡ values_on a lines → ((k : ℕ) → k < length values → value_at values k ≡ pos 0) → (i : ℕ) → i < length lines → dot a (vector_at lines i) ≡ pos 0
flat_from a lines values e h i below =
    sym (ap (λ vs. value_at vs i) e ∙ value_at-values_on a lines i below) ∙ h i (omega (arith, ap length e, length-values_on a lines, below))

-- the other vector of a step with a line
other_from : (lines rays : List (List ℤ)) (index : ℕ) (part : Part) (i : ℕ) → i < length (part_of lines rays part) → (let right : Place = record { part = part; index = i } in let left : Place = record { part = Lines; index = index } in right ≢ left) → IsOther lines rays index (vector_at (part_of lines rays part) i)
other_from lines rays index Lines i h ne = inl (i, h, (λ e. ne (ap (λ (m : ℕ). let p : Place = record { part = Lines; index = m } in p) e)), refl)
other_from lines rays index Rays i h ne = inr (Contains-get_or rays i [] h)

value_from : (a : List ℤ) (lines rays : List (List ℤ)) (line_values ray_values : List ℤ) (part : Part) (i : ℕ) → line_values ≡ values_on a lines → ray_values ≡ values_on a rays → i < length (part_of lines rays part) → slice_index_or (part_values line_values ray_values part) i (pos 0) ≡ dot a (vector_at (part_of lines rays part) i)
value_from a lines rays line_values ray_values Lines i el er h = ap (λ vs. value_at vs i) el ∙ value_at-values_on a lines i h
value_from a lines rays line_values ray_values Rays i el er h = ap (λ vs. value_at vs i) er ∙ value_at-values_on a rays i h

pub line_fault_at : (rows : List Row) (k : ℕ) (a : List ℤ) (lines rays : List (List ℤ)) (line_values ray_values : List ℤ) (index : ℕ) (fault : CombineFault) → a ≡ row_at rows k → line_values ≡ values_on a lines → ray_values ≡ values_on a rays → IsLastCrossing a lines index → IsLineFault index line_values ray_values lines rays fault → IsCombineFault rows k lines rays fault
line_fault_at rows k a lines rays line_values ray_values index fault is_a el er crossing h =
    let here : Place = record { part = Lines; index = index } in
    let u : slice_index_or line_values index (pos 0) ≡ dot a (vector_at lines index) = ap (λ vs. value_at vs index) el ∙ value_at-values_on a lines index crossing.below in
    let v : value_of line_values ray_values fault.right ≡ dot a (vector_of lines rays fault.right) = value_from a lines rays line_values ray_values fault.right.part fault.right.index el er h.1 in
    let U : ℤ → Type 0 = λ x. CombinationLeaves x (value_of line_values ray_values fault.right) (vector_at lines index) (vector_of lines rays fault.right) fault.column in
    let W : ℤ → Type 0 = λ y. CombinationLeaves (dot a (vector_at lines index)) y (vector_at lines index) (vector_of lines rays fault.right) fault.column in
    let A : List ℤ → Type 0 = λ b. CombinationLeaves (dot b (vector_at lines index)) (dot b (vector_of lines rays fault.right)) (vector_at lines index) (vector_of lines rays fault.right) fault.column in
    let C : List ℤ → Type 0 = λ b. IsLineCase b lines rays (vector_at lines index) (vector_of lines rays fault.right) in
    let P : Place → Type 0 = λ p. let moved : CombineFault = record { left = p; right = fault.right; column = fault.column } in IsCombineFault rows k lines rays moved in
    let at_line : (fault.right ≢ here) → P here = λ ne. record {
      left_within = crossing.below;
      right_within = h.1;
      needed = inl (subst C is_a (record { index = index; crossing = crossing; left_is = refl; other = other_from lines rays index fault.right.part fault.right.index h.1 ne }));
      leaves = subst A is_a (subst W v (subst U u h.3));
    } in
    subst P (sym h.0) (at_line (λ e. h.2 (e ∙ sym h.0)))

-- the fault of a pair
pub pair_fault_at : (rows : List Row) (k : ℕ) (a : List ℤ) (lines rays : List (List ℤ)) (values : List ℤ) (pairs : List (ℕ × ℕ)) (table : Table) (fault : CombineFault) → a ≡ row_at rows k → values ≡ values_on a rays → ((i : ℕ) → i < length lines → dot a (vector_at lines i) ≡ pos 0) → IsZeroTable rows k rays table → AreAllCrosses values table pairs → IsPairFault values pairs rays fault → IsCombineFault rows k lines rays fault
pair_fault_at rows k a lines rays values pairs table fault is_a ev flat zeros crosses h =
    let p : ℕ = fault.left.index in
    let n : ℕ = fault.right.index in
    let at : pair_at pairs h.0.0 ≡ (p, n) = get_or_default pairs h.0.0 (0, 0) (p, n) h.0.1 ∙ h.0.2 in
    let X : ℕ × ℕ → Type 0 = λ pair. IsCross values table pair.0 pair.1 in
    let Y : List ℤ → Type 0 = λ vs. IsCross vs table p n in
    let crossing : IsCrossing rows k a rays p n = crossing_from rows k a rays table p n zeros (subst Y ev (subst X at (crosses.each h.0.0 h.0.1))) in
    let u : slice_index_or values p (pos 0) ≡ dot a (vector_at rays p) = ap (λ vs. value_at vs p) ev ∙ value_at-values_on a rays p crossing.opposite.first in
    let v : slice_index_or values n (pos 0) ≡ dot a (vector_at rays n) = ap (λ vs. value_at vs n) ev ∙ value_at-values_on a rays n crossing.opposite.second in
    let U : ℤ → Type 0 = λ x. CombinationLeaves x (slice_index_or values n (pos 0)) (vector_at rays p) (vector_at rays n) fault.column in
    let W : ℤ → Type 0 = λ y. CombinationLeaves (dot a (vector_at rays p)) y (vector_at rays p) (vector_at rays n) fault.column in
    let A : List ℤ → Type 0 = λ b. CombinationLeaves (dot b (vector_at rays p)) (dot b (vector_at rays n)) (vector_at rays p) (vector_at rays n) fault.column in
    let C : List ℤ → Type 0 = λ b. IsRayCase rows k b lines rays (vector_at rays p) (vector_at rays n) in
    let first : Place = record { part = Rays; index = fault.left.index } in
    let second : Place = record { part = Rays; index = fault.right.index } in
    let both : CombineFault = record { left = first; right = second; column = fault.column } in
    let base : IsCombineFault rows k lines rays both = record {
      left_within = crossing.opposite.first;
      right_within = crossing.opposite.second;
      needed = inr (subst C is_a (record { flat = flat; first = p; second = n; left_is = refl; right_is = refl; opposite = inl crossing.opposite; adjacent = crossing.adjacent }));
      leaves = subst A is_a (subst W v (subst U u h.3));
    } in
    let P : Part → Type 0 = λ part. let place : Place = record { part = part; index = fault.left.index } in let moved : CombineFault = record { left = place; right = second; column = fault.column } in IsCombineFault rows k lines rays moved in
    let Q : Part → Type 0 = λ part. let place : Place = record { part = part; index = fault.right.index } in let moved : CombineFault = record { left = fault.left; right = place; column = fault.column } in IsCombineFault rows k lines rays moved in
    subst Q (sym h.2) (subst P (sym h.1) base)
