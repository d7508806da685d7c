-- The faults of a step.
use Rattle.std.specs.Prelude.{◌≡◌, ℕ, ◌+◌, ◌<◌, List, [], ◌∷◌, length, ℤ, pos, slice_index_or, Contains, Result, Ok, Err, MatchResult}
use Rattle.std.proofs.Common.{sym, ap, ◌∙◌, subst, arith, inl, inr}
use Rattle.std.proofs.lemmas.List.Elements.{Contains-push_cases}
use Rattle.row_core.specs.Lists.{Row, vectors, vector_at}
use Rattle.row_core.specs.Combinations.{CombinationLeaves}
use Rattle.row_core.proofs.RowListLemmas.{vector_at-vectors, length-vectors}
use Rattle.row_store.specs.declared.fault.CombineFault.{CombineFault}
use Rattle.row_store.specs.declared.fault.Part.{Part}
use Rattle.row_store.specs.declared.fault.Part.TheVariants.{Lines, Rays}
use Rattle.row_store.specs.declared.fault.Place.{Place}
use Rattle.row_store.specs.Changes.{AreLowered, AreOthersLowered, IsGrown}
use Rattle.row_store.specs.Faults.{IsLowerFault, IsOtherFault, IsLineFault, IsPairFault, part_of, part_values}
use Rattle.row_store.proofs.ChangeLemmas.{row_at-grown, others_from_ranges}

-- a fault below the index
pub other_from_below : (u : ℤ) (index : ℕ) (line values : List ℤ) (vs : List (List ℤ)) (fault : CombineFault) → index < length vs → IsLowerFault u index line Lines 0 index values vs fault → IsOtherFault u index line values vs fault
other_from_below u index line values vs fault inside h = (h.0, h.1, (λ e. omega (arith, h.3, e)), omega (arith, h.3), h.4)

-- a fault above the index
other_from_above : (u : ℤ) (index : ℕ) (line values : List ℤ) (vs : List (List ℤ)) (n : ℕ) (fault : CombineFault) → n ≡ length vs → IsLowerFault u index line Lines (index + 1) n values vs fault → IsOtherFault u index line values vs fault
other_from_above u index line values vs n fault end h = (h.0, h.1, (λ e. omega (arith, h.2, e)), omega (arith, h.3), h.4)

-- the vectors above the index, after those below it
pub others_outcome : {A : Type 0} (u : ℤ) (index : ℕ) (line values : List ℤ) (list middle new : List Row) (n : ℕ) (r : Result A CombineFault) → index < length list → n ≡ length list → AreLowered u line values list 0 index [] middle
    → MatchResult r (λ _. AreLowered u line values list (index + 1) n middle new) (IsLowerFault u index line Lines (index + 1) n values (vectors list)) → MatchResult r (λ _. AreOthersLowered u index line values list new) (IsOtherFault u index line values (vectors list))
others_outcome u index line values list middle new n (Ok x) inside end first h =
    others_from_ranges u index line values list middle new inside first (subst (λ (k : ℕ). AreLowered u line values list (index + 1) k middle new) end h)
others_outcome u index line values list middle new n (Err fault) inside end first h = other_from_above u index line values (vectors list) n fault (end ∙ sym (length-vectors list)) h

different_part : ¬ (Rays ≡ Lines)
different_part e = cc

-- the fault of a ray
pub line_fault_from_ray : (index : ℕ) (line_values ray_values : List ℤ) (lines rays : List (List ℤ)) (n : ℕ) (fault : CombineFault) → n ≡ length rays → IsLowerFault (slice_index_or line_values index (pos 0)) index (vector_at lines index) Rays 0 n ray_values rays fault → IsLineFault index line_values ray_values lines rays fault
line_fault_from_ray index line_values ray_values lines rays n fault end h =
    let P : Part → Type 0 = λ p. fault.right.index < length (part_of lines rays p) in
    let Q : Part → Type 0 = λ p. CombinationLeaves (slice_index_or line_values index (pos 0)) (slice_index_or (part_values line_values ray_values p) fault.right.index (pos 0)) (vector_at lines index) (vector_at (part_of lines rays p) fault.right.index) fault.column in
    (h.0, subst P (sym h.1) (omega (arith, h.3)), (λ e. different_part (sym h.1 ∙ ap (λ (p : Place). p.part) (e ∙ h.0))), subst Q (sym h.1) h.4)

pub line_fault_from_line : (index : ℕ) (line_values ray_values : List ℤ) (lines rays : List (List ℤ)) (fault : CombineFault) → IsOtherFault (slice_index_or line_values index (pos 0)) index (vector_at lines index) line_values lines fault → IsLineFault index line_values ray_values lines rays fault
line_fault_from_line index line_values ray_values lines rays fault h =
    let P : Part → Type 0 = λ p. fault.right.index < length (part_of lines rays p) in
    let Q : Part → Type 0 = λ p. CombinationLeaves (slice_index_or line_values index (pos 0)) (slice_index_or (part_values line_values ray_values p) fault.right.index (pos 0)) (vector_at lines index) (vector_at (part_of lines rays p) fault.right.index) fault.column in
    (h.0, subst P (sym h.1) h.3, (λ e. h.2 (ap (λ (p : Place). p.index) (e ∙ h.0))), subst Q (sym h.1) h.4)

-- the fault of one pair of the rays that were there before
pub pair_fault_before : (values : List ℤ) (pairs : List (ℕ × ℕ)) (pair : ℕ × ℕ) (old cur : List Row) (fault : CombineFault) → IsGrown old cur → Contains pairs pair → pair.0 < length old → pair.1 < length old → IsPairFault values (pair ∷ []) (vectors cur) fault → IsPairFault values pairs (vectors old) fault
pair_fault_before values pairs pair old cur fault grown held first second h =
    let here : pair ≡ (fault.left.index, fault.right.index) = elim (Contains-push_cases [] pair (fault.left.index, fault.right.index) h.0) [ inl none ↦ absurd (omega (arith, none.1)) | inr same ↦ same ] in
    let at_left : fault.left.index < length old = omega (arith, first, ap (λ (p : ℕ × ℕ). p.0) here) in
    let at_right : fault.right.index < length old = omega (arith, second, ap (λ (p : ℕ × ℕ). p.1) here) in
    let vector_before : (i : ℕ) → i < length old → vector_at (vectors cur) i ≡ vector_at (vectors old) i = λ i b. vector_at-vectors cur i ∙ row_at-grown old cur i grown b ∙ sym (vector_at-vectors old i) in
    let P : List ℤ → Type 0 = λ v. CombinationLeaves (slice_index_or values fault.left.index (pos 0)) (slice_index_or values fault.right.index (pos 0)) v (vector_at (vectors cur) fault.right.index) fault.column in
    let Q : List ℤ → Type 0 = λ v. CombinationLeaves (slice_index_or values fault.left.index (pos 0)) (slice_index_or values fault.right.index (pos 0)) (vector_at (vectors old) fault.left.index) v fault.column in
    (subst (Contains pairs) here held, h.1, h.2, subst Q (vector_before fault.right.index at_right) (subst P (vector_before fault.left.index at_left) h.3))
