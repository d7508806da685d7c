use Rattle.std.specs.Prelude.{◌≡◌, ◌⊎◌, ℕ, ◌+◌, ◌<◌, List, [], ◌∷◌, ◌++◌, length, slice_set, ℤ, pos}
use Rattle.std.proofs.Math.IntN.{◌*ℤ◌}
use Rattle.row_core.specs.Vectors.{cell}
use Rattle.row_core.specs.Range.{InRange, DotStays, CombineStays, IsFirstToLeave, AllStay}
use Rattle.row_core.specs.declared.errors.Overflow.{Overflow}
use Rattle.row_core.specs.declared.errors.OverKind.{OverKind}
use Rattle.row_core.specs.declared.errors.OverKind.TheVariants.{Dot, Scale}
use Rattle.cons_sys.specs.Constraints as cons
use Rattle.cons_sys.specs.Constraints.{Constraint}
use Rattle.gens_sys.specs.Generators as gens
use Rattle.gens_sys.specs.Generators.{Generator}

-- ---- pairs of rows
-- the overflow shows the two rows of a computation outside conversions
pub record ShowsPair (kind : OverKind) (left right : List ℤ) (over : Overflow) : Type 0 where
  pub kind_is : over.kind ≡ kind
  pub step_is : over.step ≡ 0
  pub left_is : over.left ≡ left
  pub right_is : over.right ≡ right

-- the entry times the divisor is in the range; that of the variable isn't formed
abbrev pub EntryStays : ℕ → ℤ → List ℤ → ℕ → Type 0
EntryStays var den v j = InRange (den *ℤ cell (slice_set v var (pos 0)) j)

-- the dot of the expression and the vector leaves the range
pub record ExpressionLeaves (expr v : List ℤ) (over : Overflow) : Type 0 where
  pub shown : ShowsPair Dot expr v over
  pub column : IsFirstToLeave (DotStays expr v) (length expr) over.column

-- the dot doesn't, and the divisor's product with an entry does; the row shown is that of the
-- expression and then the divisor
pub record LeavesInScale (var : ℕ) (expr : List ℤ) (den : ℤ) (v : List ℤ)
    (over : Overflow) : Type 0 where
  pub dot : AllStay (DotStays expr v) (length expr)
  pub shown : ShowsPair Scale v (expr ++ den ∷ []) over
  pub column : IsFirstToLeave (EntryStays var den v) (length v) over.column

abbrev pub LeavesInImage : ℕ → List ℤ → ℤ → List ℤ → Overflow → Type 0
LeavesInImage var expr den v over = ExpressionLeaves expr v over ⊎ LeavesInScale var expr den v over

-- neither does
pub record StaysInImage (var : ℕ) (expr : List ℤ) (den : ℤ) (v : List ℤ) : Type 0 where
  pub dot : AllStay (DotStays expr v) (length expr)
  pub entries : AllStay (EntryStays var den v) (length v)

-- the divisor times the row without the variable, plus the variable's entry times the expression,
-- leaves the range
pub record LeavesInPullback (var : ℕ) (expr : List ℤ) (den : ℤ) (row : List ℤ)
    (over : Overflow) : Type 0 where
  pub shown : ShowsPair Scale row (expr ++ den ∷ []) over
  pub column : IsFirstToLeave (CombineStays (slice_set row var (pos 0)) den expr (cell row var))
      (length row) over.column

-- it doesn't
abbrev pub StaysInPullback : ℕ → List ℤ → ℤ → List ℤ → Type 0
StaysInPullback var expr den row =
    AllStay (CombineStays (slice_set row var (pos 0)) den expr (cell row var)) (length row)

-- the map of a generator leaves the range, and that of none before it
pub record SomeLeavesInImage (var : ℕ) (expr : List ℤ) (den : ℤ) (list : List Generator)
    (over : Overflow) : Type 0 where
  pub index : ℕ
  pub below : index < length list
  pub leaves : LeavesInImage var expr den (gens.row_at list index) over
  pub earlier : (i : ℕ) → i < index → StaysInImage var expr den (gens.row_at list i)

-- that of a constraint does, and that of none before it
pub record SomeLeavesInPullback (var : ℕ) (expr : List ℤ) (den : ℤ) (list : List Constraint)
    (over : Overflow) : Type 0 where
  pub index : ℕ
  pub below : index < length list
  pub leaves : LeavesInPullback var expr den (cons.row_at list index) over
  pub earlier : (i : ℕ) → i < index → StaysInPullback var expr den (cons.row_at list i)
