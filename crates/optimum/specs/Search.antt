-- The order in which generators are gone through for the best point.
use Rattle.std.specs.Prelude.{◌≡◌, ◌⊎◌, ℕ, ◌<◌, ◌+◌, List, length, ℤ, pos, ◌≤ℤ◌, ◌<ℤ◌, Bool, true, false, Result, Ok, Err, Option, Some, None, ⊤}
use Rattle.std.proofs.Math.IntN.{◌*ℤ◌}
use Rattle.row_core.specs.Vectors.{cell, dot}
use Rattle.row_core.specs.Range.{InRange}
use Rattle.row_core.specs.declared.PairOver.{PairOver}
use Rattle.row_core.specs.declared.OverKind.TheVariants.{Compare}
use Rattle.gens_sys.specs.Generators.{Generator, row_at, kind_at}
use Rattle.gens_sys.specs.declared.kind.GenKind.{GenKind}
use Rattle.gens_sys.specs.declared.kind.GenKind.TheVariants.{Line, Ray, Point, ClosurePoint}
use Rattle.optimum.specs.Values.{RowStays, DotLeaves}
use Rattle.optimum.specs.declared.seeking.Best.{Best}
use Rattle.optimum.specs.declared.seeking.Found.{Found}
use Rattle.optimum.specs.declared.seeking.Visit.{Visit}
use Rattle.optimum.specs.declared.seeking.Found.TheVariants as found
use Rattle.optimum.specs.declared.seeking.Visit.TheVariants as visit

-- x is less good than y: below it for a supremum, above it for an infimum
abbrev pub IsShort : Bool → ℤ → ℤ → Type 0
IsShort true x y = x <ℤ y
IsShort false x y = y <ℤ x

-- x is no better than y
abbrev pub IsAtMost : Bool → ℤ → ℤ → Type 0
IsAtMost true x y = x ≤ℤ y
IsAtMost false x y = y ≤ℤ x

-- a generator of the kind is a point, of the set or of its closure
abbrev pub IsPointKind : GenKind → Type 0
IsPointKind Line = ⊥
IsPointKind Ray = ⊥
IsPointKind Point = ⊤
IsPointKind ClosurePoint = ⊤

-- a generator with which the values have no bound
abbrev pub Improves : Bool → GenKind → ℤ → Type 0
Improves up Line value = ¬ (value ≡ pos 0)
Improves up Ray value = IsShort up (pos 0) value
Improves up Point value = ⊥
Improves up ClosurePoint value = ⊥

-- the fraction of generator i is less good than that of generator b
abbrev pub IsShortOf : Bool → List ℤ → ℕ → List Generator → ℕ → ℕ → Type 0
IsShortOf up row dim list i b = IsShort up (dot row (row_at list i) *ℤ cell (row_at list b) dim)
    (dot row (row_at list b) *ℤ cell (row_at list i) dim)

-- or no better
abbrev pub IsAtMostOf : Bool → List ℤ → ℕ → List Generator → ℕ → ℕ → Type 0
IsAtMostOf up row dim list i b = IsAtMost up (dot row (row_at list i) *ℤ cell (row_at list b) dim)
    (dot row (row_at list b) *ℤ cell (row_at list i) dim)

-- of two points with one value, the kind and number of the first comes before those of the second:
-- a Point before a ClosurePoint, and of one kind the first stored
abbrev pub Goes : GenKind → GenKind → ℕ → ℕ → Type 0
Goes Line kind i b = ⊥
Goes Ray kind i b = ⊥
Goes Point Line i b = ⊥
Goes Point Ray i b = ⊥
Goes Point Point i b = i < b
Goes Point ClosurePoint i b = ⊤
Goes ClosurePoint Line i b = ⊥
Goes ClosurePoint Ray i b = ⊥
Goes ClosurePoint Point i b = ⊥
Goes ClosurePoint ClosurePoint i b = i < b

-- of the first n generators, b is the best point: none is better, and each that would come
-- before it is less good
pub record IsBest (up : Bool) (row : List ℤ) (dim : ℕ) (list : List Generator)
    (n b : ℕ) : Type 0 where
  pub below : b < n
  pub kind : IsPointKind (kind_at list b)
  pub most : (i : ℕ) → i < n → IsPointKind (kind_at list i) → IsAtMostOf up row dim list i b
  pub first : (i : ℕ) → i < n → Goes (kind_at list i) (kind_at list b) i b
      → IsShortOf up row dim list i b

-- both products by which generator i is compared with b are in the range
pub record CompareStays (row : List ℤ) (dim : ℕ) (list : List Generator) (b i : ℕ) : Type 0 where
  pub left : InRange (dot row (row_at list b) *ℤ cell (row_at list i) dim)
  pub right : InRange (dot row (row_at list i) *ℤ cell (row_at list b) dim)

-- generator i gives no answer: its dot stays in the range and leaves a bound, and so do the
-- products by which a point is compared with the best before it
pub record GoesOn (up : Bool) (row : List ℤ) (dim : ℕ) (list : List Generator)
    (i : ℕ) : Type 0 where
  pub stays : RowStays row list i
  pub bounded : ¬ (Improves up (kind_at list i) (dot row (row_at list i)))
  pub compared : IsPointKind (kind_at list i) → (b : ℕ) → IsBest up row dim list i b
      → CompareStays row dim list b i

-- none of the first n generators gives an answer
abbrev pub SeeksTo : Bool → List ℤ → ℕ → List Generator → ℕ → Type 0
SeeksTo up row dim list n = (i : ℕ) → i < n → GoesOn up row dim list i

-- generator i is reached, and the values have no bound with it
pub record IsEndless (up : Bool) (row : List ℤ) (dim : ℕ) (list : List Generator)
    (i : ℕ) : Type 0 where
  pub generator : i < length list
  pub reached : SeeksTo up row dim list i
  pub stays : RowStays row list i
  pub improves : Improves up (kind_at list i) (dot row (row_at list i))

-- the point that is reached can't be compared with the best before it
pub record CompareLeaves (up : Bool) (row : List ℤ) (dim : ℕ) (list : List Generator)
    (over : PairOver) : Type 0 where
  pub kind : over.kind ≡ Compare
  pub stays : RowStays row list over.right
  pub point : IsPointKind (kind_at list over.right)
  pub best : IsBest up row dim list over.right over.left
  pub leaves : ¬ (CompareStays row dim list over.left over.right)
  pub column : over.column ≡ dim

-- the generator that the refusal numbers is reached, and its dot or its comparison leaves the range
pub record SeekLeaves (up : Bool) (row : List ℤ) (dim : ℕ) (list : List Generator)
    (over : PairOver) : Type 0 where
  pub generator : over.right < length list
  pub turned : over.turned ≡ false
  pub reached : SeeksTo up row dim list over.right
  pub cause : DotLeaves row list over ⊎ CompareLeaves up row dim list over

-- no point among the first n generators
abbrev pub NoneYet : List Generator → ℕ → Type 0
NoneYet list n = (i : ℕ) → i < n → ¬ (IsPointKind (kind_at list i))

-- of the first n generators the best point, with its value
pub record IsHeld (up : Bool) (row : List ℤ) (dim : ℕ) (list : List Generator) (n : ℕ)
    (b : Best) : Type 0 where
  pub value : b.value ≡ dot row (row_at list b.index)
  pub range : InRange b.value
  pub best : IsBest up row dim list n b.index

-- what a search keeps of the first n generators
abbrev pub Keeps : Bool → List ℤ → ℕ → List Generator → ℕ → Option Best → Type 0
Keeps up row dim list n None = NoneYet list n
Keeps up row dim list n (Some b) = IsHeld up row dim list n b

-- a new point in place of the best, by the two products
abbrev pub Replaces : Bool → ℤ → ℤ → GenKind → GenKind → Type 0
Replaces up left right new old = IsShort up left right
    ⊎ ((left ≡ right) × (new ≡ Point) × (old ≡ ClosurePoint))

-- what a search answers
abbrev pub SeekAnswer : Bool → List ℤ → ℕ → List Generator → Result Found PairOver → Type 0
SeekAnswer up row dim list (Ok found.Nothing) = NoneYet list (length list)
SeekAnswer up row dim list (Ok found.Endless) = (i : ℕ) × IsEndless up row dim list i
SeekAnswer up row dim list (Ok (found.Point b)) = SeeksTo up row dim list (length list)
    × IsHeld up row dim list (length list) b
SeekAnswer up row dim list (Err over) = SeekLeaves up row dim list over

-- the refusal of a comparison
abbrev pub compare_over : ℕ → ℕ → ℕ → PairOver
compare_over left right column =
    record { kind = Compare; left = left; right = right; column = column; turned = false }

-- point i, which has the value, takes the place of the best
abbrev pub TakesPlace : Bool → ℕ → List Generator → Best → ℕ → ℤ → Type 0
TakesPlace up dim list best i value = Replaces up (best.value *ℤ cell (row_at list i) dim)
    (value *ℤ cell (row_at list best.index) dim) (kind_at list i) (kind_at list best.index)

-- the better of both
pub record Chooses (up : Bool) (dim : ℕ) (list : List Generator) (best : Best) (i : ℕ) (value : ℤ)
    (b : Best) : Type 0 where
  pub left : InRange (best.value *ℤ cell (row_at list i) dim)
  pub right : InRange (value *ℤ cell (row_at list best.index) dim)
  pub choice : (TakesPlace up dim list best i value × (b ≡ record { index = i; value = value }))
      ⊎ (¬ (TakesPlace up dim list best i value) × (b ≡ best))

-- what a comparison with the best answers
abbrev pub CompareAnswer : Bool → ℕ → List Generator → Best → ℕ → ℤ → Result Best PairOver → Type 0
CompareAnswer up dim list best i value (Ok b) = Chooses up dim list best i value b
CompareAnswer up dim list best i value (Err over) = (over ≡ compare_over best.index i dim)
    × ¬ (InRange (best.value *ℤ cell (row_at list i) dim)
    × InRange (value *ℤ cell (row_at list best.index) dim))

-- what a visit of generator i answers
abbrev pub VisitAnswer : Bool → List ℤ → ℕ → List Generator → ℕ → Result Visit PairOver → Type 0
VisitAnswer up row dim list i (Ok visit.Stop) = RowStays row list i
    × Improves up (kind_at list i) (dot row (row_at list i))
VisitAnswer up row dim list i (Ok (visit.Keep best)) = GoesOn up row dim list i
    × Keeps up row dim list (i + 1) best
VisitAnswer up row dim list i (Err over) = (over.right ≡ i) × (over.turned ≡ false)
    × (DotLeaves row list over ⊎ CompareLeaves up row dim list over)
