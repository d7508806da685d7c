-- Files, as they are read and written, and the sets for which they stand.
use Rattle.std.specs.Prelude.{◌≡◌, ◌+◌, ◌<◌, ◌≤◌, ◌++◌, ℕ, List, [], ◌∷◌, length, All, Bool, true, false, IsTrue, pos}
use Rattle.cons_sys.specs.Constraints.{Constraint, In}
use Rattle.gens_sys.specs.Generators.{Generator}
use Rattle.gens_sys.specs.Spans.{Span}
use Rattle.gens_sys.specs.declared.kind.GenKind.TheVariants.{Point}
use Rattle.poly_pair.specs.FirstLists.{LacksPoint}
use Rattle.soundness.specs.Points.{PointSet, IsSetOf}
use Rattle.soundness.specs.TextsExpressions.{at_column}
use Rattle.soundness.specs.Sets.{constraints, generators}
use Rattle.soundness.specs.FileLines.{IsRowOf, IsVectorOf, AreRows, IsTypeOf, IsFile, BeginsSo, file_text}

-- the generators that rows list; the origin is one more where there are some and none is a point
pub data WithOrigin (dim : ℕ) (list : List Generator) : List Generator → Type 0 where
  as_listed : ¬ (LacksPoint list) → WithOrigin dim list list
  with_origin : LacksPoint list →
      WithOrigin dim list (list ++ (at_column dim dim (pos 1), Point) ∷ [])

-- rows of constraints, and the closed set of the points at which they hold
pub record AreIneRows (marked : List ℕ) (dim : ℕ) (rows : List (List (List ℕ)))
    (s : PointSet) : Type 0 where
  pub list : List Constraint
  pub say : AreRows IsRowOf marked 1 rows list
  pub set : IsSetOf false dim (In (constraints dim list)) s

-- rows of generators, and the closed set of the points that they generate
pub record AreExtRows (marked : List ℕ) (dim : ℕ) (rows : List (List (List ℕ)))
    (s : PointSet) : Type 0 where
  pub listed : List Generator
  pub say : AreRows (IsVectorOf dim) marked 1 rows listed
  pub list : List Generator
  pub origin : WithOrigin dim listed list
  pub set : IsSetOf false dim (Span (generators dim list)) s

-- rows of generators, or of constraints
abbrev pub AreRowsOf : Bool → List ℕ → ℕ → List (List (List ℕ)) → PointSet → Type 0
AreRowsOf false marked dim rows s = AreIneRows marked dim rows s
AreRowsOf true marked dim rows s = AreExtRows marked dim rows s

-- the bytes are a file of the set
pub record IsRead (ext : Bool) (bytes : List ℕ) (s : PointSet) : Type 0 where
  pub marked : List ℕ
  pub dim : ℕ
  pub rows : List (List (List ℕ))
  pub file : IsFile ext bytes marked (dim + 1) rows
  pub set : AreRowsOf ext marked dim rows s

-- rows that say the set, which is closed, laid out as a file: each has a number more than there are
-- variables, one of generators begins with 1 or 0, and each mark is the number of a row
pub record TellsFile (ext : Bool) (s : PointSet) (reply : List ℕ) : Type 0 where
  pub marked : List ℕ
  pub type : List ℕ
  pub rows : List (List (List ℕ))
  pub typed : IsTypeOf rows type
  pub wide : All (λ (row : List (List ℕ)). length row ≡ s.cons.dim + 1) rows
  pub begun : IsTrue ext → All BeginsSo rows
  pub marks : All (λ (k : ℕ). (0 < k) × (k ≤ length rows)) marked
  pub said : reply ≡ file_text ext marked (s.cons.dim + 1) type rows
  pub set : AreRowsOf ext marked s.cons.dim rows s
