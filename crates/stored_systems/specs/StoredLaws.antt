use Rattle.std.specs.Prelude.{◌≡◌, ℕ, ◌+◌, ◌<◌, ◌↔◌, List, [], length, remove, ℤ, pos}
use Rattle.row_core.specs.Vectors.{dot}
use Rattle.row_core.specs.Points.{IsPoint}
use Rattle.cone_laws.specs.Canon.{Canon}
use Rattle.cons_sys.specs.declared.kind.ConKind.TheVariants.{Ge}
use Rattle.cons_sys.specs.Constraints.{Constraints, In, row_at, kind_at}
use Rattle.gens_sys.specs.declared.kind.GenKind.TheVariants.{Point}
use Rattle.gens_sys.specs.Generators as gens
use Rattle.gens_sys.specs.Generators.{Generators}
use Rattle.gens_sys.specs.Spans.{Span}
use Rattle.cone_laws.specs.Members.{ConeOf}
use Rattle.stored_systems.specs.WorkLists.{generator_list}
use Rattle.stored_systems.specs.PointSets.{AreClosed, AreClosedGens, IsWithin, IsValid, IsInCone, HoldSame}
use Rattle.stored_systems.specs.StoredForms.{stored_constraints, stored_generators, IsStored}

-- a stored system has neither strict constraints nor closure points, and both have its dimension
pub record AreClosedForms (cs : Constraints) (gs : Generators) : Type 0 where
  pub same_dim : gs.dim ≡ cs.dim
  pub cons : AreClosed cs
  pub gens : AreClosedGens gs

abbrev pub StoredIsClosed : Type 0
StoredIsClosed = (cs : Constraints) (gs : Generators) → IsStored cs gs → AreClosedForms cs gs

-- there is no generator exactly where there is no point
abbrev pub StoredIsEmpty : Type 0
StoredIsEmpty = (cs : Constraints) (gs : Generators) → IsStored cs gs → (gs.list ≡ [])
    ↔ ((p : List ℤ) → ¬ (IsWithin cs p))

-- both systems hold the same points
abbrev pub IsPair : Constraints → Generators → Type 0
IsPair cs gs = (p : List ℤ) → IsPoint cs.dim p → In cs p ↔ Span gs p

abbrev pub StoredIsPair : Type 0
StoredIsPair = (cs : Constraints) (gs : Generators) → IsStored cs gs → IsPair cs gs

-- ---- no row to spare
-- leaving out any one constraint lets in another point
abbrev pub AreIrredundantConstraints : Constraints → Type 0
AreIrredundantConstraints cs = (i : ℕ) → i < length cs.list → ¬ ((p : List ℤ) → IsPoint cs.dim p
    → In (record { dim = cs.dim; list = remove cs.list i }) p → In cs p)

-- leaving out any one generator loses a point
abbrev pub AreIrredundantGenerators : Generators → Type 0
AreIrredundantGenerators gs = (i : ℕ) → i < length gs.list → ¬ ((p : List ℤ) → IsPoint gs.dim p
    → Span gs p → Span (record { dim = gs.dim; list = remove gs.list i }) p)

abbrev pub StoredIsIrredundant : Type 0
StoredIsIrredundant = (cs : Constraints) (gs : Generators) → IsStored cs gs
    → AreIrredundantConstraints cs × AreIrredundantGenerators gs

-- ---- canonical systems of the set
-- the canonical systems of a set with a point: of its valid rows, without that of the divisor, and
-- of the vectors on which these are at least 0
pub record IsCanonicalPair (cs : Constraints) (gs : Generators) : Type 0 where
  pub same_dim : gs.dim ≡ cs.dim
  pub equalities : List (List ℤ)
  pub inequalities : List (List ℤ)
  pub rows : Canon (IsValid cs) equalities inequalities
  pub cons_are : cs.list ≡ stored_constraints cs.dim equalities inequalities
  pub lines : List (List ℤ)
  pub rays : List (List ℤ)
  pub vectors : Canon (IsInCone cs) lines rays
  pub gens_are : gs.list ≡ stored_generators cs.dim lines rays

abbrev pub StoredIsCanonical : Type 0
StoredIsCanonical = (cs : Constraints) (gs : Generators) (p : List ℤ) → IsStored cs gs
    → IsWithin cs p → IsCanonicalPair cs gs

-- the rows that are valid on the set are those that its generators admit, be it empty or not
abbrev pub AdmitValidRows : Constraints → Generators → Type 0
AdmitValidRows cs gs = (a : List ℤ) → IsValid cs a ↔ ConeOf (cs.dim + 1) (generator_list gs) a

abbrev pub StoredAdmitsValidRows : Type 0
StoredAdmitsValidRows = (cs : Constraints) (gs : Generators) → IsStored cs gs → AdmitValidRows cs gs

-- ---- points on the boundary
-- the row is 0 at some point of the generators
pub record TouchesPoint (gs : Generators) (a : List ℤ) : Type 0 where
  pub index : ℕ
  pub below : index < length gs.list
  pub point : gens.kind_at gs.list index ≡ Point
  pub zero : dot a (gens.row_at gs.list index) ≡ pos 0

-- each stored inequality of a set with a point is 0 at a stored point
abbrev pub StoredInequalitiesTouch : Type 0
StoredInequalitiesTouch = (cs : Constraints) (gs : Generators) (p : List ℤ) (i : ℕ) → IsStored cs gs
    → IsWithin cs p → i < length cs.list → kind_at cs.list i ≡ Ge
    → TouchesPoint gs (row_at cs.list i)

-- ---- one form of a set
-- both have the same constraints and the same generators
pub record AreSameSystems (cs ds : Constraints) (gs hs : Generators) : Type 0 where
  pub cons : cs ≡ ds
  pub gens : gs ≡ hs

-- two sets of a dimension hold the same points exactly where their stored systems are equal
abbrev pub StoredIsUnique : Type 0
StoredIsUnique = (cs ds : Constraints) (gs hs : Generators) → cs.dim ≡ ds.dim → IsStored cs gs
    → IsStored ds hs → HoldSame cs ds ↔ AreSameSystems cs ds gs hs
