use Rattle.std.specs.Prelude.{◌≡◌, ◌≢◌, ◌⊎◌, ℕ, ◌+◌, ◌*◌, ◌<◌, ◌≤◌, List, length, map, ℤ, All, Option, Some, None, Result, Ok, Err}
use Rattle.row_core.specs.Lists.{system_rows}
use Rattle.row_core.specs.declared.errors.Memory.{Memory}
use Rattle.cone_laws.specs.Members.{ConeOf}
use Rattle.sat_matrix.specs.Tables.{Table}
use Rattle.minimise.specs.MinimalForms.{IsMinimalForm}
use Rattle.cons_sys.specs.Constraints.{Constraints}
use Rattle.gens_sys.specs.declared.kind.GenKind.TheVariants.{Line}
use Rattle.gens_sys.specs.Generators.{Generator, Generators, kind_at}
use Rattle.stored_systems.specs.PointSets.{AreClosed, AreClosedKinds}
use Rattle.stored_systems.specs.StoredLaws.{TouchesPoint}
use Rattle.stored_systems.specs.WorkLists.{constraint_row, constraint_list, generator_list}
use Rattle.stored_systems.specs.Zeros.{ArePairZeros, kept_inequalities}
use Rattle.poly_pair.specs.FirstLists.{HasPointKind}
use Rattle.affine_maps.specs.FormedPairs.{ConstraintsLeave, GeneratorsLeave}
use Rattle.poly_pair.specs.Work.{ConvertsPair}

-- no generator of the list is a line
abbrev pub HaveNoLine : List Generator → Type 0
HaveNoLine list = (i : ℕ) → i < length list → kind_at list i ≢ Line

-- constraints of a set with a point, equalities first, its generators, lines first, and the table
-- of the zeros of the one on the other: each of the two is a minimal form of what the other admits,
-- the constraints with the row of the divisor or without it
pub record IsMinimalPair (cs : Constraints) (gs : Generators) (table : Table) : Type 0 where
  pub same_dim : gs.dim ≡ cs.dim
  pub closed : AreClosed cs
  pub kinds : AreClosedKinds gs
  pub point : HasPointKind gs.list
  pub lines : List (List ℤ)
  pub rays : List (List ℤ)
  pub gens_are : generator_list gs ≡ system_rows lines rays
  pub vectors : IsMinimalForm (ConeOf (cs.dim + 1) (constraint_list cs)) lines rays
  pub equalities : List (List ℤ)
  pub inequalities : List (List ℤ)
  pub cons_are : map constraint_row cs.list ≡
      system_rows equalities (kept_inequalities cs.dim inequalities)
  pub rows : IsMinimalForm (ConeOf (cs.dim + 1) (generator_list gs)) equalities inequalities
  pub touch : All (TouchesPoint gs) (kept_inequalities cs.dim inequalities)
  pub zeros : ArePairZeros cs gs table

-- ---- what is counted and shown
-- both were brought to reduced echelon form, by at most two combinations for each row and column
pub record IsForming (cs : Constraints) (gs : Generators) (old new : ℕ) : Type 0 where
  pub no_fewer : old ≤ new
  pub counted : new ≤ old + 2 * ((length cs.list + length gs.list) * (cs.dim + 1))

-- a combination of the constraints leaves the range, or one of the generators
abbrev pub LeavesInPair : Constraints → Generators → Type 0
LeavesInPair cs gs = ConstraintsLeave cs ⊎ GeneratorsLeave gs

-- what follows where one does: there is no answer of a set with a line, and of another at most the
-- second list is converted
abbrev pub AfterForming : {T : Type 0} → Constraints → Generators → ℕ → ℕ
    → Result (Option T) Memory → Type 0
AfterForming cs gs old new result = (HaveNoLine gs.list × ConvertsPair cs old new result)
    ⊎ ((¬ (HaveNoLine gs.list)) × ((new ≡ old) × (result ≡ Ok None)))

-- a combination left the range
pub record IsFormedInVain {T : Type 0} (cs : Constraints) (gs : Generators) (old new : ℕ)
    (result : Result (Option T) Memory) : Type 0 where
  pub between : ℕ
  pub forming : IsForming cs gs old between
  pub leaves : LeavesInPair cs gs
  pub after : AfterForming cs gs between new result

-- what a call costs and shows that brings a pair to canonical form
abbrev pub ConvertsForms : {T : Type 0} → Constraints → Generators → ℕ → ℕ
    → Result (Option T) Memory → Type 0
ConvertsForms {T = T} cs gs old new (Ok None) = IsFormedInVain {T = T} cs gs old new (Ok None)
ConvertsForms cs gs old new (Ok (Some x)) =
    IsForming cs gs old new ⊎ IsFormedInVain cs gs old new (Ok (Some x))
ConvertsForms {T = T} cs gs old new (Err e) =
    IsForming cs gs old new ⊎ IsFormedInVain {T = T} cs gs old new (Err e)
