use Rattle.std.specs.Prelude.{◌≡◌, ◌⊎◌, ℕ, ◌+◌, List, ℤ, Option, None, Result}
use Rattle.row_core.specs.declared.errors.Overflow.{Overflow}
use Rattle.row_core.specs.declared.errors.ConvErr.{ConvErr}
use Rattle.cons_sys.specs.Constraints.{Constraints}
use Rattle.gens_sys.specs.Generators.{Generators}
use Rattle.stored_systems.specs.WorkLists.{LeavesOn}
use Rattle.poly_pair.specs.TopologyLists.{list_width, constraints_of, generators_of}
use Rattle.poly_pair.specs.Polyhedra.{Polyhedron}
use Rattle.poly_pair.specs.Work.{cons_work, gens_work, conv_overflow, overflow_in, IsConversion}
use Rattle.mapped_systems.specs.MappedLists.{IsMappedSystem, IsPulledSystem, IsJoinedSystem}

-- ---- refusals
-- the conversion of the list of the mapped generators, or of its second list, leaves the range
pub record LeavesOnMapped (f : List ℤ → List ℤ) (dim : ℕ) (p : Polyhedron)
    (over : Overflow) : Type 0 where
  pub system : Generators
  pub mapped : IsMappedSystem f dim p.gens system
  pub leaves : LeavesOn (list_width p.topology dim) dim (generators_of p.topology system) over

-- that of the mapped constraints does
pub record LeavesOnPulled (f : List ℤ → List ℤ) (dim : ℕ) (p : Polyhedron)
    (over : Overflow) : Type 0 where
  pub system : Constraints
  pub pulled : IsPulledSystem f dim p.cons system
  pub leaves : LeavesOn (list_width p.topology dim) dim (constraints_of p.topology system) over

-- that of the constraints of both does
pub record LeavesOnJoined (p q : Polyhedron) (over : Overflow) : Type 0 where
  pub system : Constraints
  pub joined : IsJoinedSystem p.cons q.cons system
  pub leaves : LeavesOn (list_width p.topology (p.cons.dim + q.cons.dim)) (p.cons.dim + q.cons.dim)
      (constraints_of p.topology system) over

-- ---- what a call costs and shows
-- the conversion of the list of the mapped generators
pub record IsMappedConversion (f : List ℤ → List ℤ) (dim : ℕ) (p : Polyhedron) (old new : ℕ)
    (over : Option Overflow) : Type 0 where
  pub system : Generators
  pub mapped : IsMappedSystem f dim p.gens system
  pub conversion : IsConversion (gens_work p.topology system) old new over

-- that of the list of the constraints of both
pub record IsJoinedConversion (p q : Polyhedron) (old new : ℕ)
    (over : Option Overflow) : Type 0 where
  pub system : Constraints
  pub joined : IsJoinedSystem p.cons q.cons system
  pub conversion : IsConversion (cons_work p.topology system) old new over

-- a call that converts the list of the mapped generators, or nothing where memory runs out before
-- they are made
abbrev pub ConvertsMapped : (List ℤ → List ℤ) → ℕ → Polyhedron → ℕ → ℕ → Result Polyhedron ConvErr
    → Type 0
ConvertsMapped f dim p old new result =
    ((new ≡ old) × (overflow_in conv_overflow result ≡ None))
    ⊎ IsMappedConversion f dim p old new (overflow_in conv_overflow result)

-- one that converts that of the constraints of both
abbrev pub ConvertsJoined : Polyhedron → Polyhedron → ℕ → ℕ → Result Polyhedron ConvErr → Type 0
ConvertsJoined p q old new result =
    ((new ≡ old) × (overflow_in conv_overflow result ≡ None))
    ⊎ IsJoinedConversion p q old new (overflow_in conv_overflow result)
