use Rattle.std.specs.Prelude.{◌≡◌, ◌⊎◌, ℕ, ◌+◌, Option, None, Result, Ok, IsErr}
use Rattle.row_core.specs.declared.errors.Overflow.{Overflow}
use Rattle.row_core.specs.declared.errors.ConvErr.{ConvErr}
use Rattle.row_core.specs.declared.errors.Memory.{Memory}
use Rattle.cons_sys.specs.Constraints.{Constraints}
use Rattle.gens_sys.specs.Generators.{Generators}
use Rattle.poly_pair.specs.Polyhedra.{Polyhedron}
use Rattle.poly_pair.specs.Starts.{CanStart}
use Rattle.poly_pair.specs.Work.{cons_work, gens_work, conv_overflow, overflow_in, IsConversion, ConvertsPair}
use Rattle.mapped_systems.specs.Maps.{with_zeros}
use Rattle.mapped_systems.specs.MappedLists.{IsMappedSystem, IsPulledSystem}
use Rattle.mapped_systems.specs.TriedPairs.{AfterPair}
use Rattle.dimensions.specs.AddedVariables.{AreZeroBehind}

-- ---- the stored pair with more variables
-- the constraints with free variables: at most the second list of the pair is converted, and that
-- of a closed set with a point alone
abbrev pub ConvertsFreePair : Polyhedron → Constraints → ℕ → ℕ → Result (Option Polyhedron) Memory
    → Type 0
ConvertsFreePair p cs old new result = (CanStart p × ConvertsPair cs old new result)
    ⊎ ((¬ (CanStart p)) × ((new ≡ old) × (result ≡ Ok None)))

-- those with variables that are 0, of a closed set with a point
pub record IsZeroPairConversion (count : ℕ) (p : Polyhedron) (old new : ℕ)
    (result : Result (Option Polyhedron) Memory) : Type 0 where
  pub start : CanStart p
  pub system : Constraints
  pub zero : AreZeroBehind count p.cons system
  pub conversion : ConvertsPair system old new result

-- or nothing, of another set or where memory runs out before they are made
abbrev pub ConvertsZeroPair : ℕ → Polyhedron → ℕ → ℕ → Result (Option Polyhedron) Memory → Type 0
ConvertsZeroPair count p old new result = IsZeroPairConversion count p old new result
    ⊎ ((¬ (CanStart p)) × ((new ≡ old) × (result ≡ Ok None)))
    ⊎ ((new ≡ old) × IsErr result)

-- ---- the calls
-- the pair with free variables is tried, and after that the list of the constraints
pub record IsEmbeddingConversion (count : ℕ) (p : Polyhedron) (old new : ℕ)
    (over : Option Overflow) : Type 0 where
  pub system : Constraints
  pub pulled : IsPulledSystem (with_zeros p.cons.dim count) (p.cons.dim + count) p.cons system
  pub pair : Result (Option Polyhedron) Memory
  pub between : ℕ
  pub tried : ConvertsFreePair p system old between pair
  pub after : AfterPair (IsConversion (cons_work p.topology system)) pair between new over

-- the pair with variables that are 0 is tried, and after that the list of the generators
pub record IsProjectionConversion (count : ℕ) (p : Polyhedron) (old new : ℕ)
    (over : Option Overflow) : Type 0 where
  pub system : Generators
  pub mapped : IsMappedSystem (with_zeros p.cons.dim count) (p.cons.dim + count) p.gens system
  pub pair : Result (Option Polyhedron) Memory
  pub between : ℕ
  pub tried : ConvertsZeroPair count p old between pair
  pub after : AfterPair (IsConversion (gens_work p.topology system)) pair between new over

-- a call that converts these, or nothing where memory runs out before they are made
abbrev pub ConvertsEmbedding : ℕ → Polyhedron → ℕ → ℕ → Result Polyhedron ConvErr → Type 0
ConvertsEmbedding count p old new result =
    ((new ≡ old) × (overflow_in conv_overflow result ≡ None))
    ⊎ IsEmbeddingConversion count p old new (overflow_in conv_overflow result)

abbrev pub ConvertsProjection : ℕ → Polyhedron → ℕ → ℕ → Result Polyhedron ConvErr → Type 0
ConvertsProjection count p old new result =
    ((new ≡ old) × (overflow_in conv_overflow result ≡ None))
    ⊎ IsProjectionConversion count p old new (overflow_in conv_overflow result)
