use Rattle.std.specs.Prelude.{◌⊎◌, List, ℤ, All, ◌↔◌}
use Rattle.row_core.specs.Points.{IsPoint}
use Rattle.cons_sys.specs.Constraints.{Constraint, Constraints, In, Satisfies}
use Rattle.gens_sys.specs.Generators.{Generators, FitDimension}
use Rattle.gens_sys.specs.Spans.{Span}
use Rattle.set_laws.specs.Asking.{MeetsOn, IsProper, IsMember, IsTrueOn, HasCounter}

-- a constraint of any kind holds at all points exactly where each generator has what it asks
abbrev pub TrueOnGenerators : Type 0
TrueOnGenerators =
    (gs : Generators) (c : Constraint) → FitDimension gs → IsProper gs →
    IsTrueOn gs c ↔ All (MeetsOn c) gs.list

-- and one of the two can be shown
abbrev pub TrueOrCounter : Type 0
TrueOrCounter =
    (gs : Generators) (c : Constraint) → FitDimension gs → IsProper gs →
    IsTrueOn gs c ⊎ HasCounter gs c

-- each point that the generators span meets the constraints
abbrev pub IsContained : Constraints → Generators → Type 0
IsContained cs gs = (p : List ℤ) → IsMember gs p → In cs p

-- exactly where each constraint has what it asks on each generator
abbrev pub ContainedByPairs : Type 0
ContainedByPairs =
    (cs : Constraints) (gs : Generators) → FitDimension gs → IsProper gs →
    IsContained cs gs ↔ All (λ g. All (λ c. MeetsOn c g) cs.list) gs.list

-- both systems hold the same points
abbrev pub IsPair : Constraints → Generators → Type 0
IsPair cs gs = (p : List ℤ) → IsPoint gs.dim p → In cs p ↔ Span gs p

-- two lists span the same points
abbrev pub SpanSame : Generators → Generators → Type 0
SpanSame gs hs = (p : List ℤ) → IsPoint gs.dim p → Span gs p ↔ Span hs p

-- where both systems hold the same points, a constraint that holds at the points of the one holds
-- at those of the other
abbrev pub TrueWithin : Type 0
TrueWithin =
    (cs : Constraints) (gs : Generators) (c : Constraint) → IsPair cs gs →
    IsTrueOn gs c ↔ ((p : List ℤ) → IsPoint gs.dim p → In cs p → Satisfies p c)

-- a list that spans some vector has a Point
abbrev pub SpansHavePoints : Type 0
SpansHavePoints = (gs : Generators) (p : List ℤ) → Span gs p → IsProper gs
