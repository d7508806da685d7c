use Rattle.std.specs.Prelude.{◌≡◌, Bool, true, false, List, ℤ, pos, ◌≤ℤ◌, ◌<ℤ◌, All, ⊤}
use Rattle.gens_sys.specs.declared.kind.GenKind.{GenKind}
use Rattle.gens_sys.specs.declared.kind.GenKind.TheVariants.{Line, Ray, Point, ClosurePoint}

-- the last entry of a line or a ray is 0, and that of a point of either kind is at least 1; this
-- one isn't so
abbrev pub HasBadDivisor : GenKind → ℤ → Type 0
HasBadDivisor Line divisor = ¬ (divisor ≡ pos 0)
HasBadDivisor Ray divisor = ¬ (divisor ≡ pos 0)
HasBadDivisor Point divisor = divisor <ℤ pos 1
HasBadDivisor ClosurePoint divisor = divisor <ℤ pos 1

-- a line or a ray that is zero in all columns
abbrev pub IsZeroDirection : GenKind → List ℤ → Type 0
IsZeroDirection Line v = All (λ z. z ≡ pos 0) v
IsZeroDirection Ray v = All (λ z. z ≡ pos 0) v
IsZeroDirection Point v = ⊥
IsZeroDirection ClosurePoint v = ⊥

-- what a kind asks of the factor of a generator: none is negative except on lines
abbrev pub AllowsFactor : GenKind → ℤ → Type 0
AllowsFactor Line factor = ⊤
AllowsFactor Ray factor = pos 0 ≤ℤ factor
AllowsFactor Point factor = pos 0 ≤ℤ factor
AllowsFactor ClosurePoint factor = pos 0 ≤ℤ factor

-- whether a generator of the kind is a line
abbrev pub is_line : GenKind → Bool
is_line Line = true
is_line Ray = false
is_line Point = false
is_line ClosurePoint = false

-- whether a generator of the kind is a point of the set
abbrev pub is_point : GenKind → Bool
is_point Point = true
is_point Line = false
is_point Ray = false
is_point ClosurePoint = false
