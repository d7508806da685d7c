-- Whether some generator of a list is a point.
use Rattle.std.proofs.Common.{◌≡◌, inl, inr, List, [], ◌∷◌, refl, arith}
use Rattle.std.specs.Prelude.{◌⊎◌, ◌≢◌}
use Prim.Native.Nat.{suc, zero}
use Rattle.gens_sys.specs.declared.kind.GenKind.TheVariants.{Line, Ray, Point, ClosurePoint}
use Rattle.gens_sys.specs.Generators.{Generator}
use Rattle.poly_pair.specs.FirstLists.{HasPointKind, HasNoPointKind, LacksPoint}

point_further : (g : Generator) (list : List Generator) → g.1 ≢ Point → HasPointKind list ⊎ HasNoPointKind list → HasPointKind (g ∷ list) ⊎ HasNoPointKind (g ∷ list)
point_further g list other (inl h) = inl (record { index = suc h.index; below = omega (arith, h.below); point = h.point })
point_further g list other (inr none) = inr (among g list other none)
  where
    among : (g : Generator) (list : List Generator) → g.1 ≢ Point → HasNoPointKind list → HasNoPointKind (g ∷ list)
    among g list other none zero h = other
    among g list other none (suc i) h = none i (omega (arith, h))

point_or_none : (list : List Generator) → HasPointKind list ⊎ HasNoPointKind list
point_or_none [] = inr (λ i h. absurd (omega (arith, h)))
point_or_none ((v, Line) ∷ list) = point_further (v, Line) list (λ e. cc) (point_or_none list)
point_or_none ((v, Ray) ∷ list) = point_further (v, Ray) list (λ e. cc) (point_or_none list)
point_or_none ((v, Point) ∷ list) = inl (record { index = 0; below = omega arith; point = refl })
point_or_none ((v, ClosurePoint) ∷ list) = point_further (v, ClosurePoint) list (λ e. cc) (point_or_none list)

pub some_point : (list : List Generator) → ¬ (list ≡ []) → ¬ (LacksPoint list) → HasPointKind list
some_point [] some h = absurd (some refl)
some_point (g ∷ list) some h = by_kind (point_or_none (g ∷ list))
  where
    by_kind : HasPointKind (g ∷ list) ⊎ HasNoPointKind (g ∷ list) → HasPointKind (g ∷ list)
    by_kind (inl p) = p
    by_kind (inr none) = absurd (h (record { some = omega arith; none = none }))
