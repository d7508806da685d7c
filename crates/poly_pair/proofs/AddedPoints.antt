-- Points among the generators of a polyhedron and further ones.
use Rattle.std.proofs.Common.{◌≡◌, List, [], ◌∷◌, ◌++◌, refl, sym, ap, ◌∙◌, subst, arith}
use Rattle.std.specs.Prelude.{◌↔◌}
use Rattle.std.proofs.lemmas.List.{length-append, get_or_append_left}
use Rattle.gens_sys.specs.declared.kind.GenKind.TheVariants.{Line}
use Rattle.gens_sys.specs.Generators.{Generator, Generators}
use Rattle.gens_sys.specs.Spans.{Span}
use Rattle.poly_pair.specs.Polyhedra.{Polyhedron, IsKept, HasNoPoint}
use Rattle.poly_pair.specs.FirstLists.{HasPointKind, LacksPoint}
use Rattle.poly_pair.specs.Additions.{with_generators, AddsNoPoint}
use Rattle.poly_pair.proofs.StoredLemmas.{kept_is_pair, none_kept}
use Rattle.poly_pair.proofs.PointKinds.{some_point}

point_first : (xs ys : List Generator) → HasPointKind xs → HasPointKind (xs ++ ys)
point_first xs ys h = record {
  index = h.index;
  below = omega (arith, h.below, length-append xs ys);
  point = ap (λ (g : Generator). g.1) (get_or_append_left xs ys ([], Line) h.index h.below) ∙ h.point;
}

-- some generator of a polyhedron is a point, where there are any
kept_point : (p : Polyhedron) → IsKept p → ¬ (p.gens.list ≡ []) → HasPointKind p.gens.list
kept_point p k some = some_point p.gens.list some has
  where
    none_within : LacksPoint p.gens.list → HasNoPoint p
    none_within lacks v w =
        let s : Span p.gens v = (kept_is_pair p k v w.point).0 w.holds in
        lacks.none s.point.index s.point.within s.point.kind

    has : ¬ (LacksPoint p.gens.list)
    has lacks = some ((none_kept p k).1 (none_within lacks))

-- so is one of these and further ones
pub has_point : (p : Polyhedron) (more gs : Generators) → IsKept p → gs ≡ with_generators p more → ¬ (p.gens.list ≡ []) → HasPointKind gs.list
has_point p more gs k e some = subst (λ (x : Generators). HasPointKind x.list) (sym e) (point_first p.gens.list more.list (kept_point p k some))

-- these and further ones lack a point exactly where there are none and the further ones lack one
lacks_later : (xs ys : List Generator) → (¬ (xs ≡ []) → HasPointKind xs) → LacksPoint (xs ++ ys) → (xs ≡ []) × LacksPoint ys
lacks_later [] ys has l = (refl, l)
lacks_later (x ∷ xs) ys has l =
    let h = point_first (x ∷ xs) ys (has (λ e. let never : x ∷ xs ≡ [] = e in cc)) in
    absurd (l.none h.index h.below h.point)

pub lacks_added : (p : Polyhedron) (more : Generators) → IsKept p → LacksPoint (with_generators p more).list ↔ AddsNoPoint p more
lacks_added p more k = (
  (λ l. let parts = lacks_later p.gens.list more.list (kept_point p k) l in record { empty = parts.0; lacks = parts.1 }),
  (λ a. subst (λ (xs : List Generator). LacksPoint (xs ++ more.list)) (sym a.empty) a.lacks),
)
