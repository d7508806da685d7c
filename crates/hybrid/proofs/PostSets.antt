-- The successors by a relation, by free variables, a meet and variables left out.
use Rattle.std.proofs.Common.{◌≡◌, ℕ, ◌+◌, ◌*◌, ◌<◌, ◌≤◌, List, length, drop, ℤ, sym, ap, ◌∙◌, subst, arith, All}
use Rattle.std.proofs.lemmas.List.FromFn.{get_or-range_with_len, length-range_with_len}
use Rattle.std.proofs.lemmas.List.Elements.{All-from_get_or}
use Rattle.row_core.specs.Points.{IsPoint, IsSamePoint}
use Rattle.cons_sys.specs.Constraints.{In}
use Rattle.poly_pair.specs.Polyhedra.{Polyhedron}
use Rattle.poly_pair.specs.ClosedPolyhedra.{IsClosedOver}
use Rattle.mapped_systems.specs.Maps.{without, remaining, kept_variables}
use Rattle.dimensions.specs.Results.{IsImage}
use Rattle.mapped_systems.specs.Sources.{HasSource}
use Rattle.mapped_systems.proofs.KeptColumns.{remaining_back, kept_last}
use Rattle.affine_maps.specs.Posts.{IsPost, IsStepTo}
use Rattle.hybrid.specs.Steps.{IsPartIn, IsEmbedded, behind}

-- ---- the first variables
pub behind_below : (n m : ℕ) → n ≤ m → All (λ (i : ℕ). i < m) (behind n)
behind_below n m b = All-from_get_or (λ (i : ℕ). i < m) (behind n) 0 (λ i h. let e = get_or-range_with_len 0 n i 0 (omega (arith, h, length-range_with_len 0 n)) in omega (arith, e, h, b, length-range_with_len 0 n))

-- ---- posts
module _ (set relation embedded pairs : Polyhedron) (c : IsClosedOver set.cons.dim set) (r : IsClosedOver (2 * set.cons.dim) relation) (e : IsEmbedded set embedded) (m : IsPartIn embedded relation pairs) where
  -- n and n more variables
  abbrev n : ℕ
  n = set.cons.dim

  pub pairs_dim : pairs.cons.dim ≡ n + n
  pairs_dim = m.is_meet.over.same_dim ∙ e.over.same_dim

  relation_dim : relation.cons.dim ≡ n + n
  relation_dim = omega (arith, r.over.same_dim)

  kept_dim : length (kept_variables pairs.cons.dim (behind n)) ≡ n
  kept_dim = ap (λ (d : ℕ). length (kept_variables d (behind n))) pairs_dim ∙ ap length (kept_last n n) ∙ length-range_with_len n n

  left_out : (v : List ℤ) → IsPoint pairs.cons.dim v → remaining pairs.cons.dim (behind n) v ≡ drop n v
  left_out v pt = ap (λ (d : ℕ). remaining d (behind n) v) pairs_dim ∙ remaining_back n n v (omega (arith, pt.wide, pairs_dim))

  at_embedded : (v : List ℤ) → IsPoint (n + n) v → IsPoint embedded.cons.dim v
  at_embedded v pt = subst (λ (d : ℕ). IsPoint d v) (sym e.over.same_dim) pt

  module _ (post : Polyhedron) (i : IsImage (remaining pairs.cons.dim (behind n)) (length (kept_variables pairs.cons.dim (behind n))) pairs post) where
    step_of : (y : List ℤ) → HasSource (remaining pairs.cons.dim (behind n)) pairs.cons y → IsStepTo set.cons relation.cons y
    step_of y s =
        let pt : IsPoint (n + n) s.source = subst (λ (d : ℕ). IsPoint d s.source) pairs_dim s.within.point in
        let both = (m.is_meet.points s.source (at_embedded s.source pt)).0 s.within.holds in
        record {
          pair = s.source;
          related = record { point = subst (λ (d : ℕ). IsPoint d s.source) (sym relation_dim) pt; holds = both.1 };
          source = subst (λ (d : ℕ). In set.cons (without n d s.source)) (sym relation_dim) ((e.points s.source pt).0 both.0);
          target = subst (IsSamePoint y) (left_out s.source s.within.point) s.same;
        }

    of_step : (y : List ℤ) → IsStepTo set.cons relation.cons y → HasSource (remaining pairs.cons.dim (behind n)) pairs.cons y
    of_step y s =
        let pt : IsPoint (n + n) s.pair = subst (λ (d : ℕ). IsPoint d s.pair) relation_dim s.related.point in
        let at : IsPoint pairs.cons.dim s.pair = subst (λ (d : ℕ). IsPoint d s.pair) (sym pairs_dim) pt in
        let front : In embedded.cons s.pair = (e.points s.pair pt).1 (subst (λ (d : ℕ). In set.cons (without n d s.pair)) relation_dim s.source) in
        record {
          source = s.pair;
          within = record { point = at; holds = (m.is_meet.points s.pair (at_embedded s.pair pt)).1 (front, s.related.holds) };
          same = subst (IsSamePoint y) (sym (left_out s.pair at)) s.target;
        }

    pub post_of : IsPost set relation post
    post_of = record {
      over = record { same_topology = i.over.same_topology ∙ m.is_meet.over.same_topology ∙ e.over.same_topology ∙ c.over.same_topology; same_dim = i.over.same_dim ∙ kept_dim };
      points = λ y pt. let points = i.points y (subst (λ (d : ℕ). IsPoint d y) (sym kept_dim) pt) in ((λ h. step_of y (points.0 h)), (λ s. points.1 (of_step y s)));
    }
