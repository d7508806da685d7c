-- Variables that were added, taken away again.
use Rattle.std.proofs.Common.{◌≡◌, ℕ, ◌+◌, List, length, ℤ, pos, ◌<ℤ◌, refl, sym, ap, ◌∙◌, subst, arith}
use Rattle.std.specs.List.{range_with_len}
use Rattle.std.proofs.lemmas.List.FromFn.{length-range_with_len}
use Rattle.row_core.specs.Points.{IsPoint, IsSamePoint}
use Rattle.cons_sys.specs.Constraints.{In}
use Rattle.cons_sys.proofs.SystemLemmas.{In-same_point}
use Rattle.stored_systems.specs.PointSets.{IsWithin}
use Rattle.poly_pair.specs.Polyhedra.{Polyhedron}
use Rattle.mapped_systems.specs.Maps.{with_zeros, without, remaining, kept_variables}
use Rattle.mapped_systems.specs.Sources.{HasSource}
use Rattle.mapped_systems.proofs.ColumnLemmas.{without-with_zeros, length-with_zeros, cell-behind, cell-within}
use Rattle.mapped_systems.proofs.KeptColumns.{kept_first, remaining_front}
use Rattle.mapped_systems.proofs.SamePoints.{same_points, same_itself}
use Rattle.dimensions.specs.Results.{IsImage}
use Rattle.dimensions.specs.Laws.{IsWithout, EmbeddingIsUndone, ProjectionIsUndone}

-- ---- sets
-- the image under the map that leaves the variables out, of a set whose points are those that the map takes into p
module _ (p q r : Polyhedron) (n k : ℕ) (same_dim : q.cons.dim ≡ n + k) (dim_is : p.cons.dim ≡ n) (without_added : IsWithout (range_with_len n k) q r) where
  at_sum : IsImage (remaining (n + k) (range_with_len n k)) (length (kept_variables (n + k) (range_with_len n k))) q r
  at_sum = subst (λ (d : ℕ). IsImage (remaining d (range_with_len n k)) (length (kept_variables d (range_with_len n k))) q r) same_dim without_added

  new_dim : length (kept_variables (n + k) (range_with_len n k)) ≡ n
  new_dim = ap length (kept_first n k) ∙ length-range_with_len 0 n

  source_front : (v : List ℤ) → IsPoint n v → In r.cons v → HasSource (remaining (n + k) (range_with_len n k)) q.cons v
  source_front v pt h = (at_sum.points v (subst (λ (d : ℕ). IsPoint d v) (sym new_dim) pt)).0 h

  pub front_in : (v : List ℤ) → IsPoint n v → ((x : List ℤ) → IsWithin q.cons x → In p.cons (without n (n + k) x)) → In r.cons v → In p.cons v
  front_in v pt into h =
      let s : HasSource (remaining (n + k) (range_with_len n k)) q.cons v = source_front v pt h in
      let w : length s.source ≡ (n + k) + 1 = s.within.point.wide ∙ ap (λ (d : ℕ). d + 1) same_dim in
      In-same_point p.cons (without n (n + k) s.source) v (same_points v (without n (n + k) s.source) (subst (IsSamePoint v) (remaining_front n k s.source w) s.same)) (into s.source s.within)

  pub in_front : (v x : List ℤ) → IsPoint n v → IsWithin q.cons x → IsSamePoint v (without n (n + k) x) → In r.cons v
  in_front v x pt within s =
      let w : length x ≡ (n + k) + 1 = within.point.wide ∙ ap (λ (d : ℕ). d + 1) same_dim in
      (at_sum.points v (subst (λ (d : ℕ). IsPoint d v) (sym new_dim) pt)).1 (record { source = x; within = within; same = subst (IsSamePoint v) (sym (remaining_front n k x w)) s })

-- a point with zeros behind its variables
padded_point : (n k : ℕ) (v : List ℤ) → IsPoint n v → IsPoint (n + k) (with_zeros n k v)
padded_point n k v pt = record { wide = length-with_zeros n k v ∙ omega (arith, pt.wide); positive = subst (λ (z : ℤ). pos 0 <ℤ z) (sym (cell-behind n k v n (omega (arith, pt.wide)) (omega arith))) pt.positive }

pub embedding_undone : EmbeddingIsUndone
embedding_undone count p q r i w v pt = (
  (λ h. in_front p q r p.cons.dim count i.over.same_dim refl w v (with_zeros p.cons.dim count v) pt
      (record { point = subst (λ (d : ℕ). IsPoint d (with_zeros p.cons.dim count v)) (sym i.over.same_dim) (padded_point p.cons.dim count v pt); holds = (i.points (with_zeros p.cons.dim count v) (padded_point p.cons.dim count v pt)).1 (subst (In p.cons) (sym back) h) })
      (subst (IsSamePoint v) (sym back) (same_itself v))),
  (λ h. front_in p q r p.cons.dim count i.over.same_dim refl w v pt (λ x within. (i.points x (subst (λ (d : ℕ). IsPoint d x) i.over.same_dim within.point)).0 within.holds) h),
)
  where
    back : without p.cons.dim (p.cons.dim + count) (with_zeros p.cons.dim count v) ≡ v
    back = without-with_zeros p.cons.dim count v (omega (arith, pt.wide))

pub projection_undone : ProjectionIsUndone
projection_undone count p q r i w v pt = (
  (λ h. in_front p q r p.cons.dim count i.over.same_dim refl w v (with_zeros p.cons.dim count v) pt
      (record { point = subst (λ (d : ℕ). IsPoint d (with_zeros p.cons.dim count v)) (sym i.over.same_dim) (padded_point p.cons.dim count v pt); holds = (i.points (with_zeros p.cons.dim count v) (padded_point p.cons.dim count v pt)).1 (record { zero = λ j l g. cell-within p.cons.dim count v j (omega (arith, pt.wide)) l g; within = subst (In p.cons) (sym back) h }) })
      (subst (IsSamePoint v) (sym back) (same_itself v))),
  (λ h. front_in p q r p.cons.dim count i.over.same_dim refl w v pt (λ x within. ((i.points x (subst (λ (d : ℕ). IsPoint d x) i.over.same_dim within.point)).0 within.holds).within) h),
)
  where
    back : without p.cons.dim (p.cons.dim + count) (with_zeros p.cons.dim count v) ≡ v
    back = without-with_zeros p.cons.dim count v (omega (arith, pt.wide))
