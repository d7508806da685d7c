-- Two systems of one cone have the same lines and the same rays, up to the order of the rays.
use Rattle.std.specs.Prelude.{◌≡◌, ◌≢◌, ℕ, ◌<◌, List, [], ◌∷◌, length, slice_index_or, remove, true, false, ℤ, pos, ◌+ℤ◌, ◌<ℤ◌, ◌≤ℤ◌, ◌⊎◌, Contains, IsPermutation, refl}
use Prim.Native.Nat.{suc, zero}
use Rattle.std.proofs.Math.IntN.{◌*ℤ◌}
use Rattle.std.proofs.Common.{sym, ◌∙◌, ap, subst, inl, inr, arith}
use Rattle.std.proofs.lemmas.Int.{ints}
use Rattle.std.proofs.lemmas.List.{get_or_default}
use Rattle.std.proofs.lemmas.List.Elements.{Contains-get_or, All-nil}
use Rattle.row_core.specs.Vectors.{cell, dot, scale, combined}
use Rattle.row_core.specs.Lists.{Row, vector_at}
use Rattle.cone_laws.specs.Cones.{Meets, Upto, Spans, negated}
use Rattle.cone_laws.specs.Canon.{IsSystem, Canon}
use Rattle.cone_laws.specs.ConeSets.{IsCone}
use Rattle.row_core.specs.Orders.{AreInOrder}
use Rattle.cone_laws.specs.UniqueLaws.{AdmitSame}
use Rattle.row_core.proofs.Ring.{mul-at_least_zero, at_least_zero_of_mul, zero_of_mul, by_sign, same_or_not, mul_comm}
use Rattle.cone_laws.proofs.Primitive.{primitive_same}
use Rattle.cone_laws.proofs.Columns.{cell-scale, value, value_linear, value_both, dot_is, dot-scale}
use Rattle.cone_laws.proofs.Rearranging.{permutation_from_apart, irredundant_apart, canon_from_sorted}
use Rattle.cone_laws.proofs.SortedLists.{IsWithin, sorted_same}
use Rattle.cone_laws.proofs.EchelonForm.{zero_left, zero_right}
use Rattle.cone_laws.proofs.Factors.{combined-none, combined-one, combined-remove, at_least_zero_from_all, at_least_zero_remove, All-remove}
use Rattle.cone_laws.proofs.UniqueLines.{pivot_same, IsFirstFactor, first_factor, AreSpanned, lines_same}
use Rattle.cone_laws.proofs.UniqueRays.{IsMember, sum_member, not_lineal, IsLikeRay, like_ray}

-- all entries are 0, or one isn't
pub other_than_zero : (v : List ℤ) → ((j : ℕ) → cell v j ≡ pos 0) ⊎ ((j : ℕ) × (j < length v) × (cell v j ≢ pos 0))
other_than_zero [] = inl (λ j. refl)
other_than_zero (a ∷ v) = by_first (same_or_not a (pos 0)) (other_than_zero v)
  where
    by_first : (a ≡ pos 0) ⊎ (a ≢ pos 0) → ((j : ℕ) → cell v j ≡ pos 0) ⊎ ((j : ℕ) × (j < length v) × (cell v j ≢ pos 0)) → ((j : ℕ) → cell (a ∷ v) j ≡ pos 0) ⊎ ((j : ℕ) × (j < length (a ∷ v)) × (cell (a ∷ v) j ≢ pos 0))
    by_first (inr ne) rest = inr (zero, omega arith, ne)
    by_first (inl e) (inr (j, h, ne)) = inr (suc j, omega (arith, h), ne)
    by_first (inl e) (inl z) = inl by_index
      where
        by_index : (j : ℕ) → cell (a ∷ v) j ≡ pos 0
        by_index zero = e
        by_index (suc j) = z j

lineal_pivot : (t s c y x l : ℤ) → t *ℤ s ≡ x +ℤ c *ℤ y → s ≡ pos 0 → y ≡ pos 0 → x ≡ l → l ≡ pos 0
lineal_pivot t s c y x l e f g h =
    let a = zero_right t s f in
    let b = zero_right c y g in
    omega (arith, ints, a, b, e, h)

positive_zero : (k l : ℤ) → pos 0 <ℤ l → k *ℤ l ≡ pos 0 → k ≡ pos 0
positive_zero k l p e = zero_of_mul l k p (mul_comm l k ∙ e)

-- ---- two systems with the same lines
module _ (width : ℕ) (C : List ℤ → Type 0) (cone : IsCone width C) (lines rays others : List (List ℤ)) (sys : IsSystem C lines rays) (sys2 : IsSystem C lines others) where
  -- no ray of the second is all 0
  not_zero : (m : ℕ) → m < length others → ¬ ((j : ℕ) → cell (vector_at others m) j ≡ pos 0)
  not_zero m h z = not_lineal width C cone lines others sys2 m h (record {
    times = pos 1;
    positive = omega (arith, ints);
    line_factors = [];
    ray_factors = [];
    at_least_zero = All-nil (λ k. pos 0 ≤ℤ k);
    sum = λ j. zero_right (pos 1) (cell (vector_at others m) j) (z j);
  })

  -- ray m of the second occurs in a sum for ray i of the first
  found_like : (i : ℕ) (h : i < length rays) (m : ℕ) (g : m < length others) (s : Spans lines others (vector_at rays i)) → pos 0 <ℤ cell s.ray_factors m → IsLikeRay width C cone lines rays sys i (vector_at others m)
  found_like i h m g s p =
      like_ray width C cone lines rays sys i h s.times (cell s.ray_factors m) (vector_at others m) rest.vector p (sys2.generates.rays_within m [] g) rest.within
      (λ j. two_parts (s.times *ℤ cell (vector_at rays i) j) (combined s.line_factors lines j) (combined s.ray_factors others j) (cell s.ray_factors m *ℤ cell (vector_at others m) j) (combined (remove s.ray_factors m) (remove others m) j) (cell rest.vector j) (s.sum j) (combined-remove s.ray_factors others m j) (rest.same j))
    where
      rest : IsMember C (λ j. combined s.line_factors lines j +ℤ combined (remove s.ray_factors m) (remove others m) j)
      rest = sum_member width C cone (vector_at rays i) (sys.generates.rays_within i [] h) s.line_factors lines sys.generates.lines_within (remove s.ray_factors m) (remove others m) (at_least_zero_remove s.ray_factors m (at_least_zero_from_all s.ray_factors s.at_least_zero)) (All-remove C others m sys2.generates.rays_within)

      two_parts : (y a b x r z : ℤ) → y ≡ a +ℤ b → b ≡ x +ℤ r → z ≡ a +ℤ r → y ≡ x +ℤ z
      two_parts y a b x r z e f d = omega (arith, ints, e, f, d)

  -- what is a multiple of a ray plus lines is a multiple of it alone, since both are 0 at the pivots
  lines_vanish : (i m : ℕ) → i < length rays → m < length others → (s : IsLikeRay width C cone lines rays sys i (vector_at others m)) → (j : ℕ) → combined s.factors lines j ≡ pos 0
  lines_vanish i m h g s j = combined-none s.factors lines j (λ x l. zero_left (cell s.factors x) (cell (vector_at lines x) j) (factor x l))
    where
      factor : (x : ℕ) → x < length lines → cell s.factors x ≡ pos 0
      factor x l =
          positive_zero (cell s.factors x) (cell (vector_at lines x) p) (sys.echelon.pivots x l).positive
          (lineal_pivot s.times (cell (vector_at others m) p) s.part (cell (vector_at rays i) p) (combined s.factors lines p) (cell s.factors x *ℤ cell (vector_at lines x) p) (s.sum p) other_zero (sys.echelon.rays_zero x i l h) only_one)
        where
          p : ℕ
          p = sys.echelon.pivot x

          other_zero : cell (vector_at others m) (sys.echelon.pivot x) ≡ pos 0
          other_zero = subst (λ (c : ℕ). cell (vector_at others m) c ≡ pos 0) (pivot_same (vector_at lines x) (sys2.echelon.pivot x) (sys.echelon.pivot x) (sys2.echelon.pivots x l) (sys.echelon.pivots x l)) (sys2.echelon.rays_zero x m l g)

          only_one : combined s.factors lines (sys.echelon.pivot x) ≡ cell s.factors x *ℤ cell (vector_at lines x) (sys.echelon.pivot x)
          only_one = combined-one s.factors lines x p (λ y k ne. zero_right (cell s.factors y) (cell (vector_at lines y) p) (sys.echelon.lines_zero x y l k (λ e. ne (sym e))))

  -- such a ray is equal
  like_same : (i m : ℕ) → i < length rays → m < length others → (s : IsLikeRay width C cone lines rays sys i (vector_at others m)) → vector_at others m ≡ vector_at rays i
  like_same i m h g s = by_entry (other_than_zero (vector_at others m))
    where
      w : List ℤ
      w = vector_at others m

      y : List ℤ
      y = vector_at rays i

      multiple : (j : ℕ) → s.times *ℤ cell w j ≡ s.part *ℤ cell y j
      multiple j = omega (arith, ints, s.sum j, lines_vanish i m h g s j)

      by_entry : ((j : ℕ) → cell w j ≡ pos 0) ⊎ ((j : ℕ) × (j < length w) × (cell w j ≢ pos 0)) → w ≡ y
      by_entry (inl z) = absurd (not_zero m g z)
      by_entry (inr (j, l, ne)) = by_part (by_sign s.part)
        where
          no_part : s.part ≡ pos 0 → ⊥
          no_part e = ne (zero_of_mul s.times (cell w j) s.positive (multiple j ∙ zero_left s.part (cell y j) e))

          by_part : (pos 0 <ℤ s.part) ⊎ ((s.part <ℤ pos 0) ⊎ (s.part ≡ pos 0)) → w ≡ y
          by_part (inl p) =
              primitive_same s.times s.part w y s.positive p (cone.wide w (sys2.generates.rays_within m [] g) ∙ sym (cone.wide y (sys.generates.rays_within i [] h)))
              multiple (sys2.primitive_rays m [] g) (sys.primitive_rays i [] h)
          by_part (inr (inl p)) = absurd (omega (arith, ints, p, s.at_least_zero))
          by_part (inr (inr e)) = absurd (no_part e)

  ray_within : (i : ℕ) → i < length rays → Contains others (vector_at rays i)
  ray_within i h = by_factor (first_factor s.ray_factors (length others))
    where
      s : Spans lines others (vector_at rays i)
      s = sys2.generates.spans (vector_at rays i) (sys.generates.rays_within i [] h)

      by_factor : ((m : ℕ) → m < length others → cell s.ray_factors m ≡ pos 0) ⊎ IsFirstFactor s.ray_factors (length others) → Contains others (vector_at rays i)
      by_factor (inl z) = absurd (not_lineal width C cone lines rays sys i h (record {
        times = s.times;
        positive = s.positive;
        line_factors = s.line_factors;
        ray_factors = [];
        at_least_zero = All-nil (λ k. pos 0 ≤ℤ k);
        sum = λ j. s.sum j ∙ ap (λ (x : ℤ). combined s.line_factors lines j +ℤ x) (combined-none s.ray_factors others j (λ m l. zero_left (cell s.ray_factors m) (cell (vector_at others m) j) (z m l)));
      }))
      by_factor (inr f) = subst (λ (u : List ℤ). Contains others u) (like_same i f.index h f.below (found_like i h f.index f.below s above)) (Contains-get_or others f.index [] f.below)
        where
          above : pos 0 <ℤ cell s.ray_factors f.index
          above = positive_from (cell s.ray_factors f.index) (at_least_zero_from_all s.ray_factors s.at_least_zero f.index) f.other
            where
              positive_from : (k : ℤ) → pos 0 ≤ℤ k → k ≢ pos 0 → pos 0 <ℤ k
              positive_from k p ne = by_case (by_sign k)
                where
                  by_case : (pos 0 <ℤ k) ⊎ ((k <ℤ pos 0) ⊎ (k ≡ pos 0)) → pos 0 <ℤ k
                  by_case (inl q) = q
                  by_case (inr (inl q)) = absurd (omega (arith, ints, p, q))
                  by_case (inr (inr e)) = absurd (ne e)

  pub rays_within : IsWithin rays others
  rays_within x (k, l, e) = subst (λ (u : List ℤ). Contains others u) (get_or_default rays k [] x l ∙ e) (ray_within k l)

-- ---- two systems of one cone
-- the lines of a system are in the lineality space of the cone, which the other's lines span
lines_spanned : (C : List ℤ → Type 0) (lines rays other others : List (List ℤ)) → IsSystem C lines rays → IsSystem C other others → AreSpanned other lines
lines_spanned C lines rays other others s t i h = t.lineality (vector_at lines i) (s.generates.lines_within i [] h).0 (s.generates.lines_within i [] h).1

lines_wide : (width : ℕ) (C : List ℤ → Type 0) → IsCone width C → (lines rays : List (List ℤ)) → IsSystem C lines rays → (i : ℕ) → i < length lines → length (vector_at lines i) ≡ width
lines_wide width C cone lines rays s i h = cone.wide (vector_at lines i) (s.generates.lines_within i [] h).0

pub system_lines_same : (width : ℕ) (C : List ℤ → Type 0) → IsCone width C → (lines rays other others : List (List ℤ)) → IsSystem C lines rays → IsSystem C other others → lines ≡ other
system_lines_same width C cone lines rays other others s t =
    lines_same lines rays other others width s.echelon t.echelon (lines_spanned C lines rays other others s t) (lines_spanned C other others lines rays t s)
    (lines_wide width C cone lines rays s) (lines_wide width C cone other others t) s.primitive_lines t.primitive_lines

pub system_rays_within : (width : ℕ) (C : List ℤ → Type 0) → IsCone width C → (lines rays other others : List (List ℤ)) → IsSystem C lines rays → IsSystem C other others → IsWithin rays others
system_rays_within width C cone lines rays other others s t =
    rays_within width C cone lines rays others s (subst (λ (ls : List (List ℤ)). IsSystem C ls others) (sym (system_lines_same width C cone lines rays other others s t)) t)

pub system_unique : (width : ℕ) (C : List ℤ → Type 0) → IsCone width C → (lines rays other others : List (List ℤ)) → IsSystem C lines rays → IsSystem C other others → (lines ≡ other) × IsPermutation rays others
system_unique width C cone lines rays other others s t = (
  system_lines_same width C cone lines rays other others s t,
  permutation_from_apart rays others (irredundant_apart lines rays s.irredundant) (irredundant_apart other others t.irredundant)
      (system_rays_within width C cone lines rays other others s t) (system_rays_within width C cone other others lines rays t s),
)

pub canon_unique : (width : ℕ) (C : List ℤ → Type 0) → IsCone width C → (lines rays other others : List (List ℤ)) → Canon C lines rays → Canon C other others → (lines ≡ other) × (rays ≡ others)
canon_unique width C cone lines rays other others s t = (
  system_lines_same width C cone lines rays other others s.system t.system,
  sorted_same rays others s.sorted t.sorted (system_rays_within width C cone lines rays other others s.system t.system) (system_rays_within width C cone other others lines rays t.system s.system),
)

-- ---- the vectors that the first rows admit are a cone
value_closed : (a u v w : List ℤ) (m s t : ℤ) → ((j : ℕ) → m *ℤ cell w j ≡ s *ℤ cell u j +ℤ t *ℤ cell v j) → m *ℤ dot a w ≡ s *ℤ dot a u +ℤ t *ℤ dot a v
value_closed a u v w m s t e =
    sym (dot-scale a m w) ∙ dot_is a (scale m w)
    ∙ value_both (value a) (value_linear a) (cell (scale m w)) (cell u) (cell v) s t (λ j. cell-scale m w j ∙ e j)
    ∙ ap (λ (z : ℤ). s *ℤ z +ℤ t *ℤ value a (cell v)) (sym (dot_is a u)) ∙ ap (λ (z : ℤ). s *ℤ dot a u +ℤ t *ℤ z) (sym (dot_is a v))

zero_closed : (m s t x y z : ℤ) → pos 0 <ℤ m → m *ℤ z ≡ s *ℤ x +ℤ t *ℤ y → x ≡ pos 0 → y ≡ pos 0 → z ≡ pos 0
zero_closed m s t x y z h e f g =
    let a = zero_right s x f in
    let b = zero_right t y g in
    zero_of_mul m z h (omega (arith, ints, e, a, b))

above_closed : (m s t x y z : ℤ) → pos 0 <ℤ m → pos 0 ≤ℤ s → pos 0 ≤ℤ t → m *ℤ z ≡ s *ℤ x +ℤ t *ℤ y → pos 0 ≤ℤ x → pos 0 ≤ℤ y → pos 0 ≤ℤ z
above_closed m s t x y z h p q e f g =
    let a : pos 0 ≤ℤ (s *ℤ x) = mul-at_least_zero s x p f in
    let b : pos 0 ≤ℤ (t *ℤ y) = mul-at_least_zero t y q g in
    at_least_zero_of_mul m z h (omega (arith, ints, e, a, b))

meets_closed : (row : Row) (u v w : List ℤ) (m s t : ℤ) → pos 0 <ℤ m → pos 0 ≤ℤ s → pos 0 ≤ℤ t → ((j : ℕ) → m *ℤ cell w j ≡ s *ℤ cell u j +ℤ t *ℤ cell v j) → Meets u row → Meets v row → Meets w row
meets_closed (a, true) u v w m s t h p q e f g = zero_closed m s t (dot a u) (dot a v) (dot a w) h (value_closed a u v w m s t e) f g
meets_closed (a, false) u v w m s t h p q e f g = above_closed m s t (dot a u) (dot a v) (dot a w) h p q (value_closed a u v w m s t e) f g

pub upto_cone : (width : ℕ) (rows : List Row) (k : ℕ) → IsCone width (Upto width rows k)
upto_cone width rows k = record {
  wide = λ v c. c.wide;
  closed = λ m s t u v w h p q c d e f. record {
    wide = e;
    meets = λ i row l g. meets_closed (slice_index_or rows i row) u v w m s t h p q f (c.meets i row l g) (d.meets i row l g);
  };
}

-- ---- one set under two descriptions
system_same_set : (C D : List ℤ → Type 0) (lines rays : List (List ℤ)) → ((v : List ℤ) → C v → D v) → ((v : List ℤ) → D v → C v) → IsSystem C lines rays → IsSystem D lines rays
system_same_set C D lines rays f g s = record {
  generates = record {
    lines_within = λ i d h. (f (slice_index_or lines i d) (s.generates.lines_within i d h).0, f (negated (slice_index_or lines i d)) (s.generates.lines_within i d h).1);
    rays_within = λ i d h. f (slice_index_or rays i d) (s.generates.rays_within i d h);
    spans = λ v c. s.generates.spans v (g v c);
  };
  lineality = λ v c n. s.lineality v (g v c) (g (negated v) n);
  echelon = s.echelon;
  primitive_lines = s.primitive_lines;
  primitive_rays = s.primitive_rays;
  irredundant = s.irredundant;
}

pub upto_system_unique : (width : ℕ) (rows : List Row) (k : ℕ) (others : List Row) (n : ℕ) (lines rays other_lines other_rays : List (List ℤ)) → AdmitSame width rows k others n → IsSystem (Upto width rows k) lines rays → IsSystem (Upto width others n) other_lines other_rays → (lines ≡ other_lines) × IsPermutation rays other_rays
upto_system_unique width rows k others n lines rays other_lines other_rays a s t =
    system_unique width (Upto width rows k) (upto_cone width rows k) lines rays other_lines other_rays s
    (system_same_set (Upto width others n) (Upto width rows k) other_lines other_rays a.second a.first t)

pub upto_canon_unique : (width : ℕ) (rows : List Row) (k : ℕ) (others : List Row) (n : ℕ) (lines rays other_lines other_rays : List (List ℤ)) → AdmitSame width rows k others n → Canon (Upto width rows k) lines rays → Canon (Upto width others n) other_lines other_rays → (lines ≡ other_lines) × (rays ≡ other_rays)
upto_canon_unique width rows k others n lines rays other_lines other_rays a s t =
    canon_unique width (Upto width rows k) (upto_cone width rows k) lines rays other_lines other_rays s
    (record { system = system_same_set (Upto width others n) (Upto width rows k) other_lines other_rays a.second a.first t.system; sorted = t.sorted })

pub upto_canon_from_sorted : (width : ℕ) (rows : List Row) (k : ℕ) (lines rays sorted : List (List ℤ)) → IsSystem (Upto width rows k) lines rays → IsPermutation rays sorted → AreInOrder sorted → Canon (Upto width rows k) lines sorted
upto_canon_from_sorted width rows k lines rays sorted s p o = canon_from_sorted width (Upto width rows k) lines rays sorted (upto_cone width rows k) s p o
