-- Generators, and positive multiples of them, span the same vectors.
use Rattle.std.proofs.Common.{◌≡◌, ℕ, ◌<◌, List, [], ◌∷◌, ◌++◌, ℤ, pos, ◌+ℤ◌, ◌*ℤ◌, refl, ap, sym, ◌∙◌, subst, arith}
use Rattle.std.specs.Prelude.{◌↔◌, ◌<ℤ◌}
use Rattle.std.proofs.lemmas.Int.{ints}
use Rattle.row_core.specs.Vectors.{cell, scale, combined}
use Rattle.row_core.specs.Content.{IsMultipleOf}
use Rattle.row_core.proofs.CellLemmas.{cell-scale, combined-scale}
use Rattle.row_core.proofs.Ring.{ring, mul-positive, mul-zero}
use Rattle.gens_sys.specs.Generators.{Generator, Generators, rows_of}
use Rattle.gens_sys.specs.Kinds.{AllowsFactor}
use Rattle.gens_sys.specs.Spans.{Span}
use Rattle.gens_sys.specs.declared.kind.GenKind.{GenKind}
use Rattle.mapped_systems.proofs.Weights.{Weights, no_weight, one_weight, PointWeight, first_weight, later_weight, weights_of, weights_length, weights_allowed, point_weight, point_factor, allows_times, weights_times, point_times}
use Rattle.soundness.proofs.TextLists.{AreRelated}

-- the vector of the one is a positive multiple of that of the other, and the kinds are the same
pub record IsScaled (written stored : Generator) : Type 0 where
  pub multiple : IsMultipleOf written.0 stored.0
  pub kind : stored.1 ≡ written.1

stored_cell : (v stored : List ℤ) (m : IsMultipleOf v stored) (j : ℕ) → cell v j ≡ pos m.times *ℤ cell stored j
stored_cell v stored m j = ap (λ (w : List ℤ). cell w j) m.same ∙ cell-scale (pos m.times) stored j

positive_times : (n : ℕ) → 0 < n → pos 0 <ℤ pos n
positive_times n h = omega (arith, ints, h)

carried : (t k s x y z : ℤ) → x ≡ t *ℤ s → y ≡ z → (t *ℤ k) *ℤ s +ℤ y ≡ k *ℤ x +ℤ z
carried t k s x y z e f =
    let g = ap (λ (a : ℤ). k *ℤ a) e in
    let h : (t *ℤ k) *ℤ s ≡ k *ℤ (t *ℤ s) = simp ring (omega (arith, ints)) in
    omega (arith, ints, f, g, h)

carried_back : (m t k s x y z u : ℤ) → x ≡ t *ℤ s → y ≡ m *ℤ z → u ≡ t *ℤ y → (m *ℤ k) *ℤ x +ℤ u ≡ (m *ℤ t) *ℤ (k *ℤ s +ℤ z)
carried_back m t k s x y z u e f g =
    let a = ap (λ (b : ℤ). (m *ℤ k) *ℤ b) e in
    let c = ap (λ (b : ℤ). t *ℤ b) f in
    let d : (m *ℤ t) *ℤ (k *ℤ s +ℤ z) ≡ (m *ℤ k) *ℤ (t *ℤ s) +ℤ t *ℤ (m *ℤ z) = simp ring (omega (arith, ints)) in
    omega (arith, ints, g, a, c, d)

-- factors of the stored generators, with the same sum as the written ones have
record Goes (old new : List Generator) (ks : List ℤ) : Type 0 where
  factors : List ℤ
  weights : Weights new factors
  point : PointWeight old ks → PointWeight new factors
  sum : (j : ℕ) → combined factors (rows_of new) j ≡ combined ks (rows_of old) j

went_point : (g d : Generator) (old new : List Generator) (t k : ℤ) (ks factors : List ℤ) → d.1 ≡ g.1 → pos 0 <ℤ t → (PointWeight old ks → PointWeight new factors) → PointWeight (g ∷ old) (k ∷ ks) → PointWeight (d ∷ new) ((t *ℤ k) ∷ factors)
went_point g d old new t k ks factors same q rest (first_weight e p) = first_weight (same ∙ e) (mul-positive t k q p)
went_point g d old new t k ks factors same q rest (later_weight w) = later_weight (rest w)

goes : (old new : List Generator) → AreRelated IsScaled old new → (ks : List ℤ) → Weights old ks → Goes old new ks
goes [] [] a [] w = record { factors = []; weights = no_weight; point = λ p. elim p [ ]; sum = λ j. refl }
goes [] [] a (k ∷ ks) w = elim w [ ]
goes [] (d ∷ new) a ks w = absurd a
goes (g ∷ old) [] a ks w = absurd a
goes (g ∷ old) (d ∷ new) a [] w = elim w [ ]
goes (g ∷ old) (d ∷ new) a (k ∷ ks) (one_weight h w) =
    let r : Goes old new ks = goes old new a.1 ks w in
    let m : IsMultipleOf g.0 d.0 = a.0.multiple in
    let q : pos 0 <ℤ pos m.times = positive_times m.times m.positive in
    record {
      factors = (pos m.times *ℤ k) ∷ r.factors;
      weights = one_weight (allows_times d.1 (pos m.times) k q (subst (λ (c : GenKind). AllowsFactor c k) (sym a.0.kind) h)) r.weights;
      point = went_point g d old new (pos m.times) k ks r.factors a.0.kind q r.point;
      sum = λ j. carried (pos m.times) k (cell d.0 j) (cell g.0 j) (combined r.factors (rows_of new) j) (combined ks (rows_of old) j) (stored_cell g.0 d.0 m j) (r.sum j);
    }

-- factors of the written generators, whose sum is a positive multiple of that of the stored ones
record Comes (old new : List Generator) (ks : List ℤ) : Type 0 where
  times : ℤ
  positive : pos 0 <ℤ times
  factors : List ℤ
  weights : Weights old factors
  point : PointWeight new ks → PointWeight old factors
  sum : (j : ℕ) → combined factors (rows_of old) j ≡ times *ℤ combined ks (rows_of new) j

came_point : (g d : Generator) (old new : List Generator) (m t k : ℤ) (ks factors : List ℤ) → d.1 ≡ g.1 → pos 0 <ℤ m → pos 0 <ℤ t → (PointWeight new ks → PointWeight old factors) → PointWeight (d ∷ new) (k ∷ ks) → PointWeight (g ∷ old) ((m *ℤ k) ∷ scale t factors)
came_point g d old new m t k ks factors same q s rest (first_weight e p) = first_weight (sym same ∙ e) (mul-positive m k q p)
came_point g d old new m t k ks factors same q s rest (later_weight w) = later_weight (point_times old factors t s (rest w))

comes : (old new : List Generator) → AreRelated IsScaled old new → (ks : List ℤ) → Weights new ks → Comes old new ks
comes [] [] a [] w = record { times = pos 1; positive = omega (arith, ints); factors = []; weights = no_weight; point = λ p. elim p [ ]; sum = λ j. sym (mul-zero (pos 1)) }
comes [] [] a (k ∷ ks) w = elim w [ ]
comes [] (d ∷ new) a ks w = absurd a
comes (g ∷ old) [] a ks w = absurd a
comes (g ∷ old) (d ∷ new) a [] w = elim w [ ]
comes (g ∷ old) (d ∷ new) a (k ∷ ks) (one_weight h w) =
    let r : Comes old new ks = comes old new a.1 ks w in
    let m : IsMultipleOf g.0 d.0 = a.0.multiple in
    let t : ℤ = pos m.times in
    let q : pos 0 <ℤ t = positive_times m.times m.positive in
    record {
      times = r.times *ℤ t;
      positive = mul-positive r.times t r.positive q;
      factors = (r.times *ℤ k) ∷ scale t r.factors;
      weights = one_weight (subst (λ (c : GenKind). AllowsFactor c (r.times *ℤ k)) a.0.kind (allows_times d.1 r.times k r.positive h)) (weights_times old r.factors t q r.weights);
      point = came_point g d old new r.times t k ks r.factors a.0.kind r.positive q r.point;
      sum = λ j. carried_back r.times t k (cell d.0 j) (cell g.0 j) (combined r.factors (rows_of old) j) (combined ks (rows_of new) j) (combined (scale t r.factors) (rows_of old) j) (stored_cell g.0 d.0 m j) (r.sum j) (combined-scale t r.factors (rows_of old) j);
    }

times_again : (m t p s y : ℤ) → t *ℤ p ≡ s → y ≡ m *ℤ s → (m *ℤ t) *ℤ p ≡ y
times_again m t p s y e g =
    let a = ap (λ (z : ℤ). m *ℤ z) e in
    let b : (m *ℤ t) *ℤ p ≡ m *ℤ (t *ℤ p) = simp ring (omega (arith, ints)) in
    omega (arith, ints, g, a, b)

module _ (gs ds : Generators) (a : AreRelated IsScaled gs.list ds.list) (v : List ℤ) where
  to_stored : Span gs v → Span ds v
  to_stored s =
      let r : Goes gs.list ds.list s.factors = goes gs.list ds.list a s.factors (weights_of gs.list s.factors s.one_each s.allowed) in
      record {
        times = s.times;
        positive = s.positive;
        factors = r.factors;
        one_each = weights_length ds.list r.factors r.weights;
        allowed = weights_allowed ds.list r.factors r.weights;
        point = point_factor ds.list r.factors (r.point (point_weight gs.list s.factors s.point.index s.one_each s.point.within s.point.kind s.point.positive));
        sum = λ j. s.sum j ∙ sym (r.sum j);
      }

  to_written : Span ds v → Span gs v
  to_written s =
      let r : Comes gs.list ds.list s.factors = comes gs.list ds.list a s.factors (weights_of ds.list s.factors s.one_each s.allowed) in
      record {
        times = r.times *ℤ s.times;
        positive = mul-positive r.times s.times r.positive s.positive;
        factors = r.factors;
        one_each = weights_length gs.list r.factors r.weights;
        allowed = weights_allowed gs.list r.factors r.weights;
        point = point_factor gs.list r.factors (r.point (point_weight ds.list s.factors s.point.index s.one_each s.point.within s.point.kind s.point.positive));
        sum = λ j. times_again r.times s.times (cell v j) (combined s.factors (rows_of ds.list) j) (combined r.factors (rows_of gs.list) j) (s.sum j) (r.sum j);
      }

  pub scaled_span : Span ds v ↔ Span gs v
  scaled_span = (to_written, to_stored)

-- ---- behind others
one_times : (v : List ℤ) → v ≡ scale (pos 1) v
one_times [] = refl
one_times (z ∷ v) = ap (λ (y : ℤ). y ∷ v) (once z) ∙ ap (λ (u : List ℤ). (pos 1 *ℤ z) ∷ u) (one_times v)
  where
    once : (z : ℤ) → z ≡ pos 1 *ℤ z
    once z = omega (arith, ints)

pub behind_own : (own old new : List Generator) → AreRelated IsScaled old new → AreRelated IsScaled (own ++ old) (own ++ new)
behind_own [] old new a = a
behind_own (g ∷ own) old new a = (record { multiple = record { times = 1; positive = omega arith; same = one_times g.0 }; kind = refl }, behind_own own old new a)
