-- Vectors of a set over sums without column e.
use Rattle.std.proofs.Common.{◌≡◌, ◌⊎◌, inl, inr, ℕ, suc, ◌+◌, ◌<◌, List, [], length, slice_index_or, replicate, ℤ, pos, false, ◌+ℤ◌, ◌*ℤ◌, ◌≤ℤ◌, ◌<ℤ◌, sym, ap, ◌∙◌, subst, arith}
use Rattle.std.proofs.lemmas.Int.{ints}
use Rattle.row_core.specs.Vectors.{cell}
use Rattle.row_core.specs.Lists.{Row}
use Rattle.cone_laws.specs.Cones.{Upto, negated}
use Rattle.cone_laws.specs.Canon.{vector_at, IsSystem}
use Rattle.cone_laws.proofs.Ring.{ring, by_sign, mul-positive, mul-zero}
use Rattle.cone_laws.proofs.Sums.{V, IsMore, Same, Among, Sums, none, line, ray, SpansBy, spans_sums, spans_of_multiple}
use Rattle.cone_laws.proofs.Columns.{dot_comm}
use Rattle.cone_laws.proofs.Bridge.{columns, In, in_at}
use Rattle.cone_laws.proofs.Instance.{Beside, needed_by_columns}
use Rattle.cone_laws.proofs.UptoRows.{upto_zero, upto_sum, upto_beside, both_zero}
use Rattle.cone_laws.proofs.Existence.{both, length-both}
use Rattle.nnc_enc.specs.Encoding.{lowered}
use Rattle.nnc_enc.proofs.EncodedRows.{dot_zeros, length_replicate}
use Rattle.nnc_enc.proofs.ClosedRows.{sum_lowered}
use Rattle.nnc_enc.proofs.Relaxed.{cell-remove, column_cases, no_factor, positive_least, relaxed, relaxed_lines, replicate_entry, same_height, skip, sum_entry, sum_is}

module _ (dim : ℕ) (gens : List Row) (lines rays : List (List ℤ)) (wide : (j : ℕ) → j < length gens → length (slice_index_or gens j ([], false)).0 ≡ dim + 2) (system : IsSystem (Upto (dim + 2) gens (length gens)) lines rays) where
  abbrev D : List ℤ → Type 0
  D = Upto (dim + 2) gens (length gens)

  -- a vector of the set over a vector without column e, with a property
  pub record IsOver (P : List ℤ → Type 0) (u : V) : Type 0 where
    pub vector : List ℤ
    pub member : D vector
    pub same : Same u (cell (lowered dim vector))
    pub has : P vector

  -- a vector of the set over a numbered one
  pub record IsLift (n : ℕ) : Type 0 where
    pub vector : List ℤ
    pub member : D vector
    pub same : Same (relaxed dim rays n) (cell (lowered dim vector))

  pub over_member : (k : ℤ) (a b : List ℤ) → pos 0 ≤ℤ k → D a → D b → D (both (pos 1) b k a)
  over_member k a b p d e = upto_sum (dim + 2) gens (length gens) (both (pos 1) b k a) (pos 1) b k a (sum_is b k a) (length-both (pos 1) b k a (e.wide ∙ sym d.wide) ∙ d.wide) (omega (arith, ints)) p e d

  line_member : (i : ℕ) → i < length lines → (k : ℤ) (b : List ℤ) → D b → D (both (pos 1) b k (vector_at lines i))
  line_member i h k b e =
      upto_beside (dim + 2) gens (length gens) (both (pos 1) b k (vector_at lines i)) (pos 1) b k (vector_at lines i) (sum_is b k (vector_at lines i))
      (length-both (pos 1) b k (vector_at lines i) (e.wide ∙ sym c.0.wide) ∙ c.0.wide) (omega (arith, ints)) e (both_zero (dim + 2) gens (length gens) (vector_at lines i) c.0 c.1)
    where
      c : D (vector_at lines i) × D (negated (vector_at lines i))
      c = system.generates.lines_within i [] h

  zeros_member : D (replicate (dim + 2) (pos 0))
  zeros_member = upto_zero (dim + 2) gens (length gens) (replicate (dim + 2) (pos 0)) (length_replicate (dim + 2)) (λ m d l. dot_comm (slice_index_or gens m d).0 (replicate (dim + 2) (pos 0)) ∙ dot_zeros (dim + 2) (slice_index_or gens m d).0)

  -- ---- a property that sums keep
  module _ (A : ℕ → Type 0) (P : List ℤ → Type 0) (nothing : P (replicate (dim + 2) (pos 0))) (with_line : (i : ℕ) → i < length lines → (k : ℤ) (b : List ℤ) → P b → P (both (pos 1) b k (vector_at lines i))) (lift : (n : ℕ) → A n → IsLift n) (with_lift : (n : ℕ) (m : A n) (k : ℤ) (b : List ℤ) → pos 0 <ℤ k → P b → P (both (pos 1) b k (lift n m).vector)) where
    over_line : (v : V) (k : ℤ) (l u : V) → relaxed_lines dim lines l → IsOver P u → IsMore v k l u → IsOver P v
    over_line v k l u m b h = record {
      vector = both (pos 1) b.vector k (vector_at lines m.index);
      member = line_member m.index m.is k b.vector b.member;
      same = sum_lowered dim gens lines rays wide system v k l u (vector_at lines m.index) b.vector h m.same b.same;
      has = with_line m.index m.is k b.vector b.has;
    }

    over_lift : (v : V) (k : ℤ) (l u : V) → pos 0 <ℤ k → (n : ℕ) (m : A n) → Same l (relaxed dim rays n) → IsOver P u → IsMore v k l u → IsOver P v
    over_lift v k l u p n m e b h = record {
      vector = both (pos 1) b.vector k (lift n m).vector;
      member = over_member k (lift n m).vector b.vector (positive_least k p) (lift n m).member b.member;
      same = sum_lowered dim gens lines rays wide system v k l u (lift n m).vector b.vector h (λ j. e j ∙ (lift n m).same j) b.same;
      has = with_lift n m k b.vector p b.has;
    }

    over_ray : (v : V) (k : ℤ) (l u : V) → pos 0 ≤ℤ k → Among (relaxed dim rays) A l → IsOver P u → IsMore v k l u → (pos 0 <ℤ k) ⊎ ((k <ℤ pos 0) ⊎ (k ≡ pos 0)) → IsOver P v
    over_ray v k l u q m b h (inl p) = over_lift v k l u p m.index m.is m.same b h
    over_ray v k l u q m b h (inr (inl p)) = absurd (omega (arith, ints, p, q))
    over_ray v k l u q m b h (inr (inr p)) = record { vector = b.vector; member = b.member; same = λ j. no_factor (v j) k (l j) (u j) (h j) p ∙ b.same j; has = b.has }

    pub over_of : (v : V) → Sums (relaxed_lines dim lines) (Among (relaxed dim rays) A) v → IsOver P v
    over_of v (none h) = record { vector = replicate (dim + 2) (pos 0); member = zeros_member; same = λ j. h j ∙ sym (cell-remove dim (replicate (dim + 2) (pos 0)) j ∙ replicate_entry (dim + 2) (skip dim j)); has = nothing }
    over_of v (line k l u m s h) = over_line v k l u m (over_of u s) h
    over_of v (ray k r u p m s h) = over_ray v k r u p m (over_of u s) h (by_sign k)

  -- ---- sums that are above 0 in column e, or 0 there and spanned by the lines and the other vectors of the system
  turned_sum : (s x k y z : ℤ) → x ≡ k *ℤ y +ℤ z → s *ℤ x ≡ k *ℤ (s *ℤ y) +ℤ s *ℤ z
  turned_sum s x k y z e = ap (λ (n : ℤ). s *ℤ n) e ∙ simp ring (omega (arith, ints))

  sum_above : (x k y z : ℤ) → x ≡ k *ℤ y +ℤ z → pos 0 <ℤ k → pos 0 <ℤ y → pos 0 ≤ℤ z → pos 0 <ℤ x
  sum_above x k y z e p q r = let t = mul-positive k y p q in omega (arith, ints, e, t, r)

  module _ (s : ℤ) (i : ℕ) (line_level : (m : ℕ) → m < length lines → cell (vector_at lines m) dim ≡ pos 0) (A : ℕ → Type 0) (lift : (n : ℕ) → A n → IsLift n) (side : (n : ℕ) (m : A n) → (pos 0 <ℤ (s *ℤ cell (lift n m).vector dim)) ⊎ ((cell (lift n m).vector dim ≡ pos 0) × Beside rays i (cell (lift n m).vector))) where
    -- the sign s turns column e
    abbrev IsHigh : List ℤ → Type 0
    IsHigh w = (pos 0 <ℤ (s *ℤ cell w dim)) ⊎ ((cell w dim ≡ pos 0) × Sums (In lines) (Beside rays i) (cell w))

    high_zeros : IsHigh (replicate (dim + 2) (pos 0))
    high_zeros = inr (replicate_entry (dim + 2) dim, none (replicate_entry (dim + 2)))

    high_line : (m : ℕ) → m < length lines → (k : ℤ) (b : List ℤ) → IsHigh b → IsHigh (both (pos 1) b k (vector_at lines m))
    high_line m h k b g = by_height g
      where
        entry : cell (both (pos 1) b k (vector_at lines m)) dim ≡ cell b dim
        entry = same_height (cell (both (pos 1) b k (vector_at lines m)) dim) k (cell (vector_at lines m) dim) (cell b dim) (sum_entry b k (vector_at lines m) dim) (line_level m h)

        by_height : (pos 0 <ℤ (s *ℤ cell b dim)) ⊎ ((cell b dim ≡ pos 0) × Sums (In lines) (Beside rays i) (cell b)) → IsHigh (both (pos 1) b k (vector_at lines m))
        by_height (inl p) = inl (subst (λ (z : ℤ). pos 0 <ℤ (s *ℤ z)) (sym entry) p)
        by_height (inr (z, t)) = inr (entry ∙ z, line k (cell (vector_at lines m)) (cell b) (in_at lines m h) t (sum_entry b k (vector_at lines m)))

    high_least : (b : List ℤ) → IsHigh b → pos 0 ≤ℤ (s *ℤ cell b dim)
    high_least b (inl p) = positive_least (s *ℤ cell b dim) p
    high_least b (inr (z, t)) = at_zero (s *ℤ cell b dim) (ap (λ (n : ℤ). s *ℤ n) z ∙ mul-zero s)
      where
        at_zero : (x : ℤ) → x ≡ pos 0 → pos 0 ≤ℤ x
        at_zero x e = omega (arith, ints, e)

    high_lift : (n : ℕ) (m : A n) (k : ℤ) (b : List ℤ) → pos 0 <ℤ k → IsHigh b → IsHigh (both (pos 1) b k (lift n m).vector)
    high_lift n m k b p g = by_side (side n m) g
      where
        a : List ℤ
        a = (lift n m).vector

        by_side : (pos 0 <ℤ (s *ℤ cell (lift n m).vector dim)) ⊎ ((cell (lift n m).vector dim ≡ pos 0) × Beside rays i (cell (lift n m).vector)) → IsHigh b → IsHigh (both (pos 1) b k (lift n m).vector)
        by_side (inl q) f =
            inl (sum_above (s *ℤ cell (both (pos 1) b k (lift n m).vector) dim) k (s *ℤ cell (lift n m).vector dim) (s *ℤ cell b dim)
            (turned_sum s (cell (both (pos 1) b k (lift n m).vector) dim) k (cell (lift n m).vector dim) (cell b dim) (sum_entry b k (lift n m).vector dim)) p q (high_least b f))
        by_side (inr (z, c)) f = by_height f
          where
            entry : cell (both (pos 1) b k (lift n m).vector) dim ≡ cell b dim
            entry = same_height (cell (both (pos 1) b k (lift n m).vector) dim) k (cell (lift n m).vector dim) (cell b dim) (sum_entry b k (lift n m).vector dim) z

            by_height : IsHigh b → IsHigh (both (pos 1) b k (lift n m).vector)
            by_height (inl w) = inl (subst (λ (x : ℤ). pos 0 <ℤ (s *ℤ x)) (sym entry) w)
            by_height (inr (y, t)) = inr (entry ∙ y, ray k (cell (lift n m).vector) (cell b) (positive_least k p) c t (sum_entry b k (lift n m).vector))

    -- vector i of the system, 0 in column e, isn't such a sum, where no vector over a multiple of it is above 0 there
    pub beside_needed : i < length rays → cell (vector_at rays i) dim ≡ pos 0 → ((t : ℤ) (w : List ℤ) → D w → pos 0 <ℤ (s *ℤ cell w dim) → ((k : ℕ) → t *ℤ cell (vector_at rays i) (skip dim k) ≡ cell w (skip dim k)) → ⊥) → ¬ (SpansBy (relaxed_lines dim lines) (Among (relaxed dim rays) A) (relaxed dim rays (suc i)))
    beside_needed h z none_above u = by_height b.has
      where
        b : IsOver IsHigh (λ j. u.times *ℤ relaxed dim rays (suc i) j)
        b = over_of A IsHigh high_zeros high_line lift high_lift (λ j. u.times *ℤ relaxed dim rays (suc i) j) u.sums

        at_skip : (k : ℕ) → u.times *ℤ cell (vector_at rays i) (skip dim k) ≡ cell b.vector (skip dim k)
        at_skip k = ap (λ (n : ℤ). u.times *ℤ n) (sym (cell-remove dim (vector_at rays i) k)) ∙ b.same k ∙ cell-remove dim b.vector k

        level_same : cell b.vector dim ≡ pos 0 → (j : ℕ) → u.times *ℤ cell (vector_at rays i) j ≡ cell b.vector j
        level_same y j = by_column (column_cases dim j)
          where
            by_column : (j ≡ dim) ⊎ ((k : ℕ) × (skip dim k ≡ j)) → u.times *ℤ cell (vector_at rays i) j ≡ cell b.vector j
            by_column (inl e) = subst (λ (n : ℕ). u.times *ℤ cell (vector_at rays i) n ≡ cell b.vector n) (sym e) (ap (λ (n : ℤ). u.times *ℤ n) z ∙ mul-zero u.times ∙ sym y)
            by_column (inr (k, e)) = subst (λ (n : ℕ). u.times *ℤ cell (vector_at rays i) n ≡ cell b.vector n) e (at_skip k)

        by_height : IsHigh b.vector → ⊥
        by_height (inl p) = none_above u.times b.vector b.member p at_skip
        by_height (inr (y, t)) = needed_by_columns lines rays system.irredundant i h (spans_of_multiple u.times (columns rays i) (cell b.vector) u.positive (spans_sums (cell b.vector) t) (λ j. sym (level_same y j)))
