-- The points that an encoded cone codes, as sums of its vectors.
use Rattle.std.proofs.Common.{◌≡◌, ◌⊎◌, inl, inr, ℕ, zero, suc, ◌+◌, ◌<◌, List, [], length, slice_index_or, false, ℤ, pos, ◌+ℤ◌, ◌*ℤ◌, neg_ℤ, ◌≤ℤ◌, ◌<ℤ◌, refl, sym, ap, ◌∙◌, subst, arith}
use Rattle.std.specs.Prelude.{⊤}
use Rattle.std.proofs.lemmas.Int.{ints}
use Rattle.row_core.specs.Vectors.{cell, scale}
use Rattle.row_core.specs.Lists.{Row}
use Rattle.cone_laws.specs.Cones.{Upto, negated}
use Rattle.cone_laws.specs.Canon.{vector_at, IsSystem}
use Rattle.cone_laws.proofs.Ring.{mul_assoc, mul-positive}
use Rattle.cone_laws.proofs.Sums.{V, Same, Among, Sums, SpansBy}
use Rattle.cone_laws.proofs.Columns.{cell-scale, length-scale, cell-negated}
use Rattle.cone_laws.proofs.Bridge.{In, to_sums}
use Rattle.cone_laws.proofs.UptoRows.{upto_sum}
use Rattle.cone_laws.proofs.Existence.{both}
use Rattle.nnc_enc.specs.Encoding.{raised, lowered, Codes, IsEncoded}
use Rattle.nnc_enc.proofs.PositiveParts.{Found, found}
use Rattle.nnc_enc.proofs.MarkedSums.{Marks}
use Rattle.nnc_enc.proofs.KeptSums.{Both}
use Rattle.nnc_enc.proofs.EncodedRows.{remove_insert, length_insert, cell_insert}
use Rattle.nnc_enc.proofs.ClosedRows.{ray_in, sum_lowered}
use Rattle.nnc_enc.proofs.CoveredPoints.{column_linear}
use Rattle.nnc_enc.proofs.Lifted.{IsLift, IsOver, over_member, over_of}
use Rattle.nnc_enc.proofs.Relaxed.{Numbered, both_least, cell-remove, column_cases, relaxed, relaxed_lines, skip, skip_self, sum_entry, sums_columns}
use Rattle.nnc_enc.proofs.Relaxed.{PointAt_of}

module _ (dim : ℕ) (gens : List Row) (lines rays : List (List ℤ)) (wide : (j : ℕ) → j < length gens → length (slice_index_or gens j ([], false)).0 ≡ dim + 2) (system : IsSystem (Upto (dim + 2) gens (length gens)) lines rays) where
  abbrev gen : ℕ → List ℤ
  gen j = (slice_index_or gens j ([], false)).0

  abbrev D : List ℤ → Type 0
  D = Upto (dim + 2) gens (length gens)

  abbrev PointAt : ℕ → Type 0
  PointAt = PointAt_of dim rays

  module _ (enc : IsEncoded dim (Upto (dim + 2) gens (length gens))) (point : List ℤ) (point_in : Upto (dim + 2) gens (length gens) point) (point_above : pos 0 <ℤ cell point dim) where
    -- ---- heights and divisors of the vectors
    negative_entry : (v : List ℤ) (n : ℕ) → cell (negated v) n ≡ neg_ℤ (cell v n)
    negative_entry v n = cell-negated v n

    pub line_height : (i : ℕ) → i < length lines → cell (vector_at lines i) dim ≡ pos 0
    line_height i h =
        let m = system.generates.lines_within i [] h in
        both_least (cell (vector_at lines i) dim) (cell (negated (vector_at lines i)) dim) (enc.height (vector_at lines i) m.0) (enc.height (negated (vector_at lines i)) m.1) (negative_entry (vector_at lines i) dim)

    above_height : (e d : ℤ) → e ≡ pos 0 → e ≤ℤ d → pos 0 ≤ℤ d
    above_height e d p q = omega (arith, ints, p, q)

    pub line_divisor : (i : ℕ) → i < length lines → cell (vector_at lines i) (dim + 1) ≡ pos 0
    line_divisor i h =
        let m = system.generates.lines_within i [] h in
        let z = line_height i h in
        let n : cell (negated (vector_at lines i)) dim ≡ pos 0 = negative_entry (vector_at lines i) dim ∙ ap neg_ℤ z in
        both_least (cell (vector_at lines i) (dim + 1)) (cell (negated (vector_at lines i)) (dim + 1))
        (above_height (cell (vector_at lines i) dim) (cell (vector_at lines i) (dim + 1)) z (enc.bound (vector_at lines i) m.0))
        (above_height (cell (negated (vector_at lines i)) dim) (cell (negated (vector_at lines i)) (dim + 1)) n (enc.bound (negated (vector_at lines i)) m.1))
        (negative_entry (vector_at lines i) (dim + 1))

    divisor_at : (v : List ℤ) → cell (lowered dim v) dim ≡ cell v (dim + 1)
    divisor_at v = cell-remove dim v dim ∙ ap (cell v) (skip_self dim ∙ omega arith)

    least_divisor : (e d : ℤ) → pos 0 ≤ℤ e → e ≤ℤ d → pos 0 ≤ℤ d
    least_divisor e d p q = omega (arith, ints, p, q)

    positive_divisor : (e d : ℤ) → pos 0 <ℤ e → e ≤ℤ d → pos 0 <ℤ d
    positive_divisor e d p q = omega (arith, ints, p, q)

    pub divisor_least : (i : ℕ) → Numbered rays i → pos 0 ≤ℤ relaxed dim rays i dim
    divisor_least zero n = elim n [ ]
    divisor_least (suc i) n =
        let u = ray_in dim gens lines rays wide system i n in
        subst (λ (z : ℤ). pos 0 ≤ℤ z) (sym (divisor_at (vector_at rays i))) (least_divisor (cell (vector_at rays i) dim) (cell (vector_at rays i) (dim + 1)) (enc.height (vector_at rays i) u) (enc.bound (vector_at rays i) u))

    pub divisor_positive : (i : ℕ) → Numbered rays i → PointAt i → pos 0 <ℤ relaxed dim rays i dim
    divisor_positive zero n p = elim n [ ]
    divisor_positive (suc i) n p =
        let u = ray_in dim gens lines rays wide system i n in
        subst (λ (z : ℤ). pos 0 <ℤ z) (sym (divisor_at (vector_at rays i))) (positive_divisor (cell (vector_at rays i) dim) (cell (vector_at rays i) (dim + 1)) p (enc.bound (vector_at rays i) u))

    pub divisor_flat : (l : V) → relaxed_lines dim lines l → l dim ≡ pos 0
    divisor_flat l m = m.same dim ∙ divisor_at (vector_at lines m.index) ∙ line_divisor m.index m.is

    -- ---- a vector of the set that is above 0 in column e is a sum with a point
    pub marks_of_member : (w : List ℤ) → D w → pos 0 <ℤ cell w dim → Marks (relaxed_lines dim lines) (Among (relaxed dim rays) (Numbered rays)) (Among (relaxed dim rays) (Both (Numbered rays) PointAt)) (cell (lowered dim w))
    marks_of_member w u p = by_span (to_sums lines rays w (system.generates.spans w u))
      where
        line_at : (l : V) → In lines l → relaxed_lines dim lines (λ j. l (skip dim j))
        line_at l m = record { index = m.index; is = m.is; same = λ j. m.same (skip dim j) ∙ sym (cell-remove dim (vector_at lines m.index) j) }

        ray_at : (l : V) → In rays l → Among (relaxed dim rays) (Numbered rays) (λ j. l (skip dim j))
        ray_at l m = record { index = suc m.index; is = m.is; same = λ j. m.same (skip dim j) ∙ sym (cell-remove dim (vector_at rays m.index) j) }

        line_zero : (l : V) → In lines l → l dim ≡ pos 0
        line_zero l m = m.same dim ∙ line_height m.index m.is

        ray_zero : (l : V) → In rays l → pos 0 ≤ℤ l dim
        ray_zero l m = subst (λ (z : ℤ). pos 0 ≤ℤ z) (sym (m.same dim)) (enc.height (vector_at rays m.index) (ray_in dim gens lines rays wide system m.index m.is))

        by_found : (t : ℤ) → pos 0 <ℤ t → Found (In lines) (In rays) (λ v. v dim) (λ j. t *ℤ cell w j) → Marks (relaxed_lines dim lines) (Among (relaxed dim rays) (Numbered rays)) (Among (relaxed dim rays) (Both (Numbered rays) PointAt)) (cell (lowered dim w))
        by_found t pt f = record {
          times = t;
          positive = pt;
          factor = f.factor;
          above = f.above;
          vector = λ j. f.vector (skip dim j);
          marked = record {
            index = suc f.within.index;
            is = (f.within.is, subst (λ (z : ℤ). pos 0 <ℤ z) (f.within.same dim) f.positive);
            same = λ j. f.within.same (skip dim j) ∙ sym (cell-remove dim (vector_at rays f.within.index) j);
          };
          rest = λ j. f.rest (skip dim j);
          others = sums_columns (skip dim) line_at ray_at f.rest f.others;
          same = λ j. ap (λ (z : ℤ). t *ℤ z) (cell-remove dim w j) ∙ f.same (skip dim j);
        }

        by_span : SpansBy (In lines) (In rays) (cell w) → Marks (relaxed_lines dim lines) (Among (relaxed dim rays) (Numbered rays)) (Among (relaxed dim rays) (Both (Numbered rays) PointAt)) (cell (lowered dim w))
        by_span s = by_found s.times s.positive (found (λ v. v dim) (column_linear dim gens lines rays wide system enc point point_in point_above dim) line_zero ray_zero (λ j. s.times *ℤ cell w j) s.sums (mul-positive s.times (cell w dim) s.positive p))

    -- ---- a vector of the set over a sum
    lift_vector : (n : ℕ) → Numbered rays n → IsLift dim gens lines rays wide system n
    lift_vector zero m = elim m [ ]
    lift_vector (suc n) m = record { vector = vector_at rays n; member = ray_in dim gens lines rays wide system n m; same = λ j. refl }

    abbrev Any : List ℤ → Type 0
    Any v = ⊤

    over_sum : (v : V) → Sums (relaxed_lines dim lines) (Among (relaxed dim rays) (Numbered rays)) v → IsOver dim gens lines rays wide system Any v
    over_sum = over_of dim gens lines rays wide system (Numbered rays) Any tt (λ i h k b p. tt) lift_vector (λ n m k b p q. tt)

    upto_same : (x y : List ℤ) → D x → length y ≡ dim + 2 → ((j : ℕ) → cell y j ≡ cell x j) → D y
    upto_same x y u w e = upto_sum (dim + 2) gens (length gens) y (pos 1) x (pos 0) x (record { times = pos 1; positive = omega (arith, ints); same = λ j. omega (arith, ints, e j) }) w (omega (arith, ints)) (omega (arith, ints)) u u

    height_more : (x k e b : ℤ) → x ≡ k *ℤ e +ℤ b → pos 0 <ℤ k → pos 0 <ℤ e → pos 0 ≤ℤ b → pos 0 <ℤ x
    height_more x k e b h p q r = let t = mul-positive k e p q in omega (arith, ints, h, t, r)

    -- a sum with a point is coded
    module _ (p : List ℤ) (pw : length p ≡ dim + 1) where
      over_point : (t k : ℤ) (l u : V) → pos 0 <ℤ t → pos 0 <ℤ k → ((j : ℕ) → t *ℤ cell p j ≡ k *ℤ l j +ℤ u j) → (n : ℕ) → Numbered rays n → PointAt n → Same l (relaxed dim rays n) → IsOver dim gens lines rays wide system Any u → Codes dim D p
      over_point t k l u pt pk h zero m q e b = elim m [ ]
      over_point t k l u pt pk h (suc n) m q e b = record {
        times = t;
        positive = pt;
        height = cell (both (pos 1) b.vector k (vector_at rays n)) dim;
        above = height_more (cell (both (pos 1) b.vector k (vector_at rays n)) dim) k (cell (vector_at rays n) dim) (cell b.vector dim) (sum_entry b.vector k (vector_at rays n) dim) pk q (enc.height b.vector b.member);
        member = upto_same (both (pos 1) b.vector k (vector_at rays n)) (raised dim (scale t p) (cell (both (pos 1) b.vector k (vector_at rays n)) dim)) (over_member dim gens lines rays wide system k (vector_at rays n) b.vector (least k pk) (ray_in dim gens lines rays wide system n m) b.member)
            (length_insert dim (scale t p) (cell (both (pos 1) b.vector k (vector_at rays n)) dim) (omega (arith, w)) ∙ ap suc w ∙ omega arith) same_entry;
      }
        where
          least : (x : ℤ) → pos 0 <ℤ x → pos 0 ≤ℤ x
          least x g = omega (arith, ints, g)

          w : length (scale t p) ≡ dim + 1
          w = length-scale t p ∙ pw

          same_entry : (j : ℕ) → cell (raised dim (scale t p) (cell (both (pos 1) b.vector k (vector_at rays n)) dim)) j ≡ cell (both (pos 1) b.vector k (vector_at rays n)) j
          same_entry j = by_column (column_cases dim j)
            where
              by_column : (j ≡ dim) ⊎ ((i : ℕ) × (skip dim i ≡ j)) → cell (raised dim (scale t p) (cell (both (pos 1) b.vector k (vector_at rays n)) dim)) j ≡ cell (both (pos 1) b.vector k (vector_at rays n)) j
              by_column (inl g) = ap (cell (raised dim (scale t p) (cell (both (pos 1) b.vector k (vector_at rays n)) dim))) g ∙ cell_insert dim (scale t p) (cell (both (pos 1) b.vector k (vector_at rays n)) dim) (omega (arith, w)) ∙ ap (cell (both (pos 1) b.vector k (vector_at rays n))) (sym g)
              by_column (inr (i, g)) =
                  ap (cell (raised dim (scale t p) (cell (both (pos 1) b.vector k (vector_at rays n)) dim))) (sym g)
                  ∙ sym (cell-remove dim (raised dim (scale t p) (cell (both (pos 1) b.vector k (vector_at rays n)) dim)) i)
                  ∙ ap (λ (v : List ℤ). cell v i) (remove_insert dim (scale t p) (cell (both (pos 1) b.vector k (vector_at rays n)) dim) (omega (arith, w)))
                  ∙ cell-scale t p i ∙ sum_lowered dim gens lines rays wide system (λ j. t *ℤ cell p j) k l u (vector_at rays n) b.vector h e b.same i
                  ∙ cell-remove dim (both (pos 1) b.vector k (vector_at rays n)) i ∙ ap (cell (both (pos 1) b.vector k (vector_at rays n))) g

      pub coded_of_marks : Marks (relaxed_lines dim lines) (Among (relaxed dim rays) (Numbered rays)) (Among (relaxed dim rays) (Both (Numbered rays) PointAt)) (cell p) → Codes dim D p
      coded_of_marks s = over_point s.times s.factor s.vector s.rest s.positive s.above s.same s.marked.index s.marked.is.0 s.marked.is.1 s.marked.same (over_sum s.rest s.others)

      pub marks_of_coded : Codes dim D p → Marks (relaxed_lines dim lines) (Among (relaxed dim rays) (Numbered rays)) (Among (relaxed dim rays) (Both (Numbered rays) PointAt)) (cell p)
      marks_of_coded k = of_multiple (marks_of_member (raised dim (scale k.times p) k.height) k.member (subst (λ (x : ℤ). pos 0 <ℤ x) (sym (cell_insert dim (scale k.times p) k.height (omega (arith, w)))) k.above))
        where
          w : length (scale k.times p) ≡ dim + 1
          w = length-scale k.times p ∙ pw

          once_times : (t m x y f u r : ℤ) → y ≡ m *ℤ x → t *ℤ y ≡ f *ℤ u +ℤ r → (t *ℤ m) *ℤ x ≡ f *ℤ u +ℤ r
          once_times t m x y f u r e g = mul_assoc t m x ∙ sym (ap (λ (n : ℤ). t *ℤ n) e) ∙ g

          of_multiple : Marks (relaxed_lines dim lines) (Among (relaxed dim rays) (Numbered rays)) (Among (relaxed dim rays) (Both (Numbered rays) PointAt)) (cell (lowered dim (raised dim (scale k.times p) k.height))) → Marks (relaxed_lines dim lines) (Among (relaxed dim rays) (Numbered rays)) (Among (relaxed dim rays) (Both (Numbered rays) PointAt)) (cell p)
          of_multiple s = record {
            times = s.times *ℤ k.times;
            positive = mul-positive s.times k.times s.positive k.positive;
            factor = s.factor;
            above = s.above;
            vector = s.vector;
            marked = s.marked;
            rest = s.rest;
            others = s.others;
            same = λ j. once_times s.times k.times (cell p j) (cell (lowered dim (raised dim (scale k.times p) k.height)) j) s.factor (s.vector j) (s.rest j)
                (ap (λ (v : List ℤ). cell v j) (remove_insert dim (scale k.times p) k.height (omega (arith, w))) ∙ cell-scale k.times p j) (s.same j);
          }
