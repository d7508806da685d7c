use Rattle.std.specs.Prelude.{◌≡◌, ◌≢◌, ℕ, zero, suc, ◌+◌, ◌-◌, ◌<◌, ◌↔◌, Bool, true, false, ◌&&◌, List, [], ◌∷◌, ◌++◌, length, map, replicate, IsTrue, ℤ, pos, neg_ℤ, ◌+ℤ◌, ◌-ℤ◌, ◌*ℤ◌, ◌<ℤ◌, ◌≤ℤ◌}
use Rattle.std.specs.Ordering.{int_eq}
use Rattle.std.proofs.Common.{refl, sym, ap, ◌∙◌, subst, arith, inl, inr, get_or, set, length-append}
use Rattle.std.proofs.lemmas.Bool.{cases_lt, false≢true}
use Rattle.std.proofs.lemmas.Bool.Decides.{Decides-int_eq}
use Rattle.std.proofs.lemmas.Int.{ints}
use Rattle.std.proofs.lemmas.List.{get_or-map, get_or_append_left, get_or-append-add, length-set, get_or-set_same, get_or-set_other}
use Rattle.row_core.specs.Vectors.{cell, dot}
use Rattle.row_core.specs.Lists.{Row, row_at, vectors, Pointwise, vector_at}
use Rattle.sat_matrix.specs.Tables.{Table, bits_of, conjunction}
use Rattle.flat_rows.specs.Flat.{marked}
use Rattle.sat_matrix.proofs.BitRows.{length-conjunction}
use Rattle.cone_laws.specs.Steps.{IsPair}
use Rattle.row_core.specs.Signs.{sign}
use Rattle.row_core.specs.Pairs.{pair_at, value_at}
use Rattle.row_core.proofs.Ring.{ring, mul-zero, neg-mul, zero_of_mul, mul-at_least_zero}
use Rattle.cone_laws.proofs.UptoRows.{IsSumOf, dot_sum}
use Rattle.row_core.specs.Combinations.{IsCombined}
use Rattle.sat_matrix.specs.ZeroTables.{TellsZeros, IsZeroTable}
use Rattle.row_store.specs.Values.{values_on}
use Rattle.sat_matrix.specs.TableSteps.{HasRayStep}
use Rattle.row_store.specs.Changes.{IsRayChange}
use Rattle.sat_matrix.specs.Pairs.{AreAllCrosses}
use Rattle.row_store.proofs.FactorLemmas.{combined_along}
use Rattle.row_core.proofs.Magnitudes.{sign_above, magnitude-positive}
use Rattle.row_core.proofs.RowListLemmas.{length-vectors, vector_at-vectors}
use Rattle.chernikova.proofs.StateLemmas.{tells_more, pointwise_by_rows, pointwise_marked}
use Rattle.row_store.proofs.ValueLemmas.{length-values_on, value_at-values_on}
use Rattle.flat_rows.proofs.Marked.{marked_all, marked-append}

-- whether a number is 0
pub zero_test : (x : ℤ) → IsTrue (int_eq x (pos 0)) ↔ (x ≡ pos 0)
zero_test x = Decides-int_eq x (pos 0)

pub both_true : (x y : Bool) → IsTrue (x && y) ↔ (IsTrue x × IsTrue y)
both_true true true = ((λ t. (refl, refl)), (λ h. refl))
both_true true false = ((λ t. absurd (false≢true t)), (λ h. h.1))
both_true false y = ((λ t. absurd (false≢true t)), (λ h. h.0))

pub get_or-conjunction : (xs ys : List Bool) (j : ℕ) → j < length xs → j < length ys → get_or (conjunction xs ys) j false ≡ (get_or xs j false && get_or ys j false)
get_or-conjunction [] ys j h g = absurd (omega (arith, h))
get_or-conjunction (x ∷ xs) [] j h g = absurd (omega (arith, g))
get_or-conjunction (x ∷ xs) (y ∷ ys) zero h g = refl
get_or-conjunction (x ∷ xs) (y ∷ ys) (suc j) h g = get_or-conjunction xs ys j (omega (arith, h)) (omega (arith, g))

-- two terms of at least 0 whose sum is 0
sum_zero : (u n w p : ℤ) → pos 0 <ℤ u → pos 0 <ℤ w → pos 0 ≤ℤ n → pos 0 ≤ℤ p → u *ℤ n +ℤ w *ℤ p ≡ pos 0 → (n ≡ pos 0) × (p ≡ pos 0)
sum_zero u n w p u_above w_above n_least p_least e =
    let un : pos 0 ≤ℤ (u *ℤ n) = mul-at_least_zero u n (omega (arith, ints, u_above)) n_least in
    let wp : pos 0 ≤ℤ (w *ℤ p) = mul-at_least_zero w p (omega (arith, ints, w_above)) p_least in
    let un_zero : u *ℤ n ≡ pos 0 = omega (arith, ints, e, un, wp) in
    let wp_zero : w *ℤ p ≡ pos 0 = omega (arith, ints, e, un, wp) in
    (zero_of_mul u n u_above un_zero, zero_of_mul w p w_above wp_zero)

minus_is : (n w c l : ℤ) → n *ℤ w -ℤ c *ℤ l ≡ n *ℤ w +ℤ neg_ℤ c *ℤ l
minus_is n w c l = let f : neg_ℤ c *ℤ l ≡ neg_ℤ (c *ℤ l) = neg-mul c l in omega (arith, ints, f)

cancel_pair : (u v : ℤ) → u *ℤ v +ℤ neg_ℤ v *ℤ u ≡ pos 0
cancel_pair u v = simp ring (omega (arith, ints))

pair_sum : (a p n r : List ℤ) (h : IsPair a p n r) → IsSumOf r (dot a p) n (neg_ℤ (dot a n)) p
pair_sum a p n r h = record { times = h.times; positive = h.positive; same = λ j. h.same j ∙ minus_is (dot a p) (cell n j) (dot a n) (cell p j) }

pub pair_on_row : (a p n r : List ℤ) → IsPair a p n r → dot a r ≡ pos 0
unfolding pair_sum
pair_on_row a p n r h = zero_of_mul h.times (dot a r) h.positive (dot_sum a r (dot a p) n (neg_ℤ (dot a n)) p (pair_sum a p n r h) ∙ cancel_pair (dot a p) (dot a n))

-- another row that is at least 0 on both rays is 0 on the pair's ray exactly where it is 0 on both
pub pair_zero_on : (a b p n r : List ℤ) → IsPair a p n r → pos 0 <ℤ dot a p → dot a n <ℤ pos 0 → pos 0 ≤ℤ dot b p → pos 0 ≤ℤ dot b n → (dot b r ≡ pos 0) ↔ ((dot b p ≡ pos 0) × (dot b n ≡ pos 0))
unfolding pair_sum
pair_zero_on a b p n r h above below p_least n_least =
    let sum = dot_sum b r (dot a p) n (neg_ℤ (dot a n)) p (pair_sum a p n r h) in (
      (λ z.
          let both = sum_zero (dot a p) (dot b n) (neg_ℤ (dot a n)) (dot b p) above (omega (arith, ints, below)) n_least p_least (sym sum ∙ ap (λ x. h.times *ℤ x) z ∙ mul-zero h.times) in
          (both.1, both.0)),
      (λ zs.
          let first : dot a p *ℤ dot b n ≡ pos 0 = ap (λ x. dot a p *ℤ x) zs.1 ∙ mul-zero (dot a p) in
          let second : neg_ℤ (dot a n) *ℤ dot b p ≡ pos 0 = ap (λ x. neg_ℤ (dot a n) *ℤ x) zs.0 ∙ mul-zero (neg_ℤ (dot a n)) in
          zero_of_mul h.times (dot b r) h.positive (sum ∙ omega (arith, ints, first, second))),
    )

-- the row of the table for a pair
pub tells_pair : (rows : List Row) (k : ℕ) (a p n r : List ℤ) (bp bn : List Bool) (columns : ℕ) → row_at rows k ≡ a → columns ≡ k + 1 → TellsZeros rows (k + 1) p bp → TellsZeros rows (k + 1) n bn → IsPair a p n r → pos 0 <ℤ dot a p → dot a n <ℤ pos 0 → ((j : ℕ) → j < k → pos 0 ≤ℤ dot (row_at rows j) p) → ((j : ℕ) → j < k → pos 0 ≤ℤ dot (row_at rows j) n) → TellsZeros rows (k + 1) r (set (conjunction bp bn) (columns - 1) true)
tells_pair rows k a p n r bp bn columns is_a size tp tn pair above below p_least n_least =
    let both : List Bool = conjunction bp bn in
    let wide : length both ≡ k + 1 = length-conjunction bp bn (tp.wide ∙ sym tn.wide) ∙ tp.wide in
    record {
      wide = length-set both (columns - 1) true ∙ wide;
      zeros = λ j below_j.
          elim (cases_lt j k) [
            | inl less ↦
                let at : get_or (set both (columns - 1) true) j false ≡ (get_or bp j false && get_or bn j false) =
                get_or-set_other both (columns - 1) j true false (let ne : j ≢ columns - 1 = omega (arith, size) in ne) ∙ get_or-conjunction bp bn j (omega (arith, tp.wide)) (omega (arith, tn.wide)) in
                let zero_on = pair_zero_on a (row_at rows j) p n r pair above below (p_least j less) (n_least j less) in
                let bits = both_true (get_or bp j false) (get_or bn j false) in (
                  (λ t. let bs = bits.0 (sym at ∙ t) in zero_on.1 ((tp.zeros j below_j).0 bs.0, (tn.zeros j below_j).0 bs.1)),
                  (λ z. let zs = zero_on.0 z in at ∙ bits.1 ((tp.zeros j below_j).1 zs.0, (tn.zeros j below_j).1 zs.1)),
                )
            | inr more ↦
                let here : j ≡ k = omega arith in
                let at : get_or (set both (columns - 1) true) j false ≡ true = ap (λ m. get_or (set both (columns - 1) true) m false) (let e : j ≡ columns - 1 = omega (arith, size) in e) ∙ get_or-set_same both (columns - 1) true false (omega (arith, size, wide)) in
                let zero_here : dot (row_at rows j) r ≡ pos 0 = ap (λ m. dot (row_at rows m) r) here ∙ ap (λ b. dot b r) is_a ∙ pair_on_row a p n r pair in
                ((λ t. zero_here), (λ z. at))
          ];
    }

same_zero : (x : ℤ) → (x ≡ pos 0) ↔ (x ≡ pos 0)
same_zero x = ((λ z. z), (λ z. z))

pub pair_from : (a p n r : List ℤ) → pos 0 <ℤ dot a p → IsCombined (dot a p) (dot a n) p n r → IsPair a p n r
pair_from a p n r above h = record {
  times = h.times;
  positive = h.positive;
  same = λ j. h.same j ∙ ap (λ (x : ℤ). x *ℤ cell n j -ℤ (sign (dot a p) *ℤ dot a n) *ℤ cell p j) (magnitude-positive (dot a p) above) ∙ ap (λ (x : ℤ). dot a p *ℤ cell n j -ℤ x *ℤ cell p j) (sym (sign_above (dot a p) (dot a n) above));
}

module _ (rows : List Row) (k : ℕ) (a : List ℤ) (rays new : List Row) (values : List ℤ) (marks : List Bool) (pairs : List (ℕ × ℕ)) (old table : Table) (is_a : row_at rows k ≡ a) (least : (i j : ℕ) → i < length rays → j < k → pos 0 ≤ℤ dot (row_at rows j) (row_at rays i)) (zeros : IsZeroTable rows k (vectors rays) old) (is_values : values ≡ values_on a (vectors rays)) (crosses : AreAllCrosses values old pairs) (change : IsRayChange values marks pairs rays new) (step : HasRayStep values marks pairs old table) where
  size : length (vectors rays) ≡ length rays
  size = length-vectors rays

  values_size : length values ≡ length (vectors rays)
  values_size = ap length is_values ∙ length-values_on a (vectors rays)

  value_is : (i : ℕ) → i < length (vectors rays) → value_at values i ≡ dot a (vector_at (vectors rays) i)
  value_is i h = ap (λ vs. value_at vs i) is_values ∙ value_at-values_on a (vectors rays) i h

  -- the table with the new column
  first_tells : (i : ℕ) → i < length (vectors rays) → TellsZeros rows (k + 1) (vector_at (vectors rays) i) (bits_of step.first.rows i)
  first_tells i h =
      let v : List ℤ = vector_at (vectors rays) i in
      let in_old : i < length old.rows = omega (arith, zeros.each.as_many) in
      let bit : get_or (map (λ value. int_eq value (pos 0)) values) i false ≡ int_eq (dot (row_at rows k) v) (pos 0) =
      get_or-map (λ value. int_eq value (pos 0)) values i (pos 0) false (omega (arith, values_size)) ∙ ap (λ x. int_eq x (pos 0)) (value_is i h ∙ ap (λ b. dot b v) (sym is_a)) in
      tells_more rows k v v (bits_of old.rows i) (bits_of step.first.rows i) (int_eq (dot (row_at rows k) v) (pos 0)) (zeros.each.each i [] [] h)
      (step.column.each i in_old ∙ ap (λ b. bits_of old.rows i ++ b ∷ []) bit) (λ j below. same_zero (dot (row_at rows j) v)) (zero_test (dot (row_at rows k) v))

  -- the row of a pair
  made_tells : (m : ℕ) → m < length pairs → TellsZeros rows (k + 1) (vector_at (vectors change.made) m) (bits_of step.second.rows (length step.first.rows + m))
  made_tells m h =
      let p : ℕ = (pair_at pairs m).0 in
      let n : ℕ = (pair_at pairs m).1 in
      let cross = crosses.each m h in
      let in_p : p < length (vectors rays) = omega (arith, values_size, cross.pair.first) in
      let in_n : n < length (vectors rays) = omega (arith, values_size, cross.pair.second) in
      let vp : List ℤ = vector_at (vectors rays) p in
      let vn : List ℤ = vector_at (vectors rays) n in
      let above : pos 0 <ℤ dot a vp = subst (λ (z : ℤ). pos 0 <ℤ z) (value_is p in_p) cross.pair.above in
      let below : dot a vn <ℤ pos 0 = subst (λ (z : ℤ). z <ℤ pos 0) (value_is n in_n) cross.pair.below in
      let R : List ℤ → Type 0 = λ w. IsCombined (dot a vp) (dot a vn) w vn (row_at change.made m) in
      let S : List ℤ → Type 0 = λ w. IsCombined (dot a vp) (dot a vn) (row_at rays p) w (row_at change.made m) in
      let combined : IsCombined (dot a vp) (dot a vn) vp vn (row_at change.made m) =
      subst R (sym (vector_at-vectors rays p)) (subst S (sym (vector_at-vectors rays n)) (combined_along (value_at values p) (value_at values n) (dot a vp) (dot a vn) (row_at rays p) (row_at rays n) (row_at change.made m) (sym (value_is p in_p)) (sym (value_is n in_n)) (change.is_made.each m h))) in
      let columns : step.first.columns ≡ k + 1 = step.column.columns ∙ ap (λ c. c + 1) zeros.columns in
      let P : List ℤ → Type 0 = λ w. TellsZeros rows (k + 1) w (bits_of step.second.rows (length step.first.rows + m)) in
      let Q : List Bool → Type 0 = λ bs. TellsZeros rows (k + 1) (row_at change.made m) bs in
      let L : (i : ℕ) → i < length (vectors rays) → (j : ℕ) → j < k → pos 0 ≤ℤ dot (row_at rows j) (vector_at (vectors rays) i) = λ i inside j below_k. subst (λ (w : List ℤ). pos 0 ≤ℤ dot (row_at rows j) w) (sym (vector_at-vectors rays i)) (least i j (omega (arith, size)) below_k) in
      subst P (sym (vector_at-vectors change.made m)) (subst Q (sym (step.has_pairs.each m h))
      (tells_pair rows k a vp vn (row_at change.made m) (bits_of step.first.rows p) (bits_of step.first.rows n) step.first.columns is_a columns (first_tells p in_p) (first_tells n in_n) (pair_from a vp vn (row_at change.made m) above combined) above below (L p in_p) (L n in_n)))

  first_size : length step.first.rows ≡ length (vectors rays)
  first_size = step.column.as_many ∙ zeros.each.as_many

  made_size : length (vectors change.made) ≡ length pairs
  made_size = length-vectors change.made ∙ change.is_made.as_many

  -- all rays before the marked ones are kept
  all_tell : Pointwise (TellsZeros rows (k + 1)) (vectors rays ++ vectors change.made) step.second.rows
  all_tell =
      pointwise_by_rows (TellsZeros rows (k + 1)) (vectors rays ++ vectors change.made) step.second.rows
      (step.has_pairs.as_many ∙ omega (arith, first_size, made_size, length-append (vectors rays) (vectors change.made)))
      (λ i h.
      let P : List ℤ → Type 0 = λ w. TellsZeros rows (k + 1) w (bits_of step.second.rows i) in
      elim (cases_lt i (length (vectors rays))) [
        | inl less ↦
            let Q : List Bool → Type 0 = λ bs. TellsZeros rows (k + 1) (vector_at (vectors rays) i) bs in
            subst P (sym (get_or_append_left (vectors rays) (vectors change.made) [] i less)) (subst Q (sym (step.has_pairs.before i (omega (arith, first_size)))) (first_tells i less))
        | inr more ↦
            let m : ℕ = i - length (vectors rays) in
            let at : length (vectors rays) + m ≡ i = omega arith in
            let at_first : length step.first.rows + m ≡ i = omega (arith, first_size) in
            let inside : m < length pairs = omega (arith, h, made_size, length-append (vectors rays) (vectors change.made)) in
            let Q : ℕ → Type 0 = λ row. TellsZeros rows (k + 1) (vector_at (vectors change.made) m) (bits_of step.second.rows row) in
            subst P (sym (ap (λ q. get_or (vectors rays ++ vectors change.made) q []) (sym at) ∙ get_or-append-add (vectors rays) (vectors change.made) m [])) (subst Q at_first (made_tells m inside))
      ])

  pub zeros_after_ray : length marks ≡ length rays → IsZeroTable rows (k + 1) (vectors new) table
  zeros_after_ray marked_size =
      let keep : List Bool = marks ++ replicate (length pairs) true in
      let rays_are : vectors new ≡ marked keep (vectors rays ++ vectors change.made) =
      change.result ∙ sym (marked-append marks (replicate (length pairs) true) (vectors rays) (vectors change.made) (marked_size ∙ sym size) ∙ ap (λ vs. marked marks (vectors rays) ++ vs) (marked_all (length pairs) (vectors change.made) (sym made_size))) in
      let P : List (List ℤ) → Type 0 = λ vs. Pointwise (TellsZeros rows (k + 1)) vs table.rows in
      let Q : List (List Bool) → Type 0 = λ bs. Pointwise (TellsZeros rows (k + 1)) (marked keep (vectors rays ++ vectors change.made)) bs in
      record {
        columns = step.columns ∙ step.has_pairs.columns ∙ step.column.columns ∙ ap (λ c. c + 1) zeros.columns;
        each = subst P (sym rays_are) (subst Q (sym step.kept) (pointwise_marked (TellsZeros rows (k + 1)) keep (vectors rays ++ vectors change.made) step.second.rows all_tell));
      }
