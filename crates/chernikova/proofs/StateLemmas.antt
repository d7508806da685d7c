use Rattle.std.specs.Prelude.{◌≡◌, ◌≢◌, ℕ, ◌+◌, ◌-◌, ◌<◌, ◌↔◌, Bool, true, false, cond, List, [], ◌∷◌, ◌++◌, length, map, filter, remove, replicate, IsTrue, ℤ, pos, neg_ℤ, ◌+ℤ◌, ◌-ℤ◌, ◌*ℤ◌, ◌<ℤ◌, unsigned_abs, if◌then◌else◌}
use Rattle.std.proofs.Common.{refl, sym, ap, ◌∙◌, subst, arith, inl, inr, get_or, set}
use Rattle.std.proofs.lemmas.Bool.{cases_lt, false≢true}
use Rattle.std.proofs.lemmas.Int.{ints}
use Rattle.std.proofs.lemmas.List.{get_or_default, append-nil, length_push, get_or_append_left, get_or_push, length-set, length-replicate, get_or-replicate, get_or-set_same, get_or-set_other}
use Rattle.std.proofs.lemmas.List.Edits.{length-remove, get_or-remove_below, get_or-remove_above}
use Rattle.row_core.specs.Vectors.{cell, dot, scale}
use Rattle.row_core.specs.Lists.{Row, row_at, vectors, Pointwise, vector_at}
use Rattle.sat_matrix.specs.Tables.{Table, bits_of, HasThird}
use Rattle.flat_rows.specs.Flat.{marked}
use Rattle.cone_laws.specs.Steps.{IsLowered, IsLastCrossing, IsLineStep, IsMade, IsMadeOf, NoThird, IsCrossing, IsRayStep, upward}
use Rattle.row_core.specs.Signs.{sign, stays}
use Rattle.row_core.specs.Pairs.{pair_at, value_at}
pub use Rattle.row_core.proofs.PointwiseLemmas.{pointwise_tail, pointwise_cons, pointwise_append}
pub use Rattle.sat_matrix.proofs.MarkedRows.{pointwise_marked}
pub use Rattle.flat_rows.proofs.Marked.{marked_all}
use Rattle.row_core.proofs.Ring.{ring, mul-zero, neg-mul, zero_of_mul}
use Rattle.cone_laws.proofs.UptoRows.{IsSumOf, dot_sum}
use Rattle.row_core.specs.Combinations.{IsCombined}
use Rattle.sat_matrix.specs.ZeroTables.{TellsZeros, IsZeroTable}
use Rattle.row_store.specs.Values.{values_on}
use Rattle.cone_laws.proofs.Columns.{dot-scale}
use Rattle.sat_matrix.specs.TableSteps.{HasLineStep}
use Rattle.row_store.specs.Changes.{AreLowered, AreOthersLowered, with_upward, IsLineChange, IsRayChange}
use Rattle.sat_matrix.specs.Pairs.{IsCross, AreAllCrosses}
use Rattle.row_store.proofs.FactorLemmas.{combined_along}
use Rattle.row_store.proofs.ValueLemmas.{length-values_on, value_at-values_on}
use Rattle.row_core.proofs.Magnitudes.{sign_above, magnitude-positive, magnitude_above, sign_times}
use Rattle.row_core.proofs.RowListLemmas.{length-vectors, vector_at-vectors, vectors_push}

-- ---- the step with a line
lowered_from : (a l w r : List ℤ) → IsCombined (dot a l) (dot a w) l w r → IsLowered a l w r
lowered_from a l w r h = record {
  lowered = record { times = h.times; positive = h.positive; same = h.same };
  wide = h.wide;
  primitive = h.primitive;
}

-- a lowered vector, by the rows of the two lists
lowered_at : (a : List ℤ) (lines list new : List Row) (index i j : ℕ) → index < length lines → i < length list → IsCombined (value_at (values_on a (vectors lines)) index) (value_at (values_on a (vectors list)) i) (row_at lines index) (row_at list i) (row_at new j) → IsLowered a (vector_at (vectors lines) index) (vector_at (vectors list) i) (vector_at (vectors new) j)
lowered_at a lines list new index i j in_lines inside h =
    let P : List ℤ → Type 0 = λ w. IsLowered a w (vector_at (vectors list) i) (vector_at (vectors new) j) in
    let Q : List ℤ → Type 0 = λ w. IsLowered a (row_at lines index) w (vector_at (vectors new) j) in
    let R : List ℤ → Type 0 = λ w. IsLowered a (row_at lines index) (row_at list i) w in
    let u : dot a (row_at lines index) ≡ value_at (values_on a (vectors lines)) index = ap (dot a) (sym (vector_at-vectors lines index)) ∙ sym (value_at-values_on a (vectors lines) index (omega (arith, length-vectors lines))) in
    let v : dot a (row_at list i) ≡ value_at (values_on a (vectors list)) i = ap (dot a) (sym (vector_at-vectors list i)) ∙ sym (value_at-values_on a (vectors list) i (omega (arith, length-vectors list))) in
    subst P (sym (vector_at-vectors lines index)) (subst Q (sym (vector_at-vectors list i)) (subst R (sym (vector_at-vectors new j))
    (lowered_from a (row_at lines index) (row_at list i) (row_at new j) (combined_along _ _ (dot a (row_at lines index)) (dot a (row_at list i)) (row_at lines index) (row_at list i) (row_at new j) u v h))))

-- any default serves within a list
at_default : (R : List ℤ → List ℤ → Type 0) (xs ys : List (List ℤ)) (i : ℕ) (d e : List ℤ) → i < length xs → length ys ≡ length xs → R (get_or xs i []) (get_or ys i []) → R (get_or xs i d) (get_or ys i e)
at_default R xs ys i d e inside as_many h =
    let P : List ℤ → Type 0 = λ x. R x (get_or ys i e) in
    let Q : List ℤ → Type 0 = λ y. R (get_or xs i []) y in
    subst P (get_or_default xs i [] d inside) (subst Q (get_or_default ys i [] e (omega (arith, as_many))) h)

others_pointwise : (a : List ℤ) (index : ℕ) (lines new : List Row) → index < length lines → AreOthersLowered (value_at (values_on a (vectors lines)) index) index (row_at lines index) (values_on a (vectors lines)) lines new → Pointwise (IsLowered a (vector_at (vectors lines) index)) (remove (vectors lines) index) (vectors new)
others_pointwise a index lines new inside h =
    let vs : List (List ℤ) = vectors lines in
    let in_vs : index < length vs = omega (arith, length-vectors lines) in
    let size : length (remove vs index) + 1 ≡ length vs = length-remove vs index in_vs in
    let same : length (vectors new) ≡ length (remove vs index) = omega (arith, size, length-vectors lines, length-vectors new, h.as_many) in
    record {
      as_many = same;
      each = λ i d e below.
          at_default (IsLowered a (vector_at vs index)) (remove vs index) (vectors new) i d e below same
          (let P : List ℤ → Type 0 = λ w. IsLowered a (vector_at vs index) w (vector_at (vectors new) i) in
          elim (cases_lt i index) [
            | inl less ↦ subst P (sym (get_or-remove_below vs index [] i less in_vs)) (lowered_at a lines lines new index i i inside (omega arith) (h.before i less))
            | inr more ↦ subst P (sym (get_or-remove_above vs index [] i more in_vs)) (lowered_at a lines lines new index (i + 1) i inside (omega (arith, size, length-vectors lines)) (h.behind i more (omega (arith, size, length-vectors lines))))
          ]);
    }

rays_pointwise : (a : List ℤ) (index : ℕ) (lines rays kept : List Row) → index < length lines → AreLowered (value_at (values_on a (vectors lines)) index) (row_at lines index) (values_on a (vectors rays)) rays 0 (length rays) [] kept → Pointwise (IsLowered a (vector_at (vectors lines) index)) (vectors rays) (vectors kept)
rays_pointwise a index lines rays kept inside h =
    let same : length (vectors kept) ≡ length (vectors rays) = omega (arith, length-vectors kept, length-vectors rays, h.as_many) in
    record {
      as_many = same;
      each = λ i d e below.
          let in_rays : i < length rays = omega (arith, below, length-vectors rays) in
          let at : 0 + (i - 0) ≡ i = omega arith in
          let P : ℕ → Type 0 = λ n. IsCombined (value_at (values_on a (vectors lines)) index) (value_at (values_on a (vectors rays)) i) (row_at lines index) (row_at rays i) (row_at kept n) in
          at_default (IsLowered a (vector_at (vectors lines) index)) (vectors rays) (vectors kept) i d e below same
          (lowered_at a lines rays kept index i i inside in_rays (subst P at (h.each i (omega arith) in_rays)));
    }

with_upward_vectors : (a : List ℤ) (eq : Bool) (index : ℕ) (lines kept : List Row) → index < length lines → vectors (with_upward eq (value_at (values_on a (vectors lines)) index) (row_at lines index) kept) ≡ vectors kept ++ (if eq then [] else (upward a (vector_at (vectors lines) index) ∷ []))
with_upward_vectors a true index lines kept inside = sym (append-nil (vectors kept))
with_upward_vectors a false index lines kept inside =
    let line : List ℤ = row_at lines index in
    let u : ℤ = value_at (values_on a (vectors lines)) index in
    let value : u ≡ dot a (vector_at (vectors lines) index) = value_at-values_on a (vectors lines) index (omega (arith, length-vectors lines)) in
    vectors_push kept (scale (sign u) line) false ∙ ap (λ (x : ℤ). vectors kept ++ scale (sign x) line ∷ []) value ∙
    ap (λ (w : List ℤ). vectors kept ++ scale (sign (dot a (vector_at (vectors lines) index))) w ∷ []) (sym (vector_at-vectors lines index))

pub line_step_from : (a : List ℤ) (eq : Bool) (index : ℕ) (lines rays new_lines new_rays : List Row) → IsLastCrossing a (vectors lines) index → IsLineChange index (values_on a (vectors lines)) (values_on a (vectors rays)) eq lines rays new_lines new_rays → IsLineStep (a, eq) (vectors lines) (vectors rays) (vectors new_lines) (vectors new_rays)
line_step_from a eq index lines rays new_lines new_rays crossing h =
    let inside : index < length lines = omega (arith, crossing.below, length-vectors lines) in
    record {
      index = index;
      crossing = crossing;
      lines_lowered = others_pointwise a index lines new_lines inside h.lines_lowered;
      kept = vectors h.kept;
      rays_lowered = rays_pointwise a index lines rays h.kept inside h.rays_lowered;
      result = ap vectors h.result ∙ with_upward_vectors a eq index lines h.kept inside;
    }

-- ---- the step with pairs of rays
marked_head : (keep : Bool) (v : List ℤ) (marks : List Bool) (vs rest : List (List ℤ)) → marked marks vs ≡ rest → marked (keep ∷ marks) (v ∷ vs) ≡ cond keep (v ∷ rest) rest
marked_head true v marks vs rest e = ap (λ ws. v ∷ ws) e
marked_head false v marks vs rest e = e

pub marked_map : (P : ℤ → Bool) (a : List ℤ) (vs : List (List ℤ)) → marked (map P (values_on a vs)) vs ≡ filter (λ v. P (dot a v)) vs
marked_map P a [] = refl
marked_map P a (v ∷ vs) = marked_head (P (dot a v)) v (map P (values_on a vs)) vs (filter (λ w. P (dot a w)) vs) (marked_map P a vs)

-- the table tells what is between two rays
pub no_third_from : (rows : List Row) (k : ℕ) (rays : List (List ℤ)) (table : Table) (p n : ℕ) → IsZeroTable rows k rays table → p < length rays → n < length rays → ¬ (HasThird table p n) → NoThird rows k rays p n
no_third_from rows k rays table p n zeros in_p in_n none i inside not_p not_n between =
    let tells : (m : ℕ) → m < length rays → TellsZeros rows k (vector_at rays m) (bits_of table.rows m) = λ m h. zeros.each.each m [] [] h in
    none (
      i,
      record {
        row = omega (arith, zeros.each.as_many);
        not_first = not_p;
        not_second = not_n;
        covers = λ c below first second.
            let in_k : c < k = omega (arith, below, (tells p in_p).wide) in
            ((tells i inside).zeros c in_k).1 (between c in_k (((tells p in_p).zeros c in_k).0 first) (((tells n in_n).zeros c in_k).0 second));
      },
    )

pub has_third_to : (rows : List Row) (k : ℕ) (rays : List (List ℤ)) (table : Table) (p n : ℕ) → IsZeroTable rows k rays table → p < length rays → n < length rays → NoThird rows k rays p n → ¬ (HasThird table p n)
has_third_to rows k rays table p n zeros in_p in_n none (i, third) =
    let tells : (m : ℕ) → m < length rays → TellsZeros rows k (vector_at rays m) (bits_of table.rows m) = λ m h. zeros.each.each m [] [] h in
    let inside : i < length rays = omega (arith, zeros.each.as_many, third.row) in
    none i inside third.not_first third.not_second (λ m in_k first second.
    ((tells i inside).zeros m in_k).0 (third.covers m (omega (arith, in_k, (tells p in_p).wide)) (((tells p in_p).zeros m in_k).1 first) (((tells n in_n).zeros m in_k).1 second)))

pub crossing_from : (rows : List Row) (k : ℕ) (a : List ℤ) (rays : List (List ℤ)) (table : Table) (p n : ℕ) → IsZeroTable rows k rays table → IsCross (values_on a rays) table p n → IsCrossing rows k a rays p n
crossing_from rows k a rays table p n zeros h =
    let in_p : p < length rays = omega (arith, h.pair.first, length-values_on a rays) in
    let in_n : n < length rays = omega (arith, h.pair.second, length-values_on a rays) in
    record {
      opposite = record {
        first = in_p;
        second = in_n;
        above = subst (λ (z : ℤ). pos 0 <ℤ z) (value_at-values_on a rays p in_p) h.pair.above;
        below = subst (λ (z : ℤ). z <ℤ pos 0) (value_at-values_on a rays n in_n) h.pair.below;
      };
      adjacent = no_third_from rows k rays table p n zeros in_p in_n h.no_third;
    }

pub cross_from : (rows : List Row) (k : ℕ) (a : List ℤ) (rays : List (List ℤ)) (table : Table) (p n : ℕ) → IsZeroTable rows k rays table → IsCrossing rows k a rays p n → IsCross (values_on a rays) table p n
cross_from rows k a rays table p n zeros h = record {
  pair = record {
    first = omega (arith, h.opposite.first, length-values_on a rays);
    second = omega (arith, h.opposite.second, length-values_on a rays);
    above = subst (λ (z : ℤ). pos 0 <ℤ z) (sym (value_at-values_on a rays p h.opposite.first)) h.opposite.above;
    below = subst (λ (z : ℤ). z <ℤ pos 0) (sym (value_at-values_on a rays n h.opposite.second)) h.opposite.below;
  };
  no_third = has_third_to rows k rays table p n zeros h.opposite.first h.opposite.second h.adjacent;
}

sign_one : (u v : ℤ) → pos 0 <ℤ u → sign u *ℤ v ≡ v
sign_one u v h = sym (sign_above u v h)

made_from : (a p n r : List ℤ) → pos 0 <ℤ dot a p → length n ≡ length p → IsCombined (dot a p) (dot a n) p n r → IsMade a p n r
made_from a p n r above wide h = record {
  pair = record {
    times = h.times;
    positive = h.positive;
    same = λ j. h.same j ∙ ap (λ (x : ℤ). x *ℤ cell n j -ℤ (sign (dot a p) *ℤ dot a n) *ℤ cell p j) (magnitude-positive (dot a p) above) ∙ ap (λ (x : ℤ). dot a p *ℤ cell n j -ℤ x *ℤ cell p j) (sign_one (dot a p) (dot a n) above);
  };
  wide = h.wide ∙ wide;
  primitive = h.primitive;
}

-- all of the step with pairs of rays
pub ray_step_from : (width : ℕ) (rows : List Row) (k : ℕ) (a : List ℤ) (eq : Bool) (rays new : List Row) (table : Table) (pairs : List (ℕ × ℕ)) → ((i : ℕ) → i < length rays → length (row_at rays i) ≡ width) → IsZeroTable rows k (vectors rays) table → AreAllCrosses (values_on a (vectors rays)) table pairs → IsRayChange (values_on a (vectors rays)) (map (λ value. stays eq value) (values_on a (vectors rays))) pairs rays new → IsRayStep rows k (a, eq) (vectors rays) (vectors new)
ray_step_from width rows k a eq rays new table pairs wide zeros crosses h =
    let vs : List (List ℤ) = vectors rays in
    let same : length (vectors h.made) ≡ length pairs = omega (arith, length-vectors h.made, h.is_made.as_many) in
    record {
      pairs = pairs;
      made = vectors h.made;
      result = h.result ∙ ap (λ xs. xs ++ vectors h.made) (marked_map (stays eq) a vs);
      cross = λ i below. crossing_from rows k a vs table (pair_at pairs i).0 (pair_at pairs i).1 zeros (crosses.each i below);
      all = λ p n is. crosses.all p n (cross_from rows k a vs table p n zeros is);
      distinct = crosses.distinct;
      each_made = record {
        as_many = same;
        each = λ i d e below.
            let p : ℕ = (pair_at pairs i).0 in
            let n : ℕ = (pair_at pairs i).1 in
            let cross = crosses.each i below in
            let in_p : p < length vs = omega (arith, cross.pair.first, length-values_on a vs) in
            let in_n : n < length vs = omega (arith, cross.pair.second, length-values_on a vs) in
            let P : ℕ × ℕ → Type 0 = λ pair. IsMadeOf a vs pair (get_or (vectors h.made) i e) in
            let Q : List ℤ → Type 0 = λ r. IsMade a (vector_at vs p) (vector_at vs n) r in
            let R : List ℤ → Type 0 = λ w. IsCombined (dot a (vector_at vs p)) (dot a (vector_at vs n)) w (vector_at vs n) (row_at h.made i) in
            let S : List ℤ → Type 0 = λ w. IsCombined (dot a (vector_at vs p)) (dot a (vector_at vs n)) (row_at rays p) w (row_at h.made i) in
            let above : pos 0 <ℤ dot a (vector_at vs p) = subst (λ (z : ℤ). pos 0 <ℤ z) (value_at-values_on a vs p in_p) cross.pair.above in
            let both_wide : length (vector_at vs n) ≡ length (vector_at vs p) = ap length (vector_at-vectors rays n) ∙ wide n (omega (arith, in_n, length-vectors rays)) ∙ sym (ap length (vector_at-vectors rays p) ∙ wide p (omega (arith, in_p, length-vectors rays))) in
            let combined : IsCombined (dot a (vector_at vs p)) (dot a (vector_at vs n)) (vector_at vs p) (vector_at vs n) (row_at h.made i) =
            subst R (sym (vector_at-vectors rays p)) (subst S (sym (vector_at-vectors rays n)) (combined_along _ _ (dot a (vector_at vs p)) (dot a (vector_at vs n)) (row_at rays p) (row_at rays n) (row_at h.made i) (sym (value_at-values_on a vs p in_p)) (sym (value_at-values_on a vs n in_n)) (h.is_made.each i below))) in
            subst P (get_or_default pairs i (0, 0) d below)
            (subst Q (sym (vector_at-vectors h.made i) ∙ get_or_default (vectors h.made) i [] e (omega (arith, same, below))) (made_from a (vector_at vs p) (vector_at vs n) (row_at h.made i) above both_wide combined));
      };
    }

-- ---- the table after a step
-- a positive multiple of one number is a positive multiple of another: one is 0 where the other is
zero_both : (m x n y : ℤ) → pos 0 <ℤ m → pos 0 <ℤ n → m *ℤ x ≡ n *ℤ y → (x ≡ pos 0) ↔ (y ≡ pos 0)
zero_both m x n y m_above n_above e = (
  (λ z. zero_of_mul n y n_above (sym e ∙ ap (λ w. m *ℤ w) z ∙ mul-zero m)),
  (λ z. zero_of_mul m x m_above (e ∙ ap (λ w. n *ℤ w) z ∙ mul-zero n)),
)

beside_zero : (x t y : ℤ) → y ≡ pos 0 → x +ℤ t *ℤ y ≡ x
beside_zero x t y e = let f : t *ℤ y ≡ pos 0 = ap (λ z. t *ℤ z) e ∙ mul-zero t in omega (arith, ints, f)

minus_is : (n w c l : ℤ) → n *ℤ w -ℤ c *ℤ l ≡ n *ℤ w +ℤ neg_ℤ c *ℤ l
minus_is n w c l = let f : neg_ℤ c *ℤ l ≡ neg_ℤ (c *ℤ l) = neg-mul c l in omega (arith, ints, f)

-- another row is 0 on a lowered vector exactly where it is 0 on the old one, if it is 0 on the line
lowered_zero_on : (a b l w r : List ℤ) → IsLowered a l w r → dot a l ≢ pos 0 → dot b l ≡ pos 0 → (dot b r ≡ pos 0) ↔ (dot b w ≡ pos 0)
lowered_zero_on a b l w r h crosses flat =
    let n : ℤ = pos (unsigned_abs (dot a l)) in
    let c : ℤ = sign (dot a l) *ℤ dot a w in
    let sum : IsSumOf r n w (neg_ℤ c) l = record { times = h.lowered.times; positive = h.lowered.positive; same = λ j. h.lowered.same j ∙ minus_is n (cell w j) c (cell l j) } in
    zero_both h.lowered.times (dot b r) n (dot b w) h.lowered.positive (omega (arith, ints, magnitude_above (dot a l) crosses)) (dot_sum b r n w (neg_ℤ c) l sum ∙ beside_zero (n *ℤ dot b w) (neg_ℤ c) (dot b l) flat)

-- the row itself is 0 on a lowered vector
cancels : (s u v : ℤ) → (s *ℤ u) *ℤ v +ℤ neg_ℤ (s *ℤ v) *ℤ u ≡ pos 0
cancels s u v = simp ring (omega (arith, ints))

lowered_on_row : (a l w r : List ℤ) → IsLowered a l w r → dot a r ≡ pos 0
lowered_on_row a l w r h =
    let n : ℤ = pos (unsigned_abs (dot a l)) in
    let c : ℤ = sign (dot a l) *ℤ dot a w in
    let sum : IsSumOf r n w (neg_ℤ c) l = record { times = h.lowered.times; positive = h.lowered.positive; same = λ j. h.lowered.same j ∙ minus_is n (cell w j) c (cell l j) } in
    zero_of_mul h.lowered.times (dot a r) h.lowered.positive
    (dot_sum a r n w (neg_ℤ c) l sum ∙ ap (λ x. x *ℤ dot a w +ℤ neg_ℤ c *ℤ dot a l) (sym (sign_times (dot a l))) ∙ cancels (sign (dot a l)) (dot a l) (dot a w))

-- one column more tells one row more
pub tells_more : (rows : List Row) (k : ℕ) (v w : List ℤ) (bits new : List Bool) (bit : Bool) → TellsZeros rows k v bits → new ≡ bits ++ bit ∷ [] → ((j : ℕ) → j < k → (dot (row_at rows j) w ≡ pos 0) ↔ (dot (row_at rows j) v ≡ pos 0)) → IsTrue bit ↔ (dot (row_at rows k) w ≡ pos 0) → TellsZeros rows (k + 1) w new
tells_more rows k v w bits new bit h is same last = record {
  wide = ap length is ∙ omega (arith, length_push bits bit, h.wide);
  zeros = λ j below.
      elim (cases_lt j k) [
        | inl less ↦
            let at : get_or new j false ≡ get_or bits j false = ap (λ bs. get_or bs j false) is ∙ get_or_append_left bits (bit ∷ []) false j (omega (arith, h.wide)) in
            ((λ t. (same j less).1 ((h.zeros j less).0 (sym at ∙ t))), (λ z. at ∙ (h.zeros j less).1 ((same j less).0 z)))
        | inr more ↦
            let here : j ≡ k = omega arith in
            let at : get_or new j false ≡ bit = ap (λ bs. get_or bs j false) is ∙ get_or_push bits bit false j (omega (arith, h.wide, here)) in
            let P : ℕ → Type 0 = λ m. IsTrue (get_or new j false) ↔ (dot (row_at rows m) w ≡ pos 0) in
            subst P (sym here) ((λ t. last.0 (sym at ∙ t)), (λ z. at ∙ last.1 z))
      ];
}

always_true : (x : ℤ) → x ≡ pos 0 → IsTrue true ↔ (x ≡ pos 0)
always_true x e = ((λ t. e), (λ z. refl))

-- the row of the table for the line that became a ray
pub tells_upward : (rows : List Row) (k : ℕ) (w : List ℤ) (columns : ℕ) → columns ≡ k + 1 → ((j : ℕ) → j < k → dot (row_at rows j) w ≡ pos 0) → dot (row_at rows k) w ≢ pos 0 → TellsZeros rows (k + 1) w (set (replicate columns true) (columns - 1) false)
tells_upward rows k w columns size flat crosses = record {
  wide = length-set (replicate columns true) (columns - 1) false ∙ length-replicate columns true ∙ size;
  zeros = λ j below.
      elim (cases_lt j k) [
        | inl less ↦
            let at : get_or (set (replicate columns true) (columns - 1) false) j false ≡ true = get_or-set_other (replicate columns true) (columns - 1) j false false (let ne : j ≢ columns - 1 = omega (arith, size) in ne) ∙ get_or-replicate columns j true false (omega (arith, size)) in
            ((λ t. flat j less), (λ z. at))
        | inr more ↦
            let here : j ≡ k = omega arith in
            let at : get_or (set (replicate columns true) (columns - 1) false) j false ≡ false = ap (λ m. get_or (set (replicate columns true) (columns - 1) false) m false) (let e : j ≡ columns - 1 = omega (arith, size) in e) ∙ get_or-set_same (replicate columns true) (columns - 1) false false (omega (arith, size, length-replicate columns true)) in
            let P : ℕ → Type 0 = λ m. IsTrue (get_or (set (replicate columns true) (columns - 1) false) j false) ↔ (dot (row_at rows m) w ≡ pos 0) in
            subst P (sym here) ((λ t. absurd (false≢true (sym at ∙ t))), (λ z. absurd (crosses z)))
      ];
}

-- the lists with all their rows, by index
pub pointwise_by_rows : (R : List ℤ → List Bool → Type 0) (vs : List (List ℤ)) (rows : List (List Bool)) → length rows ≡ length vs → ((i : ℕ) → i < length vs → R (vector_at vs i) (bits_of rows i)) → Pointwise R vs rows
pointwise_by_rows R vs rows same each = record {
  as_many = same;
  each = λ i d e below.
      let P : List ℤ → Type 0 = λ v. R v (get_or rows i e) in
      let Q : List Bool → Type 0 = λ b. R (vector_at vs i) b in
      subst P (get_or_default vs i [] d below) (subst Q (get_or_default rows i [] e (omega (arith, same, below))) (each i below));
}

upward_dot_on : (b a l : List ℤ) → dot b l ≡ pos 0 → dot b (upward a l) ≡ pos 0
upward_dot_on b a l e = dot-scale b (sign (dot a l)) l ∙ ap (λ x. sign (dot a l) *ℤ x) e ∙ mul-zero (sign (dot a l))

upward_crosses : (a l : List ℤ) → dot a l ≢ pos 0 → dot a (upward a l) ≢ pos 0
upward_crosses a l crosses e =
    let value : dot a (upward a l) ≡ pos (unsigned_abs (dot a l)) = dot-scale a (sign (dot a l)) l ∙ sign_times (dot a l) in
    let is : pos (unsigned_abs (dot a l)) ≡ pos 0 = sym value ∙ e in
    omega (arith, ints, magnitude_above (dot a l) crosses, is)

-- the rays that were lowered, and for an inequality the line
zeros_with_upward : (rows : List Row) (k : ℕ) (a : List ℤ) (eq : Bool) (line : List ℤ) (kept new_rays : List (List ℤ)) (middle : List (List Bool)) (columns : ℕ) (new : Table) → row_at rows k ≡ a → ((j : ℕ) → j < k → dot (row_at rows j) line ≡ pos 0) → dot a line ≢ pos 0 → new_rays ≡ kept ++ (if eq then [] else (upward a line ∷ [])) → Pointwise (TellsZeros rows (k + 1)) kept middle → new.columns ≡ k + 1 → columns ≡ k + 1 → (eq ≡ true → new.rows ≡ middle) → (eq ≡ false → new.rows ≡ middle ++ set (replicate columns true) (columns - 1) false ∷ []) → IsZeroTable rows (k + 1) new_rays new
zeros_with_upward rows k a true line kept new_rays middle columns new is_a flat crosses rays h wide size equality inequality = record {
  columns = wide;
  each =
      let P : List (List ℤ) → Type 0 = λ vs. Pointwise (TellsZeros rows (k + 1)) vs new.rows in
      let Q : List (List Bool) → Type 0 = λ bs. Pointwise (TellsZeros rows (k + 1)) kept bs in
      subst P (sym (rays ∙ append-nil kept)) (subst Q (sym (equality refl)) h);
}
zeros_with_upward rows k a false line kept new_rays middle columns new is_a flat crosses rays h wide size equality inequality = record {
  columns = wide;
  each =
      let P : List (List ℤ) → Type 0 = λ vs. Pointwise (TellsZeros rows (k + 1)) vs new.rows in
      let Q : List (List Bool) → Type 0 = λ bs. Pointwise (TellsZeros rows (k + 1)) (kept ++ upward a line ∷ []) bs in
      let last : List Bool = set (replicate columns true) (columns - 1) false in
      let tells : TellsZeros rows (k + 1) (upward a line) last =
      tells_upward rows k (upward a line) columns size (λ j below. upward_dot_on (row_at rows j) a line (flat j below)) (λ e. upward_crosses a line crosses (ap (λ b. dot b (upward a line)) (sym is_a) ∙ e)) in
      let one : Pointwise (TellsZeros rows (k + 1)) (upward a line ∷ []) (last ∷ []) = pointwise_cons (TellsZeros rows (k + 1)) (upward a line) [] last [] tells (record { as_many = refl; each = λ i d e below. absurd (omega (arith, below)) }) in
      subst P (sym rays) (subst Q (sym (inequality refl)) (pointwise_append (TellsZeros rows (k + 1)) kept (upward a line ∷ []) middle (last ∷ []) h one));
}

-- ---- after a step with a line
pub zeros_after_line : (rows : List Row) (k : ℕ) (a : List ℤ) (eq : Bool) (lines rays new_lines new_rays : List (List ℤ)) (old new : Table) → row_at rows k ≡ a → ((i j : ℕ) → i < length lines → j < k → dot (row_at rows j) (vector_at lines i) ≡ pos 0) → IsZeroTable rows k rays old → IsLineStep (a, eq) lines rays new_lines new_rays → HasLineStep eq old new → IsZeroTable rows (k + 1) new_rays new
zeros_after_line rows k a eq lines rays new_lines new_rays old new is_a flat zeros step table =
    let line : List ℤ = vector_at lines step.index in
    let size : length step.kept ≡ length rays = step.rays_lowered.as_many in
    let kept : Pointwise (TellsZeros rows (k + 1)) step.kept table.middle.rows =
    pointwise_by_rows (TellsZeros rows (k + 1)) step.kept table.middle.rows (omega (arith, size, table.column.as_many, zeros.each.as_many)) (λ i below.
    let inside : i < length rays = omega (arith, below, size) in
    let in_old : i < length old.rows = omega (arith, inside, zeros.each.as_many) in
    let lowered : IsLowered a line (vector_at rays i) (vector_at step.kept i) = step.rays_lowered.each i [] [] inside in
    let bit : get_or (replicate (length old.rows) true) i false ≡ true = get_or-replicate (length old.rows) i true false in_old in
    tells_more rows k (vector_at rays i) (vector_at step.kept i) (bits_of old.rows i) (bits_of table.middle.rows i) true (zeros.each.each i [] [] inside)
    (table.column.each i in_old ∙ ap (λ b. bits_of old.rows i ++ b ∷ []) bit)
    (λ j below_k. lowered_zero_on a (row_at rows j) line (vector_at rays i) (vector_at step.kept i) lowered step.crossing.crosses (flat step.index j step.crossing.below below_k))
    (always_true (dot (row_at rows k) (vector_at step.kept i)) (ap (λ b. dot b (vector_at step.kept i)) is_a ∙ lowered_on_row a line (vector_at rays i) (vector_at step.kept i) lowered))) in
    let columns : new.columns ≡ k + 1 = table.columns ∙ table.column.columns ∙ ap (λ n. n + 1) zeros.columns in
    zeros_with_upward rows k a eq line step.kept new_rays table.middle.rows table.middle.columns new is_a (λ j below. flat step.index j step.crossing.below below) step.crossing.crosses step.result kept columns (table.column.columns ∙ ap (λ n. n + 1) zeros.columns) table.equality table.inequality
