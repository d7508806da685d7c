-- The bipolar law: what every row of the dual cone admits is spanned. By induction on the list, with a system of the dual cone of its first vectors.
use Rattle.std.proofs.Common.{◌≡◌, ◌≢◌, ◌⊎◌, inl, inr, ℕ, zero, suc, ◌+◌, ◌<◌, ◌≤◌, List, [], ◌∷◌, length, slice_index_or, map, filter, Bool, true, false, not, cond, ℤ, pos, negsuc, ◌+ℤ◌, ◌-ℤ◌, ◌*ℤ◌, neg_ℤ, ◌≤ℤ◌, ◌<ℤ◌, unsigned_abs, All, refl, sym, ap, ◌∙◌, subst, arith}
use Rattle.std.proofs.lemmas.Int.{ints}
use Rattle.std.proofs.lemmas.List.Elements.{All-from_get_or, All-map, All-filter, filter_passes}
use Rattle.row_core.specs.Vectors.{cell, dot}
use Rattle.row_core.specs.Lists.{Row, vector_at}
use Rattle.cone_laws.specs.Cones.{Upto, Spans, negated}
use Rattle.cone_laws.specs.Steps.{IsRowAt, upward}
use Rattle.row_core.specs.Signs.{sign}
use Rattle.cone_laws.specs.StepLaws.{GeneratesUpto}
use Rattle.cone_laws.specs.Duality.{lines_of, rays_of, IsAdmitted}
use Rattle.row_core.proofs.Ring.{ring, magnitude_positive, mul-zero, same_or_not, square_positive}
use Rattle.cone_laws.proofs.Sums.{V, Among, SpansBy, none, sums_one_line, sums_one_ray, spans_sums, spans_more, spans_add, spans_of_multiple}
use Rattle.cone_laws.proofs.Columns.{dot_comm, dot-scale, dot-negated, length-scale}
use Rattle.cone_laws.proofs.Bridge.{In, from_sums}
use Rattle.cone_laws.proofs.Spanning.{at_least_zero_on_spanned}
use Rattle.cone_laws.proofs.UptoRows.{Asks, zero_asks, asks_least, IsSumOf, dot_sum, IsZeroOn, both_zero, scale_zero, upto_zero, upto_more}
use Rattle.cone_laws.proofs.LineSteps.{LowersTo, lowered_within, negated_lowered_within, upward_dot, not_negative}
use Rattle.cone_laws.proofs.OppositeRays.{Stands, pair_within, lines_stay}
use Rattle.cone_laws.proofs.Ratios.{shift}
use Rattle.cone_laws.proofs.Existence.{both, cell-both, length-both, lowered_row, lowers_row, pair_row, pairs_row, Crosses, AllFlat, crossing_or_flat, row_is_at}
use Rattle.cone_laws.proofs.StepExistence.{every_prefix}

-- ---- a vector whose product with itself is at most 0
square_least : (a : ℤ) → pos 0 ≤ℤ (a *ℤ a)
square_least (pos n) = omega (arith, ints)
square_least (negsuc n) = omega (arith, ints)

square_zero : (a : ℤ) → a *ℤ a ≡ pos 0 → a ≡ pos 0
square_zero a e = by_zero (same_or_not a (pos 0))
  where
    by_zero : (a ≡ pos 0) ⊎ (a ≢ pos 0) → a ≡ pos 0
    by_zero (inl h) = h
    by_zero (inr n) = absurd (omega (arith, ints, square_positive a n, e))

dot_least : (v : List ℤ) → pos 0 ≤ℤ dot v v
dot_least [] = omega (arith, ints)
dot_least (a ∷ v) = omega (arith, ints, square_least a, dot_least v)

pub dot_zero : (v : List ℤ) → dot v v ≤ℤ pos 0 → (j : ℕ) → cell v j ≡ pos 0
dot_zero [] h j = refl
dot_zero (a ∷ v) h zero = square_zero a (omega (arith, ints, square_least a, dot_least v, h))
dot_zero (a ∷ v) h (suc j) = dot_zero v (omega (arith, ints, square_least a, dot_least v, h)) j

-- ---- values of v on combinations
pub dot-both : (a : List ℤ) (s : ℤ) (u : List ℤ) (t : ℤ) (v : List ℤ) → dot a (both s u t v) ≡ s *ℤ dot a u +ℤ t *ℤ dot a v
dot-both a s u t v =
    let c : IsSumOf (both s u t v) s u t v = record { times = pos 1; positive = omega (arith, ints); same = λ j. omega (arith, ints, cell-both s u t v j) } in
    omega (arith, ints, dot_sum a (both s u t v) s u t v c)

-- the first k vectors of the list as lines and rays
abbrev pub entries_at : List Row → ℕ → V
entries_at vectors i = cell (slice_index_or vectors i ([], false)).0

-- the numbers below k whose vectors are marked so
abbrev pub Marked : Bool → List Row → ℕ → ℕ → Type 0
Marked b vectors k i = (i < k) × ((slice_index_or vectors i ([], false)).1 ≡ b)

abbrev pub LinesOf : List Row → ℕ → V → Type 0
LinesOf vectors k = Among (entries_at vectors) (Marked true vectors k)

abbrev pub RaysOf : List Row → ℕ → V → Type 0
RaysOf vectors k = Among (entries_at vectors) (Marked false vectors k)

-- ---- how much of the next vector is to be taken away
-- what is left of times v is at least 0 on the rays of the system, and 0 on its lines
record Shifted (g v : List ℤ) (eq : Bool) (lines rays : List (List ℤ)) : Type 0 where
  times : ℤ
  positive : pos 0 <ℤ times
  part : ℤ
  upward : eq ≡ false → pos 0 ≤ℤ part
  on_lines : (i : ℕ) → i < length lines → times *ℤ dot v (vector_at lines i) -ℤ part *ℤ dot g (vector_at lines i) ≡ pos 0
  on_rays : (i : ℕ) → i < length rays → pos 0 ≤ℤ (times *ℤ dot v (vector_at rays i) -ℤ part *ℤ dot g (vector_at rays i))

-- every row of the cone is at least 0 on v
abbrev AdmitsAll : ℕ → List Row → ℕ → List ℤ → Type 0
AdmitsAll width vectors k v = (a : List ℤ) → Upto width vectors k a → pos 0 ≤ℤ dot v a

both_signs : (x y : ℤ) → pos 0 ≤ℤ x → pos 0 ≤ℤ y → y ≡ neg_ℤ x → x ≡ pos 0
both_signs x y h k e = omega (arith, ints)

lowered_difference : (m vw s gw vl x : ℤ) → x ≡ m *ℤ vw +ℤ neg_ℤ (s *ℤ gw) *ℤ vl → x ≡ m *ℤ vw -ℤ (s *ℤ vl) *ℤ gw
lowered_difference m vw s gw vl x e = e ∙ simp ring

pair_difference : (gp vn gn vp x : ℤ) → x ≡ gp *ℤ vn +ℤ neg_ℤ gn *ℤ vp → x ≡ gp *ℤ vn -ℤ gn *ℤ vp
pair_difference gp vn gn vp x e = e ∙ simp ring

nothing_left : (t y p x : ℤ) → y ≡ pos 0 → x ≡ pos 0 → t *ℤ y -ℤ p *ℤ x ≡ pos 0
nothing_left t y p x e f =
    let g = ap (λ (z : ℤ). t *ℤ z) e ∙ mul-zero t in
    let h = ap (λ (z : ℤ). p *ℤ z) f ∙ mul-zero p in
    omega (arith, ints, g, h)

module _ (width : ℕ) (vectors : List Row) (k : ℕ) (g : List ℤ) (eq : Bool) (at : IsRowAt vectors k (g, eq)) (v : List ℤ) (admits : AdmitsAll width vectors (k + 1) v) (lines rays : List (List ℤ)) (system : GeneratesUpto width vectors k lines rays) where
  line_in : (i : ℕ) → i < length lines → Upto width vectors k (vector_at lines i) × Upto width vectors k (negated (vector_at lines i))
  line_in i h = system.generates.lines_within i [] h

  ray_in : (i : ℕ) → i < length rays → Upto width vectors k (vector_at rays i)
  ray_in i h = system.generates.rays_within i [] h

  -- v is 0 on what is in the cone with both signs
  both_admit : (a : List ℤ) → Upto width vectors (k + 1) a → Upto width vectors (k + 1) (negated a) → dot v a ≡ pos 0
  both_admit a u n = both_signs (dot v a) (dot v (negated a)) (admits a u) (admits (negated a) n) (dot-negated v a)

  -- a line of the dual system isn't 0 on the next vector
  module _ (c : Crosses g lines) where
    abbrev l : List ℤ
    l = vector_at lines c.index

    zero_on_l : IsZeroOn vectors k (vector_at lines c.index)
    zero_on_l = both_zero width vectors k l (line_in c.index c.below).0 (line_in c.index c.below).1

    lowers_to : (w : List ℤ) → Upto width vectors k w → LowersTo g (vector_at lines c.index) w (lowered_row g (vector_at lines c.index) w)
    lowers_to w u = lowers_row g l w (u.wide ∙ sym (line_in c.index c.below).0.wide)

    lowered_in : (w : List ℤ) → Upto width vectors k w → Upto width vectors (k + 1) (lowered_row g (vector_at lines c.index) w)
    lowered_in w u = lowered_within width vectors k g eq at l w (lowered_row g l w) (lowers_to w u) zero_on_l u

    lowered_value : (w : List ℤ) → dot v (lowered_row g (vector_at lines c.index) w) ≡ pos (unsigned_abs (dot g (vector_at lines c.index))) *ℤ dot v w -ℤ (sign (dot g (vector_at lines c.index)) *ℤ dot v (vector_at lines c.index)) *ℤ dot g w
    lowered_value w =
        lowered_difference (pos (unsigned_abs (dot g l))) (dot v w) (sign (dot g l)) (dot g w) (dot v l) (dot v (lowered_row g l w))
        (dot-both v (pos (unsigned_abs (dot g l))) w (neg_ℤ (sign (dot g l) *ℤ dot g w)) l)

    upward_in : eq ≡ false → Upto width vectors (k + 1) (upward g (vector_at lines c.index))
    upward_in e =
        upto_more width vectors k (g, eq) (upward g l) at
        (upto_zero width vectors k (upward g l) (length-scale (sign (dot g l)) l ∙ (line_in c.index c.below).0.wide) (scale_zero vectors k (sign (dot g l)) l zero_on_l))
        (subst (λ (b : Bool). Asks b (dot g (upward g l))) (sym e) (subst (λ (z : ℤ). pos 0 ≤ℤ z) (sym (upward_dot g l)) (not_negative (unsigned_abs (dot g l)))))

    shifted_by_line : Shifted g v eq lines rays
    shifted_by_line = record {
      times = pos (unsigned_abs (dot g l));
      positive = magnitude_positive (dot g l) c.crosses;
      part = sign (dot g l) *ℤ dot v l;
      upward = λ e. subst (λ (z : ℤ). pos 0 ≤ℤ z) (dot-scale v (sign (dot g l)) l) (admits (upward g l) (upward_in e));
      on_lines = λ i h.
          let w = vector_at lines i in
          sym (lowered_value w) ∙ both_admit (lowered_row g l w) (lowered_in w (line_in i h).0) (negated_lowered_within width vectors k g eq at l w (lowered_row g l w) (lowers_to w (line_in i h).0) zero_on_l (line_in i h).0 (line_in i h).1);
      on_rays = λ i h.
          let w = vector_at rays i in
          subst (λ (z : ℤ). pos 0 ≤ℤ z) (lowered_value w) (admits (lowered_row g l w) (lowered_in w (ray_in i h)));
    }

  -- all lines are 0 on it
  module _ (flat : AllFlat g lines) where
    v_flat : (i : ℕ) → i < length lines → dot v (vector_at lines i) ≡ pos 0
    v_flat i h =
        let m = lines_stay width vectors k g lines rays system.generates flat eq at i [] h in
        both_admit (vector_at lines i) m.0 m.1

    stays_above : (i : ℕ) → i < length rays → Asks eq (dot g (vector_at rays i)) → pos 0 ≤ℤ dot v (vector_at rays i)
    stays_above i h s = admits (vector_at rays i) (upto_more width vectors k (g, eq) (vector_at rays i) at (ray_in i h) s)

    pairs_above : (p n : ℕ) → p < length rays → n < length rays → pos 0 <ℤ dot g (vector_at rays p) → dot g (vector_at rays n) <ℤ pos 0 → pos 0 ≤ℤ (dot g (vector_at rays p) *ℤ dot v (vector_at rays n) -ℤ dot g (vector_at rays n) *ℤ dot v (vector_at rays p))
    pairs_above p n hp hn above below =
        let a = vector_at rays p in
        let b = vector_at rays n in
        let r = pair_row g a b in
        let w : length r ≡ width = length-both (dot g a) b (neg_ℤ (dot g b)) a ((ray_in n hn).wide ∙ sym (ray_in p hp).wide) ∙ (ray_in p hp).wide in
        let e : dot v r ≡ dot g a *ℤ dot v b -ℤ dot g b *ℤ dot v a = pair_difference (dot g a) (dot v b) (dot g b) (dot v a) (dot v r) (dot-both v (dot g a) b (neg_ℤ (dot g b)) a) in
        subst (λ (z : ℤ). pos 0 ≤ℤ z) e (admits r (pair_within width vectors k g eq at a b r above below (pairs_row g a b) w (ray_in p hp) (ray_in n hn)))

    level_above : (i : ℕ) → i < length rays → dot g (vector_at rays i) ≡ pos 0 → pos 0 ≤ℤ dot v (vector_at rays i)
    level_above i h e = stays_above i h (zero_asks eq (dot g (vector_at rays i)) e)

    upper_above : eq ≡ false → (i : ℕ) → i < length rays → pos 0 <ℤ dot g (vector_at rays i) → pos 0 ≤ℤ dot v (vector_at rays i)
    upper_above e i h s = stays_above i h (subst (λ (b : Bool). Asks b (dot g (vector_at rays i))) (sym e) (positive_least (dot g (vector_at rays i)) s))
      where
        positive_least : (x : ℤ) → pos 0 <ℤ x → pos 0 ≤ℤ x
        positive_least x h = omega (arith, ints)

    shifted_by_ratio : Shifted g v eq lines rays
    shifted_by_ratio =
        let s = shift (length rays) (λ i. dot g (vector_at rays i)) (λ i. dot v (vector_at rays i)) level_above pairs_above in
        record {
          times = s.times;
          positive = s.positive;
          part = s.part;
          upward = λ e. s.upward (upper_above e);
          on_lines = λ i h. nothing_left s.times (dot v (vector_at lines i)) s.part (dot g (vector_at lines i)) (v_flat i h) (flat i h);
          on_rays = s.shifted;
        }

  shifted_by : Crosses g lines ⊎ AllFlat g lines → Shifted g v eq lines rays
  shifted_by (inl c) = shifted_by_line c
  shifted_by (inr f) = shifted_by_ratio f

  shifted : Shifted g v eq lines rays
  shifted = shifted_by (crossing_or_flat g lines)

-- ---- the induction
left_dot : (s : ℤ) (u : List ℤ) (t : ℤ) (w a : List ℤ) → dot (both s u (neg_ℤ t) w) a ≡ s *ℤ dot u a -ℤ t *ℤ dot w a
left_dot s u t w a =
    dot_comm (both s u (neg_ℤ t) w) a ∙ dot-both a s u (neg_ℤ t) w ∙ as_difference s (dot a u) (dot u a) t (dot a w) (dot w a) (dot_comm a u) (dot_comm a w)
  where
    as_difference : (s x y t z w : ℤ) → x ≡ y → z ≡ w → s *ℤ x +ℤ neg_ℤ t *ℤ z ≡ s *ℤ y -ℤ t *ℤ w
    as_difference s x y t z w e f =
        let g = ap (λ (n : ℤ). s *ℤ n) e in
        let h = ap (λ (n : ℤ). neg_ℤ t *ℤ n) f in
        let i : neg_ℤ t *ℤ w ≡ neg_ℤ (t *ℤ w) = simp ring in
        omega (arith, ints, g, h, i)

admits_rest : (width : ℕ) (vectors : List Row) (k : ℕ) (g v : List ℤ) (eq : Bool) (lines rays : List (List ℤ)) → GeneratesUpto width vectors k lines rays → (s : Shifted g v eq lines rays) → AdmitsAll width vectors k (both s.times v (neg_ℤ s.part) g)
admits_rest width vectors k g v eq lines rays system s a u =
    at_least_zero_on_spanned (both s.times v (neg_ℤ s.part) g) lines rays a
    (All-from_get_or (λ l. dot (both s.times v (neg_ℤ s.part) g) l ≡ pos 0) lines [] (λ i h. left_dot s.times v s.part g (vector_at lines i) ∙ s.on_lines i h))
    (All-from_get_or (λ r. pos 0 ≤ℤ dot (both s.times v (neg_ℤ s.part) g) r) rays [] (λ i h. subst (λ (z : ℤ). pos 0 ≤ℤ z) (sym (left_dot s.times v s.part g (vector_at rays i))) (s.on_rays i h)))
    (system.generates.spans a u)

-- the first vectors are among one more
lines_more : (vectors : List Row) (k : ℕ) (v : V) → LinesOf vectors k v → LinesOf vectors (suc k) v
lines_more vectors k v m = record { index = m.index; is = (omega (arith, m.is.0), m.is.1); same = m.same }

rays_more : (vectors : List Row) (k : ℕ) (v : V) → RaysOf vectors k v → RaysOf vectors (suc k) v
rays_more vectors k v m = record { index = m.index; is = (omega (arith, m.is.0), m.is.1); same = m.same }

part_spanned : (vectors : List Row) (k : ℕ) (part : ℤ) (eq : Bool) → (slice_index_or vectors k ([], false)).1 ≡ eq → (eq ≡ false → pos 0 ≤ℤ part) → SpansBy (LinesOf vectors (suc k)) (RaysOf vectors (suc k)) (λ j. part *ℤ entries_at vectors k j)
part_spanned vectors k part true e p =
    spans_sums (λ j. part *ℤ entries_at vectors k j)
    (sums_one_line part (entries_at vectors k) (λ j. part *ℤ entries_at vectors k j) (record { index = k; is = (omega arith, e); same = λ j. refl }) (λ j. refl))
part_spanned vectors k part false e p =
    spans_sums (λ j. part *ℤ entries_at vectors k j)
    (sums_one_ray part (entries_at vectors k) (λ j. part *ℤ entries_at vectors k j) (p refl) (record { index = k; is = (omega arith, e); same = λ j. refl }) (λ j. refl))

rest_and_part : (x t v p g : ℤ) → x ≡ t *ℤ v +ℤ neg_ℤ p *ℤ g → t *ℤ v ≡ pos 1 *ℤ x +ℤ pos 1 *ℤ (p *ℤ g)
rest_and_part x t v p g e = let f : neg_ℤ p *ℤ g ≡ neg_ℤ (p *ℤ g) = simp ring in omega (arith, ints, e, f)

spanned_by_first : (width : ℕ) (vectors : List Row) → ((i : ℕ) → i < length vectors → length (slice_index_or vectors i ([], false)).0 ≡ width) → (k : ℕ) → k ≤ length vectors → (v : List ℤ) → length v ≡ width → AdmitsAll width vectors k v → SpansBy (LinesOf vectors k) (RaysOf vectors k) (cell v)
spanned_by_first width vectors wide zero h v w admits =
    let n : pos 0 ≤ℤ dot v (negated v) = admits (negated v) (record { wide = length-scale (neg_ℤ (pos 1)) v ∙ w; meets = λ m d low high. absurd (omega arith) }) in
    spans_sums (cell v) (none (dot_zero v (omega (arith, ints, n, dot-negated v v))))
spanned_by_first width vectors wide (suc k) h v w admits =
    let row = slice_index_or vectors k ([], false) in
    let b : k < length vectors = omega arith in
    let sys = every_prefix width vectors k (omega arith) in
    let admits_more : AdmitsAll width vectors (k + 1) v = subst (λ (n : ℕ). AdmitsAll width vectors n v) (omega arith) admits in
    let s = shifted width vectors k row.0 row.1 (row_is_at vectors k b) v admits_more sys.lines sys.rays (record { generates = sys.system.generates; lineality = sys.system.lineality }) in
    let x : List ℤ = both s.times v (neg_ℤ s.part) row.0 in
    let x_wide : length x ≡ width = length-both s.times v (neg_ℤ s.part) row.0 (w ∙ sym (wide k b)) ∙ wide k b in
    let t = spanned_by_first width vectors wide k (omega arith) x x_wide (admits_rest width vectors k row.0 v row.1 sys.lines sys.rays (record { generates = sys.system.generates; lineality = sys.system.lineality }) s) in
    spans_of_multiple s.times (cell v) (λ j. s.times *ℤ cell v j) s.positive
    (spans_add (pos 1) (pos 1) (cell x) (λ j. s.part *ℤ entries_at vectors k j) (λ j. s.times *ℤ cell v j) (omega (arith, ints)) (omega (arith, ints))
    (spans_more (lines_more vectors k) (rays_more vectors k) (cell x) t)
    (part_spanned vectors k s.part row.1 refl s.upward)
    (λ j. rest_and_part (cell x j) s.times (cell v j) s.part (cell row.0 j) (cell-both s.times v (neg_ℤ s.part) row.0 j)))
    (λ j. refl)

-- ---- over lists
stands_by : (b : Bool) (x : List ℤ) (xs : List Row) (e : Bool) (v : List ℤ) → Stands (map (λ g. g.0) xs) v → Stands (map (λ g. g.0) (cond b ((x, e) ∷ xs) xs)) v
stands_by true x xs e v s = record { place = suc s.place; below = omega (arith, s.below); same = s.same }
stands_by false x xs e v s = s

entry_stands : (test : Row → Bool) (vectors : List Row) (i : ℕ) → i < length vectors → test (slice_index_or vectors i ([], false)) ≡ true → Stands (map (λ g. g.0) (filter test vectors)) (slice_index_or vectors i ([], false)).0
entry_stands test [] i h e = absurd (omega arith)
entry_stands test (x ∷ xs) zero h e =
    subst (λ (b : Bool). Stands (map (λ g. g.0) (cond b (x ∷ filter test xs) (filter test xs))) x.0) (sym e) (record { place = 0; below = omega arith; same = refl })
entry_stands test (x ∷ xs) (suc i) h e = stands_by (test x) x.0 (filter test xs) x.1 (slice_index_or xs i ([], false)).0 (entry_stands test xs i (omega arith) e)

line_listed : (vectors : List Row) (v : V) → LinesOf vectors (length vectors) v → In (lines_of vectors) v
line_listed vectors v m =
    let s = entry_stands (λ g. g.1) vectors m.index m.is.0 m.is.1 in
    record { index = s.place; is = s.below; same = λ j. m.same j ∙ ap (λ (u : List ℤ). cell u j) s.same }

ray_listed : (vectors : List Row) (v : V) → RaysOf vectors (length vectors) v → In (rays_of vectors) v
ray_listed vectors v m =
    let s = entry_stands (λ g. not g.1) vectors m.index m.is.0 (ap not m.is.1) in
    record { index = s.place; is = s.below; same = λ j. m.same j ∙ ap (λ (u : List ℤ). cell u j) s.same }

pub admitted_is_spanned : (width : ℕ) (vectors : List Row) (v : List ℤ) → All (λ g. length g.0 ≡ width) vectors → length v ≡ width → IsAdmitted width vectors v → Spans (lines_of vectors) (rays_of vectors) v
admitted_is_spanned width vectors v wide w admitted =
    from_sums (lines_of vectors) (rays_of vectors) v
    (spans_more (line_listed vectors) (ray_listed vectors) (cell v)
    (spanned_by_first width vectors (λ i h. wide i ([], false) h) (length vectors) (omega arith) v w
    (λ a u. subst (λ (z : ℤ). pos 0 ≤ℤ z) (dot_comm a v) (admitted a u))))

-- ---- the converse
map_all : (P : List ℤ → Type 0) (xs : List Row) → All (λ g. P g.0) xs → All P (map (λ g. g.0) xs)
map_all P xs h = All-map P (λ g. g.0) xs h

pub spanned_is_admitted : (width : ℕ) (vectors : List Row) (v : List ℤ) → Spans (lines_of vectors) (rays_of vectors) v → IsAdmitted width vectors v
spanned_is_admitted width vectors v s a u =
    at_least_zero_on_spanned a (lines_of vectors) (rays_of vectors) v
    (map_all (λ l. dot a l ≡ pos 0) (filter (λ g. g.1) vectors) line_zero)
    (map_all (λ r. pos 0 ≤ℤ dot a r) (filter (λ g. not g.1) vectors) ray_least)
    s
  where
    meets : All (λ g. Asks g.1 (dot g.0 a)) vectors
    meets i d h = u.meets i d (omega arith) h

    zero_by : (g : Row) → Asks g.1 (dot g.0 a) → g.1 ≡ true → dot a g.0 ≡ pos 0
    zero_by g h e = dot_comm a g.0 ∙ subst (λ (b : Bool). Asks b (dot g.0 a)) e h

    least_by : (g : Row) → Asks g.1 (dot g.0 a) → pos 0 ≤ℤ dot a g.0
    least_by g h = subst (λ (z : ℤ). pos 0 ≤ℤ z) (dot_comm g.0 a) (asks_least g.1 (dot g.0 a) h)

    line_zero : All (λ g. dot a g.0 ≡ pos 0) (filter (λ g. g.1) vectors)
    line_zero i d h = zero_by (slice_index_or (filter (λ g. g.1) vectors) i d) (All-filter (λ g. g.1) (λ g. Asks g.1 (dot g.0 a)) vectors meets i d h) (filter_passes (λ g. g.1) vectors i d h)

    ray_least : All (λ g. pos 0 ≤ℤ dot a g.0) (filter (λ g. not g.1) vectors)
    ray_least i d h = least_by (slice_index_or (filter (λ g. not g.1) vectors) i d) (All-filter (λ g. not g.1) (λ g. Asks g.1 (dot g.0 a)) vectors meets i d h)
