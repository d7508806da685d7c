-- The universe: the axes as lines and the origin as a point, against no constraint.
use Rattle.std.proofs.Common.{◌≡◌, ◌≢◌, ◌⊎◌, inl, inr, refl, sym, ap, ◌∙◌, subst, ℕ, zero, suc, ◌+◌, ◌<◌, ◌≤◌, List, [], ◌∷◌, ◌++◌, length, map, replicate, set, not, cond, Bool, true, false, remove, ℤ, pos, neg_ℤ, ◌+ℤ◌, ◌*ℤ◌, ◌≤ℤ◌, ◌<ℤ◌, arith, All}
use Rattle.std.proofs.lemmas.Int.{ints}
use Rattle.std.proofs.lemmas.Bool.{cases_lt}
use Rattle.std.proofs.lemmas.List.{length_push, get_or_append_left, get_or_push, get_or_past}
use Rattle.std.proofs.lemmas.List.Elements.{All-nil, All-cons, All-head, All-from_get_or, All-get_or, All-append, All-map}
use Rattle.row_core.specs.Vectors.{cell, dot, combined}
use Rattle.row_core.specs.Content.{IsPrimitive}
use Rattle.row_core.specs.Range.{InRange, AllInRange}
use Rattle.cone_laws.specs.Cones.{Meets, Spans, negated}
use Rattle.cone_laws.specs.Canon.{vector_at, Canon, IsEchelon, IsPivot}
use Rattle.cone_laws.proofs.Columns.{cell-scale, length-scale}
use Rattle.cone_laws.proofs.EchelonForm.{primitive_from_one}
use Rattle.cons_sys.specs.Constraints.{Constraints}
use Rattle.cons_sys.specs.declared.kind.ConKind.TheVariants.{Ge}
use Rattle.gens_sys.specs.declared.kind.GenKind.TheVariants.{Line, Point}
use Rattle.gens_sys.specs.Generators.{Generator, Generators, vector_kind}
use Rattle.cone_laws.specs.Members.{ConeOf}
use Rattle.row_core.specs.Lists.{system_rows}
use Rattle.cone_laws.proofs.MemberLemmas.{cone_from, cone_meets}
use Rattle.stored_systems.specs.WorkLists.{divisor_row}
use Rattle.stored_systems.specs.StoredForms.{stored_constraints, stored_generators, AreClosedSystems, IsStored}
use Rattle.stored_systems.proofs.ListLemmas.{All-map_first, All-map_rest}
use Rattle.stored_systems.proofs.DivisorRow.{dot_divisor, length-divisor, cell-divisor_last, cell-divisor_other, divisor_primitive, is_divisor}
use Rattle.stored_systems.specs.Entries.{FitsKind}
use Rattle.stored_systems.specs.Axes.{axis, axes_upto}
use Rattle.stored_systems.proofs.FitLemmas.{zero_cells}

zeros_at : (n j : ℕ) → cell (replicate n (pos 0)) j ≡ pos 0
zeros_at zero j = refl
zeros_at (suc n) zero = refl
zeros_at (suc n) (suc j) = zeros_at n j

zero_times : (a : ℤ) → pos 0 *ℤ a ≡ pos 0
zero_times a = omega (arith, ints)

one_times : (a b : ℤ) → b ≡ pos 0 → (pos 1 *ℤ a) +ℤ b ≡ a
one_times a b e = omega (arith, ints, e)

no_times : (a b c : ℤ) → b ≡ c → (pos 0 *ℤ a) +ℤ b ≡ c
no_times a b c e = omega (arith, ints, e)

dot_zeros : (n : ℕ) (v : List ℤ) → dot (replicate n (pos 0)) v ≡ pos 0
dot_zeros zero v = refl
dot_zeros (suc n) [] = refl
dot_zeros (suc n) (a ∷ v) = no_times a (dot (replicate n (pos 0)) v) (pos 0) (dot_zeros n v)

pub axis_one : (n i : ℕ) → i < n → cell (axis n i) i ≡ pos 1
axis_one zero i h = absurd (omega arith)
axis_one (suc n) zero h = refl
axis_one (suc n) (suc i) h = axis_one n i (omega arith)

pub axis_other : (n i j : ℕ) → i < n → i ≢ j → cell (axis n i) j ≡ pos 0
axis_other zero i j h ne = absurd (omega arith)
axis_other (suc n) zero zero h ne = absurd (ne refl)
axis_other (suc n) zero (suc j) h ne = zeros_at (suc n) j
axis_other (suc n) (suc i) zero h ne = refl
axis_other (suc n) (suc i) (suc j) h ne = axis_other n i j (omega arith) (λ e. ne (ap suc e))

length-zeros : (n : ℕ) → length (replicate n (pos 0)) ≡ n
length-zeros zero = refl
length-zeros (suc n) = ap suc (length-zeros n)

pub length-axis : (n i : ℕ) → i < n → length (axis n i) ≡ n + 1
length-axis zero i h = absurd (omega arith)
length-axis (suc n) zero h = ap suc (length-zeros (suc n)) ∙ omega arith
length-axis (suc n) (suc i) h = ap suc (length-axis n i (omega arith)) ∙ omega arith

dot_axis : (n i : ℕ) (v : List ℤ) → i < n → dot (axis n i) v ≡ cell v i
dot_axis zero i v h = absurd (omega arith)
dot_axis (suc n) zero [] h = refl
dot_axis (suc n) zero (a ∷ v) h = one_times a (dot (replicate (suc n) (pos 0)) v) (dot_zeros (suc n) v)
dot_axis (suc n) (suc i) [] h = refl
dot_axis (suc n) (suc i) (a ∷ v) h = no_times a (dot (axis n i) v) (cell v i) (dot_axis n i v (omega arith))

pub set_axis : (n i : ℕ) → i < n → set (replicate (suc n) (pos 0)) i (pos 1) ≡ axis n i
set_axis zero i h = absurd (omega arith)
set_axis (suc n) zero h = refl
set_axis (suc n) (suc i) h = ap (λ (v : List ℤ). pos 0 ∷ v) (set_axis n i (omega arith))

pub axis_primitive : (n i : ℕ) → i < n → IsPrimitive (axis n i)
axis_primitive n i h = primitive_from_one (axis n i) i (omega (arith, h, length-axis n i h)) (axis_one n i h)

not_one : (z : ℤ) → z ≡ pos 0 → z ≡ pos 1 → ⊥
not_one z e f = omega (arith, ints)

pub axis_fits : (n i : ℕ) → i < n → FitsKind n (axis n i, Line)
axis_fits n i h = record {
  divisor = λ bad. bad (axis_other n i n h (λ e. omega (arith, e, h)));
  nonzero = λ z. not_one (cell (axis n i) i) (zero_cells Line (axis n i) z i) (axis_one n i h);
}

one_fits : (z : ℤ) → z ≡ pos 1 → z <ℤ pos 1 → ⊥
one_fits z e h = omega (arith, ints)

pub origin_fits : (n : ℕ) → FitsKind n (divisor_row n, Point)
origin_fits n = record { divisor = λ bad. one_fits (cell (divisor_row n) n) (cell-divisor_last n) bad; nonzero = λ z. z }

pub length-axes : (n k : ℕ) → length (axes_upto n k) ≡ k
length-axes n zero = refl
length-axes n (suc k) = omega (arith, length_push (axes_upto n k) (axis n k), length-axes n k)

axis_at : (n k i : ℕ) → i < k → vector_at (axes_upto n k) i ≡ axis n i
axis_at n zero i h = absurd (omega arith)
axis_at n (suc k) i h = by_place (λ l. axis_at n k i l) (cases_lt i k)
  where
    at_end : i ≡ k → vector_at (axes_upto n k ++ axis n k ∷ []) i ≡ axis n i
    at_end e = get_or_push (axes_upto n k) (axis n k) [] i (length-axes n k ∙ sym e) ∙ ap (λ (m : ℕ). axis n m) (sym e)

    by_place : (i < k → vector_at (axes_upto n k) i ≡ axis n i) → (i < k) ⊎ (k ≤ i) → vector_at (axes_upto n k ++ axis n k ∷ []) i ≡ axis n i
    by_place f (inl l) = get_or_append_left (axes_upto n k) (axis n k ∷ []) [] i (omega (arith, l, length-axes n k)) ∙ f l
    by_place f (inr m) = at_end (omega arith)

-- ---- sums of axes
combined_no : (v : List ℤ) (j : ℕ) → combined v [] j ≡ pos 0
combined_no [] j = refl
combined_no (a ∷ v) j = refl

last_sum : (p b c : ℤ) → b ≡ pos 0 → p +ℤ b ≡ pos 0 +ℤ p
last_sum p b c e = omega (arith, ints, e)

none_sum : (x : ℤ) → pos 0 ≡ pos 0 +ℤ (pos 0 *ℤ x)
none_sum x = omega (arith, ints)

more_sum : (p b c d : ℤ) → b ≡ c +ℤ d → p +ℤ b ≡ (p +ℤ c) +ℤ d
more_sum p b c d e = omega (arith, ints, e)

combined_push : (v : List ℤ) (xs : List (List ℤ)) (x : List ℤ) (j : ℕ) → combined v (xs ++ x ∷ []) j ≡ combined v xs j +ℤ (cell v (length xs) *ℤ cell x j)
combined_push [] [] x j = none_sum (cell x j)
combined_push [] (y ∷ xs) x j = none_sum (cell x j)
combined_push (a ∷ v) [] x j = last_sum (a *ℤ cell x j) (combined v [] j) (pos 0) (combined_no v j)
combined_push (a ∷ v) (y ∷ xs) x j = more_sum (a *ℤ cell y j) (combined v (xs ++ x ∷ []) j) (combined v xs j) (cell v (length xs) *ℤ cell x j) (combined_push v xs x j)

times_one : (s a b : ℤ) → s ≡ pos 0 → b ≡ pos 1 → s +ℤ (a *ℤ b) ≡ a
times_one s a b e f = omega (arith, ints, e, ap (λ (z : ℤ). a *ℤ z) f, by_one a)
  where
    by_one : (a : ℤ) → a *ℤ pos 1 ≡ a
    by_one a = omega (arith, ints)

times_zero : (s t a b : ℤ) → s ≡ t → b ≡ pos 0 → s +ℤ (a *ℤ b) ≡ t
times_zero s t a b e f = omega (arith, ints, e, ap (λ (z : ℤ). a *ℤ z) f, by_zero a)
  where
    by_zero : (a : ℤ) → a *ℤ pos 0 ≡ pos 0
    by_zero a = omega (arith, ints)

axes_past : (n k j : ℕ) (v : List ℤ) → k ≤ n → k ≤ j → combined v (axes_upto n k) j ≡ pos 0
axes_past n zero j v h l = combined_no v j
axes_past n (suc k) j v h l = combined_push v (axes_upto n k) (axis n k) j ∙ times_zero (combined v (axes_upto n k) j) (pos 0) (cell v (length (axes_upto n k))) (cell (axis n k) j) (axes_past n k j v (omega arith) (omega arith)) (axis_other n k j (omega arith) (λ e. omega (arith, e, l)))

axes_sum : (n k j : ℕ) (v : List ℤ) → k ≤ n → j < k → combined v (axes_upto n k) j ≡ cell v j
axes_sum n zero j v h l = absurd (omega arith)
axes_sum n (suc k) j v h l = combined_push v (axes_upto n k) (axis n k) j ∙ by_place (λ m. axes_sum n k j v (omega arith) m) (cases_lt j k)
  where
    here : j ≡ k → combined v (axes_upto n k) j +ℤ (cell v (length (axes_upto n k)) *ℤ cell (axis n k) j) ≡ cell v j
    here e = times_one (combined v (axes_upto n k) j) (cell v (length (axes_upto n k))) (cell (axis n k) j) (axes_past n k j v (omega arith) (omega (arith, e))) (ap (λ (m : ℕ). cell (axis n k) m) e ∙ axis_one n k (omega arith)) ∙ ap (λ (m : ℕ). cell v m) (length-axes n k ∙ sym e)

    by_place : (j < k → combined v (axes_upto n k) j ≡ cell v j) → (j < k) ⊎ (k ≤ j) → combined v (axes_upto n k) j +ℤ (cell v (length (axes_upto n k)) *ℤ cell (axis n k) j) ≡ cell v j
    by_place f (inl m) = times_zero (combined v (axes_upto n k) j) (cell v j) (cell v (length (axes_upto n k))) (cell (axis n k) j) (f m) (axis_other n k j (omega arith) (λ e. omega (arith, e, m)))
    by_place f (inr m) = here (omega arith)

-- ---- the two systems
module _ (n : ℕ) where
  abbrev axes : List (List ℤ)
  axes = axes_upto n n

  abbrev origin : List (List ℤ)
  origin = divisor_row n ∷ []

  abbrev Upper : List ℤ → Type 0
  Upper = ConeOf (n + 1) ((divisor_row n, false) ∷ [])

  abbrev Above : List ℤ → Type 0
  Above = ConeOf (n + 1) (system_rows (axes_upto n n) (divisor_row n ∷ []))

  one_at : cell (divisor_row n) n ≡ pos 1
  one_at = cell-divisor_last n

  upper_from : (v : List ℤ) → length v ≡ n + 1 → pos 0 ≤ℤ cell v n → Upper v
  upper_from v w h = cone_from (n + 1) ((divisor_row n, false) ∷ []) v w (All-cons (Meets v) (divisor_row n, false) [] (subst (λ (z : ℤ). pos 0 ≤ℤ z) (sym (dot_divisor n v)) h) (All-nil (Meets v)))

  upper_level : (v : List ℤ) → Upper v → pos 0 ≤ℤ cell v n
  upper_level v u = subst (λ (z : ℤ). pos 0 ≤ℤ z) (dot_divisor n v) (All-head (Meets v) (divisor_row n, false) [] (cone_meets (n + 1) ((divisor_row n, false) ∷ []) v u))

  least_zero : (z : ℤ) → z ≡ pos 0 → pos 0 ≤ℤ z
  least_zero z e = omega (arith, ints)

  least_one : (z : ℤ) → z ≡ pos 1 → pos 0 ≤ℤ z
  least_one z e = omega (arith, ints)

  negative_zero : (x z : ℤ) → x ≡ neg_ℤ (pos 1) *ℤ z → z ≡ pos 0 → x ≡ pos 0
  negative_zero x z e f = omega (arith, ints)

  both_zero : (x z : ℤ) → x ≡ neg_ℤ (pos 1) *ℤ z → pos 0 ≤ℤ x → pos 0 ≤ℤ z → z ≡ pos 0
  both_zero x z e f g = omega (arith, ints)

  level_axis : (i : ℕ) → i < n → cell (axis n i) n ≡ pos 0
  level_axis i h = axis_other n i n h (λ e. omega (arith, e, h))

  axis_both : (i : ℕ) → i < n → Upper (axis n i) × Upper (negated (axis n i))
  axis_both i h = (
    upper_from (axis n i) (length-axis n i h) (least_zero (cell (axis n i) n) (level_axis i h)),
    upper_from (negated (axis n i)) (length-scale (neg_ℤ (pos 1)) (axis n i) ∙ length-axis n i h) (least_zero (cell (negated (axis n i)) n) (negative_zero (cell (negated (axis n i)) n) (cell (axis n i) n) (cell-scale (neg_ℤ (pos 1)) (axis n i) n) (level_axis i h))),
  )

  axes_all : (P : List ℤ → Type 0) → ((i : ℕ) → i < n → P (axis n i)) → All P axes
  axes_all P f = All-from_get_or P axes [] (λ i h. subst P (sym (axis_at n n i (omega (arith, h, length-axes n n)))) (f i (omega (arith, h, length-axes n n))))

  origin_in : Upper (divisor_row n)
  origin_in = upper_from (divisor_row n) (length-divisor n) (least_one (cell (divisor_row n) n) one_at)

  abbrev share : List ℤ → ℕ → ℤ
  share v j = (cell v n *ℤ cell (divisor_row n) j) +ℤ pos 0

  sum_below : (a b s : ℤ) → b ≡ a → s ≡ pos 0 → pos 1 *ℤ a ≡ b +ℤ s
  sum_below a b s e f = omega (arith, ints)

  sum_at : (a b s : ℤ) → b ≡ pos 0 → s ≡ a → pos 1 *ℤ a ≡ b +ℤ s
  sum_at a b s e f = omega (arith, ints)

  share_other : (v : List ℤ) (j : ℕ) → j ≢ n → share v j ≡ pos 0
  share_other v j ne = zero_right (cell v n) (cell (divisor_row n) j) (cell-divisor_other n j ne)
    where
      zero_right : (a b : ℤ) → b ≡ pos 0 → (a *ℤ b) +ℤ pos 0 ≡ pos 0
      zero_right a b e = ap (λ (z : ℤ). (a *ℤ z) +ℤ pos 0) e ∙ omega (arith, ints)

  share_last : (v : List ℤ) → share v n ≡ cell v n
  share_last v = ap (λ (z : ℤ). (cell v n *ℤ z) +ℤ pos 0) one_at ∙ omega (arith, ints)

  past_end : (v : List ℤ) (j : ℕ) → length v ≡ n + 1 → n < j → cell v j ≡ pos 0
  past_end v j w h = get_or_past v j (pos 0) (omega (arith, w, h))

  sum_of : (v : List ℤ) → length v ≡ n + 1 → (j : ℕ) → pos 1 *ℤ cell v j ≡ combined v axes j +ℤ share v j
  sum_of v w j = by_place (cases_lt j n)
    where
      by_end : (j ≡ n) ⊎ (n < j) → pos 1 *ℤ cell v j ≡ combined v axes j +ℤ share v j
      by_end (inl e) = subst (λ (m : ℕ). pos 1 *ℤ cell v m ≡ combined v axes m +ℤ share v m) (sym e) (sum_at (cell v n) (combined v axes n) (share v n) (axes_past n n n v (omega arith) (omega arith)) (share_last v))
      by_end (inr l) = sum_below (cell v j) (combined v axes j) (share v j) (axes_past n n j v (omega arith) (omega arith) ∙ sym (past_end v j w l)) (share_other v j (λ e. omega (arith, e, l)))

      end_or_past : n ≤ j → (j ≡ n) ⊎ (n < j)
      end_or_past h = elim (cases_lt n j) [ inl l ↦ inr l | inr m ↦ inl (omega arith) ]

      by_place : (j < n) ⊎ (n ≤ j) → pos 1 *ℤ cell v j ≡ combined v axes j +ℤ share v j
      by_place (inl l) = sum_below (cell v j) (combined v axes j) (share v j) (axes_sum n n j v (omega arith) l) (share_other v j (λ e. omega (arith, e, l)))
      by_place (inr m) = by_end (end_or_past m)

  upper_spans : (v : List ℤ) → Upper v → Spans axes origin v
  upper_spans v u = record {
    times = pos 1;
    positive = omega (arith, ints);
    line_factors = v;
    ray_factors = cell v n ∷ [];
    at_least_zero = All-cons (λ k. pos 0 ≤ℤ k) (cell v n) [] (upper_level v u) (All-nil (λ k. pos 0 ≤ℤ k));
    sum = sum_of v u.wide;
  }

  zero_share : (a b : ℤ) → a ≡ pos 0 → (a *ℤ b) +ℤ pos 0 ≡ pos 0
  zero_share a b e = ap (λ (z : ℤ). (z *ℤ b) +ℤ pos 0) e ∙ omega (arith, ints)

  upper_lineal : (v : List ℤ) → Upper v → Upper (negated v) → Spans axes [] v
  upper_lineal v u w =
      let z : cell v n ≡ pos 0 = both_zero (cell (negated v) n) (cell v n) (cell-scale (neg_ℤ (pos 1)) v n) (upper_level (negated v) w) (upper_level v u) in
      record {
        times = pos 1;
        positive = omega (arith, ints);
        line_factors = v;
        ray_factors = [];
        at_least_zero = All-nil (λ k. pos 0 ≤ℤ k);
        sum = λ j. sum_of v u.wide j ∙ ap (λ (y : ℤ). combined v axes j +ℤ y) (zero_share (cell v n) (cell (divisor_row n) j) z);
      }

  unspanned_sum : (t a b c : ℤ) → pos 0 <ℤ t → t *ℤ a ≡ b +ℤ c → a ≡ pos 1 → b ≡ pos 0 → c ≡ pos 0 → ⊥
  unspanned_sum t a b c p e f g h = omega (arith, ints, p, e, g, h, ap (λ (z : ℤ). t *ℤ z) f, by_one t)
    where
      by_one : (t : ℤ) → t *ℤ pos 1 ≡ t
      by_one t = omega (arith, ints)

  origin_needed : (lines : List (List ℤ)) → ((ks : List ℤ) → combined ks lines n ≡ pos 0) → Spans lines [] (divisor_row n) → ⊥
  origin_needed lines flat s = unspanned_sum s.times (cell (divisor_row n) n) (combined s.line_factors lines n) (combined s.ray_factors [] n) s.positive (s.sum n) one_at (flat s.line_factors) (combined_no s.ray_factors n)

  only_origin : (lines : List (List ℤ)) → ((ks : List ℤ) → combined ks lines n ≡ pos 0) → (i : ℕ) → i < 1 → ¬ (Spans lines (remove origin i) (vector_at origin i))
  only_origin lines flat zero h s = origin_needed lines flat s
  only_origin lines flat (suc i) h s = absurd (omega arith)

  origin_zero : (i k : ℕ) → i < n → k < 1 → cell (vector_at origin k) i ≡ pos 0
  origin_zero i zero h g = cell-divisor_other n i (λ e. omega (arith, e, h))
  origin_zero i (suc k) h g = absurd (omega arith)

  axes_echelon : IsEchelon axes origin
  axes_echelon = record {
    pivot = λ i. i;
    pivots = λ i h. let b : i < n = omega (arith, h, length-axes n n) in subst (λ (v : List ℤ). IsPivot v i) (sym (axis_at n n i b)) (record { positive = omega (arith, ints, axis_one n i b); before = λ j l. axis_other n i j b (λ e. omega (arith, e, l)) });
    ordered = λ i k h g. h;
    lines_zero = λ i k h g ne. let b : k < n = omega (arith, g, length-axes n n) in ap (λ (v : List ℤ). cell v i) (axis_at n n k b) ∙ axis_other n k i b (λ e. ne (sym e));
    rays_zero = λ i k h g. origin_zero i k (omega (arith, h, length-axes n n)) g;
  }

  pub axes_canon : Canon Upper axes origin
  axes_canon = record {
    system = record {
      generates = record {
        lines_within = axes_all (λ l. Upper l × Upper (negated l)) axis_both;
        rays_within = All-cons Upper (divisor_row n) [] origin_in (All-nil Upper);
        spans = upper_spans;
      };
      lineality = upper_lineal;
      echelon = axes_echelon;
      primitive_lines = axes_all IsPrimitive (axis_primitive n);
      primitive_rays = All-cons IsPrimitive (divisor_row n) [] (divisor_primitive n) (All-nil IsPrimitive);
      irredundant = λ i h. only_origin axes (λ ks. axes_past n n n ks (omega arith) (omega arith)) i h;
    };
    sorted = λ i h. absurd (omega arith);
  }

  -- ---- the rows that the axes and the origin admit
  above_meets : (v : List ℤ) → Above v → All (Meets v) (system_rows axes origin)
  above_meets v u = cone_meets (n + 1) (system_rows axes origin) v u

  above_zeros : (v : List ℤ) → Above v → (i : ℕ) → i < n → cell v i ≡ pos 0
  above_zeros v u i h =
      let all : All (λ l. dot l v ≡ pos 0) axes = All-map_first (λ (l : List ℤ). (l, true)) (Meets v) axes (map (λ r. (r, false)) origin) (above_meets v u) in
      sym (dot_axis n i v h) ∙ subst (λ (l : List ℤ). dot l v ≡ pos 0) (axis_at n n i h) (All-get_or (λ l. dot l v ≡ pos 0) axes i [] (omega (arith, h, length-axes n n)) all)

  above_level : (v : List ℤ) → Above v → pos 0 ≤ℤ cell v n
  above_level v u = subst (λ (z : ℤ). pos 0 ≤ℤ z) (dot_divisor n v) (All-head (Meets v) (divisor_row n, false) [] (All-map_rest (λ (l : List ℤ). (l, true)) (Meets v) axes (map (λ r. (r, false)) origin) (above_meets v u)))

  origin_above : Above (divisor_row n)
  origin_above = cone_from (n + 1) (system_rows axes origin) (divisor_row n) (length-divisor n)
      (All-append (Meets (divisor_row n)) (map (λ l. (l, true)) axes) (map (λ r. (r, false)) origin)
      (All-map (Meets (divisor_row n)) (λ (l : List ℤ). (l, true)) axes (axes_all (λ l. dot l (divisor_row n) ≡ pos 0) (λ i h. dot_axis n i (divisor_row n) h ∙ cell-divisor_other n i (λ e. omega (arith, e, h)))))
      (All-cons (Meets (divisor_row n)) (divisor_row n, false) [] (subst (λ (z : ℤ). pos 0 ≤ℤ z) (sym (dot_divisor n (divisor_row n))) (least_one (cell (divisor_row n) n) one_at)) (All-nil (Meets (divisor_row n)))))

  origin_sum : (v : List ℤ) → Above v → (j : ℕ) → pos 1 *ℤ cell v j ≡ pos 0 +ℤ share v j
  origin_sum v u j = by_place (cases_lt j n)
    where
      by_end : (j ≡ n) ⊎ (n < j) → pos 1 *ℤ cell v j ≡ pos 0 +ℤ share v j
      by_end (inl e) = subst (λ (m : ℕ). pos 1 *ℤ cell v m ≡ pos 0 +ℤ share v m) (sym e) (sum_at (cell v n) (pos 0) (share v n) refl (share_last v))
      by_end (inr l) = sum_below (cell v j) (pos 0) (share v j) (sym (past_end v j u.wide l)) (share_other v j (λ e. omega (arith, e, l)))

      end_or_past : n ≤ j → (j ≡ n) ⊎ (n < j)
      end_or_past h = elim (cases_lt n j) [ inl l ↦ inr l | inr m ↦ inl (omega arith) ]

      by_place : (j < n) ⊎ (n ≤ j) → pos 1 *ℤ cell v j ≡ pos 0 +ℤ share v j
      by_place (inl l) = sum_below (cell v j) (pos 0) (share v j) (sym (above_zeros v u j l)) (share_other v j (λ e. omega (arith, e, l)))
      by_place (inr m) = by_end (end_or_past m)

  pub origin_canon : Canon Above [] origin
  origin_canon = record {
    system = record {
      generates = record {
        lines_within = All-nil (λ l. Above l × Above (negated l));
        rays_within = All-cons Above (divisor_row n) [] origin_above (All-nil Above);
        spans = λ v u. record { times = pos 1; positive = omega (arith, ints); line_factors = []; ray_factors = cell v n ∷ []; at_least_zero = All-cons (λ k. pos 0 ≤ℤ k) (cell v n) [] (above_level v u) (All-nil (λ k. pos 0 ≤ℤ k)); sum = origin_sum v u };
      };
      lineality = λ v u w.
          let z : cell v n ≡ pos 0 = both_zero (cell (negated v) n) (cell v n) (cell-scale (neg_ℤ (pos 1)) v n) (above_level (negated v) w) (above_level v u) in
          record { times = pos 1; positive = omega (arith, ints); line_factors = []; ray_factors = []; at_least_zero = All-nil (λ k. pos 0 ≤ℤ k); sum = λ j. origin_sum v u j ∙ ap (λ (y : ℤ). pos 0 +ℤ y) (zero_share (cell v n) (cell (divisor_row n) j) z) };
      echelon = record { pivot = λ i. i; pivots = λ i h. absurd (omega arith); ordered = λ i k h g. absurd (omega arith); lines_zero = λ i k h g ne. absurd (omega arith); rays_zero = λ i k h g. absurd (omega arith) };
      primitive_lines = All-nil IsPrimitive;
      primitive_rays = All-cons IsPrimitive (divisor_row n) [] (divisor_primitive n) (All-nil IsPrimitive);
      irredundant = λ i h. only_origin [] (λ ks. combined_no ks n) i h;
    };
    sorted = λ i h. absurd (omega arith);
  }

  last_positive : (z : ℤ) → z ≡ pos 1 → pos 0 <ℤ z
  last_positive z e = omega (arith, ints)

  pub universe_pair : AreClosedSystems n axes origin [] origin
  universe_pair = record {
    dual = record { vectors = axes_canon; rows = origin_canon };
    divisor = origin_above;
    point = record { index = 0; below = omega arith; positive = last_positive (cell (divisor_row n) n) one_at };
  }

  pub no_row_stored : stored_constraints n [] origin ≡ []
  no_row_stored = ap (λ (b : Bool). map (λ r. (r, Ge)) (cond (not b) origin [])) (is_divisor n)

  pub universe_stored : (cs : Constraints) (gs : Generators) → cs.dim ≡ n → gs.dim ≡ n → cs.list ≡ [] → gs.list ≡ map (λ l. (l, Line)) axes ++ (divisor_row n, Point) ∷ [] → IsStored cs gs
  universe_stored cs gs d e f g = inr (record {
    same_dim = e ∙ sym d;
    lines = axes;
    rays = origin;
    equalities = [];
    inequalities = origin;
    systems = subst (λ (m : ℕ). AreClosedSystems m axes origin [] origin) (sym d) universe_pair;
    cons = f ∙ sym no_row_stored ∙ ap (λ (m : ℕ). stored_constraints m [] origin) (sym d);
    gens = g ∙ ap (λ (z : ℤ). map (λ l. (l, Line)) axes ++ (divisor_row n, vector_kind z) ∷ []) (sym one_at) ∙ ap (λ (m : ℕ). stored_generators m axes origin) (sym d);
  })

-- ---- the code's steps
zero_in : InRange (pos 0)
zero_in = record { size = omega arith }

one_in : InRange (pos 1)
one_in = record { size = omega arith }

zeros_in_range : (n : ℕ) → AllInRange (replicate n (pos 0))
zeros_in_range zero = All-nil InRange
zeros_in_range (suc n) = All-cons InRange (pos 0) (replicate n (pos 0)) zero_in (zeros_in_range n)

pub axis_in_range : (n i : ℕ) → AllInRange (axis n i)
axis_in_range zero i = All-cons InRange (pos 0) [] zero_in (All-nil InRange)
axis_in_range (suc n) zero = All-cons InRange (pos 1) (replicate (suc n) (pos 0)) one_in (zeros_in_range (suc n))
axis_in_range (suc n) (suc i) = All-cons InRange (pos 0) (axis n i) zero_in (axis_in_range n i)

abbrev lines_from : List (List ℤ) → List Generator
lines_from xs = map (λ l. (l, Line)) xs

as_lines : (xs : List (List ℤ)) (x : List ℤ) → lines_from (xs ++ x ∷ []) ≡ lines_from xs ++ (x, Line) ∷ []
as_lines [] x = refl
as_lines (y ∷ xs) x = ap (λ (gs : List Generator). (y, Line) ∷ gs) (as_lines xs x)

pub axes_more : (n i : ℕ) (cur new : List Generator) (v : List ℤ) → cur ≡ map (λ l. (l, Line)) (axes_upto n i) → v ≡ axis n i → new ≡ cur ++ (v, Line) ∷ [] → new ≡ map (λ l. (l, Line)) (axes_upto n (i + 1))
axes_more n i cur new v e f g =
    g ∙ ap (λ (xs : List Generator). xs ++ (v, Line) ∷ []) e
    ∙ ap (λ (w : List ℤ). lines_from (axes_upto n i) ++ (w, Line) ∷ []) f
    ∙ sym (as_lines (axes_upto n i) (axis n i))
    ∙ ap (λ (k : ℕ). lines_from (axes_upto n k)) (let e : suc i ≡ i + 1 = omega arith in e)

pub row_axis : (n i : ℕ) (items : List ℤ) → items ≡ replicate (n + 1) (pos 0) → i < n → set items i (pos 1) ≡ axis n i
row_axis n i items e h = ap (λ (xs : List ℤ). set xs i (pos 1)) e ∙ ap (λ (k : ℕ). set (replicate k (pos 0)) i (pos 1)) (let d : n + 1 ≡ suc n = omega arith in d) ∙ set_axis n i h

pub line_fits_at : (m n i : ℕ) (v : List ℤ) → m ≡ n → v ≡ axis n i → i < n → FitsKind m (v, Line)
line_fits_at m n i v e f h = subst (λ (k : ℕ). FitsKind k (v, Line)) (sym e) (subst (λ (w : List ℤ). FitsKind n (w, Line)) (sym f) (axis_fits n i h))

pub origin_fits_at : (m n : ℕ) (v : List ℤ) → m ≡ n → v ≡ divisor_row n → FitsKind m (v, Point)
origin_fits_at m n v e f = subst (λ (k : ℕ). FitsKind k (v, Point)) (sym e) (subst (λ (w : List ℤ). FitsKind n (w, Point)) (sym f) (origin_fits n))
