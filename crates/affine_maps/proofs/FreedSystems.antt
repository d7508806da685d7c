-- A cone freed of a variable, and a row in which the variable has a part: with that row as a further line the cone's system is a minimal form of the cone's source under a map that gives the variable up.
use Rattle.std.proofs.Common.{◌≡◌, ◌⊎◌, inl, inr, ℕ, ◌+◌, ◌<◌, ◌≤◌, List, [], ◌∷◌, ◌++◌, length, ℤ, pos, neg_ℤ, ◌+ℤ◌, ◌*ℤ◌, ◌≤ℤ◌, ◌<ℤ◌, refl, sym, ap, ◌∙◌, arith}
use Rattle.std.proofs.lemmas.Int.{ints}
use Rattle.std.proofs.lemmas.Bool.{cases_lt}
use Rattle.std.proofs.lemmas.List.{length-append, get_or_append_left, get_or-append-add}
use Rattle.std.proofs.lemmas.List.Elements.{All-nil, All-cons, All-append, All-from_get_or}
use Rattle.row_core.specs.Vectors.{cell}
use Rattle.row_core.specs.Lists.{vector_at}
use Rattle.row_core.proofs.Ring.{ring, zero_of_mul, mul-positive}
use Rattle.cone_laws.specs.ConeSets.{IsCone}
use Rattle.cone_laws.specs.Cones.{Generates, HasLineality, negated}
use Rattle.cone_laws.specs.Canon.{IsIrredundant, IsSystem}
use Rattle.cone_laws.proofs.Columns.{cell-scale, length-scale}
use Rattle.cone_laws.proofs.Sums.{V, Same, Nothing, Sums, none, line, ray, SpansBy, IsLinear, sums_same, sums_zero, sums_one_line, spans_sums, spans_more, spans_of_multiple, spans_same, spans_add}
use Rattle.cone_laws.proofs.Bridge.{columns, In, to_sums, to_lines, from_sums, from_lines}
use Rattle.cone_laws.proofs.Instance.{Beside, needed_by_columns, needed_by_lists}
use Rattle.minimise.specs.MinimalForms.{AreIndependent, IsMinimalForm}
use Rattle.minimise.proofs.MinimalForms.{independent_columns, independent_lists, echelon_independent}

-- ---- numbers
put_line : (v k l u t q r : ℤ) → v ≡ k *ℤ l +ℤ u → u ≡ t *ℤ q +ℤ r → v ≡ t *ℤ q +ℤ (k *ℤ l +ℤ r)
put_line v k l u t q r e f = omega (arith, ints, e, f)

put_plane : (v k l u t q r : ℤ) → v ≡ k *ℤ l +ℤ u → l ≡ q → u ≡ t *ℤ q +ℤ r → v ≡ (k +ℤ t) *ℤ q +ℤ r
put_plane v k l u t q r e g f =
    let a = ap (λ (z : ℤ). k *ℤ z) g in
    let b : (k +ℤ t) *ℤ q ≡ k *ℤ q +ℤ t *ℤ q = simp ring in
    omega (arith, ints, e, f, a, b)

no_plane : (v q : ℤ) → v ≡ pos 0 *ℤ q +ℤ v
no_plane v q = omega (arith, ints)

part_is_none : (d k x r : ℤ) → pos 0 <ℤ d → x ≡ k *ℤ d +ℤ r → x ≡ pos 0 → r ≡ pos 0 → k ≡ pos 0
part_is_none d k x r p e f g =
    let a : k *ℤ d ≡ d *ℤ k = simp ring in
    zero_of_mul d k p (omega (arith, ints, e, f, g, a))

rest_alone : (x k q r : ℤ) → x ≡ k *ℤ q +ℤ r → k ≡ pos 0 → x ≡ r
rest_alone x k q r e f = let a = ap (λ (z : ℤ). z *ℤ q) f in omega (arith, ints, e, a)

times_none : (t x : ℤ) → x ≡ pos 0 → t *ℤ x ≡ pos 0
times_none t x e = let a = ap (λ (z : ℤ). t *ℤ z) e in omega (arith, ints, a)

not_none : (t d : ℤ) → pos 0 <ℤ t → pos 0 <ℤ d → t *ℤ d ≡ pos 0 → ⊥
not_none t d p q e = let a = mul-positive t d p q in omega (arith, ints, a, e)

at_least : (d : ℤ) → pos 0 <ℤ d → pos 0 ≤ℤ d
at_least d p = omega (arith, ints, p)

both_once : (x y z : ℤ) → x ≡ y +ℤ z → x ≡ pos 1 *ℤ y +ℤ pos 1 *ℤ z
both_once x y z e = omega (arith, ints, e)

-- the map on a vector that is 0 at the variable
level_map : (d x y z w : ℤ) → d *ℤ x ≡ y +ℤ z *ℤ w → z ≡ pos 0 → pos 1 *ℤ y ≡ d *ℤ x +ℤ pos 0 *ℤ x
level_map d x y z w e f = let a = ap (λ (u : ℤ). u *ℤ w) f in omega (arith, ints, e, a)

-- on the row itself
own_map : (d w y z : ℤ) → d *ℤ w ≡ y +ℤ z *ℤ w → z ≡ d → y ≡ pos 0
own_map d w y z e f = let a = ap (λ (u : ℤ). u *ℤ w) f in omega (arith, ints, e, a)

-- and on a negative
negative_map : (d x y z w x' y' z' : ℤ) → d *ℤ x ≡ y +ℤ z *ℤ w → d *ℤ x' ≡ y' +ℤ z' *ℤ w → x' ≡ neg_ℤ (pos 1) *ℤ x → z' ≡ neg_ℤ (pos 1) *ℤ z → y' ≡ neg_ℤ y
negative_map d x y z w x' y' z' e f g h =
    let m : x' ≡ neg_ℤ x = omega (arith, ints, g) in
    let n : z' ≡ neg_ℤ z = omega (arith, ints, h) in
    let a = ap (λ (u : ℤ). d *ℤ u) m in
    let b = ap (λ (u : ℤ). u *ℤ w) n in
    let p : d *ℤ neg_ℤ x ≡ neg_ℤ (d *ℤ x) = simp ring in
    let q : neg_ℤ z *ℤ w ≡ neg_ℤ (z *ℤ w) = simp ring in
    omega (arith, ints, e, f, a, b, p, q)

negative_of_none : (x y : ℤ) → x ≡ neg_ℤ y → y ≡ pos 0 → x ≡ pos 0
negative_of_none x y e f = omega (arith, ints, e, f)

same_negative : (x y z : ℤ) → x ≡ neg_ℤ y → z ≡ neg_ℤ (pos 1) *ℤ y → pos 1 *ℤ z ≡ pos 1 *ℤ x +ℤ pos 0 *ℤ x
same_negative x y z e f = omega (arith, ints, e, f)

-- ---- sums with one more line
module _ (var : ℕ) (den : ℤ) (positive : pos 0 <ℤ den) (plane : List ℤ) (own : cell plane var ≡ den) where
  -- one of the lines, or the plane
  abbrev WithPlane : (V → Type 0) → V → Type 0
  WithPlane L v = L v ⊎ Same v (cell plane)

  -- a multiple of the plane, and a sum without it
  record IsSplit (L R : V → Type 0) (v : V) : Type 0 where
    factor : ℤ
    rest : V
    sums : Sums L R rest
    same : (j : ℕ) → v j ≡ factor *ℤ cell plane j +ℤ rest j

  split : {L R : V → Type 0} (v : V) → Sums (WithPlane L) R v → IsSplit L R v
  split v (none z) = record { factor = pos 0; rest = v; sums = none z; same = λ j. no_plane (v j) (cell plane j) }
  split v (line k l u (inl m) s h) =
      let t = split u s in
      record { factor = t.factor; rest = λ j. k *ℤ l j +ℤ t.rest j; sums = line k l t.rest m t.sums (λ j. refl); same = λ j. put_line (v j) k (l j) (u j) t.factor (cell plane j) (t.rest j) (h j) (t.same j) }
  split v (line k l u (inr e) s h) =
      let t = split u s in
      record { factor = k +ℤ t.factor; rest = t.rest; sums = t.sums; same = λ j. put_plane (v j) k (l j) (u j) t.factor (cell plane j) (t.rest j) (h j) (e j) (t.same j) }
  split v (ray k r u p m s h) =
      let t = split u s in
      record { factor = t.factor; rest = λ j. k *ℤ r j +ℤ t.rest j; sums = ray k r t.rest p m t.sums (λ j. refl); same = λ j. put_line (v j) k (r j) (u j) t.factor (cell plane j) (t.rest j) (h j) (t.same j) }

  at_variable : IsLinear (λ (v : V). v var)
  at_variable = record { zero = λ v h. h var; more = λ w u v k e. e var; multiple = λ w u k e. e var }

  -- where all else is 0 at the variable the plane has no part
  pub without_plane : {L R : V → Type 0} → ((l : V) → L l → l var ≡ pos 0) → ((r : V) → R r → r var ≡ pos 0) → (x : V) → x var ≡ pos 0 → SpansBy (WithPlane L) R x → SpansBy L R x
  without_plane f g x z s =
      let t = split (λ j. s.times *ℤ x j) s.sums in
      let gone : t.factor ≡ pos 0 = part_is_none den t.factor (s.times *ℤ x var) (t.rest var) positive (t.same var ∙ ap (λ (y : ℤ). t.factor *ℤ y +ℤ t.rest var) own) (times_none s.times (x var) z) (sums_zero (λ (v : V). v var) at_variable f g t.rest t.sums) in
      record { times = s.times; positive = s.positive; sums = sums_same t.rest (λ j. s.times *ℤ x j) t.sums (λ j. rest_alone (s.times *ℤ x j) t.factor (cell plane j) (t.rest j) (t.same j) gone) }

  pub never_spanned : {L : V → Type 0} → ((l : V) → L l → l var ≡ pos 0) → ¬ (SpansBy L Nothing (cell plane))
  never_spanned f s = not_none s.times den s.positive positive (ap (λ (z : ℤ). s.times *ℤ z) (sym own) ∙ sums_zero (λ (v : V). v var) at_variable f (λ r m. elim m [ ]) (λ j. s.times *ℤ cell plane j) s.sums)

  -- ---- the list with the plane behind
  module _ (lines : List (List ℤ)) where
    among_first : (v : V) → In lines v → In (lines ++ plane ∷ []) v
    among_first v m = record {
      index = m.index;
      is = omega (arith, m.is, length-append lines (plane ∷ []));
      same = λ j. m.same j ∙ ap (λ (w : List ℤ). cell w j) (sym (get_or_append_left lines (plane ∷ []) [] m.index m.is));
    }

    last_is : vector_at (lines ++ plane ∷ []) (length lines + 0) ≡ plane
    last_is = get_or-append-add lines (plane ∷ []) 0 []

    at_end : (i : ℕ) → length lines ≤ i → i < length (lines ++ plane ∷ []) → i ≡ length lines + 0
    at_end i g b = omega (arith, g, b, length-append lines (plane ∷ []))

    end_is : (i : ℕ) → length lines ≤ i → i < length (lines ++ plane ∷ []) → vector_at (lines ++ plane ∷ []) i ≡ plane
    end_is i g b = ap (λ (n : ℕ). vector_at (lines ++ plane ∷ []) n) (at_end i g b) ∙ last_is

    among_last : In (lines ++ plane ∷ []) (cell plane)
    among_last = record {
      index = length lines + 0;
      is = omega (arith, length-append lines (plane ∷ []));
      same = λ j. ap (λ (w : List ℤ). cell w j) (sym last_is);
    }

    first_is : (i : ℕ) → i < length lines → vector_at (lines ++ plane ∷ []) i ≡ vector_at lines i
    first_is i l = get_or_append_left lines (plane ∷ []) [] i l

    either : (v : V) → In (lines ++ plane ∷ []) v → WithPlane (In lines) v
    either v m = by_place (cases_lt m.index (length lines))
      where
        by_place : (m.index < length lines) ⊎ (length lines ≤ m.index) → WithPlane (In lines) v
        by_place (inl l) = inl (record { index = m.index; is = l; same = λ j. m.same j ∙ ap (λ (w : List ℤ). cell w j) (first_is m.index l) })
        by_place (inr g) = inr (λ j. m.same j ∙ ap (λ (w : List ℤ). cell w j) (end_is m.index g m.is))

    -- beside one of the lines
    other_first : (i : ℕ) → (v : V) → Beside (lines ++ plane ∷ []) i v → WithPlane (Beside lines i) v
    other_first i v m = by_place (cases_lt m.index (length lines))
      where
        by_place : (m.index < length lines) ⊎ (length lines ≤ m.index) → WithPlane (Beside lines i) v
        by_place (inl l) = inl (record { index = m.index; is = (l, m.is.1); same = λ j. m.same j ∙ ap (λ (w : List ℤ). cell w j) (first_is m.index l) })
        by_place (inr g) = inr (λ j. m.same j ∙ ap (λ (w : List ℤ). cell w j) (end_is m.index g m.is.0))

    -- beside the plane
    other_last : (i : ℕ) → length lines ≤ i → i < length (lines ++ plane ∷ []) → (v : V) → Beside (lines ++ plane ∷ []) i v → In lines v
    other_last i g b v m = by_place (cases_lt m.index (length lines))
      where
        by_place : (m.index < length lines) ⊎ (length lines ≤ m.index) → In lines v
        by_place (inl l) = record { index = m.index; is = l; same = λ j. m.same j ∙ ap (λ (w : List ℤ). cell w j) (first_is m.index l) }
        by_place (inr h) = absurd (m.is.1 (at_end m.index h m.is.0 ∙ sym (at_end i g b)))

    module _ (level : (i : ℕ) → i < length lines → cell (vector_at lines i) var ≡ pos 0) where
      line_level : (l : V) → In lines l → l var ≡ pos 0
      line_level l m = m.same var ∙ level m.index m.is

      beside_level : (i : ℕ) (l : V) → Beside lines i l → l var ≡ pos 0
      beside_level i l m = m.same var ∙ level m.index m.is.0

      pub independent_with : AreIndependent lines → AreIndependent (lines ++ plane ∷ [])
      independent_with h = independent_lists (lines ++ plane ∷ []) (λ i b s. by_place i b s (cases_lt i (length lines)))
        where
          by_place : (i : ℕ) → i < length (lines ++ plane ∷ []) → SpansBy (Beside (lines ++ plane ∷ []) i) Nothing (columns (lines ++ plane ∷ []) i) → (i < length lines) ⊎ (length lines ≤ i) → ⊥
          by_place i b s (inl l) =
              let t : SpansBy (WithPlane (Beside lines i)) Nothing (columns lines i) = spans_same (columns (lines ++ plane ∷ []) i) (columns lines i) (spans_more (other_first i) (λ r m. m) (columns (lines ++ plane ∷ []) i) s) (λ j. ap (λ (w : List ℤ). cell w j) (sym (first_is i l))) in
              independent_columns lines h i l (without_plane (beside_level i) (λ r m. elim m [ ]) (columns lines i) (level i l) t)
          by_place i b s (inr g) =
              never_spanned line_level
              (spans_same (columns (lines ++ plane ∷ []) i) (cell plane) (spans_more (other_last i g b) (λ r m. m) (columns (lines ++ plane ∷ []) i) s) (λ j. ap (λ (w : List ℤ). cell w j) (sym (end_is i g b))))

      pub irredundant_with : (rays : List (List ℤ)) → ((i : ℕ) → i < length rays → cell (vector_at rays i) var ≡ pos 0) → IsIrredundant lines rays → IsIrredundant (lines ++ plane ∷ []) rays
      irredundant_with rays ray_level h = needed_by_lists (lines ++ plane ∷ []) rays (λ i b s. needed_by_columns lines rays h i b
          (without_plane line_level (λ r m. m.same var ∙ ray_level m.index m.is.0) (columns rays i) (ray_level i b) (spans_more either (λ r m. m) (columns rays i) s)))

-- ---- the form
module _ (width var : ℕ) (den : ℤ) (positive : pos 0 <ℤ den) (plane : List ℤ) (own : cell plane var ≡ den) (plane_wide : length plane ≡ width) (h : List ℤ → List ℤ) (h_wide : (v : List ℤ) → length v ≡ width → length (h v) ≡ width)
    (h_cell : (v : List ℤ) → length v ≡ width → (j : ℕ) → den *ℤ cell v j ≡ cell (h v) j +ℤ cell v var *ℤ cell plane j)
    (C D : List ℤ → Type 0) (cone : IsCone width C) (origin : (v : List ℤ) → length v ≡ width → ((j : ℕ) → cell v j ≡ pos 0) → C v) (level : (c : List ℤ) → C c → cell c var ≡ pos 0)
    (inside : (v : List ℤ) → D v → (length v ≡ width) × C (h v)) (outside : (v : List ℤ) → length v ≡ width → C (h v) → D v) where
  negated_wide : (v : List ℤ) → length v ≡ width → length (negated v) ≡ width
  negated_wide v w = length-scale (neg_ℤ (pos 1)) v ∙ w

  h_negated : (v : List ℤ) → length v ≡ width → (j : ℕ) → cell (h (negated v)) j ≡ neg_ℤ (cell (h v) j)
  h_negated v w j =
      negative_map den (cell v j) (cell (h v) j) (cell v var) (cell plane j) (cell (negated v) j) (cell (h (negated v)) j) (cell (negated v) var) (h_cell v w j) (h_cell (negated v) (negated_wide v w) j) (cell-scale (neg_ℤ (pos 1)) v j) (cell-scale (neg_ℤ (pos 1)) v var)

  -- vectors of the freed cone
  within : (c : List ℤ) → C c → D c
  within c m =
      outside c (cone.wide c m)
      (cone.closed (pos 1) den (pos 0) c c (h c) (omega (arith, ints)) (at_least den positive) (omega (arith, ints)) m m (h_wide c (cone.wide c m)) (λ j. level_map den (cell c j) (cell (h c) j) (cell c var) (cell plane j) (h_cell c (cone.wide c m) j) (level c m)))

  -- the plane
  plane_zero : (j : ℕ) → cell (h plane) j ≡ pos 0
  plane_zero j = own_map den (cell plane j) (cell (h plane) j) (cell plane var) (h_cell plane plane_wide j) own

  plane_within : D plane × D (negated plane)
  plane_within = (
    outside plane plane_wide (origin (h plane) (h_wide plane plane_wide) plane_zero),
    outside (negated plane) (negated_wide plane plane_wide) (origin (h (negated plane)) (h_wide (negated plane) (negated_wide plane plane_wide)) (λ j. negative_of_none (cell (h (negated plane)) j) (cell (h plane) j) (h_negated plane plane_wide j) (plane_zero j))),
  )

  -- a source and a multiple of the plane make each vector
  restored : (lines : List (List ℤ)) {R : V → Type 0} (v : List ℤ) → length v ≡ width → SpansBy (In lines) R (cell (h v)) → SpansBy (In (lines ++ plane ∷ [])) R (cell v)
  restored lines {R = R} v w s =
      spans_of_multiple den (cell v) (λ j. den *ℤ cell v j) positive
      (spans_add (pos 1) (pos 1) (cell (h v)) (λ j. cell v var *ℤ cell plane j) (λ j. den *ℤ cell v j) (omega (arith, ints)) (omega (arith, ints)) (spans_more (among_first var den positive plane own lines) (λ r m. m) (cell (h v)) s)
      (spans_sums (λ j. cell v var *ℤ cell plane j) (sums_one_line (cell v var) (cell plane) (λ j. cell v var *ℤ cell plane j) (among_last var den positive plane own lines) (λ j. refl)))
      (λ j. both_once (den *ℤ cell v j) (cell (h v) j) (cell v var *ℤ cell plane j) (h_cell v w j)))
      (λ j. refl)

  module _ (lines rays : List (List ℤ)) (s : IsSystem C lines rays) where
    form_generates : Generates D (lines ++ plane ∷ []) rays
    form_generates = record {
      lines_within =
          All-append (λ l. D l × D (negated l)) lines (plane ∷ [])
          (All-from_get_or (λ l. D l × D (negated l)) lines [] (λ i b. (within (vector_at lines i) (s.generates.lines_within i [] b).0, within (negated (vector_at lines i)) (s.generates.lines_within i [] b).1)))
          (All-cons (λ l. D l × D (negated l)) plane [] plane_within (All-nil (λ l. D l × D (negated l))));
      rays_within = All-from_get_or D rays [] (λ i b. within (vector_at rays i) (s.generates.rays_within i [] b));
      spans = λ v d. from_sums (lines ++ plane ∷ []) rays v (restored lines v (inside v d).0 (to_sums lines rays (h v) (s.generates.spans (h v) (inside v d).1)));
    }

    form_lineality : HasLineality D (lines ++ plane ∷ [])
    form_lineality v d n =
        let w = (inside v d).0 in
        let c : C (negated (h v)) = cone.closed (pos 1) (pos 1) (pos 0) (h (negated v)) (h (negated v)) (negated (h v)) (omega (arith, ints)) (omega (arith, ints)) (omega (arith, ints)) (inside (negated v) n).1 (inside (negated v) n).1 (negated_wide (h v) (h_wide v w)) (λ j. same_negative (cell (h (negated v)) j) (cell (h v) j) (cell (negated (h v)) j) (h_negated v w j) (cell-scale (neg_ℤ (pos 1)) (h v) j)) in
        from_lines (lines ++ plane ∷ []) v (restored lines v w (to_lines lines (h v) (s.lineality (h v) (inside v d).1 c)))

    pub freed_form : IsMinimalForm D (lines ++ plane ∷ []) rays
    freed_form = record {
      generates = form_generates;
      lineality = form_lineality;
      independent = independent_with var den positive plane own lines (λ i b. level (vector_at lines i) (s.generates.lines_within i [] b).0) (echelon_independent lines rays s.echelon);
      irredundant = irredundant_with var den positive plane own lines (λ i b. level (vector_at lines i) (s.generates.lines_within i [] b).0) rays (λ i b. level (vector_at rays i) (s.generates.rays_within i [] b)) s.irredundant;
    }
