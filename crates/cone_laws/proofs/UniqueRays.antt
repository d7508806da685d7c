-- The rays of an irredundant system are determined up to lines by the cone; with zeros at the pivots and no common divisor they are determined.
use Rattle.std.specs.Prelude.{◌≡◌, ◌≢◌, ℕ, ◌<◌, List, [], ◌∷◌, length, remove, ℤ, pos, neg_ℤ, ◌+ℤ◌, ◌-ℤ◌, ◌<ℤ◌, ◌≤ℤ◌, ◌⊎◌, All}
use Prim.Native.Nat.{suc, zero}
use Rattle.std.proofs.Math.IntN.{◌*ℤ◌}
use Rattle.std.proofs.Common.{sym, ◌∙◌, ap, subst, inl, inr, arith}
use Rattle.std.proofs.lemmas.Int.{ints}
use Rattle.std.proofs.lemmas.Bool.{cases_eq}
use Rattle.std.proofs.lemmas.List.Elements.{All-nil, All-head, All-tail}
use Rattle.row_core.specs.Vectors.{cell, scale, add, combined}
use Rattle.cone_laws.specs.Cones.{negated, Spans}
use Rattle.cone_laws.specs.Canon.{IsSystem}
use Rattle.row_core.specs.Lists.{vector_at}
use Rattle.cone_laws.specs.ConeSets.{IsCone}
use Rattle.row_core.proofs.Ring.{ring, mul-neg, mul-positive, mul-at_least_zero, zero_of_mul, by_sign, at_least_zero_or_not, mul_comm}
use Rattle.cone_laws.proofs.Sums.{V}
use Rattle.cone_laws.proofs.Columns.{cell-scale, cell-add, length-scale, length-add}
use Rattle.cone_laws.proofs.EchelonForm.{zero_left}
use Rattle.cone_laws.proofs.Factors.{cell-both, combined-nil, combined-one, combined-remove, combined-both, combined-add, combined-single, single, cell-single_same, cell-single_other, AtLeastZero, at_least_zero_from_all, all_from_at_least_zero, at_least_zero_remove, All-remove}

-- ---- number lemmas
negated_cell : (x : ℤ) → neg_ℤ (pos 1) *ℤ x ≡ neg_ℤ x
negated_cell x = simp ring (omega (arith, ints))

-- k times a vector, k below 0, by the negated vector
turned_factor : (k l x : ℤ) → k *ℤ l +ℤ pos 1 *ℤ x ≡ neg_ℤ k *ℤ neg_ℤ l +ℤ pos 1 *ℤ x
turned_factor k l x = simp ring (omega (arith, ints))

-- ---- what a cone holds
-- a member with these entries
pub record IsMember (C : List ℤ → Type 0) (v : V) : Type 0 where
  pub vector : List ℤ
  pub within : C vector
  pub same : (j : ℕ) → cell vector j ≡ v j

module _ (width : ℕ) (C : List ℤ → Type 0) (cone : IsCone width C) where
  -- k times l plus x, of the width
  abbrev more : ℤ → List ℤ → List ℤ → List ℤ
  more k l x = add (scale k l) (scale (pos 1) x)

  more_wide : (k : ℤ) (l x : List ℤ) → C l → C x → length (more k l x) ≡ width
  more_wide k l x p q =
      let e = length-scale k l in
      let f = length-scale (pos 1) x in
      let a = cone.wide l p in
      let b = cone.wide x q in
      length-add (scale k l) (scale (pos 1) x) (omega (arith, e, f, a, b)) ∙ f ∙ b

  one_cell : (z : ℤ) → pos 1 *ℤ z ≡ z
  one_cell z = omega (arith, ints)

  -- a multiple of at least 0 of one member plus another
  ray_more : (k : ℤ) (l x : List ℤ) → pos 0 ≤ℤ k → C l → C x → C (more k l x)
  ray_more k l x h p q =
      cone.closed (pos 1) k (pos 1) l x (more k l x) (omega (arith, ints)) h (omega (arith, ints)) p q (more_wide k l x p q)
      (λ j. one_cell (cell (more k l x) j) ∙ cell-both k (pos 1) l x j)

  -- any multiple, where the negated vector is a member too
  line_more : (k : ℤ) (l x : List ℤ) → C l → C (negated l) → C x → C (more k l x)
  line_more k l x p n q = by_case (at_least_zero_or_not k)
    where
      by_case : (pos 0 ≤ℤ k) ⊎ (k <ℤ pos 0) → C (more k l x)
      by_case (inl h) = ray_more k l x h p q
      by_case (inr h) =
          cone.closed (pos 1) (neg_ℤ k) (pos 1) (negated l) x (more k l x) (omega (arith, ints)) (omega (arith, ints, h)) (omega (arith, ints)) n q (more_wide k l x p q)
          (λ j. one_cell (cell (more k l x) j) ∙ cell-both k (pos 1) l x j ∙ turned_factor k (cell l j) (cell x j) ∙ ap (λ (z : ℤ). neg_ℤ k *ℤ z +ℤ pos 1 *ℤ cell x j) (sym (cell-scale (neg_ℤ (pos 1)) l j ∙ negated_cell (cell l j))))

  zero_member : (u : List ℤ) → C u → C (scale (pos 0) u)
  zero_member u p =
      cone.closed (pos 1) (pos 0) (pos 0) u u (scale (pos 0) u) (omega (arith, ints)) (omega (arith, ints)) (omega (arith, ints)) p p (length-scale (pos 0) u ∙ cone.wide u p)
      (λ j. one_cell (cell (scale (pos 0) u) j) ∙ cell-scale (pos 0) u j ∙ omega (arith, ints))

  more_cell : (k g x v z : ℤ) → z ≡ k *ℤ g +ℤ pos 1 *ℤ x → x ≡ v → z ≡ k *ℤ g +ℤ v
  more_cell k g x v z e f = omega (arith, ints, e, f)

  zero_cell : (x : ℤ) → pos 0 *ℤ x ≡ pos 0
  zero_cell x = omega (arith, ints)

  abbrev BothWays : List ℤ → Type 0
  BothWays l = C l × C (negated l)

  pub lines_member : (u : List ℤ) → C u → (ks : List ℤ) (ls : List (List ℤ)) → All (λ l. C l × C (negated l)) ls → IsMember C (λ j. combined ks ls j)
  lines_member u p [] ls h = record { vector = scale (pos 0) u; within = zero_member u p; same = λ j. cell-scale (pos 0) u j ∙ zero_cell (cell u j) }
  lines_member u p (k ∷ ks) [] h = record { vector = scale (pos 0) u; within = zero_member u p; same = λ j. cell-scale (pos 0) u j ∙ zero_cell (cell u j) }
  lines_member u p (k ∷ ks) (l ∷ ls) h =
      let rest = lines_member u p ks ls (All-tail BothWays l ls h) in
      let both : C l × C (negated l) = All-head BothWays l ls h in
      record {
        vector = more k l rest.vector;
        within = line_more k l rest.vector both.0 both.1 rest.within;
        same = λ j. more_cell k (cell l j) (cell rest.vector j) (combined ks ls j) (cell (more k l rest.vector) j) (cell-both k (pos 1) l rest.vector j) (rest.same j);
      }

  more_sum : (k g x a b z : ℤ) → z ≡ k *ℤ g +ℤ pos 1 *ℤ x → x ≡ a +ℤ b → z ≡ a +ℤ (k *ℤ g +ℤ b)
  more_sum k g x a b z e f = omega (arith, ints, e, f)

  no_more : (x a : ℤ) → x ≡ a → x ≡ a +ℤ pos 0
  no_more x a e = omega (arith, ints, e)

  -- a sum of multiplied lines and of members with factors of at least 0 is a member
  pub sum_member : (u : List ℤ) → C u → (ks : List ℤ) (ls : List (List ℤ)) → All (λ l. C l × C (negated l)) ls → (fs : List ℤ) (rs : List (List ℤ)) → AtLeastZero fs → All C rs → IsMember C (λ j. combined ks ls j +ℤ combined fs rs j)
  sum_member u p ks ls h [] rs q g =
      let m = lines_member u p ks ls h in
      record { vector = m.vector; within = m.within; same = λ j. no_more (cell m.vector j) (combined ks ls j) (m.same j) }
  sum_member u p ks ls h (k ∷ fs) [] q g =
      let m = lines_member u p ks ls h in
      record { vector = m.vector; within = m.within; same = λ j. no_more (cell m.vector j) (combined ks ls j) (m.same j) }
  sum_member u p ks ls h (k ∷ fs) (r ∷ rs) q g =
      let rest = sum_member u p ks ls h fs rs (λ i. q (suc i)) (All-tail C r rs g) in
      record {
        vector = more k r rest.vector;
        within = ray_more k r rest.vector (q zero) (All-head C r rs g) rest.within;
        same = λ j. more_sum k (cell r j) (cell rest.vector j) (combined ks ls j) (combined fs rs j) (cell (more k r rest.vector) j) (cell-both k (pos 1) r rest.vector j) (rest.same j);
      }

  -- a vector of the width, a positive multiple of which is a member, is a member
  pub member_of_multiple : (m : ℤ) (v w : List ℤ) → pos 0 <ℤ m → C v → length w ≡ width → ((j : ℕ) → m *ℤ cell w j ≡ cell v j) → C w
  member_of_multiple m v w h p e f =
      cone.closed m (pos 1) (pos 0) v v w h (omega (arith, ints)) (omega (arith, ints)) p p e (λ j. f j ∙ one_and_none (cell v j))
    where
      one_and_none : (x : ℤ) → x ≡ pos 1 *ℤ x +ℤ pos 0 *ℤ x
      one_and_none x = omega (arith, ints)

-- ---- more number lemmas
-- the summand at one index brought to the other side
alone_rest : (a b x r : ℤ) → a +ℤ b ≡ pos 0 → b ≡ x +ℤ r → neg_ℤ x ≡ a +ℤ r
alone_rest a b x r e f = omega (arith, ints, e, f)

negated_multiple : (k y n z : ℤ) → n ≡ neg_ℤ (pos 1) *ℤ y → neg_ℤ (k *ℤ y) ≡ z → k *ℤ n ≡ z
negated_multiple k y n z e f = ap (λ (x : ℤ). k *ℤ x) (e ∙ negated_cell y) ∙ mul-neg k y ∙ f

less_rest : (t k y a b r : ℤ) → t *ℤ y ≡ a +ℤ b → b ≡ k *ℤ y +ℤ r → (t -ℤ k) *ℤ y ≡ a +ℤ r
less_rest t k y a b r e f = simp ring (omega (arith, ints, e, f, mul_comm t y, mul_comm k y))

zero_rest : (t y a b z : ℤ) → t *ℤ y ≡ a +ℤ b → z ≡ b +ℤ neg_ℤ t *ℤ y → a +ℤ z ≡ pos 0
zero_rest t y a b z e f = go (f ∙ ap (λ (x : ℤ). b +ℤ x) (neg_times t y))
  where
    neg_times : (t y : ℤ) → neg_ℤ t *ℤ y ≡ neg_ℤ (t *ℤ y)
    neg_times t y = simp ring (omega (arith, ints))

    go : z ≡ b +ℤ neg_ℤ (t *ℤ y) → a +ℤ z ≡ pos 0
    go g = omega (arith, ints, g, e)

-- (S Z t) y = (Z g) (S s) + S (Z z)
two_sums : (S Z t g y s z a b c d : ℤ) → t *ℤ y ≡ g *ℤ s +ℤ z → S *ℤ s ≡ a +ℤ b → Z *ℤ z ≡ c +ℤ d → (S *ℤ (Z *ℤ t)) *ℤ y ≡ ((Z *ℤ g) *ℤ a +ℤ S *ℤ c) +ℤ ((Z *ℤ g) *ℤ b +ℤ S *ℤ d)
two_sums S Z t g y s z a b c d e f h =
    outer S Z t y ∙ ap (λ (x : ℤ). S *ℤ (Z *ℤ x)) e ∙ inner S Z g s z ∙ ap (λ (x : ℤ). (Z *ℤ g) *ℤ x +ℤ S *ℤ (Z *ℤ z)) f ∙ ap (λ (x : ℤ). (Z *ℤ g) *ℤ (a +ℤ b) +ℤ S *ℤ x) h ∙ spread S (Z *ℤ g) a b c d
  where
    outer : (S Z t y : ℤ) → (S *ℤ (Z *ℤ t)) *ℤ y ≡ S *ℤ (Z *ℤ (t *ℤ y))
    outer S Z t y = simp ring (omega (arith, ints))

    inner : (S Z g s z : ℤ) → S *ℤ (Z *ℤ (g *ℤ s +ℤ z)) ≡ (Z *ℤ g) *ℤ (S *ℤ s) +ℤ S *ℤ (Z *ℤ z)
    inner S Z g s z = simp ring (omega (arith, ints))

    spread : (S k a b c d : ℤ) → k *ℤ (a +ℤ b) +ℤ S *ℤ (c +ℤ d) ≡ (k *ℤ a +ℤ S *ℤ c) +ℤ (k *ℤ b +ℤ S *ℤ d)
    spread S k a b c d = simp ring (omega (arith, ints))

-- a sum of two numbers of at least 0 is 0
first_zero : (k s x y : ℤ) → pos 0 <ℤ k → pos 0 ≤ℤ x → pos 0 ≤ℤ y → pos 0 ≤ℤ s → k *ℤ x +ℤ s *ℤ y ≡ pos 0 → x ≡ pos 0
first_zero k s x y h p q r e =
    let a : pos 0 ≤ℤ (k *ℤ x) = mul-at_least_zero k x (omega (arith, ints, h)) p in
    let b : pos 0 ≤ℤ (s *ℤ y) = mul-at_least_zero s y r q in
    zero_of_mul k x h (omega (arith, ints, a, b, e))

both_at_least_zero : (k s x y : ℤ) → pos 0 ≤ℤ k → pos 0 ≤ℤ s → pos 0 ≤ℤ x → pos 0 ≤ℤ y → pos 0 ≤ℤ (k *ℤ x +ℤ s *ℤ y)
both_at_least_zero k s x y h g p q =
    let a : pos 0 ≤ℤ (k *ℤ x) = mul-at_least_zero k x h p in
    let b : pos 0 ≤ℤ (s *ℤ y) = mul-at_least_zero s y g q in
    omega (arith, ints, a, b)

at_least : (k : ℤ) → pos 0 <ℤ k → pos 0 ≤ℤ k
at_least k h = omega (arith, ints, h)

-- ---- the rays of one system
module _ (width : ℕ) (C : List ℤ → Type 0) (cone : IsCone width C) (lines rays : List (List ℤ)) (sys : IsSystem C lines rays) where
  ray_in : (i : ℕ) → i < length rays → C (vector_at rays i)
  ray_in i h = sys.generates.rays_within i [] h

  -- no ray is spanned by the lines alone
  pub not_lineal : (i : ℕ) → i < length rays → ¬ (Spans lines [] (vector_at rays i))
  not_lineal i h s = sys.irredundant i h (record {
    times = s.times;
    positive = s.positive;
    line_factors = s.line_factors;
    ray_factors = [];
    at_least_zero = All-nil (λ k. pos 0 ≤ℤ k);
    sum = λ j. s.sum j ∙ ap (λ (z : ℤ). combined s.line_factors lines j +ℤ z) (combined-nil s.ray_factors j);
  })

  -- where a sum of lines and rays is 0, no ray occurs in it
  pub no_relation : (ks fs : List ℤ) → AtLeastZero fs → ((j : ℕ) → combined ks lines j +ℤ combined fs rays j ≡ pos 0) → (i : ℕ) → i < length rays → cell fs i ≡ pos 0
  no_relation ks fs q e i h = by_case (by_sign (cell fs i))
    where
      y : List ℤ
      y = vector_at rays i

      rest : IsMember C (λ j. combined ks lines j +ℤ combined (remove fs i) (remove rays i) j)
      rest = sum_member width C cone y (ray_in i h) ks lines sys.generates.lines_within (remove fs i) (remove rays i) (at_least_zero_remove fs i q) (All-remove C rays i sys.generates.rays_within)

      is_rest : (j : ℕ) → cell fs i *ℤ cell (negated y) j ≡ cell rest.vector j
      is_rest j =
          negated_multiple (cell fs i) (cell y j) (cell (negated y) j) (cell rest.vector j) (cell-scale (neg_ℤ (pos 1)) y j)
          (alone_rest (combined ks lines j) (combined fs rays j) (cell fs i *ℤ cell y j) (combined (remove fs i) (remove rays i) j) (e j) (combined-remove fs rays i j) ∙ sym (rest.same j))

      negated_in : pos 0 <ℤ cell fs i → C (negated y)
      negated_in p = member_of_multiple width C cone (cell fs i) rest.vector (negated y) p rest.within (length-scale (neg_ℤ (pos 1)) y ∙ cone.wide y (ray_in i h)) is_rest

      by_case : (pos 0 <ℤ cell fs i) ⊎ ((cell fs i <ℤ pos 0) ⊎ (cell fs i ≡ pos 0)) → cell fs i ≡ pos 0
      by_case (inl p) = absurd (not_lineal i h (sys.lineality y (ray_in i h) (negated_in p)))
      by_case (inr (inl p)) = absurd (omega (arith, ints, p, q i))
      by_case (inr (inr f)) = f

  -- in a sum of lines and rays for a multiple of a ray no other ray occurs
  pub only_itself : (i : ℕ) → i < length rays → (t : ℤ) (ks fs : List ℤ) → AtLeastZero fs → ((j : ℕ) → t *ℤ cell (vector_at rays i) j ≡ combined ks lines j +ℤ combined fs rays j) → (m : ℕ) → m < length rays → m ≢ i → cell fs m ≡ pos 0
  only_itself i h t ks fs q e m g ne = by_case (at_least_zero_or_not (cell fs i -ℤ t))
    where
      y : List ℤ
      y = vector_at rays i

      gs : List ℤ
      gs = add fs (single i (neg_ℤ t))

      at_i : cell gs i ≡ cell fs i -ℤ t
      at_i = cell-add fs (single i (neg_ℤ t)) i ∙ ap (λ (z : ℤ). cell fs i +ℤ z) (cell-single_same i (neg_ℤ t))

      plus_none : (x z : ℤ) → z ≡ pos 0 → x +ℤ z ≡ x
      plus_none x z f = omega (arith, ints, f)

      at_other : (x : ℕ) → x ≢ i → cell gs x ≡ cell fs x
      at_other x d = cell-add fs (single i (neg_ℤ t)) x ∙ plus_none (cell fs x) (cell (single i (neg_ℤ t)) x) (cell-single_other i x (neg_ℤ t) d)

      at_least_zero : pos 0 ≤ℤ (cell fs i -ℤ t) → AtLeastZero gs
      at_least_zero p x = by_place (cases_eq x i)
        where
          by_place : (x ≡ i) ⊎ (x ≢ i) → pos 0 ≤ℤ cell gs x
          by_place (inl d) = subst (λ (n : ℕ). pos 0 ≤ℤ cell gs n) (sym d) (subst (λ (z : ℤ). pos 0 ≤ℤ z) (sym at_i) p)
          by_place (inr d) = subst (λ (z : ℤ). pos 0 ≤ℤ z) (sym (at_other x d)) (q x)

      relation : (j : ℕ) → combined ks lines j +ℤ combined gs rays j ≡ pos 0
      relation j =
          zero_rest t (cell y j) (combined ks lines j) (combined fs rays j) (combined gs rays j) (e j)
          (combined-add fs (single i (neg_ℤ t)) rays j ∙ ap (λ (z : ℤ). combined fs rays j +ℤ z) (combined-single rays i j (neg_ℤ t)))

      spanned : (cell fs i -ℤ t) <ℤ pos 0 → Spans lines (remove rays i) y
      spanned p = record {
        times = t -ℤ cell fs i;
        positive = omega (arith, ints, p);
        line_factors = ks;
        ray_factors = remove fs i;
        at_least_zero = all_from_at_least_zero (remove fs i) (at_least_zero_remove fs i q);
        sum = λ j. less_rest t (cell fs i) (cell y j) (combined ks lines j) (combined fs rays j) (combined (remove fs i) (remove rays i) j) (e j) (combined-remove fs rays i j);
      }

      by_case : (pos 0 ≤ℤ (cell fs i -ℤ t)) ⊎ ((cell fs i -ℤ t) <ℤ pos 0) → cell fs m ≡ pos 0
      by_case (inl p) = sym (at_other m ne) ∙ no_relation ks gs (at_least_zero p) relation m g
      by_case (inr p) = absurd (sys.irredundant i h (spanned p))

  -- s is a multiple of ray i plus lines
  pub record IsLikeRay (i : ℕ) (s : List ℤ) : Type 0 where
    pub times : ℤ
    pub positive : pos 0 <ℤ times
    pub factors : List ℤ
    pub part : ℤ
    pub at_least_zero : pos 0 ≤ℤ part
    pub sum : (j : ℕ) → times *ℤ cell s j ≡ combined factors lines j +ℤ part *ℤ cell (vector_at rays i) j

  -- a ray is extreme: what adds up to a multiple of it is a multiple of it plus lines
  pub like_ray : (i : ℕ) → i < length rays → (t g : ℤ) (s z : List ℤ) → pos 0 <ℤ g → C s → C z → ((j : ℕ) → t *ℤ cell (vector_at rays i) j ≡ g *ℤ cell s j +ℤ cell z j) → IsLikeRay i s
  like_ray i h t g s z p cs cz e = record {
    times = S.times;
    positive = S.positive;
    factors = S.line_factors;
    part = cell S.ray_factors i;
    at_least_zero = at_least_zero_from_all S.ray_factors S.at_least_zero i;
    sum = λ j. S.sum j ∙ ap (λ (x : ℤ). combined S.line_factors lines j +ℤ x) (combined-one S.ray_factors rays i j (λ m l ne. zero_left (cell S.ray_factors m) (cell (vector_at rays m) j) (vanish m l ne)));
  }
    where
      S : Spans lines rays s
      S = sys.generates.spans s cs

      Z : Spans lines rays z
      Z = sys.generates.spans z cz

      a : ℤ
      a = Z.times *ℤ g

      above : pos 0 <ℤ (Z.times *ℤ g)
      above = mul-positive Z.times g Z.positive p

      ks : List ℤ
      ks = add (scale a S.line_factors) (scale S.times Z.line_factors)

      fs : List ℤ
      fs = add (scale a S.ray_factors) (scale S.times Z.ray_factors)

      fs_at_least_zero : AtLeastZero fs
      fs_at_least_zero m =
          subst (λ (x : ℤ). pos 0 ≤ℤ x) (sym (cell-both a S.times S.ray_factors Z.ray_factors m))
          (both_at_least_zero a S.times (cell S.ray_factors m) (cell Z.ray_factors m) (at_least a above) (at_least S.times S.positive) (at_least_zero_from_all S.ray_factors S.at_least_zero m) (at_least_zero_from_all Z.ray_factors Z.at_least_zero m))

      sums : (j : ℕ) → (S.times *ℤ (Z.times *ℤ t)) *ℤ cell (vector_at rays i) j ≡ combined ks lines j +ℤ combined fs rays j
      sums j =
          two_sums S.times Z.times t g (cell (vector_at rays i) j) (cell s j) (cell z j) (combined S.line_factors lines j) (combined S.ray_factors rays j) (combined Z.line_factors lines j) (combined Z.ray_factors rays j) (e j) (S.sum j) (Z.sum j)
          ∙ ap (λ (x : ℤ). x +ℤ (a *ℤ combined S.ray_factors rays j +ℤ S.times *ℤ combined Z.ray_factors rays j)) (sym (combined-both a S.times S.line_factors Z.line_factors lines j))
          ∙ ap (λ (x : ℤ). combined ks lines j +ℤ x) (sym (combined-both a S.times S.ray_factors Z.ray_factors rays j))

      vanish : (m : ℕ) → m < length rays → m ≢ i → cell S.ray_factors m ≡ pos 0
      vanish m l ne =
          first_zero a S.times (cell S.ray_factors m) (cell Z.ray_factors m) above (at_least_zero_from_all S.ray_factors S.at_least_zero m) (at_least_zero_from_all Z.ray_factors Z.at_least_zero m) (at_least S.times S.positive)
          (sym (cell-both a S.times S.ray_factors Z.ray_factors m) ∙ only_itself i h (S.times *ℤ (Z.times *ℤ t)) ks fs fs_at_least_zero sums m l ne)
