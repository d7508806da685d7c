-- Where a generator lacks what a constraint asks, some point of the set fails the constraint.
use Rattle.std.proofs.Common.{◌≡◌, ◌⊎◌, inl, inr, ℕ, zero, suc, ◌<◌, List, [], length, ℤ, pos, negsuc, ◌+ℤ◌, ◌*ℤ◌, neg_ℤ, ◌≤ℤ◌, ◌<ℤ◌, refl, sym, ap, subst, arith, below_more, All}
use Rattle.std.proofs.lemmas.Int.{ints}
use Rattle.std.proofs.lemmas.List.Elements.{All-get_or, All-from_get_or}
use Rattle.row_core.specs.Vectors.{dot}
use Rattle.cone_laws.proofs.Ring.{ring, mul-at_least_zero, by_sign, at_least_zero_or_not, neg-mul, mul-neg}
use Rattle.cons_sys.specs.Kinds.{Allows}
use Rattle.cons_sys.specs.declared.kind.ConKind.{ConKind}
use Rattle.cons_sys.specs.declared.kind.ConKind.TheVariants.{Eq, Ge, Gt}
use Rattle.cons_sys.specs.Constraints.{Constraint}
use Rattle.gens_sys.specs.Kinds.{AllowsFactor}
use Rattle.gens_sys.specs.Generators.{Generators, generator_at, row_at, kind_at, FitDimension}
use Rattle.gens_sys.specs.declared.kind.GenKind.{GenKind}
use Rattle.gens_sys.specs.declared.kind.GenKind.TheVariants.{Line, Ray, Point, ClosurePoint}
use Rattle.set_laws.specs.Asking.{Asks, MeetsOn, HasPoint, IsProper, IsMember, IsTrueOn, HasCounter}
use Rattle.set_laws.proofs.SpanValues.{true_of_asked}
use Rattle.set_laws.proofs.Members.{member_at, moved, moved_value, moved_member}

-- ---- how far to go
pub record Far (x y : ℤ) : Type 0 where
  pub times : ℤ
  pub least : pos 0 ≤ℤ times
  pub below : (x +ℤ times *ℤ y) <ℤ pos 0

far_by : (x y : ℤ) → y <ℤ pos 0 → (pos 0 <ℤ x) ⊎ ((x <ℤ pos 0) ⊎ (x ≡ pos 0)) → Far x y
far_by x y h (inl p) =
    let e : pos 0 ≤ℤ (x *ℤ (neg_ℤ y +ℤ negsuc 0)) = mul-at_least_zero x (neg_ℤ y +ℤ negsuc 0) (omega (arith, ints)) (omega (arith, ints)) in
    let f : x *ℤ (neg_ℤ y +ℤ negsuc 0) ≡ neg_ℤ (x *ℤ y) +ℤ neg_ℤ x = simp ring (omega (arith, ints)) in
    let g : (x +ℤ pos 1) *ℤ y ≡ x *ℤ y +ℤ y = simp ring (omega (arith, ints)) in
    record { times = x +ℤ pos 1; least = omega (arith, ints); below = omega (arith, ints, e, f, g, h) }
far_by x y h (inr (inl n)) = record { times = pos 0; least = omega (arith, ints); below = omega (arith, ints, n) }
far_by x y h (inr (inr z)) = record { times = pos 1; least = omega (arith, ints); below = omega (arith, ints, z, h) }

-- some multiple of a negative number, added, is below 0
pub far : (x y : ℤ) → y <ℤ pos 0 → Far x y
far x y h = far_by x y h (by_sign x)

-- ---- what is lacking
not_below : (x : ℤ) → ¬ (pos 0 ≤ℤ x) → x <ℤ pos 0
not_below x h = by (at_least_zero_or_not x)
  where
    by : (pos 0 ≤ℤ x) ⊎ (x <ℤ pos 0) → x <ℤ pos 0
    by (inl p) = absurd (h p)
    by (inr n) = n

fails_below : (kind : ConKind) (x : ℤ) → x <ℤ pos 0 → ¬ (Allows kind x)
fails_below Eq x h a = omega (arith, ints, h, a)
fails_below Ge x h a = omega (arith, ints, h, a)
fails_below Gt x h a = omega (arith, ints, h, a)

least_allows : (kind : GenKind) (k : ℤ) → pos 0 ≤ℤ k → AllowsFactor kind k
least_allows Line k p = tt
least_allows Ray k p = p
least_allows Point k p = p
least_allows ClosurePoint k p = p

module _ (gs : Generators) (fits : FitDimension gs) (u : List ℤ) (m : IsMember gs u) (c : Constraint) (i : ℕ) (h : i < length gs.list) where
  abbrev here : ℤ
  here = dot c.0 (row_at gs.list i)

  abbrev there : ℤ
  there = dot c.0 u

  counter_by : (k : ℤ) → AllowsFactor (kind_at gs.list i) k → ¬ (Allows c.1 (there +ℤ k *ℤ here)) → HasCounter gs c
  counter_by k a f = record {
    point = moved gs u i k;
    member = moved_member gs fits u i k m h a;
    fails = λ s. f (subst (Allows c.1) (moved_value gs c.0 u i k) s);
  }

  -- a value below 0
  counter_below : here <ℤ pos 0 → HasCounter gs c
  counter_below n = let f = far there here n in counter_by f.times (least_allows (kind_at gs.list i) f.times f.least) (fails_below c.1 (there +ℤ f.times *ℤ here) f.below)

  turned_sum : (x y k : ℤ) → x +ℤ neg_ℤ k *ℤ y ≡ x +ℤ k *ℤ neg_ℤ y
  turned_sum x y k = let e = neg-mul k y in let f = mul-neg k y in omega (arith, ints, e, f)

  -- a line with a value above 0
  counter_turned : kind_at gs.list i ≡ Line → pos 0 <ℤ here → HasCounter gs c
  counter_turned e n =
      let f = far there (neg_ℤ here) (omega (arith, ints, n)) in
      counter_by (neg_ℤ f.times) (subst (λ (kind : GenKind). AllowsFactor kind (neg_ℤ f.times)) (sym e) tt)
      (fails_below c.1 (there +ℤ neg_ℤ f.times *ℤ here) (subst (λ (z : ℤ). z <ℤ pos 0) (sym (turned_sum there here f.times)) f.below))

  above_far : (x y k : ℤ) → (neg_ℤ x +ℤ k *ℤ neg_ℤ y) <ℤ pos 0 → x +ℤ k *ℤ y ≡ pos 0 → ⊥
  above_far x y k n e = let f = mul-neg k y in omega (arith, ints, n, e, f)

  -- an equation with a value above 0
  counter_above : c.1 ≡ Eq → pos 0 <ℤ here → HasCounter gs c
  counter_above e n =
      let f = far (neg_ℤ there) (neg_ℤ here) (omega (arith, ints, n)) in
      counter_by f.times (least_allows (kind_at gs.list i) f.times f.least)
      (λ a. above_far there here f.times f.below (subst (λ (kind : ConKind). Allows kind (there +ℤ f.times *ℤ here)) e a))

  counter_off : c.1 ≡ Eq → ¬ (here ≡ pos 0) → HasCounter gs c
  counter_off e n = by (by_sign here)
    where
      by : (pos 0 <ℤ here) ⊎ ((here <ℤ pos 0) ⊎ (here ≡ pos 0)) → HasCounter gs c
      by (inl p) = counter_above e p
      by (inr (inl q)) = counter_below q
      by (inr (inr z)) = absurd (n z)

  counter_line : kind_at gs.list i ≡ Line → ¬ (here ≡ pos 0) → HasCounter gs c
  counter_line e n = by (by_sign here)
    where
      by : (pos 0 <ℤ here) ⊎ ((here <ℤ pos 0) ⊎ (here ≡ pos 0)) → HasCounter gs c
      by (inl p) = counter_turned e p
      by (inr (inl q)) = counter_below q
      by (inr (inr z)) = absurd (n z)

  -- a Point that fails
  counter_at : kind_at gs.list i ≡ Point → ¬ (Allows c.1 here) → HasCounter gs c
  counter_at e n = record { point = row_at gs.list i; member = member_at gs fits i h e; fails = n }

  counter_of : (kind : ConKind) (g : GenKind) → c.1 ≡ kind → kind_at gs.list i ≡ g → ¬ (Asks kind g here) → HasCounter gs c
  counter_of Eq g e f n = counter_off e n
  counter_of Ge Line e f n = counter_line f n
  counter_of Ge Ray e f n = counter_below (not_below here n)
  counter_of Ge Point e f n = counter_below (not_below here n)
  counter_of Ge ClosurePoint e f n = counter_below (not_below here n)
  counter_of Gt Line e f n = counter_line f n
  counter_of Gt Ray e f n = counter_below (not_below here n)
  counter_of Gt Point e f n = counter_at f (λ a. n (subst (λ (kind : ConKind). Allows kind here) e a))
  counter_of Gt ClosurePoint e f n = counter_below (not_below here n)

-- a generator that lacks what the constraint asks shows a point that fails it
pub counter : (gs : Generators) → FitDimension gs → HasPoint gs.list → (c : Constraint) (i : ℕ) → i < length gs.list → ¬ (MeetsOn c (generator_at gs.list i)) → HasCounter gs c
counter gs fits p c i h n = counter_of gs fits (row_at gs.list p.index) (member_at gs fits p.index p.within p.kind) c i h c.1 (kind_at gs.list i) refl refl n

-- ---- the constraint on the set
zero_asked : (x : ℤ) → (x ≡ pos 0) ⊎ ¬ (x ≡ pos 0)
zero_asked x = by (by_sign x)
  where
    by : (pos 0 <ℤ x) ⊎ ((x <ℤ pos 0) ⊎ (x ≡ pos 0)) → (x ≡ pos 0) ⊎ ¬ (x ≡ pos 0)
    by (inl p) = inr (λ e. omega (arith, ints, p, e))
    by (inr (inl q)) = inr (λ e. omega (arith, ints, q, e))
    by (inr (inr z)) = inl z

least_asked : (x : ℤ) → (pos 0 ≤ℤ x) ⊎ ¬ (pos 0 ≤ℤ x)
least_asked x = by (by_sign x)
  where
    by : (pos 0 <ℤ x) ⊎ ((x <ℤ pos 0) ⊎ (x ≡ pos 0)) → (pos 0 ≤ℤ x) ⊎ ¬ (pos 0 ≤ℤ x)
    by (inl p) = inl (omega (arith, ints, p))
    by (inr (inl q)) = inr (λ e. omega (arith, ints, q, e))
    by (inr (inr z)) = inl (omega (arith, ints, z))

above_asked : (x : ℤ) → (pos 0 <ℤ x) ⊎ ¬ (pos 0 <ℤ x)
above_asked x = by (by_sign x)
  where
    by : (pos 0 <ℤ x) ⊎ ((x <ℤ pos 0) ⊎ (x ≡ pos 0)) → (pos 0 <ℤ x) ⊎ ¬ (pos 0 <ℤ x)
    by (inl p) = inl p
    by (inr (inl q)) = inr (λ e. omega (arith, ints, q, e))
    by (inr (inr z)) = inr (λ e. omega (arith, ints, z, e))

pub asks_or_not : (kind : ConKind) (g : GenKind) (x : ℤ) → Asks kind g x ⊎ ¬ (Asks kind g x)
asks_or_not Eq g x = zero_asked x
asks_or_not Ge Line x = zero_asked x
asks_or_not Ge Ray x = least_asked x
asks_or_not Ge Point x = least_asked x
asks_or_not Ge ClosurePoint x = least_asked x
asks_or_not Gt Line x = zero_asked x
asks_or_not Gt Ray x = least_asked x
asks_or_not Gt Point x = above_asked x
asks_or_not Gt ClosurePoint x = least_asked x

-- each of the first n, or one that isn't
pub record Lacks (P : ℕ → Type 0) (n : ℕ) : Type 0 where
  pub index : ℕ
  pub below : index < n
  pub lacks : ¬ (P index)

pub all_or_lacks : (P : ℕ → Type 0) → ((i : ℕ) → P i ⊎ ¬ (P i)) → (n : ℕ) → ((i : ℕ) → i < n → P i) ⊎ Lacks P n
all_or_lacks P d zero = inl (λ i h. absurd (omega arith))
all_or_lacks P d (suc n) = by (all_or_lacks P d n) (d n)
  where
    by : ((i : ℕ) → i < n → P i) ⊎ Lacks P n → P n ⊎ ¬ (P n) → ((i : ℕ) → i < suc n → P i) ⊎ Lacks P (suc n)
    by (inl f) (inl p) = inl (λ i h. below_more P n f p i (omega (arith, h)))
    by (inl f) (inr q) = inr (record { index = n; below = omega arith; lacks = q })
    by (inr l) d = inr (record { index = l.index; below = omega (arith, l.below); lacks = l.lacks })

pub proper_point : (gs : Generators) → IsProper gs → (i : ℕ) → i < length gs.list → HasPoint gs.list
proper_point gs (inl e) i h = absurd (omega (arith, ap length e, h))
proper_point gs (inr p) i h = p

-- a constraint that holds on each generator holds at each point, and another fails at some point
pub true_or_counter : (gs : Generators) → FitDimension gs → IsProper gs → (c : Constraint) → All (MeetsOn c) gs.list ⊎ HasCounter gs c
true_or_counter gs fits proper c = by (all_or_lacks (λ i. MeetsOn c (generator_at gs.list i)) (λ i. asks_or_not c.1 (kind_at gs.list i) (dot c.0 (row_at gs.list i))) (length gs.list))
  where
    by : ((i : ℕ) → i < length gs.list → MeetsOn c (generator_at gs.list i)) ⊎ Lacks (λ i. MeetsOn c (generator_at gs.list i)) (length gs.list) → All (MeetsOn c) gs.list ⊎ HasCounter gs c
    by (inl f) = inl (All-from_get_or (MeetsOn c) gs.list ([], Line) f)
    by (inr l) = inr (counter gs fits (proper_point gs proper l.index l.below) c l.index l.below l.lacks)

pub asked_true : (gs : Generators) (c : Constraint) → All (MeetsOn c) gs.list → IsTrueOn gs c
asked_true gs c h p m = true_of_asked gs c (λ i l. All-get_or (MeetsOn c) gs.list i ([], Line) l h) p m.spanned

pub true_asked : (gs : Generators) → FitDimension gs → IsProper gs → (c : Constraint) → IsTrueOn gs c → All (MeetsOn c) gs.list
true_asked gs fits proper c t = by (true_or_counter gs fits proper c)
  where
    by : All (MeetsOn c) gs.list ⊎ HasCounter gs c → All (MeetsOn c) gs.list
    by (inl a) = a
    by (inr r) = absurd (r.fails (t r.point r.member))
