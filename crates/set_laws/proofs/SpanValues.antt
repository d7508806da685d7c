-- What a row is worth on a point that generators span.
use Rattle.std.proofs.Common.{◌≡◌, ℕ, zero, suc, ◌<◌, List, [], ◌∷◌, length, ℤ, pos, ◌+ℤ◌, ◌*ℤ◌, ◌≤ℤ◌, ◌<ℤ◌, refl, sym, ap, ◌∙◌, subst, arith}
use Rattle.std.proofs.lemmas.Int.{ints}
use Rattle.row_core.specs.Vectors.{cell, dot, combined}
use Rattle.cone_laws.proofs.Ring.{mul-at_least_zero, mul-positive, mul-zero, zero_of_mul, at_least_zero_of_mul, positive_of_mul}
use Rattle.cone_laws.proofs.Columns.{value, value_linear, dot_is}
use Rattle.cons_sys.specs.declared.kind.ConKind.{ConKind}
use Rattle.cons_sys.specs.declared.kind.ConKind.TheVariants.{Eq, Ge, Gt}
use Rattle.cons_sys.specs.Constraints.{Constraint, Satisfies}
use Rattle.gens_sys.specs.Kinds.{AllowsFactor}
use Rattle.gens_sys.specs.Generators.{Generator, Generators, row_at, kind_at, rows_of}
use Rattle.gens_sys.specs.Spans.{Span}
use Rattle.gens_sys.specs.declared.kind.GenKind.{GenKind}
use Rattle.gens_sys.specs.declared.kind.GenKind.TheVariants.{Line, Ray, Point, ClosurePoint}
use Rattle.set_laws.specs.Asking.{Asks}

-- the sum of the factors times the values of the row
abbrev pub weighed : List ℤ → List ℤ → List Generator → ℤ
weighed a [] gs = pos 0
weighed a (k ∷ ks) [] = pos 0
weighed a (k ∷ ks) (g ∷ gs) = k *ℤ dot a g.0 +ℤ weighed a ks gs

weighed_more : (x k v w s t : ℤ) → x ≡ k *ℤ v +ℤ s → w ≡ v → s ≡ t → x ≡ k *ℤ w +ℤ t
weighed_more x k v w s t e f g = let h = ap (λ (z : ℤ). k *ℤ z) f in omega (arith, ints, e, h, g)

value_combined : (a ks : List ℤ) (gs : List Generator) → value a (combined ks (rows_of gs)) ≡ weighed a ks gs
value_combined a [] gs = (value_linear a).zero (combined [] (rows_of gs)) (λ j. refl)
value_combined a (k ∷ ks) [] = (value_linear a).zero (combined (k ∷ ks) []) (λ j. refl)
value_combined a (k ∷ ks) (g ∷ gs) =
    weighed_more (value a (combined (k ∷ ks) (rows_of (g ∷ gs)))) k (value a (cell g.0)) (dot a g.0) (value a (combined ks (rows_of gs))) (weighed a ks gs)
    ((value_linear a).more (combined (k ∷ ks) (rows_of (g ∷ gs))) (cell g.0) (combined ks (rows_of gs)) k (λ j. refl))
    (dot_is a g.0) (value_combined a ks gs)

-- a positive multiple of the value at a spanned vector is the weighed sum
pub span_value : (gs : Generators) (v a : List ℤ) (s : Span gs v) → s.times *ℤ dot a v ≡ weighed a s.factors gs.list
span_value gs v a s =
    ap (λ (z : ℤ). s.times *ℤ z) (dot_is a v)
    ∙ sym ((value_linear a).multiple (combined s.factors (rows_of gs.list)) (cell v) s.times (λ j. sym (s.sum j)))
    ∙ value_combined a s.factors gs.list

-- ---- signs of the summands
abbrev pub AllAllowed : List ℤ → List Generator → Type 0
AllAllowed ks gs = (i : ℕ) → i < length gs → AllowsFactor (kind_at gs i) (cell ks i)

abbrev pub AllAsked : ConKind → List ℤ → List Generator → Type 0
AllAsked kind a gs = (i : ℕ) → i < length gs → Asks kind (kind_at gs i) (dot a (row_at gs i))

zero_term : (k v : ℤ) → v ≡ pos 0 → k *ℤ v ≡ pos 0
zero_term k v e = ap (λ (z : ℤ). k *ℤ z) e ∙ mul-zero k

least_term : (kind : GenKind) (k v : ℤ) → AllowsFactor kind k → Asks Ge kind v → pos 0 ≤ℤ (k *ℤ v)
least_term Line k v f a = let e = zero_term k v a in omega (arith, ints, e)
least_term Ray k v f a = mul-at_least_zero k v f a
least_term Point k v f a = mul-at_least_zero k v f a
least_term ClosurePoint k v f a = mul-at_least_zero k v f a

pub weaker_asks : (kind : GenKind) (v : ℤ) → Asks Gt kind v → Asks Ge kind v
weaker_asks Line v a = a
weaker_asks Ray v a = a
weaker_asks Point v a = omega (arith, ints, a)
weaker_asks ClosurePoint v a = a

weighed_zero : (a ks : List ℤ) (gs : List Generator) → AllAsked Eq a gs → weighed a ks gs ≡ pos 0
weighed_zero a [] gs h = refl
weighed_zero a (k ∷ ks) [] h = refl
weighed_zero a (k ∷ ks) (g ∷ gs) h =
    let e = zero_term k (dot a g.0) (h 0 (omega arith)) in
    let f = weighed_zero a ks gs (λ i l. h (suc i) (omega (arith, l))) in
    omega (arith, ints, e, f)

weighed_least : (a ks : List ℤ) (gs : List Generator) → AllAllowed ks gs → AllAsked Ge a gs → pos 0 ≤ℤ weighed a ks gs
weighed_least a [] gs f h = omega (arith, ints)
weighed_least a (k ∷ ks) [] f h = omega (arith, ints)
weighed_least a (k ∷ ks) (g ∷ gs) f h =
    let e = least_term g.1 k (dot a g.0) (f 0 (omega arith)) (h 0 (omega arith)) in
    let r = weighed_least a ks gs (λ i l. f (suc i) (omega (arith, l))) (λ i l. h (suc i) (omega (arith, l))) in
    omega (arith, ints, e, r)

point_asks : (kind : GenKind) (v : ℤ) → kind ≡ Point → Asks Gt kind v → pos 0 <ℤ v
point_asks kind v e a = subst (λ (k : GenKind). Asks Gt k v) e a

weighed_above : (a ks : List ℤ) (gs : List Generator) (i : ℕ) → AllAllowed ks gs → AllAsked Gt a gs → i < length gs → kind_at gs i ≡ Point → pos 0 <ℤ cell ks i → pos 0 <ℤ weighed a ks gs
weighed_above a [] gs i f h l e p = absurd (omega (arith, ints, p))
weighed_above a (k ∷ ks) [] i f h l e p = absurd (omega (arith, l))
weighed_above a (k ∷ ks) (g ∷ gs) zero f h l e p =
    let t = mul-positive k (dot a g.0) p (point_asks g.1 (dot a g.0) e (h 0 (omega arith))) in
    let r = weighed_least a ks gs (λ i m. f (suc i) (omega (arith, m))) (λ i m. weaker_asks (kind_at gs i) (dot a (row_at gs i)) (h (suc i) (omega (arith, m)))) in
    omega (arith, ints, t, r)
weighed_above a (k ∷ ks) (g ∷ gs) (suc i) f h l e p =
    let t = least_term g.1 k (dot a g.0) (f 0 (omega arith)) (weaker_asks g.1 (dot a g.0) (h 0 (omega arith))) in
    let r = weighed_above a ks gs i (λ j m. f (suc j) (omega (arith, m))) (λ j m. h (suc j) (omega (arith, m))) (omega (arith, l)) e p in
    omega (arith, ints, t, r)

-- what the generators have, each vector that they span has
pub true_of_asked : (gs : Generators) (c : Constraint) → AllAsked c.1 c.0 gs.list → (v : List ℤ) → Span gs v → Satisfies v c
true_of_asked gs (a, Eq) h v s = zero_of_mul s.times (dot a v) s.positive (span_value gs v a s ∙ weighed_zero a s.factors gs.list h)
true_of_asked gs (a, Ge) h v s = at_least_zero_of_mul s.times (dot a v) s.positive (subst (λ (z : ℤ). pos 0 ≤ℤ z) (sym (span_value gs v a s)) (weighed_least a s.factors gs.list s.allowed h))
true_of_asked gs (a, Gt) h v s = positive_of_mul s.times (dot a v) s.positive (subst (λ (z : ℤ). pos 0 <ℤ z) (sym (span_value gs v a s)) (weighed_above a s.factors gs.list s.point.index s.allowed h s.point.within s.point.kind s.point.positive))
