-- Where constraints don't all hold, one of the ways does, and the other way round.
use Rattle.std.proofs.Common.{◌≡◌, ◌⊎◌, inl, inr, ℕ, ◌+◌, ◌<◌, List, [], ◌∷◌, ◌++◌, flat_map, length, ℤ, pos, neg_ℤ, ◌≤ℤ◌, ◌<ℤ◌, sym, subst, arith, All}
use Rattle.std.proofs.lemmas.Int.{ints}
use Rattle.std.proofs.lemmas.List.{get_or_append_left, get_or-append-add, length-append}
use Rattle.std.proofs.lemmas.List.Elements.{All-nil, All-cons, All-head, All-tail, All-append, All-get_or}
use Rattle.row_core.specs.Vectors.{dot}
use Rattle.cone_laws.specs.Cones.{negated}
use Rattle.cone_laws.proofs.Ring.{by_sign}
use Rattle.cone_laws.proofs.MemberLemmas.{negated_dot}
use Rattle.cons_sys.specs.declared.kind.ConKind.TheVariants.{Eq, Ge, Gt}
use Rattle.cons_sys.specs.Constraints.{Constraint, Constraints, constraint_at, Satisfies, In}
use Rattle.enclosures.specs.Ways.{ways_of, ways}

-- one of the constraints holds
pub record SomeHolds (v : List ℤ) (list : List Constraint) : Type 0 where
  pub index : ℕ
  pub below : index < length list
  pub holds : Satisfies v (constraint_at list index)

first_holds : (v : List ℤ) (c : Constraint) (list : List Constraint) → Satisfies v c → SomeHolds v (c ∷ list)
first_holds v c list h = record { index = 0; below = omega arith; holds = h }

in_front : (v : List ℤ) (xs ys : List Constraint) → SomeHolds v xs → SomeHolds v (xs ++ ys)
in_front v xs ys s = record {
  index = s.index;
  below = omega (arith, s.below, length-append xs ys);
  holds = subst (Satisfies v) (sym (get_or_append_left xs ys ([], Eq) s.index s.below)) s.holds;
}

behind : (v : List ℤ) (xs ys : List Constraint) → SomeHolds v ys → SomeHolds v (xs ++ ys)
behind v xs ys s = record {
  index = length xs + s.index;
  below = omega (arith, s.below, length-append xs ys);
  holds = subst (Satisfies v) (sym (get_or-append-add xs ys s.index ([], Eq))) s.holds;
}

-- ---- one constraint
least : (x : ℤ) → pos 0 <ℤ x → pos 0 ≤ℤ x
least x h = omega (arith, ints, h)

least_zero : (x : ℤ) → x ≡ pos 0 → pos 0 ≤ℤ x
least_zero x e = omega (arith, ints, e)

turned_above : (x y : ℤ) → y ≡ neg_ℤ x → x <ℤ pos 0 → pos 0 <ℤ y
turned_above x y e h = omega (arith, ints, e, h)

turned_least : (x y : ℤ) → y ≡ neg_ℤ x → x <ℤ pos 0 → pos 0 ≤ℤ y
turned_least x y e h = omega (arith, ints, e, h)

turned_zero : (x y : ℤ) → y ≡ neg_ℤ x → x ≡ pos 0 → pos 0 ≤ℤ y
turned_zero x y e h = omega (arith, ints, e, h)

holds_or_way : (c : Constraint) (v : List ℤ) → Satisfies v c ⊎ SomeHolds v (ways_of c)
holds_or_way (a, Eq) v = by (by_sign (dot a v))
  where
    by : (pos 0 <ℤ dot a v) ⊎ ((dot a v <ℤ pos 0) ⊎ (dot a v ≡ pos 0)) → Satisfies v (a, Eq) ⊎ SomeHolds v (ways_of (a, Eq))
    by (inl h) = inr (first_holds v (a, Gt) ((negated a, Gt) ∷ []) h)
    by (inr (inl h)) = inr (record { index = 1; below = omega arith; holds = turned_above (dot a v) (dot (negated a) v) (negated_dot a v) h })
    by (inr (inr h)) = inl h
holds_or_way (a, Ge) v = by (by_sign (dot a v))
  where
    by : (pos 0 <ℤ dot a v) ⊎ ((dot a v <ℤ pos 0) ⊎ (dot a v ≡ pos 0)) → Satisfies v (a, Ge) ⊎ SomeHolds v (ways_of (a, Ge))
    by (inl h) = inl (least (dot a v) h)
    by (inr (inl h)) = inr (first_holds v (negated a, Gt) [] (turned_above (dot a v) (dot (negated a) v) (negated_dot a v) h))
    by (inr (inr h)) = inl (least_zero (dot a v) h)
holds_or_way (a, Gt) v = by (by_sign (dot a v))
  where
    by : (pos 0 <ℤ dot a v) ⊎ ((dot a v <ℤ pos 0) ⊎ (dot a v ≡ pos 0)) → Satisfies v (a, Gt) ⊎ SomeHolds v (ways_of (a, Gt))
    by (inl h) = inl h
    by (inr (inl h)) = inr (first_holds v (negated a, Ge) [] (turned_least (dot a v) (dot (negated a) v) (negated_dot a v) h))
    by (inr (inr h)) = inr (first_holds v (negated a, Ge) [] (turned_zero (dot a v) (dot (negated a) v) (negated_dot a v) h))

abbrev Fails : List ℤ → Constraint → Type 0
Fails v c = ¬ (Satisfies v c)

not_above : (x : ℤ) → x ≡ pos 0 → ¬ (pos 0 <ℤ x)
not_above x e h = omega (arith, ints, e, h)

not_turned_above : (x y : ℤ) → y ≡ neg_ℤ x → pos 0 ≤ℤ x → ¬ (pos 0 <ℤ y)
not_turned_above x y e h k = omega (arith, ints, e, h, k)

not_turned_least : (x y : ℤ) → y ≡ neg_ℤ x → pos 0 <ℤ x → ¬ (pos 0 ≤ℤ y)
not_turned_least x y e h k = omega (arith, ints, e, h, k)

ways_fail : (c : Constraint) (v : List ℤ) → Satisfies v c → All (Fails v) (ways_of c)
ways_fail (a, Eq) v h =
    All-cons (Fails v) (a, Gt) ((negated a, Gt) ∷ []) (not_above (dot a v) h)
    (All-cons (Fails v) (negated a, Gt) [] (not_turned_above (dot a v) (dot (negated a) v) (negated_dot a v) (least_zero (dot a v) h)) (All-nil (Fails v)))
ways_fail (a, Ge) v h = All-cons (Fails v) (negated a, Gt) [] (not_turned_above (dot a v) (dot (negated a) v) (negated_dot a v) h) (All-nil (Fails v))
ways_fail (a, Gt) v h = All-cons (Fails v) (negated a, Ge) [] (not_turned_least (dot a v) (dot (negated a) v) (negated_dot a v) h) (All-nil (Fails v))

-- ---- a list of constraints
pub some_way : (list : List Constraint) (v : List ℤ) → ¬ (All (Satisfies v) list) → SomeHolds v (flat_map ways_of list)
some_way [] v n = absurd (n (All-nil (Satisfies v)))
some_way (c ∷ cs) v n = by (λ h. some_way cs v (λ all. n (All-cons (Satisfies v) c cs h all))) (holds_or_way c v)
  where
    by : (Satisfies v c → SomeHolds v (flat_map ways_of cs)) → Satisfies v c ⊎ SomeHolds v (ways_of c) → SomeHolds v (ways_of c ++ flat_map ways_of cs)
    by later (inl h) = behind v (ways_of c) (flat_map ways_of cs) (later h)
    by later (inr s) = in_front v (ways_of c) (flat_map ways_of cs) s

all_fail : (list : List Constraint) (v : List ℤ) → All (Satisfies v) list → All (Fails v) (flat_map ways_of list)
all_fail [] v h = All-nil (Fails v)
all_fail (c ∷ cs) v h = All-append (Fails v) (ways_of c) (flat_map ways_of cs) (ways_fail c v (All-head (Satisfies v) c cs h)) (all_fail cs v (All-tail (Satisfies v) c cs h))

pub way_fails : (cs : Constraints) (v : List ℤ) (k : ℕ) → k < length (ways cs).list → Satisfies v (constraint_at (ways cs).list k) → ¬ (In cs v)
way_fails cs v k l h all = All-get_or (Fails v) (flat_map ways_of cs.list) k ([], Eq) l (all_fail cs.list v all) h
