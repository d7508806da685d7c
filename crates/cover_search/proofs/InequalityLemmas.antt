-- The inequalities of a system, and their complements.
use Rattle.std.proofs.Common.{◌≡◌, ◌⊎◌, inl, inr, ℕ, List, [], ◌∷◌, ◌++◌, map, flat_map, length, ◌+◌, ℤ, pos, neg_ℤ, ◌≤ℤ◌, ◌<ℤ◌, subst, ap, ◌∙◌, arith}
use Rattle.std.specs.Prelude.{◌↔◌, All}
use Rattle.std.proofs.Math.ListN.{get_or-map}
use Rattle.std.proofs.lemmas.Int.{ints}
use Rattle.std.proofs.lemmas.List.{get_or_append_left, get_or-append-add, length-append}
use Rattle.std.proofs.lemmas.List.Elements.{All-nil, All-cons, All-head, All-tail, All-append}
use Rattle.row_core.specs.Vectors.{dot}
use Rattle.cone_laws.specs.Cones.{negated}
use Rattle.cone_laws.proofs.Ring.{by_sign}
use Rattle.cone_laws.proofs.MemberLemmas.{negated_dot}
use Rattle.cons_sys.specs.declared.kind.ConKind.TheVariants.{Eq, Ge, Gt}
use Rattle.cons_sys.specs.Constraints.{Constraint, Constraints, constraint_at, Satisfies, In}
use Rattle.cover_search.specs.Inequalities.{halves, inequalities, IsInequality, AreInequalities, complement}

-- ---- parts of a list
pub all_left : {X : Type 0} (P : X → Type 0) (xs ys : List X) → All P (xs ++ ys) → All P xs
all_left P xs ys h k d l = subst P (get_or_append_left xs ys d k l) (h k d (omega (arith, length-append xs ys)))

pub all_right : {X : Type 0} (P : X → Type 0) (xs ys : List X) → All P (xs ++ ys) → All P ys
all_right P xs ys h k d l = subst P (get_or-append-add xs ys k d) (h (length xs + k) d (omega (arith, length-append xs ys)))

-- ---- complements
above_of : (x y : ℤ) → y ≡ neg_ℤ x → x <ℤ pos 0 → pos 0 <ℤ y
above_of x y e h = omega (arith, ints)

least_of : (x y : ℤ) → y ≡ neg_ℤ x → x <ℤ pos 0 → pos 0 ≤ℤ y
least_of x y e h = omega (arith, ints)

zero_least : (x : ℤ) → x ≡ pos 0 → pos 0 ≤ℤ x
zero_least x e = omega (arith, ints)

above_least : (x : ℤ) → pos 0 <ℤ x → pos 0 ≤ℤ x
above_least x h = omega (arith, ints)

zero_of_negative : (x y : ℤ) → y ≡ neg_ℤ x → x ≡ pos 0 → pos 0 ≤ℤ y
zero_of_negative x y e h = omega (arith, ints)

-- an inequality holds or its complement does
pub holds_or_complement : (c : Constraint) (v : List ℤ) → IsInequality c → Satisfies v c ⊎ Satisfies v (complement c)
holds_or_complement (a, Eq) v i = absurd i
holds_or_complement (a, Ge) v i = by_case (by_sign (dot a v))
  where
    by_case : (pos 0 <ℤ dot a v) ⊎ ((dot a v <ℤ pos 0) ⊎ (dot a v ≡ pos 0)) → Satisfies v (a, Ge) ⊎ Satisfies v (complement (a, Ge))
    by_case (inl h) = inl (above_least (dot a v) h)
    by_case (inr (inl h)) = inr (above_of (dot a v) (dot (negated a) v) (negated_dot a v) h)
    by_case (inr (inr h)) = inl (zero_least (dot a v) h)
holds_or_complement (a, Gt) v i = by_case (by_sign (dot a v))
  where
    by_case : (pos 0 <ℤ dot a v) ⊎ ((dot a v <ℤ pos 0) ⊎ (dot a v ≡ pos 0)) → Satisfies v (a, Gt) ⊎ Satisfies v (complement (a, Gt))
    by_case (inl h) = inl h
    by_case (inr (inl h)) = inr (least_of (dot a v) (dot (negated a) v) (negated_dot a v) h)
    by_case (inr (inr h)) = inr (zero_of_negative (dot a v) (dot (negated a) v) (negated_dot a v) h)

not_both : (x y : ℤ) → y ≡ neg_ℤ x → pos 0 ≤ℤ x → pos 0 <ℤ y → ⊥
not_both x y e h k = omega (arith, ints)

not_both_strict : (x y : ℤ) → y ≡ neg_ℤ x → pos 0 <ℤ x → pos 0 ≤ℤ y → ⊥
not_both_strict x y e h k = omega (arith, ints)

-- not both hold
pub complement_excludes : (c : Constraint) (v : List ℤ) → IsInequality c → Satisfies v (complement c) → ¬ (Satisfies v c)
complement_excludes (a, Eq) v i k h = i
complement_excludes (a, Ge) v i k h = not_both (dot a v) (dot (negated a) v) (negated_dot a v) h k
complement_excludes (a, Gt) v i k h = not_both_strict (dot a v) (dot (negated a) v) (negated_dot a v) h k

-- the complement at a place of a list of them
pub complement_at : (list : List Constraint) (i : ℕ) → constraint_at (map complement list) i ≡ complement (constraint_at list i)
complement_at list i = get_or-map complement list i ([], Eq)

pub at_complements : (list complements : List Constraint) (i : ℕ) → complements ≡ map complement list → constraint_at complements i ≡ complement (constraint_at list i)
at_complements list complements i e = ap (λ (cs : List Constraint). constraint_at cs i) e ∙ complement_at list i

-- ---- the inequalities of a system
least_negated : (x y : ℤ) → y ≡ neg_ℤ x → pos 0 ≤ℤ x → pos 0 ≤ℤ y → x ≡ pos 0
least_negated x y e h k = omega (arith, ints)

halves_hold : (c : Constraint) (v : List ℤ) → Satisfies v c ↔ All (Satisfies v) (halves c)
halves_hold (a, Eq) v = (
  (λ e. All-cons (Satisfies v) (a, Ge) ((negated a, Ge) ∷ []) (zero_least (dot a v) e) (All-cons (Satisfies v) (negated a, Ge) [] (zero_of_negative (dot a v) (dot (negated a) v) (negated_dot a v) e) (All-nil (Satisfies v)))),
  (λ h. least_negated (dot a v) (dot (negated a) v) (negated_dot a v) (All-head (Satisfies v) (a, Ge) ((negated a, Ge) ∷ []) h) (All-head (Satisfies v) (negated a, Ge) [] (All-tail (Satisfies v) (a, Ge) ((negated a, Ge) ∷ []) h))),
)
halves_hold (a, Ge) v = ((λ h. All-cons (Satisfies v) (a, Ge) [] h (All-nil (Satisfies v))), (λ h. All-head (Satisfies v) (a, Ge) [] h))
halves_hold (a, Gt) v = ((λ h. All-cons (Satisfies v) (a, Gt) [] h (All-nil (Satisfies v))), (λ h. All-head (Satisfies v) (a, Gt) [] h))

list_holds : (cs : List Constraint) (v : List ℤ) → All (Satisfies v) cs ↔ All (Satisfies v) (flat_map halves cs)
list_holds [] v = ((λ h. All-nil (Satisfies v)), (λ h. All-nil (Satisfies v)))
list_holds (c ∷ cs) v = (
  (λ h. All-append (Satisfies v) (halves c) (flat_map halves cs) ((halves_hold c v).0 (All-head (Satisfies v) c cs h)) ((list_holds cs v).0 (All-tail (Satisfies v) c cs h))),
  (λ h. All-cons (Satisfies v) c cs ((halves_hold c v).1 (all_left (Satisfies v) (halves c) (flat_map halves cs) h)) ((list_holds cs v).1 (all_right (Satisfies v) (halves c) (flat_map halves cs) h))),
)

-- they hold where the system does
pub inequalities_hold : (cs : Constraints) (v : List ℤ) → In cs v ↔ In (inequalities cs) v
inequalities_hold cs v = list_holds cs.list v

halves_inequalities : (c : Constraint) → All IsInequality (halves c)
halves_inequalities (a, Eq) = All-cons IsInequality (a, Ge) ((negated a, Ge) ∷ []) tt (All-cons IsInequality (negated a, Ge) [] tt (All-nil IsInequality))
halves_inequalities (a, Ge) = All-cons IsInequality (a, Ge) [] tt (All-nil IsInequality)
halves_inequalities (a, Gt) = All-cons IsInequality (a, Gt) [] tt (All-nil IsInequality)

list_inequalities : (cs : List Constraint) → All IsInequality (flat_map halves cs)
list_inequalities [] = All-nil IsInequality
list_inequalities (c ∷ cs) = All-append IsInequality (halves c) (flat_map halves cs) (halves_inequalities c) (list_inequalities cs)

-- and no equality is among them
pub are_inequalities : (cs : Constraints) → AreInequalities (inequalities cs)
are_inequalities cs = list_inequalities cs.list
