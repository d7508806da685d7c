-- Which members of a list are left out.
use Rattle.std.proofs.Common.{◌≡◌, ◌≢◌, ◌⊎◌, inl, inr, ℕ, suc, ◌+◌, ◌-◌, ◌<◌, ◌≤◌, List, [], ◌∷◌, ◌++◌, length, take, drop, get_or, slice_get, Some, Bool, true, false, ℤ, ltb, refl, sym, ◌∙◌, subst, ap, append_assoc, append-nil, arith}
use Rattle.std.specs.Prelude.{◌↔◌, MatchBool, IsTrue, not}
use Rattle.std.specs.List.{remove}
use Rattle.std.proofs.lemmas.Bool.{cases_lt}
use Rattle.std.proofs.lemmas.Bool.Decides.{nat_tests}
use Rattle.std.proofs.lemmas.Option.{slice_get_within}
use Rattle.std.proofs.lemmas.List.{length-append, length-take-le, get_or_append_left}
use Rattle.std.proofs.lemmas.List.Edits.{remove-append_right}
use Rattle.std.proofs.Math.Seq.{get_or-append_seam, take-suc, take-length, drop-cons, drop-length}
use Rattle.row_core.specs.declared.errors.Overflow.{Overflow}
use Rattle.row_core.specs.declared.PairOver.{PairOver}
use Rattle.cons_sys.specs.Constraints.{Constraint, row_at}
use Rattle.gens_sys.specs.Generators as gens
use Rattle.gens_sys.specs.Generators.{Generator}
use Rattle.row_core.specs.declared.errors.ConvErr.{ConvErr}
use Rattle.row_core.specs.declared.errors.ConvErr.TheVariants as conversion
use Rattle.flat_rows.specs.Flat.{marked}
use Rattle.row_core.specs.Points.{IsPoint}
use Rattle.poly_pair.specs.declared.topology.Topology.TheVariants.{Closed}
use Rattle.poly_pair.specs.Polyhedra.{Polyhedron, HasNoPoint, IsIncluded, HaveSamePoints}
use Rattle.row_core.specs.Refusals.{IsOverflowIn}
use Rattle.powerset.specs.Reductions.{Supersedes, IsSuperseded, IsLeftOut, AreMarks, shown_pair, IsDecided, AreDecided, StopsAt, IsAsked, LeavesInAsking, LeavesAt, LeavesBetween}
use Rattle.cover_search.proofs.BranchLemmas.{same_at}

-- ---- what is shown
abbrev pub with_rows : PairOver → List ℤ → List ℤ → Overflow
with_rows pair left right = record { kind = pair.kind; step = 0; left = left; right = right; column = pair.column }

-- of the rows of a pair
pub shown_by : (cs : List Constraint) (gs : List Generator) (pair : PairOver) (left right : List ℤ) → left ≡ row_at cs pair.left → right ≡ gens.row_at gs pair.right → with_rows pair left right ≡ shown_pair cs gs pair
shown_by cs gs pair left right e f = ap (λ (r : List ℤ). with_rows pair r right) e ∙ ap (λ (r : List ℤ). with_rows pair (row_at cs pair.left) r) f

-- ---- one member and another
pub same_back : (p q : Polyhedron) → p.cons.dim ≡ q.cons.dim → HaveSamePoints p q → IsIncluded q p
same_back p q d same v pt h = (same v (subst (λ (n : ℕ). IsPoint n v) (sym d) pt)).1 h

same_both : (p q : Polyhedron) → p.cons.dim ≡ q.cons.dim → IsIncluded p q → IsIncluded q p → HaveSamePoints p q
same_both p q d i j v pt = (i v pt, j v (subst (λ (n : ℕ). IsPoint n v) d pt))

-- the other includes the one, and doesn't stand before it: whether the one includes the other tells
pub further : (one other : Polyhedron) (before same : Bool) → one.cons.dim ≡ other.cons.dim → IsIncluded one other → before ≡ false → IsTrue same ↔ IsIncluded other one → MatchBool (not same) (Supersedes one other (IsTrue before)) (¬ (Supersedes one other (IsTrue before)))
further one other before true d i e h = λ s. by_case s.first
  where
    by_case : IsTrue before ⊎ (¬ (HaveSamePoints one other)) → ⊥
    by_case (inl b) = cc
    by_case (inr n) = n (same_both one other d i (h.0 refl))
further one other before false d i e h = record { includes = i; first = inr (λ same. let b : false ≡ true = h.1 (same_back one other d same) in cc) }

to_before : (a b : ℕ) → a < b → ltb a b ≡ true
to_before a b h = grind (arith, nat_tests)

of_before : (a b : ℕ) → ltb a b ≡ true → a < b
of_before a b h = grind (arith, nat_tests)

first_to : (p q : Polyhedron) (a b : ℕ) → (a < b) ⊎ (¬ (HaveSamePoints p q)) → IsTrue (ltb a b) ⊎ (¬ (HaveSamePoints p q))
first_to p q a b (inl h) = inl (to_before a b h)
first_to p q a b (inr h) = inr h

first_of_test : (p q : Polyhedron) (a b : ℕ) → IsTrue (ltb a b) ⊎ (¬ (HaveSamePoints p q)) → (a < b) ⊎ (¬ (HaveSamePoints p q))
first_of_test p q a b (inl h) = inl (of_before a b h)
first_of_test p q a b (inr h) = inr h

module _ (members : List Polyhedron) (i : ℕ) where
  pub is_superseded_by : (k : ℕ) (one other p : Polyhedron) → slice_get members i ≡ Some one → slice_get members k ≡ Some other → k ≢ i → Supersedes one other (IsTrue (ltb k i)) → slice_get members i ≡ Some p → IsSuperseded members i p
  is_superseded_by k one other p at_i at_k ne s at = subst (IsSuperseded members i) (same_at members i i one p refl at_i at) (record {
    index = k;
    other = other;
    at = at_k;
    differs = ne;
    supersedes = record { includes = s.includes; first = first_of_test one other k i s.first };
  })

  -- none of the first k members supersedes it
  abbrev pub NoneBefore : ℕ → Type 0
  NoneBefore n = (k : ℕ) (p q : Polyhedron) → k < n → k ≢ i → slice_get members i ≡ Some p → slice_get members k ≡ Some q → ¬ (Supersedes p q (k < i))

  pub none_more : (n : ℕ) → NoneBefore n → (n ≢ i → (p q : Polyhedron) → slice_get members i ≡ Some p → slice_get members n ≡ Some q → ¬ (Supersedes p q (n < i))) → NoneBefore (n + 1)
  none_more n before here k p q b ne at_i at_k = by_case (cases_lt k n)
    where
      by_case : (k < n) ⊎ (n ≤ k) → ¬ (Supersedes p q (k < i))
      by_case (inl l) = before k p q l ne at_i at_k
      by_case (inr l) = let e : n ≡ k = omega arith in
          subst (λ (m : ℕ). ¬ (Supersedes p q (m < i))) e (here (λ f. ne (sym e ∙ f)) p q at_i (subst (λ (m : ℕ). slice_get members m ≡ Some q) (sym e) at_k))

  pub not_by : (k : ℕ) (one other p q : Polyhedron) → slice_get members i ≡ Some one → slice_get members k ≡ Some other → ¬ (Supersedes one other (IsTrue (ltb k i))) → slice_get members i ≡ Some p → slice_get members k ≡ Some q → ¬ (Supersedes p q (k < i))
  not_by k one other p q at_one at_other never at_p at_q s =
      let e = same_at members i i p one refl at_p at_one in
      let f = same_at members k k q other refl at_q at_other in
      never (subst (λ (r : Polyhedron). Supersedes r other (IsTrue (ltb k i))) e (subst (λ (r : Polyhedron). Supersedes p r (IsTrue (ltb k i))) f (record { includes = s.includes; first = first_to p q k i s.first })))

  pub not_superseded : (n : ℕ) (p : Polyhedron) → n ≡ length members → NoneBefore n → slice_get members i ≡ Some p → ¬ (IsSuperseded members i p)
  not_superseded n p e none at s = none s.index p s.other (omega (arith, slice_get_within members s.index s.other s.at)) s.differs at s.at s.supersedes

  -- ---- tests that are answered
  pub stops_at : (k : ℕ) (one other p : Polyhedron) → slice_get members i ≡ Some one → slice_get members k ≡ Some other → Supersedes one other (IsTrue (ltb k i)) → slice_get members i ≡ Some p → StopsAt members i p k
  stops_at k one other p at_i at_k s at = subst (λ (r : Polyhedron). StopsAt members i r k) (same_at members i i one p refl at_i at) (record {
    other = other;
    at = at_k;
    supersedes = record { includes = s.includes; first = first_of_test one other k i s.first };
  })

  pub decided_by : (k : ℕ) (one other p q : Polyhedron) → slice_get members i ≡ Some one → slice_get members k ≡ Some other → IsDecided one other (IsTrue (ltb k i)) → slice_get members i ≡ Some p → slice_get members k ≡ Some q → IsDecided p q (k < i)
  decided_by k one other p q at_one at_other d at_p at_q =
      subst (λ (r : Polyhedron). IsDecided r q (k < i)) (same_at members i i one p refl at_one at_p)
      (subst (λ (r : Polyhedron). IsDecided one r (k < i)) (same_at members k k other q refl at_other at_q)
      (record { includes = d.includes; back = λ included later. d.back included (λ t. later (of_before k i t)) }))

  -- for the first n members
  abbrev pub DecidedBefore : ℕ → Type 0
  DecidedBefore n = (p : Polyhedron) → slice_get members i ≡ Some p → AreDecided members i p n

  pub decided_more : (n : ℕ) → DecidedBefore n → (n ≢ i → (p q : Polyhedron) → slice_get members i ≡ Some p → slice_get members n ≡ Some q → IsDecided p q (n < i)) → DecidedBefore (n + 1)
  decided_more n before here p at l q b ne at_l = by_case (cases_lt l n)
    where
      by_case : (l < n) ⊎ (n ≤ l) → IsDecided p q (l < i)
      by_case (inl less) = before p at l q less ne at_l
      by_case (inr more) = let e : n ≡ l = omega arith in
          subst (λ (m : ℕ). IsDecided p q (m < i)) e (here (λ f. ne (sym e ∙ f)) p q at (subst (λ (m : ℕ). slice_get members m ≡ Some q) (sym e) at_l))

  back_leaves : (k : ℕ) (one other : Polyhedron) (over : Overflow) → LeavesInAsking one other (IsTrue (ltb k i)) over → LeavesInAsking one other (k < i) over
  back_leaves k one other over (inl l) = inl l
  back_leaves k one other over (inr l) = inr (record { included = l.included; behind = λ b. l.behind (to_before k i b); leaves = l.leaves })

  pub asking_leaves : (k : ℕ) (one other : Polyhedron) (error : ConvErr) → slice_get members i ≡ Some one → slice_get members k ≡ Some other → k ≢ i → DecidedBefore k → IsOverflowIn (LeavesInAsking one other (IsTrue (ltb k i))) error → IsOverflowIn (LeavesAt members i) error
  asking_leaves k one other (conversion.Overflow over) at_i at_k ne decided l = record { one = one; at_first = at_i; second = k; other = other; at_second = at_k; differ = ne; before = decided one at_i; leaves = back_leaves k one other over l }
  asking_leaves k one other conversion.Memory at_i at_k ne decided l = tt

  -- ---- left out
  pub left_out_if : (b : Bool) (p : Polyhedron) → ¬ (HasNoPoint p) → MatchBool b (IsSuperseded members i p) (¬ (IsSuperseded members i p)) → MatchBool b (IsLeftOut members i p) (¬ (IsLeftOut members i p))
  left_out_if true p some s = inr s
  left_out_if false p some s = neither
    where
      neither : ¬ (IsLeftOut members i p)
      neither (inl n) = some n
      neither (inr t) = s t

turned : (b : Bool) (A : Type 0) → MatchBool b A (¬ A) → MatchBool (not b) (¬ A) A
turned true A h = h
turned false A h = h

-- one mark more
pub marks_more : (members : List Polyhedron) (keep : List Bool) (left_out : Bool) → AreMarks members keep → ((p : Polyhedron) → slice_get members (length keep) ≡ Some p → MatchBool left_out (IsLeftOut members (length keep) p) (¬ (IsLeftOut members (length keep) p))) → AreMarks members (keep ++ not left_out ∷ [])
marks_more members keep left_out m h = record { each = each }
  where
    each : (i : ℕ) (p : Polyhedron) → i < length (keep ++ not left_out ∷ []) → slice_get members i ≡ Some p → MatchBool (get_or (keep ++ not left_out ∷ []) i false) (¬ (IsLeftOut members i p)) (IsLeftOut members i p)
    each i p b at = by_case (cases_lt i (length keep))
      where
        by_case : (i < length keep) ⊎ (length keep ≤ i) → MatchBool (get_or (keep ++ not left_out ∷ []) i false) (¬ (IsLeftOut members i p)) (IsLeftOut members i p)
        by_case (inl l) = subst (λ (x : Bool). MatchBool x (¬ (IsLeftOut members i p)) (IsLeftOut members i p)) (sym (get_or_append_left keep (not left_out ∷ []) false i l)) (m.each i p l at)
        by_case (inr l) =
            let e : length keep ≡ i = omega (arith, length-append keep (not left_out ∷ [])) in
            subst (λ (k : ℕ). MatchBool (get_or (keep ++ not left_out ∷ []) k false) (¬ (IsLeftOut members k p)) (IsLeftOut members k p)) e
            (subst (λ (x : Bool). MatchBool x (¬ (IsLeftOut members (length keep) p)) (IsLeftOut members (length keep) p)) (sym (get_or-append_seam keep (not left_out) [] false))
            (turned left_out (IsLeftOut members (length keep) p) (h p (subst (λ (k : ℕ). slice_get members k ≡ Some p) (sym e) at))))

-- ---- members that are asked
-- the first n members are
abbrev pub AreAsked : List Polyhedron → ℕ → Type 0
AreAsked members n = (l : ℕ) (q : Polyhedron) → l < n → slice_get members l ≡ Some q → IsAsked members l q

-- one more
pub asked_more : (members : List Polyhedron) (n : ℕ) → AreAsked members n → ((q : Polyhedron) → slice_get members n ≡ Some q → IsAsked members n q) → AreAsked members (n + 1)
asked_more members n asked here l q b at = by_case (cases_lt l n)
  where
    by_case : (l < n) ⊎ (n ≤ l) → IsAsked members l q
    by_case (inl less) = asked l q less at
    by_case (inr more) = let e : n ≡ l = omega arith in
        subst (λ (m : ℕ). IsAsked members m q) e (here q (subst (λ (m : ℕ). slice_get members m ≡ Some q) (sym e) at))

-- an empty member needs no test
pub asked_empty : (members : List Polyhedron) (i : ℕ) (p : Polyhedron) → HasNoPoint p → IsAsked members i p
asked_empty members i p none = record { upto = 0; decided = λ l q b. absurd (below_zero l b); ends = inl none }
  where
    below_zero : (l : ℕ) → l < 0 → ⊥
    below_zero l b = omega (arith, b)

pub at_leaves : (members : List Polyhedron) (n : ℕ) → AreAsked members n → (error : ConvErr) → IsOverflowIn (LeavesAt members n) error → IsOverflowIn (LeavesBetween members) error
at_leaves members n asked (conversion.Overflow over) l = record { first = n; earlier = asked; leaves = l }
at_leaves members n asked conversion.Memory l = tt

-- ---- members taken out, from the last to the first
none_marked : {X : Type 0} (keep : List Bool) → marked {X = X} keep [] ≡ []
none_marked [] = refl
none_marked (k ∷ keep) = refl

pub none_taken : (old : List Polyhedron) (keep : List Bool) (n : ℕ) → n ≡ length old → old ≡ take n old ++ marked (drop n keep) (drop n old)
none_taken old keep n e =
    subst (λ (k : ℕ). old ≡ take k old ++ marked (drop k keep) (drop k old)) (sym e)
    (sym (ap (λ (xs : List Polyhedron). xs ++ marked (drop (length old) keep) (drop (length old) old)) (take-length old)
    ∙ ap (λ (xs : List Polyhedron). old ++ marked (drop (length old) keep) xs) (drop-length old)
    ∙ ap (λ (xs : List Polyhedron). old ++ xs) (none_marked (drop (length old) keep)) ∙ append-nil old))

any_polyhedron : Polyhedron
any_polyhedron = record { topology = Closed; cons = record { dim = 0; list = [] }; gens = record { dim = 0; list = [] } }

module _ (old : List Polyhedron) (keep : List Bool) (i : ℕ) (marks : i < length keep) (below : i < length old) where
  rest_kept : get_or keep i false ≡ true → marked (drop i keep) (drop i old) ≡ get_or old i any_polyhedron ∷ marked (drop (suc i) keep) (drop (suc i) old)
  rest_kept e = rw (drop-cons keep i false marks, drop-cons old i any_polyhedron below, e) refl

  rest_left : get_or keep i false ≡ false → marked (drop i keep) (drop i old) ≡ marked (drop (suc i) keep) (drop (suc i) old)
  rest_left e = rw (drop-cons keep i false marks, drop-cons old i any_polyhedron below, e) refl

  kept_back : (items : List Polyhedron) → get_or keep i false ≡ true → items ≡ take (suc i) old ++ marked (drop (suc i) keep) (drop (suc i) old) → items ≡ take i old ++ marked (drop i keep) (drop i old)
  kept_back items e f =
      f ∙ ap (λ (xs : List Polyhedron). xs ++ marked (drop (suc i) keep) (drop (suc i) old)) (take-suc old i any_polyhedron below)
      ∙ append_assoc (take i old) (get_or old i any_polyhedron ∷ []) (marked (drop (suc i) keep) (drop (suc i) old))
      ∙ ap (λ (xs : List Polyhedron). take i old ++ xs) (sym (rest_kept e))

  taken_out : (items new : List Polyhedron) → get_or keep i false ≡ false → items ≡ take (suc i) old ++ marked (drop (suc i) keep) (drop (suc i) old) → new ≡ remove items i → new ≡ take i old ++ marked (drop i keep) (drop i old)
  taken_out items new e f g =
      let front : length (take i old) ≡ i = length-take-le i old (omega arith) in
      let none : i - i ≡ 0 = omega arith in
      g ∙ ap (λ (xs : List Polyhedron). remove xs i) (f ∙ ap (λ (xs : List Polyhedron). xs ++ marked (drop (suc i) keep) (drop (suc i) old)) (take-suc old i any_polyhedron below) ∙ append_assoc (take i old) (get_or old i any_polyhedron ∷ []) (marked (drop (suc i) keep) (drop (suc i) old)))
      ∙ remove-append_right (take i old) (get_or old i any_polyhedron ∷ marked (drop (suc i) keep) (drop (suc i) old)) i i front (omega arith)
      ∙ ap (λ (k : ℕ). take i old ++ remove (get_or old i any_polyhedron ∷ marked (drop (suc i) keep) (drop (suc i) old)) k) none
      ∙ ap (λ (xs : List Polyhedron). take i old ++ xs) (sym (rest_left e))

-- the same of the place before an index
module _ (old : List Polyhedron) (keep : List Bool) (index : ℕ) (some : 0 < index) (marks : index ≤ length keep) (below : index ≤ length old) (items : List Polyhedron) (part : items ≡ take index old ++ marked (drop index keep) (drop index old)) where
  part_at : items ≡ take (suc (index - 1)) old ++ marked (drop (suc (index - 1)) keep) (drop (suc (index - 1)) old)
  part_at = let e : index ≡ suc (index - 1) = omega arith in subst (λ (k : ℕ). items ≡ take k old ++ marked (drop k keep) (drop k old)) e part

  pub one_kept : get_or keep (index - 1) false ≡ true → items ≡ take (index - 1) old ++ marked (drop (index - 1) keep) (drop (index - 1) old)
  one_kept e = kept_back old keep (index - 1) (omega arith) (omega arith) items e part_at

  pub one_out : (new : List Polyhedron) → get_or keep (index - 1) false ≡ false → new ≡ remove items (index - 1) → new ≡ take (index - 1) old ++ marked (drop (index - 1) keep) (drop (index - 1) old)
  one_out new e f = taken_out old keep (index - 1) (omega arith) (omega arith) items new e part_at f
