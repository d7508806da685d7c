-- Parts of a set.
use Rattle.std.proofs.Common.{◌≡◌, ◌⊎◌, inl, inr, ℕ, zero, suc, ◌+◌, ◌-◌, ◌*◌, ◌<◌, ◌≤◌, List, [], ◌∷◌, ◌++◌, map, length, slice_get, get_or, Option, Some, None, ℤ, refl, sym, ◌∙◌, subst, ap, append_assoc, append-nil, true, false, arith}
use Rattle.std.specs.Prelude.{All, Contains, MatchOption, is_some}
use Rattle.std.proofs.lemmas.Bool.{cases_lt}
use Rattle.std.proofs.lemmas.List.{length-append, get_or_default}
use Rattle.std.proofs.lemmas.List.Elements.{All-nil, All-head, All-push, All-append, All-map, All-weaker, All-from_get_or, Contains-append_left, Contains-append_right, Contains-push, Contains-push_cases}
use Rattle.std.proofs.lemmas.Option.{slice_get_within, slice_get-get_or, get_or_from_slice_get}
use Rattle.row_core.specs.Points.{IsPoint}
use Rattle.cons_sys.specs.declared.kind.ConKind.TheVariants.{Eq, Ge, Gt}
use Rattle.cons_sys.specs.Constraints.{Constraint, Constraints, constraint_at, Satisfies, In}
use Rattle.poly_pair.specs.Spanning.{HoldNowhere}
use Rattle.cover_search.specs.declared.contacts.Cut.{Cut}
use Rattle.cover_search.specs.declared.contacts.Plan.{Plan}
use Rattle.cover_search.specs.declared.parts.Part.{Part}
use Rattle.cover_search.specs.Inequalities.{IsInequality, AreInequalities, complement}
use Rattle.cover_search.specs.Regions.{with_one, HoldsOn, IsPointIn, LiesIn}
use Rattle.cover_search.specs.Branches.{HoldsInSome, AreCovered, IsUncovered}
use Rattle.cover_search.specs.Pieces.{LiesInSome}
use Rattle.cover_search.specs.Parts.{AreApart, HoldFrom, IsOf, IsOpenIn, as_number, IsApartAt, IsCutOf, IsNext, IsPlan, IsMet, IsPushed, IsLeft, IsInSomePart, IsOutside, IsPartedBy, IsParted, IsCutBy, IsFollowed, IsPart, all_rows, to_come, all_to_come, IsSettled, IsMissed}
use Rattle.cover_search.proofs.InequalityLemmas.{all_left, all_right, complement_excludes, holds_or_complement}
use Rattle.cover_search.proofs.BranchLemmas.{same_at}
use Rattle.cover_search.proofs.PieceLemmas.{listed_at}

-- ---- how a set lies to a system
opposite_proper : (c : Constraint) → IsInequality c → IsInequality (complement c)
opposite_proper (a, Eq) i = i
opposite_proper (a, Ge) i = tt
opposite_proper (a, Gt) i = tt

pub complements_proper : (rows : List Constraint) → All IsInequality rows → All IsInequality (map complement rows)
complements_proper rows h = All-map IsInequality complement rows (All-weaker IsInequality (λ (c : Constraint). IsInequality (complement c)) opposite_proper rows h)

-- where the complement of an inequality holds on the set, no point of it is in the system
pub apart_by : (cs rows : Constraints) (index : ℕ) → AreInequalities rows → index < length rows.list → HoldsOn cs (complement (constraint_at rows.list index)) → AreApart cs rows
apart_by cs rows index proper below h v pt holds inside = complement_excludes (constraint_at rows.list index) v (proper index ([], Eq) below) (h v pt holds) (inside index ([], Eq) below)

-- where all inequalities hold on the set, it lies in the system
pub lies_by : (cs rows : Constraints) → HoldFrom cs rows 0 → LiesIn cs rows
lies_by cs rows h v pt holds = All-from_get_or (Satisfies v) rows.list ([], Eq) (λ i b. h i (omega arith) b v pt holds)

-- ---- plans
is_next : (plan : Plan) (cut : Cut) (i : ℕ) → plan.next ≡ Some cut → cut.system ≡ i → IsOpenIn plan i
is_next plan cut i e h = inl (subst (λ (o : Option Cut). IsOf o i) (sym e) h)

is_met : (plan : Plan) (xs : List ℕ) (i : ℕ) → plan.met.items ≡ xs → Contains xs i → IsOpenIn plan i
is_met plan xs i e h = inr (subst (λ (ys : List ℕ). Contains ys i) (sym e) h)

module _ (systems : List Constraints) (region : Constraints) (numbers : List ℕ) where
  module _ (k : ℕ) (old : Plan) (p : IsPlan systems region numbers k old) where
    listed_more : (new : Plan) → ((i : ℕ) → IsOpenIn old i → IsOpenIn new i) → IsOpenIn new (get_or numbers k 0) ⊎ IsApartAt systems region (get_or numbers k 0) → (n : ℕ) → n < k + 1 → n < length numbers → IsOpenIn new (get_or numbers n 0) ⊎ IsApartAt systems region (get_or numbers n 0)
    listed_more new keep here n b l = by_case (cases_lt n k)
      where
        moved : IsOpenIn old (get_or numbers n 0) ⊎ IsApartAt systems region (get_or numbers n 0) → IsOpenIn new (get_or numbers n 0) ⊎ IsApartAt systems region (get_or numbers n 0)
        moved (inl o) = inl (keep (get_or numbers n 0) o)
        moved (inr a) = inr a

        by_case : (n < k) ⊎ (k ≤ n) → IsOpenIn new (get_or numbers n 0) ⊎ IsApartAt systems region (get_or numbers n 0)
        by_case (inl h) = moved (p.listed n h l)
        by_case (inr h) =
            let e : k ≡ n = omega (arith, b, h) in
            subst (λ (m : ℕ). IsOpenIn new (get_or numbers m 0) ⊎ IsApartAt systems region (get_or numbers m 0)) e here

    plan_apart : IsApartAt systems region (get_or numbers k 0) → IsPlan systems region numbers (k + 1) old
    plan_apart a = record { listed = listed_more old (λ i o. o) (inr a); next = p.next; below = p.below; few = omega (arith, p.few) }

    module _ (cut : Cut) (new : Plan) (is : cut.system ≡ get_or numbers k 0) (of : IsCutOf systems region cut) where
      keep_pushed : (x : ℕ) → new.met.items ≡ old.met.items ++ x ∷ [] → (i : ℕ) → Contains old.met.items i → IsOpenIn new i
      keep_pushed x e i c = is_met new (old.met.items ++ x ∷ []) i e (Contains-append_left old.met.items (x ∷ []) i c)

      last_pushed : (x i : ℕ) → new.met.items ≡ old.met.items ++ x ∷ [] → x ≡ i → IsOpenIn new i
      last_pushed x i e h = is_met new (old.met.items ++ x ∷ []) i e (subst (Contains (old.met.items ++ x ∷ [])) h (Contains-push old.met.items x))

      below_pushed : (c : Cut) → IsCutOf systems region c → new.met.items ≡ old.met.items ++ c.system ∷ [] → All (λ (i : ℕ). i < length systems) new.met.items
      below_pushed c h e = subst (All (λ (i : ℕ). i < length systems)) (sym e) (All-push (λ (i : ℕ). i < length systems) old.met.items c.system p.below (slice_get_within systems c.system h.rows h.at))

      taken : (o : Option Cut) → old.next ≡ o → MatchOption o ((new.next ≡ Some cut) × (new.met.items ≡ old.met.items)) (λ (best : Cut). ((new.next ≡ Some cut) × (new.met.items ≡ old.met.items ++ best.system ∷ [])) ⊎ ((new.next ≡ Some best) × (new.met.items ≡ old.met.items ++ cut.system ∷ []))) → IsPlan systems region numbers (k + 1) new
      taken None e t = record {
        listed = listed_more new keep (inl (is_next new cut (get_or numbers k 0) t.0 is));
        next = subst (IsNext systems region new.met.items) (sym t.0) of;
        below = subst (All (λ (i : ℕ). i < length systems)) (sym t.1) p.below;
        few = omega (arith, ap as_number t.0, ap as_number e, ap (λ (xs : List ℕ). length xs) t.1, p.few);
      }
        where
          keep : (i : ℕ) → IsOpenIn old i → IsOpenIn new i
          keep i (inl o) = absurd (subst (λ (x : Option Cut). IsOf x i) e o)
          keep i (inr c) = is_met new old.met.items i t.1 c
      taken (Some best) e (inl t) = record {
        listed = listed_more new keep (inl (is_next new cut (get_or numbers k 0) t.0 is));
        next = subst (IsNext systems region new.met.items) (sym t.0) of;
        below = below_pushed best (subst (IsNext systems region old.met.items) e p.next) t.1;
        few = omega (arith, ap as_number t.0, ap as_number e, ap (λ (xs : List ℕ). length xs) t.1, length-append old.met.items (best.system ∷ []), p.few);
      }
        where
          keep : (i : ℕ) → IsOpenIn old i → IsOpenIn new i
          keep i (inl o) = last_pushed best.system i t.1 (subst (λ (x : Option Cut). IsOf x i) e o)
          keep i (inr c) = keep_pushed best.system t.1 i c
      taken (Some best) e (inr t) = record {
        listed = listed_more new keep (inl (last_pushed cut.system (get_or numbers k 0) t.1 is));
        next = subst (IsNext systems region new.met.items) (sym t.0) (subst (IsNext systems region old.met.items) e p.next);
        below = below_pushed cut of t.1;
        few = omega (arith, ap as_number t.0, ap as_number e, ap (λ (xs : List ℕ). length xs) t.1, length-append old.met.items (cut.system ∷ []), p.few);
      }
        where
          keep : (i : ℕ) → IsOpenIn old i → IsOpenIn new i
          keep i (inl o) = is_next new best i t.0 (subst (λ (x : Option Cut). IsOf x i) e o)
          keep i (inr c) = keep_pushed cut.system t.1 i c

    -- one more number
    pub plan_next : (rows : Constraints) (new : Plan) → slice_get systems (get_or numbers k 0) ≡ Some rows → IsMet region rows (get_or numbers k 0) old new → IsPlan systems region numbers (k + 1) new
    plan_next rows new at (inl m) = subst (IsPlan systems region numbers (k + 1)) (sym m.1) (plan_apart (λ others f. subst (AreApart region) (same_at systems (get_or numbers k 0) (get_or numbers k 0) rows others refl at f) m.0))
    plan_next rows new at (inr (cut, is, last, behind, t)) = taken cut new is (record { rows = rows; at = subst (λ (i : ℕ). slice_get systems i ≡ Some rows) (sym is) at; last = last; behind = behind }) old.next refl t

-- ---- the parts of a set outside of a system
module _ (rows region : Constraints) (numbers : List ℕ) (proper : AreInequalities rows) (old : List Part) where
  -- before the first inequality
  pub parted_none : IsPartedBy rows 0 region numbers old old region
  parted_none = record { added = []; joined = sym (append-nil old); few = omega arith; each = All-nil (IsOutside rows region numbers); same_dim = refl; within = λ v pt h. h; told = λ v pt h. inl (h, λ i b. absurd (omega (arith, b))) }

  module _ (k : ℕ) (below : k < length rows.list) (middle new : List Part) (rest : Constraints) (p : IsPartedBy rows k region numbers old middle rest) where
    -- the part on which the inequality doesn't hold
    module _ (q : IsPushed rows k rest numbers middle new) where
      part_dim : q.part.region.dim ≡ rest.dim
      part_dim = ap (λ (cs : Constraints). cs.dim) q.cut

      in_cut : (v : List ℤ) → In q.part.region v → In (with_one rest (complement (constraint_at rows.list k))) v
      in_cut v h = subst (λ (cs : Constraints). In cs v) q.cut h

      outside : IsOutside rows region numbers q.part
      outside = record {
        same_dim = part_dim ∙ p.same_dim;
        within = λ v pt h. p.within v (subst (λ (n : ℕ). IsPoint n v) part_dim pt) (all_left (Satisfies v) rest.list (complement (constraint_at rows.list k) ∷ []) (in_cut v h));
        apart = λ v pt h inside. complement_excludes (constraint_at rows.list k) v (proper k ([], Eq) below)
            (All-head (Satisfies v) (complement (constraint_at rows.list k)) [] (all_right (Satisfies v) rest.list (complement (constraint_at rows.list k) ∷ []) (in_cut v h)))
            (inside k ([], Eq) below);
        same = q.same;
      }

      all_added : All (IsOutside rows region numbers) (p.added ++ q.part ∷ [])
      all_added = All-push (IsOutside rows region numbers) p.added q.part p.each outside

      all_joined : new ≡ old ++ (p.added ++ q.part ∷ [])
      all_joined = q.joined ∙ ap (λ (xs : List Part). xs ++ q.part ∷ []) p.joined ∙ append_assoc old p.added (q.part ∷ [])

      one_more : length (p.added ++ q.part ∷ []) ≤ k + 1
      one_more = omega (arith, length-append p.added (q.part ∷ []), p.few)

      in_pushed : (v : List ℤ) → In rest v → Satisfies v (complement (constraint_at rows.list k)) → IsInSomePart (p.added ++ q.part ∷ []) v
      in_pushed v h c = record { part = q.part; listed = Contains-push p.added q.part; holds = subst (λ (cs : Constraints). In cs v) (sym q.cut) (All-push (Satisfies v) rest.list (complement (constraint_at rows.list k)) h c) }

      in_added : (v : List ℤ) → IsInSomePart p.added v → IsInSomePart (p.added ++ q.part ∷ []) v
      in_added v s = record { part = s.part; listed = Contains-append_left p.added (q.part ∷ []) s.part s.listed; holds = s.holds }

    one_holds : (v : List ℤ) → ((i : ℕ) → i < k → Satisfies v (constraint_at rows.list i)) → Satisfies v (constraint_at rows.list k) → (i : ℕ) → i < k + 1 → Satisfies v (constraint_at rows.list i)
    one_holds v h c i b = by_case (cases_lt i k)
      where
        by_case : (i < k) ⊎ (k ≤ i) → Satisfies v (constraint_at rows.list i)
        by_case (inl l) = h i l
        by_case (inr l) = let e : k ≡ i = omega (arith, b, l) in subst (λ (m : ℕ). Satisfies v (constraint_at rows.list m)) e c

    pub parted_next : (left : Constraints) → IsLeft rows k rest numbers middle new left → IsPartedBy rows (k + 1) region numbers old new left
    parted_next left (inl (holds, same, is)) = record {
      added = p.added;
      joined = same ∙ p.joined;
      few = omega (arith, p.few);
      each = p.each;
      same_dim = ap (λ (cs : Constraints). cs.dim) is ∙ p.same_dim;
      within = subst (λ (cs : Constraints). LiesIn cs region) (sym is) p.within;
      told = λ v pt h. by_case v pt (p.told v pt h);
    }
      where
        by_case : (v : List ℤ) → IsPoint region.dim v → (In rest v × ((i : ℕ) → i < k → Satisfies v (constraint_at rows.list i))) ⊎ IsInSomePart p.added v → (In left v × ((i : ℕ) → i < k + 1 → Satisfies v (constraint_at rows.list i))) ⊎ IsInSomePart p.added v
        by_case v pt (inl t) = inl (subst (λ (cs : Constraints). In cs v) (sym is) t.0, one_holds v t.1 (holds v (subst (λ (n : ℕ). IsPoint n v) (sym p.same_dim) pt) t.0))
        by_case v pt (inr s) = inr s
    parted_next left (inr (q, is)) = record {
      added = p.added ++ q.part ∷ [];
      joined = all_joined q;
      few = one_more q;
      each = all_added q;
      same_dim = ap (λ (cs : Constraints). cs.dim) is ∙ p.same_dim;
      within = λ v pt h. p.within v (subst (λ (n : ℕ). IsPoint n v) (ap (λ (cs : Constraints). cs.dim) is) pt) (all_left (Satisfies v) rest.list (constraint_at rows.list k ∷ []) (subst (λ (cs : Constraints). In cs v) is h));
      told = λ v pt h. by_case v (p.told v pt h);
    }
      where
        by_side : (v : List ℤ) → In rest v × ((i : ℕ) → i < k → Satisfies v (constraint_at rows.list i)) → Satisfies v (constraint_at rows.list k) ⊎ Satisfies v (complement (constraint_at rows.list k)) → (In left v × ((i : ℕ) → i < k + 1 → Satisfies v (constraint_at rows.list i))) ⊎ IsInSomePart (p.added ++ q.part ∷ []) v
        by_side v t (inl c) = inl (subst (λ (cs : Constraints). In cs v) (sym is) (All-push (Satisfies v) rest.list (constraint_at rows.list k) t.0 c), one_holds v t.1 c)
        by_side v t (inr c) = inr (in_pushed q v t.0 c)

        by_case : (v : List ℤ) → (In rest v × ((i : ℕ) → i < k → Satisfies v (constraint_at rows.list i))) ⊎ IsInSomePart p.added v → (In left v × ((i : ℕ) → i < k + 1 → Satisfies v (constraint_at rows.list i))) ⊎ IsInSomePart (p.added ++ q.part ∷ []) v
        by_case v (inl t) = by_side v t (holds_or_complement (constraint_at rows.list k) v (proper k ([], Eq) below))
        by_case v (inr s) = inr (in_added q v s)

    -- behind the last that is crossed, all hold
    pub parted_last : HoldFrom region rows (k + 1) → IsPushed rows k rest numbers middle new → IsParted rows region numbers old new
    parted_last behind q = record {
      added = p.added ++ q.part ∷ [];
      joined = all_joined q;
      few = omega (arith, one_more q, below);
      each = all_added q;
      told = λ v pt h. by_case v pt h (p.told v pt h);
    }
      where
        all_hold : (v : List ℤ) → IsPoint region.dim v → In region v → ((i : ℕ) → i < k + 1 → Satisfies v (constraint_at rows.list i)) → In rows v
        all_hold v pt h t = All-from_get_or (Satisfies v) rows.list ([], Eq) (λ i b. at i b (cases_lt i (k + 1)))
          where
            at : (i : ℕ) → i < length rows.list → (i < k + 1) ⊎ (k + 1 ≤ i) → Satisfies v (constraint_at rows.list i)
            at i b (inl l) = t i l
            at i b (inr l) = behind i l b v pt h

        by_side : (v : List ℤ) → IsPoint region.dim v → In region v → In rest v × ((i : ℕ) → i < k → Satisfies v (constraint_at rows.list i)) → Satisfies v (constraint_at rows.list k) ⊎ Satisfies v (complement (constraint_at rows.list k)) → In rows v ⊎ IsInSomePart (p.added ++ q.part ∷ []) v
        by_side v pt h t (inl c) = inl (all_hold v pt h (one_holds v t.1 c))
        by_side v pt h t (inr c) = inr (in_pushed q v t.0 c)

        by_case : (v : List ℤ) → IsPoint region.dim v → In region v → (In rest v × ((i : ℕ) → i < k → Satisfies v (constraint_at rows.list i))) ⊎ IsInSomePart p.added v → In rows v ⊎ IsInSomePart (p.added ++ q.part ∷ []) v
        by_case v pt h (inl t) = by_side v pt h t (holds_or_complement (constraint_at rows.list k) v (proper k ([], Eq) below))
        by_case v pt h (inr s) = inr (in_added q v s)

-- ---- how many parts may come
come_some : (m n : ℕ) → 0 < to_come m n
come_some m zero = omega arith
come_some m (suc n) = omega arith

mul_more : (m a d : ℕ) → m * a ≤ m * (a + d)
mul_more m a d = omega arith

mul_least : (m a b : ℕ) → a ≤ b → m * a ≤ m * b
mul_least m a b h = let e : a + (b - a) ≡ b = omega (arith, h) in subst (λ (x : ℕ). m * a ≤ m * x) e (mul_more m a (b - a))

come_next : (m n : ℕ) → to_come m n ≤ to_come m (suc n)
come_next m zero = omega arith
come_next m (suc n) = omega (arith, mul_least m (to_come m n) (to_come m (suc n)) (come_next m n))

come_add : (m n d : ℕ) → to_come m n ≤ to_come m (d + n)
come_add m n zero = let e : 0 + n ≡ n = omega arith in subst (λ (x : ℕ). to_come m n ≤ to_come m x) (sym e) (omega arith)
come_add m n (suc d) = let e : suc d + n ≡ suc (d + n) = omega arith in subst (λ (x : ℕ). to_come m n ≤ to_come m x) (sym e) (omega (arith, come_add m n d, come_next m (d + n)))

come_least : (m n k : ℕ) → n ≤ k → to_come m n ≤ to_come m k
come_least m n k h = let e : (k - n) + n ≡ k = omega (arith, h) in subst (λ (x : ℕ). to_come m n ≤ to_come m x) e (come_add m n (k - n))

come_all : (m n : ℕ) (parts : List Part) → All (λ (p : Part). length p.met.items ≡ n) parts → all_to_come m parts ≡ length parts * to_come m n
come_all m n [] h = omega arith
come_all m n (p ∷ parts) h =
    let e : to_come m (length p.met.items) ≡ to_come m n = ap (to_come m) (All-head (λ (q : Part). length q.met.items ≡ n) p parts h) in
    omega (arith, e, come_all m n parts (λ i d b. h (suc i) d (omega (arith, b))))

rows_least : (systems : List Constraints) (i : ℕ) (rows : Constraints) → slice_get systems i ≡ Some rows → length rows.list ≤ all_rows systems
rows_least [] i rows at = absurd (omega (arith, slice_get_within [] i rows at))
rows_least (s ∷ systems) zero rows at = omega (arith, ap (λ (r : Constraints). length r.list) (get_or_from_slice_get (s ∷ systems) 0 rows rows at))
rows_least (s ∷ systems) (suc i) rows at = omega (arith, rows_least systems i rows at)

pub come-append : (m : ℕ) (xs ys : List Part) → all_to_come m (xs ++ ys) ≡ all_to_come m xs + all_to_come m ys
come-append m [] ys = omega arith
come-append m (x ∷ xs) ys = omega (arith, come-append m xs ys)

-- ---- a turn
module _ (systems : List Constraints) (part : Part) (old : List Part) where
  settled_whole : ((v : List ℤ) → IsPoint part.region.dim v → In part.region v → HoldsInSome systems v ⊎ IsInSomePart [] v) → IsSettled systems part old old
  settled_whole told = record {
    added = [];
    joined = sym (append-nil old);
    few = come_some (all_rows systems) (length part.met.items);
    each = All-nil (IsPart part.region systems);
    told = told;
  }

  pub settled_empty : HoldNowhere part.region → IsSettled systems part old old
  settled_empty none = settled_whole (λ v pt h. absurd (none v (record { point = pt; holds = h })))

  pub settled_within : LiesInSome systems part.region → IsSettled systems part old old
  settled_within l = settled_whole (λ v pt h. inl (record { system = l.system; listed = l.listed; holds = l.lies v pt h }))

  module _ (p : IsPart part.region systems part) (plan : Plan) (q : IsPlan systems part.region part.met.items (length part.met.items) plan) where
    -- a system is in the plan, or the set has no point of it
    placed : (i : ℕ) → IsOpenIn plan i ⊎ IsApartAt systems part.region i
    placed i = by_case (p.apart i)
      where
        by_case : Contains part.met.items i ⊎ IsApartAt systems part.region i → IsOpenIn plan i ⊎ IsApartAt systems part.region i
        by_case (inl (n, b, e)) = subst (λ (j : ℕ). IsOpenIn plan j ⊎ IsApartAt systems part.region j) (get_or_default part.met.items n 0 i b ∙ e) (q.listed n b b)
        by_case (inr a) = inr a

    pub missed : (v : List ℤ) → plan.next ≡ None → IsPointIn part.region v → IsMissed systems part.region v
    missed v e pt = record { point = pt; outside = λ i d b. by_case i d b (placed i) }
      where
        none_met : plan.met.items ≡ []
        none_met = subst (IsNext systems part.region plan.met.items) e q.next

        nothing : (i : ℕ) → Contains [] i → ⊥
        nothing i c = omega (arith, c.1)

        by_case : (i : ℕ) (d : Constraints) → i < length systems → IsOpenIn plan i ⊎ IsApartAt systems part.region i → ¬ (In (get_or systems i d) v)
        by_case i d b (inl (inl o)) = absurd (subst (λ (x : Option Cut). IsOf x i) e o)
        by_case i d b (inl (inr c)) = absurd (nothing i (subst (λ (xs : List ℕ). Contains xs i) none_met c))
        by_case i d b (inr a) = a (get_or systems i d) (slice_get-get_or systems i d b) v pt.point pt.holds

    module _ (cut : Cut) (e : plan.next ≡ Some cut) (rows : Constraints) (at : slice_get systems cut.system ≡ Some rows) (new : List Part) (r : IsParted rows part.region plan.met.items old new) where
      is_part : (other : Part) → IsOutside rows part.region plan.met.items other → IsPart part.region systems other
      is_part other o = record {
        same_dim = o.same_dim;
        within = o.within;
        below = subst (All (λ (i : ℕ). i < length systems)) (sym o.same) q.below;
        apart = λ i. by_case i (placed i);
      }
        where
          by_case : (i : ℕ) → IsOpenIn plan i ⊎ IsApartAt systems part.region i → Contains other.met.items i ⊎ IsApartAt systems other.region i
          by_case i (inl (inl h)) = inr (λ others f. subst (AreApart other.region) (same_at systems cut.system i rows others (subst (λ (x : Option Cut). IsOf x i) e h) at f) o.apart)
          by_case i (inl (inr c)) = inl (subst (λ (xs : List ℕ). Contains xs i) (sym o.same) c)
          by_case i (inr a) = inr (λ others f v pt h. a others f v (subst (λ (n : ℕ). IsPoint n v) o.same_dim pt) (o.within v pt h))

      fewer : all_to_come (all_rows systems) r.added < to_come (all_rows systems) (length part.met.items)
      fewer =
          let m = all_rows systems in
          let n = length plan.met.items in
          let one : as_number plan.next ≡ 1 = ap as_number e in
          let all : all_to_come m r.added ≡ length r.added * to_come m n = come_all m n r.added (All-weaker (IsOutside rows part.region plan.met.items) (λ (p : Part). length p.met.items ≡ n) (λ p o. ap (λ (xs : List ℕ). length xs) o.same) r.added r.each) in
          let most : length r.added * to_come m n ≤ m * to_come m n = mul_right (length r.added) m (to_come m n) (omega (arith, r.few, rows_least systems cut.system rows at)) in
          let less : to_come m (suc n) ≤ to_come m (length part.met.items) = come_least m (suc n) (length part.met.items) (omega (arith, one, q.few)) in
          omega (arith, all, most, less)
        where
          mul_right : (a b t : ℕ) → a ≤ b → a * t ≤ b * t
          mul_right a b t h = let c : a + (b - a) ≡ b = omega (arith, h) in subst (λ (x : ℕ). a * t ≤ x * t) c (omega arith)

      pub settled_parted : IsSettled systems part old new
      settled_parted = record {
        added = r.added;
        joined = r.joined;
        few = fewer;
        each = All-weaker (IsOutside rows part.region plan.met.items) (IsPart part.region systems) is_part r.added r.each;
        told = λ v pt h. by_case v (r.told v pt h);
      }
        where
          by_case : (v : List ℤ) → In rows v ⊎ IsInSomePart r.added v → HoldsInSome systems v ⊎ IsInSomePart r.added v
          by_case v (inl h) = inl (record { system = rows; listed = listed_at systems cut.system rows at; holds = h })
          by_case v (inr s) = inr s

    -- what a plan that was followed leaves
    pub followed_settles : (point : List ℤ) (new : List Part) (found : Option (List ℤ)) → IsPointIn part.region point → IsFollowed systems plan part.region point old new found → MatchOption found (IsSettled systems part old new) (IsMissed systems part.region)
    followed_settles point new found pt f = by_next plan.next refl f
      where
        by_next : (o : Option Cut) → plan.next ≡ o → MatchOption o (found ≡ Some point) (λ (cut : Cut). (found ≡ None) × IsCutBy systems cut part.region plan.met.items old new) → MatchOption found (IsSettled systems part old new) (IsMissed systems part.region)
        by_next None e is = subst (λ (x : Option (List ℤ)). MatchOption x (IsSettled systems part old new) (IsMissed systems part.region)) (sym is) (missed point e pt)
        by_next (Some cut) e g = subst (λ (x : Option (List ℤ)). MatchOption x (IsSettled systems part old new) (IsMissed systems part.region)) (sym g.0) (settled_parted cut e g.1.0 g.1.1 new g.1.2)

-- ---- the next cut of a plan
pub next_cut : (systems : List Constraints) (region : Constraints) (numbers : List ℕ) (o : Option Cut) (cut : Cut) → IsNext systems region numbers o → o ≡ Some cut → IsCutOf systems region cut
next_cut systems region numbers o cut h e = subst (IsNext systems region numbers) e h

pub next_below : (systems : List Constraints) (region : Constraints) (numbers : List ℕ) (o : Option Cut) (cut : Cut) → IsNext systems region numbers o → o ≡ Some cut → cut.system < length systems
next_below systems region numbers o cut h e = let c = next_cut systems region numbers o cut h e in slice_get_within systems cut.system c.rows c.at

-- its system
pub cut_rows : (systems : List Constraints) (region : Constraints) (cut : Cut) (h : IsCutOf systems region cut) (rows : Constraints) → rows ≡ get_or systems cut.system rows → h.rows ≡ rows
cut_rows systems region cut h rows e = sym (e ∙ get_or_from_slice_get systems cut.system h.rows rows h.at)

-- ---- the whole set
-- each point of the set is in some system or in some part
abbrev pub AreAllTold : Constraints → List Constraints → List Part → Type 0
AreAllTold first systems parts = (v : List ℤ) → IsPoint first.dim v → In first v → HoldsInSome systems v ⊎ IsInSomePart parts v

module _ (first : Constraints) (systems : List Constraints) where
  pub first_part : (part : Part) → part.region ≡ first → All (λ (i : ℕ). i < length systems) part.met.items → ((i : ℕ) → i < length systems → Contains part.met.items i) → IsPart first systems part
  first_part part e below all = record {
    same_dim = ap (λ (cs : Constraints). cs.dim) e;
    within = λ v pt h. subst (λ (cs : Constraints). In cs v) e h;
    below = below;
    apart = λ i. by_case i (cases_lt i (length systems));
  }
    where
      by_case : (i : ℕ) → (i < length systems) ⊎ (length systems ≤ i) → Contains part.met.items i ⊎ IsApartAt systems part.region i
      by_case i (inl b) = inl (all i b)
      by_case i (inr b) = inr (λ rows at. absurd (omega (arith, b, slice_get_within systems i rows at)))

  pub first_told : (part : Part) (parts : List Part) → part.region ≡ first → parts ≡ [] ++ part ∷ [] → AreAllTold first systems parts
  first_told part parts e f v pt h = inr (subst (λ (ps : List Part). IsInSomePart ps v) (sym f) (record { part = part; listed = (0, omega arith, refl); holds = subst (λ (cs : Constraints). In cs v) (sym e) h }))

  pub none_left : (parts : List Part) → parts ≡ [] → AreAllTold first systems parts → AreCovered first systems
  none_left parts e told v pt h = by_case (told v pt h)
    where
      nothing : IsInSomePart [] v → ⊥
      nothing n = omega (arith, n.listed.1)

      by_case : HoldsInSome systems v ⊎ IsInSomePart parts v → HoldsInSome systems v
      by_case (inl s) = s
      by_case (inr s) = absurd (nothing (subst (λ (ps : List Part). IsInSomePart ps v) e s))

  module _ (part : Part) (p : IsPart first systems part) where
    pub own_part : IsPart part.region systems part
    own_part = record { same_dim = refl; within = λ v pt h. h; below = p.below; apart = p.apart }

    pub own_dims : All (λ (rows : Constraints). rows.dim ≡ first.dim) systems → All (λ (rows : Constraints). rows.dim ≡ part.region.dim) systems
    own_dims dims = All-weaker (λ (rows : Constraints). rows.dim ≡ first.dim) (λ (rows : Constraints). rows.dim ≡ part.region.dim) (λ rows e. e ∙ sym p.same_dim) systems dims

    widened : (other : Part) → IsPart part.region systems other → IsPart first systems other
    widened other o = record {
      same_dim = o.same_dim ∙ p.same_dim;
      within = λ v pt h. p.within v (subst (λ (n : ℕ). IsPoint n v) o.same_dim pt) (o.within v pt h);
      below = o.below;
      apart = o.apart;
    }

    module _ (old new : List Part) (s : IsSettled systems part old new) where
      pub turn_parts : All (IsPart first systems) old → All (IsPart first systems) new
      turn_parts h = subst (All (IsPart first systems)) (sym s.joined) (All-append (IsPart first systems) old s.added h (All-weaker (IsPart part.region systems) (IsPart first systems) widened s.added s.each))

      pub turn_told : AreAllTold first systems (old ++ part ∷ []) → AreAllTold first systems new
      turn_told told v pt h = by_case (told v pt h)
        where
          here : HoldsInSome systems v ⊎ IsInSomePart s.added v → HoldsInSome systems v ⊎ IsInSomePart new v
          here (inl i) = inl i
          here (inr i) = inr (subst (λ (ps : List Part). IsInSomePart ps v) (sym s.joined) (record { part = i.part; listed = Contains-append_right old s.added i.part i.listed; holds = i.holds }))

          by_place : (i : IsInSomePart (old ++ part ∷ []) v) → Contains old i.part ⊎ (part ≡ i.part) → HoldsInSome systems v ⊎ IsInSomePart new v
          by_place i (inl l) = inr (subst (λ (ps : List Part). IsInSomePart ps v) (sym s.joined) (record { part = i.part; listed = Contains-append_left old s.added i.part l; holds = i.holds }))
          by_place i (inr e) = here (s.told v (subst (λ (n : ℕ). IsPoint n v) (sym p.same_dim) pt) (subst (λ (q : Part). In q.region v) (sym e) i.holds))

          by_case : HoldsInSome systems v ⊎ IsInSomePart (old ++ part ∷ []) v → HoldsInSome systems v ⊎ IsInSomePart new v
          by_case (inl i) = inl i
          by_case (inr i) = by_place i (Contains-push_cases old part i.part i.listed)

      pub turn_falls : all_to_come (all_rows systems) new < all_to_come (all_rows systems) (old ++ part ∷ [])
      turn_falls = omega (arith, ap (all_to_come (all_rows systems)) s.joined, come-append (all_rows systems) old s.added, come-append (all_rows systems) old (part ∷ []), s.few)

    pub missed_uncovered : (v : List ℤ) → IsMissed systems part.region v → IsUncovered first systems v
    missed_uncovered v m = record {
      point = subst (λ (n : ℕ). IsPoint n v) p.same_dim m.point.point;
      primitive = m.point.primitive;
      holds = p.within v m.point.point m.point.holds;
      outside = m.outside;
    }

    pub answered : (old new : List Part) (found : Option (List ℤ)) → is_some found ≡ true → MatchOption found (IsSettled systems part old new) (IsMissed systems part.region) → MatchOption found (AreCovered first systems) (IsUncovered first systems)
    answered old new None e t = cc
    answered old new (Some v) e m = missed_uncovered v m

    pub went_on : (old new : List Part) (found : Option (List ℤ)) → is_some found ≡ false → MatchOption found (IsSettled systems part old new) (IsMissed systems part.region) → IsSettled systems part old new
    went_on old new None e t = t
    went_on old new (Some v) e m = cc
