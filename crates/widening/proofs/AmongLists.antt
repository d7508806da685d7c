-- A list that gains those constraints whose rows are 0 on the same generators as some constraint.
use Rattle.std.proofs.Common.{◌≡◌, ℕ, zero, suc, ◌+◌, ◌<◌, ◌≤◌, take, List, [], ◌∷◌, ◌++◌, length, ℤ, sym, ap, ◌∙◌, subst, arith, below_more, All}
use Rattle.std.specs.Prelude.{◌↔◌}
use Rattle.std.proofs.lemmas.List.{take_more}
use Rattle.std.proofs.lemmas.List.Elements.{All-nil, All-cons, All-head, All-append}
use Rattle.cons_sys.specs.declared.kind.ConKind.{ConKind}
use Rattle.cons_sys.specs.declared.kind.ConKind.TheVariants.{Eq}
use Rattle.cons_sys.specs.Constraints.{Constraint, Constraints, Satisfies, constraint_at, row_at, kind_at}
use Rattle.stored_systems.specs.PointSets.{IsClosedKind, AreClosed}
use Rattle.stored_systems.proofs.ListLemmas.{All-left, All-right}
use Rattle.poly_pair.specs.Polyhedra.{Polyhedron}
use Rattle.widening.specs.Values.{HasZerosAmong, HaveZerosAmong, HoldAmong, AreAmong, begins, taken, passed}

abbrev pub HoldsAmong : Polyhedron → Constraints → ℕ → List Constraint → Type 0
HoldsAmong p cs n list = (v : List ℤ) → All (Satisfies v) list ↔ HoldAmong p cs n v

pub hold_none : (p : Polyhedron) (cs : Constraints) (list : List Constraint) → list ≡ [] → HoldsAmong p cs 0 list
hold_none p cs list e = subst (HoldsAmong p cs 0) (sym e) (λ v. ((λ h i l. absurd (omega (arith, l))), (λ h. All-nil (Satisfies v))))

module _ (p : Polyhedron) (cs : Constraints) (i : ℕ) (row : List ℤ) (kind : ConKind) (b : i < length cs.list) (is : row ≡ row_at cs.list i) (k : kind ≡ kind_at cs.list i) (list : List Constraint) (h : HoldsAmong p cs i list) where
  -- the constraint as it is listed
  listed : (row, kind) ≡ constraint_at cs.list i
  listed = ap (λ (v : List ℤ). (v, kind)) is ∙ ap (λ (x : ConKind). (row_at cs.list i, x)) k

  first_hold : (v : List ℤ) → HoldAmong p cs (i + 1) v → HoldAmong p cs i v
  first_hold v g n l = g n (omega (arith, l))

  -- one constraint more
  pub hold_taken : (new : List Constraint) → HasZerosAmong p.cons.list p.gens row → new ≡ list ++ (row, kind) ∷ [] → HoldsAmong p cs (i + 1) new
  hold_taken new has e = subst (HoldsAmong p cs (i + 1)) (sym e) (λ v. (
    (λ all. below_more (λ (n : ℕ). HasZerosAmong p.cons.list p.gens (row_at cs.list n) → Satisfies v (constraint_at cs.list n)) i
        ((h v).0 (All-left (Satisfies v) list ((row, kind) ∷ []) all))
        (λ a. subst (Satisfies v) listed (All-head (Satisfies v) (row, kind) [] (All-right (Satisfies v) list ((row, kind) ∷ []) all)))),
    (λ g. All-append (Satisfies v) list ((row, kind) ∷ []) ((h v).1 (first_hold v g))
        (All-cons (Satisfies v) (row, kind) [] (subst (Satisfies v) (sym listed) (g i (omega arith) (subst (HasZerosAmong p.cons.list p.gens) is has))) (All-nil (Satisfies v)))),
  ))

  pub hold_passed : ¬ (HasZerosAmong p.cons.list p.gens row) → HoldsAmong p cs (i + 1) list
  hold_passed none v = (
    (λ all. below_more (λ (n : ℕ). HasZerosAmong p.cons.list p.gens (row_at cs.list n) → Satisfies v (constraint_at cs.list n)) i ((h v).0 all)
        (λ a. absurd (none (subst (HasZerosAmong p.cons.list p.gens) (sym is) a)))),
    (λ g. (h v).1 (first_hold v g)),
  )

  pub closed_taken : (new : List Constraint) → AreClosed cs → All (λ c. IsClosedKind c.1) list → new ≡ list ++ (row, kind) ∷ [] → All (λ c. IsClosedKind c.1) new
  closed_taken new closed all e =
      subst (All (λ (c : Constraint). IsClosedKind c.1)) (sym e)
      (All-append (λ (c : Constraint). IsClosedKind c.1) list ((row, kind) ∷ []) all
      (All-cons (λ (c : Constraint). IsClosedKind c.1) (row, kind) [] (subst (λ (x : ConKind). IsClosedKind x) (sym k) (closed i ([], Eq) b)) (All-nil (λ (c : Constraint). IsClosedKind c.1))))

  -- those that are listed
  pub those_taken : (new : List Constraint) → HasZerosAmong p.cons.list p.gens row → new ≡ list ++ (row, kind) ∷ [] → AreAmong p cs i list → AreAmong p cs (i + 1) new
  those_taken new has e those = subst (AreAmong p cs (i + 1)) (ap (λ (c : Constraint). list ++ c ∷ []) (sym listed) ∙ sym e) (taken those (subst (HasZerosAmong p.cons.list p.gens) is has))

  pub those_passed : ¬ (HasZerosAmong p.cons.list p.gens row) → AreAmong p cs i list → AreAmong p cs (i + 1) list
  those_passed none those = passed those (λ has. none (subst (HasZerosAmong p.cons.list p.gens) (sym is) has))

pub those_begin : (p : Polyhedron) (cs : Constraints) (list : List Constraint) → list ≡ [] → AreAmong p cs 0 list
those_begin p cs list e = subst (AreAmong p cs 0) (sym e) begins

-- where all are, they are the list
pub all_those : (p : Polyhedron) (cs : Constraints) (n : ℕ) → n ≤ length cs.list → HaveZerosAmong p cs n → AreAmong p cs n (take n cs.list)
all_those p cs zero l all = begins
all_those p cs (suc n) l all =
    let below : n < length cs.list = omega (arith, l) in
    let next : n + 1 ≡ suc n = omega arith in
    subst (λ (m : ℕ). AreAmong p cs m (take m cs.list)) next
    (subst (AreAmong p cs (n + 1)) (sym (take_more cs.list n ([], Eq) below)) (taken (all_those p cs n (omega (arith, l)) (λ i b. all i (omega (arith, b)))) (all n (omega arith))))
