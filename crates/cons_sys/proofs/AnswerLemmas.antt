use Rattle.std.specs.Prelude.{◌≡◌, ℕ, ◌≤◌, List, [], length, ℤ, Bool, true, false, Result, Ok, Err, All, ◌↔◌, IfOk, IsTrue}
use Rattle.std.proofs.Common.{arith, sym, ◌∙◌, ap, refl, subst, inl, inr}
use Rattle.std.proofs.lemmas.Bool.{cases_order, false≢true}
use Rattle.std.proofs.lemmas.List.Elements.{All-from_get_or}
use Rattle.row_core.specs.Range.{DotStays, IsFirstToLeave, AllStay}
use Rattle.row_core.specs.declared.PairOver.{PairOver}
use Rattle.row_core.specs.declared.OverKind.{OverKind}
use Rattle.cons_sys.specs.Constraints.{Constraint, Constraints, row_at, Satisfies, In}
use Rattle.cons_sys.specs.Testing.{Stays, Reaches, Fails, LeavesRange, Answers}
use Rattle.cons_sys.specs.declared.kind.ConKind.TheVariants.{Eq}

-- a dot that stays in the range has no first column that leaves it
pub stays_or_leaves : (Stay : ℕ → Type 0) (n j : ℕ) → AllStay Stay n → IsFirstToLeave Stay n j → ⊥
stays_or_leaves Stay n j stays first = first.leaves (stays j first.column)

pub same_first : (Stay : ℕ → Type 0) (n i j : ℕ) → IsFirstToLeave Stay n i → IsFirstToLeave Stay n j → i ≡ j
same_first Stay n i j a b =
    elim (cases_order i j) [
      | inl same ↦ same
      | inr (inl less) ↦ absurd (a.leaves (b.before i less))
      | inr (inr more) ↦ absurd (b.leaves (a.before j more))
    ]

fails_once : (list : List Constraint) (v : List ℤ) (i : ℕ) (over : PairOver) → Fails list v i → LeavesRange list v over → ⊥
fails_once list v i over fails leaves =
    elim (cases_order i over.left) [
      | inl same ↦ stays_or_leaves (DotStays (row_at list over.left) v) (length (row_at list over.left)) over.column (subst (Stays list v) same fails.stays) leaves.column
      | inr (inl less) ↦ fails.fails (leaves.reached i less).holds
      | inr (inr more) ↦ stays_or_leaves (DotStays (row_at list over.left) v) (length (row_at list over.left)) over.column (fails.reached over.left more).stays leaves.column
    ]

same_left : (list : List Constraint) (v : List ℤ) (a b : PairOver) → LeavesRange list v a → LeavesRange list v b → a.left ≡ b.left
same_left list v a b p q =
    elim (cases_order a.left b.left) [
      | inl same ↦ same
      | inr (inl less) ↦ absurd (stays_or_leaves (DotStays (row_at list a.left) v) (length (row_at list a.left)) a.column (q.reached a.left less).stays p.column)
      | inr (inr more) ↦ absurd (stays_or_leaves (DotStays (row_at list b.left) v) (length (row_at list b.left)) b.column (p.reached b.left more).stays q.column)
    ]

abbrev made : OverKind → ℕ → ℕ → ℕ → Bool → PairOver
made kind left right column turned = record { kind = kind; left = left; right = right; column = column; turned = turned }

same_over : (a b : PairOver) → a.kind ≡ b.kind → a.left ≡ b.left → a.right ≡ b.right → a.column ≡ b.column → a.turned ≡ b.turned → a ≡ b
same_over a b e f g h k =
    let p : made a.kind a.left a.right a.column a.turned ≡ made b.kind b.left b.right b.column b.turned = cc in p

pub LeavesRange-once : (list : List Constraint) (v : List ℤ) (a b : PairOver) → LeavesRange list v a → LeavesRange list v b → a ≡ b
LeavesRange-once list v a b p q =
    let left : a.left ≡ b.left = same_left list v a b p q in
    same_over a b (p.kind ∙ sym q.kind) left (p.right ∙ sym q.right)
    (same_first (DotStays (row_at list b.left) v) (length (row_at list b.left)) a.column b.column (subst (λ (i : ℕ). IsFirstToLeave (DotStays (row_at list i) v) (length (row_at list i)) a.column) left p.column) q.column)
    (p.turned ∙ sym q.turned)

-- a test in order has one answer
pub Answers-once : (list : List Constraint) (v : List ℤ) (r s : Result Bool PairOver) → Answers list v r → Answers list v s → r ≡ s
Answers-once list v (Ok true) (Ok true) a b = refl
Answers-once list v (Ok true) (Ok false) a b = absurd (b.1.fails (a b.0 b.1.index).holds)
Answers-once list v (Ok true) (Err over) a b = absurd (stays_or_leaves (DotStays (row_at list over.left) v) (length (row_at list over.left)) over.column (a over.left b.index).stays b.column)
Answers-once list v (Ok false) (Ok true) a b = absurd (a.1.fails (b a.0 a.1.index).holds)
Answers-once list v (Ok false) (Ok false) a b = refl
Answers-once list v (Ok false) (Err over) a b = absurd (fails_once list v a.0 over a.1 b)
Answers-once list v (Err over) (Ok true) a b = absurd (stays_or_leaves (DotStays (row_at list over.left) v) (length (row_at list over.left)) over.column (b over.left a.index).stays a.column)
Answers-once list v (Err over) (Ok false) a b = absurd (fails_once list v b.0 over b.1 a)
Answers-once list v (Err over) (Err other) a b = ap (λ (o : PairOver). Err o) (LeavesRange-once list v over other a b)

-- the answer is a refusal exactly where the constraint that it numbers leaves the range
pub refusal_exactly : (list : List Constraint) (v : List ℤ) (r : Result Bool PairOver) → Answers list v r → (over : PairOver) → (r ≡ Err over) ↔ LeavesRange list v over
refusal_exactly list v r a over = (λ e. subst (Answers list v) e a, λ l. Answers-once list v r (Err over) a l)

-- where all are passed, each constraint holds
pub all_from_reaches : (list : List Constraint) (v : List ℤ) (n : ℕ) → length list ≤ n → Reaches list v n → All (Satisfies v) list
all_from_reaches list v n h reached = All-from_get_or (Satisfies v) list ([], Eq) (λ i less. (reached i (omega arith)).holds)

-- where the answer is no refusal, it is true exactly where each constraint holds
pub holds_exactly : (cs : Constraints) (v : List ℤ) (r : Result Bool PairOver) → Answers cs.list v r → IfOk r (λ b. IsTrue b ↔ In cs v)
holds_exactly cs v (Ok true) a = (λ t. all_from_reaches cs.list v (length cs.list) (omega arith) a, λ all. refl)
holds_exactly cs v (Ok false) a = (λ t. absurd (false≢true t), λ all. absurd (a.1.fails (all a.0 ([], Eq) a.1.index)))
holds_exactly cs v (Err over) a = tt
