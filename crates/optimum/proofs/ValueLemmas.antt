-- Refusals at the dot of a row and a generator.
use Rattle.std.specs.Prelude.{◌≡◌, ℕ, ◌<◌, ◌+◌, List, length, ℤ, Bool, Err}
use Rattle.std.proofs.Common.{sym, ◌∙◌, ap, subst, inl, inr, below_more}
use Rattle.std.proofs.lemmas.Bool.{cases_order}
use Rattle.row_core.specs.Range.{DotStays, IsFirstToLeave}
use Rattle.row_core.specs.declared.PairOver.{PairOver}
use Rattle.row_core.specs.declared.OverKind.{OverKind}
use Rattle.cons_sys.proofs.AnswerLemmas.{stays_or_leaves, same_first}
use Rattle.gens_sys.specs.Generators.{Generator, row_at}
use Rattle.optimum.specs.Values.{RowStays, RowReaches, DotLeaves, RowLeaves, ValueAnswer}

abbrev made : OverKind → ℕ → ℕ → ℕ → Bool → PairOver
made kind left right column turned = record { kind = kind; left = left; right = right; column = column; turned = turned }

pub same_over : (a b : PairOver) → a.kind ≡ b.kind → a.left ≡ b.left → a.right ≡ b.right → a.column ≡ b.column → a.turned ≡ b.turned → a ≡ b
same_over a b e f g h k =
    let p : made a.kind a.left a.right a.column a.turned ≡ made b.kind b.left b.right b.column b.turned = cc in p

pub reaches_more : (row : List ℤ) (list : List Generator) (n : ℕ) → RowReaches row list n → RowStays row list n → RowReaches row list (n + 1)
reaches_more row list n h k = below_more (RowStays row list) n h k

-- a dot that stays in the range isn't shown
pub dot_ends : (row : List ℤ) (list : List Generator) (over : PairOver) → DotLeaves row list over → ¬ (RowStays row list over.right)
dot_ends row list over d s = stays_or_leaves (DotStays row (row_at list over.right)) (length row) over.column s d.column

-- two refusals that show the dot of one generator are the same
pub same_dot : (row : List ℤ) (list : List Generator) (a b : PairOver) → a.right ≡ b.right → a.turned ≡ b.turned → DotLeaves row list a → DotLeaves row list b → a ≡ b
same_dot row list a b right turned p q =
    same_over a b (p.kind ∙ sym q.kind) (p.left ∙ sym q.left) right
    (same_first (DotStays row (row_at list b.right)) (length row) a.column b.column (subst (λ (k : ℕ). IsFirstToLeave (DotStays row (row_at list k)) (length row) a.column) right p.column) q.column)
    turned

-- the refusal of one value
pub dot_leaves : (row : List ℤ) (list : List Generator) (i : ℕ) (over : PairOver) → ValueAnswer row list i (Err over) → DotLeaves row list over
dot_leaves row list i over (is, column) = record {
  kind = ap (λ (o : PairOver). o.kind) is;
  left = ap (λ (o : PairOver). o.left) is;
  column = subst (λ (k : ℕ). IsFirstToLeave (DotStays row (row_at list k)) (length row) over.column) (sym (ap (λ (o : PairOver). o.right) is)) column;
}

pub row_leaves_by : (row : List ℤ) (list : List Generator) (i : ℕ) (over : PairOver) → i < length list → RowReaches row list i → ValueAnswer row list i (Err over) → RowLeaves row list over
row_leaves_by row list i over h before answer =
    let right : over.right ≡ i = ap (λ (o : PairOver). o.right) answer.0 in
    record {
      generator = subst (λ (k : ℕ). k < length list) (sym right) h;
      turned = ap (λ (o : PairOver). o.turned) answer.0;
      reached = subst (λ (k : ℕ). RowReaches row list k) (sym right) before;
      leaves = dot_leaves row list i over answer;
    }

pub all_or_row_leaves : (row : List ℤ) (list : List Generator) (over : PairOver) → RowReaches row list (length list) → RowLeaves row list over → ⊥
all_or_row_leaves row list over r l = dot_ends row list over l.leaves (r over.right l.generator)

pub row_leaves_once : (row : List ℤ) (list : List Generator) (a b : PairOver) → RowLeaves row list a → RowLeaves row list b → a ≡ b
row_leaves_once row list a b p q = same_dot row list a b right (p.turned ∙ sym q.turned) p.leaves q.leaves
  where
    right : a.right ≡ b.right
    right =
        elim (cases_order a.right b.right) [
          | inl same ↦ same
          | inr (inl less) ↦ absurd (dot_ends row list a p.leaves (q.reached a.right less))
          | inr (inr more) ↦ absurd (dot_ends row list b q.leaves (p.reached b.right more))
        ]
