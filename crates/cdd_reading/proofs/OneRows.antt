-- Numbers are cut into rows in one way.
use Rattle.std.proofs.Common.{◌≡◌, ℕ, List, [], ◌∷◌, ◌++◌, length, map, take, drop, refl, sym, ◌∙◌, ap, subst}
use Rattle.std.specs.Prelude.{All, ℤ, Bool}
use Rattle.std.specs.List.{flat_map}
use Rattle.std.proofs.Math.Seq.{take-append_seam, drop-append_seam}
use Rattle.std.proofs.lemmas.List.Elements.{All-head, All-tail}
use Rattle.row_core.specs.Lists.{Row}
use Rattle.reply_text.specs.declared.faults.Fault.{Fault}
use Rattle.cdd_reading.specs.Files.{Contents, AreRows}
use Rattle.cdd_reading.specs.Refusals.{IsVectorFault, HaveNoFault, IsRowsFault}
use Rattle.cdd_reading.proofs.ListLaws.{All-inside}

abbrev Wide : ℕ → Row → Type 0
Wide d row = length row.0 ≡ d

-- fronts of one length, and what stands behind them
fronts : (x y xs ys : List ℤ) → length x ≡ length y → x ++ xs ≡ y ++ ys → (x ≡ y) × (xs ≡ ys)
fronts x y xs ys n e = (
  sym (take-append_seam x xs) ∙ ap (λ (l : List ℤ). take (length x) l) e ∙ ap (λ k. take k (y ++ ys)) n ∙ take-append_seam y ys,
  sym (drop-append_seam x xs) ∙ ap (λ (l : List ℤ). drop (length x) l) e ∙ ap (λ k. drop k (y ++ ys)) n ∙ drop-append_seam y ys,
)

same_row : (x y : Row) → x.0 ≡ y.0 → x.1 ≡ y.1 → x ≡ y
same_row (a, m) (b, n) e f = ap (λ (v : List ℤ). (v, m)) e ∙ ap (λ (k : Bool). (b, k)) f

same_rows : (d : ℕ) (a b : List Row) → map (λ (row : Row). row.1) a ≡ map (λ (row : Row). row.1) b → All (Wide d) a → All (Wide d) b → flat_map (λ (row : Row). row.0) a ≡ flat_map (λ (row : Row). row.0) b → a ≡ b
same_rows d [] [] m v w e = refl
same_rows d [] (y ∷ b) m v w e = cc
same_rows d (x ∷ a) [] m v w e = cc
same_rows d (x ∷ a) (y ∷ b) m v w e =
    let first : x.1 ≡ y.1 = cc in
    let others : map (λ (row : Row). row.1) a ≡ map (λ (row : Row). row.1) b = ap (λ (l : List Bool). drop 1 l) m in
    let cut = fronts x.0 y.0 (flat_map (λ (row : Row). row.0) a) (flat_map (λ (row : Row). row.0) b) (All-head (Wide d) x a v ∙ sym (All-head (Wide d) y b w)) e in
    ap (λ (r : Row). r ∷ a) (same_row x y cut.0 first) ∙ ap (λ (l : List Row). y ∷ l) (same_rows d a b others (All-tail (Wide d) x a v) (All-tail (Wide d) y b w) cut.1)

pub rows_once : (c : Contents) (a b : List Row) → AreRows c a → AreRows c b → a ≡ b
rows_once c a b p q = same_rows c.sizes.columns a b (p.marked ∙ sym q.marked) p.wide q.wide (p.numbers ∙ sym q.numbers)

pub faultless_rows : (rows : List Row) (f : Fault) → HaveNoFault rows → IsRowsFault rows f → ⊥
faultless_rows rows f none w = All-inside (λ (r : Row). (g : Fault) → ¬ (IsVectorFault r.1 r.0 g)) w.before w.row w.first.behind (subst (λ (l : List Row). HaveNoFault l) w.first.cut none) f w.is
