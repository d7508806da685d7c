-- A text says one thing.
use Rattle.std.proofs.Common.{◌≡◌, ℕ, ◌+◌, ◌<◌, ◌≤◌, List, length, sym, ◌∙◌, ap, subst, arith, inl, inr, ◌⊎◌}
use Rattle.std.specs.Prelude.{ℤ, pos}
use Rattle.std.proofs.lemmas.List.{ext_get_or}
use Rattle.std.proofs.lemmas.Bool.{cases_lt}
use Rattle.grammar.specs.Cases.{expr_cases, frac_cases, con_cases, cons_cases, point_cases}
use Rattle.row_core.specs.Vectors.{cell}
use Rattle.term_text.specs.Values.{Ratio, expr_by, frac_by, con_by, cons_by, point_by, alone_by}
use Rattle.term_text.specs.Texts.{IsRowOf, IsFracOf, IsPointOf}
use Rattle.term_text.specs.Systems.{IsConOf}
use Rattle.term_text.specs.OneReading.{HasOneReading, ExprHasOneRow, FracHasOneRow, ConHasOneRow, PointHasOneRow}
use Rattle.term_text.proofs.TextLaws.{alone_expr_law, alone_frac_law, alone_con_law, alone_point_law}
use Rattle.term_text.proofs.ListLaws.{alone_cons_law}

pub one_expr : HasOneReading expr_cases expr_by
one_expr = record { one = λ text m n. sym (alone_expr_law text m) ∙ alone_expr_law text n }

pub one_frac : HasOneReading frac_cases frac_by
one_frac = record { one = λ text m n. sym (alone_frac_law text m) ∙ alone_frac_law text n }

pub one_con : HasOneReading con_cases con_by
one_con = record { one = λ text m n. sym (alone_con_law text m) ∙ alone_con_law text n }

pub one_cons : HasOneReading cons_cases cons_by
one_cons = record { one = λ text m n. sym (alone_cons_law text m) ∙ alone_cons_law text n }

pub one_point : HasOneReading point_cases point_by
one_point = record { one = λ text m n. sym (alone_point_law text m) ∙ alone_point_law text n }

-- rows of one width with equal cells
pub same_row : (dim : ℕ) (u v : List ℤ) → length u ≡ dim + 1 → length v ≡ dim + 1 → ((j : ℕ) → j ≤ dim → cell u j ≡ cell v j) → u ≡ v
same_row dim u v wide same each = ext_get_or (pos 0) u v (wide ∙ sym same) (λ j h. each j (omega arith))

pub one_expr_row : ExprHasOneRow
one_expr_row dim text u v a b =
    let e : alone_by expr_cases expr_by text a.form ≡ alone_by expr_cases expr_by text b.form = one_expr.one text a.form b.form in
    let first : IsRowOf dim (alone_by expr_cases expr_by text b.form) u = subst (λ ts. IsRowOf dim ts u) e a.holds in
    same_row dim u v first.sums.wide b.holds.sums.wide (λ j le. first.sums.cells j le ∙ sym (b.holds.sums.cells j le))

pub one_frac_row : FracHasOneRow
one_frac_row dim text u v c d a b =
    let e : alone_by frac_cases frac_by text a.form ≡ alone_by frac_cases frac_by text b.form = one_frac.one text a.form b.form in
    let first : IsFracOf dim (alone_by frac_cases frac_by text b.form) u c = subst (λ r. IsFracOf dim r u c) e a.holds in
    (same_row dim u v first.sums.wide b.holds.sums.wide (λ j le. first.sums.cells j le ∙ sym (b.holds.sums.cells j le)), first.same ∙ sym b.holds.same)

pub one_con_row : ConHasOneRow
one_con_row dim text u v k l a b =
    let e : alone_by con_cases con_by text a.form ≡ alone_by con_cases con_by text b.form = one_con.one text a.form b.form in
    let first : IsConOf dim (alone_by con_cases con_by text b.form) u k = subst (λ c. IsConOf dim c u k) e a.holds in
    (same_row dim u v first.sums.wide b.holds.sums.wide (λ j le. first.sums.cells j le ∙ sym (b.holds.sums.cells j le)), first.same ∙ sym b.holds.same)

point_cell : (dim : ℕ) (r : Ratio) (u v : List ℤ) → IsPointOf dim r u → IsPointOf dim r v → (j : ℕ) → (j < dim) ⊎ (dim ≤ j) → j ≤ dim → cell u j ≡ cell v j
point_cell dim r u v a b j (inl below) le = a.coordinates j below ∙ sym (b.coordinates j below)
point_cell dim r u v a b j (inr above) le =
    let last : j ≡ dim = omega arith in
    ap (cell u) last ∙ a.last ∙ sym b.last ∙ ap (cell v) (sym last)

pub one_point_row : PointHasOneRow
one_point_row dim text u v a b =
    let e : alone_by point_cases point_by text a.form ≡ alone_by point_cases point_by text b.form = one_point.one text a.form b.form in
    let first : IsPointOf dim (alone_by point_cases point_by text b.form) u = subst (λ r. IsPointOf dim r u) e a.holds in
    same_row dim u v first.wide b.holds.wide (λ j le. point_cell dim (alone_by point_cases point_by text b.form) u v first b.holds j (cases_lt j dim) le)
