use Rattle.std.proofs.Common.{rules, ◌≡◌, List, [], ℤ, length, sym, ◌∙◌, subst}
use Rattle.std.proofs.lemmas.Result.{err_from_is_err_and}
use Rattle.std.proofs.lemmas.List.{nil_from_length}
use Rattle.row_core.specs.Lists.{vectors}
use Rattle.row_core.proofs.RowListLemmas.{length-vectors}
use Rattle.minimise.specs.Bases.{AreReduced}
use Rattle.minimise.specs.Rays.{placed_rows}
use Rattle.minimise.proofs.PlacedRows.{placed_reduced}
use Rattle.minimise.proofs.parts.reduced_rows.Goals as goal

pub returns-then-are_primitive-clause-reduced : goal.returns-then-are_primitive-clause-reduced
returns-then-are_primitive-clause-reduced g c =
    let count : length c.args.lines.now.rows ≡ 0 = search rules in
    let none : vectors c.args.lines.now.rows ≡ [] = nil_from_length (vectors c.args.lines.now.rows) (length-vectors c.args.lines.now.rows ∙ count) in
    subst (λ (lines : List (List ℤ)). AreReduced lines c.args.rows.now.rows c.args.kept.now (vectors (placed_rows c.args.rows.now c.args.kept.now).rows)) (sym none) (placed_reduced c.args.rows.now c.args.kept.now (c.are_primitive.ensures c.if-are_primitive.true))

pub returns-in_err-reduced_list-clause-reduced : goal.returns-in_err-reduced_list-clause-reduced
returns-in_err-reduced_list-clause-reduced g c =
    let p = err_from_is_err_and c.from_residual.result c.from_residual.ensures.1 in
    rw (p.1, p.2) c.in_err-reduced_list.ensures.reduced
