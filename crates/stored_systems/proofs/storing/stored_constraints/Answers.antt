use Rattle.std.proofs.Common.{◌≡◌, ◌∙◌, ◌++◌, List, map, sym, ap, subst, All}
use Rattle.std.proofs.lemmas.Result.{IfOk-weaker}
use Rattle.row_core.specs.Content.{IsPrimitive}
use Rattle.row_core.specs.Lists.{Row, vectors}
use Rattle.cons_sys.specs.Constraints.{Constraints, constraint_of}
use Rattle.stored_systems.specs.StoredForms.{stored_constraints}
use Rattle.stored_systems.proofs.TakenRows.{taken_constraints, kept_primitive}
use Rattle.stored_systems.proofs.storing.stored_constraints.Goals as goal

pub of_rows-requires-clause-primitive : goal.of_rows-requires-clause-primitive
of_rows-requires-clause-primitive c =
    subst (λ (rows : List Row). All IsPrimitive (vectors rows)) (sym (c.in_ok-append.ensures.rows ∙ ap (λ (rows : List Row). c.args.lines.rows ++ rows) c.without_divisor.ensures.rows))
    (kept_primitive c.args.dim c.args.lines.rows c.args.rays.rows c.requires.primitive_lines c.requires.primitive_rays)

pub returns-clause-list : goal.returns-clause-list
returns-clause-list c =
    IfOk-weaker c.of_rows.result (λ (cons : Constraints). cons.list ≡ map constraint_of c.append.new.self.rows)
    (λ (cons : Constraints). cons.list ≡ stored_constraints c.args.dim (vectors c.args.lines.rows) (vectors c.args.rays.rows))
    (λ cons e. e ∙ ap (λ (rows : List Row). map constraint_of rows) (c.in_ok-append.ensures.rows ∙ ap (λ (rows : List Row). c.args.lines.rows ++ rows) c.without_divisor.ensures.rows) ∙ taken_constraints c.args.dim c.args.lines.rows c.args.rays.rows c.requires.lists.lines_marked c.requires.lists.rays_marked)
    c.of_rows.ensures.list
