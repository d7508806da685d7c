use Rattle.std.proofs.Common.{◌∙◌, ap, List, ◌++◌}
use Rattle.row_core.specs.Lists.{Row}
use Rattle.stored_systems.proofs.RowLemmas.{joined_marks}
use Rattle.stored_systems.proofs.lists.second_list.Goals as goal

pub returns-clause-rows : goal.returns-clause-rows
returns-clause-rows c =
    let lines = c.args.lines.now.rows in
    let rays = c.args.rays.now.rows in
    c.in_ok-push_all-2.ensures.rows
    ∙ ap (λ (xs : List Row). xs ++ rays) (c.in_ok-push_all.ensures.rows ∙ ap (λ (xs : List Row). xs ++ lines) c.in_ok-list.ensures.empty)
    ∙ joined_marks lines rays c.requires.lists.lines_marked c.requires.lists.rays_marked
