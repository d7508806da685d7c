use Rattle.std.proofs.Common.{List, ◌∷◌, [], ◌++◌, ap, ◌∙◌}
use Rattle.std.specs.Prelude.{ℤ}
use Rattle.gens_sys.specs.Generators.{Generator}
use Rattle.gens_sys.specs.declared.kind.GenKind.TheVariants.{Point}
use Rattle.row_core.proofs.OnePrimitive.{stored_as_is}
use Rattle.line_values.proofs.answers.only_point.Goals as goal

pub returns-in-Ok-clause-list : goal.returns-in-Ok-clause-list
returns-in-Ok-clause-list c =
    let g = c.in-Ok.ensures.list in
    g.list ∙ (ap (λ (l : List Generator). l ++ (g.stored, Point) ∷ []) c.new-gens.ensures.empty ∙ ap (λ (r : List ℤ). (r, Point) ∷ []) (stored_as_is c.args.point g.stored c.requires.primitive g.primitive))
