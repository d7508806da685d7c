use Rattle.std.proofs.Common.{◌∙◌, map, sym, subst, ap}
use Rattle.std.specs.Prelude.{All}
use Rattle.cons_sys.specs.Constraints.{Constraints}
use Rattle.cover_search.specs.Inequalities.{IsInequality, complement}
use Rattle.cover_search.proofs.PartLemmas.{complements_proper}
use Rattle.cover_search.proofs.walls.Walls.outer.Goals as goal

pub returns-clause-inequalities : goal.returns-clause-inequalities
returns-clause-inequalities c h = subst (All IsInequality) (sym (c.self.invariant.list ∙ ap (λ (cs : Constraints). map complement cs.list) c.self.view_is)) (complements_proper c.args.self.now.list h)
