use Rattle.std.proofs.Common.{◌≡◌, subst}
use Rattle.std.specs.Prelude.{IfErr, IfOk}
use Rattle.row_core.specs.Refusals.{IsOverflowIn}
use Rattle.cons_sys.specs.Constraints.{Constraint}
use Rattle.cover_search.specs.Regions.{LeavesOnList, with_one}
use Rattle.cover_search.proofs.InequalityLemmas.{at_complements}
use Rattle.cover_search.specs.Conversions.{ConvertsNext}
use Rattle.cover_search.proofs.region.Region.outside.Goals as goal

pub returns-clause-region : goal.returns-clause-region
returns-clause-region g c = subst (λ (one : Constraint). IfOk c.narrowed.result (λ r. r ≡ with_one c.args.self one)) (at_complements c.args.walls.now.list c.outer.result.now.list c.args.index c.outer.ensures.list) c.narrowed.ensures.region

pub returns-clause-overflow : goal.returns-clause-overflow
returns-clause-overflow g c = subst (λ (one : Constraint). IfErr c.narrowed.result (IsOverflowIn (LeavesOnList (with_one c.args.self one)))) (at_complements c.args.walls.now.list c.outer.result.now.list c.args.index c.outer.ensures.list) c.narrowed.ensures.overflow

pub returns-clause-conversion : goal.returns-clause-conversion
returns-clause-conversion g c = subst (λ (one : Constraint). ConvertsNext c.args.self one c.args.steps.now c.narrowed.new.steps c.narrowed.result) (at_complements c.args.walls.now.list c.outer.result.now.list c.args.index c.outer.ensures.list) c.narrowed.ensures.conversion
