use Rattle.std.proofs.Common.{ℕ, ◌≤◌, false, List, [], map, not, ap, ◌∙◌, subst, arith}
use Rattle.std.proofs.lemmas.List.{take_all}
use Rattle.gens_sys.specs.Kinds.{is_line}
use Rattle.gens_sys.specs.declared.kind.GenKind.TheVariants.{Line}
use Rattle.gens_sys.specs.Generators.{Generator}
use Rattle.stored_systems.specs.WorkLists.{generator_row}
use Rattle.stored_systems.specs.Marks.{has_mark}
use Rattle.stored_systems.proofs.ListSteps.{twice_more}
use Rattle.stored_systems.proofs.parts.ray_marks.Goals as goal

pub loop-index-preserved : goal.loop-index-preserved
loop-index-preserved c = twice_more (has_mark false) generator_row c.args.gens.now.list c.loop-index.index ([], Line) [] c.loop-index.marks.items c.push.new.self.items (not c.is_line_kind.result) (omega arith) c.loop-index.invariant c.in_ok-push.ensures.items (ap not (c.is_line_kind.ensures ∙ ap is_line c.kind.ensures))

pub returns : goal.returns
returns c =
    c.loop-index.invariant ∙ ap (λ (gs : List Generator). map (has_mark false) (map generator_row gs)) (take_all c.loop-index.index c.args.gens.now.list (subst (λ (n : ℕ). n ≤ c.loop-index.index) c.len-index-end.ensures c.loop-index-test.false))
