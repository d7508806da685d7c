use Rattle.std.proofs.Common.{ℕ, ◌≤◌, Bool, true, false, List, [], ◌∷◌, ◌++◌, map, not, ap, ◌∙◌, subst, arith}
use Rattle.std.proofs.lemmas.List.{take_all}
use Rattle.cons_sys.specs.Kinds.{is_equality}
use Rattle.cons_sys.specs.declared.kind.ConKind.TheVariants.{Eq}
use Rattle.cons_sys.specs.Constraints.{Constraint}
use Rattle.stored_systems.specs.WorkLists.{constraint_row}
use Rattle.stored_systems.specs.Marks.{has_mark}
use Rattle.stored_systems.proofs.ListSteps.{twice_more}
use Rattle.stored_systems.proofs.parts.inequality_marks.Goals as goal

pub loop-index-init : goal.loop-index-init
loop-index-init c = c.in_ok-push.ensures.items ∙ ap (λ (bs : List Bool). bs ++ true ∷ []) c.in_ok-marks.ensures.items

pub loop-index-preserved : goal.loop-index-preserved
loop-index-preserved c = twice_more (has_mark false) constraint_row c.args.cons.now.list c.loop-index.index ([], Eq) (true ∷ []) c.loop-index.marks.items c.push-in-loop-index.new.self.items (not c.is_equality_kind.result) (omega arith) c.loop-index.invariant c.in_ok-push-2.ensures.items (ap not (c.is_equality_kind.ensures ∙ ap is_equality c.kind.ensures))

pub returns : goal.returns
returns c =
    c.loop-index.invariant ∙ ap (λ (cs : List Constraint). true ∷ map (has_mark false) (map constraint_row cs)) (take_all c.loop-index.index c.args.cons.now.list (subst (λ (n : ℕ). n ≤ c.loop-index.index) c.len-index-end.ensures c.loop-index-test.false))
