use Rattle.std.proofs.Common.{ℕ, ◌≤◌, Bool, List, ℤ, [], ◌++◌, length, map, sym, ap, ◌∙◌, subst, arith}
use Rattle.std.proofs.lemmas.List.{take_all}
use Rattle.row_core.specs.Range.{AllInRange}
use Rattle.cons_sys.specs.Kinds.{is_equality}
use Rattle.cons_sys.specs.declared.kind.ConKind.TheVariants.{Eq}
use Rattle.cons_sys.specs.Constraints.{Constraint, row_at}
use Rattle.stored_systems.specs.WorkLists.{constraint_row}
use Rattle.stored_systems.proofs.ListSteps.{joined_more}
use Rattle.stored_systems.proofs.lists.push_constraints.Goals as goal

pub push-requires : goal.push-requires
push-requires c = record {
  wide = ap (λ (v : List ℤ). length v) c.row.ensures.value ∙ c.row.ensures.wide ∙ sym c.requires ∙ sym c.loop-index.invariant.width;
  in_range = subst AllInRange (sym c.row.ensures.value) c.row.ensures.in_range;
}

pub loop-index-preserved : goal.loop-index-preserved
loop-index-preserved c =
    let list = c.args.cons.now.list in
    let place = c.loop-index.index in
    record {
      width = c.in_ok-push.ensures.width ∙ c.loop-index.invariant.width;
      rows = joined_more constraint_row list place ([], Eq) c.args.list.now.rows c.loop-index.list.rows c.push.new.self.rows (c.row.result.now, c.is_equality_kind.result) (omega arith) c.loop-index.invariant.rows c.in_ok-push.ensures.rows
          (ap (λ (row : List ℤ). (row, c.is_equality_kind.result)) c.row.ensures.value ∙ ap (λ (eq : Bool). (row_at list place, eq)) (c.is_equality_kind.ensures ∙ ap is_equality c.kind.ensures));
    }

pub returns-clause-rows : goal.returns-clause-rows
returns-clause-rows c =
    c.loop-index.invariant.rows ∙ ap (λ (cs : List Constraint). c.args.list.now.rows ++ map constraint_row cs) (take_all c.loop-index.index c.args.cons.now.list (subst (λ (n : ℕ). n ≤ c.loop-index.index) c.len-index-end.ensures c.loop-index-test.false))
