use Rattle.std.proofs.Common.{ℕ, ◌+◌, List, ℤ, false, ◌∷◌, [], ◌++◌, length, map, sym, ap, ◌∙◌, subst}
use Rattle.row_core.specs.Range.{AllInRange}
use Rattle.row_core.specs.Lists.{Row}
use Rattle.stored_systems.specs.WorkLists.{divisor_row, constraint_row}
use Rattle.stored_systems.proofs.lists.constraint_list.Goals as goal

pub push-requires : goal.push-requires
push-requires c = record {
  wide = ap (λ (v : List ℤ). length v) c.deref.ensures.value ∙ c.in_ok-divisor_row.ensures.wide ∙ ap (λ (n : ℕ). n + 1) (c.dim-2.ensures.value ∙ sym c.dim.ensures.value) ∙ sym c.in_ok-list.ensures.width;
  in_range = subst AllInRange (sym c.deref.ensures.value) c.in_ok-divisor_row.ensures.in_range;
}

pub push_constraints-requires : goal.push_constraints-requires
push_constraints-requires c = c.in_ok-push.ensures.width ∙ c.in_ok-list.ensures.width ∙ ap (λ (n : ℕ). n + 1) c.dim.ensures.value

pub returns : goal.returns
returns c =
    let own = map constraint_row c.args.cons.now.list in
    record {
      width = c.in_ok-push_constraints.ensures.width ∙ c.in_ok-push.ensures.width ∙ c.in_ok-list.ensures.width ∙ ap (λ (n : ℕ). n + 1) c.dim.ensures.value;
      rows =
          c.in_ok-push_constraints.ensures.rows
          ∙ ap (λ (rs : List Row). rs ++ own) (c.in_ok-push.ensures.rows ∙ ap (λ (rs : List Row). rs ++ (c.deref.result.now, false) ∷ []) c.in_ok-list.ensures.empty)
          ∙ ap (λ (v : List ℤ). (v, false) ∷ own) (c.deref.ensures.value ∙ c.in_ok-divisor_row.ensures.row ∙ ap divisor_row c.dim-2.ensures.value);
      fit = c.dim.ensures.rows;
    }
