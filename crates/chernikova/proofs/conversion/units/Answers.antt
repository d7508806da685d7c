use Rattle.std.specs.Prelude.{◌≡◌, ◌+◌, ◌++◌, ◌∷◌, [], ℕ, List, pos, true}
use Rattle.std.proofs.Common.{sym, ap, subst, ◌∙◌, arith, set}
use Rattle.std.proofs.lemmas.List.Elements.{All-same}
use Rattle.std.proofs.lemmas.Grind.{common_steps}
use Rattle.row_core.specs.Lists.{Row}
use Rattle.row_core.proofs.RowListLemmas.{marked_push}
use Rattle.chernikova.proofs.NextStates.{AreUnitsUpto, units_more, units_all, unit, zeros_back}
use Rattle.chernikova.proofs.conversion.units.Goals as goal

pub loop-column-preserved : goal.loop-column-preserved
loop-column-preserved c =
    let inv = c.loop-column.invariant in
    let width = c.args.width in
    let column = c.loop-column.column in
    let rows : c.push.new.self.rows ≡ c.loop-column.units.rows ++ (c.deref.result.now, true) ∷ [] = c.in_ok-push.ensures.rows in
    let P : List Row → Type 0 = λ rs. AreUnitsUpto c.args.width (c.loop-column.column + 1) rs in
    let is : c.deref.result.now ≡ unit c.args.width c.loop-column.column = c.deref.ensures.value ∙ ap (λ xs. set xs c.loop-column.column (pos 1)) inv.zeros in
    record {
      width = c.in_ok-push.ensures.width ∙ inv.width;
      zeros = zeros_back width column c.loop-column.unit.items inv.zeros;
      units = subst P (sym rows) (units_more width column c.loop-column.units.rows c.deref.result.now true inv.units is);
      marked = All-same (λ (row : Row). row.1 ≡ true) c.push.new.self.rows (c.loop-column.units.rows ++ (c.deref.result.now, true) ∷ []) rows (marked_push true c.loop-column.units.rows c.deref.result.now inv.marked);
    }

pub returns-clause-units : goal.returns-clause-units
returns-clause-units c =
    let P : ℕ → Type 0 = λ n. AreUnitsUpto c.args.width n c.loop-column.units.rows in
    units_all c.args.width c.loop-column.units.rows (subst P (let e : c.loop-column.column ≡ c.args.width = omega arith in e) c.loop-column.invariant.units)

pub push-requires-clause-wide : goal.push-requires-clause-wide
push-requires-clause-wide c = grind (arith, common_steps)

pub push-requires-clause-in_range : goal.push-requires-clause-in_range
push-requires-clause-in_range c = grind (arith, common_steps)

pub push-requires-clause-alike : goal.push-requires-clause-alike
push-requires-clause-alike c = grind (arith, common_steps)

pub loop-column-init : goal.loop-column-init
loop-column-init c = grind (arith, common_steps)

pub returns-clause-list : goal.returns-clause-list
returns-clause-list c = grind (arith, common_steps)
