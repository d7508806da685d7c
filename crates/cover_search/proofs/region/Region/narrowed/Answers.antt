use Rattle.std.proofs.Common.{◌≡◌, ◌+◌, Ok, List, ◌++◌, ◌∷◌, [], sym, ◌∙◌, ap, rules, arith, length}
use Rattle.row_core.specs.Lists.{Row}
use Rattle.row_core.specs.Refusals.{IsOverflowIn}
use Rattle.cons_sys.specs.Constraints.{Constraints, constraint_at}
use Rattle.nnc_enc.specs.Encoding.{encoded_constraint, encoded_constraints}
use Rattle.cover_search.specs.Regions.{LeavesOnList, with_one}
use Rattle.cover_search.proofs.RegionLemmas.{has_cone, front_cone, list_with_one, list_overflow}
use Rattle.std.proofs.lemmas.Result.{err_from_is_err_and}
use Rattle.std.proofs.lemmas.List.{length_push}
use Rattle.cover_search.proofs.ConversionLemmas.{next_converts, next_unconverted}
use Rattle.cover_search.proofs.region.Region.narrowed.Goals as goal

pub add_rows_from-requires-clause-system : goal.add_rows_from-requires-clause-system
add_rows_from-requires-clause-system g c =
    let more = encoded_constraint c.self.inside.cons.dim (constraint_at c.args.halfspaces.now.list c.args.index) ∷ [] in
    (front_cone c.self.inside.cons c.self.inside.list more c.push_one.new.list c.len-from.result c.self.inside.cone c.self.invariant c.in_ok-push_one.ensures.width c.in_ok-push_one.ensures.rows c.len-from.ensures).system

pub add_rows_from-requires-clause-sat : goal.add_rows_from-requires-clause-sat
add_rows_from-requires-clause-sat g c =
    let more = encoded_constraint c.self.inside.cons.dim (constraint_at c.args.halfspaces.now.list c.args.index) ∷ [] in
    (front_cone c.self.inside.cons c.self.inside.list more c.push_one.new.list c.len-from.result c.self.inside.cone c.self.invariant c.in_ok-push_one.ensures.width c.in_ok-push_one.ensures.rows c.len-from.ensures).zeros

pub returns-in_err-added-clause-overflow : goal.returns-in_err-added-clause-overflow
returns-in_err-added-clause-overflow g c =
    let one = constraint_at c.args.halfspaces.now.list c.args.index in
    let width : c.push_one.new.list.width ≡ c.args.self.dim + 2 = c.in_ok-push_one.ensures.width ∙ c.self.invariant.width ∙ ap (λ (cs : Constraints). cs.dim + 2) c.self.view_is in
    let all : c.push_one.new.list.rows ≡ encoded_constraints (with_one c.args.self one) = c.in_ok-push_one.ensures.rows ∙ ap (λ (rs : List Row). rs ++ encoded_constraint c.self.inside.cons.dim one ∷ []) c.self.invariant.rows ∙ sym (list_with_one c.self.inside.cons one) ∙ ap (λ (cs : Constraints). encoded_constraints (with_one cs one)) c.self.view_is in
    let known : IsOverflowIn (LeavesOnList (with_one c.args.self one)) c.in_err-added.field-0.0 = list_overflow (with_one c.args.self one) c.push_one.new.list.width c.len-from.result c.push_one.new.list.rows c.in_err-added.field-0.0 width all c.in_err-added.ensures.conversion.overflow in
    search (rules, known, c.from_residual-in_err-added.ensures)

pub invariant_of-result : goal.invariant_of-result
invariant_of-result g c =
    let cons = c.push_one.new.cons in
    let list = c.push_one.new.list in
    let one = constraint_at c.args.halfspaces.now.list c.args.index in
    let pushed : with_one c.self.inside.cons one ≡ c.push_one.new.cons = sym c.in_ok-push_one.ensures.cons in
    let width : c.push_one.new.list.width ≡ c.push_one.new.cons.dim + 2 = c.in_ok-push_one.ensures.width ∙ c.self.invariant.width ∙ ap (λ (cs : Constraints). cs.dim + 2) pushed in
    let rows : c.push_one.new.list.rows ≡ encoded_constraints c.push_one.new.cons = c.in_ok-push_one.ensures.rows ∙ ap (λ (rs : List Row). rs ++ encoded_constraint c.self.inside.cons.dim one ∷ []) c.self.invariant.rows ∙ sym (list_with_one c.self.inside.cons one) ∙ ap (λ (cs : Constraints). encoded_constraints cs) pushed in
    record {
      width = width;
      rows = rows;
      canonical = has_cone cons list.width list.rows c.in_ok-added.added.cone width rows c.in_ok-added.ensures.cone.canon c.in_ok-added.ensures.cone.lists c.in_ok-added.ensures.cone.sat;
    }

pub returns-in_err-added-clause-region : goal.returns-in_err-added-clause-region
returns-in_err-added-clause-region g c = let p = err_from_is_err_and c.from_residual-in_err-added.result c.from_residual-in_err-added.ensures.1 in rw p.1 tt

pub returns-in_err-push_one-clause-region : goal.returns-in_err-push_one-clause-region
returns-in_err-push_one-clause-region g c = let p = err_from_is_err_and c.from_residual.result c.from_residual.ensures.1 in rw p.1 tt

pub add_rows_from-requires-clause-from : goal.add_rows_from-requires-clause-from
add_rows_from-requires-clause-from g c = omega (arith, c.len-from.ensures, ap (λ (rows : List Row). length rows) c.in_ok-push_one.ensures.rows ∙ length_push c.self.inside.list.rows _)

pub returns-in_err-push_one-clause-conversion : goal.returns-in_err-push_one-clause-conversion
returns-in_err-push_one-clause-conversion g c = let p = err_from_is_err_and c.from_residual.result c.from_residual.ensures.1 in rw (p.1, p.2) (next_unconverted c.args.self (constraint_at c.args.halfspaces.now.list c.args.index) c.args.steps.now)

pub returns-in_err-added-clause-conversion : goal.returns-in_err-added-clause-conversion
returns-in_err-added-clause-conversion g c =
    let one = constraint_at c.args.halfspaces.now.list c.args.index in
    let width : c.push_one.new.list.width ≡ c.args.self.dim + 2 = c.in_ok-push_one.ensures.width ∙ c.self.invariant.width ∙ ap (λ (cs : Constraints). cs.dim + 2) c.self.view_is in
    let all : c.push_one.new.list.rows ≡ encoded_constraints (with_one c.args.self one) = c.in_ok-push_one.ensures.rows ∙ ap (λ (rs : List Row). rs ++ encoded_constraint c.self.inside.cons.dim one ∷ []) c.self.invariant.rows ∙ sym (list_with_one c.self.inside.cons one) ∙ ap (λ (cs : Constraints). encoded_constraints (with_one cs one)) c.self.view_is in
    let from : c.len-from.result ≡ length (encoded_constraints c.args.self) = c.len-from.ensures ∙ ap (λ (rs : List Row). length rs) c.self.invariant.rows ∙ ap (λ (cs : Constraints). length (encoded_constraints cs)) c.self.view_is in
    let p = err_from_is_err_and c.from_residual-in_err-added.result c.from_residual-in_err-added.ensures.1 in
    rw (p.1, p.2) (next_converts c.args.self one c.push_one.new.list.width c.len-from.result c.push_one.new.list.rows _ _ _ width all from c.in_err-added.ensures.conversion)

pub returns-clause-conversion : goal.returns-clause-conversion
returns-clause-conversion g c =
    let one = constraint_at c.args.halfspaces.now.list c.args.index in
    let width : c.push_one.new.list.width ≡ c.args.self.dim + 2 = c.in_ok-push_one.ensures.width ∙ c.self.invariant.width ∙ ap (λ (cs : Constraints). cs.dim + 2) c.self.view_is in
    let all : c.push_one.new.list.rows ≡ encoded_constraints (with_one c.args.self one) = c.in_ok-push_one.ensures.rows ∙ ap (λ (rs : List Row). rs ++ encoded_constraint c.self.inside.cons.dim one ∷ []) c.self.invariant.rows ∙ sym (list_with_one c.self.inside.cons one) ∙ ap (λ (cs : Constraints). encoded_constraints (with_one cs one)) c.self.view_is in
    let from : c.len-from.result ≡ length (encoded_constraints c.args.self) = c.len-from.ensures ∙ ap (λ (rs : List Row). length rs) c.self.invariant.rows ∙ ap (λ (cs : Constraints). length (encoded_constraints cs)) c.self.view_is in
    next_converts c.args.self one c.push_one.new.list.width c.len-from.result c.push_one.new.list.rows _ _ (Ok c.in_ok-added.added) width all from c.in_ok-added.ensures.conversion
