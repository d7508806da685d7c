use Rattle.std.proofs.Common.{◌≡◌, ◌≤◌, ◌<◌, Bool, List, [], length, take, ap, sym, subst, ◌∙◌, arith, rules}
use Rattle.std.specs.Prelude.{ℤ}
use Rattle.gens_sys.specs.Generators.{Generator}
use Rattle.std.proofs.lemmas.List.{length-take-le}
use Rattle.std.proofs.lemmas.List.Elements.{All-take}
use Rattle.row_core.specs.Lists.{Row}
use Rattle.row_core.specs.Range.{InRange, AllInRange}
use Rattle.cdd_reading.specs.Tables.{AreStored}
use Rattle.std.proofs.lemmas.Result.{err_from_is_err_and}
use Rattle.cdd_reading.proofs.StoreLaws.{Taken, none_taken, row_left, all_taken, vector_kept, row_refused}
use Rattle.cdd_reading.proofs.store.store_vectors.Goals as goal

pub loop-marked-preserved : goal.loop-marked-preserved
loop-marked-preserved c =
    let i = c.loop-marked.invariant.done in
    let table = c.args.table.now in
    record {
      done = vector_kept table.width c.loop-marked.marked-index table.marks.items table.values.items c.loop-marked.rest.now c.split_at.result.1.now c.split_at.result.0.now i.0 c.loop-marked.system.list c.push_vector.new.system.list _ i.1 (search rules) (search rules) (search rules) (search rules) i.2 c.in_ok-push_vector.ensures.list;
      dim = search rules;
    }

pub returns-in_err-push_vector : goal.returns-in_err-push_vector
returns-in_err-push_vector c =
    let i = c.loop-marked.invariant.done in
    let table = c.args.table.now in
    let p = err_from_is_err_and c.from_residual.result c.from_residual.ensures.1 in
    rw (p.1, p.2)
    (row_refused table.width c.loop-marked.marked-index table.marks.items table.values.items c.loop-marked.rest.now c.split_at.result.0.now i.0 _ c.in_err-push_vector.field-0.0 i.1 (search rules) (search rules) (search rules) i.2.faultless c.in_err-push_vector.ensures.list)

pub push_vector-requires : goal.push_vector-requires
push_vector-requires c =
    let i = c.loop-marked.invariant.done in
    let table = c.args.table.now in
    let row : c.split_at.result.0.now ≡ take table.width c.loop-marked.rest.now = search rules in
    let left : table.width ≤ length c.loop-marked.rest.now = row_left table.width c.loop-marked.marked-index table.marks.items table.values.items c.loop-marked.rest.now i.0 i.1 (search rules) in
    let wide : length c.split_at.result.0.now ≡ table.width = ap length row ∙ length-take-le table.width c.loop-marked.rest.now left in
    record {
      some = omega (arith, wide, c.requires.some);
      wide = wide ∙ c.loop-marked.invariant.dim;
      in_range = subst AllInRange (sym row) (All-take InRange table.width c.loop-marked.rest.now i.1.in_range);
      narrow = omega (arith, wide, c.requires.narrow);
    }

pub returns : goal.returns
returns c =
    let i = c.loop-marked.invariant.done in
    let table = c.args.table.now in
    let all = all_taken table.width c.loop-marked.marked-index table.marks.items table.values.items c.loop-marked.rest.now i.0 i.1 (search rules) in
    (c.loop-marked.invariant.dim, subst (λ (rs : List Row). AreStored rs c.loop-marked.system.list) (sym all) i.2)

pub loop-marked-init : goal.loop-marked-init
loop-marked-init c =
    let table = c.args.table.now in
    record {
      done = (
        [],
        subst (λ (rest : List ℤ). Taken table.width 0 table.marks.items table.values.items rest []) (sym c.as_slice-rest.ensures.value) (none_taken table.width table.marks.items table.values.items c.requires),
        subst (λ (list : List Generator). AreStored [] list) (sym c.new-system.ensures.empty) (search rules),
      );
      dim = omega (arith, c.requires.some, c.new-system.ensures.dim);
    }

pub split_at-requires : goal.split_at-requires
split_at-requires c =
    let i = c.loop-marked.invariant.done in
    let table = c.args.table.now in
    let within = subst (λ (ms : List Bool). c.loop-marked.marked-index < length ms) c.as_slice-marked-items.ensures.value c.loop-marked-test.true in
    row_left table.width c.loop-marked.marked-index table.marks.items table.values.items c.loop-marked.rest.now i.0 i.1 within
