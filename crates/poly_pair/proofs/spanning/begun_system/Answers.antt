use Rattle.std.proofs.Common.{◌≡◌, ◌+◌, ◌<◌, ◌∙◌, ℕ, length, refl, ap, subst}
use Rattle.std.specs.Prelude.{IfOk, None}
use Rattle.std.proofs.lemmas.Result.{IfOk-weaker, err_from_is_err_and}
use Rattle.row_core.specs.Lists.{row_at}
use Rattle.chernikova.specs.Conversion.{IsConverted}
use Rattle.chernikova.specs.declared.cone.Added.{Added}
use Rattle.cons_sys.specs.Constraints.{Constraints}
use Rattle.stored_systems.specs.WorkLists.{constraint_list}
use Rattle.poly_pair.specs.declared.topology.Topology.TheVariants.{Closed}
use Rattle.poly_pair.specs.Work.{Work, rows_work, ConvertsFirst, IsFirstConversion}
use Rattle.poly_pair.proofs.Additions.{moved}
use Rattle.poly_pair.proofs.SpanningSystems.{begun_fewer, begun_start, wide_at}
use Rattle.poly_pair.proofs.WorkLemmas.{first_unconverted, first_of_from, begun_known}
use Rattle.poly_pair.proofs.spanning.begun_system.Goals as goal

pub add_rows_from-requires-clause-from : goal.add_rows_from-requires-clause-from
add_rows_from-requires-clause-from g c = begun_fewer c.args.p.now c.args.cons.now c.requires.begins (c.len-from.result + 1) c.in_ok-rows.rows.rows c.in_ok-rows.ensures.rows (ap (λ (n : ℕ). n + 1) (c.len-from.ensures ∙ ap (λ (cs : Constraints). length cs.list) c.cons.ensures.value))

pub add_rows_from-requires-clause-system : goal.add_rows_from-requires-clause-system
add_rows_from-requires-clause-system g c =
    (begun_start c.args.p.now c.args.cons.now c.requires.begins c.in_ok-start.start c.in_ok-start.ensures c.in_ok-rows.rows.width (c.len-from.result + 1) c.in_ok-rows.rows.rows c.in_ok-rows.ensures.width c.in_ok-rows.ensures.rows (ap (λ (n : ℕ). n + 1) (c.len-from.ensures ∙ ap (λ (cs : Constraints). length cs.list) c.cons.ensures.value))).system

pub add_rows_from-requires-clause-lists : goal.add_rows_from-requires-clause-lists
add_rows_from-requires-clause-lists g c =
    (begun_start c.args.p.now c.args.cons.now c.requires.begins c.in_ok-start.start c.in_ok-start.ensures c.in_ok-rows.rows.width (c.len-from.result + 1) c.in_ok-rows.rows.rows c.in_ok-rows.ensures.width c.in_ok-rows.ensures.rows (ap (λ (n : ℕ). n + 1) (c.len-from.ensures ∙ ap (λ (cs : Constraints). length cs.list) c.cons.ensures.value))).lists

pub add_rows_from-requires-clause-sat : goal.add_rows_from-requires-clause-sat
add_rows_from-requires-clause-sat g c =
    (begun_start c.args.p.now c.args.cons.now c.requires.begins c.in_ok-start.start c.in_ok-start.ensures c.in_ok-rows.rows.width (c.len-from.result + 1) c.in_ok-rows.rows.rows c.in_ok-rows.ensures.width c.in_ok-rows.ensures.rows (ap (λ (n : ℕ). n + 1) (c.len-from.ensures ∙ ap (λ (cs : Constraints). length cs.list) c.cons.ensures.value))).zeros

pub returns-clause-cone : goal.returns-clause-cone
returns-clause-cone g c =
    let cs = c.args.cons.now in
    moved (λ w rs. IfOk c.add_rows_from.result (λ (a : Added). IsConverted w rs a.cone)) c.in_ok-rows.rows.width (cs.dim + 1) c.in_ok-rows.rows.rows (constraint_list cs) c.in_ok-rows.ensures.width c.in_ok-rows.ensures.rows c.add_rows_from.ensures.cone

pub returns-clause-wide : goal.returns-clause-wide
returns-clause-wide g c =
    let cs = c.args.cons.now in
    IfOk-weaker c.add_rows_from.result (λ (a : Added). IsConverted c.in_ok-rows.rows.width c.in_ok-rows.rows.rows a.cone) (λ a. (j : ℕ) → j < length (constraint_list cs) → length (row_at (constraint_list cs) j) ≡ cs.dim + 1)
    (λ a h. wide_at Closed cs c.in_ok-rows.rows c.width.ensures.rows c.in_ok-rows.ensures.width c.in_ok-rows.ensures.rows) c.add_rows_from.ensures.cone

pub returns-clause-conversion : goal.returns-clause-conversion
returns-clause-conversion g c =
    let p = c.args.p.now in
    let cs = c.args.cons.now in
    let from = length p.cons.list + 1 in
    let r = c.add_rows_from.result in
    let high = c.add_rows_from.new.steps in
    subst (λ (work : Work). ConvertsFirst work c.args.steps.now high r) (begun_known p cs c.requires.closed c.requires.some)
    (moved (λ w rs. ConvertsFirst (rows_work w cs.dim rs from) c.args.steps.now high r) c.in_ok-rows.rows.width (cs.dim + 1) c.in_ok-rows.rows.rows (constraint_list cs) c.in_ok-rows.ensures.width c.in_ok-rows.ensures.rows
    (subst (λ (n : ℕ). ConvertsFirst (rows_work c.in_ok-rows.rows.width cs.dim c.in_ok-rows.rows.rows n) c.args.steps.now high r) (ap (λ (n : ℕ). n + 1) (c.len-from.ensures ∙ ap (λ (ds : Constraints). length ds.list) c.cons.ensures.value))
    (first_of_from c.in_ok-rows.rows.width cs.dim c.in_ok-rows.rows.rows (c.len-from.result + 1) c.args.steps.now high r c.add_rows_from.ensures.conversion)))

pub returns-in_err-rows : goal.returns-in_err-rows
returns-in_err-rows g c =
    let p = err_from_is_err_and c.from_residual.result c.from_residual.ensures.1 in
    rw (p.1, p.2) (record {
      cone = tt;
      wide = tt;
      conversion = subst (λ (work : Work). IsFirstConversion work c.args.steps.now c.args.steps.now None) (begun_known c.args.p.now c.args.cons.now c.requires.closed c.requires.some)
          (first_unconverted (rows_work (c.args.cons.now.dim + 1) c.args.cons.now.dim (constraint_list c.args.cons.now) (length c.args.p.now.cons.list + 1)) c.args.steps.now
          (begun_fewer c.args.p.now c.args.cons.now c.requires.begins (length c.args.p.now.cons.list + 1) (constraint_list c.args.cons.now) refl refl));
    })

pub returns-in_err-start : goal.returns-in_err-start
returns-in_err-start g c =
    let p = err_from_is_err_and c.from_residual-in_err-start.result c.from_residual-in_err-start.ensures.1 in
    rw (p.1, p.2) (record {
      cone = tt;
      wide = tt;
      conversion = subst (λ (work : Work). IsFirstConversion work c.args.steps.now c.args.steps.now None) (begun_known c.args.p.now c.args.cons.now c.requires.closed c.requires.some)
          (first_unconverted (rows_work (c.args.cons.now.dim + 1) c.args.cons.now.dim (constraint_list c.args.cons.now) (length c.args.p.now.cons.list + 1)) c.args.steps.now
          (begun_fewer c.args.p.now c.args.cons.now c.requires.begins (length c.args.p.now.cons.list + 1) (constraint_list c.args.cons.now) refl refl));
    })
