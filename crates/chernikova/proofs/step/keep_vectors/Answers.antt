use Rattle.std.specs.Prelude.{ℤ, List, length, map, pos}
use Rattle.std.specs.Ordering.{int_eq}
use Rattle.std.proofs.Common.{subst, sym, ap, arith, ◌∙◌}
use Rattle.std.proofs.lemmas.List.{length-map}
use Rattle.row_core.specs.Lists.{row_at, vectors}
use Rattle.row_store.proofs.ValueLemmas.{length-values_on}
use Rattle.sat_matrix.specs.TableSteps.{HasColumn}
use Rattle.chernikova.proofs.Positions.{met_state}
use Rattle.chernikova.proofs.step.keep_vectors.Goals as goal

pub returns : goal.returns
returns c =
    let ready = c.requires.ready in
    let A : List ℤ → Type 0 = λ vs. HasColumn (map (λ value. int_eq value (pos 0)) vs) c.requires.ready.before c.mark_zeros.new.zeros in
    met_state c.args.rows.now.width c.args.rows.now.rows c.args.k (record c.args.cone.now { sat = ready.before }) c.args.scratch.now.ray_values.items c.mark_zeros.new.zeros c.requires.row ready.state ready.planned
    (subst A c.as_slice.ensures (c.mark_zeros.ensures.column ready.before ready.column))

pub mark_zeros-requires-clause-columns : goal.mark_zeros-requires-clause-columns
mark_zeros-requires-clause-columns c = omega (arith, c.requires.ready.column.columns)

pub mark_zeros-requires-clause-as_many : goal.mark_zeros-requires-clause-as_many
mark_zeros-requires-clause-as_many c =
    let ready = c.requires.ready in
    ap (λ (vs : List ℤ). length vs) (c.as_slice.ensures ∙ ready.planned.0.are_values) ∙ length-values_on (row_at c.args.rows.now.rows c.args.k) (vectors c.args.cone.now.rays.rows) ∙ sym ready.state.zeros.each.as_many
    ∙ sym (ap length ready.column.rows ∙ length-map ready.before.rows _)
