use Rattle.std.specs.Prelude.{ℤ, List, Bool}
use Rattle.std.proofs.Common.{ap, subst, ◌∙◌, sym, length}
use Rattle.row_core.specs.Lists.{row_at, vectors}
use Rattle.cone_laws.specs.Steps.{IsLastCrossing}
use Rattle.row_store.specs.Values.{values_on, AllStay, SomeGoes}
use Rattle.chernikova.proofs.PlacedCones.{first_of, second_of}
use Rattle.chernikova.proofs.StepLemmas.{last_from, flat_from}
use Rattle.std.proofs.lemmas.Result.{err_from_is_err_and}
use Rattle.chernikova.proofs.FaultLemmas.{values_fault_at}
use Rattle.chernikova.proofs.step.position.Goals as goal

pub returns-in-Some : goal.returns-in-Some
returns-in-Some c =
    let lines = vectors c.args.cone.now.lines.rows in
    let P : List ℤ → Type 0 = λ a. IsLastCrossing a (vectors c.args.cone.now.lines.rows) c.in-Some.index in
    record {
      crossing = subst P c.row-row.ensures.value (last_from c.row-row.result.now lines c.as_slice.result.now c.in-Some.index (c.as_slice.ensures ∙ c.in_ok-values.ensures.values) c.in-Some.ensures);
      are_line_values = c.in_ok-values.ensures.values ∙ ap (λ a. values_on a (vectors c.args.cone.now.lines.rows)) c.row-row.ensures.value;
      are_ray_values = c.in_ok-values-2.ensures.values ∙ ap (λ a. values_on a (vectors c.args.cone.now.rays.rows)) c.row-row.ensures.value;
      lines_in_range = c.in_ok-values.ensures.in_range;
      rays_in_range = c.in_ok-values-2.ensures.in_range;
    }

pub returns-then-all_meet : goal.returns-then-all_meet
returns-then-all_meet c =
    let rows = c.args.rows.now.rows in
    let lines = vectors c.args.cone.now.lines.rows in
    let A : Bool → Type 0 = λ eq. AllStay eq c.values-2.new.place.items in
    let B : List ℤ → Type 0 = λ vs. AllStay c.is_eq.result vs in (
      record {
        flat = flat_from (row_at rows c.args.k) lines c.as_slice.result.now (c.as_slice.ensures ∙ c.in_ok-values.ensures.values ∙ ap (λ a. values_on a (vectors c.args.cone.now.lines.rows)) c.row-row.ensures.value) c.in_default.ensures;
        are_values = c.in_ok-values-2.ensures.values ∙ ap (λ a. values_on a (vectors c.args.cone.now.rays.rows)) c.row-row.ensures.value;
        in_range = c.in_ok-values-2.ensures.in_range;
      },
      subst A c.is_eq.ensures (subst B c.as_slice-2.ensures (first_of c.all_meet.result (AllStay c.is_eq.result c.as_slice-2.result.now) (SomeGoes c.is_eq.result c.as_slice-2.result.now) c.if-all_meet.true c.all_meet.ensures)),
    )

pub returns : goal.returns
returns c =
    let rows = c.args.rows.now.rows in
    let lines = vectors c.args.cone.now.lines.rows in
    let A : Bool → Type 0 = λ eq. SomeGoes eq c.values-2.new.place.items in
    let B : List ℤ → Type 0 = λ vs. SomeGoes c.is_eq.result vs in (
      record {
        flat = flat_from (row_at rows c.args.k) lines c.as_slice.result.now (c.as_slice.ensures ∙ c.in_ok-values.ensures.values ∙ ap (λ a. values_on a (vectors c.args.cone.now.lines.rows)) c.row-row.ensures.value) c.in_default.ensures;
        are_values = c.in_ok-values-2.ensures.values ∙ ap (λ a. values_on a (vectors c.args.cone.now.rays.rows)) c.row-row.ensures.value;
        in_range = c.in_ok-values-2.ensures.in_range;
      },
      subst A c.is_eq.ensures (subst B c.as_slice-2.ensures (second_of c.all_meet.result (AllStay c.is_eq.result c.as_slice-2.result.now) (SomeGoes c.is_eq.result c.as_slice-2.result.now) c.if-all_meet.false c.all_meet.ensures)),
    )

pub values-requires-2-clause-wide : goal.values-requires-2-clause-wide
values-requires-2-clause-wide c = ap (λ (v : List ℤ). length v) c.row-row.ensures.value ∙ c.row-row.ensures.wide ∙ sym c.requires.state.lists.rays_wide

pub returns-in_err-values-2 : goal.returns-in_err-values-2
returns-in_err-values-2 c =
    let p = err_from_is_err_and c.from_residual-in_err-values-2.result c.from_residual-in_err-values-2.ensures.1 in
    rw (p.1, p.2) (values_fault_at c.args.rows.now.rows c.args.k c.row-row.result.now (vectors c.args.cone.now.lines.rows) (vectors c.args.cone.now.rays.rows) _ c.row-row.ensures.value c.in_err-values-2.ensures.values)
