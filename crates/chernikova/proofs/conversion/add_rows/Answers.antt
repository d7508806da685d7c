use Rattle.std.specs.Prelude.{refl, ◌≡◌, ◌^◌, ◌<◌, ◌≤◌, ◌++◌, ℕ, List, length, Ok, Err}
use Rattle.std.proofs.Common.{subst, arith, ap, ◌∙◌, sym, length-append}
use Rattle.std.proofs.lemmas.Result.{err_from_is_err_and}
use Rattle.row_core.specs.Lists.{Row}
use Rattle.row_core.specs.declared.errors.ConvErr.TheVariants.{Memory}
use Rattle.chernikova.specs.declared.cone.Cone.{Cone}
use Rattle.chernikova.specs.declared.system.System.{System}
use Rattle.chernikova.specs.Conversion.{IsConverted, IsReopened, ConvertsFrom}
use Rattle.chernikova.proofs.Prefixes.{front_state, state_moved}
use Rattle.row_core.proofs.RowListLemmas.{length-vectors}
use Rattle.chernikova.proofs.Rankings.{rearranged_converted}
use Rattle.chernikova.proofs.Costs.{further_not_begun, further_done, further_then_memory, further_refused}
use Rattle.chernikova.proofs.conversion.add_rows.Goals as goal

-- what holds of a list, of the list that it is, from the index that it is
moved : (P : ℕ → List Row → ℕ → Type 0) (w width : ℕ) (rs rows : List Row) (n from : ℕ) → w ≡ width → rs ≡ rows → n ≡ from → P w rs n → P width rows from
moved P w width rs rows n from e f g h = subst (λ (k : ℕ). P width rows k) g (subst (λ (xs : List Row). P width xs n) f (subst (λ (m : ℕ). P m rs n) e h))

-- the rows that were taken are no more than all
front_fewer : (taken more : List Row) → length taken ≤ length (taken ++ more)
front_fewer taken more = omega (arith, length-append taken more)

-- the system of a copy is that of what it copies
reopened_copy : (cone copy : Cone) (system : System) → copy ≡ record cone { sat = record cone.sat { spare = 0 } } → IsReopened copy system → IsReopened cone system
reopened_copy cone copy system e h = record {
  lines = h.lines ∙ ap (λ (c : Cone). c.lines) e;
  rays = h.rays ∙ ap (λ (c : Cone). c.rays) e;
  columns = h.columns ∙ ap (λ (c : Cone). c.sat.columns) e;
  zeros = h.zeros ∙ ap (λ (c : Cone). c.sat.rows) e;
}

pub take_rows-requires-clause-from : goal.take_rows-requires-clause-from
take_rows-requires-clause-from g c =
    subst (λ (xs : List Row). c.len-from.result ≤ length xs) (sym c.in_ok-rows.ensures.rows)
    (subst (λ (k : ℕ). k ≤ length (c.args.taken.now.rows ++ c.args.more.now.rows)) (sym c.len-from.ensures) (front_fewer c.args.taken.now.rows c.args.more.now.rows))

pub take_rows-requires-clause-state : goal.take_rows-requires-clause-state
take_rows-requires-clause-state g c =
    let taken = c.args.taken.now in
    let rows = c.in_ok-rows.rows in
    let narrow : taken.width < 2 ^ 32 = subst (λ (n : ℕ). n < 2 ^ 32) c.in_ok-rows.ensures.width c.width.ensures.narrow in
    state_moved taken.width rows.width (taken.rows ++ c.args.more.now.rows) rows.rows (length taken.rows) c.len-from.result c.system_of_cone-system.result c.system_of_cone-system.result (sym c.in_ok-rows.ensures.width) (sym c.in_ok-rows.ensures.rows) (sym c.len-from.ensures) refl
    (front_state taken.width taken.rows c.args.more.now.rows c.args.cone.now c.system_of_cone-system.result narrow c.requires.cone (reopened_copy c.args.cone.now c.in_ok-copy.copy c.system_of_cone-system.result c.in_ok-copy.ensures.cases c.system_of_cone-system.ensures))

pub sorted_cone-requires-clause-as_many : goal.sorted_cone-requires-clause-as_many
sorted_cone-requires-clause-as_many g c = c.in_ok-take_rows.ensures.state.zeros.each.as_many ∙ length-vectors c.take_rows.new.cone.rays.rows

pub returns-in_err-rows-clause-conversion : goal.returns-in_err-rows-clause-conversion
returns-in_err-rows-clause-conversion g c =
    let taken = c.args.taken.now in
    let p = err_from_is_err_and c.from_residual.result c.from_residual.ensures.1 in
    rw (p.1, p.2) (further_not_begun taken.width (taken.rows ++ c.args.more.now.rows) (length taken.rows) c.args.steps.now (front_fewer taken.rows c.args.more.now.rows))

pub returns-in_err-copy-clause-conversion : goal.returns-in_err-copy-clause-conversion
returns-in_err-copy-clause-conversion g c =
    let taken = c.args.taken.now in
    let p = err_from_is_err_and c.from_residual-in_err-copy.result c.from_residual-in_err-copy.ensures.1 in
    rw (p.1, p.2) (further_not_begun taken.width (taken.rows ++ c.args.more.now.rows) (length taken.rows) c.args.steps.now (front_fewer taken.rows c.args.more.now.rows))

pub returns-in_err-take_rows-clause-conversion : goal.returns-in_err-take_rows-clause-conversion
returns-in_err-take_rows-clause-conversion g c =
    let rows = c.in_ok-rows.rows in
    let error = c.in_err-take_rows.field-0.0 in
    let h : ConvertsFrom {T = Cone} rows.width rows.rows c.len-from.result c.args.steps.now c.take_rows.new.steps (Err error) =
    further_refused rows.width rows.rows c.len-from.result c.args.steps.now c.take_rows.new.steps error c.in_err-take_rows.ensures.conversion in
    let p = err_from_is_err_and c.from_residual-in_err-take_rows.result c.from_residual-in_err-take_rows.ensures.1 in
    rw (p.1, p.2) (moved (λ n xs k. ConvertsFrom {T = Cone} n xs k c.args.steps.now c.take_rows.new.steps (Err error)) _ _ _ _ _ _ c.in_ok-rows.ensures.width c.in_ok-rows.ensures.rows c.len-from.ensures h)

pub returns-in_err-sorted_cone-clause-conversion : goal.returns-in_err-sorted_cone-clause-conversion
returns-in_err-sorted_cone-clause-conversion g c =
    let rows = c.in_ok-rows.rows in
    let h : ConvertsFrom {T = Cone} rows.width rows.rows c.len-from.result c.args.steps.now c.take_rows.new.steps (Err Memory) =
    further_then_memory rows.width rows.rows c.len-from.result c.args.steps.now c.take_rows.new.steps _ c.in_ok-take_rows.ensures.conversion in
    let p = err_from_is_err_and c.from_residual-in_err-sorted_cone.result c.from_residual-in_err-sorted_cone.ensures.1 in
    rw (p.1, p.2) (moved (λ n xs k. ConvertsFrom {T = Cone} n xs k c.args.steps.now c.take_rows.new.steps (Err Memory)) _ _ _ _ _ _ c.in_ok-rows.ensures.width c.in_ok-rows.ensures.rows c.len-from.ensures h)

pub returns-clause-cone : goal.returns-clause-cone
returns-clause-cone g c =
    let rows = c.in_ok-rows.rows in
    let cone = c.in_ok-sorted_cone.field-0 in
    moved (λ n xs k. IsConverted n xs cone) _ _ _ _ _ _ c.in_ok-rows.ensures.width c.in_ok-rows.ensures.rows c.len-from.ensures
    (rearranged_converted rows.width rows.rows c.take_rows.new.cone cone c.in_ok-take_rows.ensures.state c.in_ok-sorted_cone.ensures)

pub returns-clause-conversion : goal.returns-clause-conversion
returns-clause-conversion g c =
    let rows = c.in_ok-rows.rows in
    let cone = c.in_ok-sorted_cone.field-0 in
    moved (λ n xs k. ConvertsFrom n xs k c.args.steps.now c.take_rows.new.steps (Ok cone)) _ _ _ _ _ _ c.in_ok-rows.ensures.width c.in_ok-rows.ensures.rows c.len-from.ensures
    (further_done rows.width rows.rows c.len-from.result c.args.steps.now c.take_rows.new.steps _ cone c.in_ok-take_rows.ensures.conversion)
