use Rattle.std.proofs.Common.{◌≡◌, ◌∙◌, ℕ, ◌/◌, length, subst}
use Rattle.cdd_reading.specs.Files.{marks}
use Rattle.cdd_reading.specs.Headings.{indices_of}
use Rattle.cdd_reading.proofs.Stages.{first_longer}
use Rattle.cdd_reading.specs.Refusals.{AllName, form_tests, content_tests}
use Rattle.cdd_reading.proofs.TableLaws.{KeepsLimits, AreValues, limit_refused, divisor_refused, large_refused, index_refused, table_read, form_count}
use Rattle.cdd_reading.proofs.table.read_table.Goals as goal

pub returns-in-Err : goal.returns-in-Err
returns-in-Err c = first_longer (form_tests c.args.bytes.now) (content_tests c.args.want c.args.bytes.now) c.in-Err.fault c.in-Err.ensures.read

pub returns-in-Err-check_limits : goal.returns-in-Err-check_limits
returns-in-Err-check_limits c =
    let form = c.in-Ok.form in
    limit_refused c.args.want c.args.bytes.now form.kind form.linearity.now form.columns form.numbers c.in-Err-check_limits.fault c.in-Ok.ensures.read c.in-Err-check_limits.ensures

pub returns-in-Err-ZeroDivisor : goal.returns-in-Err-ZeroDivisor
returns-in-Err-ZeroDivisor c =
    let form = c.in-Ok.form in
    let limits = c.in-Ok-check_limits in
    let k : KeepsLimits c.args.want form.kind form.columns limits.width = record { width_is = limits.ensures.0; few = limits.ensures.1; kind = limits.ensures.2 } in
    divisor_refused c.args.want c.args.bytes.now form.kind form.linearity.now form.columns limits.width form.numbers c.in-Ok.ensures.read k (rw c.in-Err-ZeroDivisor.field-0-is at c.in-Err-ZeroDivisor.ensures)

pub returns-in-Err-TooLarge : goal.returns-in-Err-TooLarge
returns-in-Err-TooLarge c =
    let form = c.in-Ok.form in
    let limits = c.in-Ok-check_limits in
    let k : KeepsLimits c.args.want form.kind form.columns limits.width = record { width_is = limits.ensures.0; few = limits.ensures.1; kind = limits.ensures.2 } in
    let large = rw c.in-Err-TooLarge.field-0-is at c.in-Err-TooLarge.ensures in
    large_refused c.args.want c.args.bytes.now form.kind form.linearity.now form.columns limits.width form.numbers c.in-Ok.ensures.read k large.0 large.1

pub returns-in-Ok-read_marks : goal.returns-in-Ok-read_marks
returns-in-Ok-read_marks c =
    let form = c.in-Ok.form in
    let limits = c.in-Ok-check_limits in
    let k : KeepsLimits c.args.want form.kind form.columns limits.width = record { width_is = limits.ensures.0; few = limits.ensures.1; kind = limits.ensures.2 } in
    let are : AreValues limits.width form.numbers c.in-Ok-read_values.values.items = record { same = c.in-Ok-read_values.ensures.0; divide = c.in-Ok-read_values.ensures.1; fit = c.in-Ok-read_values.ensures.2 } in
    let size : c.len.result ≡ length c.in-Ok-read_values.values.items = c.len.ensures ∙ c.in-Ok-read_values.values.ok.0 in
    let named = subst (λ (n : ℕ). (c.in-Ok-read_marks.marks.items ≡ marks (indices_of form.linearity.now) (n / limits.width)) × AllName (n / limits.width) (indices_of form.linearity.now)) size c.in-Ok-read_marks.ensures in
    table_read c.args.want c.args.bytes.now form.kind form.linearity.now form.columns limits.width form.numbers c.in-Ok-read_values.values.items c.in-Ok-read_marks.marks.items c.in-Ok.ensures.read k are named.0 named.1

pub returns-in-Err-OutOfBounds : goal.returns-in-Err-OutOfBounds
returns-in-Err-OutOfBounds c =
    let form = c.in-Ok.form in
    let limits = c.in-Ok-check_limits in
    let k : KeepsLimits c.args.want form.kind form.columns limits.width = record { width_is = limits.ensures.0; few = limits.ensures.1; kind = limits.ensures.2 } in
    let are : AreValues limits.width form.numbers c.in-Ok-read_values.values.items = record { same = c.in-Ok-read_values.ensures.0; divide = c.in-Ok-read_values.ensures.1; fit = c.in-Ok-read_values.ensures.2 } in
    let size : c.len.result ≡ length c.in-Ok-read_values.values.items = c.len.ensures ∙ c.in-Ok-read_values.values.ok.0 in
    let unnamed = subst (λ (n : ℕ). ¬ (AllName (n / limits.width) (indices_of form.linearity.now))) size (rw c.in-Err-OutOfBounds.field-0-is at c.in-Err-OutOfBounds.ensures) in
    index_refused c.args.want c.args.bytes.now form.kind form.linearity.now form.columns limits.width form.numbers c.in-Ok-read_values.values.items c.in-Ok.ensures.read k are unnamed

pub read_values-requires-clause-rows : goal.read_values-requires-clause-rows
read_values-requires-clause-rows c =
    let form = c.in-Ok.form in
    let limits = c.in-Ok-check_limits in
    let k : KeepsLimits c.args.want form.kind form.columns limits.width = record { width_is = limits.ensures.0; few = limits.ensures.1; kind = limits.ensures.2 } in
    form_count c.args.want c.args.bytes.now form.kind form.linearity.now form.columns limits.width form.numbers c.in-Ok.ensures.read k
