use Rattle.std.proofs.Common.{◌≡◌, List, length, length-append, sym, subst, rules}
use Rattle.std.specs.Prelude.{All}
use Rattle.std.proofs.lemmas.Result.{err_from_is_err_and}
use Rattle.cdd_reading.specs.Tokens.{texts}
use Rattle.cdd_reading.specs.Tables.{IsIntegral}
use Rattle.cdd_reading.specs.declared.values.Numeral.{Numeral}
use Rattle.cdd_reading.proofs.RowReading.{IsReading, multiple_positive, number_refused, number_taken, row_integral, row_refused, row_taken, at_end}
use Rattle.cdd_reading.proofs.values.read_rows.Goals as goal

pub push_number-requires-clause-positive : goal.push_number-requires-clause-positive
push_number-requires-clause-positive c = multiple_positive c.args.width (texts c.args.tokens) (texts c.loop-token.token-iterator) c.loop-token.values.items c.loop-token.row.items c.loop-token.multiple c.loop-token.invariant.reading

pub returns-in_err-multiple : goal.returns-in_err-multiple
returns-in_err-multiple c =
    let i = c.loop-token.invariant in
    let s = c.in-Some in
    let p = err_from_is_err_and c.from_residual.result c.from_residual.ensures.1 in
    rw (p.1, p.2)
    (number_refused c.args.width (texts c.args.tokens) c.loop-token.token-iterator c.next.new.self (s.field-0-0, s.token.now) c.loop-token.values.items c.loop-token.row.items c.loop-token.multiple c.in_err-multiple.field-0.0 c.requires.some i.reading i.short (search rules) c.in_err-multiple.ensures)

pub push_scaled-requires : goal.push_scaled-requires
push_scaled-requires c =
    let s = c.in-Some in
    let reading : IsReading c.args.width (texts c.args.tokens) (texts c.next.new.self) c.loop-token.values.items c.push_number.new.row.items c.in_ok-multiple.multiple = number_taken c.args.width (texts c.args.tokens) c.loop-token.token-iterator c.next.new.self (s.field-0-0, s.token.now) c.loop-token.values.items c.loop-token.row.items c.push_number.new.row.items c.loop-token.multiple c.in_ok-multiple.multiple c.loop-token.invariant.reading (search rules) c.in_ok-multiple.ensures.0 c.in_ok-multiple.ensures.1 c.in_ok-multiple.ensures.2 in
    subst (λ (f : List Numeral). All (IsIntegral c.in_ok-multiple.multiple) f) (sym c.as_slice.ensures.value)
    (row_integral c.args.width (texts c.args.tokens) (texts c.next.new.self) c.loop-token.values.items c.push_number.new.row.items c.in_ok-multiple.multiple reading)

pub returns-in_err-push_scaled : goal.returns-in_err-push_scaled
returns-in_err-push_scaled c =
    let s = c.in-Some in
    let reading : IsReading c.args.width (texts c.args.tokens) (texts c.next.new.self) c.loop-token.values.items c.push_number.new.row.items c.in_ok-multiple.multiple = number_taken c.args.width (texts c.args.tokens) c.loop-token.token-iterator c.next.new.self (s.field-0-0, s.token.now) c.loop-token.values.items c.loop-token.row.items c.push_number.new.row.items c.loop-token.multiple c.in_ok-multiple.multiple c.loop-token.invariant.reading (search rules) c.in_ok-multiple.ensures.0 c.in_ok-multiple.ensures.1 c.in_ok-multiple.ensures.2 in
    let full : length c.push_number.new.row.items ≡ c.args.width = search rules in
    let p = err_from_is_err_and c.from_residual-in_err-push_scaled.result c.from_residual-in_err-push_scaled.ensures.1 in
    rw (p.1, p.2)
    (row_refused c.args.width (texts c.args.tokens) (texts c.next.new.self) c.loop-token.values.items c.push_number.new.row.items c.in_ok-multiple.multiple c.in_err-push_scaled.field-0.0 c.requires.some reading full
    (rw (← c.as_slice.ensures.value) c.in_err-push_scaled.ensures))

pub loop-token-preserved-then-len-width : goal.loop-token-preserved-then-len-width
loop-token-preserved-then-len-width c =
    let s = c.in-Some in
    let reading : IsReading c.args.width (texts c.args.tokens) (texts c.next.new.self) c.loop-token.values.items c.push_number.new.row.items c.in_ok-multiple.multiple = number_taken c.args.width (texts c.args.tokens) c.loop-token.token-iterator c.next.new.self (s.field-0-0, s.token.now) c.loop-token.values.items c.loop-token.row.items c.push_number.new.row.items c.loop-token.multiple c.in_ok-multiple.multiple c.loop-token.invariant.reading (search rules) c.in_ok-multiple.ensures.0 c.in_ok-multiple.ensures.1 c.in_ok-multiple.ensures.2 in
    let full : length c.push_number.new.row.items ≡ c.args.width = search rules in
    let scaled = c.in_ok-push_scaled.ensures in
    record {
      can_next = search rules;
      is_finite = search rules;
      reading = subst (λ (f : List Numeral). IsReading c.args.width (texts c.args.tokens) (texts c.next.new.self) c.push_scaled.new.values.items f 1) (sym c.clear.ensures.items)
          (row_taken c.args.width (texts c.args.tokens) (texts c.next.new.self) c.loop-token.values.items c.push_scaled.new.values.items c.push_number.new.row.items c.in_ok-multiple.multiple c.requires.some reading full
          (rw c.as_slice.ensures.value at scaled.0) (rw c.as_slice.ensures.value at scaled.1));
      short = search rules;
    }

pub loop-token-preserved : goal.loop-token-preserved
loop-token-preserved c =
    let s = c.in-Some in
    record {
      can_next = search rules;
      is_finite = search rules;
      reading = number_taken c.args.width (texts c.args.tokens) c.loop-token.token-iterator c.next.new.self (s.field-0-0, s.token.now) c.loop-token.values.items c.loop-token.row.items c.push_number.new.row.items c.loop-token.multiple c.in_ok-multiple.multiple c.loop-token.invariant.reading (search rules) c.in_ok-multiple.ensures.0 c.in_ok-multiple.ensures.1 c.in_ok-multiple.ensures.2;
      short = search (rules, length-append);
    }

pub returns : goal.returns
returns c = at_end c.args.width (texts c.args.tokens) c.loop-token.token-iterator c.loop-token.values.items c.loop-token.row.items c.loop-token.multiple c.requires.some c.loop-token.invariant.reading (search rules) c.loop-token.invariant.short
