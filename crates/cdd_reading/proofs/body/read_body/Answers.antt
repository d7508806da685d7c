use Rattle.std.proofs.Common.{rules, inr}
use Rattle.cdd_reading.proofs.BodyLaws.{whole_body, wrong_body}
use Rattle.cdd_reading.proofs.body.read_body.Goals as goal

pub returns-in-Err-check_numbers-clause-read : goal.returns-in-Err-check_numbers-clause-read
returns-in-Err-check_numbers-clause-read c =
    let r = c.in-Ok.sizes in
    let a = c.in-Ok.ensures in
    inr (wrong_body c.args.tokens c.read_sizes.new.tokens r.rows r.columns c.product-most.result c.args.end c.in-Err-check_numbers.line r.number_type a.0 a.1 (search rules) c.product-most.ensures (search rules))

pub returns-in-Ok-check_numbers-clause-read : goal.returns-in-Ok-check_numbers-clause-read
returns-in-Ok-check_numbers-clause-read c =
    let r = c.in-Ok.sizes in
    let a = c.in-Ok.ensures in
    whole_body c.args.tokens c.read_sizes.new.tokens r.rows r.columns c.product-most.result r.number_type a.0 a.1 (search rules) c.product-most.ensures (search rules) (search rules)
