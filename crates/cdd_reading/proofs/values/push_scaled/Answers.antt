use Rattle.std.proofs.Common.{◌≡◌, [], ◌∷◌, ◌++◌, get_or, rules}
use Rattle.cdd_reading.proofs.ValueLaws.{blank, own_default, times_out, times_next, times_in}
use Rattle.cdd_reading.proofs.values.push_scaled.Goals as goal

pub returns-in_default : goal.returns-in_default
returns-in_default c =
    let row = c.args.row.now in
    let i = c.loop-number.number-index in
    times_out c.args.multiple row i (get_or row i blank) (search rules) (own_default row i (search rules)) c.in_default.ensures

pub loop-number-preserved : goal.loop-number-preserved
loop-number-preserved c =
    let row = c.args.row.now in
    let i = c.loop-number.number-index in
    let m = c.args.multiple in
    let z = c.in-Some.value in
    let pushed : c.push.new.self.items ≡ c.loop-number.values.items ++ z ∷ [] = search rules in
    record {
      items = times_next c.args.values.now.items c.loop-number.values.items c.push.new.self.items m row i (get_or row i blank) z (search rules) (own_default row i (search rules)) c.in-Some.ensures.0 pushed c.loop-number.invariant.items;
      in_range = times_in m row i (get_or row i blank) z (search rules) (own_default row i (search rules)) c.in-Some.ensures.0 c.in-Some.ensures.1 c.loop-number.invariant.in_range;
    }
