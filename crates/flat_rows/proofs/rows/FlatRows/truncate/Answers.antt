use Rattle.std.proofs.Common.{◌≡◌, ◌*◌, ◌≤◌, vec_len, arith}
use Rattle.std.proofs.Math.Nat.{mul-le-mul_right}
use Rattle.flat_rows.proofs.Flat.{seen, take_seen, laid_out-take}
use Rattle.flat_rows.proofs.rows.FlatRows.truncate.Goals as goal

pub overflow_mul-count : goal.overflow_mul-count
overflow_mul-count g c =
    let count = (seen _ _ _ _ _ c.self.view_is).count in
    let within : c.args.count ≤ c.self.inside.count = omega (arith, count) in
    omega (arith, c.self.invariant.taken, mul-le-mul_right c.self.inside.width within)

pub invariant_of-self : goal.invariant_of-self
invariant_of-self g c =
    let count = (seen _ _ _ _ _ c.self.view_is).count in
    let within : c.args.count ≤ c.self.inside.count = omega (arith, count) in
    let least : c.args.count * c.self.inside.width ≤ c.self.inside.count * c.self.inside.width = mul-le-mul_right c.self.inside.width within in
    let len : vec_len c.truncate.new.self ≡ c.args.count * c.self.inside.width = omega (arith, c.self.invariant.taken, c.truncate.ensures.len) in
    let laid = laid_out-take _ _ _ _ _ c.args.count c.self.invariant within in
    record { taken = len; room = omega (arith, laid.room, c.truncate.ensures.capacity); counted = laid.counted }

pub returns : goal.returns
returns g c = rw c.truncate.ensures.items (take_seen _ _ _ c.args.count _ _ c.self.view_is c.requires)
