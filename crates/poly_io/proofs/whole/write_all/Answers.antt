use Rattle.std.proofs.Common.{◌≡◌, ◌-◌, ◌∙◌, arith, length, take, drop, ap}
use Rattle.std.specs.Io.KnownBytes.{append_known}
use Rattle.poly_io.proofs.Known.{append_known-take_more, take-rest}
use Rattle.poly_io.proofs.whole.write_all.Goals as goal

pub loop-at-preserved : goal.loop-at-preserved
loop-at-preserved g c =
    let bytes = c.args.bytes.now in
    let at = c.loop-at.at in
    let count = c.in-Took.count in
    let held = g.W.Sink.held in
    let whole : append_known (held c.loop-at.sink) (take count (take (length bytes - at) (drop at bytes))) ≡ append_known (held c.loop-at.sink) (take count (drop at bytes)) =
    ap (λ rest. append_known (held c.loop-at.sink) (take count rest)) (take-rest bytes at)
    in
    record {
      within = omega (arith, c.in-Took.ensures.appended.1);
      written =
          append_known-take_more bytes at count (held c.args.sink.now) (held c.loop-at.sink) (held c.write.new.self) c.loop-at.invariant.written (c.in-Took.ensures.appended.2 ∙ whole);
      counted = omega (arith, c.in-Took.ensures.counted, c.loop-at.invariant.counted);
      wanted = omega (arith, c.in-Took.ensures.wants_counted, c.loop-at.invariant.wanted);
    }
