use Rattle.std.proofs.Common.{arith, ◌++◌, take}
use Rattle.poly_io.proofs.Known.{prepend_known-then, length-with_front}
use Rattle.std.proofs.lemmas.Result.{err_from_is_err_and}
use Rattle.poly_io.proofs.whole.gather.Goals as goal

pub returns-then-count-limit-clause-given : goal.returns-then-count-limit-clause-given
returns-then-count-limit-clause-given g c =
    let front = take c.in-Got.count c.read.new.buf in
    let left = g.S.Source.left in
    let h = c.in-Got.ensures.moved in (
      c.loop-count.bytes.items ++ front,
      prepend_known-then c.loop-count.bytes.items front (left c.args.source.now) (left c.loop-count.source) (left c.read.new.self) c.loop-count.invariant.given h.2,
      (let long = length-with_front c.loop-count.bytes.items c.read.new.buf c.in-Got.count h.1 in
          (omega (arith, c.loop-count.bytes.ok, long), omega (arith, c.loop-count.bytes.ok, long, c.loop-count.invariant.within))),
    )

pub returns-in_err-extend_from_slice-in-Got-clause-given : goal.returns-in_err-extend_from_slice-in-Got-clause-given
returns-in_err-extend_from_slice-in-Got-clause-given g c =
    let front = take c.in-Got.count c.read.new.buf in
    let left = g.S.Source.left in
    let h = c.in-Got.ensures.moved in
    let p = err_from_is_err_and c.from_residual.result c.from_residual.ensures.1 in (
      c.loop-count.bytes.items ++ front,
      prepend_known-then c.loop-count.bytes.items front (left c.args.source.now) (left c.loop-count.source) (left c.read.new.self) c.loop-count.invariant.given h.2,
      rw (p.1, p.2) (omega (arith, c.loop-count.bytes.ok, length-with_front c.loop-count.bytes.items c.read.new.buf c.in-Got.count h.1)),
    )
