use Rattle.std.proofs.Common.{rules, []}
use Rattle.cdd_reading.proofs.FileCuts.{nothing_read, further, ended}
use Rattle.cdd_reading.proofs.file.cut_file.Goals as goal

pub loop-rest-init : goal.loop-rest-init
loop-rest-init c = record { done = ([], nothing_read c.args.bytes.now); short = search rules }

pub loop-rest-preserved : goal.loop-rest-preserved
loop-rest-preserved c =
    let f = c.loop-rest.invariant.done in
    let s = c.split_line in
    record {
      done = further c.args.bytes.now c.loop-rest.rest.now s.result.1.now f.0 s.result.0.now s.ensures.chunk.0 c.loop-rest.number f.1 (search rules) s.ensures.first s.ensures.chunk.1 (search rules);
      short = search rules;
    }

pub returns-then-is_end : goal.returns-then-is_end
returns-then-is_end c =
    let f = c.loop-rest.invariant.done in
    let s = c.split_line in
    ended c.args.bytes.now c.loop-rest.rest.now s.result.1.now f.0 s.result.0.now c.loop-rest.number f.1 (search rules) s.ensures.first (search rules)
