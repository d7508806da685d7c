use Rattle.std.proofs.Common.{◌≤◌, length, rules, List, ℕ}
use Rattle.std.specs.Str.Lines.{lines}
use Rattle.std.proofs.lemmas.List.Elements.{All-cons, All-rest, All-same}
use Rattle.cdd_reading.proofs.file.are_short.Goals as goal

pub loop-rest-preserved : goal.loop-rest-preserved
loop-rest-preserved c =
    let line = c.split_line.result.0.now in
    let behind = lines c.split_line.result.1.now in
    record {
      whole = λ h. c.loop-rest.invariant.whole (All-same (λ (x : List ℕ). length x ≤ 65535) (lines c.loop-rest.rest.now) _ c.split_line.ensures.first (All-cons (λ (x : List ℕ). length x ≤ 65535) line behind (search rules) h));
      part = λ h. All-rest (λ (x : List ℕ). length x ≤ 65535) line behind (lines c.loop-rest.rest.now) c.split_line.ensures.first (c.loop-rest.invariant.part h);
    }
