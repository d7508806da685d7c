use Rattle.std.proofs.Common.{◌≡◌, ◌+◌, ◌-◌, ◌≤◌, ℕ, List, ap, ◌∙◌, take, drop, length, arith}
use Rattle.std.proofs.lemmas.List.{length-take}
use Rattle.poly_io.specs.LineReading.{Reading}
use Rattle.poly_io.proofs.ReadLaws.{line_lent, behind}
use Rattle.poly_io.proofs.line_reader.LineReader.take_line.Goals as goal

pub returns-clause-line : goal.returns-clause-line
returns-clause-line c =
    let s = c.self.inside in
    let b = s.bytes.items in
    let at = c.args.at in
    let pending : take (s.end - s.start) (drop s.start b) ≡ c.args.self.now.pending = ap (λ (r : Reading). r.pending) c.self.view_is in
    let short : at ≤ s.end - s.start = omega (arith, c.requires, ap length pending, length-take (s.end - s.start) (drop s.start b)) in
    let d = c.deref.result.now in
    let l = c.length_without_return-length in
    let same : s.start + at - s.start ≡ at = omega arith in
    line_lent b c.args.self.now.pending (take (s.start + at - s.start) (drop s.start d)) s.start s.end at l.result c.min.result pending short
    (ap (λ (n : ℕ). take n (drop s.start d)) same ∙ ap (λ (x : List ℕ). take at (drop s.start x)) c.deref.ensures.value) l.ensures.bound l.ensures.line c.min.ensures

pub returns-clause-pending : goal.returns-clause-pending
returns-clause-pending c =
    let s = c.self.inside in
    let b = s.bytes.items in
    let pending : take (s.end - s.start) (drop s.start b) ≡ c.args.self.now.pending = ap (λ (r : Reading). r.pending) c.self.view_is in
    behind b c.args.self.now.pending s.start s.end (c.args.at + 1) pending (omega (arith, c.requires, ap length pending, length-take (s.end - s.start) (drop s.start b)))
