use Rattle.std.proofs.Common.{◌≡◌, ◌≤◌, ◌+◌, ◌-◌, ℕ, List, take, drop, length, ap, ◌∙◌, arith}
use Rattle.std.specs.Prelude.{position}
use Rattle.std.proofs.lemmas.List.{length-take}
use Rattle.poly_io.specs.Cut.{is_feed}
use Rattle.poly_io.specs.LineReading.{Reading}
use Rattle.poly_io.proofs.CutLaws.{some_behind, none_behind}
use Rattle.poly_io.proofs.ReadLaws.{behind}
use Rattle.poly_io.proofs.line_reader.LineReader.feed_behind.Goals as goal

pub returns-in-Some : goal.returns-in-Some
returns-in-Some c =
    let s = c.self.inside in
    let b = s.bytes.items in
    let d = c.deref.result.now in
    let n = c.args.seen in
    let p = c.args.self.now.pending in
    let pending : take (s.end - s.start) (drop s.start b) ≡ p = ap (λ (r : Reading). r.pending) c.self.view_is in
    let room : s.start + n ≤ s.end = omega (arith, c.requires, c.self.invariant, ap length pending, length-take (s.end - s.start) (drop s.start b)) in
    let slice : take (s.end - (s.start + n)) (drop (s.start + n) d) ≡ drop n p =
    ap (λ (x : List ℕ). take (s.end - (s.start + n)) (drop (s.start + n) x)) c.deref.ensures.value ∙ behind b p s.start s.end n pending room in
    some_behind p n c.in-Some.at c.requires.0 c.requires.1 (c.in-Some.ensures ∙ ap (position is_feed) slice)

pub returns-in-None : goal.returns-in-None
returns-in-None c =
    let s = c.self.inside in
    let b = s.bytes.items in
    let d = c.deref.result.now in
    let n = c.args.seen in
    let p = c.args.self.now.pending in
    let pending : take (s.end - s.start) (drop s.start b) ≡ p = ap (λ (r : Reading). r.pending) c.self.view_is in
    let room : s.start + n ≤ s.end = omega (arith, c.requires, c.self.invariant, ap length pending, length-take (s.end - s.start) (drop s.start b)) in
    let slice : take (s.end - (s.start + n)) (drop (s.start + n) d) ≡ drop n p =
    ap (λ (x : List ℕ). take (s.end - (s.start + n)) (drop (s.start + n) x)) c.deref.ensures.value ∙ behind b p s.start s.end n pending room in
    none_behind p n c.requires.0 c.requires.1 (c.in-None.ensures ∙ ap (position is_feed) slice)
