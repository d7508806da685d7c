use Rattle.std.proofs.Common.{◌≡◌, ℕ, ◌<◌, length, map, arith, ◌≤◌, ◌∷◌, [], ◌++◌, drop, rules}
use Rattle.std.proofs.lemmas.List.Elements.{All-nil}
use Rattle.cdd_reading.specs.Tokens.{tokens}
use Rattle.plain_text.specs.Digits.{number}
use Rattle.cdd_reading.proofs.MarkLaws.{no_marks, one_marked, not_named, all_marked, marks_length}
use Rattle.cdd_reading.proofs.ListLaws.{one_further}
use Rattle.cdd_reading.proofs.marks.read_marks.Goals as goal

pub loop-index-init : goal.loop-index-init
loop-index-init c = record { done = ([], search rules, All-nil (λ (i : ℕ). (0 < i) × (i ≤ c.args.rows)), search (rules, no_marks)) }

pub loop-index-preserved : goal.loop-index-preserved
loop-index-preserved c =
    let i = c.loop-index.invariant.done in
    let s = c.in-Some in
    let more = one_marked i.0 s.index.now c.args.rows c.in-Some-place_of.place c.loop-index.marks.items i.2 i.3 (search rules) (search rules) in
    record { done = (i.0 ++ s.index.now ∷ [], one_further i.0 s.index.now (tokens c.loop-index.rest.now) (tokens s.behind.now) (drop 2 (tokens c.args.linearity.now)) i.1 (search rules), more.0, more.1) }

pub index_mut-requires : goal.index_mut-requires
index_mut-requires c =
    let i = c.loop-index.invariant.done in
    let n : length c.loop-index.marks.items ≡ c.args.rows = marks_length (map number i.0) c.args.rows c.loop-index.marks.items i.3 in
    let p : c.in-Some-place_of.place < c.args.rows = search rules in
    omega (arith, c.loop-index.marks.ok)

pub returns-in_default-place_of : goal.returns-in_default-place_of
returns-in_default-place_of c =
    let i = c.loop-index.invariant.done in
    not_named (drop 2 (tokens c.args.linearity.now)) i.0 (tokens c.loop-index.rest.now) (tokens c.in-Some.behind.now) c.in-Some.index.now c.args.rows i.1 (search rules) (search rules)

pub returns : goal.returns
returns c =
    let i = c.loop-index.invariant.done in
    all_marked (drop 2 (tokens c.args.linearity.now)) i.0 (tokens c.loop-index.rest.now) c.args.rows c.loop-index.marks.items i.1 (search rules) i.2 i.3
