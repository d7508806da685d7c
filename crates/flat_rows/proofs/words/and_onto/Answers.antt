use Rattle.std.proofs.Common.{◌<◌, List, ℕ, length, get_or, ap, arith}
use Rattle.flat_rows.specs.Flat.{Flat, entries_at}
use Rattle.flat_rows.proofs.WordRows.{anded_put}
use Rattle.flat_rows.proofs.words.and_onto.Goals as goal

pub loop-word-preserved : goal.loop-word-preserved
loop-word-preserved c =
    let old : Flat ℕ = c.args.rows.now in
    let k : ℕ = c.loop-word.word in
    let wide = c.width-word-end.ensures.rectangular in
    let in_to : k < length (entries_at old.rows c.args.to) = omega (arith, wide c.args.to c.requires.to, c.width-word-end.ensures.value, c.loop-word-test.true) in
    let in_from : k < length (entries_at old.rows c.args.from) = omega (arith, wide c.args.from c.requires.from, c.width-word-end.ensures.value, c.loop-word-test.true) in
    anded_put k c.args.to c.args.from old c.loop-word.rows c.put.new.self _ _ c.loop-word.invariant c.put.ensures c.requires.to c.requires.from c.requires.other in_to in_from
    (ap (λ (r : List ℕ). get_or r k 0) c.row.ensures.value) (ap (λ (r : List ℕ). get_or r k 0) c.row-in-loop-word.ensures.value)
