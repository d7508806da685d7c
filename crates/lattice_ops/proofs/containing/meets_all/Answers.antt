use Rattle.std.proofs.Common.{◌≡◌, [], rules, arith, subst, below_more}
use Rattle.std.specs.Prelude.{IsTrue, max}
use Rattle.std.proofs.lemmas.Bool.Decides.{nat_tests}
use Rattle.row_core.specs.Sizes.{HaveBits}
use Rattle.row_core.proofs.SizeLemmas.{HaveBits-more}
use Rattle.cons_sys.specs.declared.kind.ConKind.TheVariants.{Eq}
use Rattle.cons_sys.specs.Constraints.{constraint_at}
use Rattle.gens_sys.specs.Generators.{generator_at}
use Rattle.lattice_ops.specs.Questions.{Passes}
use Rattle.lattice_ops.proofs.PairAnswers.{passes_at}
use Rattle.lattice_ops.proofs.containing.meets_all.Goals as goal

pub loop-i-preserved : goal.loop-i-preserved
loop-i-preserved c =
    let passes : IsTrue c.in_ok-meets_one.field-0 = search rules in
    below_more (Passes c.args.cons.now.list c.args.gens.now.list c.args.j) c.loop-i.i c.loop-i.invariant
    (passes_at c.args.cons.now.list c.args.gens.now.list c.args.turned c.args.j c.loop-i.i c.in_ok-meets_one.field-0 passes c.in_ok-meets_one.ensures)

pub meets_one-requires-clause-row : goal.meets_one-requires-clause-row
meets_one-requires-clause-row c =
    let most : c.max-both.result ≡ max c.args.within c.bits.result = grind (arith, nat_tests, c.max-both.ensures) in
    HaveBits-more c.args.within c.max-both.result (constraint_at c.args.cons.now.list c.loop-i.i).0 (omega (arith, most))
    (c.requires.within c.loop-i.i ([], Eq) (omega arith))

pub meets_one-requires-clause-other : goal.meets_one-requires-clause-other
meets_one-requires-clause-other c =
    let most : c.max-both.result ≡ max c.args.within c.bits.result = grind (arith, nat_tests, c.max-both.ensures) in
    HaveBits-more c.bits.result c.max-both.result (generator_at c.args.gens.now.list c.args.j).0 (omega (arith, most))
    (subst (HaveBits c.bits.result) c.row.ensures.value c.bits.ensures.within)
