use Rattle.std.proofs.Common.{[], rules}
use Rattle.cons_sys.specs.declared.kind.ConKind.TheVariants.{Eq}
use Rattle.cdd_text.specs.Written.{is_equality_constraint}
use Rattle.cdd_text.proofs.WrittenLaws.{mapped_next}
use Rattle.cdd_text.proofs.write.equalities.Goals as goal

pub loop-i-preserved : goal.loop-i-preserved
loop-i-preserved c = mapped_next is_equality_constraint c.args.cons.now.list c.loop-i.i ([], Eq) c.loop-i.marks.items c.push.new.self.items c.is_equality.result (search rules) c.loop-i.invariant (search rules) (search rules)
