use Rattle.std.proofs.Common.{[], rules}
use Rattle.gens_sys.specs.declared.kind.GenKind.TheVariants.{Line}
use Rattle.cdd_text.specs.Written.{is_line_generator}
use Rattle.cdd_text.proofs.WrittenLaws.{mapped_next}
use Rattle.cdd_text.proofs.write.lines.Goals as goal

pub loop-i-preserved : goal.loop-i-preserved
loop-i-preserved c = mapped_next is_line_generator c.args.gens.now.list c.loop-i.i ([], Line) c.loop-i.marks.items c.push.new.self.items c.is_line.result (search rules) c.loop-i.invariant (search rules) (search rules)
