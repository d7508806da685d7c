use Rattle.std.proofs.Common.{ap}
use Rattle.std.specs.Option.{option_copied}
use Rattle.poly_questions.specs.Lattice.{compared}
use Rattle.line_values.proofs.FoundOperands.{on_two_as}
use Rattle.poly_questions.proofs.lattice.compare.Goals as goal

pub returns-in-Contains : goal.returns-in-Contains
returns-in-Contains g c = on_two_as compared c.args.by _ (option_copied c.args.p) (option_copied c.args.q) c.in-Some.p.now c.in-Some-q.q.now c.contains.result (ap option_copied c.in-Some.is) (ap option_copied c.in-Some-q.is) c.in-Contains.is c.contains.ensures

pub returns-in-Equal : goal.returns-in-Equal
returns-in-Equal g c = on_two_as compared c.args.by _ (option_copied c.args.p) (option_copied c.args.q) c.in-Some.p.now c.in-Some-q.q.now c.equal.result (ap option_copied c.in-Some.is) (ap option_copied c.in-Some-q.is) c.in-Equal.is c.equal.ensures

pub returns-in-Disjoint : goal.returns-in-Disjoint
returns-in-Disjoint g c = on_two_as compared c.args.by _ (option_copied c.args.p) (option_copied c.args.q) c.in-Some.p.now c.in-Some-q.q.now c.disjoint.result (ap option_copied c.in-Some.is) (ap option_copied c.in-Some-q.is) c.in-Disjoint.is c.disjoint.ensures
