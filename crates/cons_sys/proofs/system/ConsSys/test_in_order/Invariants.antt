use Rattle.cons_sys.specs.Testing.{Reaches}
use Rattle.cons_sys.proofs.system.ConsSys.test_in_order.Given as goal

abbrev pub invariant-loop-i : goal.invariant-loop-i
invariant-loop-i l = Reaches l.self.list l.v l.i
