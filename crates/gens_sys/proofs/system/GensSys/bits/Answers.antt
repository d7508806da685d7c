use Rattle.gens_sys.proofs.system.GensSys.bits.Goals as goal

pub returns-clause-within : goal.returns-clause-within
returns-clause-within c = rw (← c.self.view_is) c.bits.ensures.within

pub returns-clause-least : goal.returns-clause-least
returns-clause-least c = rw (← c.self.view_is) c.bits.ensures.least
