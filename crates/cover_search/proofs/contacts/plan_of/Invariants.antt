use Rattle.cover_search.specs.Parts.{IsPlan}
use Rattle.cover_search.proofs.contacts.plan_of.Given as goal

abbrev pub invariant-loop-place : goal.invariant-loop-place
invariant-loop-place l = IsPlan l.systems l.region l.numbers l.place l.plan
