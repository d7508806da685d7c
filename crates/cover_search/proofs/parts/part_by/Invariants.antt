use Rattle.cover_search.specs.Parts.{IsPartedBy}
use Rattle.cover_search.specs.Conversions.{AreCountedRests}
use Rattle.cover_search.proofs.parts.part_by.Given as goal

abbrev pub invariant-loop-index : goal.invariant-loop-index
invariant-loop-index g l = record {
  parted : IsPartedBy l.walls l.index l.fn.region l.numbers l.initial.pending.items l.pending.items l.rest;
  counted : AreCountedRests l.walls l.numbers l.fn.region l.initial.pending.items l.initial.steps l.index l.pending.items l.rest l.steps;
}
