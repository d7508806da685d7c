use Rattle.std.specs.Prelude.{false}
use Rattle.std.specs.Int.{w128}
use Rattle.std.proofs.lemmas.Int.{to_z-of_z}
use mir.Val.{SFits}
use Rattle.row_store.proofs.MarkedVectors.{pushed_seen, bits_pushed, HaveBits-upward}
use Rattle.row_store.proofs.vectors.VectorList.push_upward.Goals as goal

pub returns-clause-rows : goal.returns-clause-rows
returns-clause-rows c =
    let value_fits : SFits w128 c.args.value = c.ranges.value in
    pushed_seen c.self.inside.eq false c.self.inside.store c.args.self.now c.append_upward.new.store.rows _ c.self.view_is c.requires.rays (simp to_z-of_z at c.append_upward.ensures.rows)

pub invariant_of-self : goal.invariant_of-self
invariant_of-self c =
    let value_fits : SFits w128 c.args.value = c.ranges.value in
    bits_pushed c.self.inside.store.rows c.append_upward.new.store.rows _ c.self.inside.bits c.bits.result c.max-self-inside.result (simp to_z-of_z at c.append_upward.ensures.rows) c.max-self-inside.ensures c.self.invariant
    (HaveBits-upward c.bits.result c.args.value c.args.line.now c.bits.ensures.within)
