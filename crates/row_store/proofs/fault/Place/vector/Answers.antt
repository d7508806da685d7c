use Rattle.std.proofs.Common.{ℕ, ◌<◌, length, subst}
use Rattle.row_core.specs.Lists.{vectors}
use Rattle.row_store.specs.declared.fault.Part.{Part}
use Rattle.row_store.specs.Faults.{part_of}
use Rattle.row_core.proofs.RowListLemmas.{length-vectors}
use Rattle.row_store.proofs.fault.Place.vector.Goals as goal

pub row-requires-in-Rays : goal.row-requires-in-Rays
row-requires-in-Rays c =
    let P : Part → Type 0 = λ part. c.args.self.index < length (part_of (vectors c.args.lines.now.rows) (vectors c.args.rays.now.rows) part) in
    subst (λ (n : ℕ). c.args.self.index < n) (length-vectors c.args.rays.now.rows) (subst P c.in-Rays.is c.requires.place)

pub row-requires : goal.row-requires
row-requires c =
    let P : Part → Type 0 = λ part. c.args.self.index < length (part_of (vectors c.args.lines.now.rows) (vectors c.args.rays.now.rows) part) in
    subst (λ (n : ℕ). c.args.self.index < n) (length-vectors c.args.lines.now.rows) (subst P c.in-Lines.is c.requires.place)
