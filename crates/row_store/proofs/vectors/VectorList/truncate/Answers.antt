use Rattle.std.specs.Prelude.{List, ℤ, All}
use Rattle.std.proofs.Common.{sym, ap, subst, ◌∙◌, arith, take}
use Rattle.std.proofs.lemmas.List.{take-map}
use Rattle.std.proofs.lemmas.List.Elements.{All-take}
use Rattle.flat_rows.specs.Flat.{Flat}
use Rattle.row_core.specs.Lists.{Row}
use Rattle.row_core.specs.Sizes.{HaveBits}
use Rattle.row_store.specs.Vectors.{Vectors}
use Rattle.row_store.proofs.MarkedVectors.{seen_vectors, seen_count}
use Rattle.row_store.proofs.vectors.VectorList.truncate.Goals as goal

pub truncate-requires : goal.truncate-requires
truncate-requires c = omega (arith, c.requires, seen_count c.self.inside.eq c.self.inside.store c.args.self.now c.self.view_is)

pub returns : goal.returns
returns c =
    let R : List Row → Vectors = λ rows. record { width = c.self.inside.store.width; rows = rows; spare = c.self.inside.store.spare } in
    let T : Vectors → Vectors = λ l. record l { rows = take c.args.count l.rows } in
    ap (seen_vectors c.self.inside.eq) c.truncate.ensures ∙ ap R (sym (take-map (λ (v : List ℤ). (v, c.self.inside.eq)) c.args.count c.self.inside.store.rows)) ∙ ap T c.self.view_is

pub invariant_of-self : goal.invariant_of-self
invariant_of-self c = subst (All (HaveBits c.self.inside.bits)) (sym (ap (λ (t : Flat ℤ). t.rows) c.truncate.ensures)) (All-take (HaveBits c.self.inside.bits) c.args.count c.self.inside.store.rows c.self.invariant)
