use Rattle.std.proofs.Common.{rules, ◌≡◌, List, ℤ, sym, subst}
use Rattle.gens_sys.specs.Kinds.{IsZeroDirection}
use Rattle.gens_sys.specs.declared.kind.GenKind.{GenKind}
use Rattle.gens_sys.specs.Generators.{Gains}
use Rattle.elapse.specs.Directions.{levelled, direction_kind, gained}
use Rattle.elapse.proofs.directions.push_direction.Goals as goal

pub returns-in-Ok-clause-list : goal.returns-in-Ok-clause-list
returns-in-Ok-clause-list c =
    let row : c.deref.result.now ≡ levelled c.args.directions.now.dim c.args.row.now = search rules in
    gained
    (λ z. let e = c.in-Ok.ensures.zero_vector.1 (subst (λ (k : GenKind). IsZeroDirection k c.deref.result.now) (sym c.direction_kind.ensures) (subst (IsZeroDirection (direction_kind c.args.kind)) (sym row) z)) in cc)
    (subst (Gains c.args.directions.now.list c.push.new.self.list (levelled c.args.directions.now.dim c.args.row.now)) c.direction_kind.ensures (subst (λ (v : List ℤ). Gains c.args.directions.now.list c.push.new.self.list v c.direction_kind.result) row c.in-Ok.ensures.list))
