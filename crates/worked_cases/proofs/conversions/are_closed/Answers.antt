use Rattle.std.proofs.Common.{arith, refl, ℕ, ◌<◌, ◌≢◌, List, [], ◌∷◌, length}
use Rattle.std.specs.Prelude.{All, zero, suc}
use Rattle.cons_sys.specs.Constraints.{Constraint, kind_at}
use Rattle.cons_sys.specs.declared.kind.ConKind.{ConKind}
use Rattle.cons_sys.specs.declared.kind.ConKind.TheVariants.{Eq, Ge, Gt}
use Rattle.stored_systems.specs.PointSets.{IsClosedKind}
use Rattle.worked_cases.proofs.conversions.are_closed.Goals as goal

closed_kind : (kind : ConKind) → kind ≢ Gt → IsClosedKind kind
closed_kind Eq other = tt
closed_kind Ge other = tt
closed_kind Gt other = absurd (other refl)

none_strict : (list : List Constraint) → ((i : ℕ) → i < length list → kind_at list i ≢ Gt) → All (λ (c : Constraint). IsClosedKind c.1) list
none_strict [] others k d h = absurd (omega (arith, h))
none_strict (c ∷ list) others zero d h = closed_kind c.1 (others 0 (omega arith))
none_strict (c ∷ list) others (suc k) d h = none_strict list (λ i below. others (suc i) (omega (arith, below))) k d (omega (arith, h))

pub returns : goal.returns
returns c = (λ ended. none_strict c.args.cons.now.list (λ i below. c.loop-index.invariant i (omega (arith, below, c.len-index-end.ensures, c.loop-index-test.false))), λ closed. refl)
