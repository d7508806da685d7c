use Rattle.std.proofs.Common.{[], refl, arith}
use Rattle.std.specs.Prelude.{All}
use Rattle.std.proofs.lemmas.List.Elements.{All-from_get_or}
use Rattle.cons_sys.specs.declared.kind.ConKind.TheVariants.{Eq}
use Rattle.set_laws.specs.Asking.{MeetsOn}
use Rattle.lattice_ops.proofs.containing.meets_others.Goals as goal

pub returns : goal.returns
returns c = (
  (λ t. All-from_get_or (λ x. All (MeetsOn x) c.args.q.now.gens.list) c.args.cons.now.list ([], Eq) (λ i h. c.loop-i.invariant i (omega (arith, h, c.loop-i-test.false, c.len-i-end.ensures)))),
  (λ all. refl),
)
