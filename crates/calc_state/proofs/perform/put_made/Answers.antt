use Rattle.std.proofs.Common.{refl}
use Rattle.calc_state.specs.declared.entry.Entry.TheVariants as entry
use Rattle.fixpoint.specs.Commands.{system}
use Rattle.hybrid.specs.Commands.{hybrid}
use Rattle.calc_state.specs.Table.{as_poly, as_system, as_powerset, as_shape, as_hybrid}
use Rattle.calc_state.specs.Meanings.{made_poly, made_powerset, made_shape, put_under}
use Rattle.line_values.proofs.EffectLemmas.{performed_as, put_none, put_one}
use Rattle.calc_state.proofs.perform.put_made.Goals as goal

pub make_poly-requires : goal.make_poly-requires
make_poly-requires g c = rw c.in-Poly.is at c.requires

pub make_shape-requires : goal.make_shape-requires
make_shape-requires g c = rw c.in-Shape.is at c.requires

pub returns-in-Poly : goal.returns-in-Poly
returns-in-Poly g c = performed_as (put_under c.args.names.now c.args.out) c.args.made _ c.put_poly.result c.in-Poly.is (put_none entry.Poly as_poly (λ x. refl) c.args.out (λ b. made_poly c.args.names.now b c.in-Poly.by) c.make_poly.result c.is_full-full.ensures c.put_poly.ensures c.make_poly.ensures)

pub returns-in-System : goal.returns-in-System
returns-in-System g c = performed_as (put_under c.args.names.now c.args.out) c.args.made _ c.put_system.result c.in-System.is (put_none entry.System as_system (λ x. refl) c.args.out (λ b. system b c.in-System.n c.in-System.locations) c.system.result c.is_full-full.ensures c.put_system.ensures c.system.ensures)

pub returns-in-Powerset : goal.returns-in-Powerset
returns-in-Powerset g c = performed_as (put_under c.args.names.now c.args.out) c.args.made _ c.put_powerset.result c.in-Powerset.is (put_none entry.Powerset as_powerset (λ x. refl) c.args.out (λ b. made_powerset c.args.names.now b c.in-Powerset.by) c.make_powerset.result c.is_full-full.ensures c.put_powerset.ensures c.make_powerset.ensures)

pub returns-in-Shape : goal.returns-in-Shape
returns-in-Shape g c = performed_as (put_under c.args.names.now c.args.out) c.args.made _ c.put_shape.result c.in-Shape.is (put_none entry.Shape as_shape (λ x. refl) c.args.out (λ b. made_shape c.args.names.now b c.in-Shape.by) c.make_shape.result c.is_full-full.ensures c.put_shape.ensures c.make_shape.ensures)

pub returns-in-Hybrid : goal.returns-in-Hybrid
returns-in-Hybrid g c = performed_as (put_under c.args.names.now c.args.out) c.args.made _ c.put_hybrid.result c.in-Hybrid.is (put_one entry.Hybrid as_hybrid (λ x. refl) c.args.out hybrid c.hybrid.result c.is_full-full.ensures c.system_at.ensures c.put_hybrid.ensures c.hybrid.ensures)
