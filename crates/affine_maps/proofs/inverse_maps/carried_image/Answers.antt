use Rattle.std.proofs.Common.{inl, inr, refl, pos, ◌<◌, length, unsigned_abs, sym, subst, ap, arith}
use Rattle.std.specs.Prelude.{IfSome}
use Rattle.std.proofs.lemmas.Option.{IfSome_then}
use Rattle.std.specs.Int.{w128}
use Rattle.std.proofs.lemmas.Result.{IfOk-weaker, err_from_is_err_and}
use Rattle.std.proofs.lemmas.Int.{to_z-of_z}
use Rattle.row_core.specs.Vectors.{cell}
use Rattle.row_core.specs.Range.{AllInRange, InRange}
use Rattle.cons_sys.specs.Constraints.{Constraints, FitDimension as FitConstraints}
use Rattle.gens_sys.specs.Generators.{FitDimension}
use Rattle.poly_pair.specs.declared.topology.Topology.{Topology}
use Rattle.poly_pair.specs.Polyhedra.{IsOfGenerators}
use Rattle.poly_pair.specs.Parts.{AreStoredOfGenerators}
use Rattle.poly_pair.specs.DoubleDescriptions.{IsOfBoth}
use Rattle.affine_maps.specs.CarriedPairs.{CanBeCarried}
use Rattle.affine_maps.proofs.PairConversions.{pullback_of}
use Rattle.affine_maps.proofs.CarriedImages.{image_pair, machine_in_range, machine_inverse, machine_negated, machine_pulled, machine_turned}
use Rattle.affine_maps.proofs.inverse_maps.carried_image.Goals as goal

pub preimage_constraints-requires : goal.preimage_constraints-requires
preimage_constraints-requires g c = record {
  var = subst (λ (cs : Constraints). c.args.var < cs.dim) (sym c.cons-rows.ensures.value) c.requires.var;
  wide = omega (arith, ap length c.deref.ensures.value, c.in_ok-row.ensures.row.wide, c.requires.wide, ap (λ (cs : Constraints). cs.dim) c.cons-rows.ensures.value);
  expr_in_range = subst AllInRange (sym c.deref.ensures.value) c.in_ok-row.ensures.in_range;
  den_in_range = machine_in_range (cell c.args.expr.now c.args.var) c.abs.result (c.requires.in_range c.args.var (pos 0) (omega (arith, c.requires.wide, c.requires.var))) c.abs.ensures.value;
}

pub from_carried-requires-clause-pair : goal.from_carried-requires-clause-pair
from_carried-requires-clause-pair g c =
    let p = c.args.p.now in
    let part = cell c.args.expr.now c.args.var in
    let can : CanBeCarried p part = c.if-not-can_be_carried.ensures in
    let r : InRange part = c.requires.in_range c.args.var (pos 0) (omega (arith, c.requires.wide, c.requires.var)) in
    image_pair p c.dim-dim.ensures.kept (subst FitDimension c.gens.ensures.value c.dim-vectors.ensures.rows) (subst FitConstraints c.cons-rows.ensures.value c.in-Ok.ensures.fit) c.args.var c.requires.var c.args.expr.now c.deref.result.now c.args.den (pos (unsigned_abs part)) c.requires.wide c.requires.positive
    (machine_inverse c.args.var c.args.expr.now c.args.den (pos (unsigned_abs part)) c.in_ok-row.row.items c.deref.result.now (to_z-of_z w128 c.args.den c.ranges.den) c.deref.ensures.value c.in_ok-row.ensures.row) can c.args.gens.now c.dim-mapped.ensures.rows c.requires.mapped c.in-Ok.cons
    (machine_pulled p c.args.var part c.abs.result c.deref.result.now c.cons-rows.result.now c.in-Ok.cons r c.abs.ensures.value c.cons-rows.ensures.value c.in-Ok.ensures.system) c.zeros.result.now c.zeros.ensures.table

pub returns-clause-points : goal.returns-clause-points
returns-clause-points g c =
    let can : CanBeCarried c.args.p.now (cell c.args.expr.now c.args.var) = c.if-not-can_be_carried.ensures in
    let gs = c.args.gens.now in
    IfOk-weaker c.from_carried.result (λ found. IfSome found (IsOfBoth c.in-Ok.cons gs)) (λ found. IfSome found (IsOfGenerators c.args.p.now.topology gs))
    (λ found h. IfSome_then found h (λ q o. subst (λ (t : Topology). IsOfGenerators t gs q) (sym can.start.closed) o.generators)) c.from_carried.ensures.both

pub returns-clause-stored : goal.returns-clause-stored
returns-clause-stored g c =
    let can : CanBeCarried c.args.p.now (cell c.args.expr.now c.args.var) = c.if-not-can_be_carried.ensures in
    let gs = c.args.gens.now in
    IfOk-weaker c.from_carried.result (λ found. IfSome found (IsOfBoth c.in-Ok.cons gs)) (λ found. IfSome found (AreStoredOfGenerators c.args.p.now.topology gs))
    (λ found h. IfSome_then found h (λ q o. subst (λ (t : Topology). AreStoredOfGenerators t gs q) (sym can.start.closed) o.stored_of_generators)) c.from_carried.ensures.both

pub inverse_row-requires : goal.inverse_row-requires
inverse_row-requires g c =
    let can : CanBeCarried c.args.p.now (cell c.args.expr.now c.args.var) = c.if-not-can_be_carried.ensures in
    record {
      var = omega (arith, c.requires.var, c.requires.wide);
      narrow = omega (arith, c.requires.wide, c.dim-dim.ensures.value, c.dim-dim.ensures.narrow);
      part = can.part_is;
      in_range = c.requires.in_range;
      den_in_range = subst InRange (sym (to_z-of_z w128 c.args.den c.ranges.den)) c.requires.den_in_range;
    }

pub returns-in_err-row : goal.returns-in_err-row
returns-in_err-row g c =
    let p = err_from_is_err_and c.from_residual.result c.from_residual.ensures.1 in
    rw p.1 (record { points = tt; stored = tt; conversion = inr (inr (record { no_fewer = omega arith; counted = omega arith }, refl)) })

pub from_carried-requires-clause-narrow : goal.from_carried-requires-clause-narrow
from_carried-requires-clause-narrow g c = omega (arith, c.in-Ok.ensures.system.same_dim, ap (λ (cs : Constraints). cs.dim) c.cons-rows.ensures.value, c.dim-dim.ensures.value, c.dim-dim.ensures.narrow)

pub abs-requires : goal.abs-requires
abs-requires g c = machine_negated (cell c.args.expr.now c.args.var) (c.requires.in_range c.args.var (pos 0) (omega (arith, c.requires.wide, c.requires.var)))

pub returns-clause-conversion : goal.returns-clause-conversion
returns-clause-conversion g c =
    let p = c.args.p.now in
    let part = cell c.args.expr.now c.args.var in
    let r : InRange part = c.requires.in_range c.args.var (pos 0) (omega (arith, c.requires.wide, c.requires.var)) in
    inl (record {
      can = c.if-not-can_be_carried.ensures;
      row = c.deref.result.now;
      inverse = machine_inverse c.args.var c.args.expr.now c.args.den (pos (unsigned_abs part)) c.in_ok-row.row.items c.deref.result.now (to_z-of_z w128 c.args.den c.ranges.den) c.deref.ensures.value c.in_ok-row.ensures.row;
      turned = inl (record {
        between = c.preimage_constraints.new.steps;
        pullback = pullback_of p c.cons-rows.result.now c.args.steps.now c.preimage_constraints.new.steps c.cons-rows.ensures.value c.preimage_constraints.ensures.no_fewer c.preimage_constraints.ensures.counted;
        system = c.in-Ok.cons;
        pulled = machine_pulled p c.args.var part c.abs.result c.deref.result.now c.cons-rows.result.now c.in-Ok.cons r c.abs.ensures.value c.cons-rows.ensures.value c.in-Ok.ensures.system;
        conversion = c.from_carried.ensures.conversion;
      });
    })

pub returns-in-Err-Overflow-clause-conversion : goal.returns-in-Err-Overflow-clause-conversion
returns-in-Err-Overflow-clause-conversion g c =
    let p = c.args.p.now in
    let part = cell c.args.expr.now c.args.var in
    let r : InRange part = c.requires.in_range c.args.var (pos 0) (omega (arith, c.requires.wide, c.requires.var)) in
    inl (record {
      can = c.if-not-can_be_carried.ensures;
      row = c.deref.result.now;
      inverse = machine_inverse c.args.var c.args.expr.now c.args.den (pos (unsigned_abs part)) c.in_ok-row.row.items c.deref.result.now (to_z-of_z w128 c.args.den c.ranges.den) c.deref.ensures.value c.in_ok-row.ensures.row;
      turned = inr (record {
        pullback = pullback_of p c.cons-rows.result.now c.args.steps.now c.preimage_constraints.new.steps c.cons-rows.ensures.value c.preimage_constraints.ensures.no_fewer c.preimage_constraints.ensures.counted;
        leaves = machine_turned p c.args.var part c.abs.result c.deref.result.now c.cons-rows.result.now c.in-Err-Overflow.field-0 c.in-Err-Overflow.field-0-0 r c.abs.ensures.value c.cons-rows.ensures.value c.in-Err-Overflow.field-0-is c.in-Err-Overflow.ensures.overflow;
        none = refl;
      });
    })

pub returns-in-Err-Memory-clause-conversion : goal.returns-in-Err-Memory-clause-conversion
returns-in-Err-Memory-clause-conversion g c = inr (inr (pullback_of c.args.p.now c.cons-rows.result.now c.args.steps.now c.preimage_constraints.new.steps c.cons-rows.ensures.value c.preimage_constraints.ensures.no_fewer c.preimage_constraints.ensures.counted, refl))

pub returns-then-not-can_be_carried-clause-conversion : goal.returns-then-not-can_be_carried-clause-conversion
returns-then-not-can_be_carried-clause-conversion g c = inr (inl (c.if-not-can_be_carried.ensures, (refl, refl)))
