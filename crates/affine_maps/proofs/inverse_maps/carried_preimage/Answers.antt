use Rattle.std.proofs.Common.{inl, inr, refl, pos, length, unsigned_abs, sym, subst, ap, arith}
use Rattle.std.specs.Prelude.{IfSome}
use Rattle.std.proofs.lemmas.Option.{IfSome_then}
use Rattle.std.specs.Int.{w128}
use Rattle.std.proofs.lemmas.Result.{IfOk-weaker, err_from_is_err_and}
use Rattle.std.proofs.lemmas.Int.{to_z-of_z}
use Rattle.row_core.specs.Vectors.{cell}
use Rattle.row_core.specs.Range.{AllInRange, InRange}
use Rattle.cons_sys.specs.Constraints.{FitDimension as FitConstraints}
use Rattle.gens_sys.specs.Generators.{Generators, FitDimension}
use Rattle.poly_pair.specs.declared.topology.Topology.{Topology}
use Rattle.poly_pair.specs.Polyhedra.{IsOfConstraints}
use Rattle.poly_pair.specs.Parts.{AreStoredOfRows}
use Rattle.poly_pair.specs.TopologyLists.{constraints_of}
use Rattle.poly_pair.specs.DoubleDescriptions.{IsOfBoth}
use Rattle.affine_maps.specs.CarriedPairs.{CanBeCarried}
use Rattle.affine_maps.proofs.CarriedImages.{preimage_pair, machine_in_range, machine_positive, machine_inverse, machine_mapped, machine_left, machine_negated}
use Rattle.affine_maps.proofs.inverse_maps.carried_preimage.Goals as goal

pub image_generators-requires : goal.image_generators-requires
image_generators-requires g c =
    let part = cell c.args.expr.now c.args.var in
    let r : InRange part = c.requires.in_range c.args.var (pos 0) (omega (arith, c.requires.wide, c.requires.var)) in
    record {
      var = omega (arith, ap (λ (gs : Generators). gs.dim) c.gens.ensures.value, c.dim-dim.ensures.value, c.dim-dim.ensures.gens, c.requires.var);
      wide = omega (arith, ap length c.deref.ensures.value, c.in_ok-row.ensures.row.wide, c.requires.wide, c.dim-dim.ensures.value, c.dim-dim.ensures.gens, ap (λ (gs : Generators). gs.dim) c.gens.ensures.value);
      expr_in_range = subst AllInRange (sym c.deref.ensures.value) c.in_ok-row.ensures.in_range;
      den_in_range = machine_in_range part c.abs.result r c.abs.ensures.value;
      positive = machine_positive part c.abs.result r c.abs.ensures.value c.in_ok-row.ensures.row.positive;
    }

pub from_carried-requires-clause-pair : goal.from_carried-requires-clause-pair
from_carried-requires-clause-pair g c =
    let p = c.args.p.now in
    let part = cell c.args.expr.now c.args.var in
    let can : CanBeCarried p part = c.if-not-can_be_carried.ensures in
    let r : InRange part = c.requires.in_range c.args.var (pos 0) (omega (arith, c.requires.wide, c.requires.var)) in
    preimage_pair p c.dim-dim.ensures.kept (subst FitDimension c.gens.ensures.value c.in-Ok.ensures.fit) (subst FitConstraints c.cons.ensures.value c.dim-rows.ensures.rows) c.args.var c.requires.var c.args.expr.now c.deref.result.now c.args.den (pos (unsigned_abs part)) c.requires.wide c.requires.positive
    (machine_inverse c.args.var c.args.expr.now c.args.den (pos (unsigned_abs part)) c.in_ok-row.row.items c.deref.result.now (to_z-of_z w128 c.args.den c.ranges.den) c.deref.ensures.value c.in_ok-row.ensures.row) can c.in-Ok.gens c.dim-mapped.ensures.rows
    (machine_mapped p c.args.var part c.abs.result c.deref.result.now c.gens.result.now c.in-Ok.gens r c.abs.ensures.value c.gens.ensures.value c.dim-dim.ensures.kept c.in-Ok.ensures.system) c.args.cons.now c.requires.pulled c.zeros.result.now c.zeros.ensures.table

pub returns-clause-points : goal.returns-clause-points
returns-clause-points g c =
    let can : CanBeCarried c.args.p.now (cell c.args.expr.now c.args.var) = c.if-not-can_be_carried.ensures in
    let cs = c.args.cons.now in
    IfOk-weaker c.from_carried.result (λ found. IfSome found (IsOfBoth cs c.in-Ok.gens)) (λ found. IfSome found (IsOfConstraints c.args.p.now.topology cs))
    (λ found h. IfSome_then found h (λ q o. subst (λ (t : Topology). IsOfConstraints t cs q) (sym can.start.closed) o.constraints)) c.from_carried.ensures.both

pub returns-clause-stored : goal.returns-clause-stored
returns-clause-stored g c =
    let can : CanBeCarried c.args.p.now (cell c.args.expr.now c.args.var) = c.if-not-can_be_carried.ensures in
    let cs = c.args.cons.now in
    let t = c.args.p.now.topology in
    IfOk-weaker c.from_carried.result (λ found. IfSome found (IsOfBoth cs c.in-Ok.gens)) (λ found. IfSome found (AreStoredOfRows t cs.dim (constraints_of t cs)))
    (λ found h. IfSome_then found h (λ q o. subst (λ (x : Topology). AreStoredOfRows x cs.dim (constraints_of x cs) q) (sym can.start.closed) o.stored_of_constraints)) c.from_carried.ensures.both

pub inverse_row-requires : goal.inverse_row-requires
inverse_row-requires g c =
    let can : CanBeCarried c.args.p.now (cell c.args.expr.now c.args.var) = c.if-not-can_be_carried.ensures in
    record {
      var = omega (arith, c.requires.var, c.requires.wide);
      narrow = omega (arith, c.requires.wide, c.dim-dim.ensures.value, c.dim-dim.ensures.narrow);
      part = can.part_is;
      in_range = c.requires.in_range;
      den_in_range = subst InRange (sym (to_z-of_z w128 c.args.den c.ranges.den)) c.requires.den_in_range;
    }

pub returns-in_err-row : goal.returns-in_err-row
returns-in_err-row g c =
    let p = err_from_is_err_and c.from_residual.result c.from_residual.ensures.1 in
    rw p.1 (record { points = tt; stored = tt; conversion = inr (inr (refl, refl)) })

pub from_carried-requires-clause-narrow : goal.from_carried-requires-clause-narrow
from_carried-requires-clause-narrow g c = omega (arith, c.requires.pulled.same_dim, c.dim-dim.ensures.value, c.dim-dim.ensures.narrow)

pub returns-clause-conversion : goal.returns-clause-conversion
returns-clause-conversion g c =
    let p = c.args.p.now in
    let part = cell c.args.expr.now c.args.var in
    let r : InRange part = c.requires.in_range c.args.var (pos 0) (omega (arith, c.requires.wide, c.requires.var)) in
    inl (record {
      can = c.if-not-can_be_carried.ensures;
      row = c.deref.result.now;
      inverse = machine_inverse c.args.var c.args.expr.now c.args.den (pos (unsigned_abs part)) c.in_ok-row.row.items c.deref.result.now (to_z-of_z w128 c.args.den c.ranges.den) c.deref.ensures.value c.in_ok-row.ensures.row;
      mapped = inl (record {
        system = c.in-Ok.gens;
        mapped = machine_mapped p c.args.var part c.abs.result c.deref.result.now c.gens.result.now c.in-Ok.gens r c.abs.ensures.value c.gens.ensures.value c.dim-dim.ensures.kept c.in-Ok.ensures.system;
        conversion = c.from_carried.ensures.conversion;
      });
    })

pub returns-in-Err-Overflow-clause-conversion : goal.returns-in-Err-Overflow-clause-conversion
returns-in-Err-Overflow-clause-conversion g c =
    let p = c.args.p.now in
    let part = cell c.args.expr.now c.args.var in
    let r : InRange part = c.requires.in_range c.args.var (pos 0) (omega (arith, c.requires.wide, c.requires.var)) in
    inl (record {
      can = c.if-not-can_be_carried.ensures;
      row = c.deref.result.now;
      inverse = machine_inverse c.args.var c.args.expr.now c.args.den (pos (unsigned_abs part)) c.in_ok-row.row.items c.deref.result.now (to_z-of_z w128 c.args.den c.ranges.den) c.deref.ensures.value c.in_ok-row.ensures.row;
      mapped = inr (machine_left p c.args.var part c.abs.result c.deref.result.now c.gens.result.now c.in-Err-Overflow.field-0 c.in-Err-Overflow.field-0-0 r c.abs.ensures.value c.gens.ensures.value c.in-Err-Overflow.field-0-is c.in-Err-Overflow.ensures.overflow, (refl, refl));
    })

pub returns-in-Err-Memory-clause-conversion : goal.returns-in-Err-Memory-clause-conversion
returns-in-Err-Memory-clause-conversion g c = inr (inr (refl, refl))

pub returns-then-not-can_be_carried-clause-conversion : goal.returns-then-not-can_be_carried-clause-conversion
returns-then-not-can_be_carried-clause-conversion g c = inr (inl (c.if-not-can_be_carried.ensures, (refl, refl)))

pub abs-requires : goal.abs-requires
abs-requires g c = machine_negated (cell c.args.expr.now c.args.var) (c.requires.in_range c.args.var (pos 0) (omega (arith, c.requires.wide, c.requires.var)))
