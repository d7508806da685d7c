use Rattle.std.specs.Prelude.{◌≡◌, List, ℤ, length}
use Rattle.std.specs.Int.{w128}
use Rattle.std.proofs.Common.{refl, sym, subst, to_z, of_z}
use Rattle.std.proofs.lemmas.Int.{to_z-of_z}
use Rattle.std.proofs.lemmas.Result.{err_from_is_err_and}
use Rattle.row_core.specs.Vectors.{scale, add}
use Rattle.row_core.specs.Range.{CombineStays, AllStay}
use Rattle.row_core.proofs.linear.combine_into.Goals as goal

pub returns-in_err-check_combination-clause-combined :
    goal.returns-in_err-check_combination-clause-combined
returns-in_err-check_combination-clause-combined g c =
    let p = err_from_is_err_and c.from_residual.result c.from_residual.ensures.1 in
    rw (p.1, p.2) (
      refl,
      rw (to_z-of_z w128 c.args.s c.ranges.s, to_z-of_z w128 c.args.t c.ranges.t) at
          c.in_err-check_combination.ensures,
    )

pub returns-in_err-check_combination-clause-in_range :
    goal.returns-in_err-check_combination-clause-in_range
returns-in_err-check_combination-clause-in_range g c =
    let p = err_from_is_err_and c.from_residual.result c.from_residual.ensures.1 in
    rw p.1 tt

pub write_onto-requires-clause-stays : goal.write_onto-requires-clause-stays
write_onto-requires-clause-stays g c =
    subst (λ (w : List ℤ). AllStay (CombineStays w (to_z w128 (of_z w128 c.args.s)) c.args.v.now (to_z w128 (of_z w128 c.args.t))) (length w)) (sym c.copy_from_slice.ensures.after)
    c.in_ok-check_combination.ensures

pub returns-clause-combined : goal.returns-clause-combined
returns-clause-combined g c =
    let s = to_z-of_z w128 c.args.s c.ranges.s in
    let t = to_z-of_z w128 c.args.t c.ranges.t in (
      subst (λ (w : List ℤ). c.write_onto.new.dst ≡ add (scale c.args.s w) (scale c.args.t c.args.v.now)) c.copy_from_slice.ensures.after
          (rw (s, t) at c.write_onto.ensures.combined),
      rw (s, t) at c.in_ok-check_combination.ensures,
    )
