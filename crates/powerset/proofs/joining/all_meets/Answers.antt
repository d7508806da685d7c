use Rattle.std.proofs.Common.{All, List, length, inl, inr, refl, sym, subst, arith}
use Rattle.std.proofs.lemmas.List.{take_all}
use Rattle.std.proofs.lemmas.Result.{err_from_is_err_and}
use Rattle.std.proofs.lemmas.Option.{slice_get_read}
use Rattle.lattice_ops.specs.Sequences.{begins, takes}
use Rattle.poly_pair.specs.Polyhedra.{Polyhedron, AreAlike}
use Rattle.powerset.specs.Joins.{AreMeets}
use Rattle.powerset.proofs.JoinLemmas.{no_pairs, all_more, row_leaves}
use Rattle.powerset.proofs.joining.all_meets.Goals as goal

pub returns-in_err-append_meets : goal.returns-in_err-append_meets
returns-in_err-append_meets g c =
    let p = err_from_is_err_and c.from_residual.result c.from_residual.ensures.1 in
    rw (p.1, p.2) (record {
      meets = tt;
      overflow = row_leaves c.index-first-index.result c.args.first.now c.args.second.now _ (c.loop-index.index, omega arith, sym c.index-first-index.is) c.in_err-append_meets.ensures.overflow;
      no_fewer = omega (arith, c.loop-index.invariant.no_fewer, c.in_err-append_meets.ensures.no_fewer);
      conversion = record {
        index = c.loop-index.index;
        within = omega arith;
        between = c.loop-index.steps;
        before = c.loop-index.invariant.counted;
        rest = inr (omega arith, record { one = c.index-first-index.result; listed = slice_get_read c.args.first.now (length c.args.first.now) c.loop-index.index c.index-first-index.result refl (omega arith) c.index-first-index.is; conversions = c.in_err-append_meets.ensures.conversion });
      };
    })

pub loop-index-preserved : goal.loop-index-preserved
loop-index-preserved g c = record {
  meets = all_more c.index-first-index.result c.args.first.now c.args.second.now c.loop-index.meets.items c.append_meets.new.meets.items c.loop-index.index (omega arith) c.index-first-index.is c.loop-index.invariant.meets c.in_ok-append_meets.ensures.meets;
  counted = takes c.loop-index.invariant.counted (record { one = c.index-first-index.result; listed = slice_get_read c.args.first.now (length c.args.first.now) c.loop-index.index c.index-first-index.result refl (omega arith) c.index-first-index.is; conversions = c.in_ok-append_meets.ensures.conversion });
  no_fewer = omega (arith, c.loop-index.invariant.no_fewer, c.in_ok-append_meets.ensures.no_fewer);
}

pub loop-index-init : goal.loop-index-init
loop-index-init g c = record { meets = no_pairs c.args.first.now c.args.second.now c.new-meets.result.items c.new-meets.ensures.items; counted = begins; no_fewer = omega arith }

pub append_meets-requires : goal.append_meets-requires
append_meets-requires g c =
    let one = c.index-first-index in
    subst (λ (p : Polyhedron). All (AreAlike p) c.args.second.now) (sym one.is) (c.requires c.loop-index.index one.result (omega arith))

pub returns : goal.returns
returns g c = record {
  meets = subst (λ (ps : List Polyhedron). AreMeets ps c.args.second.now c.loop-index.meets.items) (take_all c.loop-index.index c.args.first.now (omega arith)) c.loop-index.invariant.meets;
  overflow = tt;
  no_fewer = c.loop-index.invariant.no_fewer;
  conversion = record { index = c.loop-index.index; within = omega arith; between = c.loop-index.steps; before = c.loop-index.invariant.counted; rest = inl (refl, refl) };
}
