use Rattle.std.proofs.Common.{ℕ, slice_index_or, arith, ap, subst, below_more}
use Rattle.std.proofs.lemmas.List.{get_or_default}
use Rattle.sat_matrix.specs.Tables.{bits_of, IsWithinSome}
use Rattle.sat_matrix.specs.Counts.{ones}
use Rattle.minimise.specs.declared.facets.CountedRow.{CountedRow}
use Rattle.minimise.proofs.facets.leaders.Goals as goal

pub loop-index-preserved : goal.loop-index-preserved
loop-index-preserved c =
    let inv = c.loop-index.invariant in
    let rows = c.args.table.now.rows in
    let ranked = c.args.ranked.now in
    let index = c.loop-index.index in
    let first : CountedRow = record { ones = 0; place = 0 } in
    record {
      uneven = c.in_ok-push_leader.ensures.uneven;
      apart = c.in_ok-push_leader.ensures.apart;
      longer = λ q e h j d a b.
          let at = (c.requires.counted index d c.loop-index-test.true).1 in
          let same = ap (λ (row : CountedRow). ones (bits_of c.args.table.now.rows row.place)) (get_or_default ranked index d first c.loop-index-test.true) in
          omega (arith, c.in_ok-push_leader.ensures.no_longer q e h, at, same, c.requires.falling index j d (omega (arith, a)) b);
      led = λ j d h.
          below_more (λ (m : ℕ). (x : CountedRow) → IsWithinSome c.args.table.now.rows (slice_index_or c.args.ranked.now m x).place c.push_leader.new.places.items) index
          (λ m l x. c.in_ok-push_leader.ensures.others (slice_index_or ranked m x).place (inv.led m x l))
          (λ x. subst (λ (row : CountedRow). IsWithinSome c.args.table.now.rows row.place c.push_leader.new.places.items) (get_or_default ranked index first x c.loop-index-test.true) c.in_ok-push_leader.ensures.led) j h d;
      fewer = omega (arith, inv.fewer, c.in_ok-push_leader.ensures.at_most_one);
    }

pub push_leader-requires-clause-row : goal.push_leader-requires-clause-row
push_leader-requires-clause-row c =
    let first : CountedRow = record { ones = 0; place = 0 } in
    (c.requires.counted c.loop-index.index first c.loop-index-test.true).0

pub push_leader-requires-clause-no_longer : goal.push_leader-requires-clause-no_longer
push_leader-requires-clause-no_longer c =
    let index = c.loop-index.index in
    let first : CountedRow = record { ones = 0; place = 0 } in
    λ k d h. omega (arith, c.loop-index.invariant.longer k d h index first (omega arith) c.loop-index-test.true, (c.requires.counted index first c.loop-index-test.true).1)

pub returns-clause-led : goal.returns-clause-led
returns-clause-led c = λ k d h. c.loop-index.invariant.led k d (omega (arith, h, c.loop-index-test.false))
