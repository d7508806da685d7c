use Rattle.std.proofs.Common.{◌≡◌, ℕ, ◌*◌, ◌-◌, List, length, length-drop, take, drop, ℤ, sym, ap, subst, ◌∙◌, arith}
use Rattle.std.proofs.lemmas.Result.{err_from_is_err_and}
use Rattle.std.proofs.lemmas.List.{length-take-le, take_at}
use Rattle.row_core.specs.Vectors.{add}
use Rattle.row_core.specs.Range.{AllInRange, IsFirstToLeave}
use Rattle.cone_laws.specs.Cones.{negated}
use Rattle.ranking.specs.Refusals.{DifferenceStays}
use Rattle.ranking.proofs.RowLemmas.{first_difference}
use Rattle.ranking.proofs.rows.differences.Goals as goal

pub returns-in_err-entries : goal.returns-in_err-entries
returns-in_err-entries c = let p = err_from_is_err_and c.from_residual.result c.from_residual.ensures.1 in rw (p.1, p.2) (record { entries = tt; in_range = tt; wide = tt; overflow = tt })

pub returns-in_err-over : goal.returns-in_err-over
returns-in_err-over c = let p = err_from_is_err_and c.from_residual-in_err-over.result c.from_residual-in_err-over.ensures.1 in rw (p.1, p.2) (record { entries = tt; in_range = tt; wide = tt; overflow = tt })

pub subtract-requires : goal.subtract-requires
subtract-requires c =
    let n = c.args.states in
    let pair = c.args.pair.now in
    let front : length c.deref_mut.result.now ≡ n = ap length (c.deref_mut.ensures.value ∙ c.in_ok-entries.ensures.items) ∙ length-take-le n pair (omega (arith, c.requires.wide)) in
    record {
      narrow = omega (arith, front, c.requires.narrow);
      wide = omega (arith, front, length-take-le (2 * n - n) (drop n pair) (omega (arith, length-drop n pair, c.requires.wide)));
    }

pub returns : goal.returns
returns c =
    let n = c.args.states in
    let pair = c.args.pair.now in
    let new = c.subtract.new.row in
    let width : length new ≡ c.in_ok-entries.entries.len = omega (arith, c.in_default.ensures.width, c.deref_mut.ensures.len) in
    let written = take_at new (drop (length new) c.in_ok-entries.entries.items) c.in_ok-entries.entries.len width in
    let front : c.deref_mut.result.now ≡ take n pair = c.deref_mut.ensures.value ∙ c.in_ok-entries.ensures.items in
    let once : 2 * n - n ≡ n = omega arith in
    record {
      entries = written ∙ c.in_default.ensures.subtracted.0 ∙ ap (λ (v : List ℤ). add v (negated (take (2 * n - n) (drop n pair)))) front ∙ ap (λ (k : ℕ). add (take n pair) (negated (take k (drop n pair)))) once;
      in_range = subst AllInRange (sym written) c.in_default.ensures.subtracted.1;
      wide = ap length written ∙ c.in_default.ensures.width ∙ ap length front ∙ length-take-le n pair (omega (arith, c.requires.wide));
      overflow = tt;
    }

pub returns-in-Err : goal.returns-in-Err
returns-in-Err c =
    let n = c.args.states in
    let pair = c.args.pair.now in
    let front : c.deref_mut.result.now ≡ take n pair = c.deref_mut.ensures.value ∙ c.in_ok-entries.ensures.items in
    let many : length c.deref_mut.result.now ≡ n = ap length front ∙ length-take-le n pair (omega (arith, c.requires.wide)) in
    let once : 2 * n - n ≡ n = omega arith in
    record {
      entries = tt;
      in_range = tt;
      wide = tt;
      overflow = record {
        shown = c.in_ok-over.ensures.rows;
        column = subst (IsFirstToLeave (DifferenceStays n pair) n) (sym c.in_ok-over.ensures.column) (first_difference n pair c.deref_mut.result.now (take (2 * n - n) (drop n pair)) (length c.deref_mut.result.now) c.in-Err.column front (ap (λ (k : ℕ). take k (drop n pair)) once) many c.in-Err.ensures.subtracted);
      };
    }
