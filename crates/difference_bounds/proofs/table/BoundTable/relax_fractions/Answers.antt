use Rattle.std.proofs.Common.{◌≡◌, refl, sym, subst}
use Rattle.std.proofs.lemmas.Result.{err_from_is_err_and}
use Rattle.row_core.specs.Refusals.{IsOverflowIn}
use Rattle.difference_bounds.specs.Walks.{Bound}
use Rattle.difference_bounds.specs.Laws.{IsRelaxed}
use Rattle.difference_bounds.specs.Overflows.{LeavesInRelaxing}
use Rattle.difference_bounds.specs.Tables.{bounds_of}
use Rattle.difference_bounds.proofs.table.BoundTable.relax_fractions.Goals as goal

-- what holds of three bounds holds of their equals
of_three : (P : Bound → Bound → Bound → Type 0) (a b c x y z : Bound) → a ≡ x → b ≡ y → c ≡ z → P a b c → P x y z
of_three P a b c x y z e f g h = subst (λ (k : Bound). P k y z) e (subst (λ (k : Bound). P a k z) f (subst (λ (k : Bound). P a b k) g h))

pub returns : goal.returns
returns c =
    let old = bounds_of c.args.self.now in
    let new = bounds_of c.set.new.self c.args.i c.args.j in
    record {
      places = c.set.ensures.places;
      here = of_three (λ (x y z : Bound). IsRelaxed x y z new) c.get.result c.get-2.result c.get-3.result (old c.args.i c.args.j) (old c.args.i c.args.k) (old c.args.k c.args.j) c.get.ensures.value c.get-2.ensures.value c.get-3.ensures.value
          (subst (IsRelaxed c.get.result c.get-2.result c.get-3.result) (sym c.in_ok-set.ensures.here) c.in_ok-bound.ensures.relaxed);
      elsewhere = c.set.ensures.elsewhere;
      overflow = tt;
    }

pub returns-in_err-bound : goal.returns-in_err-bound
returns-in_err-bound c =
    let p = err_from_is_err_and c.from_residual.result c.from_residual.ensures.1 in
    let old = bounds_of c.args.self.now in
    rw (p.1, p.2) (record {
      places = refl;
      here = tt;
      elsewhere = tt;
      overflow = of_three (λ (x y z : Bound). IsOverflowIn (LeavesInRelaxing x y z) c.in_err-bound.field-0.0) c.get.result c.get-2.result c.get-3.result (old c.args.i c.args.j) (old c.args.i c.args.k) (old c.args.k c.args.j) c.get.ensures.value c.get-2.ensures.value c.get-3.ensures.value c.in_err-bound.ensures.overflow;
    })

pub returns-in_err-set : goal.returns-in_err-set
returns-in_err-set c =
    let p = err_from_is_err_and c.from_residual-in_err-set.result c.from_residual-in_err-set.ensures.1 in
    rw (p.1, p.2) (record { places = c.set.ensures.places; here = tt; elsewhere = tt; overflow = tt })
