use Rattle.std.proofs.Common.{◌≡◌, ℕ, ◌+◌, ◌≤◌, ◌∷◌, [], List, length, true, false, refl, ap, sym, subst, ◌∙◌, rules, arith}
use Rattle.std.specs.Prelude.{ℤ, ◌+ℤ◌}
use Rattle.std.specs.Vec.{with_items}
use Rattle.std.proofs.lemmas.List.{with_items_is}
use Rattle.row_core.specs.Vectors.{cell}
use Rattle.row_core.specs.Range.{AllInRange}
use Rattle.term_text.specs.Sums.{Sum, Gains}
use Rattle.term_text.specs.Terms.{IsWithin, FitsBehind, column_of, part}
use Rattle.term_text.proofs.RowSums.{summed, gains_one, gains_too_large, gains_still}
use Rattle.term_text.proofs.rows.RowSum.add.Goals as goal

pub returns-then-not-self : goal.returns-then-not-self
returns-then-not-self c =
    let left : c.self.inside.fits ≡ false = c.if-not-self.true in
    let within : IsWithin c.self.inside.dim c.args.term = c.if-not-is_within.ensures.0 refl in
    let still : Gains (c.args.term ∷ []) (summed c.self.inside.dim c.self.inside.cells.items c.self.inside.fits) (summed c.self.inside.dim c.self.inside.cells.items c.self.inside.fits) = gains_still c.self.inside.dim c.args.term c.self.inside.cells.items c.self.inside.fits left within in
    search rules

pub returns-in-Some : goal.returns-in-Some
returns-in-Some c =
    let has : c.self.inside.fits ≡ true = c.if-not-self.false in
    let within : IsWithin c.self.inside.dim c.args.term = c.if-not-is_within.ensures.0 refl in
    let behind : FitsBehind c.args.term (cell c.self.inside.cells.items (column_of c.self.inside.dim c.args.term)) = search rules in
    let same : length c.add.new.cells ≡ length c.self.inside.cells.items = search rules in
    let added : (j : ℕ) → j ≤ c.self.inside.dim → cell c.add.new.cells j ≡ cell c.self.inside.cells.items j +ℤ part c.self.inside.dim c.args.term j = search rules in
    let one : Gains (c.args.term ∷ []) (summed c.self.inside.dim c.self.inside.cells.items c.self.inside.fits) (summed c.self.inside.dim c.add.new.cells c.self.inside.fits) = gains_one c.self.inside.dim c.args.term c.self.inside.cells.items c.add.new.cells c.self.inside.fits has within behind same c.add.ensures.in_range added in
    let full : length c.add.new.cells ≡ c.self.inside.cells.len = omega arith in
    let cells : List ℤ = (with_items c.self.inside.cells c.add.new.cells).items in
    let after : Gains (c.args.term ∷ []) (summed c.self.inside.dim c.self.inside.cells.items c.self.inside.fits) (summed c.self.inside.dim cells c.self.inside.fits) = subst (λ (xs : List ℤ). Gains (c.args.term ∷ []) (summed c.self.inside.dim c.self.inside.cells.items c.self.inside.fits) (summed c.self.inside.dim xs c.self.inside.fits)) (sym (with_items_is c.self.inside.cells c.add.new.cells full)) one in
    subst (λ (s : Sum). Gains (c.args.term ∷ []) s (summed c.self.inside.dim cells c.self.inside.fits)) c.self.view_is after

pub returns-in-None : goal.returns-in-None
returns-in-None c =
    let has : c.self.inside.fits ≡ true = c.if-not-self.false in
    let within : IsWithin c.self.inside.dim c.args.term = c.if-not-is_within.ensures.0 refl in
    let fails : ¬ (FitsBehind c.args.term (cell c.self.inside.cells.items (column_of c.self.inside.dim c.args.term))) = search rules in
    let large : Gains (c.args.term ∷ []) (summed c.self.inside.dim c.self.inside.cells.items c.self.inside.fits) (summed c.self.inside.dim c.add.new.cells false) = gains_too_large c.self.inside.dim c.args.term c.self.inside.cells.items c.add.new.cells c.self.inside.fits has within fails in
    let full : length c.add.new.cells ≡ c.self.inside.cells.len = omega arith in
    let cells : List ℤ = (with_items c.self.inside.cells c.add.new.cells).items in
    let after : Gains (c.args.term ∷ []) (summed c.self.inside.dim c.self.inside.cells.items c.self.inside.fits) (summed c.self.inside.dim cells false) = subst (λ (xs : List ℤ). Gains (c.args.term ∷ []) (summed c.self.inside.dim c.self.inside.cells.items c.self.inside.fits) (summed c.self.inside.dim xs false)) (sym (with_items_is c.self.inside.cells c.add.new.cells full)) large in
    subst (λ (s : Sum). Gains (c.args.term ∷ []) s (summed c.self.inside.dim cells false)) c.self.view_is after

pub returns-then-not-is_within : goal.returns-then-not-is_within
returns-then-not-is_within c = (refl, subst (λ (s : Sum). ¬ (IsWithin s.dim c.args.term)) c.self.view_is (λ h. let never : false ≡ true = c.if-not-is_within.ensures.1 h in cc))

pub add-requires : goal.add-requires
add-requires c = record {
  wide = ap length c.deref_mut.ensures.value ∙ c.self.invariant.0;
  within = c.if-not-is_within.ensures.0 refl;
  in_range = subst AllInRange (sym c.deref_mut.ensures.value) c.self.invariant.1;
}

pub invariant_of-self : goal.invariant_of-self
invariant_of-self c =
    let full : length c.add.new.cells ≡ c.self.inside.cells.len = omega arith in
    let same = with_items_is c.self.inside.cells c.add.new.cells full in
    let wide : length c.add.new.cells ≡ c.self.inside.dim + 1 = omega (arith, c.self.invariant.0) in
    (ap length same ∙ wide, subst AllInRange (sym same) c.add.ensures.in_range, c.self.invariant.2)

pub invariant_of-self-in-None : goal.invariant_of-self-in-None
invariant_of-self-in-None c =
    let full : length c.add.new.cells ≡ c.self.inside.cells.len = omega arith in
    let same = with_items_is c.self.inside.cells c.add.new.cells full in
    let wide : length c.add.new.cells ≡ c.self.inside.dim + 1 = omega (arith, c.self.invariant.0) in
    (ap length same ∙ wide, subst AllInRange (sym same) c.add.ensures.in_range, c.self.invariant.2)
