use Rattle.std.specs.Prelude.{true}
use Rattle.std.proofs.Common.{rules, ◌≡◌, ◌≤◌, ◌+◌, List, ℤ, ℕ, [], map, take, length, get_or, arith, ap, sym, ◌∙◌, subst}
use Rattle.std.proofs.lemmas.Result.{err_from_is_err_and}
use Rattle.std.proofs.lemmas.List.{map_more, nil_from_length, get_or-map, length-map, take-map, take_all}
use Rattle.std.proofs.Math.Nat.{mul-le-mul_right}
use Rattle.row_core.specs.Range.{AllInRange}
use Rattle.row_core.specs.Lists.{Row, row_at, vectors, vector_at, AreMarked}
use Rattle.row_core.proofs.RowListLemmas.{length-vectors}
use Rattle.minimise.specs.Bases.{IsBasis, IsGrown}
use Rattle.minimise.proofs.Growing.{basis_none, basis_grown}
use Rattle.minimise.proofs.IndependentLines.{one_line_more}
use Rattle.minimise.proofs.FaultCases.{list_fault_of_growth}
use Rattle.minimise.proofs.bases.basis.Goals as goal

pub returns-then-is_empty-clause-basis : goal.returns-then-is_empty-clause-basis
returns-then-is_empty-clause-basis g c =
    let none : c.args.places.now ≡ [] = nil_from_length c.args.places.now (search rules) in
    subst (λ (ps : List ℕ). IsBasis (map (row_at c.args.rows.now.rows) ps) (vectors c.new.result.rows)) (sym none) (subst (λ (rows : List Row). IsBasis [] (vectors rows)) (sym c.new.ensures.empty) basis_none)

pub loop-index-init : goal.loop-index-init
loop-index-init g c = record {
  buffers = c.in_ok-basis.ensures.buffers;
  width = c.in_ok-basis.ensures.width ∙ c.width-width.ensures.value;
  no_fewer = omega arith;
  no_more = omega arith;
  basis = subst (λ (rows : List Row). IsBasis [] (vectors rows)) (sym c.in_ok-basis.ensures.empty) basis_none;
  marks = subst (λ (rows : List Row). AreMarked true rows) (sym c.in_ok-basis.ensures.empty) (λ k d h. absurd (omega (arith, h)));
  as_many = λ free. ap (λ (rows : List Row). length (vectors rows)) c.in_ok-basis.ensures.empty;
}

pub returns-in_err-take-clause-basis : goal.returns-in_err-take-clause-basis
returns-in_err-take-clause-basis g c =
    let index = c.loop-index.index in
    let p = err_from_is_err_and c.from_residual-in_err-take.result c.from_residual-in_err-take.ensures.1 in
    rw (p.1, p.2) (list_fault_of_growth c.args.rows.now.rows c.args.places.now (vectors c.loop-index.basis.lines.rows) index c.loop-index-test.true (c.requires.within index 0 c.loop-index-test.true) c.loop-index.invariant.basis c.row.result.now _ c.row.ensures.value c.in_err-take.ensures.grown)

pub loop-index-preserved : goal.loop-index-preserved
loop-index-preserved g c =
    let inv = c.loop-index.invariant in
    let rows = c.args.rows.now.rows in
    let index = c.loop-index.index in
    let old = vectors c.loop-index.basis.lines.rows in
    let new = vectors c.take.new.self.lines.rows in
    record {
      buffers = c.take.ensures.buffers;
      width = c.take.ensures.width ∙ inv.width;
      no_fewer = omega (arith, inv.no_fewer, c.take.ensures.counted);
      no_more = omega (arith, inv.no_more, c.take.ensures.counted, inv.width);
      basis = subst (λ (vs : List (List ℤ)). IsBasis vs (vectors c.take.new.self.lines.rows)) (sym (map_more (row_at rows) c.args.places.now index 0 c.loop-index-test.true))
          (basis_grown (map (row_at rows) (take index c.args.places.now)) old (row_at rows (get_or c.args.places.now index 0)) new inv.basis
          (subst (λ (v : List ℤ). IsGrown (vectors c.loop-index.basis.lines.rows) v (vectors c.take.new.self.lines.rows)) c.row.ensures.value c.in_ok-take.ensures.grown));
      marks = c.in_ok-take.ensures.marked inv.marks;
      as_many = λ free.
          let flat : List (List ℤ) = map (row_at rows) c.args.places.now in
          let at : vector_at flat index ≡ c.row.result.now = get_or-map (row_at rows) c.args.places.now index 0 [] c.loop-index-test.true ∙ sym c.row.ensures.value in
          one_line_more flat old index (omega (arith, c.loop-index-test.true, length-map c.args.places.now (row_at rows)))
          (subst (λ (vs : List (List ℤ)). IsBasis vs old) (sym (take-map (row_at rows) index c.args.places.now)) inv.basis) new
          (subst (λ (v : List ℤ). IsGrown old v new) (sym at) c.in_ok-take.ensures.grown) free (inv.as_many free);
    }

pub returns-then-is_empty-clause-as_many : goal.returns-then-is_empty-clause-as_many
returns-then-is_empty-clause-as_many g c = λ free.
    let none : c.args.places.now ≡ [] = nil_from_length c.args.places.now (search rules) in
    ap (λ (rows : List Row). length rows) c.new.ensures.empty ∙ sym (ap (λ (ps : List ℕ). length ps) none)

pub returns-clause-as_many : goal.returns-clause-as_many
returns-clause-as_many g c = λ free. omega (arith, c.loop-index.invariant.as_many free, length-vectors c.loop-index.basis.lines.rows, c.loop-index-test.false, c.loop-index.invariant.no_more)

pub take-requires-clause-buffers : goal.take-requires-clause-buffers
take-requires-clause-buffers g c = c.loop-index.invariant.buffers

pub take-requires-clause-echelon : goal.take-requires-clause-echelon
take-requires-clause-echelon g c = c.loop-index.invariant.basis.echelon

pub take-requires-clause-primitive : goal.take-requires-clause-primitive
take-requires-clause-primitive g c = c.loop-index.invariant.basis.primitive

pub take-requires-clause-wide : goal.take-requires-clause-wide
take-requires-clause-wide g c = ap (λ (v : List ℤ). length v) c.row.ensures.value ∙ c.row.ensures.wide ∙ sym c.loop-index.invariant.width

pub take-requires-clause-in_range : goal.take-requires-clause-in_range
take-requires-clause-in_range g c = subst AllInRange (sym c.row.ensures.value) c.row.ensures.in_range

pub returns-clause-list : goal.returns-clause-list
returns-clause-list g c = (c.loop-index.invariant.width, c.loop-index.invariant.marks)

pub returns-clause-basis : goal.returns-clause-basis
returns-clause-basis g c =
    subst (λ (ps : List ℕ). IsBasis (map (row_at c.args.rows.now.rows) ps) (vectors c.loop-index.basis.lines.rows)) (take_all c.loop-index.index c.args.places.now (omega (arith, c.loop-index-test.false))) c.loop-index.invariant.basis

pub returns-clause-counted : goal.returns-clause-counted
returns-clause-counted g c =
    let ended : c.loop-index.index ≤ length c.args.places.now = omega (arith, c.loop-index-test.false) in
    (c.loop-index.invariant.no_fewer, omega (arith, c.loop-index.invariant.no_more, mul-le-mul_right c.args.rows.now.width ended))

pub returns-in_err-take-clause-counted : goal.returns-in_err-take-clause-counted
returns-in_err-take-clause-counted g c =
    let inv = c.loop-index.invariant in
    let below : c.loop-index.index + 1 ≤ length c.args.places.now = omega (arith, c.loop-index-test.true) in (
      omega (arith, inv.no_fewer, c.take.ensures.counted.0),
      omega (arith, inv.no_more, inv.width, c.take.ensures.counted.1, mul-le-mul_right c.args.rows.now.width below),
    )
