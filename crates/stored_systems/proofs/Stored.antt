-- What a closed polyhedron stores, be it empty or not.
use Rattle.std.proofs.Common.{◌≡◌, inl, inr, ℕ, zero, suc, List, [], ◌∷◌, length, ℤ, pos, negsuc, ◌+ℤ◌, ◌*ℤ◌, neg_ℤ, ◌≤ℤ◌, ◌<ℤ◌, refl, sym, ap, ◌∙◌, subst, arith}
use Rattle.std.specs.Prelude.{◌↔◌}
use Rattle.std.proofs.lemmas.Int.{ints}
use Rattle.std.proofs.lemmas.List.Elements.{All-nil, All-cons, All-head}
use Rattle.row_core.specs.Vectors.{cell, dot}
use Rattle.row_core.specs.Points.{IsPoint}
use Rattle.cons_sys.specs.declared.kind.ConKind.TheVariants.{Ge}
use Rattle.cons_sys.specs.Constraints.{Constraint, Constraints, Satisfies, In}
use Rattle.gens_sys.specs.Generators.{Generator, Generators}
use Rattle.gens_sys.specs.Spans.{Span}
use Rattle.stored_systems.specs.WorkLists.{divisor_row}
use Rattle.stored_systems.specs.PointSets.{IsClosedKind, AreClosed, IsClosedGen, AreClosedGens, IsWithin, HoldSame}
use Rattle.stored_systems.specs.StoredForms.{stored_constraints, stored_generators, false_row, IsEmptyForm, IsPairForm, IsStored}
use Rattle.stored_systems.specs.StoredLaws.{StoredIsClosed, StoredIsEmpty, IsPair, AreIrredundantConstraints, AreIrredundantGenerators, IsCanonicalPair, AdmitValidRows, StoredIsPair, StoredIsIrredundant, StoredIsCanonical, StoredAdmitsValidRows, AreSameSystems, StoredIsUnique}
use Rattle.stored_systems.proofs.DivisorRow.{length-divisor, cell-divisor_last}
use Rattle.stored_systems.proofs.StoredPair.{pair_closed, gens_closed, is_pair, is_canonical, inner_within, inner_point, rows_same, vectors_same}
use Rattle.stored_systems.proofs.Irredundance.{length_stored, no_constraint_to_spare, no_generator_to_spare}
use Rattle.stored_systems.proofs.ValidRows.{valid_are_listed, valid_without_points}

-- ---- the empty form
less_one : (b : ℤ) → negsuc 0 *ℤ b +ℤ pos 0 ≡ neg_ℤ b
less_one b = omega (arith, ints)

none_more : (b d e : ℤ) → d ≡ e → pos 0 *ℤ b +ℤ d ≡ e
none_more b d e h = omega (arith, ints, h)

dot_false : (dim : ℕ) (v : List ℤ) → dot (false_row dim) v ≡ neg_ℤ (cell v dim)
dot_false zero [] = omega (arith, ints)
dot_false zero (b ∷ v) = less_one b
dot_false (suc dim) [] = omega (arith, ints)
dot_false (suc dim) (b ∷ v) = none_more b (dot (false_row dim) v) (neg_ℤ (cell v dim)) (dot_false dim v)

below_zero : (x d : ℤ) → x ≡ neg_ℤ d → pos 0 ≤ℤ x → pos 0 <ℤ d → ⊥
below_zero x d e h p = omega (arith, ints)

abbrev Here : List ℤ → Constraint → Type 0
Here p c = Satisfies p c

no_point_in_false : (dim : ℕ) (p : List ℤ) → IsPoint dim p → In (record { dim = dim; list = (false_row dim, Ge) ∷ [] }) p → ⊥
no_point_in_false dim p pt h = below_zero (dot (false_row dim) p) (cell p dim) (dot_false dim p) (All-head (Here p) (false_row dim, Ge) [] h) pt.positive

pub empty_has_no_point : (cs : Constraints) (gs : Generators) → IsEmptyForm cs gs → (p : List ℤ) → ¬ (IsWithin cs p)
empty_has_no_point cs gs e p w = no_point_in_false cs.dim p w.point (subst (λ (xs : List Constraint). In (record { dim = cs.dim; list = xs }) p) e.cons w.holds)

no_span : (dim : ℕ) (p : List ℤ) → Span (record { dim = dim; list = [] }) p → ⊥
no_span dim p s = omega (arith, s.point.within)

origin : (dim : ℕ) → IsPoint dim (divisor_row dim)
origin dim = record { wide = length-divisor dim; positive = subst (λ (z : ℤ). pos 0 <ℤ z) (sym (cell-divisor_last dim)) (omega (arith, ints)) }

empty_pair : (cs : Constraints) (gs : Generators) → IsEmptyForm cs gs → IsPair cs gs
empty_pair cs gs e p pt = (
  (λ h. absurd (empty_has_no_point cs gs e p (record { point = pt; holds = h }))),
  (λ s. absurd (no_span gs.dim p (subst (λ (xs : List Generator). Span (record { dim = gs.dim; list = xs }) p) e.gens s))),
)

false_needed : (dim : ℕ) → AreIrredundantConstraints (record { dim = dim; list = (false_row dim, Ge) ∷ [] })
false_needed dim zero h all = no_point_in_false dim (divisor_row dim) (origin dim) (all (divisor_row dim) (origin dim) (All-nil (Here (divisor_row dim))))
false_needed dim (suc i) h all = omega (arith, h)

none_needed : (dim : ℕ) → AreIrredundantGenerators (record { dim = dim; list = [] })
none_needed dim i h all = omega (arith, h)

-- ---- both forms
pub with_lists : (P : Constraints → Generators → Type 0) (cs : Constraints) (gs : Generators) (f : IsPairForm cs gs) → P (record { dim = cs.dim; list = stored_constraints cs.dim f.equalities f.inequalities }) (record { dim = cs.dim; list = stored_generators cs.dim f.lines f.rays }) → P cs gs
with_lists P cs gs f h =
    subst (λ (n : ℕ). P cs (record { dim = n; list = gs.list })) (sym f.same_dim)
    (subst (λ (xs : List Generator). P cs (record { dim = cs.dim; list = xs })) (sym f.gens)
    (subst (λ (xs : List Constraint). P (record { dim = cs.dim; list = xs }) (record { dim = cs.dim; list = stored_generators cs.dim f.lines f.rays })) (sym f.cons) h))

pub stored_is_pair : StoredIsPair
stored_is_pair cs gs (inl e) = empty_pair cs gs e
stored_is_pair cs gs (inr f) = with_lists IsPair cs gs f (is_pair cs.dim f.lines f.rays f.equalities f.inequalities f.systems)

pub stored_is_irredundant : StoredIsIrredundant
stored_is_irredundant cs gs (inl e) = (
  subst (λ (xs : List Constraint). AreIrredundantConstraints (record { dim = cs.dim; list = xs })) (sym e.cons) (false_needed cs.dim),
  subst (λ (xs : List Generator). AreIrredundantGenerators (record { dim = gs.dim; list = xs })) (sym e.gens) (none_needed gs.dim),
)
stored_is_irredundant cs gs (inr f) = with_lists (λ c g. AreIrredundantConstraints c × AreIrredundantGenerators g) cs gs f (no_constraint_to_spare cs.dim f.lines f.rays f.equalities f.inequalities f.systems, no_generator_to_spare cs.dim f.lines f.rays f.equalities f.inequalities f.systems)

pub stored_is_canonical : StoredIsCanonical
stored_is_canonical cs gs p (inl e) w = absurd (empty_has_no_point cs gs e p w)
stored_is_canonical cs gs p (inr f) w = with_lists IsCanonicalPair cs gs f (is_canonical cs.dim f.lines f.rays f.equalities f.inequalities f.systems)

pub stored_admits_valid_rows : StoredAdmitsValidRows
stored_admits_valid_rows cs gs (inl e) = subst (λ (xs : List Generator). AdmitValidRows cs (record { dim = gs.dim; list = xs })) (sym e.gens) (valid_without_points cs (empty_has_no_point cs gs e))
stored_admits_valid_rows cs gs (inr f) = with_lists AdmitValidRows cs gs f (valid_are_listed cs.dim f.lines f.rays f.equalities f.inequalities f.systems)

pub pair_point : (cs : Constraints) (gs : Generators) (f : IsPairForm cs gs) → IsWithin cs (inner_point cs.dim f.lines f.rays f.equalities f.inequalities f.systems)
pair_point cs gs f = subst (λ (xs : List Constraint). IsWithin (record { dim = cs.dim; list = xs }) (inner_point cs.dim f.lines f.rays f.equalities f.inequalities f.systems)) (sym f.cons) (inner_within cs.dim f.lines f.rays f.equalities f.inequalities f.systems)

-- ---- uniqueness
two_forms : (dim : ℕ) (list other : List Constraint) (gens others : List Generator) → IsPairForm (record { dim = dim; list = list }) (record { dim = dim; list = gens }) → IsPairForm (record { dim = dim; list = other }) (record { dim = dim; list = others }) → HoldSame (record { dim = dim; list = list }) (record { dim = dim; list = other }) → (list ≡ other) × (gens ≡ others)
two_forms dim list other gens others f g same =
    let h : HoldSame (record { dim = dim; list = stored_constraints dim f.equalities f.inequalities }) (record { dim = dim; list = stored_constraints dim g.equalities g.inequalities }) =
    subst (λ (xs : List Constraint). HoldSame (record { dim = dim; list = xs }) (record { dim = dim; list = stored_constraints dim g.equalities g.inequalities })) f.cons
    (subst (λ (xs : List Constraint). HoldSame (record { dim = dim; list = list }) (record { dim = dim; list = xs })) g.cons same) in
    let r = rows_same dim f.lines f.rays f.equalities f.inequalities g.lines g.rays g.equalities g.inequalities f.systems g.systems h in
    let v = vectors_same dim f.lines f.rays f.equalities f.inequalities g.lines g.rays g.equalities g.inequalities f.systems g.systems h in (
      f.cons ∙ ap (λ (es : List (List ℤ)). stored_constraints dim es f.inequalities) r.0 ∙ ap (λ (gs : List (List ℤ)). stored_constraints dim g.equalities gs) r.1 ∙ sym g.cons,
      f.gens ∙ ap (λ (ls : List (List ℤ)). stored_generators dim ls f.rays) v.0 ∙ ap (λ (rs : List (List ℤ)). stored_generators dim g.lines rs) v.1 ∙ sym g.gens,
    )

at_dim : (cs : Constraints) (gs : Generators) → IsPairForm cs gs → (n : ℕ) → cs.dim ≡ n → IsPairForm (record { dim = n; list = cs.list }) (record { dim = n; list = gs.list })
at_dim cs gs f n e = subst (λ (m : ℕ). IsPairForm (record { dim = m; list = cs.list }) (record { dim = m; list = gs.list })) e (subst (λ (m : ℕ). IsPairForm cs (record { dim = m; list = gs.list })) f.same_dim f)

abbrev false_list : ℕ → List Constraint
false_list n = (false_row n, Ge) ∷ []

false_same : (m n : ℕ) → m ≡ n → false_list m ≡ false_list n
false_same m n e = ap false_list e

same_systems : (cs ds : Constraints) (gs hs : Generators) → cs.dim ≡ ds.dim → IsStored cs gs → IsStored ds hs → HoldSame cs ds → (cs.list ≡ ds.list) × (gs.list ≡ hs.list)
same_systems cs ds gs hs e (inl a) (inl b) same = (a.cons ∙ false_same cs.dim ds.dim e ∙ sym b.cons, a.gens ∙ sym b.gens)
same_systems cs ds gs hs e (inl a) (inr g) same =
    let w = pair_point ds hs g in
    let pt : IsPoint cs.dim (inner_point ds.dim g.lines g.rays g.equalities g.inequalities g.systems) = subst (λ (n : ℕ). IsPoint n (inner_point ds.dim g.lines g.rays g.equalities g.inequalities g.systems)) (sym e) w.point in
    absurd (empty_has_no_point cs gs a (inner_point ds.dim g.lines g.rays g.equalities g.inequalities g.systems) (record { point = pt; holds = (same (inner_point ds.dim g.lines g.rays g.equalities g.inequalities g.systems) pt).1 w.holds }))
same_systems cs ds gs hs e (inr f) (inl b) same =
    let w = pair_point cs gs f in
    absurd (empty_has_no_point ds hs b (inner_point cs.dim f.lines f.rays f.equalities f.inequalities f.systems) (record { point = subst (λ (n : ℕ). IsPoint n (inner_point cs.dim f.lines f.rays f.equalities f.inequalities f.systems)) e w.point; holds = (same (inner_point cs.dim f.lines f.rays f.equalities f.inequalities f.systems) w.point).0 w.holds }))
same_systems cs ds gs hs e (inr f) (inr g) same =
    two_forms ds.dim cs.list ds.list gs.list hs.list (at_dim cs gs f ds.dim e) (at_dim ds hs g ds.dim refl)
    (subst (λ (n : ℕ). HoldSame (record { dim = n; list = cs.list }) (record { dim = n; list = ds.list })) e same_here)
  where
    same_here : HoldSame (record { dim = cs.dim; list = cs.list }) (record { dim = cs.dim; list = ds.list })
    same_here p pt = same p pt

same_constraints : (cs ds : Constraints) → cs.dim ≡ ds.dim → cs.list ≡ ds.list → cs ≡ ds
same_constraints cs ds e f = ap (λ (n : ℕ). record { dim = n; list = cs.list }) e ∙ ap (λ (xs : List Constraint). record { dim = ds.dim; list = xs }) f

same_generators : (gs hs : Generators) → gs.dim ≡ hs.dim → gs.list ≡ hs.list → gs ≡ hs
same_generators gs hs e f = ap (λ (n : ℕ). record { dim = n; list = gs.list }) e ∙ ap (λ (xs : List Generator). record { dim = hs.dim; list = xs }) f

pub stored_dim : (cs : Constraints) (gs : Generators) → IsStored cs gs → gs.dim ≡ cs.dim
stored_dim cs gs (inl e) = e.same_dim
stored_dim cs gs (inr f) = f.same_dim

pub stored_is_unique : StoredIsUnique
stored_is_unique cs ds gs hs e s t = (
  (λ same. as_systems (same_systems cs ds gs hs e s t same)),
  (λ same p pt. subst (λ (xs : Constraints). In cs p ↔ In xs p) same.cons ((λ h. h), (λ h. h))),
)
  where
    as_systems : (cs.list ≡ ds.list) × (gs.list ≡ hs.list) → AreSameSystems cs ds gs hs
    as_systems r = record {
      cons = same_constraints cs ds e r.0;
      gens = same_generators gs hs (stored_dim cs gs s ∙ e ∙ sym (stored_dim ds hs t)) r.1;
    }

-- ---- kinds and points
false_closed : (dim : ℕ) → AreClosed (record { dim = dim; list = (false_row dim, Ge) ∷ [] })
false_closed dim = All-cons (λ (c : Constraint). IsClosedKind c.1) (false_row dim, Ge) [] tt (All-nil (λ (c : Constraint). IsClosedKind c.1))

pub stored_is_closed : StoredIsClosed
stored_is_closed cs gs (inl e) = record {
  same_dim = e.same_dim;
  cons = subst (λ (xs : List Constraint). AreClosed (record { dim = cs.dim; list = xs })) (sym e.cons) (false_closed cs.dim);
  gens = subst (λ (xs : List Generator). AreClosedGens (record { dim = gs.dim; list = xs })) (sym e.gens) (All-nil (IsClosedGen gs.dim));
}
stored_is_closed cs gs (inr f) = record {
  same_dim = f.same_dim;
  cons = with_lists (λ c g. AreClosed c) cs gs f (pair_closed cs.dim f.lines f.rays f.equalities f.inequalities f.systems);
  gens = with_lists (λ c g. AreClosedGens g) cs gs f (gens_closed cs.dim f.lines f.rays f.equalities f.inequalities f.systems);
}

some_generator : (cs : Constraints) (gs : Generators) → IsPairForm cs gs → gs.list ≡ [] → ⊥
some_generator cs gs f e =
    let a : length gs.list ≡ length (stored_generators cs.dim f.lines f.rays) = ap length f.gens in
    let b : length gs.list ≡ 0 = ap length e in
    omega (arith, a, b, length_stored cs.dim f.lines f.rays, f.systems.point.below)

pub stored_is_empty : StoredIsEmpty
stored_is_empty cs gs (inl e) = ((λ g p w. empty_has_no_point cs gs e p w), (λ none. e.gens))
stored_is_empty cs gs (inr f) = (
  (λ g. absurd (some_generator cs gs f g)),
  (λ none. absurd (none (inner_point cs.dim f.lines f.rays f.equalities f.inequalities f.systems) (pair_point cs gs f))),
)
