-- Lines and rays in minimal form: brought to reduced echelon form they are a system.
use Rattle.std.proofs.Common.{◌≡◌, ℕ, ◌<◌, List, [], ◌∷◌, length, remove, ℤ, pos, neg_ℤ, ◌+ℤ◌, ◌*ℤ◌, ◌≤ℤ◌, ◌<ℤ◌, sym, ap, ◌∙◌, arith}
use Rattle.std.specs.Prelude.{All}
use Rattle.std.proofs.lemmas.Int.{ints}
use Rattle.std.proofs.lemmas.List.Elements.{All-nil, All-cons, All-from_get_or}
use Rattle.row_core.specs.Vectors.{cell, scale, combined}
use Rattle.row_core.specs.Content.{IsPrimitive}
use Rattle.row_core.specs.Lists.{Row, vector_at, Pointwise}
use Rattle.row_core.proofs.Ring.{zero_of_mul}
use Rattle.row_core.proofs.CellLemmas.{combined-scale}
use Rattle.cone_laws.specs.Cones.{Spans, Generates, HasLineality, negated}
use Rattle.cone_laws.specs.Canon.{IsEchelon, IsIrredundant, IsSystem}
use Rattle.cone_laws.specs.Members.{ConeOf}
use Rattle.cone_laws.proofs.Columns.{length-scale, cell-scale}
use Rattle.cone_laws.proofs.Sums.{V, Same, Nothing, SpansBy, IsLinear, sums_zero, sums_one_ray, sums_one_line, spans_sums, spans_more, spans_same, spans_spans, lines_spans_scale}
use Rattle.cone_laws.proofs.Bridge.{columns, In, in_at, to_sums, to_lines, from_sums, from_lines}
use Rattle.cone_laws.proofs.Instance.{Beside, rest_beside, beside_rest, needed_by_columns, needed_by_lists}
use Rattle.cone_laws.proofs.MemberLemmas.{spanned_within}
use Rattle.minimise.specs.Bases.{IsBasis, IsReduced}
use Rattle.minimise.specs.MinimalForms.{AreIndependent, IsMinimalForm, SystemIsMinimal, FormedIsSystem}

-- ---- lines of which none is spanned by the others
-- the entry at a column is linear
column_linear : (p : ℕ) → IsLinear (λ (v : V). v p)
column_linear p = record { zero = λ v h. h p; more = λ w u v k e. e p; multiple = λ w u k e. e p }

pub independent_columns : (lines : List (List ℤ)) → AreIndependent lines → (i : ℕ) → i < length lines → ¬ (SpansBy (Beside lines i) Nothing (columns lines i))
independent_columns lines h i b s = h i b (from_lines (remove lines i) (vector_at lines i) (spans_more (beside_rest lines i b) (λ r m. m) (columns lines i) s))

pub independent_lists : (lines : List (List ℤ)) → ((i : ℕ) → i < length lines → ¬ (SpansBy (Beside lines i) Nothing (columns lines i))) → AreIndependent lines
independent_lists lines h i b s = h i b (spans_more (rest_beside lines i b) (λ r m. m) (columns lines i) (to_lines (remove lines i) (vector_at lines i) s))

pub echelon_independent : (lines rays : List (List ℤ)) → IsEchelon lines rays → AreIndependent lines
echelon_independent lines rays e = independent_lists lines (λ i b s. other i b (zero_of_mul s.times (cell (vector_at lines i) (e.pivot i)) s.positive
    (sums_zero (λ (v : V). v (e.pivot i)) (column_linear (e.pivot i)) (λ l m. m.same (e.pivot i) ∙ e.lines_zero i m.index b m.is.0 (λ same. m.is.1 (sym same))) (λ r m. elim m [ ]) (λ j. s.times *ℤ cell (vector_at lines i) j) s.sums)))
  where
    other : (i : ℕ) → i < length lines → cell (vector_at lines i) (e.pivot i) ≡ pos 0 → ⊥
    other i b z = let p = (e.pivots i b).positive in omega (arith, ints, p, z)

pub minimal_of_system : (C : List ℤ → Type 0) (lines rays : List (List ℤ)) → IsSystem C lines rays → IsMinimalForm C lines rays
minimal_of_system C lines rays s = record { generates = s.generates; lineality = s.lineality; independent = echelon_independent lines rays s.echelon; irredundant = s.irredundant }

pub system_is_minimal : SystemIsMinimal
system_is_minimal width rows lines rays s = minimal_of_system (ConeOf width rows) lines rays s

-- ---- what the old and the new ones span
reduced_sum : (x y z : ℤ) → x ≡ y +ℤ z → x ≡ z +ℤ (y +ℤ pos 0)
reduced_sum x y z e = omega (arith, ints, e)

turned_sum : (x y z w : ℤ) → x ≡ y +ℤ z → w ≡ neg_ℤ (pos 1) *ℤ z → y ≡ w +ℤ (x +ℤ pos 0)
turned_sum x y z w e f = omega (arith, ints, e, f)

least : (x : ℤ) → pos 0 <ℤ x → pos 0 ≤ℤ x
least x p = omega (arith, ints, p)

once : (x : ℤ) → x ≡ pos 1 *ℤ x
once x = omega (arith, ints)

abbrev AtLeastZero : ℤ → Type 0
AtLeastZero k = pos 0 ≤ℤ k

module _ (lines rays new_lines new_rays : List (List ℤ)) (basis : IsBasis lines new_lines) (reduced : Pointwise (IsReduced new_lines) rays new_rays) where
  new_below : (i : ℕ) → i < length rays → i < length new_rays
  new_below i b = omega (arith, b, reduced.as_many)

  old_below : (i : ℕ) → i < length new_rays → i < length rays
  old_below i b = omega (arith, b, reduced.as_many)

  made : (i : ℕ) → i < length rays → IsReduced new_lines (vector_at rays i) (vector_at new_rays i)
  made i b = reduced.each i [] [] b

  old_line : (l : V) → In lines l → SpansBy (In new_lines) Nothing l
  old_line l m = spans_same (columns lines m.index) l (to_lines new_lines (vector_at lines m.index) (basis.spans m.index [] m.is)) m.same

  new_line : (l : V) → In new_lines l → SpansBy (In lines) Nothing l
  new_line l m = spans_same (columns new_lines m.index) l (to_lines lines (vector_at new_lines m.index) (basis.spanned m.index [] m.is)) m.same

  -- what a vector, alone in a list, is spanned by
  alone : {L : V → Type 0} (S : V → Type 0) (v : List ℤ) → ((r : V) → Same r (cell v) → S r) → (r : V) → In (v ∷ []) r → SpansBy L S r
  alone S v f r m = spans_sums r (sums_one_ray (pos 1) r r (omega (arith, ints)) (f r (λ j. m.same j ∙ ap (λ (u : List ℤ). cell u j) (first m.index m.is))) (λ j. once (r j)))
    where
      first : (i : ℕ) → i < length (v ∷ []) → vector_at (v ∷ []) i ≡ v
      first i b = let z : i ≡ 0 = omega (arith, b) in ap (λ (n : ℕ). vector_at (v ∷ []) n) z

  forth : (i : ℕ) → i < length rays → Spans new_lines (vector_at rays i ∷ []) (vector_at new_rays i)
  forth i b = record {
    times = (made i b).times;
    positive = (made i b).positive;
    line_factors = (made i b).factors;
    ray_factors = (made i b).factor ∷ [];
    at_least_zero = All-cons AtLeastZero (made i b).factor [] (least (made i b).factor (made i b).factor_positive) (All-nil AtLeastZero);
    sum = λ j. reduced_sum ((made i b).times *ℤ cell (vector_at new_rays i) j) ((made i b).factor *ℤ cell (vector_at rays i) j) (combined (made i b).factors new_lines j) ((made i b).same j);
  }

  back : (i : ℕ) → i < length rays → Spans new_lines (vector_at new_rays i ∷ []) (vector_at rays i)
  back i b = record {
    times = (made i b).factor;
    positive = (made i b).factor_positive;
    line_factors = scale (neg_ℤ (pos 1)) (made i b).factors;
    ray_factors = (made i b).times ∷ [];
    at_least_zero = All-cons AtLeastZero (made i b).times [] (least (made i b).times (made i b).positive) (All-nil AtLeastZero);
    sum = λ j. turned_sum ((made i b).times *ℤ cell (vector_at new_rays i) j) ((made i b).factor *ℤ cell (vector_at rays i) j) (combined (made i b).factors new_lines j) (combined (scale (neg_ℤ (pos 1)) (made i b).factors) new_lines j) ((made i b).same j) (combined-scale (neg_ℤ (pos 1)) (made i b).factors new_lines j);
  }

  new_spanned : (S : V → Type 0) (i : ℕ) → i < length rays → ((r : V) → Same r (columns rays i) → S r) → SpansBy (In lines) S (columns new_rays i)
  new_spanned S i b f = spans_spans new_line (alone S (vector_at rays i) f) (columns new_rays i) (to_sums new_lines (vector_at rays i ∷ []) (vector_at new_rays i) (forth i b))

  old_spanned : (S : V → Type 0) (i : ℕ) → i < length rays → ((r : V) → Same r (columns new_rays i) → S r) → SpansBy (In new_lines) S (columns rays i)
  old_spanned S i b f = spans_spans (λ l m. spans_sums l (sums_one_line (pos 1) l l m (λ j. once (l j)))) (alone S (vector_at new_rays i) f) (columns rays i) (to_sums new_lines (vector_at new_rays i ∷ []) (vector_at rays i) (back i b))

  old_ray : (r : V) → In rays r → SpansBy (In new_lines) (In new_rays) r
  old_ray r m = spans_same (columns rays m.index) r (old_spanned (In new_rays) m.index m.is (λ u e. record { index = m.index; is = new_below m.index m.is; same = e })) m.same

  new_ray : (i : ℕ) → i < length rays → Spans lines rays (vector_at new_rays i)
  new_ray i b = from_sums lines rays (vector_at new_rays i) (new_spanned (In rays) i b (λ u e. record { index = i; is = b; same = e }))

  others : (i : ℕ) → i < length rays → (r : V) → Beside new_rays i r → SpansBy (In lines) (Beside rays i) r
  others i b r m = spans_same (columns new_rays m.index) r (new_spanned (Beside rays i) m.index (old_below m.index m.is.0) (λ u e. record { index = m.index; is = (old_below m.index m.is.0, m.is.1); same = e })) m.same

  pub formed_irredundant : IsIrredundant lines rays → IsIrredundant new_lines new_rays
  formed_irredundant h = needed_by_lists new_lines new_rays (λ i g s.
      let b : i < length rays = old_below i g in
      let t : SpansBy (In lines) (Beside rays i) (columns new_rays i) = spans_spans new_line (others i b) (columns new_rays i) s in
      needed_by_columns lines rays h i b
      (spans_spans {L = In new_lines} {R = Same (columns new_rays i)} new_line (λ r e. spans_same (columns new_rays i) r t (λ j. sym (e j))) (columns rays i) (old_spanned (Same (columns new_rays i)) i b (λ r e j. sym (e j)))))

  pub formed_echelon : IsEchelon new_lines new_rays
  formed_echelon = record {
    pivot = basis.echelon.pivot;
    pivots = basis.echelon.pivots;
    ordered = basis.echelon.ordered;
    lines_zero = basis.echelon.lines_zero;
    rays_zero = λ i k hi hk. (made k (old_below k hk)).zeros i (basis.echelon.pivot i) hi (basis.echelon.pivots i hi);
  }

  pub formed_primitive : All IsPrimitive new_rays
  formed_primitive = All-from_get_or IsPrimitive new_rays [] (λ k h. (made k (old_below k h)).primitive)

  module _ (width : ℕ) (rows : List Row) (form : IsMinimalForm (ConeOf width rows) lines rays) (wide : All (λ (l : List ℤ). length l ≡ width) new_lines) where
    within : (v : List ℤ) → length v ≡ width → Spans lines rays v → ConeOf width rows v
    within v w s = spanned_within width rows (length rows) lines rays v form.generates w s

    line_spanned : (i : ℕ) → i < length new_lines → SpansBy (In lines) Nothing (columns new_lines i)
    line_spanned i b = new_line (columns new_lines i) (in_at new_lines i b)

    any_rays : (v : V) → SpansBy (In lines) Nothing v → SpansBy (In lines) (In rays) v
    any_rays v s = spans_more (λ l m. m) (λ r m. elim m [ ]) v s

    negated_spanned : (i : ℕ) → i < length new_lines → SpansBy (In lines) Nothing (cell (negated (vector_at new_lines i)))
    negated_spanned i b = lines_spans_scale (neg_ℤ (pos 1)) (columns new_lines i) (cell (negated (vector_at new_lines i))) (line_spanned i b) (cell-scale (neg_ℤ (pos 1)) (vector_at new_lines i))

    formed_generates : Generates (ConeOf width rows) new_lines new_rays
    formed_generates = record {
      lines_within = All-from_get_or (λ l. ConeOf width rows l × ConeOf width rows (negated l)) new_lines [] (λ i b. (
        within (vector_at new_lines i) (wide i [] b) (from_sums lines rays (vector_at new_lines i) (any_rays (columns new_lines i) (line_spanned i b))),
        within (negated (vector_at new_lines i)) (length-scale (neg_ℤ (pos 1)) (vector_at new_lines i) ∙ wide i [] b) (from_sums lines rays (negated (vector_at new_lines i)) (any_rays (cell (negated (vector_at new_lines i))) (negated_spanned i b))),
      ));
      rays_within = All-from_get_or (ConeOf width rows) new_rays [] (λ i b. within (vector_at new_rays i) ((made i (old_below i b)).wide ∙ (form.generates.rays_within i [] (old_below i b)).wide) (new_ray i (old_below i b)));
      spans = λ v c. from_sums new_lines new_rays v (spans_spans old_line old_ray (cell v) (to_sums lines rays v (form.generates.spans v c)));
    }

    formed_lineality : HasLineality (ConeOf width rows) new_lines
    formed_lineality v c n = from_lines new_lines v (spans_spans old_line (λ r m. elim m [ ]) (cell v) (to_lines lines v (form.lineality v c n)))

    pub formed_system : IsSystem (ConeOf width rows) new_lines new_rays
    formed_system = record {
      generates = formed_generates;
      lineality = formed_lineality;
      echelon = formed_echelon;
      primitive_lines = basis.primitive;
      primitive_rays = formed_primitive;
      irredundant = formed_irredundant form.irredundant;
    }

pub formed_is_system : FormedIsSystem
formed_is_system width rows lines rays new_lines new_rays form wide basis reduced = formed_system lines rays new_lines new_rays basis reduced width rows form wide
