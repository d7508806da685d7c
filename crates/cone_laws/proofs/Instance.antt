-- The cone of the first rows of a list is one of a system over columns, where its lines and rays generate it and no ray is to spare.
use Rattle.std.proofs.Common.{◌≡◌, ◌⊎◌, inl, inr, ℕ, ◌<◌, ◌≤◌, List, [], length, slice_index_or, Bool, true, false, ℤ, pos, ◌+ℤ◌, ◌*ℤ◌, neg_ℤ, ◌≤ℤ◌, remove, refl, sym, ap, ◌∙◌, subst, arith}
use Rattle.std.proofs.lemmas.Int.{ints}
use Rattle.std.proofs.lemmas.List.{get_or_default}
use Rattle.std.proofs.lemmas.List.Edits.{length-remove}
use Rattle.row_core.specs.Vectors.{cell, dot, scale, add}
use Rattle.row_core.specs.Lists.{Row, row_at, vector_at}
use Rattle.cone_laws.specs.Cones.{Upto, Generates, HasLineality, negated}
use Rattle.cone_laws.specs.Canon.{IsIrredundant}
use Rattle.row_core.proofs.Ring.{mul-zero}
use Rattle.cone_laws.proofs.Sums.{V, Same, Nothing, Among, SpansBy, same_value, spans_same, spans_more}
use Rattle.cone_laws.proofs.Columns.{value, value_linear, dot_is, cell-scale, cell-add, length-scale, length-add, dot-add, dot-scale}
use Rattle.cone_laws.proofs.Bridge.{columns, In, to_sums, to_lines, from_sums}
use Rattle.cone_laws.proofs.EchelonForm.{old_place, old_place_is, old_place-other, remove-place}
use Rattle.cone_laws.proofs.LineSteps.{InRest, whole_in_rest}
use Rattle.cone_laws.proofs.UptoRows.{Asks, asks_least, IsZeroOn, upto_zero, both_zero, negated_zero}
use Rattle.cone_laws.proofs.Systems.{Others, Combines, System, IsFlat}

-- ---- a list without one vector
-- the vectors of the list but that at the index
abbrev pub Beside : List (List ℤ) → ℕ → V → Type 0
Beside vectors index = Among (columns vectors) (Others (length vectors) index)

pub rest_beside : (vectors : List (List ℤ)) (index : ℕ) → index < length vectors → (v : V) → In (remove vectors index) v → Beside vectors index v
rest_beside vectors index b v m = record {
  index = old_place index m.index;
  is = (omega (arith, length-remove vectors index b, m.is, old_place_is index m.index), old_place-other index m.index);
  same = λ j. m.same j ∙ ap (λ (u : List ℤ). cell u j) (remove-place vectors index m.index [] b);
}

pub beside_rest : (vectors : List (List ℤ)) (index : ℕ) → index < length vectors → (v : V) → Beside vectors index v → In (remove vectors index) v
beside_rest vectors index b v m = by_place (whole_in_rest vectors index m.index b m.is.0)
  where
    by_place : InRest vectors index m.index ⊎ (m.index ≡ index) → In (remove vectors index) v
    by_place (inl r) = record { index = r.place; is = r.below; same = λ j. m.same j ∙ ap (λ (u : List ℤ). cell u j) r.same }
    by_place (inr e) = absurd (m.is.1 e)

-- a list without a vector to spare, over columns
pub needed_by_columns : (lines rays : List (List ℤ)) → IsIrredundant lines rays → (j : ℕ) → j < length rays → ¬ (SpansBy (In lines) (Beside rays j) (columns rays j))
needed_by_columns lines rays needed j b s = needed j b (from_sums lines (remove rays j) (vector_at rays j) (spans_more (λ l m. m) (beside_rest rays j b) (columns rays j) s))

pub needed_by_lists : (lines rays : List (List ℤ)) → ((j : ℕ) → j < length rays → ¬ (SpansBy (In lines) (Beside rays j) (columns rays j))) → IsIrredundant lines rays
needed_by_lists lines rays needed j b s = needed j b (spans_more (λ l m. m) (rest_beside rays j b) (columns rays j) (to_sums lines (remove rays j) (vector_at rays j) s))

-- ---- a row of the list, whatever stands past its end
pub row_is : (rows : List Row) (k i : ℕ) (d : Row) → k ≤ length rows → i < k → (slice_index_or rows i d).0 ≡ row_at rows i
row_is rows k i d h b = ap (λ (r : Row). r.0) (get_or_default rows i d ([], false) (omega arith))

-- by column, the values of a row
pub column_value : (rows : List Row) (i : ℕ) (v : List ℤ) → value (row_at rows i) (cell v) ≡ dot (row_at rows i) v
column_value rows i v = sym (dot_is (row_at rows i) v)

combined_wide : (s t : ℤ) (c d : List ℤ) (width : ℕ) → length c ≡ width → length d ≡ width → length (add (scale s c) (scale t d)) ≡ width
combined_wide s t c d width e f = length-add (scale s c) (scale t d) (length-scale s c ∙ e ∙ sym f ∙ sym (length-scale t d)) ∙ length-scale t d ∙ f

combined_cell : (s t : ℤ) (c d : List ℤ) (j : ℕ) → cell (add (scale s c) (scale t d)) j ≡ s *ℤ cell c j +ℤ t *ℤ cell d j
combined_cell s t c d j = cell-add (scale s c) (scale t d) j ∙ ap (λ (z : ℤ). z +ℤ cell (scale t d) j) (cell-scale s c j) ∙ ap (λ (z : ℤ). s *ℤ cell c j +ℤ z) (cell-scale t d j)

both_asked : (eq : Bool) (e c d s t : ℤ) → Asks eq c → Asks eq d → e ≡ s *ℤ c +ℤ t *ℤ d → pos 0 ≤ℤ e → Asks eq e
both_asked true e c d s t p q h least = h ∙ ap (λ (z : ℤ). s *ℤ z +ℤ t *ℤ d) p ∙ ap (λ (z : ℤ). s *ℤ pos 0 +ℤ t *ℤ z) q ∙ omega (arith, ints, mul-zero s, mul-zero t)
both_asked false e c d s t p q h least = least

-- ---- the cone over columns
-- the columns of a vector that the first k rows admit
pub record InCone (width : ℕ) (rows : List Row) (k : ℕ) (v : V) : Type 0 where
  pub vector : List ℤ
  pub upto : Upto width rows k vector
  pub same : Same v (cell vector)

module _ (width : ℕ) (rows : List Row) (k : ℕ) (fits : k ≤ length rows) where
  -- the map of row i
  abbrev pub map_at : ℕ → V → ℤ
  map_at i = value (row_at rows i)

  cone_value : (v : V) (m : InCone width rows k v) (i : ℕ) (d : Row) → i < k → dot (slice_index_or rows i d).0 m.vector ≡ map_at i v
  cone_value v m i d b = ap (λ (a : List ℤ). dot a m.vector) (row_is rows k i d fits b) ∙ dot_is (row_at rows i) m.vector ∙ sym (same_value (map_at i) (value_linear (row_at rows i)) v (cell m.vector) m.same)

  cone_side : (i : ℕ) → i < k → (v : V) → InCone width rows k v → pos 0 ≤ℤ map_at i v
  cone_side i b v m = subst (λ (z : ℤ). pos 0 ≤ℤ z) (cone_value v m i ([], false) b) (asks_least (slice_index_or rows i ([], false)).1 (dot (row_at rows i) m.vector) (m.upto.meets i ([], false) (omega arith) b))

  cone_combine : (e c d : V) (s t : ℤ) → InCone width rows k c → InCone width rows k d → Combines e s c t d → ((i : ℕ) → i < k → pos 0 ≤ℤ map_at i e) → InCone width rows k e
  cone_combine e c d s t m n h least = record {
    vector = add (scale s m.vector) (scale t n.vector);
    upto = record {
      wide = combined_wide s t m.vector n.vector width m.upto.wide n.upto.wide;
      meets = λ i x low b. both_asked (slice_index_or rows i x).1 (dot (slice_index_or rows i x).0 (add (scale s m.vector) (scale t n.vector))) (dot (slice_index_or rows i x).0 m.vector) (dot (slice_index_or rows i x).0 n.vector) s t (m.upto.meets i x low b) (n.upto.meets i x low b) (dot_combined i x) (subst (λ (z : ℤ). pos 0 ≤ℤ z) (sym (new_value i x b)) (least i b));
    };
    same = same_cells;
  }
    where
      same_cells : Same e (cell (add (scale s m.vector) (scale t n.vector)))
      same_cells j = h j ∙ ap (λ (z : ℤ). s *ℤ z +ℤ t *ℤ d j) (m.same j) ∙ ap (λ (z : ℤ). s *ℤ cell m.vector j +ℤ t *ℤ z) (n.same j) ∙ sym (combined_cell s t m.vector n.vector j)

      dot_combined : (i : ℕ) (x : Row) → dot (slice_index_or rows i x).0 (add (scale s m.vector) (scale t n.vector)) ≡ s *ℤ dot (slice_index_or rows i x).0 m.vector +ℤ t *ℤ dot (slice_index_or rows i x).0 n.vector
      dot_combined i x = by_columns (slice_index_or rows i x).0
        where
          by_columns : (a : List ℤ) → dot a (add (scale s m.vector) (scale t n.vector)) ≡ s *ℤ dot a m.vector +ℤ t *ℤ dot a n.vector
          by_columns a = dot-add a (scale s m.vector) (scale t n.vector) ∙ ap (λ (z : ℤ). z +ℤ dot a (scale t n.vector)) (dot-scale a s m.vector) ∙ ap (λ (z : ℤ). s *ℤ dot a m.vector +ℤ z) (dot-scale a t n.vector)

      new_value : (i : ℕ) (x : Row) → i < k → dot (slice_index_or rows i x).0 (add (scale s m.vector) (scale t n.vector)) ≡ map_at i e
      new_value i x b = ap (λ (a : List ℤ). dot a (add (scale s m.vector) (scale t n.vector))) (row_is rows k i x fits b) ∙ dot_is (row_at rows i) (add (scale s m.vector) (scale t n.vector)) ∙ sym (same_value (map_at i) (value_linear (row_at rows i)) e (cell (add (scale s m.vector) (scale t n.vector))) same_cells)

  module _ (lines rays : List (List ℤ)) (gen : Generates (Upto width rows k) lines rays) where
    line_flat : (i : ℕ) → i < k → (l : V) → In lines l → map_at i l ≡ pos 0
    line_flat i b l m = same_value (map_at i) (value_linear (row_at rows i)) l (columns lines m.index) m.same ∙ column_value rows i (vector_at lines m.index) ∙ both_zero width rows k (vector_at lines m.index) (gen.lines_within m.index [] m.is).0 (gen.lines_within m.index [] m.is).1 i ([], false) b

    ray_in_cone : (j : ℕ) → j < length rays → InCone width rows k (columns rays j)
    ray_in_cone j b = record { vector = vector_at rays j; upto = gen.rays_within j [] b; same = λ i. refl }

    cone_spans : (v : V) → InCone width rows k v → SpansBy (In lines) (In rays) v
    cone_spans v m = spans_same (cell m.vector) v (to_sums lines rays m.vector (gen.spans m.vector m.upto)) m.same

    flat_zero : (v : V) → (m : InCone width rows k v) → IsFlat map_at k v → IsZeroOn rows k m.vector
    flat_zero v m flat i d b = cone_value v m i d b ∙ flat i b

    cone_lineal : HasLineality (Upto width rows k) lines → (v : V) → InCone width rows k v → IsFlat map_at k v → SpansBy (In lines) Nothing v
    cone_lineal lineal v m flat = spans_same (cell m.vector) v (to_lines lines m.vector (lineal m.vector m.upto (upto_zero width rows k (negated m.vector) (length-scale (neg_ℤ (pos 1)) m.vector ∙ m.upto.wide) (negated_zero rows k m.vector (flat_zero v m flat))))) m.same

    pub system : HasLineality (Upto width rows k) lines → IsIrredundant lines rays → System (In lines) (columns rays) (length rays) map_at k (InCone width rows k)
    system lineal needed = record {
      linear = λ i. value_linear (row_at rows i);
      flat = line_flat;
      rays = ray_in_cone;
      side = cone_side;
      combine = cone_combine;
      spans = cone_spans;
      lineal = cone_lineal lineal;
      irredundant = needed_by_columns lines rays needed;
    }
