-- What the strong calls give is in stored form.
use Rattle.std.proofs.Common.{◌≡◌, ◌≢◌, ◌⊎◌, inl, inr, ℕ, zero, suc, ◌+◌, ◌-◌, ◌<◌, ◌≤◌, List, [], length, take, drop, slice_index_or, ℤ, pos, negsuc, sym, ap, ◌∙◌, subst, arith}
use Rattle.std.proofs.lemmas.Bool.{cases_lt}
use Rattle.std.proofs.lemmas.List.{get_or-map, get_or-take, get_or-drop, length-map, length-take-le, length-drop}
use Rattle.std.proofs.lemmas.List.Elements.{All-from_get_or}
use Rattle.row_core.specs.Vectors.{cell}
use Rattle.row_core.specs.Content.{IsPrimitive}
use Rattle.row_core.specs.Lists.{Row, row_at, vectors}
use Rattle.row_core.specs.Orders.{IsGreater}
use Rattle.cone_laws.specs.Canon.{vector_at, IsPivot}
use Rattle.cons_sys.specs.Constraints.{Constraint}
use Rattle.cons_sys.specs.declared.kind.ConKind.{ConKind}
use Rattle.cons_sys.specs.declared.kind.ConKind.TheVariants.{Eq}
use Rattle.gens_sys.specs.Generators.{Generators}
use Rattle.gens_sys.specs.declared.kind.GenKind.{GenKind}
use Rattle.gens_sys.specs.declared.kind.GenKind.TheVariants.{Line}
use Rattle.nnc_enc.specs.DecodedVectors.{place_kind, vector_kind, kind_of}
use Rattle.nnc_enc.proofs.RowHeights.{pivot_below}
use Rattle.nnc_enc.specs.Decoding.{index_at, con_kind, AreListed}
use Rattle.nnc_enc.specs.Forms.{entries, IsStoredForm, AreStoredConstraints, AreStoredGenerators}
use Rattle.nnc_enc.specs.Results.{AreRowsOf, AreVectorsOf}
use Rattle.nnc_enc.specs.Sorting.{AreStrongRows, AreStrongVectors}
use Rattle.nnc_enc.proofs.AlikeLemmas.{strong_vectors_are_sorted}
use Rattle.nnc_enc.proofs.FormLemmas.{HasFormByEntry, listed_form, strong_rows_are_sorted}
use Rattle.nnc_enc.proofs.LineLemmas.{pivot_variable}
use Rattle.nnc_enc.proofs.OrderLemmas.{within_permutation}

-- ---- kinds
not_equality : (e : ℤ) → con_kind e ≢ Eq
not_equality (pos e) h = cc
not_equality (negsuc e) h = cc

place_not_line : (d : ℤ) → place_kind d ≢ Line
place_not_line (pos zero) h = cc
place_not_line (pos (suc d)) h = cc
place_not_line (negsuc d) h = cc

vector_not_line : (e d : ℤ) → vector_kind e d ≢ Line
vector_not_line (pos zero) d h = place_not_line d h
vector_not_line (pos (suc e)) d h = cc
vector_not_line (negsuc e) d h = place_not_line d h

-- ---- a list that stands for lines and for rays in order
module _ {K : Type 0} (d : List ℤ × K) (line_kind : K) (ray_kind : List ℤ → K) (dim : ℕ) (lines rays : List Row) (order : List ℕ) (list : List (List ℤ × K)) (listed : AreListed d line_kind ray_kind dim lines rays order list) where
  as_many : length (entries list) ≡ length list
  as_many = length-map list (λ (x : List ℤ × K). x.0)

  first_are : length (take (length lines) (entries list)) ≡ length lines
  first_are = length-take-le (length lines) (entries list) (omega (arith, as_many, listed.as_many))

  others_are : length (drop (length lines) (entries list)) ≡ length order
  others_are = omega (arith, length-drop (length lines) (entries list), as_many, listed.as_many)

  entry_at : (i : ℕ) → i < length list → vector_at (entries list) i ≡ (slice_index_or list i d).0
  entry_at i h = get_or-map (λ (x : List ℤ × K). x.0) list i d [] h

  first_at : (i : ℕ) → i < length lines → vector_at (take (length lines) (entries list)) i ≡ (slice_index_or list i d).0
  first_at i h = get_or-take (length lines) (entries list) i [] h ∙ entry_at i (omega (arith, h, listed.as_many))

  other_at : (k : ℕ) → k < length order → vector_at (drop (length lines) (entries list)) k ≡ (slice_index_or list (length lines + k) d).0
  other_at k h = get_or-drop (length lines) (entries list) k [] ∙ entry_at (length lines + k) (omega (arith, h, listed.as_many))

  -- each entry stands for a line or for a ray
  by_entry : (P : List ℤ × K → Type 0) → ((i : ℕ) → i < length lines → P (slice_index_or list i d)) → ((k : ℕ) → k < length order → P (slice_index_or list (length lines + k) d)) → (i : ℕ) → i < length list → P (slice_index_or list i d)
  by_entry P f g i h = by_place (cases_lt i (length lines))
    where
      by_place : (i < length lines) ⊎ (length lines ≤ i) → P (slice_index_or list i d)
      by_place (inl l) = f i l
      by_place (inr l) = subst (λ (m : ℕ). P (slice_index_or list m d)) (omega (arith, l)) (g (i - length lines) (omega (arith, l, h, listed.as_many)))

  all_primitive : (i : ℕ) → i < length list → IsPrimitive (slice_index_or list i d).0
  all_primitive = by_entry (λ (x : List ℤ × K). IsPrimitive x.0) (λ i h. (listed.line i h).primitive.primitive) (λ k h. (listed.ray k h).primitive.primitive)

  other_kind : ((r : List ℤ) → ray_kind r ≢ line_kind) → (i : ℕ) → i < length list → length lines ≤ i → (slice_index_or list i d).1 ≢ line_kind
  other_kind apart i h l e =
      let k : ℕ = i - length lines in
      let below : i - length lines < length order = omega (arith, l, h, listed.as_many) in
      apart (row_at rays (index_at order (i - length lines)))
      (sym (listed.ray (i - length lines) below).kind ∙ subst (λ (m : ℕ). (slice_index_or list m d).1 ≡ line_kind) (omega (arith, l)) e)

  pub stored_form : ((r : List ℤ) → ray_kind r ≢ line_kind) → HasFormByEntry d (length lines) list → ((k : ℕ) → length lines + (k + 1) < length list → IsGreater (slice_index_or list (length lines + k) d).0 (slice_index_or list (length lines + (k + 1)) d).0) → IsStoredForm d line_kind (length lines) list
  stored_form apart form sorted = record {
    kinds = λ i h. (by_kind i h (cases_lt i (length lines)), λ l. (listed.line i l).kind);
    echelon = record {
      pivot = form.pivot;
      pivots = λ i h. (let l : i < length lines = omega (arith, h, first_are) in subst (λ (v : List ℤ). IsPivot v (form.pivot i)) (sym (first_at i l)) (form.pivots i l));
      ordered = λ i k l h. form.ordered i k l (omega (arith, h, first_are));
      lines_zero = λ i k h l ne. (let m : k < length lines = omega (arith, l, first_are) in ap (λ (v : List ℤ). cell v (form.pivot i)) (first_at k m) ∙ form.zero i k (omega (arith, h, first_are)) (omega (arith, m, listed.as_many)) ne);
      rays_zero = λ i k h l. (let m : k < length order = omega (arith, l, others_are) in let n : i < length lines = omega (arith, h, first_are) in ap (λ (v : List ℤ). cell v (form.pivot i)) (other_at k m) ∙ form.zero i (length lines + k) n (omega (arith, m, listed.as_many)) (λ e. absurd (omega (arith, e, n))));
    };
    primitive = All-from_get_or IsPrimitive (entries list) [] (λ i h. (let l : i < length list = omega (arith, h, as_many) in subst IsPrimitive (sym (entry_at i l)) (all_primitive i l)));
    sorted = λ k h.
        (let l : k + 1 < length order = omega (arith, h, others_are) in
        subst (λ (v : List ℤ). IsGreater v (vector_at (drop (length lines) (entries list)) (k + 1))) (sym (other_at k (omega (arith, l))))
        (subst (λ (v : List ℤ). IsGreater (slice_index_or list (length lines + k) d).0 v) (sym (other_at (k + 1) l)) (sorted k (omega (arith, l, listed.as_many)))));
  }
    where
      by_kind : (i : ℕ) → i < length list → (i < length lines) ⊎ (length lines ≤ i) → (slice_index_or list i d).1 ≡ line_kind → i < length lines
      by_kind i h (inl l) e = l
      by_kind i h (inr l) e = absurd (other_kind apart i h l e)

-- ---- the two lists
pub strong_rows_are_stored : (dim : ℕ) (gens lines rays : List Row) (list : List Constraint) → AreRowsOf dim gens lines rays → AreStrongRows dim gens lines rays list → AreStoredConstraints (length lines) list
strong_rows_are_stored dim gens lines rays list r s =
    stored_form ([], Eq) Eq (λ (a : List ℤ). con_kind (cell a dim)) dim lines rays s.order list s.listed (λ a. not_equality (cell a dim))
    (listed_form ConKind ([], Eq) Eq (λ (a : List ℤ). con_kind (cell a dim)) dim lines rays s.kept s.order list r.system.echelon (λ i h. pivot_below dim gens (vectors lines) (vectors rays) r.wide r.system r.encoded i h)
    (λ i h. within_permutation (length rays) s.keep s.kept s.order s.ordered.permutation s.are_kept i h) s.ordered s.listed)
    (λ k h. strong_rows_are_sorted dim gens lines rays list r s k h)

pub strong_vectors_are_stored : (dim : ℕ) (rows lines rays : List Row) (gs : Generators) → AreVectorsOf dim rows lines rays → AreStrongVectors dim rows lines rays gs.list → AreStoredGenerators (length lines) gs.list
strong_vectors_are_stored dim rows lines rays gs r s =
    stored_form ([], Line) Line (kind_of dim) dim lines rays s.order gs.list s.listed (λ a. vector_not_line (cell a dim) (cell a (dim + 1)))
    (listed_form GenKind ([], Line) Line (kind_of dim) dim lines rays s.kept s.order gs.list r.system.echelon (λ i h. pivot_variable dim rows (vectors lines) (vectors rays) r.wide r.system r.encoded r.vector r.member r.above i h)
    (λ i h. within_permutation (length rays) s.keep s.kept s.order s.ordered.permutation s.are_kept i h) s.ordered s.listed)
    (λ k h. strong_vectors_are_sorted dim rows lines rays gs r s k h)
