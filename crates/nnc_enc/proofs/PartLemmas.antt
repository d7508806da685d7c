-- What the strong calls give is part of what the decoding calls give.
use Rattle.std.proofs.Common.{◌≡◌, ◌⊎◌, inl, inr, ℕ, ◌+◌, ◌-◌, ◌<◌, ◌≤◌, List, [], length, slice_index_or, ℤ, sym, ap, ◌∙◌, subst, arith}
use Rattle.std.specs.List.{Contains}
use Rattle.std.specs.Prelude.{All}
use Rattle.std.proofs.lemmas.Bool.{cases_lt}
use Rattle.std.proofs.lemmas.List.{get_or_default}
use Rattle.std.proofs.lemmas.List.Elements.{All-from_get_or}
use Rattle.row_core.specs.Vectors.{cell}
use Rattle.row_core.proofs.OnePrimitive.{IsPrimitiveOf-once}
use Rattle.row_core.specs.Lists.{Row, row_at}
use Rattle.cons_sys.specs.Constraints.{Constraint}
use Rattle.cons_sys.specs.declared.kind.ConKind.TheVariants.{Eq}
use Rattle.gens_sys.specs.Generators.{Generator}
use Rattle.gens_sys.specs.declared.kind.GenKind.TheVariants.{Line}
use Rattle.nnc_enc.specs.Encoding.{lowered}
use Rattle.nnc_enc.specs.StrongRows.{HasVariable}
use Rattle.nnc_enc.specs.DecodedVectors.{kind_of}
use Rattle.row_core.specs.Lists.{vectors}
use Rattle.nnc_enc.specs.Decoding.{index_at, con_kind, Stands, AreListed, IsNamed, AreKept, AreDecodedRows, AreDecodedVectors}
use Rattle.nnc_enc.specs.Sorting.{AreStrongRows, AreStrongVectors}
use Rattle.nnc_enc.proofs.MarkLemmas.{length-vectors, vector_at-vectors}
use Rattle.nnc_enc.proofs.OrderLemmas.{kept_permutation}

module _ {K : Type 0} (d : List ℤ × K) (line_kind : K) (ray_kind : List ℤ → K) (dim : ℕ) (lines rays : List Row) where
  -- one row has one entry
  same_entry : (r : List ℤ) (kind : K) (x y : List ℤ × K) → Stands dim r kind x → Stands dim r kind y → x ≡ y
  same_entry r kind (v, k) (w, l) s t =
      ap (λ (u : List ℤ). (u, k)) (IsPrimitiveOf-once (lowered dim r) v w s.primitive t.primitive)
      ∙ ap (λ (m : K). (w, m)) (s.kind ∙ sym t.kind)

  contained : (list : List (List ℤ × K)) (m : ℕ) (x : List ℤ × K) → m < length list → slice_index_or list m d ≡ x → Contains list x
  contained list m x h e = (m, h, get_or_default list m x d h ∙ e)

  -- a list is part of another that names the rows that it names
  pub part_of : (order others : List ℕ) (list whole : List (List ℤ × K)) → AreListed d line_kind ray_kind dim lines rays order list → AreListed d line_kind ray_kind dim lines rays others whole → ((i : ℕ) → i < length order → IsNamed others (index_at order i)) → All (Contains whole) list
  part_of order others list whole a b named = All-from_get_or (Contains whole) list d (λ i h. by_place i h (cases_lt i (length lines)))
    where
      in_ray : (k : ℕ) → k < length order → Contains whole (slice_index_or list (length lines + k) d)
      in_ray k h =
          let n = named k h in
          contained whole (length lines + n.place) (slice_index_or list (length lines + k) d) (omega (arith, n.below, b.as_many))
          (same_entry (row_at rays (index_at order k)) (ray_kind (row_at rays (index_at order k))) (slice_index_or whole (length lines + n.place) d) (slice_index_or list (length lines + k) d)
          (subst (λ (j : ℕ). Stands dim (row_at rays j) (ray_kind (row_at rays j)) (slice_index_or whole (length lines + n.place) d)) n.same (b.ray n.place n.below)) (a.ray k h))

      by_place : (i : ℕ) → i < length list → (i < length lines) ⊎ (length lines ≤ i) → Contains whole (slice_index_or list i d)
      by_place i h (inl l) = contained whole i (slice_index_or list i d) (omega (arith, l, b.as_many)) (same_entry (row_at lines i) line_kind (slice_index_or whole i d) (slice_index_or list i d) (b.line i l) (a.line i l))
      by_place i h (inr l) = subst (λ (m : ℕ). Contains whole (slice_index_or list m d)) (omega (arith, l)) (in_ray (i - length lines) (omega (arith, l, h, a.as_many)))

pub strong_rows_are_decoded : (dim : ℕ) (gens lines rays : List Row) (decoded strong : List Constraint) → AreDecodedRows dim lines rays decoded → AreStrongRows dim gens lines rays strong → All (Contains decoded) strong
strong_rows_are_decoded dim gens lines rays decoded strong w s =
    part_of ([], Eq) Eq (λ (a : List ℤ). con_kind (cell a dim)) dim lines rays s.order w.order strong decoded s.listed w.listed
    (λ i h.
    (let e = kept.each i h in
    let n : index_at s.order i < length (vectors rays) = omega (arith, e.0, length-vectors rays) in
    w.kept.all (index_at s.order i) e.0
    ((w.variables.each (index_at s.order i) e.0).1 (subst (HasVariable dim) (vector_at-vectors rays (index_at s.order i)) (s.pass.variable (index_at s.order i) n e.1)))))
  where
    kept : AreKept s.keep s.order (length rays)
    kept = kept_permutation s.keep (length rays) s.kept s.order s.ordered.permutation s.are_kept

pub strong_vectors_are_decoded : (dim : ℕ) (rows lines rays : List Row) (decoded strong : List Generator) → AreDecodedVectors dim lines rays decoded → AreStrongVectors dim rows lines rays strong → All (Contains decoded) strong
strong_vectors_are_decoded dim rows lines rays decoded strong w s =
    part_of ([], Line) Line (kind_of dim) dim lines rays s.order w.order strong decoded s.listed w.listed
    (λ i h. w.kept.all (index_at s.order i) ((kept.each i h).0) (w.all (index_at s.order i) ((kept.each i h).0)))
  where
    kept : AreKept s.keep s.order (length rays)
    kept = kept_permutation s.keep (length rays) s.kept s.order s.ordered.permutation s.are_kept
