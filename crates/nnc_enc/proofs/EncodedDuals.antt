-- An encoded cone and the rows that are valid on it, each by the canonical system of the other.
use Rattle.std.proofs.Common.{◌≡◌, ℕ, suc, ◌+◌, List, [], ◌∷◌, ◌++◌, length, replicate, ℤ, pos, negsuc, ◌+ℤ◌, ◌*ℤ◌, neg_ℤ, ◌≤ℤ◌, ◌<ℤ◌, sym, ap, ◌∙◌, subst, arith}
use Rattle.std.proofs.lemmas.Int.{ints}
use Rattle.row_core.specs.Vectors.{cell, dot}
use Rattle.row_core.specs.Lists.{system_rows}
use Rattle.cone_laws.specs.Canon.{IsSystem}
use Rattle.cone_laws.proofs.Ring.{mul-zero}
use Rattle.cone_laws.proofs.Columns.{dot_comm}
use Rattle.cone_laws.specs.Cones.{Upto}
use Rattle.cone_laws.specs.Members.{ConeOf}
use Rattle.cone_laws.proofs.ValidRows.{least_on_spanned, row_of_valid}
use Rattle.nnc_enc.specs.EncodedDuals.{EncodedHasDual, DualIsEncoded}
use Rattle.nnc_enc.specs.Encoding.{raised, lowered, height_row, bound_row, IsEncoded, IsEncodedDual}
use Rattle.nnc_enc.proofs.EncodedRows.{dot_by_height, insert_remove, remove_insert, length_remove, length_insert, cell_insert, cell_insert_after, height_row_value, bound_row_value, length_last, length_replicate}

module _ (dim : ℕ) where
  pub lowered_width : (v : List ℤ) → length v ≡ dim + 2 → length (lowered dim v) ≡ dim + 1
  lowered_width v w = omega (arith, length_remove dim v (omega (arith, w)), w)

  pub flat_width : (v : List ℤ) → length v ≡ dim + 2 → length (raised dim (lowered dim v) (pos 0)) ≡ dim + 2
  flat_width v w = length_insert dim (lowered dim v) (pos 0) (omega (arith, lowered_width v w)) ∙ ap suc (lowered_width v w) ∙ omega arith

  drop_height : (s c t : ℤ) → t ≡ s +ℤ c *ℤ pos 0 → t ≡ s
  drop_height s c t e = let h = mul-zero c in omega (arith, ints, e, h)

  -- the value on a vector without column e
  pub value_flat : (a v : List ℤ) → length a ≡ dim + 2 → length v ≡ dim + 2 → dot a (raised dim (lowered dim v) (pos 0)) ≡ dot (lowered dim a) (lowered dim v)
  value_flat a v w x =
      drop_height (dot (lowered dim a) (lowered dim v)) (cell a dim) (dot a (raised dim (lowered dim v) (pos 0)))
      (dot_by_height dim a (raised dim (lowered dim v) (pos 0)) (omega (arith, w)) (omega (arith, flat_width v x))
      ∙ ap (λ (q : List ℤ). dot (lowered dim a) q +ℤ cell a dim *ℤ cell (raised dim (lowered dim v) (pos 0)) dim) (remove_insert dim (lowered dim v) (pos 0) (omega (arith, lowered_width v x)))
      ∙ ap (λ (y : ℤ). dot (lowered dim a) (lowered dim v) +ℤ cell a dim *ℤ y) (cell_insert dim (lowered dim v) (pos 0) (omega (arith, lowered_width v x))))

  flat_swap : (a v : List ℤ) → length a ≡ dim + 2 → length v ≡ dim + 2 → dot a (raised dim (lowered dim v) (pos 0)) ≡ dot v (raised dim (lowered dim a) (pos 0))
  flat_swap a v w x = value_flat a v w x ∙ dot_comm (lowered dim a) (lowered dim v) ∙ sym (value_flat v a x w)

  again : (v : List ℤ) → length v ≡ dim + 2 → raised dim (lowered dim v) (cell v dim) ≡ v
  again v w = insert_remove dim v (omega (arith, w))

  pub height_at : (v : List ℤ) → length v ≡ dim + 2 → dot v (height_row dim).0 ≡ cell v dim
  height_at v w = dot_comm v (height_row dim).0 ∙ sym (ap (dot (height_row dim).0) (again v w)) ∙ height_row_value dim (lowered dim v) (cell v dim) (omega (arith, lowered_width v w))

  pub last_at : (v : List ℤ) → length v ≡ dim + 2 → cell v (dim + 1) ≡ cell (lowered dim v) dim
  last_at v w = sym (ap (λ (u : List ℤ). cell u (dim + 1)) (again v w)) ∙ ap (cell (raised dim (lowered dim v) (cell v dim))) (omega arith) ∙ cell_insert_after dim (lowered dim v) (cell v dim) (omega (arith, lowered_width v w))

  pub bound_at : (v : List ℤ) → length v ≡ dim + 2 → dot v (bound_row dim).0 ≡ cell v (dim + 1) +ℤ neg_ℤ (cell v dim)
  bound_at v w =
      dot_comm v (bound_row dim).0 ∙ sym (ap (dot (bound_row dim).0) (again v w)) ∙ bound_row_value dim (lowered dim v) (cell v dim) (omega (arith, lowered_width v w))
      ∙ ap (λ (z : ℤ). z +ℤ neg_ℤ (cell v dim)) (sym (last_at v w))

  pub height_width : length (height_row dim).0 ≡ dim + 2
  height_width = length_insert dim (replicate (dim + 1) (pos 0)) (pos 1) (omega (arith, length_replicate (dim + 1))) ∙ omega (arith, length_replicate (dim + 1))

  pub bound_width : length (bound_row dim).0 ≡ dim + 2
  bound_width = length_insert dim (replicate dim (pos 0) ++ pos 1 ∷ []) (negsuc 0) (omega (arith, length_last dim)) ∙ omega (arith, length_last dim)

  least_difference : (d e : ℤ) → e ≤ℤ d → pos 0 ≤ℤ (d +ℤ neg_ℤ e)
  least_difference d e h = omega (arith, ints, h)

  difference_least : (d e x : ℤ) → x ≡ d +ℤ neg_ℤ e → pos 0 ≤ℤ x → e ≤ℤ d
  difference_least d e x f h = omega (arith, ints, f, h)

  -- ---- from an encoded cone to its rows
  module _ (K : List ℤ → Type 0) (wide : (v : List ℤ) → K v → length v ≡ dim + 2) (lines rays : List (List ℤ)) (system : IsSystem K lines rays) (enc : IsEncoded dim K) (point : List ℤ) (inside : K point) (above : pos 0 <ℤ cell point dim) where
    row_of : (b : List ℤ) → length b ≡ dim + 2 → ((v : List ℤ) → K v → pos 0 ≤ℤ dot v b) → ConeOf (dim + 2) (system_rows lines rays) b
    row_of b w f = row_of_valid (dim + 2) K lines rays system.generates b w (λ v k. subst (λ (z : ℤ). pos 0 ≤ℤ z) (dot_comm v b) (f v k))

    -- the rows that are valid on an encoded cone with a point
    pub dual_of_encoded : IsEncodedDual dim (ConeOf (dim + 2) (system_rows lines rays))
    dual_of_encoded = record {
      flat = λ a u. row_of (raised dim (lowered dim a) (pos 0)) (flat_width a u.wide)
          (λ v k. subst (λ (z : ℤ). pos 0 ≤ℤ z) (flat_swap a v u.wide (wide v k)) (least_on_spanned (dim + 2) lines rays a (raised dim (lowered dim v) (pos 0)) u (system.generates.spans (raised dim (lowered dim v) (pos 0)) (enc.flat v k))));
      height = row_of (height_row dim).0 height_width (λ v k. subst (λ (z : ℤ). pos 0 ≤ℤ z) (sym (height_at v (wide v k))) (enc.height v k));
      bound = row_of (bound_row dim).0 bound_width (λ v k. subst (λ (z : ℤ). pos 0 ≤ℤ z) (sym (bound_at v (wide v k))) (least_difference (cell v (dim + 1)) (cell v dim) (enc.bound v k)));
      vector = point;
      wide = wide point inside;
      above = above;
      least = λ a u. least_on_spanned (dim + 2) lines rays a point u (system.generates.spans point inside);
    }

  -- ---- from the rows to the encoded cone
  module _ (D : List ℤ → Type 0) (wide : (a : List ℤ) → D a → length a ≡ dim + 2) (lines rays : List (List ℤ)) (system : IsSystem D lines rays) (enc : IsEncodedDual dim D) where
    vector_of : (v : List ℤ) → length v ≡ dim + 2 → ((a : List ℤ) → D a → pos 0 ≤ℤ dot a v) → ConeOf (dim + 2) (system_rows lines rays) v
    vector_of v w f = row_of_valid (dim + 2) D lines rays system.generates v w (λ a k. subst (λ (z : ℤ). pos 0 ≤ℤ z) (dot_comm a v) (f a k))

    pub encoded_of_dual : IsEncoded dim (ConeOf (dim + 2) (system_rows lines rays))
    encoded_of_dual = record {
      height = λ v u. subst (λ (z : ℤ). pos 0 ≤ℤ z) (height_at v u.wide) (least_on_spanned (dim + 2) lines rays v (height_row dim).0 u (system.generates.spans (height_row dim).0 enc.height));
      bound = λ v u. difference_least (cell v (dim + 1)) (cell v dim) (dot v (bound_row dim).0) (bound_at v u.wide) (least_on_spanned (dim + 2) lines rays v (bound_row dim).0 u (system.generates.spans (bound_row dim).0 enc.bound));
      flat = λ v u. vector_of (raised dim (lowered dim v) (pos 0)) (flat_width v u.wide)
          (λ a k. subst (λ (z : ℤ). pos 0 ≤ℤ z) (flat_swap v a u.wide (wide a k)) (least_on_spanned (dim + 2) lines rays v (raised dim (lowered dim a) (pos 0)) u (system.generates.spans (raised dim (lowered dim a) (pos 0)) (enc.flat a k))));
    }

    pub point_of_dual : ConeOf (dim + 2) (system_rows lines rays) enc.vector
    point_of_dual = vector_of enc.vector enc.wide enc.least

pub encoded_has_dual : EncodedHasDual
encoded_has_dual dim rows lines rays point system enc inside above = dual_of_encoded dim (Upto (dim + 2) rows (length rows)) (λ v k. k.wide) lines rays system enc point inside above

pub dual_is_encoded : DualIsEncoded
dual_is_encoded dim gens lines rays system enc = (encoded_of_dual dim (Upto (dim + 2) gens (length gens)) (λ a k. k.wide) lines rays system enc, record { vector = enc.vector; member = point_of_dual dim (Upto (dim + 2) gens (length gens)) (λ a k. k.wide) lines rays system enc; above = enc.above })
