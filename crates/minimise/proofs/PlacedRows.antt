-- Rows of a list at some places.
use Rattle.std.proofs.Common.{◌≡◌, ℕ, ◌<◌, false, List, [], length, slice_index_or, ℤ, refl, sym, ap, ◌∙◌, subst, arith}
use Rattle.std.specs.Prelude.{All}
use Rattle.std.proofs.lemmas.List.{length-map, get_or-map, get_or_default}
use Rattle.row_core.specs.Content.{IsPrimitive}
use Rattle.row_core.specs.Lists.{Row, Rows, row_at, vectors}
use Rattle.row_core.proofs.ContentLemmas.{IsMultipleOf-refl}
use Rattle.row_core.proofs.RowListLemmas.{length-vectors, vector_at-vectors}
use Rattle.ray_order.specs.RowOrders.{row_of}
use Rattle.minimise.specs.Bases.{IsReduced, AreReduced}
use Rattle.minimise.specs.Rays.{placed_rows, rays_from}
use Rattle.minimise.specs.declared.rays.Rays.{Rays}
use Rattle.minimise.proofs.Reductions.{reduced_none}

-- a primitive row is itself reduced
reduced_itself : (a : List ℤ) → IsPrimitive a → IsReduced [] a a
reduced_itself a h = reduced_none a a (record { multiple = IsMultipleOf-refl a; primitive = h }) refl

module _ (list : Rows) (places : List ℕ) where
  pub length-placed : length (placed_rows list places).rows ≡ length places
  length-placed = length-map places (row_of list.rows)

  pub row_at-placed : (i d : ℕ) → i < length places → row_at (placed_rows list places).rows i ≡ row_at list.rows (slice_index_or places i d)
  row_at-placed i d h = ap (λ (row : Row). row.0) (get_or-map (row_of list.rows) places i d ([], false) h)

  -- primitive rows are reduced as they stand
  pub placed_reduced : All (λ i. IsPrimitive (row_at list.rows i)) places → AreReduced [] list.rows places (vectors (placed_rows list places).rows)
  placed_reduced h = record {
    as_many = length-vectors (placed_rows list places).rows ∙ length-placed;
    each = λ i d e k.
        let rows : List Row = (placed_rows list places).rows in
        let same : row_at list.rows (slice_index_or places i d) ≡ slice_index_or (vectors (placed_rows list places).rows) i e =
        sym (row_at-placed i d k) ∙ sym (vector_at-vectors rows i) ∙ get_or_default (vectors rows) i [] e (omega (arith, k, length-vectors rows, length-placed)) in
        subst (λ (v : List ℤ). IsReduced [] (row_at list.rows (slice_index_or places i d)) v) same (reduced_itself (row_at list.rows (slice_index_or places i d)) (h i d k));
  }

-- the same rays at the same places
pub reduced_at : (list : Rows) (lines : List (List ℤ)) (lent places : List ℕ) (rays : Rays) → lent ≡ places → AreReduced lines list.rows lent (vectors (rays_from list lent rays).rows) → AreReduced lines list.rows places (vectors (rays_from list places rays).rows)
reduced_at list lines lent places rays is = subst (λ (ps : List ℕ). AreReduced lines list.rows ps (vectors (rays_from list ps rays).rows)) is

pub rays_wide_at : (list : Rows) (lent places : List ℕ) (rays : Rays) → lent ≡ places → (rays_from list lent rays).width ≡ list.width → (rays_from list places rays).width ≡ list.width
rays_wide_at list lent places rays is = subst (λ (ps : List ℕ). (rays_from list ps rays).width ≡ list.width) is
