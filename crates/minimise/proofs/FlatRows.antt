-- The rows that are 0 on the whole cone are those that are 0 on its rays.
use Rattle.std.proofs.Common.{◌≡◌, ℕ, ◌<◌, List, [], length, slice_index_or, ap, ◌∙◌, arith, ℤ, pos, neg_ℤ, ◌≤ℤ◌, false}
use Rattle.std.specs.Prelude.{All}
use Rattle.std.proofs.lemmas.Int.{ints}
use Rattle.row_core.specs.Vectors.{dot}
use Rattle.row_core.specs.Lists.{Row, row_at}
use Rattle.cone_laws.specs.Cones.{negated}
use Rattle.cone_laws.specs.Canon.{IsSystem}
use Rattle.cone_laws.specs.Members.{ConeOf}
use Rattle.cone_laws.proofs.Spanning.{at_least_zero_on_spanned}
use Rattle.cone_laws.proofs.UptoRows.{both_zero}
use Rattle.cone_laws.proofs.MemberLemmas.{zero_of_signs, negated_dot}
use Rattle.minimise.specs.FlatRows.{IsFlat, IsZeroOnAll, FlatIsZeroOnRays}

least_of_zero : (x : ℤ) → x ≡ pos 0 → pos 0 ≤ℤ x
least_of_zero x e = omega (arith, ints, e)

least_of_negative : (y x : ℤ) → y ≡ neg_ℤ x → x ≡ pos 0 → pos 0 ≤ℤ y
least_of_negative y x e f = omega (arith, ints, e, f)

module _ (width : ℕ) (rows : List Row) (lines rays : List (List ℤ)) (sys : IsSystem (ConeOf width rows) lines rays) where
  -- a row of the list is 0 on the lines
  pub row_on_line : (i : ℕ) → i < length rows → All (λ l. dot (row_at rows i) l ≡ pos 0) lines
  row_on_line i below j d h =
      let within = sys.generates.lines_within j d h in
      both_zero width rows (length rows) (slice_index_or lines j d) within.0 within.1 i ([], false) below

  zero_from_rays : (i : ℕ) → i < length rows → IsZeroOnAll rays (row_at rows i) → IsFlat width rows (row_at rows i)
  zero_from_rays i below zeros v c =
      let a : List ℤ = row_at rows i in
      zero_of_signs (dot a v) (dot (negated a) v)
      (at_least_zero_on_spanned a lines rays v (row_on_line i below) (λ k d h. least_of_zero (dot a (slice_index_or rays k d)) (zeros k d h)) (sys.generates.spans v c))
      (at_least_zero_on_spanned (negated a) lines rays v (λ k d h. negated_dot a (slice_index_or lines k d) ∙ ap neg_ℤ (row_on_line i below k d h)) (λ k d h. least_of_negative (dot (negated a) (slice_index_or rays k d)) (dot a (slice_index_or rays k d)) (negated_dot a (slice_index_or rays k d)) (zeros k d h)) (sys.generates.spans v c))
      (negated_dot a v)

pub flat_is_zero_on_rays : FlatIsZeroOnRays
flat_is_zero_on_rays width rows lines rays i sys below =
    (λ f k d h. f (slice_index_or rays k d) (sys.generates.rays_within k d h), zero_from_rays width rows lines rays sys i below)
