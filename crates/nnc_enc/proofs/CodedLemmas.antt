-- What a ray codes, and what the list of a system admits.
use Rattle.std.proofs.Common.{◌≡◌, ℕ, ◌+◌, List, [], ◌∷◌, length, ℤ, pos, ◌*ℤ◌, ◌≤ℤ◌, ◌<ℤ◌, refl, sym, ap, ◌∙◌, subst, arith}
use Rattle.std.specs.Prelude.{◌↔◌}
use Rattle.std.proofs.lemmas.Int.{ints}
use Rattle.row_core.specs.Vectors.{cell, scale}
use Rattle.row_core.specs.Lists.{Row, row_at, vectors, system_rows}
use Rattle.cone_laws.specs.Cones.{Upto, Spans, Generates}
use Rattle.cone_laws.proofs.Bipolar.{admitted_is_spanned}
use Rattle.cone_laws.specs.Members.{ConeOf}
use Rattle.cone_laws.proofs.MemberLemmas.{spanned_within}
use Rattle.cone_laws.proofs.SystemLists.{lines_of-system_rows, rays_of-system_rows, system_wide}
use Rattle.cone_laws.proofs.ValidRows.{least_on_spanned, valid_of_row, row_of_valid}
use Rattle.cone_laws.proofs.Columns.{dot_comm}
use Rattle.row_core.specs.Points.{IsPoint}
use Rattle.cons_sys.specs.Constraints.{Constraints, In}
use Rattle.gens_sys.specs.Generators.{Generators}
use Rattle.gens_sys.specs.Spans.{Span}
use Rattle.cone_laws.specs.Duality.{lines_of}
use Rattle.nnc_enc.specs.Encoding.{raised, lowered, Codes}
use Rattle.nnc_enc.specs.StrongRows.{IsAdmittedVector}
use Rattle.nnc_enc.proofs.EncodedRows.{insert_remove}
use Rattle.nnc_enc.specs.Coded.{RayIsCoded, SecondListAdmits}
use Rattle.nnc_enc.specs.Decoding.{AreDecodedRows, AreDecodedVectors}
use Rattle.nnc_enc.specs.Results.{AreRowsOf, AreVectorsOf}
use Rattle.nnc_enc.proofs.ResultLemmas.{decoded_rows_code, decoded_vectors_code}
use Rattle.nnc_enc.proofs.MarkLemmas.{length-vectors, vector_at-vectors}

one_time : (x : ℤ) → pos 1 *ℤ x ≡ x
one_time x = omega (arith, ints)

pub scale_one : (v : List ℤ) → scale (pos 1) v ≡ v
scale_one [] = refl
scale_one (x ∷ v) = ap (λ (y : ℤ). y ∷ scale (pos 1) v) (one_time x) ∙ ap (λ (w : List ℤ). x ∷ w) (scale_one v)

-- a vector of the set above 0 in column e codes the vector without column e
pub coded_by : (dim : ℕ) (C : List ℤ → Type 0) (v : List ℤ) → length v ≡ dim + 2 → C v → pos 0 <ℤ cell v dim → Codes dim C (lowered dim v)
coded_by dim C v wide member up = record {
  times = pos 1;
  positive = omega (arith, ints);
  height = cell v dim;
  above = up;
  member = subst C (sym (ap (λ (w : List ℤ). raised dim w (cell v dim)) (scale_one (lowered dim v)) ∙ insert_remove dim v (omega (arith, wide)))) member;
}

pub ray_is_coded : RayIsCoded
ray_is_coded dim rows lines rays i r h up =
    let m : Upto (dim + 2) rows (length rows) (row_at rays i) = subst (Upto (dim + 2) rows (length rows)) (vector_at-vectors rays i) (r.system.generates.rays_within i [] (omega (arith, h, length-vectors rays))) in
    coded_by dim (Upto (dim + 2) rows (length rows)) (row_at rays i) m.wide m up

pub second_list_admits : SecondListAdmits
second_list_admits width rows lines rays v g = (to, λ u. record { wide = u.wide; admits = λ a c. least_on_spanned width lines rays a v c (g.spans v u) })
  where
    to : IsAdmittedVector width (system_rows lines rays) v → ConeOf width rows v
    to u =
        spanned_within width rows (length rows) lines rays v g u.wide
        (subst (λ (ls : List (List ℤ)). Spans ls rays v) (lines_of-system_rows lines rays)
        (subst (λ (rs : List (List ℤ)). Spans (lines_of (system_rows lines rays)) rs v) (rays_of-system_rows lines rays)
        (admitted_is_spanned width (system_rows lines rays) v (system_wide width (ConeOf width rows) lines rays (λ x c. c.wide) g) u.wide u.admits)))

-- ---- decoded systems
-- what is coded by one set is coded by a set that includes it
pub codes_within : (dim : ℕ) (C D : List ℤ → Type 0) (p : List ℤ) → ((v : List ℤ) → C v → D v) → Codes dim C p → Codes dim D p
codes_within dim C D p f k = record { times = k.times; positive = k.positive; height = k.height; above = k.above; member = f (raised dim (scale k.times p) k.height) k.member }

-- what the valid rows admit is 0 on the lines and at least 0 on the rays of their system
pub admitted_is_dual : (width : ℕ) (gens : List Row) (lines rays : List (List ℤ)) (v : List ℤ) → Generates (ConeOf width gens) lines rays → IsAdmittedVector width gens v ↔ ConeOf width (system_rows lines rays) v
admitted_is_dual width gens lines rays v g = (
  (λ u. row_of_valid width (ConeOf width gens) lines rays g v u.wide (λ a m. subst (λ (z : ℤ). pos 0 ≤ℤ z) (dot_comm a v) (u.admits a m))),
  (λ u. record { wide = u.wide; admits = λ a m. subst (λ (z : ℤ). pos 0 ≤ℤ z) (dot_comm v a) (valid_of_row width (ConeOf width gens) lines rays g v u a m) }),
)

pub decoded_rows_hold : (dim : ℕ) (gens lines rays : List Row) (cs : Constraints) (p : List ℤ) → AreRowsOf dim gens lines rays → AreDecodedRows dim lines rays cs.list → IsPoint dim p → In cs p ↔ Codes dim (ConeOf (dim + 2) (system_rows (vectors lines) (vectors rays))) p
decoded_rows_hold dim gens lines rays cs p r d point =
    let code = decoded_rows_code dim gens lines rays cs p r d point in (
      (λ h. codes_within dim (IsAdmittedVector (dim + 2) gens) (ConeOf (dim + 2) (system_rows (vectors lines) (vectors rays))) p (λ v u. (admitted_is_dual (dim + 2) gens (vectors lines) (vectors rays) v r.system.generates).0 u) (code.0 h)),
      (λ k. code.1 (codes_within dim (ConeOf (dim + 2) (system_rows (vectors lines) (vectors rays))) (IsAdmittedVector (dim + 2) gens) p (λ v u. (admitted_is_dual (dim + 2) gens (vectors lines) (vectors rays) v r.system.generates).1 u) k)),
    )

pub decoded_vectors_span : (dim : ℕ) (rows lines rays : List Row) (gs : Generators) (v : List ℤ) → AreVectorsOf dim rows lines rays → AreDecodedVectors dim lines rays gs.list → length v ≡ dim + 1 → Span gs v ↔ Codes dim (IsAdmittedVector (dim + 2) (system_rows (vectors lines) (vectors rays))) v
decoded_vectors_span dim rows lines rays gs v r d wide =
    let code = decoded_vectors_code dim rows lines rays gs v r d wide in (
      (λ h. codes_within dim (ConeOf (dim + 2) rows) (IsAdmittedVector (dim + 2) (system_rows (vectors lines) (vectors rays))) v (λ u m. (second_list_admits (dim + 2) rows (vectors lines) (vectors rays) u r.system.generates).1 m) (code.0 h)),
      (λ k. code.1 (codes_within dim (IsAdmittedVector (dim + 2) (system_rows (vectors lines) (vectors rays))) (ConeOf (dim + 2) rows) v (λ u m. (second_list_admits (dim + 2) rows (vectors lines) (vectors rays) u r.system.generates).0 m) k)),
    )
