-- The kinds of decoded generators fit their vectors.
use Rattle.std.proofs.Common.{◌≡◌, ◌≢◌, ◌⊎◌, inl, inr, ℕ, zero, suc, ◌+◌, ◌<◌, ◌≤◌, List, [], length, ℤ, pos, negsuc, ◌≤ℤ◌, ◌<ℤ◌, refl, sym, ap, ◌∙◌, subst, arith}
use Rattle.std.specs.Prelude.{All}
use Rattle.std.proofs.lemmas.Int.{ints}
use Rattle.std.proofs.lemmas.List.{get_or_past}
use Rattle.std.proofs.lemmas.Bool.{cases_lt}
use Rattle.row_core.specs.Vectors.{cell}
use Rattle.row_core.specs.Lists.{Row, vectors}
use Rattle.cone_laws.specs.Cones.{Upto}
use Rattle.cone_laws.specs.Canon.{vector_at}
use Rattle.cone_laws.proofs.FaceLists.{rays_not_zero}
use Rattle.cone_laws.proofs.ThirdRay.{same_number}
use Rattle.gens_sys.specs.Kinds.{HasBadDivisor, IsZeroDirection}
use Rattle.gens_sys.specs.declared.kind.GenKind.{GenKind}
use Rattle.gens_sys.specs.declared.kind.GenKind.TheVariants.{Line}
use Rattle.nnc_enc.specs.Encoding.{lowered}
use Rattle.nnc_enc.specs.DecodedVectors.{place_kind, vector_kind, kind_of}
use Rattle.nnc_enc.proofs.CodedPoints.{line_divisor}
use Rattle.nnc_enc.proofs.Relaxed.{cell-remove, skip, skip_before}
use Rattle.nnc_enc.specs.Decoding.{FitsKind, FitKinds}
use Rattle.nnc_enc.specs.Results.{AreVectorsOf}
use Rattle.nnc_enc.proofs.MarkLemmas.{length-vectors, vector_at-vectors}
use Rattle.nnc_enc.proofs.LineLemmas.{pivot_variable}

abbrev IsZero : List ℤ → Type 0
IsZero v = All (λ z. z ≡ pos 0) v

abbrev Fits : List ℤ → ℤ → GenKind → Type 0
Fits v d kind = (¬ (HasBadDivisor kind d)) × (¬ (IsZeroDirection kind v))

place_fits : (v : List ℤ) (d : ℤ) → pos 0 ≤ℤ d → (d ≡ pos 0 → ¬ (IsZero v)) → Fits v d (place_kind d)
place_fits v (pos zero) p f = ((λ b. b refl), f refl)
place_fits v (pos (suc d)) p f = ((λ b. omega (arith, ints, b)), (λ z. z))
place_fits v (negsuc d) p f = absurd (omega (arith, ints, p))

kind_fits : (v : List ℤ) (e d : ℤ) → pos 0 ≤ℤ e → e ≤ℤ d → (e ≡ pos 0 → d ≡ pos 0 → ¬ (IsZero v)) → Fits v d (vector_kind e d)
kind_fits v (pos zero) d p q f = place_fits v d q (f refl)
kind_fits v (pos (suc e)) d p q f = ((λ b. omega (arith, ints, b, q)), (λ z. z))
kind_fits v (negsuc e) d p q f = absurd (omega (arith, ints, p))

skip_after : (n j : ℕ) → n < j + 1 → skip n j ≡ j + 1
skip_after zero j h = omega arith
skip_after (suc n) zero h = absurd (omega (arith, h))
skip_after (suc n) (suc j) h = omega (arith, skip_after n j (omega (arith, h)))

-- column d of a vector without column e
cell_last : (dim : ℕ) (a : List ℤ) → cell (lowered dim a) dim ≡ cell a (dim + 1)
cell_last dim a = cell-remove dim a dim ∙ ap (cell a) (skip_after dim dim (omega arith))

zero_at : (v : List ℤ) → IsZero v → (j : ℕ) → cell v j ≡ pos 0
zero_at v z j = by_place (cases_lt j (length v))
  where
    by_place : (j < length v) ⊎ (length v ≤ j) → cell v j ≡ pos 0
    by_place (inl l) = z j (pos 0) l
    by_place (inr p) = get_or_past v j (pos 0) p

-- a vector that is 0 in column e and in the others
zero_with : (dim : ℕ) (a : List ℤ) → cell a dim ≡ pos 0 → IsZero (lowered dim a) → (j : ℕ) → cell a j ≡ pos 0
zero_with dim a e z zero = by_place (cases_lt 0 dim)
  where
    by_place : (0 < dim) ⊎ (dim ≤ 0) → cell a 0 ≡ pos 0
    by_place (inl l) = ap (cell a) (sym (skip_before dim 0 l)) ∙ sym (cell-remove dim a 0) ∙ zero_at (lowered dim a) z 0
    by_place (inr p) = ap (cell a) (omega (arith, p)) ∙ e
zero_with dim a e z (suc j) = by_place (cases_lt (suc j) dim) (same_number (suc j) dim)
  where
    by_place : (suc j < dim) ⊎ (dim ≤ suc j) → (suc j ≡ dim) ⊎ (suc j ≢ dim) → cell a (suc j) ≡ pos 0
    by_place (inl l) s = ap (cell a) (sym (skip_before dim (suc j) l)) ∙ sym (cell-remove dim a (suc j)) ∙ zero_at (lowered dim a) z (suc j)
    by_place (inr p) (inl s) = ap (cell a) s ∙ e
    by_place (inr p) (inr n) =
        let q : skip dim j ≡ suc j = skip_after dim j (omega (arith, p, n)) ∙ omega arith in
        ap (cell a) (sym q) ∙ sym (cell-remove dim a j) ∙ zero_at (lowered dim a) z j

module _ (dim : ℕ) (rows lines rays : List Row) (r : AreVectorsOf dim rows lines rays) where
  line_fits : (i : ℕ) → i < length (vectors lines) → FitsKind dim (vector_at (vectors lines) i) Line
  line_fits i h = record {
    divisor = λ b. b (cell_last dim (vector_at (vectors lines) i) ∙ line_divisor dim rows (vectors lines) (vectors rays) r.wide r.system r.encoded r.vector r.member r.above i h);
    nonzero = λ z. not_zero (cell (vector_at (vectors lines) i) (r.system.echelon.pivot i)) (r.system.echelon.pivots i h).positive (at_pivot z);
  }
    where
      not_zero : (x : ℤ) → pos 0 <ℤ x → x ≡ pos 0 → ⊥
      not_zero x q e = omega (arith, ints, q, e)

      at_pivot : IsZero (lowered dim (vector_at (vectors lines) i)) → cell (vector_at (vectors lines) i) (r.system.echelon.pivot i) ≡ pos 0
      at_pivot z =
          ap (cell (vector_at (vectors lines) i)) (sym (skip_before dim (r.system.echelon.pivot i) (pivot_variable dim rows (vectors lines) (vectors rays) r.wide r.system r.encoded r.vector r.member r.above i h)))
          ∙ sym (cell-remove dim (vector_at (vectors lines) i) (r.system.echelon.pivot i))
          ∙ zero_at (lowered dim (vector_at (vectors lines) i)) z (r.system.echelon.pivot i)

  ray_fits : (i : ℕ) → i < length (vectors rays) → FitsKind dim (vector_at (vectors rays) i) (kind_of dim (vector_at (vectors rays) i))
  ray_fits i h = record { divisor = λ b. fits.0 (subst (λ (d : ℤ). HasBadDivisor (kind_of dim (vector_at (vectors rays) i)) d) (cell_last dim (vector_at (vectors rays) i)) b); nonzero = fits.1 }
    where
      member : Upto (dim + 2) rows (length rows) (vector_at (vectors rays) i)
      member = r.system.generates.rays_within i [] h

      fits : Fits (lowered dim (vector_at (vectors rays) i)) (cell (vector_at (vectors rays) i) (dim + 1)) (kind_of dim (vector_at (vectors rays) i))
      fits = kind_fits (lowered dim (vector_at (vectors rays) i)) (cell (vector_at (vectors rays) i) dim) (cell (vector_at (vectors rays) i) (dim + 1)) (r.encoded.height (vector_at (vectors rays) i) member) (r.encoded.bound (vector_at (vectors rays) i) member)
          (λ e d z. rays_not_zero (vectors lines) (vectors rays) i r.system.irredundant h (zero_with dim (vector_at (vectors rays) i) e z))

  pub fit_kinds : FitKinds dim lines rays
  fit_kinds = record {
    line = λ i h. subst (λ (v : List ℤ). FitsKind dim v Line) (vector_at-vectors lines i) (line_fits i (omega (arith, h, length-vectors lines)));
    ray = λ i h. subst (λ (v : List ℤ). FitsKind dim v (kind_of dim v)) (vector_at-vectors rays i) (ray_fits i (omega (arith, h, length-vectors rays)));
  }
