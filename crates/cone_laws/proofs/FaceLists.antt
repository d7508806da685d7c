-- Adjacent rays of a list, and third rays between them.
use Rattle.std.proofs.Common.{◌≡◌, ◌≢◌, ◌⊎◌, inl, inr, ℕ, zero, suc, ◌<◌, List, [], ◌∷◌, length, slice_index_or, false, ℤ, pos, ◌*ℤ◌, ◌≤ℤ◌, refl, sym, ap, ◌∙◌, subst, arith}
use Rattle.row_core.specs.Vectors.{cell, dot}
use Rattle.row_core.specs.Lists.{Row, row_at, vector_at}
use Rattle.cone_laws.specs.Cones.{Upto, Generates}
use Rattle.cone_laws.specs.Canon.{IsIrredundant}
use Rattle.cone_laws.specs.Steps.{NoThird}
use Rattle.cone_laws.specs.AdjacencyLaws.{AreAdjacent, FaceLaw, NoRayIsIrredundant, RaysAreNotZero}
use Rattle.row_core.proofs.Ring.{mul-zero}
use Rattle.cone_laws.proofs.Sums.{V, Same, none, SpansBy, IsLinear, same_value, sums_more, spans_more, spans_sums}
use Rattle.cone_laws.proofs.Columns.{value, value_linear}
use Rattle.cone_laws.proofs.Bridge.{columns, In, to_sums, from_sums}
use Rattle.cone_laws.proofs.UptoRows.{asks_least, both_zero}
use Rattle.cone_laws.proofs.Face.{face, OnFace}
use Rattle.cone_laws.proofs.Instance.{Beside, needed_by_columns, column_value}
use Rattle.cone_laws.proofs.ThirdRay.{same_number}

module _ (width : ℕ) (rows : List Row) (k : ℕ) (lines rays : List (List ℤ)) (p n : ℕ) (gen : Generates (Upto width rows k) lines rays) where
  -- the two vectors alone
  abbrev two : List (List ℤ)
  two = vector_at rays p ∷ vector_at rays n ∷ []

  -- the rows on which both are 0
  record IsOnBoth (i : ℕ) : Type 0 where
    below : i < k
    first : dot (row_at rows i) (vector_at rays p) ≡ pos 0
    second : dot (row_at rows i) (vector_at rays n) ≡ pos 0

  abbrev maps : ℕ → V → ℤ
  maps i = value (row_at rows i)

  maps_linear : (i : ℕ) → IsLinear (maps i)
  maps_linear i = value_linear (row_at rows i)

  line_zero : (i : ℕ) → IsOnBoth i → (l : V) → In lines l → maps i l ≡ pos 0
  line_zero i o l m = same_value (maps i) (maps_linear i) l (columns lines m.index) m.same ∙ column_value rows i (vector_at lines m.index) ∙ both_zero width rows k (vector_at lines m.index) (gen.lines_within m.index [] m.is).0 (gen.lines_within m.index [] m.is).1 i ([], false) o.below

  ray_value : (i : ℕ) (r : V) (m : In rays r) → maps i r ≡ dot (row_at rows i) (vector_at rays m.index)
  ray_value i r m = same_value (maps i) (maps_linear i) r (columns rays m.index) m.same ∙ column_value rows i (vector_at rays m.index)

  ray_side : (i : ℕ) → IsOnBoth i → (r : V) → In rays r → pos 0 ≤ℤ maps i r
  ray_side i o r m = subst (λ (z : ℤ). pos 0 ≤ℤ z) (sym (ray_value i r m)) (asks_least (slice_index_or rows i ([], false)).1 (dot (row_at rows i) (vector_at rays m.index)) ((gen.rays_within m.index [] m.is).meets i ([], false) (omega arith) o.below))

  -- without a third ray, a ray on the face is one of the two
  ray_in_two : NoThird rows k rays p n → (r : V) → OnFace (In rays) maps IsOnBoth r → In two r
  ray_in_two alone r m = by_number (same_number m.0.index p) (same_number m.0.index n)
    where
      by_number : (m.0.index ≡ p) ⊎ (m.0.index ≢ p) → (m.0.index ≡ n) ⊎ (m.0.index ≢ n) → In two r
      by_number (inl e) f = record { index = 0; is = omega arith; same = λ j. m.0.same j ∙ ap (λ (i : ℕ). columns rays i j) e }
      by_number (inr e) (inl f) = record { index = 1; is = omega arith; same = λ j. m.0.same j ∙ ap (λ (i : ℕ). columns rays i j) f }
      by_number (inr e) (inr f) = absurd (alone m.0.index m.0.is e f (λ i b y z. sym (ray_value i r m.0) ∙ m.1 i (record { below = b; first = y; second = z })))

  multiple_zero : (v : List ℤ) (t : ℤ) (i : ℕ) → dot (row_at rows i) v ≡ pos 0 → maps i (λ j. t *ℤ cell v j) ≡ pos 0
  multiple_zero v t i z = (maps_linear i).multiple (λ j. t *ℤ cell v j) (cell v) t (λ j. refl) ∙ ap (λ (y : ℤ). t *ℤ y) (column_value rows i v ∙ z) ∙ mul-zero t

  adjacent : NoThird rows k rays p n → AreAdjacent width rows k lines (vector_at rays p) (vector_at rays n)
  adjacent alone v u on = from_sums lines two v (record { times = s.times; positive = s.positive; sums = sums_more (λ l m. m) (ray_in_two alone) (λ j. s.times *ℤ cell v j) (face (In lines) (In rays) maps IsOnBoth maps_linear line_zero ray_side (λ j. s.times *ℤ cell v j) s.sums (λ i o. multiple_zero v s.times i (on i o.below o.first o.second))) })
    where
      s : SpansBy (In lines) (In rays) (cell v)
      s = to_sums lines rays v (gen.spans v u)

  -- the two stand beside any other ray
  two_beside : (i : ℕ) → p < length rays → n < length rays → i ≢ p → i ≢ n → (r : V) → In two r → Beside rays i r
  two_beside i bp bn ip jn r m = by_number m.index m.is m.same
    where
      by_number : (q : ℕ) → q < 2 → Same r (columns two q) → Beside rays i r
      by_number zero b e = record { index = p; is = (bp, λ f. ip (sym f)); same = e }
      by_number (suc zero) b e = record { index = n; is = (bn, λ f. jn (sym f)); same = e }
      by_number (suc (suc q)) b e = absurd (omega arith)

  alone : IsIrredundant lines rays → p < length rays → n < length rays → AreAdjacent width rows k lines (vector_at rays p) (vector_at rays n) → NoThird rows k rays p n
  alone needed bp bn near i b ip jn between = needed_by_columns lines rays needed i b (spans_more (λ l m. m) (two_beside i bp bn ip jn) (columns rays i) (to_sums lines two (vector_at rays i) (near (vector_at rays i) (gen.rays_within i [] b) between)))

pub face_law : FaceLaw
face_law width rows k lines rays p n gen needed bp bn = (alone width rows k lines rays p n gen needed bp bn, adjacent width rows k lines rays p n gen)

pub no_ray_irredundant : NoRayIsIrredundant
no_ray_irredundant lines i b = absurd (omega arith)

pub rays_not_zero : RaysAreNotZero
rays_not_zero lines rays i needed b z = needed_by_columns lines rays needed i b (spans_sums (columns rays i) (none z))
