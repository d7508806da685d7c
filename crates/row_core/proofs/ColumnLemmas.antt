use Rattle.std.specs.Prelude.{◌≡◌, ℕ, ◌+◌, ◌<◌, List, length, take, ℤ, pos, ◌+ℤ◌, Option, Some, None, SomeIff}
use Rattle.std.proofs.Common.{arith, sym, ◌∙◌, ap, subst}
use Rattle.std.proofs.Math.IntN.{◌*ℤ◌}
use Rattle.row_core.specs.Vectors.{cell, dot}
use Rattle.row_core.specs.Range.{InRange, ColumnStays, DotStays}
use Rattle.row_core.proofs.Ring.{one-mul}
use Rattle.row_core.proofs.DotLemmas.{dot-take_more}

-- both products are in the range, so the column is exactly where the sum is
pub column_stays : (r : Option ℤ) (s x t y left right : ℤ) → InRange (s *ℤ x) → InRange (t *ℤ y) →
    left ≡ s *ℤ x → right ≡ t *ℤ y → SomeIff r (InRange (left +ℤ right)) (left +ℤ right) →
    SomeIff r (ColumnStays s x t y) (s *ℤ x +ℤ t *ℤ y)
column_stays None s x t y left right p q e f h =
    λ stays. h (subst (λ (z : ℤ). InRange (z +ℤ right)) (sym e)
    (subst (λ (z : ℤ). InRange (s *ℤ x +ℤ z)) (sym f) stays.sum))
column_stays (Some z) s x t y left right p q e f h =
    let same : left +ℤ right ≡ s *ℤ x +ℤ t *ℤ y = ap (λ (a : ℤ). a +ℤ right) e ∙
    ap (λ (b : ℤ). s *ℤ x +ℤ b) f in
    (record { left = p; right = q; sum = subst InRange same h.0 }, h.1 ∙ same)

-- a combination with the factor 1 is a total with one product more
pub one_stays : (total a b : ℤ) → ColumnStays (pos 1) total a b →
    InRange (a *ℤ b) × InRange (total +ℤ a *ℤ b)
one_stays total a b stays =
    (stays.right, subst (λ (z : ℤ). InRange (z +ℤ a *ℤ b)) (one-mul total) stays.sum)

pub stays_one : (total a b : ℤ) → InRange total → InRange (a *ℤ b) × InRange (total +ℤ a *ℤ b) →
    ColumnStays (pos 1) total a b
stays_one total a b h both = record {
  left = subst InRange (sym (one-mul total)) h;
  right = both.0;
  sum = subst (λ (z : ℤ). InRange (z +ℤ a *ℤ b)) (sym (one-mul total)) both.1;
}

pub total_one : (total a b next : ℤ) → next ≡ pos 1 *ℤ total +ℤ a *ℤ b → next ≡ total +ℤ a *ℤ b
total_one total a b next e = e ∙ ap (λ (z : ℤ). z +ℤ a *ℤ b) (one-mul total)

-- the running total with one column more
pub total_more : (u v : List ℤ) (j : ℕ) (total : ℤ) → j < length u → length u ≡ length v →
    total ≡ dot (take j u) (take j v) →
    total +ℤ cell u j *ℤ cell v j ≡ dot (take (j + 1) u) (take (j + 1) v)
total_more u v j total h e same =
    ap (λ (a : ℤ). a +ℤ cell u j *ℤ cell v j) same ∙ sym (dot-take_more u v j h (omega arith))

-- one column more stays
pub stays_more : (u v : List ℤ) (j : ℕ) (total : ℤ) → j < length u → length u ≡ length v →
    total ≡ dot (take j u) (take j v) → InRange (cell u j *ℤ cell v j) →
    InRange (total +ℤ cell u j *ℤ cell v j) → DotStays u v j
stays_more u v j total h e same product sum =
    record {
      product = product;
      sum = subst InRange (total_more u v j total h e same) sum;
    }

-- what a column that stays says of the running total
pub stays_then : (u v : List ℤ) (j : ℕ) (total : ℤ) → j < length u → length u ≡ length v →
    total ≡ dot (take j u) (take j v) → DotStays u v j →
    InRange (cell u j *ℤ cell v j) × InRange (total +ℤ cell u j *ℤ cell v j)
stays_then u v j total h e same stays =
    (stays.product, subst InRange (sym (total_more u v j total h e same)) stays.sum)
