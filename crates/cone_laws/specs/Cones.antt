use Rattle.std.specs.Prelude.{◌≡◌, ℕ, List, length, ℤ, pos, ◌+ℤ◌, neg_ℤ, ◌≤ℤ◌, ◌<ℤ◌, All, MatchBool, []}
use Rattle.std.specs.List.{AllWithin}
use Rattle.std.proofs.Math.IntN.{◌*ℤ◌}
use Rattle.row_core.specs.Vectors.{cell, dot, scale, combined}
use Rattle.row_core.specs.Lists.{Row}

-- the row is 0 on the vector where it is an equality, and at least 0 otherwise
abbrev pub Meets : List ℤ → Row → Type 0
Meets v row = MatchBool row.1 (dot row.0 v ≡ pos 0) (pos 0 ≤ℤ dot row.0 v)

-- the vector has the width, and meets each of the first k rows
pub record Upto (width : ℕ) (rows : List Row) (k : ℕ) (v : List ℤ) : Type 0 where
  pub wide : length v ≡ width
  pub meets : AllWithin (Meets v) rows 0 k

-- the negative of a vector
abbrev pub negated : List ℤ → List ℤ
negated v = scale (neg_ℤ (pos 1)) v

-- a positive multiple of the vector is a sum of multiplied lines
-- and of rays with factors of at least 0
pub record Spans (lines rays : List (List ℤ)) (v : List ℤ) : Type 0 where
  pub times : ℤ
  pub positive : pos 0 <ℤ times
  pub line_factors : List ℤ
  pub ray_factors : List ℤ
  pub at_least_zero : All (λ k. pos 0 ≤ℤ k) ray_factors
  pub sum : (j : ℕ) →
      times *ℤ cell v j ≡ combined line_factors lines j +ℤ combined ray_factors rays j

-- each line, each negated line and each ray is in the set, and each vector of the set is spanned
pub record Generates (C : List ℤ → Type 0) (lines rays : List (List ℤ)) : Type 0 where
  pub lines_within : All (λ l. C l × C (negated l)) lines
  pub rays_within : All C rays
  pub spans : (v : List ℤ) → C v → Spans lines rays v

-- each vector of the set whose negative is in the set too is spanned by the lines alone
abbrev pub HasLineality : (C : List ℤ → Type 0) → List (List ℤ) → Type 0
HasLineality C lines = (v : List ℤ) → C v → C (negated v) → Spans lines [] v
