-- That two vectors are one point goes both ways.
use Rattle.std.proofs.Common.{List, ℤ, pos, refl, sym, arith}
use Rattle.std.proofs.lemmas.Int.{ints}
use Rattle.row_core.specs.Points.{IsSamePoint}

pub same_points : (u v : List ℤ) → IsSamePoint u v → IsSamePoint v u
same_points u v s = record { left = s.right; right = s.left; left_positive = s.right_positive; right_positive = s.left_positive; same = sym s.same }

pub same_itself : (v : List ℤ) → IsSamePoint v v
same_itself v = record { left = pos 1; right = pos 1; left_positive = omega (arith, ints); right_positive = omega (arith, ints); same = refl }
