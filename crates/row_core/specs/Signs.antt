use Rattle.std.specs.Prelude.{zero, suc, Bool, true, false, ℤ, pos, negsuc, neg_ℤ, int_le}
use Rattle.std.specs.Ordering.{int_eq}

-- 1, 0 or -1
abbrev pub sign : ℤ → ℤ
sign (pos zero) = pos 0
sign (pos (suc n)) = pos 1
sign (negsuc n) = neg_ℤ (pos 1)

-- whether a row with this value on a vector is met: 0 at an equality, at least 0 otherwise
abbrev pub stays : Bool → ℤ → Bool
stays true value = int_eq value (pos 0)
stays false value = int_le (pos 0) value
