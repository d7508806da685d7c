-- What a line before `begin` does.
use Rattle.std.proofs.Common.{◌≡◌, ℕ, ◌<◌, List, [], ◌∷◌, length, refl, arith, true, codes, map, drop}
use Rattle.std.specs.Str.{bytes_eq}
use Rattle.plain_text.specs.Digits.{number}
use Rattle.cdd_reading.specs.Headings.{are_indices, IsRole}
use Rattle.cdd_reading.specs.declared.head.Role.TheVariants.{Linearity}

pub linearity_role : (t : List ℕ) (ts : List (List ℕ)) → 0 < length ts → bytes_eq t (codes "linearity") ≡ true → are_indices ts ≡ true → IsRole (t ∷ ts) Linearity
linearity_role t [] h e f = absurd (omega arith)
linearity_role t (u ∷ more) h e f = (refl, refl, (map number (drop 1 (u ∷ more)), rw (e, f) refl))
