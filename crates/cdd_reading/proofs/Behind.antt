-- What stands behind a file.
use Rattle.std.proofs.Common.{◌≡◌, ℕ, List, ◌∙◌, sym, ap, codes, Bool, false}
use Rattle.std.specs.Prelude.{All, IsTrue, ◌↔◌}
use Rattle.std.specs.List.{list_any}
use Rattle.std.specs.Str.{bytes_eq}
use Rattle.std.specs.Str.Lines.{lines}
use Rattle.cdd_reading.specs.Tokens.{texts, numbered}
use Rattle.cdd_reading.specs.Files.{IsEnd, IsFile, HasLinearityAfter}
use Rattle.cdd_reading.proofs.OneFiles.{file_once, ends_once}

pub none_behind : (bytes : List ℕ) → All (λ line. ¬ (IsEnd line)) (lines bytes) → IsTrue false ↔ HasLinearityAfter bytes
none_behind bytes h = (λ t. cc, λ (file, behind, p, e). absurd (ends_once bytes file behind p h))

abbrev has : List (List ℕ) → Bool
has behind = list_any (λ t. bytes_eq t (codes "linearity")) (texts (numbered 1 behind))

pub told_behind : (bytes : List ℕ) (file behind : List (List ℕ)) (b : Bool) → IsFile bytes file behind → b ≡ has behind → IsTrue b ↔ HasLinearityAfter bytes
told_behind bytes file behind b p e = (
  λ t. (file, behind, p, sym e ∙ t),
  λ (other, rest, q, h). e ∙ ap (λ l. has l) (file_once bytes file behind other rest p q).1 ∙ h,
)
