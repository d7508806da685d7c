use Rattle.std.proofs.Common.{◌≡◌, ℕ, List, codes}
use Rattle.std.specs.List.{list_any}
use Rattle.std.specs.Str.{bytes_eq}
use Rattle.std.specs.Str.Lines.{lines}
use Rattle.cdd_reading.specs.Tokens.{numbered, texts}
use Rattle.cdd_reading.proofs.file.has_linearity.Given as goal

abbrev pub invariant-loop-token : goal.invariant-loop-token
invariant-loop-token l = record {
  can_next : (goal.iterator-loop-token).can_next l.token-iterator;
  is_finite : (goal.iterator-loop-token).is_finite l.token-iterator;
  same : list_any (λ (t : List ℕ). bytes_eq t (codes "linearity")) (texts l.token-iterator) ≡ list_any (λ (t : List ℕ). bytes_eq t (codes "linearity")) (texts (numbered 1 (lines l.fn.behind)));
}
