use Rattle.std.specs.Prelude.{ℕ, ◌≤◌}
use Rattle.grammar.specs.declared.span.Span.{Span}

-- the span is one of a list of so many
pub record IsSpan (n : ℕ) (span : Span) : Type 0 where
  pub ordered : span.start ≤ span.end
  pub within : span.end ≤ n
