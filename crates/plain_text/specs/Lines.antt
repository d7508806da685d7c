-- Where lines end.
use Rattle.std.specs.Prelude.{ℕ, ◌==◌, Bool}

-- the byte is a line feed
abbrev pub is_feed : ℕ → Bool
is_feed b = b == 10
