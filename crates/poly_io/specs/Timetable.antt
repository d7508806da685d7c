use Rattle.std.specs.Prelude.{ℕ, List, Contains}
use Rattle.poly_io.specs.Counts.{next_count}

-- calls that fail: their numbers, counted from 1, how many calls there were, and how many of them
-- failed
pub record Faults : Type 0 where
  pub fails : List ℕ
  pub calls : ℕ
  pub count : ℕ

-- the next call is one of those that fail
abbrev pub FailsNext : Faults → Type 0
FailsNext f = Contains f.fails (next_count f.calls)

-- the timetable of these failing calls before the first call
abbrev pub at_start : List ℕ → Faults
at_start fails = record { fails = fails; calls = 0; count = 0 }

-- one call later, at a call that failed and at one that didn't
abbrev pub after_failure : Faults → Faults
after_failure f = record { fails = f.fails; calls = next_count f.calls; count = next_count f.count }

abbrev pub after_success : Faults → Faults
after_success f = record { fails = f.fails; calls = next_count f.calls; count = f.count }
