use Rattle.std.specs.Prelude.{Bool, true, false, not}
use Rattle.row_core.specs.Lists.{Row}

-- whether the row is marked so: an equality or a line, or another row
abbrev pub has_mark : Bool → Row → Bool
has_mark true row = row.1
has_mark false row = not row.1
