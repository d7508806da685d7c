use Rattle.std.specs.Prelude.{List, Contains}
use Rattle.grammar.specs.Form.{Form}

-- the new rows are the old ones, in any order and as often as may be
pub record SameRows (old new : List (List Form)) : Type 0 where
  pub kept : (row : List Form) → Contains old row → Contains new row
  pub only : (row : List Form) → Contains new row → Contains old row
