-- Entries under names that lie in memory.
use Rattle.std.specs.Prelude.{ℕ, List, map, Vec}
use Rattle.std.specs.declared.alloc.Global.{Global}
use Rattle.name_table.specs.Table.{Table}

-- a name in memory
abbrev pub Key : Type 0
Key = Vec ℕ Global

-- the entries without where their names lie in memory
abbrev pub named : {E : Type 0} → List (Key × E) → Table E
named es = map (λ e. (e.0.items, e.1)) es
