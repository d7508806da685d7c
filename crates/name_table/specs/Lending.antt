-- What a table ends as, once a loan of an entry has ended.
use Rattle.std.specs.Prelude.{ℕ, List, Option}
use Rattle.std.specs.Borrow.{Fml, RattleType, MutBor, LendsIf}
use Rattle.name_table.specs.Table.{Table, put}
use Rattle.name_table.specs.contracts.names.Names.{the_row}

-- the name has the last entry that was written, and where it isn't there the table stays as it is
abbrev pub lends_entry : (E : RattleType) → MutBor (Table E.Denot) → List ℕ
    → Option (MutBor E.Denot) → Fml
lends_entry E table name entry = LendsIf (the_row E) E table entry (put table.now name) table.now
