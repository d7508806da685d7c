-- Names and what stands under each.
use Rattle.std.specs.Prelude.{◌≢◌, ℕ, zero, suc, ◌+◌, ◌<◌, List, [], ◌∷◌, ◌++◌, length, Bool, IsTrue, nat_lt, Option, None, Some, is_some, if◌then◌else◌, decimal}
use Rattle.std.specs.List.{AllPairs}
use Rattle.std.specs.Map.{keys_of}
use Rattle.std.specs.Str.{bytes_eq}
use Rattle.name_table.specs.declared.names.TheConstants.{MAX_NAMES}

-- names and the entry under each, in the order in which the names were made
abbrev pub Table : Type 0 → Type 0
Table E = List (List ℕ × E)

-- the entry under the name
abbrev pub entry_of : {E : Type 0} → Table E → List ℕ → Option E
entry_of [] name = None
entry_of (e ∷ table) name = if bytes_eq name e.0 then Some e.1 else entry_of table name

-- the table with the entry under the name: a name that is there keeps its place, and a new one goes
-- last
abbrev pub put : {E : Type 0} → Table E → List ℕ → E → Table E
put [] name new = (name, new) ∷ []
put (e ∷ table) name new = if bytes_eq name e.0 then (e.0, new) ∷ table else e ∷ put table name new

-- the table with each of the entries in order under its name
abbrev pub put_each : {E : Type 0} → Table E → Table E → Table E
put_each table [] = table
put_each table (e ∷ entries) = put_each (put table e.0 e.1) entries

-- the table without the name; the others keep their order
abbrev pub without : {E : Type 0} → Table E → List ℕ → Table E
without [] name = []
without (e ∷ table) name = if bytes_eq name e.0 then table else e ∷ without table name

-- no two entries at different places have the same name
abbrev pub HasDistinctNames : {E : Type 0} → Table E → Type 0
HasDistinctNames table = AllPairs (λ name other. name ≢ other) (keys_of table)

-- ---- numbered names
-- the prefix and then the number in decimal
abbrev pub numbered : List ℕ → ℕ → List ℕ
numbered prefix n = prefix ++ decimal n

-- the entries, each under the prefix with its number, which begin with this one
abbrev pub numbered_entries : {E : Type 0} → List ℕ → ℕ → List E → Table E
numbered_entries prefix n [] = []
numbered_entries prefix n (e ∷ entries) =
    (numbered prefix n, e) ∷ numbered_entries prefix (n + 1) entries

-- ---- room
-- how many names there are once this one is there
abbrev pub count_with : {E : Type 0} → Table E → List ℕ → ℕ
count_with table name = if is_some (entry_of table name) then length table else length table + 1

-- whether there would be more than 1,000 names with this one
abbrev pub has_no_room : {E : Type 0} → Table E → List ℕ → Bool
has_no_room table name = nat_lt MAX_NAMES (count_with table name)

-- with the name there would be more
abbrev pub HasNoRoom : {E : Type 0} → Table E → List ℕ → Type 0
HasNoRoom table name = IsTrue (has_no_room table name)

-- how many of the first numbered names aren't there
abbrev pub missing : {E : Type 0} → Table E → List ℕ → ℕ → ℕ
missing table prefix zero = 0
missing table prefix (suc n) =
    if is_some (entry_of table (numbered prefix n)) then missing table prefix n
    else missing table prefix n + 1

-- with so many numbered names there would be more than 1,000 names
abbrev pub HasNoRoomForAll : {E : Type 0} → Table E → List ℕ → ℕ → Type 0
HasNoRoomForAll table prefix n = MAX_NAMES < length table + missing table prefix n
