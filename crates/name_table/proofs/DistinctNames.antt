-- No two entries of a table have the same name.
use Rattle.std.proofs.Common.{◌≡◌, ℕ, List, [], ◌∷◌, Bool, true, false, cond, refl, sym, ◌∙◌, arith}
use Rattle.std.specs.List.{AllByRecursion, IsDistinct}
use Rattle.std.specs.Str.{bytes_eq}
use Rattle.std.specs.Map.{keys_of}
use Rattle.std.proofs.lemmas.Slice.Eq.{bytes_eq-Decides}
use Rattle.std.proofs.lemmas.Map.Made.{AllPairs-from_IsDistinct, IsDistinct-from_AllPairs}
use Rattle.name_table.specs.Table.{Table, put, put_each, without, HasDistinctNames}

bytes_eq-flip : (a b : List ℕ) → bytes_eq a b ≡ false → bytes_eq b a ≡ false
bytes_eq-flip a b h =
    elim (bytes_eq b a) as (λ t. bytes_eq b a ≡ t → t ≡ false) [
      | true ↦ λ e. sym ((bytes_eq-Decides a b).1 (sym ((bytes_eq-Decides b a).0 e))) ∙ h
      | false ↦ λ e. refl
    ] refl

module _ {E : Type 0} where
  -- ---- an entry is put in
  AllByRecursion-put_cases : (P : List ℕ → Type 0) (b : Bool) (entry : List ℕ × E) (new : E) (table changed : Table E) → P entry.0 → AllByRecursion P (keys_of table) → AllByRecursion P (keys_of changed) → AllByRecursion P (keys_of (cond b ((entry.0, new) ∷ table) (entry ∷ changed)))
  AllByRecursion-put_cases P true entry new table changed first others more = (first, others)
  AllByRecursion-put_cases P false entry new table changed first others more = (first, more)

  -- what holds of each name and of the one that is put holds of each name after it
  AllByRecursion-put : (P : List ℕ → Type 0) (table : Table E) (name : List ℕ) (new : E) → P name → AllByRecursion P (keys_of table) → AllByRecursion P (keys_of (put table name new))
  AllByRecursion-put P [] name new is h = (is, tt)
  AllByRecursion-put P (entry ∷ table) name new is h =
      AllByRecursion-put_cases P (bytes_eq name entry.0) entry new table (put table name new) h.0 h.1 (AllByRecursion-put P table name new is h.1)

  IsDistinct-put_cases : (b : Bool) (entry : List ℕ × E) (name : List ℕ) (new : E) (table : Table E) → b ≡ bytes_eq name entry.0 → IsDistinct bytes_eq (keys_of (entry ∷ table)) → IsDistinct bytes_eq (keys_of (put table name new)) → IsDistinct bytes_eq (keys_of (cond b ((entry.0, new) ∷ table) (entry ∷ put table name new)))
  unfolding IsDistinct
  IsDistinct-put_cases true entry name new table e h more = h
  IsDistinct-put_cases false entry name new table e h more =
      (AllByRecursion-put (λ other. bytes_eq entry.0 other ≡ false) table name new (bytes_eq-flip name entry.0 (sym e)) h.0, more)

  IsDistinct-put : (table : Table E) (name : List ℕ) (new : E) → IsDistinct bytes_eq (keys_of table) → IsDistinct bytes_eq (keys_of (put table name new))
  unfolding IsDistinct
  IsDistinct-put [] name new h = (tt, tt)
  IsDistinct-put (entry ∷ table) name new h =
      IsDistinct-put_cases (bytes_eq name entry.0) entry name new table refl h (IsDistinct-put table name new h.1)

  IsDistinct-put_each : (table entries : Table E) → IsDistinct bytes_eq (keys_of table) → IsDistinct bytes_eq (keys_of (put_each table entries))
  IsDistinct-put_each table [] h = h
  IsDistinct-put_each table (e ∷ entries) h = IsDistinct-put_each (put table e.0 e.1) entries (IsDistinct-put table e.0 e.1 h)

  -- ---- a name is taken out
  AllByRecursion-without_cases : (P : List ℕ → Type 0) (b : Bool) (entry : List ℕ × E) (table changed : Table E) → P entry.0 → AllByRecursion P (keys_of table) → AllByRecursion P (keys_of changed) → AllByRecursion P (keys_of (cond b table (entry ∷ changed)))
  AllByRecursion-without_cases P true entry table changed first others fewer = others
  AllByRecursion-without_cases P false entry table changed first others fewer = (first, fewer)

  -- what holds of each name holds of each that is left
  AllByRecursion-without : (P : List ℕ → Type 0) (table : Table E) (name : List ℕ) → AllByRecursion P (keys_of table) → AllByRecursion P (keys_of (without table name))
  AllByRecursion-without P [] name h = tt
  AllByRecursion-without P (entry ∷ table) name h =
      AllByRecursion-without_cases P (bytes_eq name entry.0) entry table (without table name) h.0 h.1 (AllByRecursion-without P table name h.1)

  IsDistinct-without_cases : (b : Bool) (entry : List ℕ × E) (name : List ℕ) (table : Table E) → IsDistinct bytes_eq (keys_of (entry ∷ table)) → IsDistinct bytes_eq (keys_of (without table name)) → IsDistinct bytes_eq (keys_of (cond b table (entry ∷ without table name)))
  unfolding IsDistinct
  IsDistinct-without_cases true entry name table h fewer = h.1
  IsDistinct-without_cases false entry name table h fewer = (AllByRecursion-without (λ other. bytes_eq entry.0 other ≡ false) table name h.0, fewer)

  IsDistinct-without : (table : Table E) (name : List ℕ) → IsDistinct bytes_eq (keys_of table) → IsDistinct bytes_eq (keys_of (without table name))
  unfolding IsDistinct
  IsDistinct-without [] name h = tt
  IsDistinct-without (entry ∷ table) name h =
      IsDistinct-without_cases (bytes_eq name entry.0) entry name table h (IsDistinct-without table name h.1)

  -- ---- changes
  by_names : (table new : Table E) → (IsDistinct bytes_eq (keys_of table) → IsDistinct bytes_eq (keys_of new)) → HasDistinctNames table → HasDistinctNames new
  by_names table new f h = AllPairs-from_IsDistinct bytes_eq-Decides (keys_of new) (f (IsDistinct-from_AllPairs bytes_eq-Decides (keys_of table) h))

  pub distinct_put : (table : Table E) (name : List ℕ) (new : E) → HasDistinctNames table → HasDistinctNames (put table name new)
  distinct_put table name new h = by_names table (put table name new) (IsDistinct-put table name new) h

  pub distinct_put_each : (table entries : Table E) → HasDistinctNames table → HasDistinctNames (put_each table entries)
  distinct_put_each table entries h = by_names table (put_each table entries) (IsDistinct-put_each table entries) h

  pub distinct_without : (table : Table E) (name : List ℕ) → HasDistinctNames table → HasDistinctNames (without table name)
  distinct_without table name h = by_names table (without table name) (IsDistinct-without table name) h

pub distinct_empty : (E : Type 0) → HasDistinctNames {E = E} []
distinct_empty E i j d h k = absurd (omega (arith, k))
