use Rattle.std.specs.Prelude.{◌≡◌, ◌↔◌, ℕ, ◌<◌, List, [], length, map, take, drop, slice_index_or, ℤ, All}
use Rattle.row_core.specs.Content.{IsPrimitive}
use Rattle.row_core.specs.Orders.{AreSorted}
use Rattle.cone_laws.specs.Canon.{IsEchelon}
use Rattle.cons_sys.specs.Constraints.{Constraint}
use Rattle.cons_sys.specs.declared.kind.ConKind.TheVariants.{Eq}
use Rattle.gens_sys.specs.Generators.{Generator}
use Rattle.gens_sys.specs.declared.kind.GenKind.TheVariants.{Line}

-- the vectors of the entries, in order
abbrev pub entries : {K : Type 0} → List (List ℤ × K) → List (List ℤ)
entries list = map (λ entry. entry.0) list

-- the first n entries alone are of the kind, ordered by their pivots, and each other entry is 0
-- at the pivot of one of them; each vector is primitive; of the entries after them each is
-- greater than the next
pub record IsStoredForm {K : Type 0} (d : List ℤ × K) (kind : K) (n : ℕ)
    (list : List (List ℤ × K)) : Type 0 where
  pub kinds : (i : ℕ) → i < length list → ((slice_index_or list i d).1 ≡ kind) ↔ (i < n)
  pub echelon : IsEchelon (take n (entries list)) (drop n (entries list))
  pub primitive : All IsPrimitive (entries list)
  pub sorted : AreSorted (drop n (entries list))

-- the stored form of constraints: n equalities, then the others
abbrev pub AreStoredConstraints : ℕ → List Constraint → Type 0
AreStoredConstraints n list = IsStoredForm ([], Eq) Eq n list

-- the stored form of generators: n lines, then the others
abbrev pub AreStoredGenerators : ℕ → List Generator → Type 0
AreStoredGenerators n list = IsStoredForm ([], Line) Line n list
