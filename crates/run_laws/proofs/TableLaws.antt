-- What stands under each name after a change, and which names there are.
use Rattle.std.proofs.Common.{◌≡◌, ℕ, List, [], ◌∷◌, ◌++◌, refl, ap, sym, ◌∙◌, subst, Bool, true, false, cond}
use Rattle.std.specs.Prelude.{Option, None, Some, not, ◌||◌}
use Rattle.std.specs.Str.{bytes_eq}
use Rattle.std.specs.Map.{keys_of}
use Rattle.std.specs.List.{list_any, AllByRecursion, IsDistinct}
use Rattle.std.proofs.lemmas.Slice.Eq.{bytes_eq-Decides}
use Rattle.std.proofs.lemmas.Map.Made.{IsDistinct-from_AllPairs}
use Rattle.calc_state.specs.declared.entry.Entry.{Entry}
use Rattle.name_table.specs.Table.{entry_of, put, without, HasDistinctNames}
use Rattle.calc_state.specs.Table.{Table}
use Rattle.run_laws.specs.Sets.{with_name, less_name}

-- ---- the entry under a name
same_choice : (b : Bool) (x y z : Option Entry) → cond b x z ≡ cond b x (cond b y z)
same_choice true x y z = refl
same_choice false x y z = refl

other_choice : (b c : Bool) (e s rest changed : Option Entry) → changed ≡ cond c s rest → (b ≡ true → c ≡ true → ⊥) → cond b e changed ≡ cond c s (cond b e rest)
other_choice true true e s rest changed h k = absurd (k refl refl)
other_choice true false e s rest changed h k = refl
other_choice false c e s rest changed h k = h

differ : (n k name : List ℕ) → false ≡ bytes_eq n k → bytes_eq name k ≡ true → bytes_eq name n ≡ true → ⊥
differ n k name f a b =
    let same : n ≡ k = sym ((bytes_eq-Decides name n).0 b) ∙ (bytes_eq-Decides name k).0 a in
    let t : true ≡ false = sym ((bytes_eq-Decides n k).1 same) ∙ sym f in cc

entry_of-put_cases : (t : Bool) (n k name : List ℕ) (v new : Entry) (table changed : Table) → t ≡ bytes_eq n k → entry_of changed name ≡ cond (bytes_eq name n) (Some new) (entry_of table name) → entry_of (cond t ((k, new) ∷ table) ((k, v) ∷ changed)) name ≡ cond (bytes_eq name n) (Some new) (cond (bytes_eq name k) (Some v) (entry_of table name))
entry_of-put_cases true n k name v new table changed e h =
    same_choice (bytes_eq name k) (Some new) (Some v) (entry_of table name)
    ∙ ap (λ (x : List ℕ). cond (bytes_eq name x) (Some new) (cond (bytes_eq name k) (Some v) (entry_of table name))) (sym ((bytes_eq-Decides n k).0 (sym e)))
entry_of-put_cases false n k name v new table changed e h =
    other_choice (bytes_eq name k) (bytes_eq name n) (Some v) (Some new) (entry_of table name) (entry_of changed name) h (differ n k name e)

-- under each name stands what was put there last
pub entry_of-put : (table : Table) (n name : List ℕ) (new : Entry) → entry_of (put table n new) name ≡ cond (bytes_eq name n) (Some new) (entry_of table name)
entry_of-put [] n name new = refl
entry_of-put (e ∷ table) n name new = entry_of-put_cases (bytes_eq n e.0) n e.0 name e.1 new table (put table n new) refl (entry_of-put table n name new)

pub distinct_keys : (table : Table) → HasDistinctNames table → IsDistinct bytes_eq (keys_of table)
distinct_keys table h = IsDistinct-from_AllPairs bytes_eq-Decides (keys_of table) h

none_left : (b : Bool) (e : Entry) (rest : Option Entry) → b ≡ false → rest ≡ None → cond b (Some e) rest ≡ None
none_left true e rest f h = cc
none_left false e rest f h = h

-- a name that is no other name of the table
pub none_there : (table : Table) (name : List ℕ) → AllByRecursion (λ other. bytes_eq name other ≡ false) (keys_of table) → entry_of table name ≡ None
none_there [] name h = refl
none_there (e ∷ table) name h = none_left (bytes_eq name e.0) e.1 (entry_of table name) h.0 (none_there table name h.1)

taken_choice : (b : Bool) (rest v : Option Entry) → (b ≡ true → rest ≡ None) → rest ≡ cond b None (cond b v rest)
taken_choice true rest v h = h refl
taken_choice false rest v h = refl

entry_of-without_cases : (t : Bool) (n k name : List ℕ) (v : Entry) (table changed : Table) → t ≡ bytes_eq n k → AllByRecursion (λ other. bytes_eq k other ≡ false) (keys_of table) →
    entry_of changed name ≡ cond (bytes_eq name n) None (entry_of table name) → entry_of (cond t table ((k, v) ∷ changed)) name ≡ cond (bytes_eq name n) None (cond (bytes_eq name k) (Some v) (entry_of table name))
entry_of-without_cases true n k name v table changed e d h =
    taken_choice (bytes_eq name k) (entry_of table name) (Some v) (λ (t : bytes_eq name k ≡ true). subst (λ (x : List ℕ). entry_of table x ≡ None) (sym ((bytes_eq-Decides name k).0 t)) (none_there table k d))
    ∙ ap (λ (x : List ℕ). cond (bytes_eq name x) None (cond (bytes_eq name k) (Some v) (entry_of table name))) (sym ((bytes_eq-Decides n k).0 (sym e)))
entry_of-without_cases false n k name v table changed e d h =
    other_choice (bytes_eq name k) (bytes_eq name n) (Some v) None (entry_of table name) (entry_of changed name) h (differ n k name e)

no_choice : (b : Bool) (o : Option Entry) → o ≡ cond b o o
no_choice true o = refl
no_choice false o = refl

-- under a name that was taken out stands nothing, and under each other what stood there
pub entry_of-without : (table : Table) (n name : List ℕ) → IsDistinct bytes_eq (keys_of table) → entry_of (without table n) name ≡ cond (bytes_eq name n) None (entry_of table name)
unfolding IsDistinct
entry_of-without [] n name d = no_choice (bytes_eq name n) None
entry_of-without (e ∷ table) n name d = entry_of-without_cases (bytes_eq n e.0) n e.0 name e.1 table (without table n) refl d.0 (entry_of-without table n name d.1)

-- ---- the names
abbrev Names : Type 0
Names = List (List ℕ)

names-put_cases : (b any : Bool) (k name : List ℕ) (new v : Entry) (table changed : Table) → keys_of changed ≡ cond any (keys_of table) (keys_of table ++ name ∷ []) →
    keys_of (cond b ((k, new) ∷ table) ((k, v) ∷ changed)) ≡ cond (b || any) (k ∷ keys_of table) (k ∷ keys_of table ++ name ∷ [])
names-put_cases true any k name new v table changed h = refl
names-put_cases false true k name new v table changed h = ap (λ (ks : Names). k ∷ ks) h
names-put_cases false false k name new v table changed h = ap (λ (ks : Names). k ∷ ks) h

pub names-put : (table : Table) (name : List ℕ) (new : Entry) → keys_of (put table name new) ≡ with_name name (keys_of table)
names-put [] name new = refl
names-put (e ∷ table) name new = names-put_cases (bytes_eq name e.0) (list_any (bytes_eq name) (keys_of table)) e.0 name new e.1 table (put table name new) (names-put table name new)

others_first : (b : Bool) (k : List ℕ) (ks kept : Names) → b ≡ false → kept ≡ ks → cond (not b) (k ∷ kept) kept ≡ k ∷ ks
others_first true k ks kept f h = cc
others_first false k ks kept f h = ap (λ (x : Names). k ∷ x) h

others_kept : (name : List ℕ) (names : Names) → AllByRecursion (λ other. bytes_eq name other ≡ false) names → less_name name names ≡ names
others_kept name [] h = refl
others_kept name (k ∷ ks) h = others_first (bytes_eq name k) k ks (less_name name ks) h.0 (others_kept name ks h.1)

names-without_cases : (b : Bool) (k name : List ℕ) (v : Entry) (table changed : Table) → b ≡ bytes_eq name k → AllByRecursion (λ other. bytes_eq k other ≡ false) (keys_of table) →
    keys_of changed ≡ less_name name (keys_of table) → keys_of (cond b table ((k, v) ∷ changed)) ≡ cond (not b) (k ∷ less_name name (keys_of table)) (less_name name (keys_of table))
names-without_cases true k name v table changed e d h =
    sym (subst (λ (x : List ℕ). less_name x (keys_of table) ≡ keys_of table) (sym ((bytes_eq-Decides name k).0 (sym e))) (others_kept k (keys_of table) d))
names-without_cases false k name v table changed e d h = ap (λ (ks : Names). k ∷ ks) h

pub names-without : (table : Table) (name : List ℕ) → IsDistinct bytes_eq (keys_of table) → keys_of (without table name) ≡ less_name name (keys_of table)
unfolding IsDistinct
names-without [] name d = refl
names-without (e ∷ table) name d = names-without_cases (bytes_eq name e.0) e.0 name e.1 table (without table name) refl d.0 (names-without table name d.1)

is_there_cases : (b any : Bool) (v e : Entry) (rest : Option Entry) → cond b (Some v) rest ≡ Some e → (rest ≡ Some e → any ≡ true) → (b || any) ≡ true
is_there_cases true any v e rest h k = refl
is_there_cases false any v e rest h k = k h

-- a name under which something stands is one of the names
is_there : (table : Table) (name : List ℕ) (e : Entry) → entry_of table name ≡ Some e → list_any (bytes_eq name) (keys_of table) ≡ true
is_there [] name e h = cc
is_there (x ∷ table) name e h = is_there_cases (bytes_eq name x.0) (list_any (bytes_eq name) (keys_of table)) x.1 e (entry_of table name) h (is_there table name e)

-- and putting something under it leaves the names as they were
pub names-put_there : (table : Table) (name : List ℕ) (new e : Entry) → entry_of table name ≡ Some e → keys_of (put table name new) ≡ keys_of table
names-put_there table name new e h = names-put table name new ∙ ap (λ (b : Bool). cond b (keys_of table) (keys_of table ++ name ∷ [])) (is_there table name e h)
