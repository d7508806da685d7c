-- Tables that agree with the same accepted commands and files are the same.
use Rattle.std.proofs.Common.{◌≡◌, ℕ, List, [], ◌∷◌, refl, ap, sym, ◌∙◌, subst, Bool, true, false, cond}
use Rattle.std.specs.Prelude.{Option, None, Some}
use Rattle.std.specs.Str.{bytes_eq}
use Rattle.std.specs.Map.{keys_of}
use Rattle.std.specs.List.{AllByRecursion, IsDistinct}
use Rattle.std.proofs.lemmas.Slice.Eq.{bytes_eq-Decides}
use Rattle.calc_state.specs.declared.entry.Entry.{Entry}
use Rattle.name_table.specs.Table.{entry_of}
use Rattle.calc_state.specs.Table.{Table}
use Rattle.run_laws.specs.Acts.{Act}
use Rattle.run_laws.specs.Sets.{IsEntryOf}
use Rattle.run_laws.specs.Sameness.{AreSameEntries, AreSameTables}
use Rattle.run_laws.proofs.TableLaws.{distinct_keys, none_there}
use Rattle.run_laws.proofs.OneForm.{OneForm}
use Rattle.run_laws.proofs.OneSet.{one_entry}
use Rattle.run_laws.proofs.SetLaws.{StandsAlone, Agrees}

-- both are nothing, or both the same
abbrev BothSame : Option Entry → Option Entry → Type 0
BothSame None None = Unit {0}
BothSame (Some e) (Some f) = AreSameEntries e f
BothSame None (Some f) = ⊥
BothSame (Some e) None = ⊥

both_stand : (E : Entry → Type 0) (o u : Option Entry) → ((x y : Entry) → E x → E y → AreSameEntries x y) → StandsAlone o E → StandsAlone u E → BothSame o u
both_stand E None None one a b = tt
both_stand E (Some e) (Some f) one a b = one e f a b
both_stand E None (Some f) one a b = a f b
both_stand E (Some e) None one a b = b e a

same_name : (name : List ℕ) → bytes_eq name name ≡ true
same_name name = (bytes_eq-Decides name name).1 refl

first_there : (b : Bool) (e f : Entry) (o u : Option Entry) → b ≡ true → BothSame (cond b (Some e) o) (cond b (Some f) u) → AreSameEntries e f
first_there true e f o u t h = h
first_there false e f o u t h = cc

none_both : (o u : Option Entry) → o ≡ None → u ≡ None → BothSame o u
none_both None None h k = tt
none_both (Some e) u h k = cc
none_both None (Some f) h k = cc

-- what stands behind the first name
behind_first : (b : Bool) (e f : Entry) (o u : Option Entry) → (b ≡ true → BothSame o u) → BothSame (cond b (Some e) o) (cond b (Some f) u) → BothSame o u
behind_first true e f o u t h = t refl
behind_first false e f o u t h = h

abbrev head_of : List ℕ → List (List ℕ) → List ℕ
head_of none [] = none
head_of none (k ∷ ks) = k

abbrev rest_of : List (List ℕ) → List (List ℕ)
rest_of [] = []
rest_of (k ∷ ks) = ks

-- two entries under one name, and what stands behind them
module _ (name other : List ℕ) (e f : Entry) (table others : Table) (first : name ≡ other) (rest : keys_of table ≡ keys_of others) (h : (n : List ℕ) → BothSame (cond (bytes_eq n name) (Some e) (entry_of table n)) (cond (bytes_eq n other) (Some f) (entry_of others n))) where
  at : (n : List ℕ) → BothSame (cond (bytes_eq n name) (Some e) (entry_of table n)) (cond (bytes_eq n name) (Some f) (entry_of others n))
  at n = subst (λ (m : List ℕ). BothSame (cond (bytes_eq n name) (Some e) (entry_of table n)) (cond (bytes_eq n m) (Some f) (entry_of others n))) (sym first) (h n)

  first_same : AreSameEntries e f
  first_same = first_there (bytes_eq name name) e f (entry_of table name) (entry_of others name) (same_name name) (at name)

  absent : AllByRecursion (λ k. bytes_eq name k ≡ false) (keys_of table) → (n : List ℕ) → bytes_eq n name ≡ true → BothSame (entry_of table n) (entry_of others n)
  absent alone n t =
      let same : n ≡ name = (bytes_eq-Decides n name).0 t in
      let gone : AllByRecursion (λ k. bytes_eq n k ≡ false) (keys_of table) = subst (λ (m : List ℕ). AllByRecursion (λ k. bytes_eq m k ≡ false) (keys_of table)) (sym same) alone in
      none_both (entry_of table n) (entry_of others n) (none_there table n gone) (none_there others n (subst (AllByRecursion (λ k. bytes_eq n k ≡ false)) rest gone))

  later_same : AllByRecursion (λ k. bytes_eq name k ≡ false) (keys_of table) → (n : List ℕ) → BothSame (entry_of table n) (entry_of others n)
  later_same alone n = behind_first (bytes_eq n name) e f (entry_of table n) (entry_of others n) (absent alone n) (at n)

tables_same : (table others : Table) → IsDistinct bytes_eq (keys_of table) → keys_of table ≡ keys_of others → ((name : List ℕ) → BothSame (entry_of table name) (entry_of others name)) → AreSameTables table others
unfolding IsDistinct
tables_same [] [] d k h = tt
tables_same [] (f ∷ others) d k h = cc
tables_same (e ∷ table) [] d k h = cc
tables_same (e ∷ table) (f ∷ others) d k h = (
  ap (head_of []) k,
  first_same e.0 f.0 e.1 f.1 table others (ap (head_of []) k) (ap rest_of k) h,
  tables_same table others d.1 (ap rest_of k) (later_same e.0 f.0 e.1 f.1 table others (ap (head_of []) k) (ap rest_of k) h d.0),
)

-- two tables that have what the same commands and files give
pub agreeing_same : OneForm → (table others : Table) (all : List Act) → Agrees table all → Agrees others all → AreSameTables table others
agreeing_same laws table others all a b =
    tables_same table others (distinct_keys table a.distinct) (a.names ∙ sym b.names)
    (λ name. both_stand (IsEntryOf all name) (entry_of table name) (entry_of others name) (one_entry laws all name) (a.sets name) (b.sets name))
