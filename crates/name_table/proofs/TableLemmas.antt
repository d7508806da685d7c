-- The table of names and the map that keeps it.
use Rattle.std.proofs.Common.{◌≡◌, ℕ, ◌+◌, ◌<◌, suc, List, [], ◌∷◌, ◌++◌, length, Some, true, false, refl, sym, ◌∙◌, ap, cond, append_assoc, append-nil, length-append, position, subst, arith, not, None, Option, is_some, true≢false}
use Rattle.std.specs.Str.{bytes_eq}
use Rattle.std.specs.List.{position_or_len}
use Rattle.std.specs.Map.{keys_of, lookup}
use Rattle.indexmap.proofs.MapLemmas.{Found-position}
use Rattle.indexmap.specs.IndexMap.{insert_entry, shift_remove_entry, set_value_at}
use Rattle.name_table.specs.Table.{Table, entry_of, put, put_each, numbered, numbered_entries, without}
use Rattle.name_table.specs.Keys.{Key, named}

module _ {E : Type 0} where
  abbrev some_entry : E → Option E
  some_entry e = Some e

  pub lookup-named : (es : List (Key × E)) (name : List ℕ) → lookup (λ (k : Key). bytes_eq name k.items) es ≡ entry_of (named es) name
  lookup-named [] name = refl
  lookup-named (e ∷ es) name = ap (λ o. cond (bytes_eq name e.0.items) (Some e.1) o) (lookup-named es name)

  pub named-insert_entry : (es : List (Key × E)) (key : Key) (value : E) → named (insert_entry (λ (a b : Key). bytes_eq a.items b.items) es key value) ≡ put (named es) key.items value
  named-insert_entry [] key value = refl
  named-insert_entry (e ∷ es) key value =
      elim (bytes_eq key.items e.0.items) as (λ b. named (cond b ((e.0, value) ∷ es) (e ∷ insert_entry (λ (x y : Key). bytes_eq x.items y.items) es key value)) ≡ cond b ((e.0.items, value) ∷ named es) ((e.0.items, e.1) ∷ put (named es) key.items value)) [ true ↦ refl | false ↦ ap (λ t. (e.0.items, e.1) ∷ t) (named-insert_entry es key value) ]

  pub named-remove_entry : (es : List (Key × E)) (name : List ℕ) → named (shift_remove_entry (λ (k : Key). bytes_eq name k.items) es) ≡ without (named es) name
  named-remove_entry [] name = refl
  named-remove_entry (e ∷ es) name =
      elim (bytes_eq name e.0.items) as (λ b. named (cond b es (e ∷ shift_remove_entry (λ (k : Key). bytes_eq name k.items) es)) ≡ cond b (named es) ((e.0.items, e.1) ∷ without (named es) name)) [ true ↦ refl | false ↦ ap (λ t. (e.0.items, e.1) ∷ t) (named-remove_entry es name) ]

  -- ---- an entry where it stands
  -- where a name stands
  abbrev place : List (Key × E) → List ℕ → ℕ
  place es name = position_or_len (λ (k : Key). bytes_eq name k.items) (keys_of es)

  replaced_at_place : (es : List (Key × E)) (name : List ℕ) (value : E) → place es name < length es → named (set_value_at es (place es name) value) ≡ put (named es) name value
  replaced_at_place [] name value h = absurd (omega (arith, h))
  replaced_at_place (e ∷ es) name value h =
      elim (bytes_eq name e.0.items) as (λ b. cond (not b) (1 + place es name) 0 < suc (length es) → named (set_value_at (e ∷ es) (cond (not b) (1 + place es name) 0) value) ≡ cond b ((e.0.items, value) ∷ named es) ((e.0.items, e.1) ∷ put (named es) name value)) [ true ↦ λ k. refl | false ↦ λ k. (let next : 1 + place es name ≡ suc (place es name) = omega arith in ap (λ n. named (set_value_at (e ∷ es) n value)) next ∙ ap (λ t. (e.0.items, e.1) ∷ t) (replaced_at_place es name value (omega (arith, k)))) ] h

  -- the entry of a name is replaced where it stands
  pub replaced_at : (es : List (Key × E)) (name : List ℕ) (i : ℕ) (value : E) (table : Table E) → Some i ≡ position (λ (k : Key). bytes_eq name k.items) (keys_of es) → named es ≡ table → named (set_value_at es i value) ≡ put table name value
  replaced_at es name i value table p view =
      let found = Found-position (λ (k : Key). bytes_eq name k.items) es i (sym p) in
      subst (λ (j : ℕ). j < length es → named (set_value_at es j value) ≡ put (named es) name value) found.or_len (replaced_at_place es name value) found.within
      ∙ ap (λ (t : Table E). put t name value) view

  -- an entry that is put under its own name changes nothing
  pub put_same : (table : Table E) (name : List ℕ) (e : E) → entry_of table name ≡ Some e → put table name e ≡ table
  put_same [] name e h = let none : None ≡ some_entry e = h in cc
  put_same (f ∷ table) name e h =
      elim (bytes_eq name f.0) as (λ b. cond b (Some f.1) (entry_of table name) ≡ Some e → cond b ((f.0, e) ∷ table) (f ∷ put table name e) ≡ f ∷ table) [ true ↦ λ k. (let same : some_entry f.1 ≡ some_entry e = k in ap (λ (x : E). (f.0, x) ∷ table) (sym (let is : f.1 ≡ e = cc in is))) | false ↦ λ k. ap (λ t. f ∷ t) (put_same table name e k) ] h

  -- a name without a place has no entry
  pub no_entry : (es : List (Key × E)) (name : List ℕ) (index : Option ℕ) (table : Table E) → index ≡ None → is_some index ≡ is_some (lookup (λ (k : Key). bytes_eq name k.items) es) → named es ≡ table → entry_of table name ≡ None
  no_entry es name index table e f view =
      let lacks : is_some (entry_of table name) ≡ false = ap is_some (ap (λ (t : Table E). entry_of t name) (sym view) ∙ sym (lookup-named es name)) ∙ (sym f ∙ ap is_some e) in
      elim (entry_of table name) as (λ o. is_some o ≡ false → o ≡ None) [ None ↦ λ k. refl | Some x ↦ λ k. absurd (true≢false k) ] lacks

  -- ---- several entries
  named-append : (es others : List (Key × E)) → named (es ++ others) ≡ named es ++ named others
  named-append [] others = refl
  named-append (e ∷ es) others = ap (λ t. (e.0.items, e.1) ∷ t) (named-append es others)

  -- one more entry has its number
  pub one_more_entry : (prefix : List ℕ) (es next : List (Key × E)) (left less : List E) (e : E) (key : Key) (all : Table E) → left ≡ e ∷ less → next ≡ es ++ (key, e) ∷ [] → key.items ≡ numbered prefix (length es) → named es ++ numbered_entries prefix (length es) left ≡ all → named next ++ numbered_entries prefix (length next) less ≡ all
  one_more_entry prefix es next left less e key all is f name h =
      let put_last : List (Key × E) = es ++ (key, e) ∷ [] in
      let rest : Table E = numbered_entries prefix (length es + 1) less in
      ap (λ (l : List (Key × E)). named l ++ numbered_entries prefix (length l) less) f
      ∙ (ap (λ (n : ℕ). named put_last ++ numbered_entries prefix n less) (length-append es ((key, e) ∷ []))
      ∙ (ap (λ (t : Table E). t ++ rest) (named-append es ((key, e) ∷ []))
      ∙ (append_assoc (named es) ((key.items, e) ∷ []) rest
      ∙ (ap (λ (n : List ℕ). named es ++ (n, e) ∷ rest) name
      ∙ (sym (ap (λ (l : List E). named es ++ numbered_entries prefix (length es) l) is) ∙ h)))))

  -- all have
  pub all_entries : (prefix : List ℕ) (es : List (Key × E)) (n : ℕ) (left : List E) (all : Table E) → left ≡ [] → named es ++ numbered_entries prefix n left ≡ all → named es ≡ all
  all_entries prefix es n left all e h = sym (append-nil (named es)) ∙ (sym (ap (λ (l : List E). named es ++ numbered_entries prefix n l) e) ∙ h)

  -- one more entry was put in
  pub one_more_put : (es next left less : List (Key × E)) (key : Key) (value : E) (all : Table E) → left ≡ (key, value) ∷ less → named next ≡ put (named es) key.items value → put_each (named es) (named left) ≡ all → put_each (named next) (named less) ≡ all
  one_more_put es next left less key value all e f h =
      ap (λ (t : Table E). put_each t (named less)) f ∙ (sym (ap (λ (l : List (Key × E)). put_each (named es) (named l)) e) ∙ h)

  -- all were
  pub all_put : (es left : List (Key × E)) (all : Table E) → left ≡ [] → put_each (named es) (named left) ≡ all → named es ≡ all
  all_put es left all e h = sym (ap (λ (l : List (Key × E)). put_each (named es) (named l)) e) ∙ h
