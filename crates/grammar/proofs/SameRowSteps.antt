-- Rows that are the same but for their order and for repeats.
use Rattle.std.proofs.Common.{◌≡◌, ℕ, zero, suc, ◌+◌, ◌<◌, true, List, [], ◌∷◌, ◌++◌, length, take, map, get_or, refl, ap, sym, subst, ◌∙◌, inl, inr, arith}
use Rattle.std.specs.Prelude.{Contains}
use Rattle.std.proofs.lemmas.Bool.{and_parts, and_from}
use Rattle.std.proofs.lemmas.List.{length-map, get_or-map}
use Rattle.std.proofs.lemmas.List.Elements.{Contains-append_left, Contains-append_right, Contains-append_cases, Contains-push_cases}
use Rattle.grammar.specs.Form.{Form}
use Rattle.grammar.specs.Shape.{shape}
use Rattle.grammar.specs.SameRows.{SameRows}
use Rattle.grammar.specs.Derivative.{Spells, AnySpells, row_lives, rows_live}
use Rattle.grammar.specs.declared.re.Re.{Re}
use Rattle.grammar.proofs.RowSteps.{rows_more}

pub same_rows : (rows : List (List Form)) → SameRows rows rows
same_rows rows = record { kept = λ (row : List Form) (h : Contains rows row). h; only = λ (row : List Form) (h : Contains rows row). h }

pub same_push : (old new : List (List Form)) (row : List Form) → SameRows old new → SameRows (old ++ row ∷ []) (new ++ row ∷ [])
same_push old new row s = record {
  kept = λ (r : List Form) (h : Contains (old ++ row ∷ []) r).
      (elim (Contains-append_cases old (row ∷ []) r h) [ inl x ↦ Contains-append_left new (row ∷ []) r (s.kept r x) | inr y ↦ Contains-append_right new (row ∷ []) r y ]);
  only = λ (r : List Form) (h : Contains (new ++ row ∷ []) r).
      (elim (Contains-append_cases new (row ∷ []) r h) [ inl x ↦ Contains-append_left old (row ∷ []) r (s.only r x) | inr y ↦ Contains-append_right old (row ∷ []) r y ]);
}

pub same_skip : (old new : List (List Form)) (row : List Form) → SameRows old new → Contains new row → SameRows (old ++ row ∷ []) new
same_skip old new row s in_new = record {
  kept = λ (r : List Form) (h : Contains (old ++ row ∷ []) r).
      (elim (Contains-push_cases old row r h) [ inl x ↦ s.kept r x | inr y ↦ subst (λ (t : List Form). Contains new t) y in_new ]);
  only = λ (r : List Form) (h : Contains new r). Contains-append_left old (row ∷ []) r (s.only r h);
}

contains_head : (row : List Form) (rows : List (List Form)) → Contains (row ∷ rows) row
contains_head row rows = (zero, omega arith, refl)

contains_tail : (first row : List Form) (rows : List (List Form)) → Contains rows row → Contains (first ∷ rows) row
contains_tail first row rows (k, h, e) = (suc k, omega arith, e)

spells_from : (rows : List (List Form)) (row : List Form) (w : List ℕ) (k : ℕ) → k < length rows → get_or rows k row ≡ row → Spells row w → AnySpells rows w
spells_from [] row w k h e s = absurd (omega arith)
spells_from (first ∷ rows) row w zero h e s = inl (subst (λ (r : List Form). Spells r w) (sym e) s)
spells_from (first ∷ rows) row w (suc k) h e s = inr (spells_from rows row w k (omega arith) e s)

spells_in : (rows : List (List Form)) (row : List Form) (w : List ℕ) → Contains rows row → Spells row w → AnySpells rows w
spells_in rows row w (k, h, e) s = spells_from rows row w k h e s

-- what some rows spell is spelled by all rows that have them
pub spells_within : (some rows : List (List Form)) (w : List ℕ) → ((row : List Form) → Contains some row → Contains rows row) → AnySpells some w → AnySpells rows w
spells_within [] rows w within a = absurd a
spells_within (row ∷ some) rows w within (inl s) = spells_in rows row w (within row (contains_head row some)) s
spells_within (row ∷ some) rows w within (inr a) =
    spells_within some rows w (λ (r : List Form) (h : Contains some r). within r (contains_tail row r some h)) a

lives_from : (rows : List (List Form)) (row : List Form) (k : ℕ) → rows_live rows ≡ true → k < length rows → get_or rows k row ≡ row → row_lives row ≡ true
lives_from [] row k e h i = absurd (omega arith)
lives_from (first ∷ rows) row zero e h i = ap row_lives (sym i) ∙ (and_parts (row_lives first) (rows_live rows) e).0
lives_from (first ∷ rows) row (suc k) e h i = lives_from rows row k ((and_parts (row_lives first) (rows_live rows) e).1) (omega arith) i

lives_in : (rows : List (List Form)) (row : List Form) → rows_live rows ≡ true → Contains rows row → row_lives row ≡ true
lives_in rows row e (k, h, i) = lives_from rows row k e h i

pub live_within : (some rows : List (List Form)) → ((row : List Form) → Contains some row → Contains rows row) → rows_live rows ≡ true → rows_live some ≡ true
live_within [] rows within e = refl
live_within (row ∷ some) rows within e =
    and_from (row_lives row) (rows_live some) (lives_in rows row e (within row (contains_head row some)))
    (live_within some rows (λ (r : List Form) (h : Contains some r). within r (contains_tail row r some h)) e)

-- one more row behind those that were gone through
pub same_more : (rows : List (List Re)) (i : ℕ) (row : List Re) (new : List (List Form)) → i < length rows → row ≡ get_or rows i [] →
    SameRows (take i (map (map shape) rows)) new → SameRows (take (i + 1) (map (map shape) rows)) (new ++ map shape row ∷ [])
same_more rows i row new h e s =
    subst (λ (x : List (List Form)). SameRows x (new ++ map shape row ∷ [])) (sym (rows_more rows i row h e)) (same_push (take i (map (map shape) rows)) new (map shape row) s)

pub same_repeat : (rows : List (List Re)) (i : ℕ) (row : List Re) (new : List (List Form)) → i < length rows → row ≡ get_or rows i [] →
    SameRows (take i (map (map shape) rows)) new → Contains new (map shape row) → SameRows (take (i + 1) (map (map shape) rows)) new
same_repeat rows i row new h e s c =
    subst (λ (x : List (List Form)). SameRows x new) (sym (rows_more rows i row h e)) (same_skip (take i (map (map shape) rows)) new (map shape row) s c)

-- the row at a place is one of the rows
pub row_in : (rows : List (List Re)) (i : ℕ) (row : List Re) (other : List Form) → i < length rows → row ≡ get_or rows i [] → map shape row ≡ other → Contains (map (map shape) rows) other
row_in rows i row other h e same =
    (i, omega (arith, length-map rows (map shape)), get_or-map (map shape) rows i row other h ∙ ap (λ (x : List Re). map shape x) (here rows i row h e) ∙ same)
  where
    here : (rows : List (List Re)) (i : ℕ) (row : List Re) → i < length rows → row ≡ get_or rows i [] → get_or rows i row ≡ row
    here [] i row h e = absurd (omega arith)
    here (first ∷ rows) zero row h e = sym e
    here (first ∷ rows) (suc i) row h e = here rows i row (omega arith) e
