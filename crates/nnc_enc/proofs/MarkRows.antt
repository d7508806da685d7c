-- A table that gains a row of marks, column by column.
use Rattle.std.proofs.Common.{◌≡◌, ◌≢◌, ◌⊎◌, inl, inr, ℕ, zero, suc, ◌+◌, ◌-◌, ◌<◌, ◌≤◌, Bool, true, false, List, [], ◌∷◌, ◌++◌, length, replicate, refl, sym, ap, ◌∙◌, subst, arith}
use Rattle.std.specs.Prelude.{slice_index_or, slice_set}
use Rattle.std.proofs.lemmas.Bool.{cases_eq, cases_lt}
use Rattle.std.proofs.lemmas.List.{length-append, length-replicate, length-set, get_or_append_left, get_or-append_right, get_or-set_same, get_or-set_other, get_or_past}
use Rattle.sat_matrix.specs.Tables.{bits_of}
use Rattle.nnc_enc.specs.Marks.{flag}
use Rattle.nnc_enc.specs.Passes.{HasMarksRow}

-- as many rows and then one that is true at the marked columns below n
pub record HasMarksUpto (marks : List Bool) (rows new : List (List Bool)) (n : ℕ) : Type 0 where
  pub as_many : length new ≡ length rows + 1
  pub same : (i : ℕ) → i < length rows → bits_of new i ≡ bits_of rows i
  pub wide : length (bits_of new (length rows)) ≡ length marks
  pub marked : (c : ℕ) → c < n → flag (bits_of new (length rows)) c ≡ flag marks c
  pub rest : (c : ℕ) → n ≤ c → flag (bits_of new (length rows)) c ≡ false

no_flag : (n c : ℕ) → flag (replicate n false) c ≡ false
no_flag zero c = refl
no_flag (suc n) zero = refl
no_flag (suc n) (suc c) = no_flag n c

last_row : (rows : List (List Bool)) (row : List Bool) → bits_of (rows ++ row ∷ []) (length rows) ≡ row
last_row rows row =
    let none : length rows - length rows ≡ 0 = omega arith in
    get_or-append_right rows (row ∷ []) (length rows) (length rows) [] refl (omega arith) ∙ ap (λ (n : ℕ). slice_index_or (row ∷ []) n []) none

-- none at first
pub marks_none : (marks : List Bool) (rows new : List (List Bool)) (columns : ℕ) → length marks ≡ columns → new ≡ rows ++ replicate columns false ∷ [] → HasMarksUpto marks rows new 0
marks_none marks rows new columns e is = subst (λ (x : List (List Bool)). HasMarksUpto marks rows x 0) (sym is) (record {
  as_many = length-append rows (replicate columns false ∷ []);
  same = λ i h. get_or_append_left rows (replicate columns false ∷ []) [] i h;
  wide = ap length (last_row rows (replicate columns false)) ∙ length-replicate columns false ∙ sym e;
  marked = λ c l. absurd (omega (arith, l));
  rest = λ c l. ap (λ (r : List Bool). flag r c) (last_row rows (replicate columns false)) ∙ no_flag columns c;
})

module _ (marks : List Bool) (rows old : List (List Bool)) (n : ℕ) (below : n < length marks) (h : HasMarksUpto marks rows old n) where
  abbrev row : List Bool
  row = bits_of old (length rows)

  -- one column more, which is marked
  pub marks_set : (new : List (List Bool)) → flag marks n ≡ true → new ≡ slice_set old (length rows) (slice_set (bits_of old (length rows)) n true) → HasMarksUpto marks rows new (n + 1)
  marks_set new m is = subst (λ (x : List (List Bool)). HasMarksUpto marks rows x (n + 1)) (sym is) (record {
    as_many = length-set old (length rows) (slice_set row n true) ∙ h.as_many;
    same = λ i l. (let ne : i ≢ length rows = (λ e. omega (arith, e, l)) in get_or-set_other old (length rows) i (slice_set row n true) [] ne ∙ h.same i l);
    wide = ap length written ∙ length-set row n true ∙ h.wide;
    marked = λ c l. ap (λ (r : List Bool). flag r c) written ∙ by_place c l (cases_eq c n);
    rest = λ c l. ap (λ (r : List Bool). flag r c) written ∙ get_or-set_other row n c true false (λ e. omega (arith, e, l)) ∙ h.rest c (omega (arith, l));
  })
    where
      written : bits_of (slice_set old (length rows) (slice_set row n true)) (length rows) ≡ slice_set row n true
      written = get_or-set_same old (length rows) (slice_set row n true) [] (omega (arith, h.as_many))

      by_place : (c : ℕ) → c < n + 1 → (c ≡ n) ⊎ (c ≢ n) → flag (slice_set row n true) c ≡ flag marks c
      by_place c l (inl e) = ap (flag (slice_set row n true)) e ∙ get_or-set_same row n true false (omega (arith, below, h.wide)) ∙ sym m ∙ ap (flag marks) (sym e)
      by_place c l (inr ne) = get_or-set_other row n c true false ne ∙ h.marked c (omega (arith, l, ne))

  -- and one that isn't
  pub marks_passed : flag marks n ≡ false → HasMarksUpto marks rows old (n + 1)
  marks_passed m = record {
    as_many = h.as_many;
    same = h.same;
    wide = h.wide;
    marked = λ c l. by_place c l (cases_eq c n);
    rest = λ c l. h.rest c (omega (arith, l));
  }
    where
      by_place : (c : ℕ) → c < n + 1 → (c ≡ n) ⊎ (c ≢ n) → flag row c ≡ flag marks c
      by_place c l (inl e) = ap (flag row) e ∙ h.rest n (omega arith) ∙ sym m ∙ ap (flag marks) (sym e)
      by_place c l (inr ne) = h.marked c (omega (arith, l, ne))

pub marks_all : (marks : List Bool) (rows new : List (List Bool)) (n : ℕ) → length marks ≤ n → HasMarksUpto marks rows new n → HasMarksRow marks rows new
marks_all marks rows new n e h = record { as_many = h.as_many; same = h.same; wide = h.wide; marked = λ c. by_place c (cases_lt c n) }
  where
    by_place : (c : ℕ) → (c < n) ⊎ (n ≤ c) → flag (bits_of new (length rows)) c ≡ flag marks c
    by_place c (inl l) = h.marked c l
    by_place c (inr l) = h.rest c l ∙ sym (get_or_past marks c false (omega (arith, l, e)))
