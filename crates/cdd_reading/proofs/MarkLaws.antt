-- Marks of rows.
use Rattle.std.proofs.Common.{◌≡◌, ◌≢◌, ℕ, ◌+◌, ◌<◌, ◌≤◌, ◌==◌, ◌||◌, List, [], ◌∷◌, ◌++◌, length, map, set, get_or, refl, sym, ◌∙◌, ap, subst, arith, zero, suc, inl, inr, ◌⊎◌, Bool, true, false, replicate, eq-eqb, rules, tests}
use Rattle.std.specs.List.{list_any, range_with_len}
use Rattle.std.proofs.lemmas.Bool.{cases_eq}
use Rattle.std.proofs.lemmas.List.{get_or-set_same, get_or-set_other, ext_get_or, length-set, map-append, append-nil}
use Rattle.std.proofs.lemmas.List.FromFn.{length-map-range_with_len, get_or-map-range_with_len}
use Rattle.std.proofs.lemmas.List.Folds.{list_any-append}
use Rattle.std.proofs.lemmas.List.Elements.{All-push}
use Rattle.plain_text.specs.Digits.{number}
use Rattle.cdd_reading.specs.Files.{marks}
use Rattle.cdd_reading.specs.Refusals.{AllName}
use Rattle.cdd_reading.proofs.ListLaws.{All-inside}

no_marks_from : (a n : ℕ) → replicate n false ≡ map (λ i. list_any (λ k. k == i) []) (range_with_len a n)
no_marks_from a zero = refl
no_marks_from a (suc n) = ap (λ t. false ∷ t) (no_marks_from (a + 1) n)

pub no_marks : (n : ℕ) → replicate n false ≡ marks [] n
no_marks n = no_marks_from 1 n

pub marks_length : (is : List ℕ) (m : ℕ) (items : List Bool) → items ≡ marks is m → length items ≡ m
marks_length is m items e = ap (λ (l : List Bool). length l) e ∙ length-map-range_with_len (λ (i : ℕ). list_any (λ k. k == i) is) 1 m

mark_at : (is : List ℕ) (m j : ℕ) → j < m → get_or (marks is m) j false ≡ list_any (λ k. k == j + 1) is
mark_at is m j h = get_or-map-range_with_len (λ i. list_any (λ k. k == i) is) 1 m j (j + 1) false h (omega arith)

or_true : (a b : Bool) → b ≡ true → (a || (b || false)) ≡ true
or_true true b e = refl
or_true false true e = refl
or_true false false e = cc

or_false : (a b : Bool) → b ≡ false → (a || (b || false)) ≡ a
or_false true b e = refl
or_false false true e = cc
or_false false false e = refl

pub not_same : (a b : ℕ) → a ≢ b → (a == b) ≡ false
not_same a b h = search (rules, tests)

more_at : (is : List ℕ) (i m p j : ℕ) → p + 1 ≡ i → p < m → j < m → (j ≡ p) ⊎ (j ≢ p) → get_or (set (marks is m) p true) j false ≡ get_or (marks (is ++ i ∷ []) m) j false
more_at is i m p j e h k (inl same) =
    ap (λ n. get_or (set (marks is m) p true) n false) same
    ∙ get_or-set_same (marks is m) p true false (omega (arith, length-map-range_with_len (λ (i : ℕ). list_any (λ k. k == i) is) 1 m))
    ∙ sym (mark_at (is ++ i ∷ []) m j k ∙ list_any-append (λ n. n == j + 1) is (i ∷ []) ∙ or_true (list_any (λ n. n == j + 1) is) (i == j + 1) (eq-eqb i (j + 1) (omega arith)))
more_at is i m p j e h k (inr other) =
    get_or-set_other (marks is m) p j true false other
    ∙ mark_at is m j k
    ∙ sym (mark_at (is ++ i ∷ []) m j k ∙ list_any-append (λ n. n == j + 1) is (i ∷ []) ∙ or_false (list_any (λ n. n == j + 1) is) (i == j + 1) (not_same i (j + 1) (λ w. other (omega arith))))

-- one more index
pub mark_more : (is : List ℕ) (i m p : ℕ) → p + 1 ≡ i → p < m → set (marks is m) p true ≡ marks (is ++ i ∷ []) m
mark_more is i m p e h =
    let n = length-map-range_with_len (λ (i : ℕ). list_any (λ k. k == i) is) 1 m in
    let l = length-map-range_with_len (λ (j : ℕ). list_any (λ k. k == j) (is ++ i ∷ [])) 1 m in
    let s = length-set (marks is m) p true in
    ext_get_or false (set (marks is m) p true) (marks (is ++ i ∷ []) m) (s ∙ n ∙ sym l) (λ j k. more_at is i m p j e h (subst (λ x. j < x) (s ∙ n) k) (cases_eq j p))

pub one_marked : (before : List (List ℕ)) (t : List ℕ) (m p : ℕ) (items : List Bool) → AllName m (map number before) → items ≡ marks (map number before) m → p + 1 ≡ number t → p < m → AllName m (map number (before ++ t ∷ [])) × (set items p true ≡ marks (map number (before ++ t ∷ [])) m)
one_marked before t m p items all e f h =
    let same = map-append number before (t ∷ []) in (
      subst (λ (l : List ℕ). AllName m l) (sym same) (All-push (λ (i : ℕ). (0 < i) × (i ≤ m)) (map number before) (number t) all (omega arith, omega arith)),
      ap (λ (l : List Bool). set l p true) e ∙ mark_more (map number before) (number t) m p f h ∙ sym (ap (λ (l : List ℕ). marks l m) same),
    )

pub not_named : (line before rest behind : List (List ℕ)) (t : List ℕ) (m : ℕ) → line ≡ before ++ rest → rest ≡ t ∷ behind → ¬ ((0 < number t) × (number t ≤ m)) → ¬ (AllName m (map number line))
not_named line before rest behind t m e f out h = out (All-inside (λ (i : ℕ). (0 < i) × (i ≤ m)) (map number before) (number t) (map number behind) (subst (λ (l : List ℕ). AllName m l) (ap (λ l. map number l) (e ∙ ap (λ r. before ++ r) f) ∙ map-append number before (t ∷ behind)) h))

pub all_marked : (line before rest : List (List ℕ)) (m : ℕ) (items : List Bool) → line ≡ before ++ rest → rest ≡ [] → AllName m (map number before) → items ≡ marks (map number before) m → (items ≡ marks (map number line) m) × AllName m (map number line)
all_marked line before rest m items e f all g =
    let same : line ≡ before = e ∙ ap (λ r. before ++ r) f ∙ append-nil before in (
      g ∙ sym (ap (λ l. marks (map number l) m) same),
      subst (λ (l : List (List ℕ)). AllName m (map number l)) (sym same) all,
    )
