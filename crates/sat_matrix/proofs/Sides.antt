-- The indices of the values on a side of a row.
use Rattle.std.specs.Prelude.{◌≡◌, ℕ, ◌+◌, ◌<◌, ◌≤◌, true, false, List, [], ◌∷◌, ◌++◌, length, ℤ}
use Rattle.std.proofs.Common.{refl, sym, ap, ◌∙◌, arith, inl, inr}
use Rattle.std.proofs.lemmas.List.{get_or_append_left, get_or_push, length_push}
use Rattle.std.proofs.lemmas.Bool.{cases_lt, false≢true}
use Rattle.row_core.specs.Pairs.{value_at}
use Rattle.sat_matrix.specs.Pairs.{is_on, index_at, AreOn}
use Rattle.sat_matrix.specs.declared.adjacency.Side.{Side}

pub on_none : (side : Side) (values : List ℤ) → AreOn side values 0 []
on_none side values = record {
  rising = record { within = λ q h. absurd (omega (arith, h)); increasing = λ q r h g. absurd (omega (arith, g)) };
  on = λ q h. absurd (omega (arith, h));
  all = λ n h. absurd (omega (arith, h));
}

-- one index more
pub on_push : (side : Side) (values : List ℤ) (bound : ℕ) (indices : List ℕ) → AreOn side values bound indices → is_on side (value_at values bound) ≡ true → AreOn side values (bound + 1) (indices ++ bound ∷ [])
on_push side values bound indices h is = record {
  rising = record {
    within = λ q inside. elim (cases_lt q (length indices)) [
      | inl less ↦ omega (arith, before q less, h.rising.within q less)
      | inr more ↦ omega (arith, last q (at q inside more))
    ];
    increasing = λ q r less inside. elim (cases_lt r (length indices)) [
      | inl inner ↦ omega (arith, before q (omega arith), before r inner, h.rising.increasing q r less inner)
      | inr more ↦ let first : q < length indices = omega (arith, at r inside more) in omega (arith, before q first, last r (at r inside more), h.rising.within q first)
    ];
  };
  on = λ q inside. elim (cases_lt q (length indices)) [
    | inl less ↦ ap (λ n. is_on side (value_at values n)) (before q less) ∙ h.on q less
    | inr more ↦ ap (λ n. is_on side (value_at values n)) (last q (at q inside more)) ∙ is
  ];
  all = λ n less value. elim (cases_lt n bound) [
    | inl before_it ↦ let found = h.all n before_it value in (found.0, omega (arith, length_push indices bound, found.1), before found.0 found.1 ∙ found.2)
    | inr here ↦ (length indices, omega (arith, length_push indices bound), last (length indices) refl ∙ (let e : bound ≡ n = omega arith in e))
  ];
}
  where
    before : (q : ℕ) → q < length indices → index_at (indices ++ bound ∷ []) q ≡ index_at indices q
    before q less = get_or_append_left indices (bound ∷ []) 0 q less

    last : (q : ℕ) → length indices ≡ q → index_at (indices ++ bound ∷ []) q ≡ bound
    last q e = get_or_push indices bound 0 q e

    at : (q : ℕ) → q < length (indices ++ bound ∷ []) → length indices ≤ q → length indices ≡ q
    at q inside more = omega (arith, length_push indices bound)

-- an index of a value that isn't on the side
pub on_pass : (side : Side) (values : List ℤ) (bound : ℕ) (indices : List ℕ) → AreOn side values bound indices → is_on side (value_at values bound) ≡ false → AreOn side values (bound + 1) indices
on_pass side values bound indices h not_on = record {
  rising = record { within = λ q inside. omega (arith, h.rising.within q inside); increasing = h.rising.increasing };
  on = h.on;
  all = λ n less value. elim (cases_lt n bound) [
    | inl before ↦ h.all n before value
    | inr here ↦ absurd (false≢true (sym not_on ∙ ap (λ m. is_on side (value_at values m)) (let e : bound ≡ n = omega arith in e) ∙ value))
  ];
}
