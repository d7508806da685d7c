-- What a step makes of the lists.
use Rattle.std.specs.Prelude.{◌≡◌, ◌≢◌, ℕ, ◌+◌, ◌-◌, ◌<◌, ◌≤◌, Bool, true, false, List, [], ◌∷◌, ◌++◌, length, ℤ, pos, ◌*ℤ◌, ◌-ℤ◌, unsigned_abs}
use Rattle.std.proofs.Common.{refl, sym, ap, ◌∙◌, subst, arith, inl, inr, take, replicate}
use Rattle.std.proofs.lemmas.List.{get_or_append_left, length_push, length-take, get_or-take, append_assoc, append-nil, map-append}
use Rattle.std.proofs.lemmas.List.Elements.{All-same}
use Rattle.std.proofs.lemmas.Int.{ints}
use Rattle.std.proofs.lemmas.Bool.{cases_lt}
use Rattle.flat_rows.specs.Flat.{marked}
use Rattle.flat_rows.proofs.Marked.{marked-map, marked-append, marked_all}
use Rattle.row_core.specs.Vectors.{cell, scale}
use Rattle.row_core.specs.Lists.{Row, row_at, vectors, AreMarked}
use Rattle.row_core.specs.Content.{IsPrimitive}
use Rattle.row_core.specs.Pairs.{value_at, pair_at}
use Rattle.row_core.specs.Signs.{sign}
use Rattle.row_core.specs.Combinations.{IsCombined}
use Rattle.row_core.proofs.Ring.{zero-mul, mul-zero}
use Rattle.row_core.proofs.Magnitudes.{magnitude_above}
use Rattle.row_core.proofs.RowListLemmas.{row_at-push_before, row_at-push_last, marked_push}
use Rattle.row_store.specs.Changes.{AreLowered, AreOthersLowered, with_upward, AreMade, HasMade, IsGrown, IsPairCombined, IsLineChange}

minus_zero : (x c l : ℤ) → c ≡ pos 0 → x ≡ x -ℤ c *ℤ l
minus_zero x c l e = let f : c *ℤ l ≡ pos 0 = ap (λ y. y *ℤ l) e ∙ zero-mul l in omega (arith, ints, f)

-- a vector on which the row is 0 stays
pub combined_zero : (u v : ℤ) (left right new : List ℤ) → u ≢ pos 0 → v ≡ pos 0 → IsPrimitive right → new ≡ right → IsCombined u v left right new
combined_zero u v left right new ne is_zero primitive same =
    let c : sign u *ℤ v ≡ pos 0 = ap (λ x. sign u *ℤ x) is_zero ∙ mul-zero (sign u) in
    record {
      times = pos (unsigned_abs u);
      positive = omega (arith, ints, magnitude_above u ne);
      same = λ j. ap (λ w. pos (unsigned_abs u) *ℤ cell w j) same ∙ minus_zero (pos (unsigned_abs u) *ℤ cell right j) (sign u *ℤ v) (cell left j) c;
      wide = ap length same;
      primitive = subst IsPrimitive (sym same) primitive;
    }

pub lowered_none : (u : ℤ) (line values : List ℤ) (list : List Row) (from : ℕ) (old : List Row) → AreLowered u line values list from from old old
lowered_none u line values list from old = record {
  as_many = refl;
  before = λ i h. refl;
  each = λ i low high. absurd (omega arith);
}

-- one vector more
pub lowered_more : (u : ℤ) (line values : List ℤ) (list : List Row) (from to : ℕ) (old new : List Row) (r : List ℤ) (eq : Bool) → from ≤ to → AreLowered u line values list from to old new → IsCombined u (value_at values to) line (row_at list to) r → AreLowered u line values list from (to + 1) old (new ++ (r, eq) ∷ [])
lowered_more u line values list from to old new r eq low h one = record {
  as_many = omega (arith, h.as_many, length_push new (r, eq));
  before = λ i inside. row_at-push_before new (r, eq) i (omega (arith, h.as_many)) ∙ h.before i inside;
  each = λ i above below.
      let P : List ℤ → Type 0 = λ w. IsCombined u (value_at values i) line (row_at list i) w in
      elim (cases_lt i to) [
        | inl less ↦ subst P (sym (row_at-push_before new (r, eq) (length old + (i - from)) (omega (arith, h.as_many)))) (h.each i above less)
        | inr more ↦
            let at : i ≡ to = omega arith in
            let Q : ℕ → Type 0 = λ n. IsCombined u (value_at values n) line (row_at list n) (row_at (new ++ (r, eq) ∷ []) (length old + (n - from))) in
            subst Q (sym at) (let R : List ℤ → Type 0 = λ w. IsCombined u (value_at values to) line (row_at list to) w in subst R (sym (row_at-push_last new (r, eq) (length old + (to - from)) (omega (arith, h.as_many)))) one)
      ];
}

-- the two ranges beside an index
pub others_from_ranges : (u : ℤ) (index : ℕ) (line values : List ℤ) (list middle new : List Row) → index < length list → AreLowered u line values list 0 index [] middle → AreLowered u line values list (index + 1) (length list) middle new → AreOthersLowered u index line values list new
others_from_ranges u index line values list middle new inside first second =
    let size : length middle ≡ index = omega (arith, first.as_many) in
    record {
      as_many = omega (arith, first.as_many, second.as_many);
      before = λ i less.
          let P : List ℤ → Type 0 = λ w. IsCombined u (value_at values i) line (row_at list i) w in
          let at : 0 + (i - 0) ≡ i = omega arith in
          let Q : ℕ → Type 0 = λ n. IsCombined u (value_at values i) line (row_at list i) (row_at middle n) in
          subst P (sym (second.before i (omega arith))) (subst Q at (first.each i (omega arith) less));
      behind = λ i low high.
          let at : length middle + (i + 1 - (index + 1)) ≡ i = omega arith in
          let P : ℕ → Type 0 = λ n. IsCombined u (value_at values (i + 1)) line (row_at list (i + 1)) (row_at new n) in
          subst P at (second.each (i + 1) (omega arith) high);
    }

-- a marked row more
pub marked_none : (eq : Bool) → AreMarked eq []
marked_none eq = λ k d h. absurd (omega (arith, h))

pub made_none : (values : List ℤ) (rays : List Row) → AreMade values rays [] []
made_none values rays = record { as_many = refl; each = λ i h. absurd (omega (arith, h)) }

-- one ray more
pub made_more : (values : List ℤ) (rays : List Row) (pairs : List (ℕ × ℕ)) (i : ℕ) (made : List Row) (r : List ℤ) (eq : Bool) → i < length pairs → AreMade values rays (take i pairs) made → IsPairCombined values rays (pair_at pairs i) r → AreMade values rays (take (i + 1) pairs) (made ++ (r, eq) ∷ [])
made_more values rays pairs i made r eq inside h one =
    let size : length made ≡ i = omega (arith, h.as_many, length-take i pairs) in
    record {
      as_many = omega (arith, length_push made (r, eq), size, length-take (i + 1) pairs);
      each = λ k below.
          let short : k < i + 1 = omega (arith, below, length-take (i + 1) pairs) in
          let P : ℕ × ℕ → Type 0 = λ pair. IsPairCombined values rays pair (row_at (made ++ (r, eq) ∷ []) k) in
          elim (cases_lt k i) [
            | inl less ↦
                let Q : List ℤ → Type 0 = λ w. IsPairCombined values rays (pair_at (take (i + 1) pairs) k) w in
                let R : ℕ × ℕ → Type 0 = λ pair. IsPairCombined values rays pair (row_at made k) in
                subst Q (sym (row_at-push_before made (r, eq) k (omega (arith, size)))) (subst R (get_or-take i pairs k (0, 0) less ∙ sym (get_or-take (i + 1) pairs k (0, 0) short)) (h.each k (omega (arith, less, inside, length-take i pairs))))
            | inr more ↦
                let at : k ≡ i = omega arith in
                let S : List ℤ → Type 0 = λ w. IsPairCombined values rays (pair_at pairs i) w in
                subst P (sym (get_or-take (i + 1) pairs k (0, 0) short ∙ ap (λ m. pair_at pairs m) at)) (subst S (sym (row_at-push_last made (r, eq) k (omega (arith, size)))) one)
          ];
    }

pub has_made_none : (values : List ℤ) (rays old : List Row) → HasMade values rays [] old old
has_made_none values rays old = record { made = []; is_made = made_none values rays; result = sym (append-nil old) }

pub has_made_more : (values : List ℤ) (rays : List Row) (pairs : List (ℕ × ℕ)) (i : ℕ) (old new : List Row) (r : List ℤ) (eq : Bool) → i < length pairs → HasMade values rays (take i pairs) old new → IsPairCombined values rays (pair_at pairs i) r → HasMade values rays (take (i + 1) pairs) old (new ++ (r, eq) ∷ [])
has_made_more values rays pairs i old new r eq inside h one = record {
  made = h.made ++ (r, eq) ∷ [];
  is_made = made_more values rays pairs i h.made r eq inside h.is_made one;
  result = ap (λ (rows : List Row). rows ++ (r, eq) ∷ []) h.result ∙ append_assoc old h.made ((r, eq) ∷ []);
}

pub marked_with_upward : (eq : Bool) (u : ℤ) (line : List ℤ) (rays new : List Row) → new ≡ with_upward eq u line rays → AreMarked false rays → AreMarked false new
marked_with_upward true u line rays new e h = All-same (λ (row : Row). row.1 ≡ false) new rays e h
marked_with_upward false u line rays new e h = All-same (λ (row : Row). row.1 ≡ false) new (rays ++ (scale (sign u) line, false) ∷ []) e (marked_push false rays (scale (sign u) line) h)

-- ---- rays that were appended
pub row_at-grown : (old cur : List Row) (i : ℕ) → IsGrown old cur → i < length old → row_at cur i ≡ row_at old i
row_at-grown old cur i grown h = ap (λ (rows : List Row). row_at rows i) grown.1 ∙ ap (λ (r : Row). r.0) (get_or_append_left old grown.0 ([], false) i h)

-- a ray of a pair of the rays that were there before
pub pair_before : (values : List ℤ) (old cur : List Row) (pair : ℕ × ℕ) (r : List ℤ) → IsGrown old cur → pair.0 < length old → pair.1 < length old → IsPairCombined values cur pair r → IsPairCombined values old pair r
pair_before values old cur pair r grown first second h =
    let P : List ℤ → Type 0 = λ v. IsCombined (value_at values pair.0) (value_at values pair.1) v (row_at cur pair.1) r in
    let Q : List ℤ → Type 0 = λ v. IsCombined (value_at values pair.0) (value_at values pair.1) (row_at old pair.0) v r in
    subst Q (row_at-grown old cur pair.1 grown second) (subst P (row_at-grown old cur pair.0 grown first) h)

-- all that were there before and those of the pairs
pub kept_change : (marks : List Bool) (old made cur new : List Row) (keep : List Bool) (n : ℕ) → length marks ≡ length old → length made ≡ n → cur ≡ old ++ made → keep ≡ marks ++ replicate n true → new ≡ marked keep cur → vectors new ≡ marked marks (vectors old) ++ vectors made
kept_change marks old made cur new keep n as_many size grown is_keep is =
    ap vectors is ∙ ap (λ (ks : List Bool). vectors (marked ks cur)) is_keep ∙ ap (λ (rs : List Row). vectors (marked (marks ++ replicate n true) rs)) grown ∙
    ap vectors (marked-append marks (replicate n true) old made as_many) ∙ ap (λ (rs : List Row). vectors (marked marks old ++ rs)) (marked_all n made (sym size)) ∙
    map-append (λ (row : Row). row.0) (marked marks old) made ∙ ap (λ (vs : List (List ℤ)). vs ++ vectors made) (marked-map (λ (row : Row). row.0) marks old)

-- the change that a line with the value u makes, from its parts
pub line_change : (index : ℕ) (line_values ray_values : List ℤ) (eq : Bool) (lines rays new_lines kept new_rays : List Row) (u : ℤ) (line : List ℤ) → u ≡ value_at line_values index → line ≡ row_at lines index → AreOthersLowered u index line line_values lines new_lines → AreLowered u line ray_values rays 0 (length rays) [] kept → new_rays ≡ with_upward eq (value_at line_values index) line kept → IsLineChange index line_values ray_values eq lines rays new_lines new_rays
line_change index line_values ray_values eq lines rays new_lines kept new_rays u line value is others lowered result =
    let A : List ℤ → Type 0 = λ w. AreOthersLowered u index w line_values lines new_lines in
    let B : ℤ → Type 0 = λ v. AreOthersLowered v index (row_at lines index) line_values lines new_lines in
    let C : List ℤ → Type 0 = λ w. AreLowered u w ray_values rays 0 (length rays) [] kept in
    let D : ℤ → Type 0 = λ v. AreLowered v (row_at lines index) ray_values rays 0 (length rays) [] kept in
    record {
      lines_lowered = subst B value (subst A is others);
      kept = kept;
      rays_lowered = subst D value (subst C is lowered);
      result = result ∙ ap (λ w. with_upward eq (value_at line_values index) w kept) is;
    }
