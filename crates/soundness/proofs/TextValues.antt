-- Expressions, fractions, points and constraints: what texts mean today is what the cases mean.
use Rattle.std.proofs.Common.{◌≡◌, ℕ, ◌+◌, ◌-◌, ◌^◌, ◌≤◌, ◌<◌, ◌==◌, if◌then◌else◌, Bool, true, false, not, List, [], ◌∷◌, ◌++◌, length, map, ℤ, pos, ◌+ℤ◌, neg_ℤ, refl, ap, sym, ◌∙◌, subst, arith, inl, inr}
use Rattle.std.specs.Prelude.{All, codes, ◌<ℤ◌, ◌⊎◌}
use Rattle.std.proofs.lemmas.Int.{ints}
use Rattle.std.proofs.lemmas.Bool.{cases_lt}
use Rattle.std.proofs.lemmas.List.Elements.{All-nil, All-cons, All-head, All-tail}
use Rattle.grammar.specs.Form.{word, Matches}
use Rattle.grammar.specs.Grammar.{◌⋯◌, symbol, blanks, alone, rel}
use Rattle.grammar.specs.Cases.{expr_cases, vexpr_cases, frac_cases, vfrac_cases, con_cases, point_cases}
use Rattle.row_core.specs.Vectors.{cell}
use Rattle.row_core.specs.Points.{IsPoint as IsPointVector}
use Rattle.row_core.proofs.CellLemmas.{cell-add}
use Rattle.cons_sys.specs.declared.kind.ConKind.{ConKind}
use Rattle.cons_sys.specs.declared.kind.ConKind.TheVariants.{Eq, Ge, Gt}
use Rattle.gens_sys.specs.declared.kind.GenKind.TheVariants.{Point}
use Rattle.term_text.specs.declared.terms.Term.{Term}
use Rattle.term_text.specs.Terms.{IsWithin, AreWithin, column_of, part, total}
use Rattle.term_text.specs.Values.{Ratio, expr_by, vexpr_by, frac_by, point_by, ratio_by, relation_by, con_by, turned, alone_by}
use Rattle.term_text.specs.Texts.{IsRowOf, IsFracOf, IsPointOf, IsConRow, IsExpr, IsFrac, IsPoint}
use Rattle.term_text.specs.Systems.{kind_of, IsConOf, IsCon}
use Rattle.expr_text.specs.Generators.{vfrac_by, enclosed_by}
use Rattle.gens_sys.specs.declared.kind.GenKind.{GenKind}
use Rattle.soundness.specs.TextsNumbers.{Tokens, AreTokens}
use Rattle.soundness.specs.TextsExpressions as expressions
use Rattle.soundness.specs.TextsExpressions.{column, at_column, difference, IsMultiple, IsSum, IsExpression, AreCoordinates, IsQuotient, ExpressionText, FractionText}
use Rattle.soundness.specs.TextsSystems as systems
use Rattle.soundness.specs.TextsSystems.{SaysConstraint, IsGenerator, with_divisor, ConstraintText, PointText}
use Rattle.soundness.proofs.TextTokens.{symbol_is, token_is, token_before, tokens_of, behind_blanks, alone_tokens}
use Rattle.soundness.proofs.TextRows.{column_wide, column_same, beside, opposite_cell, difference_cell, add_wide, difference_wide, same_rows}
use Rattle.soundness.proofs.TextSums.{IsShort, Reads, ReadsOver, expression_law, coordinates_law, over_law}

-- ---- a text as a whole
module _ (dim : ℕ) where
  expression_alone : (text : List ℕ) (row : List ℤ) (m : Matches (alone expr_cases) text) → IsRowOf dim (alone_by expr_cases expr_by text m) row → ExpressionText dim text row
  expression_alone text row (b1, w1, e1, before, (x, b2, e2, is, behind)) h =
      let r = expression_law dim x is h.within h.stay.numbers in
      let same : r.row ≡ row = same_rows dim r.row row r.wide h.sums.wide (λ j le. r.cells j le ∙ sym (h.sums.cells j le)) in
      record {
        pieces = r.pieces;
        split = alone_tokens r.pieces text b1 w1 x b2 e1 before e2 behind r.split;
        means = subst (IsExpression dim r.pieces) same r.means;
      }

  pub expression_text : (text : List ℕ) (row : List ℤ) → IsExpr dim text row → ExpressionText dim text row
  expression_text text row s = expression_alone text row s.form s.holds

  fraction_alone : (text : List ℕ) (row : List ℤ) (divisor : ℤ) (m : Matches (alone frac_cases) text) → IsFracOf dim (alone_by frac_cases frac_by text m) row divisor → (n : ℕ) × FractionText dim text row n × (divisor ≡ pos n) × (0 < n)
  fraction_alone text row divisor (b1, w1, e1, before, (x, b2, e2, is, behind)) h =
      let r = over_law dim expr_cases expr_by (IsExpression dim) (expression_law dim) x is h.within h.stay.terms.numbers h.stay.divisor h.positive in
      let same : r.row ≡ row = same_rows dim r.row row r.wide h.sums.wide (λ j le. r.cells j le ∙ sym (h.sums.cells j le)) in
      let n : ℕ = (frac_by x is).divisor in (
        n,
        record {
          pieces = r.pieces;
          split = alone_tokens r.pieces text b1 w1 x b2 e1 before e2 behind r.split;
          means = subst (λ (v : List ℤ). IsQuotient (IsExpression dim) r.pieces (v, n)) same r.means;
        },
        h.same,
        h.positive,
      )

  pub fraction_text : (text : List ℕ) (row : List ℤ) (divisor : ℤ) → IsFrac dim text row divisor → (n : ℕ) × FractionText dim text row n × (divisor ≡ pos n) × (0 < n)
  fraction_text text row divisor s = fraction_alone text row divisor s.form s.holds

-- ---- coordinates end with 0
zero_sum : (x y : ℤ) → x ≡ pos 0 → y ≡ pos 0 → x +ℤ y ≡ pos 0
zero_sum x y e f = omega (arith, ints, e, f)

zero_turned : (x : ℤ) → x ≡ pos 0 → neg_ℤ x ≡ pos 0
zero_turned x e = omega (arith, ints, e)

differs : (j dim : ℕ) → j < dim → j ≡ dim → ⊥
differs j dim h e = omega arith

multiple_end : (dim : ℕ) (ts : Tokens) (row : List ℤ) → IsMultiple dim ts row → cell row dim ≡ pos 0
multiple_end dim ts row (expressions.variable w j is below) = beside (column j) dim (dim - column j) (pos 1) (differs (column j) dim below)
multiple_end dim ts row (expressions.product w u n j number is below) = beside (column j) dim (dim - column j) (pos n) (differs (column j) dim below)

sum_end : (dim : ℕ) (ts : Tokens) (row : List ℤ) → IsSum (IsMultiple dim) ts row → cell row dim ≡ pos 0
sum_end dim ts row (expressions.one us u h) = multiple_end dim us u h
sum_end dim ts row (expressions.minus_one us u h) = opposite_cell u dim ∙ zero_turned (cell u dim) (multiple_end dim us u h)
sum_end dim ts row (expressions.plus ss us u v s h) = cell-add u v dim ∙ zero_sum (cell u dim) (cell v dim) (sum_end dim ss u s) (multiple_end dim us v h)
sum_end dim ts row (expressions.minus ss us u v s h) = difference_cell u v dim ∙ zero_sum (cell u dim) (neg_ℤ (cell v dim)) (sum_end dim ss u s) (zero_turned (cell v dim) (multiple_end dim us v h))

pub coordinates_end : (dim : ℕ) (ts : Tokens) (row : List ℤ) → AreCoordinates dim ts row → cell row dim ≡ pos 0
coordinates_end dim ts row expressions.origin = column_same dim dim (pos 0)
coordinates_end dim ts row (expressions.sum us u h) = sum_end dim us u h

pub over_end : (dim : ℕ) (ts : Tokens) (row : List ℤ) (n : ℕ) → IsQuotient (AreCoordinates dim) ts (row, n) → cell row dim ≡ pos 0
over_end dim ts row n (expressions.whole us u h) = coordinates_end dim us u h
over_end dim ts row n (expressions.divided us w u m h is positive) = coordinates_end dim us u h

-- ---- points
plus_zero : (z : ℤ) → z +ℤ pos 0 ≡ z
plus_zero z = omega (arith, ints)

zero_plus : (x z : ℤ) → x ≡ pos 0 → x +ℤ z ≡ z
zero_plus x z e = omega (arith, ints, e)

-- the vector of coordinates and a divisor
pub point_row : (dim n : ℕ) (u row : List ℤ) (s : ℕ → ℤ) → length u ≡ dim + 1 → cell u dim ≡ pos 0 → ((j : ℕ) → j ≤ dim → cell u j ≡ s j) → length row ≡ dim + 1 → ((j : ℕ) → j < dim → cell row j ≡ s j) → cell row dim ≡ pos n → with_divisor dim u n ≡ row
point_row dim n u row s wide end cells row_wide row_cells last =
    same_rows dim (with_divisor dim u n) row (add_wide (dim + 1) u (at_column dim dim (pos n)) wide (column_wide dim dim (pos n) (omega arith))) row_wide (λ j le. by_place j le (at_end j le))
  where
    at_end : (j : ℕ) → j ≤ dim → (j < dim) ⊎ (j ≡ dim)
    at_end j le = elim (cases_lt j dim) [ inl h ↦ inl h | inr h ↦ inr (omega arith) ]

    by_place : (j : ℕ) → j ≤ dim → (j < dim) ⊎ (j ≡ dim) → cell (with_divisor dim u n) j ≡ cell row j
    by_place j le (inl h) =
        cell-add u (at_column dim dim (pos n)) j
        ∙ (ap (λ (z : ℤ). cell u j +ℤ z) (beside dim j (dim - dim) (pos n) (λ e. differs j dim h (sym e)))
        ∙ (plus_zero (cell u j) ∙ (cells j le ∙ sym (row_cells j h))))
    by_place j le (inr e) = subst (λ (i : ℕ). cell (with_divisor dim u n) i ≡ cell row i) (sym e)
        (cell-add u (at_column dim dim (pos n)) dim
        ∙ (ap (λ (z : ℤ). cell u dim +ℤ z) (column_same dim dim (pos n)) ∙ (zero_plus (cell u dim) (pos n) end ∙ sym last)))

-- the vector of coordinates without a divisor
pub direction_row : (dim : ℕ) (u row : List ℤ) (s : ℕ → ℤ) → length u ≡ dim + 1 → cell u dim ≡ pos 0 → ((j : ℕ) → j ≤ dim → cell u j ≡ s j) → length row ≡ dim + 1 → ((j : ℕ) → j < dim → cell row j ≡ s j) → cell row dim ≡ pos 0 → u ≡ row
direction_row dim u row s wide end cells row_wide row_cells last = same_rows dim u row wide row_wide (λ j le. by_place j le (at_end j le))
  where
    at_end : (j : ℕ) → j ≤ dim → (j < dim) ⊎ (j ≡ dim)
    at_end j le = elim (cases_lt j dim) [ inl h ↦ inl h | inr h ↦ inr (omega arith) ]

    by_place : (j : ℕ) → j ≤ dim → (j < dim) ⊎ (j ≡ dim) → cell u j ≡ cell row j
    by_place j le (inl h) = cells j le ∙ sym (row_cells j h)
    by_place j le (inr e) = subst (λ (i : ℕ). cell u i ≡ cell row i) (sym e) (end ∙ sym last)

-- the text in an opening word and a closing bracket
pub enclosed_tokens : (cs : List ℕ) (ts : Tokens) (w opening w1 b1 w2 x w3 b2 closing : List ℕ) → w ≡ opening ++ w1 → opening ≡ cs → w1 ≡ b1 ++ w2 → Matches blanks b1 → w2 ≡ x ++ w3 → w3 ≡ b2 ++ closing → Matches blanks b2 → Matches (symbol 41) closing → AreTokens ts x → AreTokens (cs ∷ ts ++ codes ")" ∷ []) w
enclosed_tokens cs ts w opening w1 b1 w2 x w3 b2 closing e1 is_opening e2 blanks1 e3 e4 blanks2 is_closing h =
    token_before cs (ts ++ codes ")" ∷ []) w opening w1 e1 is_opening
    (behind_blanks (ts ++ codes ")" ∷ []) w1 b1 w2 e2 blanks1
    (tokens_of ts (codes ")" ∷ []) w2 x w3 e3 h
    (behind_blanks (codes ")" ∷ []) w3 b2 closing e4 blanks2 (token_is closing (codes ")") (symbol_is 41 closing is_closing)))))

-- the text is tokens that mean this
pub record Is {A : Type 0} (Means : Tokens → A → Type 0) (w : List ℕ) (a : A) : Type 0 where
  pub pieces : Tokens
  pub split : AreTokens pieces w
  pub means : Means pieces a

module _ (dim : ℕ) where
  -- a point of either kind, whose coordinates and divisor were read
  pub vfrac_law : (w : List ℕ) (m : Matches vfrac_cases w) → AreWithin dim (ratio_by vexpr_cases vexpr_by w m).terms → All IsShort (ratio_by vexpr_cases vexpr_by w m).terms → (ratio_by vexpr_cases vexpr_by w m).divisor < 2 ^ 127 → 0 < (ratio_by vexpr_cases vexpr_by w m).divisor → ReadsOver (AreCoordinates dim) dim w (total dim (ratio_by vexpr_cases vexpr_by w m).terms) (ratio_by vexpr_cases vexpr_by w m).divisor
  vfrac_law w m within short low positive = over_law dim vexpr_cases vexpr_by (AreCoordinates dim) (coordinates_law dim) w m within short low positive

  -- a point of the kind, in its opening word and a closing bracket
  pub enclosed_over : (cs : List ℕ) (kind : GenKind) → ((ts : Tokens) (u : List ℤ) (n : ℕ) → IsQuotient (AreCoordinates dim) ts (u, n) → IsGenerator dim (cs ∷ ts ++ codes ")" ∷ []) (with_divisor dim u n, kind)) → (w : List ℕ) (m : Matches (word cs ⋯ vfrac_cases ⋯ symbol 41) w) (row : List ℤ) → AreWithin dim (enclosed_by cs vfrac_cases vfrac_by w m).terms → All IsShort (enclosed_by cs vfrac_cases vfrac_by w m).terms → (enclosed_by cs vfrac_cases vfrac_by w m).divisor < 2 ^ 127 → 0 < (enclosed_by cs vfrac_cases vfrac_by w m).divisor → length row ≡ dim + 1 → ((j : ℕ) → j < dim → cell row j ≡ total dim (enclosed_by cs vfrac_cases vfrac_by w m).terms j) → cell row dim ≡ pos (enclosed_by cs vfrac_cases vfrac_by w m).divisor → Is (IsGenerator dim) w (row, kind)
  enclosed_over cs kind case w (opening, w1, e1, is_opening, (b1, w2, e2, blanks1, (frac, w3, e3, is_frac, (b2, close, e4, blanks2, is_close)))) row within short low positive wide cells last =
      let r = vfrac_law frac is_frac within short low positive in
      let ratio : Ratio = ratio_by vexpr_cases vexpr_by frac is_frac in
      let same : with_divisor dim r.row ratio.divisor ≡ row = point_row dim ratio.divisor r.row row (total dim ratio.terms) r.wide (over_end dim r.pieces r.row ratio.divisor r.means) r.cells wide cells last in
      record {
        pieces = cs ∷ r.pieces ++ codes ")" ∷ [];
        split = enclosed_tokens cs r.pieces w opening w1 b1 w2 frac w3 b2 close e1 is_opening e2 blanks1 e3 e4 blanks2 is_close r.split;
        means = subst (λ (v : List ℤ). IsGenerator dim (cs ∷ r.pieces ++ codes ")" ∷ []) (v, kind)) same (case r.pieces r.row ratio.divisor r.means);
      }

  -- a ray or a line, in its opening word and a closing bracket
  pub enclosed_direction : (cs : List ℕ) (kind : GenKind) → ((ts : Tokens) (u : List ℤ) → AreCoordinates dim ts u → IsGenerator dim (cs ∷ ts ++ codes ")" ∷ []) (u, kind)) → (w : List ℕ) (m : Matches (word cs ⋯ vexpr_cases ⋯ symbol 41) w) (row : List ℤ) → AreWithin dim (enclosed_by cs vexpr_cases vexpr_by w m) → All IsShort (enclosed_by cs vexpr_cases vexpr_by w m) → length row ≡ dim + 1 → ((j : ℕ) → j < dim → cell row j ≡ total dim (enclosed_by cs vexpr_cases vexpr_by w m) j) → cell row dim ≡ pos 0 → Is (IsGenerator dim) w (row, kind)
  enclosed_direction cs kind case w (opening, w1, e1, is_opening, (b1, w2, e2, blanks1, (x, w3, e3, is, (b2, close, e4, blanks2, is_close)))) row within short wide cells last =
      let r = coordinates_law dim x is within short in
      let same : r.row ≡ row = direction_row dim r.row row (total dim (vexpr_by x is)) r.wide (coordinates_end dim r.pieces r.row r.means) r.cells wide cells last in
      record {
        pieces = cs ∷ r.pieces ++ codes ")" ∷ [];
        split = enclosed_tokens cs r.pieces w opening w1 b1 w2 x w3 b2 close e1 is_opening e2 blanks1 e3 e4 blanks2 is_close r.split;
        means = subst (λ (v : List ℤ). IsGenerator dim (cs ∷ r.pieces ++ codes ")" ∷ []) (v, kind)) same (case r.pieces r.row r.means);
      }

  pub point_law : (w : List ℕ) (m : Matches point_cases w) (row : List ℤ) → AreWithin dim (point_by w m).terms → All IsShort (point_by w m).terms → (point_by w m).divisor < 2 ^ 127 → 0 < (point_by w m).divisor → length row ≡ dim + 1 → ((j : ℕ) → j < dim → cell row j ≡ total dim (point_by w m).terms j) → cell row dim ≡ pos (point_by w m).divisor → Is (IsGenerator dim) w (row, Point)
  point_law w (p, w1, e1, is_p, (b1, w2, e2, blanks1, (frac, w3, e3, is_frac, (b2, close, e4, blanks2, is_close)))) row within short low positive wide cells last =
      enclosed_over (codes "p(") Point systems.point w (p, w1, e1, is_p, (b1, w2, e2, blanks1, (frac, w3, e3, is_frac, (b2, close, e4, blanks2, is_close)))) row within short low positive wide cells last

  above : (z : ℤ) (n : ℕ) → z ≡ pos n → 0 < n → pos 0 <ℤ z
  above z n e h = omega (arith, ints, e)

  point_alone : (text : List ℕ) (row : List ℤ) (m : Matches (alone point_cases) text) → IsPointOf dim (alone_by point_cases point_by text m) row → PointText dim text row × IsPointVector dim row
  point_alone text row (b1, w1, e1, before, (x, b2, e2, is, behind)) h =
      let r = point_law x is row h.within h.stay.terms.numbers h.stay.divisor h.positive h.wide h.coordinates h.last in (
        record { pieces = r.pieces; split = alone_tokens r.pieces text b1 w1 x b2 e1 before e2 behind r.split; means = r.means },
        record { wide = h.wide; positive = above (cell row dim) (point_by x is).divisor h.last h.positive },
      )

  -- a point that a text means
  pub point_text : (text : List ℕ) (row : List ℤ) → IsPoint dim text row → PointText dim text row × IsPointVector dim row
  point_text text row s = point_alone text row s.form s.holds

-- ---- the terms of both sides
plus_assoc : (x y z : ℤ) → x +ℤ (y +ℤ z) ≡ (x +ℤ y) +ℤ z
plus_assoc x y z = omega (arith, ints)

zero_before : (z : ℤ) → z ≡ pos 0 +ℤ z
zero_before z = omega (arith, ints)

neg_twice : (z : ℤ) → z ≡ neg_ℤ (neg_ℤ z)
neg_twice z = omega (arith, ints)

neg_sum : (x y : ℤ) → neg_ℤ x +ℤ neg_ℤ y ≡ neg_ℤ (x +ℤ y)
neg_sum x y = omega (arith, ints)

total_append : (dim : ℕ) (ts us : List Term) (j : ℕ) → total dim (ts ++ us) j ≡ total dim ts j +ℤ total dim us j
total_append dim [] us j = zero_before (total dim us j)
total_append dim (t ∷ ts) us j = ap (λ (z : ℤ). part dim t j +ℤ z) (total_append dim ts us j) ∙ plus_assoc (part dim t j) (total dim ts j) (total dim us j)

turned_by : (c negative : Bool) (n : ℕ) → (if c then (if not negative then neg_ℤ (pos n) else pos n) else pos 0) ≡ neg_ℤ (if c then (if negative then neg_ℤ (pos n) else pos n) else pos 0)
turned_by true true n = neg_twice (pos n)
turned_by true false n = refl
turned_by false negative n = refl

total_turned : (dim : ℕ) (ts : List Term) (j : ℕ) → total dim (map turned ts) j ≡ neg_ℤ (total dim ts j)
total_turned dim [] j = refl
total_turned dim (t ∷ ts) j =
    ap (λ (z : ℤ). z +ℤ total dim (map turned ts) j) (turned_by (column_of dim t == j) t.negative t.size)
    ∙ (ap (λ (z : ℤ). neg_ℤ (part dim t j) +ℤ z) (total_turned dim ts j) ∙ neg_sum (part dim t j) (total dim ts j))

pub all_left : {X : Type 0} (P : X → Type 0) (xs ys : List X) → All P (xs ++ ys) → All P xs
all_left P [] ys h = All-nil P
all_left P (x ∷ xs) ys h = All-cons P x xs (All-head P x (xs ++ ys) h) (all_left P xs ys (All-tail P x (xs ++ ys) h))

pub all_right : {X : Type 0} (P : X → Type 0) (xs ys : List X) → All P (xs ++ ys) → All P ys
all_right P [] ys h = h
all_right P (x ∷ xs) ys h = all_right P xs ys (All-tail P x (xs ++ ys) h)

-- what holds of turned terms, and doesn't tell of signs, holds of the terms
all_turned : (P : Term → Type 0) → ((t : Term) → P (turned t) → P t) → (ts : List Term) → All P (map turned ts) → All P ts
all_turned P back [] h = All-nil P
all_turned P back (t ∷ ts) h = All-cons P t ts (back t (All-head P (turned t) (map turned ts) h)) (all_turned P back ts (All-tail P (turned t) (map turned ts) h))

-- ---- constraints
module _ (dim : ℕ) where
  -- what both sides come to
  sides : (u v : List ℤ) (ls rs : List Term) → ((j : ℕ) → j ≤ dim → cell u j ≡ total dim ls j) → ((j : ℕ) → j ≤ dim → cell v j ≡ total dim rs j) → (j : ℕ) → j ≤ dim → total dim (ls ++ map turned rs) j ≡ cell u j +ℤ neg_ℤ (cell v j)
  sides u v ls rs cu cv j le = total_append dim ls (map turned rs) j ∙ (ap (λ (z : ℤ). total dim ls j +ℤ z) (total_turned dim rs j) ∙ (ap (λ (z : ℤ). z +ℤ neg_ℤ (total dim rs j)) (sym (cu j le)) ∙ ap (λ (z : ℤ). cell u j +ℤ neg_ℤ z) (sym (cv j le))))

  straight_row : (u v row : List ℤ) (ls rs : List Term) → length u ≡ dim + 1 → length v ≡ dim + 1 → ((j : ℕ) → j ≤ dim → cell u j ≡ total dim ls j) → ((j : ℕ) → j ≤ dim → cell v j ≡ total dim rs j) → length row ≡ dim + 1 → ((j : ℕ) → j ≤ dim → cell row j ≡ total dim (ls ++ map turned rs) j) → difference u v ≡ row
  straight_row u v row ls rs wu wv cu cv wide cells = same_rows dim (difference u v) row (difference_wide (dim + 1) u v wu wv) wide (λ j le. difference_cell u v j ∙ (sym (sides u v ls rs cu cv j le) ∙ sym (cells j le)))

  swapped : (x y : ℤ) → y +ℤ neg_ℤ x ≡ neg_ℤ (x +ℤ neg_ℤ y)
  swapped x y = omega (arith, ints)

  turned_row : (u v row : List ℤ) (ls rs : List Term) → length u ≡ dim + 1 → length v ≡ dim + 1 → ((j : ℕ) → j ≤ dim → cell u j ≡ total dim ls j) → ((j : ℕ) → j ≤ dim → cell v j ≡ total dim rs j) → length row ≡ dim + 1 → ((j : ℕ) → j ≤ dim → cell row j ≡ neg_ℤ (total dim (ls ++ map turned rs) j)) → difference v u ≡ row
  turned_row u v row ls rs wu wv cu cv wide cells = same_rows dim (difference v u) row (difference_wide (dim + 1) v u wv wu) wide (λ j le. difference_cell v u j ∙ (swapped (cell u j) (cell v j) ∙ (ap neg_ℤ (sym (sides u v ls rs cu cv j le)) ∙ sym (cells j le))))

  -- the tokens of both sides and of the relation between them
  related : (sign : List ℕ) (ss ts : Tokens) (w left w1 b1 w2 between w3 b2 right : List ℕ) → w ≡ left ++ w1 → w1 ≡ b1 ++ w2 → Matches blanks b1 → w2 ≡ between ++ w3 → between ≡ sign → w3 ≡ b2 ++ right → Matches blanks b2 → AreTokens ss left → AreTokens ts right → AreTokens (ss ++ sign ∷ ts) w
  related sign ss ts w left w1 b1 w2 between w3 b2 right e1 e2 blanks1 e3 is e4 blanks2 h k =
      tokens_of ss (sign ∷ ts) w left w1 e1 h (behind_blanks (sign ∷ ts) w1 b1 w2 e2 blanks1 (token_before sign ts w2 between w3 e3 is (behind_blanks ts w3 b2 right e4 blanks2 k)))

  compared : (w left w1 b1 w2 between w3 b2 right : List ℕ) (is_left : Matches expr_cases left) (is_between : Matches rel between) (is_right : Matches expr_cases right) → w ≡ left ++ w1 → w1 ≡ b1 ++ w2 → Matches blanks b1 → w2 ≡ between ++ w3 → w3 ≡ b2 ++ right → Matches blanks b2 → Reads (IsExpression dim) dim left (total dim (expr_by left is_left)) → Reads (IsExpression dim) dim right (total dim (expr_by right is_right)) → (row : List ℤ) → IsConRow dim (record { terms = expr_by left is_left ++ map turned (expr_by right is_right); relation = relation_by between is_between }) row → Is (SaysConstraint dim) w (row, kind_of (relation_by between is_between))
  compared w left w1 b1 w2 between w3 b2 right is_left (inl equal) is_right e1 e2 blanks1 e3 e4 blanks2 l r row is = record {
    pieces = l.pieces ++ codes "=" ∷ r.pieces;
    split = related (codes "=") l.pieces r.pieces w left w1 b1 w2 between w3 b2 right e1 e2 blanks1 e3 (symbol_is 61 between equal) e4 blanks2 l.split r.split;
    means = subst (λ (v : List ℤ). SaysConstraint dim (l.pieces ++ codes "=" ∷ r.pieces) (v, Eq)) (straight_row l.row r.row row (expr_by left is_left) (expr_by right is_right) l.wide r.wide l.cells r.cells is.wide is.cells) (systems.equal l.pieces r.pieces l.row r.row l.means r.means);
  }
  compared w left w1 b1 w2 between w3 b2 right is_left (inr (inl at_least)) is_right e1 e2 blanks1 e3 e4 blanks2 l r row is = record {
    pieces = l.pieces ++ codes ">=" ∷ r.pieces;
    split = related (codes ">=") l.pieces r.pieces w left w1 b1 w2 between w3 b2 right e1 e2 blanks1 e3 at_least e4 blanks2 l.split r.split;
    means = subst (λ (v : List ℤ). SaysConstraint dim (l.pieces ++ codes ">=" ∷ r.pieces) (v, Ge)) (straight_row l.row r.row row (expr_by left is_left) (expr_by right is_right) l.wide r.wide l.cells r.cells is.wide is.cells) (systems.at_least l.pieces r.pieces l.row r.row l.means r.means);
  }
  compared w left w1 b1 w2 between w3 b2 right is_left (inr (inr (inl at_most))) is_right e1 e2 blanks1 e3 e4 blanks2 l r row is = record {
    pieces = l.pieces ++ codes "<=" ∷ r.pieces;
    split = related (codes "<=") l.pieces r.pieces w left w1 b1 w2 between w3 b2 right e1 e2 blanks1 e3 at_most e4 blanks2 l.split r.split;
    means = subst (λ (v : List ℤ). SaysConstraint dim (l.pieces ++ codes "<=" ∷ r.pieces) (v, Ge)) (turned_row l.row r.row row (expr_by left is_left) (expr_by right is_right) l.wide r.wide l.cells r.cells is.wide is.cells) (systems.at_most l.pieces r.pieces l.row r.row l.means r.means);
  }
  compared w left w1 b1 w2 between w3 b2 right is_left (inr (inr (inr (inl above)))) is_right e1 e2 blanks1 e3 e4 blanks2 l r row is = record {
    pieces = l.pieces ++ codes ">" ∷ r.pieces;
    split = related (codes ">") l.pieces r.pieces w left w1 b1 w2 between w3 b2 right e1 e2 blanks1 e3 (symbol_is 62 between above) e4 blanks2 l.split r.split;
    means = subst (λ (v : List ℤ). SaysConstraint dim (l.pieces ++ codes ">" ∷ r.pieces) (v, Gt)) (straight_row l.row r.row row (expr_by left is_left) (expr_by right is_right) l.wide r.wide l.cells r.cells is.wide is.cells) (systems.above l.pieces r.pieces l.row r.row l.means r.means);
  }
  compared w left w1 b1 w2 between w3 b2 right is_left (inr (inr (inr (inr below)))) is_right e1 e2 blanks1 e3 e4 blanks2 l r row is = record {
    pieces = l.pieces ++ codes "<" ∷ r.pieces;
    split = related (codes "<") l.pieces r.pieces w left w1 b1 w2 between w3 b2 right e1 e2 blanks1 e3 (symbol_is 60 between below) e4 blanks2 l.split r.split;
    means = subst (λ (v : List ℤ). SaysConstraint dim (l.pieces ++ codes "<" ∷ r.pieces) (v, Gt)) (turned_row l.row r.row row (expr_by left is_left) (expr_by right is_right) l.wide r.wide l.cells r.cells is.wide is.cells) (systems.below l.pieces r.pieces l.row r.row l.means r.means);
  }

  pub con_law : (w : List ℕ) (m : Matches con_cases w) (row : List ℤ) → AreWithin dim (con_by w m).terms → All IsShort (con_by w m).terms → IsConRow dim (con_by w m) row → Is (SaysConstraint dim) w (row, kind_of (con_by w m).relation)
  con_law w (left, w1, e1, is_left, (b1, w2, e2, blanks1, (between, w3, e3, is_between, (b2, right, e4, blanks2, is_right)))) row within short is =
      let ls : List Term = expr_by left is_left in
      let rs : List Term = expr_by right is_right in
      compared w left w1 b1 w2 between w3 b2 right is_left is_between is_right e1 e2 blanks1 e3 e4 blanks2
      (expression_law dim left is_left (all_left (IsWithin dim) ls (map turned rs) within) (all_left IsShort ls (map turned rs) short))
      (expression_law dim right is_right (all_turned (IsWithin dim) (λ t h. h) rs (all_right (IsWithin dim) ls (map turned rs) within)) (all_turned IsShort (λ t h. h) rs (all_right IsShort ls (map turned rs) short)))
      row is

  constraint_alone : (text : List ℕ) (row : List ℤ) (kind : ConKind) (m : Matches (alone con_cases) text) → IsConOf dim (alone_by con_cases con_by text m) row kind → ConstraintText dim text (row, kind)
  constraint_alone text row kind (b1, w1, e1, before, (x, b2, e2, is, behind)) h =
      let r = con_law x is row h.within h.stay.numbers h.sums in
      record {
        pieces = r.pieces;
        split = alone_tokens r.pieces text b1 w1 x b2 e1 before e2 behind r.split;
        means = subst (λ (k : ConKind). SaysConstraint dim r.pieces (row, k)) (sym h.same) r.means;
      }

  -- a constraint that a text means
  pub constraint_text : (text : List ℕ) (row : List ℤ) (kind : ConKind) → IsCon dim text row kind → ConstraintText dim text (row, kind)
  constraint_text text row kind s = constraint_alone text row kind s.form s.holds
