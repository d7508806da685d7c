-- Sums of terms: each form's terms are those of the cases, with the same row.
use Rattle.std.proofs.Common.{◌≡◌, ℕ, ◌+◌, ◌^◌, ◌≤◌, ◌<◌, ◌==◌, if◌then◌else◌, Bool, true, false, List, [], ◌∷◌, ◌++◌, zero, suc, length, ℤ, pos, ◌+ℤ◌, neg_ℤ, refl, ap, sym, ◌∙◌, subst, arith, inl, inr, append_assoc, append-nil}
use Rattle.std.specs.Prelude.{All, codes}
use Rattle.std.proofs.lemmas.Int.{ints}
use Rattle.std.proofs.lemmas.List.Elements.{All-head, All-tail}
use Rattle.grammar.specs.Form.{Form, Matches, Times}
use Rattle.grammar.specs.Grammar.{◌·◌, ◌∣◌, ◌⋯◌, symbol, blanks, nat, var, term, vterm, sum_of, over_nat}
use Rattle.grammar.specs.Cases.{expr_cases, vexpr_cases}
use Rattle.plain_text.specs.Digits.{number}
use Rattle.row_core.specs.Vectors.{cell, add}
use Rattle.row_core.proofs.CellLemmas.{cell-add}
use Rattle.term_text.specs.Numbers.{size_of, index_of}
use Rattle.term_text.specs.declared.terms.Term.{Term}
use Rattle.term_text.specs.Terms.{IsWithin, AreWithin, part, total}
use Rattle.term_text.specs.Values.{TermBy, variable_term, number_term, product_by, term_by, vterm_by, first_by, signed_by, further_by, sum_by, expr_by, vexpr_by, ratio_by}
use Rattle.soundness.specs.TextsNumbers.{Tokens, AreTokens}
use Rattle.soundness.specs.TextsExpressions as expressions
use Rattle.soundness.specs.TextsExpressions.{column, at_column, opposite, difference, IsMultiple, IsTerm, IsSum, IsExpression, AreCoordinates, IsQuotient}
use Rattle.soundness.proofs.TextTokens.{no_blanks, symbol_is, token, token_is, token_before, tokens_of, behind_blanks}
use Rattle.soundness.proofs.TextNumbers.{nat_is, small_size, HasVariable, var_is}
use Rattle.soundness.proofs.TextRows.{column_wide, column_cell, opposite_cell, opposite_wide, add_wide, difference_wide}

-- the row with a sign before it
abbrev pub signed : Bool → List ℤ → List ℤ
signed false row = row
signed true row = opposite row

-- the text is tokens that mean a row with these cells
pub record Reads (Means : Tokens → List ℤ → Type 0) (dim : ℕ) (w : List ℕ) (s : ℕ → ℤ) : Type 0 where
  pub pieces : Tokens
  pub row : List ℤ
  pub split : AreTokens pieces w
  pub means : Means pieces row
  pub wide : length row ≡ dim + 1
  pub cells : (j : ℕ) → j ≤ dim → cell row j ≡ s j

-- the same, where a sign stands before the text
pub record ReadsSigned (Means : Tokens → List ℤ → Type 0) (dim : ℕ) (w : List ℕ) (negative : Bool) (s : ℕ → ℤ) : Type 0 where
  pub pieces : Tokens
  pub row : List ℤ
  pub split : AreTokens pieces w
  pub means : Means pieces row
  pub wide : length row ≡ dim + 1
  pub cells : (j : ℕ) → j ≤ dim → cell (signed negative row) j ≡ s j

-- the number of the term is of the range
abbrev pub IsShort : Term → Type 0
IsShort t = t.size < 2 ^ 127

-- each text of the form means a row
abbrev pub MeansTerm : ℕ → (f : Form) → TermBy f → (Tokens → List ℤ → Type 0) → Type 0
MeansTerm dim f by Means = (negative : Bool) (w : List ℕ) (m : Matches f w) → IsWithin dim (by negative w m) → IsShort (by negative w m) → ReadsSigned Means dim w negative (part dim (by negative w m))

-- a number with its sign
abbrev with_sign : Bool → ℕ → ℤ
with_sign negative n = if negative then neg_ℤ (pos n) else pos n

turned_cell : (c : Bool) (z : ℤ) → neg_ℤ (if c then z else pos 0) ≡ (if c then neg_ℤ z else pos 0)
turned_cell true z = refl
turned_cell false z = refl

signed_cell : (negative : Bool) (dim j k n : ℕ) → cell (signed negative (at_column dim j (pos n))) k ≡ (if j == k then with_sign negative n else pos 0)
signed_cell false dim j k n = column_cell dim j k (pos n)
signed_cell true dim j k n = opposite_cell (at_column dim j (pos n)) k ∙ (ap neg_ℤ (column_cell dim j k (pos n)) ∙ turned_cell (j == k) (pos n))

module _ (dim : ℕ) where
  -- a variable times a number
  multiple_row : (negative : Bool) (w : List ℕ) (ts : Tokens) (n size j index : ℕ) → size ≡ n → index ≡ j → j < dim → AreTokens ts w → IsMultiple dim ts (at_column dim j (pos n)) → ReadsSigned (IsMultiple dim) dim w negative (part dim (variable_term negative size index))
  multiple_row negative w ts n size j index e f h split means = record {
    pieces = ts;
    row = at_column dim j (pos n);
    split = split;
    means = means;
    wide = column_wide dim j (pos n) (omega arith);
    cells = λ k le. signed_cell negative dim j k n ∙ (ap (λ (x : ℕ). if x == k then with_sign negative n else pos 0) (sym f) ∙ ap (λ (x : ℕ). if index == k then with_sign negative x else pos 0) (sym e));
  }

  product_law : (negative : Bool) (w : List ℕ) (m : Matches (nat ⋯ symbol 42 ⋯ var) w) → IsWithin dim (product_by negative w m) → IsShort (product_by negative w m) → ReadsSigned (IsMultiple dim) dim w negative (part dim (product_by negative w m))
  product_law negative w (factor, x, e, is_factor, (b, y, f, between, (star, z, g, is_star, (c, variable, h, behind, is_variable)))) within short =
      let v : HasVariable variable = var_is variable is_variable in
      let below : column v.variable < dim = subst (λ (i : ℕ). i < dim) v.index within in
      multiple_row negative w (factor ∷ codes "*" ∷ variable ∷ []) (number factor) (size_of factor) (column v.variable) (index_of variable)
      (small_size factor (size_of factor) refl short) v.index below
      (token_before factor (codes "*" ∷ variable ∷ []) w factor x e refl
      (behind_blanks (codes "*" ∷ variable ∷ []) x b y f between
      (token_before (codes "*") (variable ∷ []) y star z g (symbol_is 42 star is_star)
      (behind_blanks (variable ∷ []) z c variable h behind (token variable)))))
      (expressions.product factor variable (number factor) v.variable (nat_is factor is_factor) v.is below)

  variable_law : (negative : Bool) (w : List ℕ) (m : Matches var w) → IsWithin dim (variable_term negative 1 (index_of w)) → ReadsSigned (IsMultiple dim) dim w negative (part dim (variable_term negative 1 (index_of w)))
  variable_law negative w m within =
      let v : HasVariable w = var_is w m in
      let below : column v.variable < dim = subst (λ (i : ℕ). i < dim) v.index within in
      multiple_row negative w (w ∷ []) 1 1 (column v.variable) (index_of w) refl v.index below (token w)
      (expressions.variable w v.variable v.is below)

  pub vterm_law : MeansTerm dim vterm vterm_by (IsMultiple dim)
  vterm_law negative w (inl product) within short = product_law negative w product within short
  vterm_law negative w (inr variable) within short = variable_law negative w variable within

  as_term : (negative : Bool) (w : List ℕ) (s : ℕ → ℤ) → ReadsSigned (IsMultiple dim) dim w negative s → ReadsSigned (IsTerm dim) dim w negative s
  as_term negative w s r = record { pieces = r.pieces; row = r.row; split = r.split; means = expressions.multiple r.pieces r.row r.means; wide = r.wide; cells = r.cells }

  constant_law : (negative : Bool) (w : List ℕ) (m : Matches nat w) → size_of w < 2 ^ 127 → ReadsSigned (IsTerm dim) dim w negative (part dim (number_term negative (size_of w)))
  constant_law negative w m short = record {
    pieces = w ∷ [];
    row = at_column dim dim (pos (number w));
    split = token w;
    means = expressions.constant w (number w) (nat_is w m);
    wide = column_wide dim dim (pos (number w)) (omega arith);
    cells = λ k le. signed_cell negative dim dim k (number w) ∙ ap (λ (x : ℕ). if dim == k then with_sign negative x else pos 0) (sym (small_size w (size_of w) refl short));
  }

  pub term_law : MeansTerm dim term term_by (IsTerm dim)
  term_law negative w (inl product) within short = as_term negative w (part dim (product_by negative w product)) (product_law negative w product within short)
  term_law negative w (inr (inl variable)) within short = as_term negative w (part dim (variable_term negative 1 (index_of w))) (variable_law negative w variable within)
  term_law negative w (inr (inr number_text)) within short = constant_law negative w number_text short

-- the tokens go on, and the row with them
record GoesOn (Means : Tokens → List ℤ → Type 0) (dim : ℕ) (before : Tokens) (old : List ℤ) (w : List ℕ) (s : ℕ → ℤ) : Type 0 where
  pieces : Tokens
  row : List ℤ
  split : AreTokens pieces w
  means : Means (before ++ pieces) row
  wide : length row ≡ dim + 1
  cells : (j : ℕ) → j ≤ dim → cell row j ≡ cell old j +ℤ s j

plus_zero : (z : ℤ) → z ≡ z +ℤ pos 0
plus_zero z = omega (arith, ints)

plus_assoc : (x y z : ℤ) → (x +ℤ y) +ℤ z ≡ x +ℤ (y +ℤ z)
plus_assoc x y z = omega (arith, ints)

module _ (dim : ℕ) (f : Form) (by : TermBy f) (Means : Tokens → List ℤ → Type 0) (law : MeansTerm dim f by Means) where
  first_law : (w : List ℕ) (m : Matches (f ∣ (symbol 45 ⋯ f)) w) → IsWithin dim (first_by f by w m) → IsShort (first_by f by w m) → Reads (IsSum Means) dim w (part dim (first_by f by w m))
  first_law w (inl is) within short =
      let r = law false w is within short in
      record { pieces = r.pieces; row = r.row; split = r.split; means = expressions.one r.pieces r.row r.means; wide = r.wide; cells = r.cells }
  first_law w (inr (minus, x, e, is_minus, (b, t, g, between, is))) within short =
      let r = law true t is within short in
      record {
        pieces = codes "-" ∷ r.pieces;
        row = opposite r.row;
        split = token_before (codes "-") r.pieces w minus x e (symbol_is 45 minus is_minus) (behind_blanks r.pieces x b t g between r.split);
        means = expressions.minus_one r.pieces r.row r.means;
        wide = opposite_wide r.row ∙ r.wide;
        cells = r.cells;
      }

  signed_law : (before : Tokens) (old : List ℤ) → IsSum Means before old → length old ≡ dim + 1 → (w : List ℕ) (m : Matches ((symbol 43 ⋯ f) ∣ (symbol 45 ⋯ f)) w) → IsWithin dim (signed_by f by w m) → IsShort (signed_by f by w m) → GoesOn (IsSum Means) dim before old w (part dim (signed_by f by w m))
  signed_law before old so_far wide w (inl (plus, x, e, is_plus, (b, t, g, between, is))) within short =
      let r = law false t is within short in
      record {
        pieces = codes "+" ∷ r.pieces;
        row = add old r.row;
        split = token_before (codes "+") r.pieces w plus x e (symbol_is 43 plus is_plus) (behind_blanks r.pieces x b t g between r.split);
        means = expressions.plus before r.pieces old r.row so_far r.means;
        wide = add_wide (dim + 1) old r.row wide r.wide;
        cells = λ j le. cell-add old r.row j ∙ ap (λ (z : ℤ). cell old j +ℤ z) (r.cells j le);
      }
  signed_law before old so_far wide w (inr (minus, x, e, is_minus, (b, t, g, between, is))) within short =
      let r = law true t is within short in
      record {
        pieces = codes "-" ∷ r.pieces;
        row = difference old r.row;
        split = token_before (codes "-") r.pieces w minus x e (symbol_is 45 minus is_minus) (behind_blanks r.pieces x b t g between r.split);
        means = expressions.minus before r.pieces old r.row so_far r.means;
        wide = difference_wide (dim + 1) old r.row wide r.wide;
        cells = λ j le. cell-add old (opposite r.row) j ∙ ap (λ (z : ℤ). cell old j +ℤ z) (r.cells j le);
      }

  further_law : (n : ℕ) (before : Tokens) (old : List ℤ) → IsSum Means before old → length old ≡ dim + 1 → (w : List ℕ) (m : Times (Matches (blanks · ((symbol 43 ⋯ f) ∣ (symbol 45 ⋯ f)))) n w) → AreWithin dim (further_by f by n w m) → All IsShort (further_by f by n w m) → GoesOn (IsSum Means) dim before old w (total dim (further_by f by n w m))
  further_law zero before old so_far wide w none within short = record {
    pieces = [];
    row = old;
    split = subst (AreTokens []) (sym none) no_blanks;
    means = subst (λ (ts : Tokens). IsSum Means ts old) (sym (append-nil before)) so_far;
    wide = wide;
    cells = λ j le. plus_zero (cell old j);
  }
  further_law (suc n) before old so_far wide w (u, v, e, (b, x, g, between, signed_text), others) within short =
      let t : Term = signed_by f by x signed_text in
      let ts : List Term = further_by f by n v others in
      let r = signed_law before old so_far wide x signed_text (All-head (IsWithin dim) t ts within) (All-head IsShort t ts short) in
      let q = further_law n (before ++ r.pieces) r.row r.means r.wide v others (All-tail (IsWithin dim) t ts within) (All-tail IsShort t ts short) in
      record {
        pieces = r.pieces ++ q.pieces;
        row = q.row;
        split = tokens_of r.pieces q.pieces w u v e (behind_blanks r.pieces u b x g between r.split) q.split;
        means = subst (λ (us : Tokens). IsSum Means us q.row) (append_assoc before r.pieces q.pieces) q.means;
        wide = q.wide;
        cells = λ j le. q.cells j le ∙ (ap (λ (z : ℤ). z +ℤ total dim ts j) (r.cells j le) ∙ plus_assoc (cell old j) (part dim t j) (total dim ts j));
      }

  pub sum_law : (w : List ℕ) (m : Matches (sum_of f) w) → AreWithin dim (sum_by f by w m) → All IsShort (sum_by f by w m) → Reads (IsSum Means) dim w (total dim (sum_by f by w m))
  sum_law w (u, v, e, first, (n, others)) within short =
      let t : Term = first_by f by u first in
      let ts : List Term = further_by f by n v others in
      let r = first_law u first (All-head (IsWithin dim) t ts within) (All-head IsShort t ts short) in
      let q = further_law n r.pieces r.row r.means r.wide v others (All-tail (IsWithin dim) t ts within) (All-tail IsShort t ts short) in
      record {
        pieces = r.pieces ++ q.pieces;
        row = q.row;
        split = tokens_of r.pieces q.pieces w u v e r.split q.split;
        means = q.means;
        wide = q.wide;
        cells = λ j le. q.cells j le ∙ ap (λ (z : ℤ). z +ℤ total dim ts j) (r.cells j le);
      }

module _ (dim : ℕ) where
  -- an expression
  pub expression_law : (w : List ℕ) (m : Matches expr_cases w) → AreWithin dim (expr_by w m) → All IsShort (expr_by w m) → Reads (IsExpression dim) dim w (total dim (expr_by w m))
  expression_law w m within short = sum_law dim term term_by (IsTerm dim) (term_law dim) w m within short

  -- the coordinates of a point or of a direction
  pub coordinates_law : (w : List ℕ) (m : Matches vexpr_cases w) → AreWithin dim (vexpr_by w m) → All IsShort (vexpr_by w m) → Reads (AreCoordinates dim) dim w (total dim (vexpr_by w m))
  coordinates_law w (inl zero_alone) within short = record {
    pieces = codes "0" ∷ [];
    row = at_column dim dim (pos 0);
    split = token_is w (codes "0") (symbol_is 48 w zero_alone);
    means = expressions.origin;
    wide = column_wide dim dim (pos 0) (omega arith);
    cells = λ j le. column_cell dim dim j (pos 0) ∙ plus_zero (if dim == j then pos 0 else pos 0);
  }
  coordinates_law w (inr m) within short =
      let r = sum_law dim vterm vterm_by (IsMultiple dim) (vterm_law dim) w m within short in
      record { pieces = r.pieces; row = r.row; split = r.split; means = expressions.sum r.pieces r.row r.means; wide = r.wide; cells = r.cells }

-- the text is tokens that mean a row with these cells over this divisor
pub record ReadsOver (Means : Tokens → List ℤ → Type 0) (dim : ℕ) (w : List ℕ) (s : ℕ → ℤ) (divisor : ℕ) : Type 0 where
  pub pieces : Tokens
  pub row : List ℤ
  pub split : AreTokens pieces w
  pub means : IsQuotient Means pieces (row, divisor)
  pub wide : length row ≡ dim + 1
  pub cells : (j : ℕ) → j ≤ dim → cell row j ≡ s j

-- a form's texts, perhaps over a divisor
pub over_law : (dim : ℕ) (f : Form) (by : (w : List ℕ) → Matches f w → List Term) (Means : Tokens → List ℤ → Type 0) → ((w : List ℕ) (m : Matches f w) → AreWithin dim (by w m) → All IsShort (by w m) → Reads Means dim w (total dim (by w m))) → (w : List ℕ) (m : Matches (over_nat f) w) → AreWithin dim (ratio_by f by w m).terms → All IsShort (ratio_by f by w m).terms → (ratio_by f by w m).divisor < 2 ^ 127 → 0 < (ratio_by f by w m).divisor → ReadsOver Means dim w (total dim (ratio_by f by w m).terms) (ratio_by f by w m).divisor
over_law dim f by Means law w (inl is) within short low positive =
    let r = law w is within short in
    record { pieces = r.pieces; row = r.row; split = r.split; means = expressions.whole r.pieces r.row r.means; wide = r.wide; cells = r.cells }
over_law dim f by Means law w (inr (opening, w1, e1, is_opening, (b1, w2, e2, blanks1, (expr, w3, e3, is_expr, (b2, w4, e4, blanks2, (closing, w5, e5, is_closing, (b3, w6, e6, blanks3, (slash, w7, e7, is_slash, (b4, digits, e8, blanks4, is_digits))))))))) within short low positive =
    let r = law expr is_expr within short in
    let last : AreTokens (codes ")" ∷ codes "/" ∷ digits ∷ []) w4 =
    token_before (codes ")") (codes "/" ∷ digits ∷ []) w4 closing w5 e5 (symbol_is 41 closing is_closing)
    (behind_blanks (codes "/" ∷ digits ∷ []) w5 b3 w6 e6 blanks3
    (token_before (codes "/") (digits ∷ []) w6 slash w7 e7 (symbol_is 47 slash is_slash)
    (behind_blanks (digits ∷ []) w7 b4 digits e8 blanks4 (token digits)))) in
    record {
      pieces = codes "(" ∷ r.pieces ++ codes ")" ∷ codes "/" ∷ digits ∷ [];
      row = r.row;
      split = token_before (codes "(") (r.pieces ++ codes ")" ∷ codes "/" ∷ digits ∷ []) w opening w1 e1 (symbol_is 40 opening is_opening)
          (behind_blanks (r.pieces ++ codes ")" ∷ codes "/" ∷ digits ∷ []) w1 b1 w2 e2 blanks1
          (tokens_of r.pieces (codes ")" ∷ codes "/" ∷ digits ∷ []) w2 expr w3 e3 r.split (behind_blanks (codes ")" ∷ codes "/" ∷ digits ∷ []) w3 b2 w4 e4 blanks2 last)));
      means = subst (λ (n : ℕ). IsQuotient Means (codes "(" ∷ r.pieces ++ codes ")" ∷ codes "/" ∷ digits ∷ []) (r.row, n)) (sym (small_size digits (size_of digits) refl low))
          (expressions.divided r.pieces digits r.row (number digits) r.means (nat_is digits is_digits) (subst (λ (n : ℕ). 0 < n) (small_size digits (size_of digits) refl low) positive));
      wide = r.wide;
      cells = r.cells;
    }
