-- The values of texts, by the cases of the grammar.
use Rattle.std.specs.Prelude.{ℕ, List, [], ◌∷◌, ◌++◌, Bool, true, false, not, Some, None, map, zero, suc}
use Rattle.std.proofs.Common.{inl, inr}
use Rattle.grammar.specs.Form.{Form, Matches, Times}
use Rattle.grammar.specs.Grammar.{◌·◌, ◌∣◌, ◌⋯◌, symbol, blanks, alone, nat, var, term, vterm, sum_of, over_nat, rel}
use Rattle.grammar.specs.Cases.{expr_cases, vexpr_cases, frac_cases, con_cases, cons_cases, point_cases}
use Rattle.term_text.specs.Numbers.{size_of, index_of}
use Rattle.term_text.specs.declared.terms.Term.{Term}
use Rattle.term_text.specs.declared.terms.Relation.{Relation}
use Rattle.term_text.specs.declared.terms.Relation.TheVariants.{Equal, AtLeast, AtMost, Above, Below}

-- a term that is a number
abbrev pub number_term : Bool → ℕ → Term
number_term negative size = record { negative = negative; size = size; variable = None }

-- a variable with its factor
abbrev pub variable_term : Bool → ℕ → ℕ → Term
variable_term negative size index = record {
  negative = negative;
  size = size;
  variable = Some index;
}

-- NAT * VAR
abbrev pub product_by : Bool → (w : List ℕ) → Matches (nat ⋯ symbol 42 ⋯ var) w → Term
product_by negative w (factor, _, _, _, (_, _, _, _, (_, _, _, _, (_, variable, _, _, _)))) =
    variable_term negative (size_of factor) (index_of variable)

-- NAT * VAR, or VAR, or NAT
abbrev pub term_by : Bool → (w : List ℕ) → Matches term w → Term
term_by negative w (inl product) = product_by negative w product
term_by negative w (inr (inl variable)) = variable_term negative 1 (index_of w)
term_by negative w (inr (inr number)) = number_term negative (size_of w)

-- NAT * VAR, or VAR
abbrev pub vterm_by : Bool → (w : List ℕ) → Matches vterm w → Term
vterm_by negative w (inl product) = product_by negative w product
vterm_by negative w (inr variable) = variable_term negative 1 (index_of w)

-- what a form's texts say, with the sign that stands before them
abbrev pub TermBy : Form → Type 0
TermBy f = Bool → (w : List ℕ) → Matches f w → Term

-- the form, or - and the form
abbrev pub first_by : (f : Form) → TermBy f → (w : List ℕ) → Matches (f ∣ (symbol 45 ⋯ f)) w → Term
first_by f by w (inl is) = by false w is
first_by f by w (inr (minus, x, e, is_minus, (b, t, g, between, is))) = by true t is

-- + and the form, or - and the form
abbrev pub signed_by :
    (f : Form) → TermBy f → (w : List ℕ) → Matches ((symbol 43 ⋯ f) ∣ (symbol 45 ⋯ f)) w → Term
signed_by f by w (inl (plus, x, e, is_plus, (b, t, g, between, is))) = by false t is
signed_by f by w (inr (minus, x, e, is_minus, (b, t, g, between, is))) = by true t is

-- n times + or - and the form
abbrev pub further_by :
    (f : Form) → TermBy f → (n : ℕ) (w : List ℕ)
    → Times (Matches (blanks · ((symbol 43 ⋯ f) ∣ (symbol 45 ⋯ f)))) n w → List Term
further_by f by zero w none = []
further_by f by (suc n) w (_, v, _, (_, x, _, _, signed), others) =
    signed_by f by x signed ∷ further_by f by n v others

-- a sum of the form's texts: its terms in order
abbrev pub sum_by : (f : Form) → TermBy f → (w : List ℕ) → Matches (sum_of f) w → List Term
sum_by f by w (u, v, e, first, (n, others)) = first_by f by u first ∷ further_by f by n v others

-- the terms of an expression
abbrev pub expr_by : (w : List ℕ) → Matches expr_cases w → List Term
expr_by w m = sum_by term term_by w m

-- the terms of an expression of variables alone
abbrev pub vexpr_by : (w : List ℕ) → Matches vexpr_cases w → List Term
vexpr_by w (inl zero_alone) = number_term false 0 ∷ []
vexpr_by w (inr m) = sum_by vterm vterm_by w m

-- the terms of an expression and its divisor
pub record Ratio : Type 0 where
  pub terms : List Term
  pub divisor : ℕ

-- the divisor behind an expression in brackets
abbrev pub divisor_by : (w : List ℕ) → Matches (blanks · (symbol 41 ⋯ symbol 47 ⋯ nat)) w → ℕ
divisor_by w (_, _, _, _, (_, _, _, _, (_, _, _, _, (_, _, _, _, (_, digits, _, _, _))))) =
    size_of digits

-- the form, or the form in brackets, / and NAT; without a division the divisor is 1
abbrev pub ratio_by :
    (f : Form) → ((w : List ℕ) → Matches f w → List Term) → (w : List ℕ) → Matches (over_nat f) w
    → Ratio
ratio_by f by w (inl is) = record { terms = by w is; divisor = 1 }
ratio_by f by w (inr (_, _, _, _, (_, _, _, _, (expr, end, _, is_expr, behind)))) = record {
  terms = by expr is_expr;
  divisor = divisor_by end behind;
}

-- an expression with its divisor
abbrev pub frac_by : (w : List ℕ) → Matches frac_cases w → Ratio
frac_by w m = ratio_by expr_cases expr_by w m

-- a point: the terms of its coordinates, and its divisor
abbrev pub point_by : (w : List ℕ) → Matches point_cases w → Ratio
point_by w (_, _, _, _, (_, _, _, _, (frac, _, _, is_frac, (_, _, _, _, _)))) =
    ratio_by vexpr_cases vexpr_by frac is_frac

-- the term on the other side of a relation
abbrev pub turned : Term → Term
turned t = record t { negative = not t.negative }

-- a constraint, with all terms on the left side
pub record Comparison : Type 0 where
  pub terms : List Term
  pub relation : Relation

-- one of = >= <= > <
abbrev pub relation_by : (w : List ℕ) → Matches rel w → Relation
relation_by w (inl equal) = Equal
relation_by w (inr (inl at_least)) = AtLeast
relation_by w (inr (inr (inl at_most))) = AtMost
relation_by w (inr (inr (inr (inl above)))) = Above
relation_by w (inr (inr (inr (inr below)))) = Below

-- a constraint: the terms of its left side, then those of its right side turned
abbrev pub con_by : (w : List ℕ) → Matches con_cases w → Comparison
con_by w (left, _, _, is_left, (_, _, _, _, (sign, _, _, is_sign, (_, right, _, _, is_right)))) =
    record {
      terms = expr_by left is_left ++ map turned (expr_by right is_right);
      relation = relation_by sign is_sign;
    }

-- what no point satisfies: -1 >= 0
abbrev pub never : Comparison
never = record { terms = number_term true 1 ∷ []; relation = AtLeast }

-- n times a comma and a constraint
abbrev pub further_cons_by :
    (n : ℕ) (w : List ℕ) → Times (Matches (blanks · (symbol 44 ⋯ con_cases))) n w → List Comparison
further_cons_by zero w none = []
further_cons_by (suc n) w (_, v, _, (_, _, _, _, (_, _, _, _, (_, con, _, _, is_con))), others) =
    con_by con is_con ∷ further_cons_by n v others

-- a list of constraints, in order
abbrev pub cons_by : (w : List ℕ) → Matches cons_cases w → List Comparison
cons_by w (inl always) = []
cons_by w (inr (inl empty)) = never ∷ []
cons_by w (inr (inr (first, v, _, is_first, (n, others)))) =
    con_by first is_first ∷ further_cons_by n v others

-- what a text says that has blanks around it
abbrev pub alone_by :
    {A : Type 0} → (f : Form) → ((w : List ℕ) → Matches f w → A) → (w : List ℕ)
    → Matches (alone f) w → A
alone_by f by w (b1, w1, e1, before, (x, b2, e2, is, behind)) = by x is
