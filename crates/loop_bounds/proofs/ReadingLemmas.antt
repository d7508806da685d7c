-- What lines say, and why they are refused.
use Rattle.std.proofs.Common.{◌≡◌, ◌⊎◌, inl, inr, ℕ, ◌+◌, ◌-◌, ◌^◌, ◌<◌, ◌≤◌, List, [], ◌∷◌, ◌++◌, length, take, drop, min, ℤ, pos, ◌<ℤ◌, Option, Some, None, MatchOption, ok_or, Result, Ok, Err, MatchResult, refl, sym, ap, ◌∙◌, subst, arith}
use Rattle.std.specs.Prelude.{get_or, All, ◌≢◌, zero, suc}
use Rattle.std.proofs.lemmas.Int.{ints}
use Rattle.std.proofs.lemmas.Bool.{cases_order}
use Rattle.std.proofs.lemmas.List.{take-append-drop, take_more, take_all, drop_more, length-take-le}
use Rattle.grammar.specs.Cases.{expr_cases, frac_cases, cons_cases}
use Rattle.row_core.specs.Vectors.{cell}
use Rattle.row_core.specs.Range.{InRange, AllInRange}
use Rattle.cons_sys.specs.Constraints.{Constraint, Constraints, kind_at}
use Rattle.cons_sys.specs.declared.kind.ConKind.{ConKind}
use Rattle.cons_sys.specs.declared.kind.ConKind.TheVariants.{Eq, Ge, Gt}
use Rattle.stored_systems.specs.PointSets.{AreClosed, IsClosedKind}
use Rattle.poly_pair.specs.declared.topology.TheConstants.{MAX_DIM}
use Rattle.reply_text.specs.declared.faults.Fault.{Fault}
use Rattle.reply_text.specs.declared.faults.Fault.TheVariants.{Syntax, TooManyDims, StrictInClosed, Truncated}
use Rattle.reply_text.specs.declared.faults.ReadErr.{ReadErr}
use Rattle.reply_text.specs.declared.faults.ReadErr.TheVariants.{Input, Memory}
use Rattle.term_text.specs.Texts.{IsExpr, IsExprFault, IsFrac, IsFracFault}
use Rattle.term_text.specs.Systems.{IsCons, IsConsFault}
use Rattle.expr_text.specs.Refusals.{IsRefused, IsValueFault}
use Rattle.loop_analysis.specs.declared.loops.Assignment.{Assignment}
use Rattle.loop_analysis.specs.Loops.{WhileLoop, IsAssignment}
use Rattle.loop_bounds.specs.declared.reading.Draft.{Draft}
use Rattle.loop_bounds.specs.declared.reading.Draft.TheVariants.{Nothing, Dimension, Started, Whole}
use Rattle.loop_bounds.specs.Reading.{SayMore, SayAll, Says, HasFault, IsSilent, IsRefusedLine, lines_of, HasPart, IsBehind, assignment_word, behind_word, refused_behind, IsDimension, IsClosedCons, IsValue, IsAssignmentLine, IsPartFault, IsLineFault, IsDimensionFault, IsConstraintFault, IsVariableFault, IsAssignmentFault, IsRefusedFor, Adds, IsDraft, IsLineRefused, IsPartial, Spells, IsTextRefused}

-- ---- words
-- what was read of a part is what its line says, and a fault is one of the line
shown_part : {T : Type 0} (word line part : List ℕ) (Q : T → List ℕ → Type 0) (P : List ℕ → Fault → Type 0) (R : T → Type 0) (W : Fault → Type 0) → line ≡ word ++ part → ((x : T) → Q x part → R x) → ((fault : Fault) → IsPartFault word line P fault → W fault) → (read shown : Result T ReadErr) → MatchResult read (λ x. Q x part) (IsRefusedFor (P part)) → MatchResult read (λ x. shown ≡ Ok x) (λ cause. shown ≡ Err (refused_behind (length word) cause)) → MatchResult shown R (IsRefusedFor W)
shown_part word line part Q P R W e says faults (Ok x) shown is same = subst (λ (r : Result _ ReadErr). MatchResult r R (IsRefusedFor W)) (sym same) (says x is)
shown_part word line part Q P R W e says faults (Err (Input fault)) shown is same = subst (λ (r : Result _ ReadErr). MatchResult r R (IsRefusedFor W)) (sym same) (faults (behind_word (length word) fault) (record { part = part; behind = e; cause = fault; is_cause = is; shown = refl }))
shown_part word line part Q P R W e says faults (Err Memory) shown is same = subst (λ (r : Result _ ReadErr). MatchResult r R (IsRefusedFor W)) (sym same) tt

pub line_read : {T : Type 0} (word line part : List ℕ) (Q : T → List ℕ → Type 0) (P : List ℕ → Fault → Type 0) → line ≡ word ++ part → (read shown : Result T ReadErr) → MatchResult read (λ x. Q x part) (IsRefusedFor (P part)) → MatchResult read (λ x. shown ≡ Ok x) (λ cause. shown ≡ Err (refused_behind (length word) cause)) → MatchResult shown (λ x. IsBehind word line (Q x)) (IsRefusedFor (IsLineFault word line P))
line_read word line part Q P e = shown_part word line part Q P (λ x. IsBehind word line (Q x)) (IsLineFault word line P) e (λ x is. record { part = part; behind = e; holds = is }) (λ fault is. inr is)

pub no_word : (word line : List ℕ) (P : List ℕ → Fault → Type 0) (cause : ReadErr) → (¬ (HasPart word line)) × (cause ≡ Input (Syntax 1)) → IsRefusedFor (IsLineFault word line P) cause
no_word word line P cause (none, e) = subst (IsRefusedFor (IsLineFault word line P)) (sym e) (inl (none, refl))

pub assignment_read : (dim variable : ℕ) (word line part : List ℕ) → variable < MAX_DIM → word ≡ assignment_word variable → line ≡ word ++ part → (read shown : Result Assignment ReadErr) → MatchResult read (λ a. IsValue dim variable a part × IsAssignment dim a) (IsRefusedFor (IsVariableFault dim variable part)) → MatchResult read (λ a. shown ≡ Ok a) (λ cause. shown ≡ Err (refused_behind (length word) cause)) → MatchResult shown (λ a. IsAssignmentLine dim line a × IsAssignment dim a) (IsRefusedFor (IsAssignmentFault dim line))
assignment_read dim variable word line part known named e = shown_part word line part (λ a text. IsValue dim variable a text × IsAssignment dim a) (IsVariableFault dim variable) (λ a. IsAssignmentLine dim line a × IsAssignment dim a) (IsAssignmentFault dim line) e
    (λ a is. ((variable, record { part = part; behind = e ∙ ap (λ (w : List ℕ). w ++ part) named; holds = is.0 }), is.1))
    (λ fault is. inr (variable, known, subst (λ (w : List ℕ). IsPartFault w line (IsVariableFault dim variable) fault) named is))

-- ---- constraints that aren't strict
closed_kind : (kind : ConKind) → kind ≢ Gt → IsClosedKind kind
closed_kind Eq other = tt
closed_kind Ge other = tt
closed_kind Gt other = absurd (other refl)

-- none of a list is
pub none_strict : (list : List Constraint) → ((i : ℕ) → i < length list → kind_at list i ≢ Gt) → All (λ (c : Constraint). IsClosedKind c.1) list
none_strict [] others k d h = absurd (omega (arith, h))
none_strict (c ∷ list) others zero d h = closed_kind c.1 (others 0 (omega arith))
none_strict (c ∷ list) others (suc k) d h = none_strict list (λ i below. others (suc i) (omega (arith, below))) k d (omega (arith, h))

-- ---- the number of variables
one_cell : (row : List ℤ) → length row ≡ 1 → row ≡ cell row 0 ∷ []
one_cell [] e = absurd (omega (arith, e))
one_cell (z ∷ []) e = refl
one_cell (y ∷ z ∷ row) e = absurd (omega (arith, e))

pub number_wide : (part : List ℕ) (row : List ℤ) → IsExpr 0 part row → length row ≡ 1
number_wide part row is = is.holds.sums.wide

number_is : (part : List ℕ) (row : List ℤ) (z : ℤ) → IsExpr 0 part row → cell row 0 ≡ z → IsExpr 0 part (z ∷ [])
number_is part row z is e = subst (IsExpr 0 part) (one_cell row (number_wide part row is) ∙ ap (λ (x : ℤ). x ∷ []) e) is

pub dimension_read : (part : List ℕ) (row : List ℤ) (n : ℕ) → IsExpr 0 part row → cell row 0 ≡ pos n → n ≤ MAX_DIM → IsDimension n part
dimension_read part row n is e h = record { number = number_is part row (pos n) is e; narrow = h }

pub wrong_number : (part : List ℕ) (row : List ℤ) → IsExpr 0 part row → (cell row 0 <ℤ pos 0) ⊎ (pos MAX_DIM <ℤ cell row 0) → IsRefusedFor (IsDimensionFault part) (Input TooManyDims)
wrong_number part row is out = inr (record { value = cell row 0; number = number_is part row (cell row 0) is refl; outside = out }, refl)

pub no_number : (part : List ℕ) (cause : ReadErr) → IsRefused expr_cases part (IsValueFault (IsExprFault 0 part)) cause → IsRefusedFor (IsDimensionFault part) cause
no_number part (Input fault) r = inl r
no_number part Memory r = tt

-- ---- constraints
pub no_constraints : (dim : ℕ) (part : List ℕ) (cause : ReadErr) → IsRefused cons_cases part (IsValueFault (IsConsFault dim part)) cause → IsRefusedFor (IsConstraintFault dim part) cause
no_constraints dim part (Input fault) r = inl r
no_constraints dim part Memory r = tt

pub strict_constraints : (dim : ℕ) (part : List ℕ) (cs : Constraints) → IsCons dim part cs → ¬ (AreClosed cs) → IsRefusedFor (IsConstraintFault dim part) (Input StrictInClosed)
strict_constraints dim part cs is n = inr (record { cs = cs; constraints = is; strict = n }, refl)

pub closed_constraints : (dim : ℕ) (part : List ℕ) (cs : Constraints) → IsCons dim part cs → AreClosed cs → IsClosedCons dim cs part
closed_constraints dim part cs is c = record { constraints = is; closed = c }

-- ---- assignments
pub no_fraction : (dim variable : ℕ) (part : List ℕ) (cause : ReadErr) → variable < dim → IsRefused frac_cases part (IsValueFault (IsFracFault dim part)) cause → IsRefusedFor (IsVariableFault dim variable part) cause
no_fraction dim variable part (Input fault) h r = inr (h, r)
no_fraction dim variable part Memory h r = tt

-- an assignment that was read fits
positive_divisor : (n : ℕ) (z : ℤ) → 0 < n → z ≡ pos n → pos 0 <ℤ z
positive_divisor n z h e = omega (arith, ints, h, e)

small_divisor : (n : ℕ) (z : ℤ) → n < 2 ^ 127 → z ≡ pos n → InRange z
small_divisor n z h e = subst InRange (sym e) (record { size = h })

pub fraction_read : (dim : ℕ) (part : List ℕ) (a : Assignment) → a.variable < dim → AllInRange a.value.expr → IsFrac dim part a.value.expr a.value.den → IsValue dim a.variable a part × IsAssignment dim a
fraction_read dim part a below r is =
    let f = is.holds in
    (record { same = refl; below = below; fraction = is }, record { variable = below; wide = f.sums.wide; in_range = r; divisor = small_divisor _ a.value.den f.stay.divisor f.same; positive = positive_divisor _ a.value.den f.positive f.same })

-- no variable begins the line yet
pub none_begins : (line : List ℕ) (n : ℕ) → ((j : ℕ) → j < n → ¬ (HasPart (assignment_word j) line)) → ¬ (HasPart (assignment_word n) line) → (j : ℕ) → j < n + 1 → ¬ (HasPart (assignment_word j) line)
none_begins line n before here j l = by (cases_order j n)
  where
    by : (j ≡ n) ⊎ ((j < n) ⊎ (n < j)) → ¬ (HasPart (assignment_word j) line)
    by (inl same) = subst (λ (i : ℕ). ¬ (HasPart (assignment_word i) line)) (sym same) here
    by (inr (inl less)) = before j less
    by (inr (inr more)) = absurd (omega (arith, l, more))

-- ---- lines in order
say_last : (old : Draft) (lines : List (List ℕ)) (line : List ℕ) (between new : Draft) → SayMore old lines between → Says between line new → SayMore old (lines ++ line ∷ []) new
say_last old [] line between new e says = (new, subst (λ (d : Draft). Says d line new) e says, refl)
say_last old (first ∷ lines) line between new (next, said, rest) says = (next, said, say_last next lines line between new rest says)

pub say_more : (parts : List (List ℕ)) (n m : ℕ) (line : List ℕ) (old new : Draft) → m ≡ n + 1 → (n < length parts) × (line ≡ get_or parts n line) → SayAll (take n parts) old → Says old line new → SayAll (take m parts) new
say_more parts n m line old new e (l, is) say says =
    subst (λ (k : ℕ). SayAll (take k parts) new) (sym e)
    (subst (λ (lines : List (List ℕ)). SayAll lines new) (sym (take_more parts n line l ∙ ap (λ (x : List ℕ). take n parts ++ x ∷ []) (sym is))) (say_last Nothing (take n parts) line old new say says))

say_all : (parts : List (List ℕ)) (n : ℕ) (draft : Draft) → n ≡ length parts → SayAll (take n parts) draft → SayAll parts draft
say_all parts n draft e say = subst (λ (lines : List (List ℕ)). SayAll lines draft) (take_all n parts (omega (arith, e))) say

line_parts : (parts : List (List ℕ)) (n : ℕ) (line : List ℕ) → (n < length parts) × (line ≡ get_or parts n line) → parts ≡ take n parts ++ line ∷ drop (n + 1) parts
line_parts parts n line (l, is) = sym (take-append-drop n parts) ∙ ap (λ (rest : List (List ℕ)). take n parts ++ rest) (drop_more parts n line l ∙ ap (λ (x : List ℕ). x ∷ drop (n + 1) parts) (sym is))

pub refused_line : (text : List ℕ) (n number : ℕ) (line : List ℕ) (draft : Draft) (fault : Fault) → (n < length (lines_of text)) × (line ≡ get_or (lines_of text) n line) → SayAll (take n (lines_of text)) draft → (¬ (IsSilent line)) × HasFault draft line fault → number ≡ min (n + 1) (2 ^ 64 - 1) → IsRefusedLine text number fault
refused_line text n number line draft fault at say (said, has) e = record {
  before = take n (lines_of text);
  line = line;
  after = drop (n + 1) (lines_of text);
  lines = line_parts (lines_of text) n line at;
  draft = draft;
  say = say;
  said = said;
  has_fault = has;
  counted = e ∙ ap (λ (k : ℕ). min (k + 1) (2 ^ 64 - 1)) (sym (length-take-le n (lines_of text) (omega (arith, at.0))));
}

pub refused_cause : (text : List ℕ) (n number : ℕ) (line : List ℕ) (draft : Draft) (cause : ReadErr) → (n < length (lines_of text)) × (line ≡ get_or (lines_of text) n line) → SayAll (take n (lines_of text)) draft → IsLineRefused draft line cause → number ≡ min (n + 1) (2 ^ 64 - 1) → IsTextRefused text (record { line = number; cause = cause })
refused_cause text n number line draft (Input fault) at say is e = inl (refused_line text n number line draft fault at say is e)
refused_cause text n number line draft Memory at say is e = tt

-- all lines are said: they spell a loop, or lines are missing
pub all_said : (text : List ℕ) (n number : ℕ) (draft : Draft) (made : Option WhileLoop) → n ≡ length (lines_of text) → SayAll (take n (lines_of text)) draft → MatchOption made (IsPartial draft) (λ l. draft ≡ Whole l) → number ≡ min n (2 ^ 64 - 1) → MatchResult (ok_or made (record { line = number; cause = Input Truncated })) (Spells text) (IsTextRefused text)
all_said text n number draft (Some l) e say is counted = subst (λ (d : Draft). SayAll (lines_of text) d) is (say_all (lines_of text) n draft e say)
all_said text n number draft None e say is counted = inr (record { draft = draft; say = say_all (lines_of text) n draft e say; is_partial = is; counted = subst (λ (k : ℕ). number ≡ min k (2 ^ 64 - 1)) e counted; shown = refl })

-- ---- drafts that fit
pub adds_fit : (old : Draft) (line : List ℕ) (new : Draft) → IsDraft old → Adds old line new → IsDraft new
adds_fit Nothing line new fit (dim, is, e) = subst IsDraft (sym e) is.holds.narrow
adds_fit (Dimension dim) line new fit (start, is, e) = subst IsDraft (sym e) (subst (λ (n : ℕ). n ≤ MAX_DIM) (sym is.holds.constraints.holds.over) fit, is.holds.closed)
adds_fit (Started start) line new fit (guard, is, e) = subst IsDraft (sym e) tt
adds_fit (Whole l) line new fit (a, is, e) = subst IsDraft (sym e) tt

pub says_fit : (old : Draft) (line : List ℕ) (new : Draft) → IsDraft old → Says old line new → IsDraft new
says_fit old line new fit (inl (silent, e)) = subst IsDraft (sym e) fit
says_fit old line new fit (inr (said, adds)) = adds_fit old line new fit adds
