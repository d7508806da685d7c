-- A text that means something by the cases has the form by which it is read.
use Rattle.std.proofs.Common.{◌≡◌, ℕ, ◌<◌, List, [], ◌∷◌, ◌++◌, zero, suc, ℤ, refl, ap, sym, ◌∙◌, arith, inl, inr, append_assoc, append-nil}
use Rattle.std.specs.Prelude.{All, codes}
use Rattle.std.proofs.lemmas.List.Elements.{All-head, All-tail, All-append}
use Rattle.grammar.specs.Form.{Form, word, Matches, Times}
use Rattle.grammar.specs.Grammar.{◌·◌, ◌∣◌, ◌⋯◌, symbol, blank, blanks, alone, list_of, digit, nat, var, term, vterm, sum_of, over_nat, rel, vars}
use Rattle.grammar.specs.Cases.{expr_cases, vexpr_cases, frac_cases, vfrac_cases, con_cases, cons_cases, point_cases, gen_cases, gens_cases}
use Rattle.cons_sys.specs.Constraints.{Constraint}
use Rattle.gens_sys.specs.Generators.{Generator}
use Rattle.soundness.specs.TextsNumbers.{IsBlank, AreBlanks, IsDigit, IsNumber, IsVariable, letter, numbered, Tokens, AreTokens}
use Rattle.soundness.specs.TextsExpressions as expressions
use Rattle.soundness.specs.TextsExpressions.{IsMultiple, IsTerm, IsSum, IsExpression, AreCoordinates, IsQuotient, ExpressionText, FractionText}
use Rattle.soundness.specs.TextsSystems as systems
use Rattle.soundness.specs.TextsSystems.{SaysConstraint, AreListed, AreConstraints, IsGenerator, AreGenerators, IsOneVariable, ConstraintText, ConstraintsText, GeneratorsText, VariablesText}
use Rattle.soundness.proofs.TextTokens.{no_blanks, blanks_are}

-- ---- blanks and tokens
one_blank : (b : ℕ) → IsBlank b → Matches blank (b ∷ [])
one_blank b (inl e) = inl (b, omega arith, omega arith, refl)
one_blank b (inr e) = inr (b, omega arith, omega arith, refl)

to_blanks : (w : List ℕ) → AreBlanks w → Matches blanks w
to_blanks [] h = (0, refl)
to_blanks (b ∷ w) h =
    let r : Matches blanks w = to_blanks w (All-tail IsBlank b w h) in
    (suc r.0, (b ∷ [], w, refl, one_blank b (All-head IsBlank b w h), r.1))

join_blanks : (u v : List ℕ) → Matches blanks u → Matches blanks v → Matches blanks (u ++ v)
join_blanks u v h k = to_blanks (u ++ v) (All-append IsBlank u v (blanks_are u h) (blanks_are v k))

-- one token of the form
one_token : (f : Form) (t w : List ℕ) → Matches f t → AreTokens (t ∷ []) w → Matches (alone f) w
one_token f t w m (b, rest, e, h, k) = (b, t ++ rest, e ∙ append_assoc b t rest, to_blanks b h, (t, rest, refl, m, to_blanks rest k))

-- the texts of the first tokens and of the others
record Cut (ss ts : Tokens) (w : List ℕ) : Type 0 where
  front : List ℕ
  back : List ℕ
  is : w ≡ front ++ back
  first : AreTokens ss front
  others : AreTokens ts back

cut : (ss ts : Tokens) (w : List ℕ) → AreTokens (ss ++ ts) w → Cut ss ts w
cut [] ts w h = record { front = []; back = w; is = refl; first = no_blanks; others = h }
cut (s ∷ ss) ts w (b, rest, e, h, more) =
    let r : Cut ss ts rest = cut ss ts rest more in
    record {
      front = (b ++ s) ++ r.front;
      back = r.back;
      is = e ∙ (ap (λ (x : List ℕ). (b ++ s) ++ x) r.is ∙ sym (append_assoc (b ++ s) r.front r.back));
      first = (b, r.front, refl, h, r.first);
      others = r.others;
    }

-- a text with blanks around it, as its three pieces
record Core (f : Form) (w : List ℕ) : Type 0 where
  before : List ℕ
  text : List ℕ
  behind : List ℕ
  is : w ≡ before ++ (text ++ behind)
  matches : Matches f text
  blank_before : Matches blanks before
  blank_behind : Matches blanks behind

core : (f : Form) (w : List ℕ) → Matches (alone f) w → Core f w
core f w (b, r, e, h, (x, d, e2, m, k)) = record { before = b; text = x; behind = d; is = e ∙ ap (λ (y : List ℕ). b ++ y) e2; matches = m; blank_before = h; blank_behind = k }

around : (f : Form) (w : List ℕ) → Core f w → Matches (alone f) w
around f w c = (c.before, c.text ++ c.behind, c.is, c.blank_before, (c.text, c.behind, refl, c.matches, c.blank_behind))

-- the pieces of two texts, one behind the other
record Joined (f g : Form) (w : List ℕ) : Type 0 where
  before : List ℕ
  first : List ℕ
  between : List ℕ
  second : List ℕ
  behind : List ℕ
  is : w ≡ before ++ ((first ++ (between ++ second)) ++ behind)
  matches : Matches f first
  others : Matches g second
  blank_before : Matches blanks before
  blank_between : Matches blanks between
  blank_behind : Matches blanks behind

laid : (b x d c y e : List ℕ) → (b ++ (x ++ d)) ++ (c ++ (y ++ e)) ≡ b ++ ((x ++ ((d ++ c) ++ y)) ++ e)
laid b x d c y e =
    append_assoc b (x ++ d) (c ++ (y ++ e)) ∙ ap (λ (z : List ℕ). b ++ z)
    (append_assoc x d (c ++ (y ++ e)) ∙ (ap (λ (z : List ℕ). x ++ z) (sym (append_assoc d c (y ++ e)) ∙ sym (append_assoc (d ++ c) y e)) ∙ sym (append_assoc x ((d ++ c) ++ y) e)))

joined : (f g : Form) (w u v : List ℕ) → w ≡ u ++ v → Matches (alone f) u → Matches (alone g) v → Joined f g w
joined f g w u v e h k =
    let a : Core f u = core f u h in
    let c : Core g v = core g v k in
    record {
      before = a.before;
      first = a.text;
      between = a.behind ++ c.before;
      second = c.text;
      behind = c.behind;
      is = e ∙ (ap (λ (x : List ℕ). x ++ v) a.is ∙ (ap (λ (x : List ℕ). (a.before ++ (a.text ++ a.behind)) ++ x) c.is ∙ laid a.before a.text a.behind c.before c.text c.behind));
      matches = a.matches;
      others = c.matches;
      blank_before = a.blank_before;
      blank_between = join_blanks a.behind c.before a.blank_behind c.blank_before;
      blank_behind = c.blank_behind;
    }

-- the one, blanks, and the other
both : (f g : Form) (w u v : List ℕ) → w ≡ u ++ v → Matches (alone f) u → Matches (alone g) v → Matches (alone (f ⋯ g)) w
both f g w u v e h k =
    let j : Joined f g w = joined f g w u v e h k in (
      j.before,
      (j.first ++ (j.between ++ j.second)) ++ j.behind,
      j.is,
      j.blank_before,
      (j.first ++ (j.between ++ j.second), j.behind, refl, (j.first, j.between ++ j.second, refl, j.matches, (j.between, j.second, refl, j.blank_between, j.others)), j.blank_behind),
    )

-- a token, and tokens behind it
token_then : (f g : Form) (t : List ℕ) (ts : Tokens) (w : List ℕ) → Matches f t → ((v : List ℕ) → AreTokens ts v → Matches (alone g) v) → AreTokens (t ∷ ts) w → Matches (alone (f ⋯ g)) w
token_then f g t ts w m law h =
    let c : Cut (t ∷ []) ts w = cut (t ∷ []) ts w h in
    both f g w c.front c.back c.is (one_token f t c.front m c.first) (law c.back c.others)

-- tokens, and others behind them
tokens_then : (f g : Form) (ss ts : Tokens) (w : List ℕ) → ((u : List ℕ) → AreTokens ss u → Matches (alone f) u) → ((v : List ℕ) → AreTokens ts v → Matches (alone g) v) → AreTokens (ss ++ ts) w → Matches (alone (f ⋯ g)) w
tokens_then f g ss ts w first others h =
    let c : Cut ss ts w = cut ss ts w h in
    both f g w c.front c.back c.is (first c.front c.first) (others c.back c.others)

-- a text of the form, where the whole has another that includes it
widened : (f g : Form) → ((x : List ℕ) → Matches f x → Matches g x) → (w : List ℕ) → Matches (alone f) w → Matches (alone g) w
widened f g into w (b, r, e, h, (x, d, e2, m, k)) = (b, r, e, h, (x, d, e2, into x m, k))

the_symbol : (c : ℕ) → Matches (symbol c) (c ∷ [])
the_symbol c = (c, omega arith, omega arith, refl)

-- ---- numbers and variables
to_digits : (w : List ℕ) → All IsDigit w → (n : ℕ) × Times (Matches digit) n w
to_digits [] h = (0, refl)
to_digits (b ∷ w) h =
    let r = to_digits w (All-tail IsDigit b w h) in
    let d : IsDigit b = All-head IsDigit b w h in
    (suc r.0, (b ∷ [], w, refl, (b, d.0, d.1, refl), r.1))

nat_form : (w : List ℕ) (n : ℕ) → IsNumber w n → Matches nat w
nat_form [] n h = absurd (none h.some)
  where
    none : 0 < 0 → ⊥
    none z = omega arith
nat_form (b ∷ w) n h =
    let d : IsDigit b = All-head IsDigit b w h.digits in
    (b ∷ [], w, refl, (b, d.0, d.1, refl), to_digits w (All-tail IsDigit b w h.digits))

var_form : (w : List ℕ) (j : ℕ) → IsVariable w j → Matches var w
var_form w j (letter b h) = inl (b, h.0, h.1, refl)
var_form w j (numbered b d ds n h above is) =
    let first : IsDigit d = All-head IsDigit d ds is.digits in
    inr (b ∷ [], d ∷ ds, refl, (b, h.0, h.1, refl), (d ∷ [], ds, refl, (d, omega arith, first.1, refl), to_digits ds (All-tail IsDigit d ds is.digits)))

-- ---- sums
times_push : (P : List ℕ → Type 0) (n : ℕ) (w u : List ℕ) → Times P n w → P u → Times P (suc n) (w ++ u)
times_push P zero w u e p = (u, [], ap (λ (x : List ℕ). x ++ u) e ∙ sym (append-nil u), p, refl)
times_push P (suc n) w u (x, v, e, h, more) p = (x, v ++ u, ap (λ (y : List ℕ). y ++ u) e ∙ append_assoc x v u, h, times_push P n v u more p)

multiple_form : (dim : ℕ) (ts : Tokens) (row : List ℤ) → IsMultiple dim ts row → (w : List ℕ) → AreTokens ts w → Matches (alone vterm) w
multiple_form dim ts row (expressions.variable t j is below) w h = one_token vterm t w (inr (var_form t j is)) h
multiple_form dim ts row (expressions.product t u n j number is below) w h =
    widened (nat ⋯ symbol 42 ⋯ var) vterm (λ x m. inl m) w
    (token_then nat (symbol 42 ⋯ var) t (codes "*" ∷ u ∷ []) w (nat_form t n number)
    (λ v k. token_then (symbol 42) var (codes "*") (u ∷ []) v (the_symbol 42) (λ y l. one_token var u y (var_form u j is) l) k) h)

vterm_term : (x : List ℕ) → Matches vterm x → Matches term x
vterm_term x (inl m) = inl m
vterm_term x (inr m) = inr (inl m)

term_form : (dim : ℕ) (ts : Tokens) (row : List ℤ) → IsTerm dim ts row → (w : List ℕ) → AreTokens ts w → Matches (alone term) w
term_form dim ts row (expressions.multiple us u is) w h = widened vterm term vterm_term w (multiple_form dim us u is w h)
term_form dim ts row (expressions.constant t n is) w h = one_token term t w (inr (inr (nat_form t n is))) h

module _ (f : Form) (Means : Tokens → List ℤ → Type 0) (law : (ts : Tokens) (row : List ℤ) → Means ts row → (w : List ℕ) → AreTokens ts w → Matches (alone f) w) where
  alone_sum : (x : List ℕ) → Matches (f ∣ (symbol 45 ⋯ f)) x → Matches (sum_of f) x
  alone_sum x m = (x, [], sym (append-nil x), m, (0, refl))

  -- one more term behind a sum
  longer : (w u v : List ℕ) → w ≡ u ++ v → Matches (alone (sum_of f)) u → Matches (alone ((symbol 43 ⋯ f) ∣ (symbol 45 ⋯ f))) v → Matches (alone (sum_of f)) w
  longer w u v e h k = put (joined (sum_of f) ((symbol 43 ⋯ f) ∣ (symbol 45 ⋯ f)) w u v e h k)
    where
      grown : (x y z : List ℕ) → Matches (sum_of f) x → Matches blanks y → Matches ((symbol 43 ⋯ f) ∣ (symbol 45 ⋯ f)) z → Matches (sum_of f) (x ++ (y ++ z))
      grown x y z (p, q, is, first, (n, times)) between m = (
        p,
        q ++ (y ++ z),
        ap (λ (t : List ℕ). t ++ (y ++ z)) is ∙ append_assoc p q (y ++ z),
        first,
        (suc n, times_push (Matches (blanks · ((symbol 43 ⋯ f) ∣ (symbol 45 ⋯ f)))) n q (y ++ z) times (y, z, refl, between, m)),
      )

      put : Joined (sum_of f) ((symbol 43 ⋯ f) ∣ (symbol 45 ⋯ f)) w → Matches (alone (sum_of f)) w
      put j = (
        j.before,
        (j.first ++ (j.between ++ j.second)) ++ j.behind,
        j.is,
        j.blank_before,
        (j.first ++ (j.between ++ j.second), j.behind, refl, grown j.first j.between j.second j.matches j.blank_between j.others, j.blank_behind),
      )

  signed_form : (c : ℕ) (ts : Tokens) (row : List ℤ) → Means ts row → (w : List ℕ) → AreTokens ((c ∷ []) ∷ ts) w → Matches (alone (symbol c ⋯ f)) w
  signed_form c ts row m w h = token_then (symbol c) f (c ∷ []) ts w (the_symbol c) (law ts row m) h

  sum_form : (ts : Tokens) (row : List ℤ) → IsSum Means ts row → (w : List ℕ) → AreTokens ts w → Matches (alone (sum_of f)) w
  sum_form ts row (expressions.one us u m) w h = widened f (sum_of f) (λ x k. alone_sum x (inl k)) w (law us u m w h)
  sum_form ts row (expressions.minus_one us u m) w h = widened (symbol 45 ⋯ f) (sum_of f) (λ x k. alone_sum x (inr k)) w (signed_form 45 us u m w h)
  sum_form ts row (expressions.plus ss us u v s m) w h =
      let c : Cut ss (codes "+" ∷ us) w = cut ss (codes "+" ∷ us) w h in
      longer w c.front c.back c.is (sum_form ss u s c.front c.first) (widened (symbol 43 ⋯ f) ((symbol 43 ⋯ f) ∣ (symbol 45 ⋯ f)) (λ x k. inl k) c.back (signed_form 43 us v m c.back c.others))
  sum_form ts row (expressions.minus ss us u v s m) w h =
      let c : Cut ss (codes "-" ∷ us) w = cut ss (codes "-" ∷ us) w h in
      longer w c.front c.back c.is (sum_form ss u s c.front c.first) (widened (symbol 45 ⋯ f) ((symbol 43 ⋯ f) ∣ (symbol 45 ⋯ f)) (λ x k. inr k) c.back (signed_form 45 us v m c.back c.others))

expr_form : (dim : ℕ) (ts : Tokens) (row : List ℤ) → IsExpression dim ts row → (w : List ℕ) → AreTokens ts w → Matches (alone expr_cases) w
expr_form dim ts row is w h = sum_form term (IsTerm dim) (term_form dim) ts row is w h

vexpr_form : (dim : ℕ) (ts : Tokens) (row : List ℤ) → AreCoordinates dim ts row → (w : List ℕ) → AreTokens ts w → Matches (alone vexpr_cases) w
vexpr_form dim ts row expressions.origin w h = one_token vexpr_cases (codes "0") w (inl (the_symbol 48)) h
vexpr_form dim ts row (expressions.sum us u is) w h = widened (sum_of vterm) vexpr_cases (λ x m. inr m) w (sum_form vterm (IsMultiple dim) (multiple_form dim) us u is w h)

-- what may stand over a number
over_form : (f : Form) (Means : Tokens → List ℤ → Type 0) → ((ts : Tokens) (row : List ℤ) → Means ts row → (w : List ℕ) → AreTokens ts w → Matches (alone f) w) → (ts : Tokens) (q : List ℤ × ℕ) → IsQuotient Means ts q → (w : List ℕ) → AreTokens ts w → Matches (alone (over_nat f)) w
over_form f Means law ts q (expressions.whole us u m) w h = widened f (over_nat f) (λ x k. inl k) w (law us u m w h)
over_form f Means law ts q (expressions.divided us t u n m is positive) w h =
    widened (symbol 40 ⋯ f ⋯ symbol 41 ⋯ symbol 47 ⋯ nat) (over_nat f) (λ x k. inr k) w
    (token_then (symbol 40) (f ⋯ symbol 41 ⋯ symbol 47 ⋯ nat) (codes "(") (us ++ codes ")" ∷ codes "/" ∷ t ∷ []) w (the_symbol 40)
    (λ v k. tokens_then f (symbol 41 ⋯ symbol 47 ⋯ nat) us (codes ")" ∷ codes "/" ∷ t ∷ []) v (law us u m)
    (λ y l. token_then (symbol 41) (symbol 47 ⋯ nat) (codes ")") (codes "/" ∷ t ∷ []) y (the_symbol 41)
    (λ z o. token_then (symbol 47) nat (codes "/") (t ∷ []) z (the_symbol 47) (λ a p. one_token nat t a (nat_form t n is) p) o) l) k) h)

-- ---- constraints, generators and lists
related_form : (dim : ℕ) (sign : List ℕ) → Matches rel sign → (ss ts : Tokens) (u v : List ℤ) → IsExpression dim ss u → IsExpression dim ts v → (w : List ℕ) → AreTokens (ss ++ sign ∷ ts) w → Matches (alone con_cases) w
related_form dim sign m ss ts u v l r w h =
    tokens_then expr_cases (rel ⋯ expr_cases) ss (sign ∷ ts) w (expr_form dim ss u l) (λ y k. token_then rel expr_cases sign ts y m (expr_form dim ts v r) k) h

con_form : (dim : ℕ) (ts : Tokens) (c : Constraint) → SaysConstraint dim ts c → (w : List ℕ) → AreTokens ts w → Matches (alone con_cases) w
con_form dim ts c (systems.equal ss us u v l r) w h = related_form dim (codes "=") (inl (the_symbol 61)) ss us u v l r w h
con_form dim ts c (systems.at_least ss us u v l r) w h = related_form dim (codes ">=") (inr (inl refl)) ss us u v l r w h
con_form dim ts c (systems.at_most ss us u v l r) w h = related_form dim (codes "<=") (inr (inr (inl refl))) ss us u v l r w h
con_form dim ts c (systems.above ss us u v l r) w h = related_form dim (codes ">") (inr (inr (inr (inl (the_symbol 62))))) ss us u v l r w h
con_form dim ts c (systems.below ss us u v l r) w h = related_form dim (codes "<") (inr (inr (inr (inr (the_symbol 60))))) ss us u v l r w h

module _ {A : Type 0} (f : Form) (Means : Tokens → A → Type 0) (law : (ts : Tokens) (a : A) → Means ts a → (w : List ℕ) → AreTokens ts w → Matches (alone f) w) where
  -- one more before a list
  before_list : (w u v : List ℕ) → w ≡ u ++ v → Matches (alone f) u → Matches (alone (symbol 44 ⋯ list_of f)) v → Matches (alone (list_of f)) w
  before_list w u v e h k = put (joined f (symbol 44 ⋯ list_of f) w u v e h k)
    where
      regrouped : (comma b p q : List ℕ) → comma ++ (b ++ (p ++ q)) ≡ (comma ++ (b ++ p)) ++ q
      regrouped comma b p q = ap (λ (t : List ℕ). comma ++ t) (sym (append_assoc b p q)) ∙ sym (append_assoc comma (b ++ p) q)

      grown : (x y z : List ℕ) → Matches f x → Matches blanks y → Matches (symbol 44 ⋯ list_of f) z → Matches (list_of f) (x ++ (y ++ z))
      grown x y z m between (comma, r, e1, is_comma, (b, s, e2, behind, (p, q, e3, first, (n, times)))) = (
        x,
        y ++ z,
        refl,
        m,
        (
          suc n,
          (
            y ++ (comma ++ (b ++ p)),
            q,
            ap (λ (t : List ℕ). y ++ t) (e1 ∙ (ap (λ (t : List ℕ). comma ++ t) (e2 ∙ ap (λ (t : List ℕ). b ++ t) e3) ∙ regrouped comma b p q)) ∙ sym (append_assoc y (comma ++ (b ++ p)) q),
            (y, comma ++ (b ++ p), refl, between, (comma, b ++ p, refl, is_comma, (b, p, refl, behind, first))),
            times,
          ),
        ),
      )

      put : Joined f (symbol 44 ⋯ list_of f) w → Matches (alone (list_of f)) w
      put j = (
        j.before,
        (j.first ++ (j.between ++ j.second)) ++ j.behind,
        j.is,
        j.blank_before,
        (j.first ++ (j.between ++ j.second), j.behind, refl, grown j.first j.between j.second j.matches j.blank_between j.others, j.blank_behind),
      )

  list_form : (ts : Tokens) (as_read : List A) → AreListed Means ts as_read → (w : List ℕ) → AreTokens ts w → Matches (alone (list_of f)) w
  list_form ts as_read (systems.last us a m) w h = widened f (list_of f) (λ x k. (x, [], sym (append-nil x), k, (0, refl))) w (law us a m w h)
  list_form ts as_read (systems.next ss us a others m rest) w h =
      let c : Cut ss (codes "," ∷ us) w = cut ss (codes "," ∷ us) w h in
      before_list w c.front c.back c.is (law ss a m c.front c.first)
      (token_then (symbol 44) (list_of f) (codes ",") us c.back (the_symbol 44) (list_form us others rest) c.others)

cons_form : (dim : ℕ) (ts : Tokens) (cs : List Constraint) → AreConstraints dim ts cs → (w : List ℕ) → AreTokens ts w → Matches (alone cons_cases) w
cons_form dim ts cs systems.always w h = one_token cons_cases (codes "true") w (inl refl) h
cons_form dim ts cs systems.never w h = one_token cons_cases (codes "false") w (inr (inl refl)) h
cons_form dim ts cs (systems.constraints us ds is) w h = widened (list_of con_cases) cons_cases (λ x m. inr (inr m)) w (list_form con_cases (SaysConstraint dim) (con_form dim) us ds is w h)

enclosed_form : (cs : List ℕ) (f : Form) (ts : Tokens) → ((w : List ℕ) → AreTokens ts w → Matches (alone f) w) → (w : List ℕ) → AreTokens (cs ∷ ts ++ codes ")" ∷ []) w → Matches (alone (word cs ⋯ f ⋯ symbol 41)) w
enclosed_form cs f ts law w h =
    token_then (word cs) (f ⋯ symbol 41) cs (ts ++ codes ")" ∷ []) w refl
    (λ v k. tokens_then f (symbol 41) ts (codes ")" ∷ []) v law (λ y l. one_token (symbol 41) (codes ")") y (the_symbol 41) l) k) h

gen_form : (dim : ℕ) (ts : Tokens) (g : Generator) → IsGenerator dim ts g → (w : List ℕ) → AreTokens ts w → Matches (alone gen_cases) w
gen_form dim ts g (systems.point us u n is) w h = widened point_cases gen_cases (λ x m. inl m) w (enclosed_form (codes "p(") vfrac_cases us (over_form vexpr_cases (AreCoordinates dim) (vexpr_form dim) us (u, n) is) w h)
gen_form dim ts g (systems.closure_point us u n is) w h = widened (word (codes "c(") ⋯ vfrac_cases ⋯ symbol 41) gen_cases (λ x m. inr (inl m)) w (enclosed_form (codes "c(") vfrac_cases us (over_form vexpr_cases (AreCoordinates dim) (vexpr_form dim) us (u, n) is) w h)
gen_form dim ts g (systems.ray us u is) w h = widened (word (codes "r(") ⋯ vexpr_cases ⋯ symbol 41) gen_cases (λ x m. inr (inr (inl m))) w (enclosed_form (codes "r(") vexpr_cases us (vexpr_form dim us u is) w h)
gen_form dim ts g (systems.straight us u is) w h = widened (word (codes "l(") ⋯ vexpr_cases ⋯ symbol 41) gen_cases (λ x m. inr (inr (inr m))) w (enclosed_form (codes "l(") vexpr_cases us (vexpr_form dim us u is) w h)

gens_form : (dim : ℕ) (ts : Tokens) (gs : List Generator) → AreGenerators dim ts gs → (w : List ℕ) → AreTokens ts w → Matches (alone gens_cases) w
gens_form dim ts gs systems.no_generator w h = one_token gens_cases (codes "none") w (inl refl) h
gens_form dim ts gs (systems.generators us ds is) w h = widened (list_of gen_cases) gens_cases (λ x m. inr m) w (list_form gen_cases (IsGenerator dim) (gen_form dim) us ds is w h)

variable_form : (ts : Tokens) (j : ℕ) → IsOneVariable ts j → (w : List ℕ) → AreTokens ts w → Matches (alone var) w
variable_form ts j (systems.variable t i is) w h = one_token var t w (var_form t i is) h

-- ---- texts
pub expression_has_form : (dim : ℕ) (text : List ℕ) (row : List ℤ) → ExpressionText dim text row → Matches (alone expr_cases) text
expression_has_form dim text row t = expr_form dim t.pieces row t.means text t.split

pub fraction_has_form : (dim : ℕ) (text : List ℕ) (row : List ℤ) (n : ℕ) → FractionText dim text row n → Matches (alone frac_cases) text
fraction_has_form dim text row n t = over_form expr_cases (IsExpression dim) (expr_form dim) t.pieces (row, n) t.means text t.split

pub constraint_has_form : (dim : ℕ) (text : List ℕ) (c : Constraint) → ConstraintText dim text c → Matches (alone con_cases) text
constraint_has_form dim text c t = con_form dim t.pieces c t.means text t.split

pub constraints_have_form : (dim : ℕ) (text : List ℕ) (cs : List Constraint) → ConstraintsText dim text cs → Matches (alone cons_cases) text
constraints_have_form dim text cs t = cons_form dim t.pieces cs t.means text t.split

pub generators_have_form : (dim : ℕ) (text : List ℕ) (gs : List Generator) → GeneratorsText dim text gs → Matches (alone gens_cases) text
generators_have_form dim text gs t = gens_form dim t.pieces gs t.means text t.split

pub variables_have_form : (text vs : List ℕ) → VariablesText text vs → Matches (alone vars) text
variables_have_form text vs t = list_form var IsOneVariable variable_form t.pieces vs t.means text t.split
