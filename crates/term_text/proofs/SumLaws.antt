-- Sums and both sides of a relation: what the pass over them gives is what the grammar's cases say.
use Rattle.std.proofs.Common.{◌≡◌, ℕ, Bool, true, false, not, List, [], ◌∷◌, ◌++◌, map, refl, sym, ◌∙◌, ap, zero, suc, inl, inr, Some, append_assoc, append-nil, lit≤}
use Rattle.std.specs.Prelude.{option_to_list}
use Rattle.grammar.specs.Form.{Form, Matches, Times}
use Rattle.grammar.specs.Grammar.{◌·◌, ◌∣◌, ◌⋯◌, symbol, blanks, nat, term, vterm, sum_of}
use Rattle.grammar.specs.Cases.{expr_cases, vexpr_cases}
use Rattle.term_text.specs.declared.terms.Term.{Term}
use Rattle.term_text.specs.declared.scan.State.{State}
use Rattle.term_text.specs.declared.scan.Part.{Part}
use Rattle.term_text.specs.declared.scan.Place.{Place}
use Rattle.term_text.specs.declared.scan.Place.TheVariants.{Left, Right, Divisor}
use Rattle.term_text.specs.declared.scan.Part.TheVariants.{Number}
use Rattle.term_text.specs.Numbers.{size_of}
use Rattle.term_text.proofs.Digits.{nat_reads}
use Rattle.term_text.specs.Reading.{emitted, final, begun, part_term, term_at, term_of}
use Rattle.term_text.specs.Values.{TermBy, number_term, turned, term_by, vterm_by, first_by, signed_by, further_by, sum_by, expr_by, vexpr_by}
use Rattle.term_text.proofs.Passes.{Reads, reads_append, reads_on, symbol_is, blanks_read, term_of-begun}
use Rattle.term_text.proofs.TermLaws.{ReadsTerm, TermsRead, term_reads, vterm_reads}

-- the terms as they count at a place: behind a relation with their signs turned, and none behind a division
abbrev pub placed : Place → List Term → List Term
placed Left ts = ts
placed (Right relation) ts = map turned ts
placed Divisor ts = []

placed-append : (place : Place) (ts rs : List Term) → placed place (ts ++ rs) ≡ placed place ts ++ placed place rs
placed-append Left ts rs = refl
placed-append (Right relation) [] rs = refl
placed-append (Right relation) (t ∷ ts) rs = ap (λ x. turned t ∷ x) (placed-append (Right relation) ts rs)
placed-append Divisor ts rs = refl

placed-nil : (place : Place) → placed place [] ≡ []
placed-nil Left = refl
placed-nil (Right relation) = refl
placed-nil Divisor = refl

-- a term that was read, at its place
placed_term : (place : Place) (negative : Bool) (part : Part) (value : Bool → Term) → ((n : Bool) → part_term n part ≡ Some (value n)) → ((n : Bool) → value (not n) ≡ turned (value n)) → option_to_list (term_at place negative part) ≡ placed place (value negative ∷ [])
placed_term Left negative part value is turns = ap option_to_list (is negative)
placed_term (Right relation) negative part value is turns = ap option_to_list (is (not negative)) ∙ ap (λ t. t ∷ []) (turns negative)
placed_term Divisor negative part value is turns = refl

-- the pass over the text, with the term that it still holds at the end, gives these terms behind the one that it held before
pub record ReadsSum (s : State) (w : List ℕ) (ts : List Term) : Type 0 where
  pub all : emitted s w ++ option_to_list (term_of (final s w)) ≡ option_to_list (term_of s) ++ placed s.place ts
  pub place : (final s w).place ≡ s.place

-- with the other sign before it a text says the turned term
abbrev pub Turns : (f : Form) → TermBy f → Type 0
Turns f by = (w : List ℕ) (m : Matches f w) (n : Bool) → by (not n) w m ≡ turned (by n w m)

pub term_turns : Turns term term_by
term_turns w (inl (factor, x, e, is_factor, (b, y, f, between, (star, z, g, is_star, (c, variable, h, behind, is_variable))))) n = refl
term_turns w (inr (inl variable)) n = refl
term_turns w (inr (inr number)) n = refl

pub vterm_turns : Turns vterm vterm_by
vterm_turns w (inl (factor, x, e, is_factor, (b, y, f, between, (star, z, g, is_star, (c, variable, h, behind, is_variable))))) n = refl
vterm_turns w (inr variable) n = refl

-- a sign: the term before it ends
plus_reads : (w : List ℕ) → Matches (symbol 43) w → (s : State) → Reads s w (option_to_list (term_of s)) (begun s.place false)
plus_reads w m s = rw (symbol_is 43 w m) (record { terms = append-nil (option_to_list (term_of s)); state = refl })

minus_reads : (w : List ℕ) → Matches (symbol 45) w → (s : State) → Reads s w (option_to_list (term_of s)) (begun s.place true)
minus_reads w m s = rw (symbol_is 45 w m) (record { terms = append-nil (option_to_list (term_of s)); state = refl })

-- one text behind another, of which the second ends no term
pub reads_behind : (s t r : State) (w u v : List ℕ) (ts : List Term) → w ≡ u ++ v → Reads s u ts t → Reads t v [] r → Reads s w ts r
reads_behind s t r w u v ts e first second = rw e (rw (append-nil ts) at (reads_append s t r u v ts [] first second))

-- one term more: the term before it ends, and it is held
record ReadsNext (s : State) (w : List ℕ) (t : Term) : Type 0 where
  after : State
  reads : Reads s w (option_to_list (term_of s)) after
  holds : option_to_list (term_of after) ≡ placed s.place (t ∷ [])
  place : after.place ≡ s.place

-- a term, then a sum
sum_behind : (s : State) (w u v : List ℕ) (t : Term) (ts : List Term) → w ≡ u ++ v → (one : ReadsNext s u t) → ReadsSum one.after v ts → ReadsSum s w (t ∷ ts)
sum_behind s w u v t ts e one rest =
    let x : List Term = option_to_list (term_of s) in
    let a : State = one.after in
    let both : Reads s (u ++ v) (x ++ emitted a v) (final a v) = reads_append s a (final a v) u v x (emitted a v) one.reads (record { terms = refl; state = refl }) in
    let held : option_to_list (term_of a) ++ placed a.place ts ≡ placed s.place (t ∷ ts) = ap (λ y. option_to_list (term_of a) ++ placed y ts) one.place ∙ ap (λ y. y ++ placed s.place ts) one.holds ∙ sym (placed-append s.place (t ∷ []) ts) in
    rw e (record {
      all = ap (λ y. y ++ option_to_list (term_of (final s (u ++ v)))) both.terms ∙ ap (λ y. (x ++ emitted a v) ++ option_to_list (term_of y)) both.state ∙ append_assoc x (emitted a v) (option_to_list (term_of (final a v))) ∙ ap (λ y. x ++ y) (rest.all ∙ held);
      place = ap (λ (y : State). y.place) both.state ∙ rest.place ∙ one.place;
    })

module _ (f : Form) (by : TermBy f) (terms : TermsRead f by) (turns : Turns f by) where
  -- behind a sign
  next_reads : (s : State) (negative : Bool) (w sign x b t : List ℕ) (m : Matches f t) → w ≡ sign ++ x → x ≡ b ++ t → Reads s sign (option_to_list (term_of s)) (begun s.place negative) → Matches blanks b → ReadsNext s w (by negative t m)
  next_reads s negative w sign x b t m e g signed between =
      let one : ReadsTerm t (λ n. by n t m) = terms t m in
      let c : State = begun s.place negative in
      let d : State = record { negative = negative; part = one.part; place = s.place } in
      record {
        after = d;
        reads = reads_behind s c d w sign x (option_to_list (term_of s)) e signed (reads_on c c d x b t [] g (blanks_read b between c) (one.reads s.place negative));
        holds = placed_term s.place negative one.part (λ n. by n t m) one.is (turns t m);
        place = refl;
      }

  signed_reads : (s : State) (w : List ℕ) (m : Matches ((symbol 43 ⋯ f) ∣ (symbol 45 ⋯ f)) w) → ReadsNext s w (signed_by f by w m)
  signed_reads s w (inl (plus, x, e, is_plus, (b, t, g, between, is))) = next_reads s false w plus x b t is e g (plus_reads plus is_plus s) between
  signed_reads s w (inr (minus, x, e, is_minus, (b, t, g, between, is))) = next_reads s true w minus x b t is e g (minus_reads minus is_minus s) between

  -- a sum behind its first term
  further_reads : (n : ℕ) (w : List ℕ) (m : Times (Matches (blanks · ((symbol 43 ⋯ f) ∣ (symbol 45 ⋯ f)))) n w) (s : State) → ReadsSum s w (further_by f by n w m)
  further_reads zero w e s = rw e (record { all = sym (append-nil (option_to_list (term_of s))) ∙ ap (λ x. option_to_list (term_of s) ++ x) (sym (placed-nil s.place)); place = refl })
  further_reads (suc n) w (u, v, e, (b, x, g, between, signed), others) s =
      let one : ReadsNext s x (signed_by f by x signed) = signed_reads s x signed in
      let next : ReadsNext s u (signed_by f by x signed) = record { after = one.after; reads = reads_on s s one.after u b x (option_to_list (term_of s)) g (blanks_read b between s) one.reads; holds = one.holds; place = one.place } in
      sum_behind s w u v (signed_by f by x signed) (further_by f by n v others) e next (further_reads n v others one.after)

  -- the first term of a sum
  first_reads : (place : Place) (w : List ℕ) (m : Matches (f ∣ (symbol 45 ⋯ f)) w) → ReadsNext (begun place false) w (first_by f by w m)
  first_reads place w (inl is) =
      let one : ReadsTerm w (λ n. by n w is) = terms w is in
      record {
        after = record { negative = false; part = one.part; place = place };
        reads = rw (term_of-begun place false) (one.reads place false);
        holds = placed_term place false one.part (λ n. by n w is) one.is (turns w is);
        place = refl;
      }
  first_reads place w (inr (minus, x, e, is_minus, (b, t, g, between, is))) = next_reads (begun place false) true w minus x b t is e g (minus_reads minus is_minus (begun place false)) between

  -- a sum
  pub sum_reads : (place : Place) (w : List ℕ) (m : Matches (sum_of f) w) → ReadsSum (begun place false) w (sum_by f by w m)
  sum_reads place w (u, v, e, first, (n, others)) =
      let one : ReadsNext (begun place false) u (first_by f by u first) = first_reads place u first in
      sum_behind (begun place false) w u v (first_by f by u first) (further_by f by n v others) e one (further_reads n v others one.after)

-- an expression
pub expr_reads : (place : Place) (w : List ℕ) (m : Matches expr_cases w) → ReadsSum (begun place false) w (expr_by w m)
expr_reads place w m = sum_reads term term_by term_reads term_turns place w m

-- NAT alone
abbrev nat_by : TermBy nat
nat_by negative w m = number_term negative (size_of w)

nat_terms : TermsRead nat nat_by
nat_terms w m = record {
  part = Number (size_of w);
  reads = nat_reads w m;
  is = λ negative. refl;
}

nat_turns : Turns nat nat_by
nat_turns w m n = refl

pub zero_is_nat : Matches nat (48 ∷ [])
zero_is_nat = (48 ∷ [], [], refl, (48, lit≤ tt, lit≤ tt, refl), (0, refl))

-- an expression of variables alone
pub vexpr_reads : (place : Place) (w : List ℕ) (m : Matches vexpr_cases w) → ReadsSum (begun place false) w (vexpr_by w m)
vexpr_reads place w (inl zero_alone) = rw (symbol_is 48 w zero_alone) (sum_reads nat nat_by nat_terms nat_turns place (48 ∷ []) (48 ∷ [], [], refl, inl zero_is_nat, (0, refl)))
vexpr_reads place w (inr m) = sum_reads vterm vterm_by vterm_reads vterm_turns place w m
