-- One term: what the pass over it gives is what the grammar's cases say.
use Rattle.std.proofs.Common.{◌≡◌, ℕ, ◌-◌, ◌^◌, ◌≤◌, Bool, List, [], ◌∷◌, ◌++◌, refl, ◌∙◌, ap, suc, inl, inr, Some, arith, min}
use Rattle.grammar.specs.Form.{Form, Matches, Times}
use Rattle.grammar.specs.Grammar.{◌⋯◌, symbol, digit, nat, var, term, vterm}
use Rattle.term_text.specs.declared.terms.Term.{Term}
use Rattle.term_text.specs.declared.scan.State.{State}
use Rattle.term_text.specs.declared.scan.Part.{Part}
use Rattle.term_text.specs.declared.scan.Part.TheVariants.{Nothing, Number, Letter}
use Rattle.term_text.specs.declared.scan.Place.{Place}
use Rattle.term_text.specs.Numbers.{number_after, size_of, index_of}
use Rattle.term_text.specs.Reading.{with_letter, begun, part_term}
use Rattle.term_text.specs.Values.{TermBy, variable_term, product_by, term_by, vterm_by}
use Rattle.term_text.proofs.Passes.{Reads, reads_on, symbol_is, blanks_read}
use Rattle.term_text.proofs.Digits.{index-min, letter_with_digits, digits_read, upper_reads, nat_reads}

-- the pass over the text reads this term and ends none
pub record ReadsTerm (w : List ℕ) (value : Bool → Term) : Type 0 where
  pub part : Part
  pub reads : (place : Place) (negative : Bool) → Reads (begun place negative) w [] (record { negative = negative; part = part; place = place })
  pub is : (negative : Bool) → part_term negative part ≡ Some (value negative)

-- a variable with a factor
abbrev letter_part : ℕ → List ℕ → Part
letter_part f [] = Nothing
letter_part f (b ∷ w) = Letter f (b - 65) (min (number_after 0 w) (2 ^ 32))

part_term-letter : (negative : Bool) (f b : ℕ) (w : List ℕ) → part_term negative (letter_part f (b ∷ w)) ≡ Some (variable_term negative f (index_of (b ∷ w)))
part_term-letter negative f b w = ap (λ i. Some (variable_term negative f i)) (index-min (number_after 0 w) (b - 65))

-- VAR, behind its factor
record ReadsVariable (w : List ℕ) : Type 0 where
  reads : (s : State) (f : ℕ) → ((p : ℕ) → with_letter s.part p ≡ Letter f p 0) → Reads s w [] (record s { part = letter_part f w })
  is : (negative : Bool) (f : ℕ) → part_term negative (letter_part f w) ≡ Some (variable_term negative f (index_of w))

letter_reads : (b : ℕ) → 65 ≤ b → b ≤ 90 → (s : State) (f : ℕ) → ((p : ℕ) → with_letter s.part p ≡ Letter f p 0) → Reads s (b ∷ []) [] (record s { part = Letter f (b - 65) 0 })
letter_reads b low high s f first = rw (← first (b - 65)) (upper_reads s b low high)

variable_reads : (w : List ℕ) → Matches var w → ReadsVariable w
variable_reads w (inl (b, low, high, e)) = rw e (record {
  reads = letter_reads b low high;
  is = λ negative f. part_term-letter negative f b [];
})
variable_reads w (inr (u, v, e, (b, low, high, is), (x, y, f, (c, above, below, one), (n, others)))) =
    let whole : w ≡ (b ∷ []) ++ v = e ∙ ap (λ t. t ++ v) is in
    let digits : Times (Matches digit) (suc n) v = (x, y, f, (c, omega arith, below, one), others) in
    rw whole (record {
      reads = λ s k first. reads_on s (record s { part = Letter k (b - 65) 0 }) (record s { part = letter_part k (b ∷ v) }) (b ∷ v) (b ∷ []) v [] refl (letter_reads b low high s k first) (rw (← letter_with_digits k (b - 65) 0 v) (digits_read (suc n) v digits (record s { part = Letter k (b - 65) 0 })));
      is = λ negative k. part_term-letter negative k b v;
    })

-- the byte *
star_reads : (w : List ℕ) → Matches (symbol 42) w → (s : State) → Reads s w [] s
star_reads w m s = rw (symbol_is 42 w m) (record { terms = refl; state = refl })

-- NAT * VAR
product_reads : (w : List ℕ) (m : Matches (nat ⋯ symbol 42 ⋯ var) w) → ReadsTerm w (λ n. product_by n w m)
product_reads w (factor, x, e, is_factor, (b, y, f, between, (star, z, g, is_star, (c, variable, h, behind, is_variable)))) =
    let size : ℕ = size_of factor in
    let var : ReadsVariable variable = variable_reads variable is_variable in
    record {
      part = letter_part size variable;
      reads = λ place negative.
          let s : State = begun place negative in
          let t : State = record { negative = negative; part = Number size; place = place } in
          let r : State = record { negative = negative; part = letter_part size variable; place = place } in
          reads_on s t r w factor x [] e (nat_reads factor is_factor place negative) (reads_on t t r x b y [] f (blanks_read b between t) (reads_on t t r y star z [] g (star_reads star is_star t) (reads_on t t r z c variable [] h (blanks_read c behind t) (var.reads t size (λ p. refl)))));
      is = λ negative. var.is negative size;
    }

-- VAR alone
alone_reads : (w : List ℕ) → Matches var w → ReadsTerm w (λ n. variable_term n 1 (index_of w))
alone_reads w m =
    let var : ReadsVariable w = variable_reads w m in
    record {
      part = letter_part 1 w;
      reads = λ place negative. var.reads (begun place negative) 1 (λ p. refl);
      is = λ negative. var.is negative 1;
    }

-- the pass over each text of the form reads its term
abbrev pub TermsRead : (f : Form) → TermBy f → Type 0
TermsRead f by = (w : List ℕ) (m : Matches f w) → ReadsTerm w (λ n. by n w m)

pub term_reads : TermsRead term term_by
term_reads w (inl product) = product_reads w product
term_reads w (inr (inl variable)) = alone_reads w variable
term_reads w (inr (inr number)) = record {
  part = Number (size_of w);
  reads = nat_reads w number;
  is = λ negative. refl;
}

pub vterm_reads : TermsRead vterm vterm_by
vterm_reads w (inl product) = product_reads w product
vterm_reads w (inr variable) = alone_reads w variable
