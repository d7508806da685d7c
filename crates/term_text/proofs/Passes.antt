-- A pass over a text: what its parts give.
use Rattle.std.proofs.Common.{◌≡◌, ℕ, List, [], ◌∷◌, ◌++◌, refl, sym, ◌∙◌, ap, append_assoc, zero, suc, inl, inr, None, Bool, arith}
use Rattle.grammar.specs.Form.{Matches, Times}
use Rattle.grammar.specs.Grammar.{symbol, blank, blanks}
use Rattle.term_text.specs.declared.terms.Term.{Term}
use Rattle.term_text.specs.declared.scan.State.{State}
use Rattle.term_text.specs.declared.scan.Place.{Place}
use Rattle.term_text.specs.declared.scan.Place.TheVariants.{Left, Right, Divisor}
use Rattle.term_text.specs.Reading.{after, ended, emitted, final, begun, term_of}

-- from state s the text ends these terms and leads to state t
pub record Reads (s : State) (w : List ℕ) (ts : List Term) (t : State) : Type 0 where
  pub terms : emitted s w ≡ ts
  pub state : final s w ≡ t

pub emitted-append : (s : State) (u v : List ℕ) → emitted s (u ++ v) ≡ emitted s u ++ emitted (final s u) v
emitted-append s [] v = refl
emitted-append s (b ∷ u) v = ap (λ ts. ended s b ++ ts) (emitted-append (after s b) u v) ∙ sym (append_assoc (ended s b) (emitted (after s b) u) (emitted (final (after s b) u) v))

pub final-append : (s : State) (u v : List ℕ) → final s (u ++ v) ≡ final (final s u) v
final-append s [] v = refl
final-append s (b ∷ u) v = final-append (after s b) u v

-- one text behind the other
pub reads_append : (s t r : State) (u v : List ℕ) (ts rs : List Term) → Reads s u ts t → Reads t v rs r → Reads s (u ++ v) (ts ++ rs) r
reads_append s t r u v ts rs first second = record {
  terms = emitted-append s u v ∙ ap (λ x. x ++ emitted (final s u) v) first.terms ∙ ap (λ x. ts ++ emitted x v) first.state ∙ ap (λ x. ts ++ x) second.terms;
  state = final-append s u v ∙ ap (λ x. final x v) first.state ∙ second.state;
}

-- one text behind the other, of which the first ends no term
pub reads_on : (s t r : State) (w u v : List ℕ) (rs : List Term) → w ≡ u ++ v → Reads s u [] t → Reads t v rs r → Reads s w rs r
reads_on s t r w u v rs e first second = let both = reads_append s t r u v [] rs first second in rw e both

-- a text of one byte
pub symbol_is : (c : ℕ) (w : List ℕ) → Matches (symbol c) w → w ≡ c ∷ []
symbol_is c w (b, low, high, e) = let same : b ≡ c = omega arith in e ∙ ap (λ x. x ∷ []) same

-- blanks change nothing
blank_reads : (w : List ℕ) → Matches blank w → (s : State) → Reads s w [] s
blank_reads w (inl space) s = rw (symbol_is 32 w space) (record { terms = refl; state = refl })
blank_reads w (inr tab) s = rw (symbol_is 9 w tab) (record { terms = refl; state = refl })

times_blank_reads : (n : ℕ) (w : List ℕ) → Times (Matches blank) n w → (s : State) → Reads s w [] s
times_blank_reads zero w e s = rw e (record { terms = refl; state = refl })
times_blank_reads (suc n) w (u, v, e, blank, others) s = reads_on s s s w u v [] e (blank_reads u blank s) (times_blank_reads n v others s)

pub blanks_read : (w : List ℕ) → Matches blanks w → (s : State) → Reads s w [] s
blanks_read w (n, times) s = times_blank_reads n w times s

-- before its first byte no term was read
pub term_of-begun : (place : Place) (negative : Bool) → term_of (begun place negative) ≡ None
term_of-begun Left negative = refl
term_of-begun (Right relation) negative = refl
term_of-begun Divisor negative = refl
