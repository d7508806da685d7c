use Rattle.std.proofs.Common.{◌≡◌, ℕ, false, not, eqb, List, [], ◌∷◌, sym, ◌∙◌, ap}
use Rattle.std.specs.List.{list_any, take_while}
use Rattle.std.proofs.lemmas.List.{append-nil}
use Rattle.std.proofs.lemmas.Bool.{or_parts}
use Rattle.line_forms.specs.Words.{is_before_comment}
use Rattle.line_forms.proofs.WordLemmas.{Each, take_while-append}
use Rattle.line_forms.proofs.words.before_comment.Goals as goal

each_before : (w : List ℕ) → list_any (λ b. eqb b 35) w ≡ false → Each is_before_comment w
each_before [] e = tt
each_before (b ∷ w) e = let p = or_parts (eqb b 35) (list_any (λ c. eqb c 35) w) e in (ap not p.0, each_before w p.1)

-- a text with no comment
no_comment : (w : List ℕ) → list_any (λ b. eqb b 35) w ≡ false → take_while is_before_comment w ≡ w
no_comment w e = ap (take_while is_before_comment) (sym (append-nil w)) ∙ take_while-append is_before_comment w [] (each_before w e) tt

pub returns-else-contains : goal.returns-else-contains
returns-else-contains c = sym (no_comment c.args.text.now (sym c.contains.ensures.value ∙ c.if-contains.false))
