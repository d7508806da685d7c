use Rattle.std.proofs.Common.{◌≡◌, ℕ, ◌+◌, ◌<◌, Bool, true, false, List, length, get_or, drop, if◌then◌else◌, ap, sym, ◌∙◌, arith}
use Rattle.std.proofs.lemmas.List.{drop_more, drop_all}
use Rattle.term_text.specs.Reading.{is_blank, first_mark}
use Rattle.term_text.proofs.cons.first_mark.Goals as goal

-- the byte here, where it is a blank or not
here : (text : List ℕ) (i : ℕ) (blank : Bool) → i < length text → blank ≡ is_blank (get_or text i 0) → first_mark (drop i text) ≡ (if blank then first_mark (drop (i + 1) text) else get_or text i 0)
here text i blank h is = ap first_mark (drop_more text i 0 h) ∙ ap (λ (t : Bool). if t then first_mark (drop (i + 1) text) else get_or text i 0) (sym is)

pub returns-then-not-is_blank : goal.returns-then-not-is_blank
returns-then-not-is_blank c = sym (here c.args.text.now c.loop-byte.byte-index false c.loop-byte-test.true (sym c.if-not-is_blank.true ∙ c.is_blank.ensures)) ∙ c.loop-byte.invariant

pub loop-byte-preserved : goal.loop-byte-preserved
loop-byte-preserved c = sym (here c.args.text.now c.loop-byte.byte-index true c.loop-byte-test.true (sym c.if-not-is_blank.false ∙ c.is_blank.ensures)) ∙ c.loop-byte.invariant

pub returns : goal.returns
returns c = sym (sym c.loop-byte.invariant ∙ ap first_mark (drop_all c.loop-byte.byte-index c.args.text.now (omega arith)))
