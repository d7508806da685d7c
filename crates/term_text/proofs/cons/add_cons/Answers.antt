use Rattle.std.proofs.Common.{◌≡◌, ℕ, false, eqb, ⊎_elim, ap, sym, ◌∙◌}
use Rattle.std.specs.Prelude.{◌==◌}
use Rattle.std.proofs.lemmas.Bool.Decides.{eqb_tells}
use Rattle.term_text.specs.Reading.{first_mark}
use Rattle.term_text.proofs.Stored.{read_false}
use Rattle.term_text.proofs.cons.add_cons.Goals as goal

other_byte : (a b : ℕ) → (a ≡ b → ⊥) → eqb a b ≡ false
other_byte a b differs = ⊎_elim (λ same. absurd (differs same.1)) (λ other. other.0) (eqb_tells a b)

pub returns-then-first-eq102-clause-value : goal.returns-then-first-eq102-clause-value
returns-then-first-eq102-clause-value c =
    read_false c.args.system.now.dim c.args.text.now c.args.system.now.list c.add_never.new.system.list c.add_never.result c.requires
    (other_byte (first_mark c.args.text.now) 116 (λ e. c.if-first-eq116.false (c.first_mark-first.ensures ∙ e)))
    (ap (λ x. x == 102) (sym c.first_mark-first.ensures ∙ c.if-first-eq102.true)) c.add_never.ensures.value
