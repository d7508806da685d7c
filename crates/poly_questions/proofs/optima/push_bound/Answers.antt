use Rattle.std.proofs.Common.{◌≡◌, List, ℕ, ◌++◌, append_assoc, ap, codes, rules, ◌∙◌}
use Rattle.std.specs.Fmt.{signed_decimal}
use Rattle.std.proofs.lemmas.Result.{on_ok_weaker, err_from_is_err_and}
use Rattle.gens_sys.specs.Generators.{generator_at}
use Rattle.expr_text.specs.Printed.{generator_text}
use Rattle.poly_questions.specs.Optima.{attained_text}
use Rattle.poly_questions.proofs.optima.push_bound.Goals as goal

said : (text numerator slash denominator attained shown one two three : List ℕ) → one ≡ text ++ numerator ++ slash ++ denominator → two ≡ one ++ attained → three ≡ two ++ shown → three ≡ text ++ (numerator ++ slash ++ denominator ++ attained ++ shown)
said text numerator slash denominator attained shown one two three e f h = h ∙ ap (λ (t : List ℕ). t ++ shown) (f ∙ ap (λ (t : List ℕ). t ++ attained) e) ∙ simp append_assoc

pub returns-in_err-push_fraction-in-At : goal.returns-in_err-push_fraction-in-At
returns-in_err-push_fraction-in-At c = rw (err_from_is_err_and c.from_residual.result c.from_residual.ensures.1).1 tt

pub returns-in_err-push-in-At : goal.returns-in_err-push-in-At
returns-in_err-push-in-At c = rw (err_from_is_err_and c.from_residual-in_err-push-in-At.result c.from_residual-in_err-push-in-At.ensures.1).1 tt

pub returns-in_ok-push-in-At : goal.returns-in_ok-push-in-At
returns-in_ok-push-in-At c =
    let a = c.in-At in
    let gs = c.args.gens.now in
    let read : c.push_fraction.new.text ≡ c.args.text.now ++ signed_decimal a.num ++ codes "/" ++ signed_decimal a.den = search rules in
    rw a.is
    (on_ok_weaker c.push_generator.result
    (said c.args.text.now (signed_decimal a.num) (codes "/") (signed_decimal a.den) (attained_text a.attained) (generator_text gs.dim (generator_at gs.list a.index)) c.push_fraction.new.text c.push-in-At.new.self c.push_generator.new.text read (c.in_ok-push-in-At.ensures ∙ ap (λ (w : List ℕ). c.push_fraction.new.text ++ w) c.attained_word.ensures))
    c.push_generator.ensures)
