use Rattle.std.specs.Prelude.{◌≡◌, ◌++◌, ℕ, List, OnOk}
use Rattle.std.proofs.Common.{ap, sym, ◌∙◌, subst}
use Rattle.gens_sys.specs.Generators.{Generator, generator_at}
use Rattle.cdd_text.specs.Written.{line_of, row_words, point_words}
use Rattle.cdd_text.proofs.ReadBackLaws.{whole_words, divided_words}
use Rattle.cdd_text.proofs.write.push_generator.Goals as goal

pub returns-then-has_divisor : goal.returns-then-has_divisor
returns-then-has_divisor c =
    let g : Generator = generator_at c.args.gens.now.list c.args.i in
    subst (λ (ws : List (List ℕ)). OnOk c.push_point.result (c.push_point.new.text ≡ c.args.text.now ++ line_of ws)) (ap point_words c.row-row.ensures.value ∙ divided_words g (sym c.has_divisor.ensures ∙ c.if-has_divisor.true)) c.push_point.ensures

pub returns-else-has_divisor : goal.returns-else-has_divisor
returns-else-has_divisor c =
    let g : Generator = generator_at c.args.gens.now.list c.args.i in
    subst (λ (ws : List (List ℕ)). OnOk c.push_row.result (c.push_row.new.text ≡ c.args.text.now ++ line_of ws)) (ap row_words c.row-row.ensures.value ∙ whole_words c.args.gens.now.dim g c.row-row.ensures.generator (sym c.has_divisor.ensures ∙ c.if-has_divisor.false)) c.push_row.ensures
