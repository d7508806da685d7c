use Rattle.std.proofs.Common.{List, ap, ◌∙◌}
use Rattle.std.specs.Prelude.{ℤ}
use Rattle.gens_sys.specs.Generators.{Generators}
use Rattle.optimum.specs.Showing.{shown_values}
use Rattle.job_texts.proofs.SampleLaws.{sample_told, maximum_leaves}
use Rattle.job_texts.proofs.samples.line_of_sample.Goals as goal

pub returns-in_ok-sample_line-in-Ok : goal.returns-in_ok-sample_line-in-Ok
returns-in_ok-sample_line-in-Ok c = sample_told c.args.n c.args.made.now c.in-Ok.maximum c.in_ok-sample_line-in-Ok.field-0 c.requires c.in-Ok.ensures.answer c.in-Ok.ensures.holds c.in_ok-sample_line-in-Ok.ensures

pub returns-in_ok-shown-in-Err : goal.returns-in_ok-shown-in-Err
returns-in_ok-shown-in-Err c =
    maximum_leaves c.args.n c.args.made.now c.in-Err.pair c.in_ok-shown-in-Err.field-0 c.requires c.in-Err.ensures.answer
    (c.in_ok-shown-in-Err.ensures ∙ ap (λ (gs : Generators). shown_values c.in_ok-row-in-Err.row gs c.in-Err.pair) c.gens.ensures.value ∙ ap (λ (row : List ℤ). shown_values row c.args.made.now.gens c.in-Err.pair) c.in_ok-row-in-Err.ensures)
