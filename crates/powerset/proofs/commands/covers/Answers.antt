use Rattle.std.proofs.Common.{◌≡◌, ◌∙◌, ℕ, List, true, ◌++◌, codes, Option, Some, Err, rules, sym, ap, subst}
use Rattle.std.specs.Option.{option_copied}
use Rattle.gens_sys.specs.declared.kind.GenKind.TheVariants.{Point}
use Rattle.expr_text.specs.Printed.{generator_text}
use Rattle.powerset.specs.Powersets.{FinitePowerset}
use Rattle.powerset.specs.declared.covering.Cover.TheVariants.{Yes, No}
use Rattle.line_values.specs.Meaning.{on_two, line, answer_line}
use Rattle.powerset.specs.Commands.{covers}
use Rattle.line_values.specs.Performed.{IsPerformed}
use Rattle.line_values.proofs.PerformedLemmas.{leaves, answered}
use Rattle.powerset.proofs.CommandLemmas.{compared, told}
use Rattle.powerset.proofs.commands.covers.Goals as goal

pub no_with_point-requires : goal.no_with_point-requires
no_with_point-requires g c =
    let found = rw c.in-Ok-No.field-0-is at c.in-Ok-No.ensures.answer in
    record { narrow = rw c.dim-dim.ensures.value c.dim-dim.ensures.kept.narrow; point = rw c.dim-dim.ensures.value found.point; primitive = found.primitive }

pub returns-in-Ok-Yes : goal.returns-in-Ok-Yes
returns-in-Ok-Yes g c =
    let s : FinitePowerset = c.in-Some.s.now in
    let t : FinitePowerset = c.in-Some-t.t.now in
    let topologies : s.topology ≡ t.topology = search rules in
    let dims : s.dim ≡ t.dim = sym c.dim-dim.ensures.value ∙ c.if-dim.false ∙ c.dim.ensures.value in
    rw c.in-Some.is (rw c.in-Some-t.is (answered (covers s t) (λ (text : List ℕ). text ≡ answer_line true) c.answer.result (λ text said. told s t Yes text topologies dims (rw c.in-Ok-Yes.field-0-is at c.in-Ok-Yes.ensures.answer) said) c.answer.ensures))

pub returns-in_ok-no_with_point-in-Ok-No : goal.returns-in_ok-no_with_point-in-Ok-No
returns-in_ok-no_with_point-in-Ok-No g c =
    let s : FinitePowerset = c.in-Some.s.now in
    let t : FinitePowerset = c.in-Some-t.t.now in
    let topologies : s.topology ≡ t.topology = search rules in
    let dims : s.dim ≡ t.dim = sym c.dim-dim.ensures.value ∙ c.if-dim.false ∙ c.dim.ensures.value in
    let said = c.in_ok-no_with_point-in-Ok-No.ensures ∙ ap (λ (n : ℕ). line (codes "no " ++ generator_text n (c.in-Ok-No.point, Point))) c.dim-dim.ensures.value in
    rw c.in-Some.is (rw c.in-Some-t.is (told s t (No c.in-Ok-No.point) c.in_ok-no_with_point-in-Ok-No.field-0 topologies dims (rw c.in-Ok-No.field-0-is at c.in-Ok-No.ensures.answer) said))

pub returns-in-Err : goal.returns-in-Err
returns-in-Err g c =
    let s : FinitePowerset = c.in-Some.s.now in
    let t : FinitePowerset = c.in-Some-t.t.now in
    let topologies : s.topology ≡ t.topology = search rules in
    let dims : s.dim ≡ t.dim = sym c.dim-dim.ensures.value ∙ c.if-dim.false ∙ c.dim.ensures.value in
    let one : option_copied c.args.s ≡ Some s = ap option_copied c.in-Some.is in
    let other : option_copied c.args.t ≡ Some t = ap option_copied c.in-Some-t.is in
    subst (λ (o : Option FinitePowerset). IsPerformed (on_two o (option_copied c.args.t) covers) (Err c.from.result)) (sym one)
    (subst (λ (o : Option FinitePowerset). IsPerformed (on_two (Some s) o covers) (Err c.from.result)) (sym other)
    (rw c.from.ensures (leaves (covers s t) c.in-Err.cause (compared s t topologies dims) c.in-Err.ensures.overflow)))
