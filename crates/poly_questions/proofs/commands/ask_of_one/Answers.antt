use Rattle.std.proofs.Common.{Bool, Ok, ap, subst}
use Rattle.std.specs.Option.{option_copied}
use Rattle.line_values.specs.Meaning.{line}
use Rattle.line_values.specs.Performed.{IsPerformed}
use Rattle.poly_questions.specs.Questions.{size_text, side_text}
use Rattle.poly_questions.specs.Optima.{bound}
use Rattle.poly_questions.specs.Meanings.{said_of_one}
use Rattle.poly_questions.proofs.LatticeLemmas.{empty_told}
use Rattle.line_values.proofs.FoundOperands.{on_one_as, says_lines}
use Rattle.poly_questions.proofs.commands.ask_of_one.Goals as goal

pub has-requires : goal.has-requires
has-requires c = rw c.in-Has.is at c.requires

pub relation-requires : goal.relation-requires
relation-requires c = rw c.in-Relation.is at c.requires

pub bound-requires : goal.bound-requires
bound-requires c = rw c.in-Bound.is at c.requires

pub returns-in-Has : goal.returns-in-Has
returns-in-Has c = on_one_as said_of_one c.args.about _ (option_copied c.args.p) c.in-Some.p.now c.has.result (ap option_copied c.in-Some.is) c.in-Has.is c.has.ensures

pub returns-in_ok-size-in-Size : goal.returns-in_ok-size-in-Size
returns-in_ok-size-in-Size c = on_one_as said_of_one c.args.about _ (option_copied c.args.p) c.in-Some.p.now (Ok c.in_ok-size-in-Size.field-0) (ap option_copied c.in-Some.is) c.in-Size.is (says_lines (line (size_text c.in-Some.p.now)) c.in_ok-size-in-Size.field-0 c.in_ok-size-in-Size.ensures)

pub returns-in_ok-print-in-Print : goal.returns-in_ok-print-in-Print
returns-in_ok-print-in-Print c = on_one_as said_of_one c.args.about _ (option_copied c.args.p) c.in-Some.p.now (Ok c.in_ok-print-in-Print.field-0) (ap option_copied c.in-Some.is) c.in-Print.is (says_lines (line (side_text c.in-Print.side c.in-Some.p.now)) c.in_ok-print-in-Print.field-0 c.in_ok-print-in-Print.ensures)

pub returns-in-Isempty : goal.returns-in-Isempty
returns-in-Isempty c = on_one_as said_of_one c.args.about _ (option_copied c.args.p) c.in-Some.p.now c.answer.result (ap option_copied c.in-Some.is) c.in-Isempty.is (empty_told c.in-Some.p.now c.is_empty.result c.answer.result c.is_empty.ensures.empty c.answer.ensures)

pub returns-in-Relation : goal.returns-in-Relation
returns-in-Relation c = on_one_as said_of_one c.args.about _ (option_copied c.args.p) c.in-Some.p.now c.relation.result (ap option_copied c.in-Some.is) c.in-Relation.is c.relation.ensures

pub returns-in-Write : goal.returns-in-Write
returns-in-Write c = on_one_as said_of_one c.args.about _ (option_copied c.args.p) c.in-Some.p.now c.write.result (ap option_copied c.in-Some.is) c.in-Write.is c.write.ensures

pub returns-in-Bound : goal.returns-in-Bound
returns-in-Bound c =
    on_one_as said_of_one c.args.about _ (option_copied c.args.p) c.in-Some.p.now c.bound.result (ap option_copied c.in-Some.is) c.in-Bound.is
    (subst (λ (b : Bool). IsPerformed (bound b c.in-Bound.part c.in-Some.p.now) c.bound.result) c.is_max.ensures c.bound.ensures)
