-- A question that converts nothing has one answer.
use Rattle.std.proofs.Common.{Bool, sym, ◌∙◌}
use Rattle.cons_sys.specs.Testing.{HasOneAnswer as TestHasOneAnswer}
use Rattle.expr_text.specs.OneAnswer.{ExprHasOneAnswer, ConHasOneAnswer, PointHasOneAnswer}
use Rattle.poly_pair.specs.Polyhedra.{Polyhedron}
use Rattle.lattice_ops.specs.Questions.{HasOneAnswer as PairsHaveOneAnswer}
use Rattle.optimum.specs.Laws.{HasOneRelation, HasOneSup}
use Rattle.script_text.specs.declared.command.Comparison.TheVariants as by
use Rattle.command_tasks.specs.declared.on_polyhedra.About.TheVariants as about
use Rattle.line_values.specs.Meaning.{line}
use Rattle.line_values.specs.Operands.{is_max}
use Rattle.poly_questions.specs.Questions.{size_text, side_text}
use Rattle.poly_questions.specs.Files.{write}
use Rattle.poly_questions.specs.OneAnswer.{SaysOnce, HasOneAnswer, HasOneComparison}
use Rattle.poly_questions.proofs.SaysOnce.{says_once}
use Rattle.poly_questions.proofs.PointOnce.{has_once}
use Rattle.poly_questions.proofs.LatticeOnce.{contains_once, equal_once, isempty_once}
use Rattle.poly_questions.proofs.OptimaOnce.{relation_once, bound_once}

-- the laws that are cited: a text says one thing, and each call has one answer
pub record OneOfEach : Type 0 where
  pub point : PointHasOneAnswer
  pub constraint : ConHasOneAnswer
  pub expression : ExprHasOneAnswer
  pub test : TestHasOneAnswer
  pub pairs : PairsHaveOneAnswer
  pub relation : HasOneRelation
  pub bound : HasOneSup

write_once : (ext : Bool) (p : Polyhedron) → SaysOnce (write ext p)
write_once ext p = record { one_text = λ k l a b. a ∙ sym b; one_overflow = λ o q a b. absurd a; not_both = λ k o a b. b }

pub about_once : OneOfEach → HasOneAnswer
about_once laws (about.Has part) p = has_once part p laws.point laws.test
about_once laws about.Size p = says_once (line (size_text p))
about_once laws (about.Print side) p = says_once (line (side_text side p))
about_once laws about.Isempty p = isempty_once p
about_once laws (about.Relation part) p = relation_once part p laws.constraint laws.relation
about_once laws (about.Bound extremum part) p = bound_once (is_max extremum) part p laws.expression laws.bound
about_once laws (about.Write form) p = write_once form p

pub comparison_once : OneOfEach → HasOneComparison
comparison_once laws by.Contains p q is = contains_once p q laws.pairs
comparison_once laws by.Equal p q is = equal_once p q laws.pairs
comparison_once laws by.Disjoint p q is = absurd is
