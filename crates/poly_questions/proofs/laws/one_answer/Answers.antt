use Rattle.poly_questions.proofs.QuestionsOnce.{about_once, comparison_once}
use Rattle.poly_questions.proofs.laws.one_answer.Goals as goal

pub returns-clause-about : goal.returns-clause-about
returns-clause-about c = about_once (record {
  point = c.one_answer.ensures.point;
  constraint = c.one_answer.ensures.con;
  expression = c.one_answer.ensures.expr;
  test = c.one_answer-2.ensures;
  pairs = c.one_answer-3.ensures;
  relation = c.one_relation.ensures;
  bound = c.one_sup.ensures;
})

pub returns-clause-compared : goal.returns-clause-compared
returns-clause-compared c = comparison_once (record {
  point = c.one_answer.ensures.point;
  constraint = c.one_answer.ensures.con;
  expression = c.one_answer.ensures.expr;
  test = c.one_answer-2.ensures;
  pairs = c.one_answer-3.ensures;
  relation = c.one_relation.ensures;
  bound = c.one_sup.ensures;
})
