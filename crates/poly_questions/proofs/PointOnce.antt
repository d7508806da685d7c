-- The question whether a point is in a polyhedron has one reply.
use Rattle.std.proofs.Common.{◌≡◌, ℕ, List, Ok, Err, Result, Bool, ap, sym, ◌∙◌, subst}
use Rattle.std.specs.Prelude.{ℤ}
use Rattle.row_core.specs.declared.errors.Overflow.{Overflow}
use Rattle.row_core.specs.declared.errors.PairOver.{PairOver}
use Rattle.cons_sys.specs.Constraints.{Constraints}
use Rattle.cons_sys.specs.Testing.{Answers, HasOneAnswer as TestHasOneAnswer}
use Rattle.expr_text.specs.OneAnswer.{PointHasOneAnswer}
use Rattle.poly_pair.specs.Polyhedra.{Polyhedron}
use Rattle.script_text.specs.declared.command.Part.{Part}
use Rattle.line_values.specs.Meaning.{answer_line}
use Rattle.poly_questions.specs.Questions.{has, SaysPoint, Tells, ShowsPair}
use Rattle.poly_questions.specs.OneAnswer.{SaysOnce}

abbrev ok_of : Bool → Result Bool PairOver
ok_of b = Ok b

abbrev err_of : PairOver → Result Bool PairOver
err_of over = Err over

-- the two points are the same
same_point : (dim : ℕ) (part : Part) (P Q : List ℤ → Type 0) → PointHasOneAnswer → (a : SaysPoint dim part P) (b : SaysPoint dim part Q) → a.point ≡ b.point
same_point dim part P Q law a b = (law dim part.text).one_value a.point b.point a.read b.read

same_answer : (cs : Constraints) (u v : List ℤ) (r s : Result Bool PairOver) → TestHasOneAnswer → u ≡ v → Answers cs.list u r → Answers cs.list v s → r ≡ s
same_answer cs u v r s law e a b = law cs.list v r s (subst (λ (w : List ℤ). Answers cs.list w r) e a) b

told_once : (cs : Constraints) (k l : List ℕ) (u v : List ℤ) → TestHasOneAnswer → u ≡ v → Tells cs k u → Tells cs l v → k ≡ l
told_once cs k l u v law e a b =
    let same : ok_of a.holds ≡ ok_of b.holds = same_answer cs u v (Ok a.holds) (Ok b.holds) law e a.tested b.tested in
    let holds : a.holds ≡ b.holds = cc in
    a.said ∙ (ap answer_line holds ∙ sym b.said)

shown_once : (cs : Constraints) (o p : Overflow) (u v : List ℤ) → TestHasOneAnswer → u ≡ v → ShowsPair cs o u → ShowsPair cs p v → o ≡ p
shown_once cs o p u v law e a b =
    let same : err_of a.pair ≡ err_of b.pair = same_answer cs u v (Err a.pair) (Err b.pair) law e a.leaves b.leaves in
    let pairs : a.pair ≡ b.pair = cc in
    a.shown ∙ rw (pairs, e) (sym b.shown)

told_or_shown : (cs : Constraints) (k : List ℕ) (o : Overflow) (u v : List ℤ) → TestHasOneAnswer → u ≡ v → Tells cs k u → ShowsPair cs o v → ⊥
told_or_shown cs k o u v law e a b =
    let same : ok_of a.holds ≡ err_of b.pair = same_answer cs u v (Ok a.holds) (Err b.pair) law e a.tested b.leaves in
    cc

pub has_once : (part : Part) (p : Polyhedron) → PointHasOneAnswer → TestHasOneAnswer → SaysOnce (has part p)
has_once part p P T = record {
  one_text = λ k l a b. told_once p.cons k l a.point b.point T (same_point p.cons.dim part (Tells p.cons k) (Tells p.cons l) P a b) a.holds b.holds;
  one_overflow = λ o q a b. shown_once p.cons o q a.point b.point T (same_point p.cons.dim part (ShowsPair p.cons o) (ShowsPair p.cons q) P a b) a.holds b.holds;
  not_both = λ k o a b. told_or_shown p.cons k o a.point b.point T (same_point p.cons.dim part (Tells p.cons k) (ShowsPair p.cons o) P a b) a.holds b.holds;
}
