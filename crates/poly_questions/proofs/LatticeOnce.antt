-- A question how polyhedra lie has one reply.
use Rattle.std.proofs.Common.{◌≡◌, ℕ, List, Ok, Err, Result, Bool, true, false, IsTrue, ◌↔◌, refl, ap, sym, ◌∙◌, inl, inr}
use Rattle.row_core.specs.declared.errors.Overflow.{Overflow}
use Rattle.row_core.specs.declared.errors.PairOver.{PairOver}
use Rattle.poly_pair.specs.Polyhedra.{Polyhedron, HasNoPoint, IsIncluded, HaveSamePoints}
use Rattle.poly_pair.specs.declared.topology.Topology.{Topology}
use Rattle.poly_pair.specs.declared.topology.Topology.TheVariants.{Closed, Nnc}
use Rattle.lattice_ops.specs.Questions.{Answers, AnswersBoth, AnswersSame, AnswersEqual, HasOneAnswer}
use Rattle.line_values.specs.Meaning.{answer_line, IsTold}
use Rattle.poly_questions.specs.Lattice.{IsTested, contains, equal, isempty}
use Rattle.line_values.specs.Pairs.{ShowsRows, shown_on}
use Rattle.poly_questions.specs.OneAnswer.{SaysOnce}

same_bool : (b c : Bool) (P : Type 0) → IsTrue b ↔ P → IsTrue c ↔ P → b ≡ c
same_bool true true P h k = refl
same_bool false false P h k = refl
same_bool true false P h k = sym (k.1 (h.0 refl))
same_bool false true P h k = h.1 (k.0 refl)

-- the statement decides what is said
told_once : (Statement : Type 0) (k l : List ℕ) → IsTold Statement k → IsTold Statement l → k ≡ l
told_once Statement k l a b = a.said ∙ (ap answer_line (same_bool a.holds b.holds Statement a.true_of b.true_of) ∙ sym b.said)

abbrev ok_of : Bool → Result Bool PairOver
ok_of b = Ok b

abbrev err_of : PairOver → Result Bool PairOver
err_of over = Err over

-- no two answers are right
abbrev HasOne : (Result Bool PairOver → Type 0) → Type 0
HasOne Answer = (r s : Result Bool PairOver) → Answer r → Answer s → r ≡ s

shown_once : (Answer : Result Bool PairOver → Type 0) (p q : Polyhedron) (o u : Overflow) → HasOne Answer → ShowsRows Answer p q o → ShowsRows Answer p q u → o ≡ u
shown_once Answer p q o u one a b =
    let same : err_of a.pair ≡ err_of b.pair = one (Err a.pair) (Err b.pair) a.leaves b.leaves in
    let pairs : a.pair ≡ b.pair = cc in
    a.shown ∙ ap (λ (pair : PairOver). shown_on pair.turned p q pair) pairs ∙ sym b.shown

told_or_shown : (Answer : Result Bool PairOver → Type 0) (Statement : Type 0) (p q : Polyhedron) (k : List ℕ) (o : Overflow) → HasOne Answer → IsTested Answer Statement k → ShowsRows Answer p q o → ⊥
told_or_shown Answer Statement p q k o one a b =
    let same : ok_of a.told.holds ≡ err_of b.pair = one (Ok a.told.holds) (Err b.pair) a.tested b.leaves in
    cc

pub contains_once : (p q : Polyhedron) → HasOneAnswer → SaysOnce (contains p q)
contains_once p q law = record {
  one_text = λ k l a b. told_once (IsIncluded q p) k l a.told b.told;
  one_overflow = λ o u a b. shown_once (Answers p.cons.list q.gens.list false) p q o u (law p.cons.list q.gens.list false) a b;
  not_both = λ k o a b. told_or_shown (Answers p.cons.list q.gens.list false) (IsIncluded q p) p q k o (law p.cons.list q.gens.list false) a b;
}

-- ---- equal
module _ (law : HasOneAnswer) (p q : Polyhedron) where
  first : HasOne (Answers p.cons.list q.gens.list false)
  first = law p.cons.list q.gens.list false

  second : HasOne (Answers q.cons.list p.gens.list true)
  second = law q.cons.list p.gens.list true

  both_once : HasOne (AnswersBoth p q)
  both_once (Ok true) (Ok true) a b = refl
  both_once (Ok true) (Ok false) a (inl b) = first (Ok true) (Ok false) a.0 b
  both_once (Ok true) (Ok false) a (inr b) = second (Ok true) (Ok false) a.1 b.1
  both_once (Ok true) (Err o) a (inl b) = first (Ok true) (Err o) a.0 b
  both_once (Ok true) (Err o) a (inr b) = second (Ok true) (Err o) a.1 b.1
  both_once (Ok false) (Ok true) (inl a) b = first (Ok false) (Ok true) a b.0
  both_once (Ok false) (Ok true) (inr a) b = second (Ok false) (Ok true) a.1 b.1
  both_once (Ok false) (Ok false) a b = refl
  both_once (Ok false) (Err o) (inl a) (inl b) = first (Ok false) (Err o) a b
  both_once (Ok false) (Err o) (inl a) (inr b) = absurd (let no : ok_of false ≡ ok_of true = first (Ok false) (Ok true) a b.0 in cc)
  both_once (Ok false) (Err o) (inr a) (inl b) = absurd (let no : ok_of true ≡ err_of o = first (Ok true) (Err o) a.0 b in cc)
  both_once (Ok false) (Err o) (inr a) (inr b) = second (Ok false) (Err o) a.1 b.1
  both_once (Err o) (Ok true) (inl a) b = first (Err o) (Ok true) a b.0
  both_once (Err o) (Ok true) (inr a) b = second (Err o) (Ok true) a.1 b.1
  both_once (Err o) (Ok false) (inl a) (inl b) = first (Err o) (Ok false) a b
  both_once (Err o) (Ok false) (inl a) (inr b) = absurd (let no : err_of o ≡ ok_of true = first (Err o) (Ok true) a b.0 in cc)
  both_once (Err o) (Ok false) (inr a) (inl b) = absurd (let no : ok_of true ≡ ok_of false = first (Ok true) (Ok false) a.0 b in cc)
  both_once (Err o) (Ok false) (inr a) (inr b) = second (Err o) (Ok false) a.1 b.1
  both_once (Err o) (Err u) (inl a) (inl b) = first (Err o) (Err u) a b
  both_once (Err o) (Err u) (inl a) (inr b) = absurd (let no : err_of o ≡ ok_of true = first (Err o) (Ok true) a b.0 in cc)
  both_once (Err o) (Err u) (inr a) (inl b) = absurd (let no : ok_of true ≡ err_of u = first (Ok true) (Err u) a.0 b in cc)
  both_once (Err o) (Err u) (inr a) (inr b) = second (Err o) (Err u) a.1 b.1

  same_once : HasOne (AnswersSame p q)
  same_once (Ok b) (Ok c) h k = ap ok_of (same_bool b c (p.cons.list ≡ q.cons.list) h k)
  same_once (Ok b) (Err o) h k = absurd k
  same_once (Err o) s h k = absurd h

  by_topology : (t : Topology) → HasOne (AnswersEqual t p q)
  by_topology Closed = same_once
  by_topology Nnc = both_once

pub equal_once : (p q : Polyhedron) → HasOneAnswer → SaysOnce (equal p q)
equal_once p q law = record {
  one_text = λ k l a b. told_once (HaveSamePoints p q) k l a.told b.told;
  one_overflow = λ o u a b. shown_once (AnswersEqual p.topology p q) p q o u (by_topology law p q p.topology) a b;
  not_both = λ k o a b. told_or_shown (AnswersEqual p.topology p q) (HaveSamePoints p q) p q k o (by_topology law p q p.topology) a b;
}

-- ---- isempty
pub isempty_once : (p : Polyhedron) → SaysOnce (isempty p)
isempty_once p = record {
  one_text = λ k l a b. told_once (HasNoPoint p) k l a b;
  one_overflow = λ o u a b. absurd a;
  not_both = λ k o a b. b;
}
