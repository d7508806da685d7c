-- Only a line that is answered by `ok` changes what names stand for, and a line has one answer.
use Rattle.std.proofs.Common.{◌≡◌, ◌≢◌, ◌⊎◌, inl, inr, ℕ, ◌<◌, List, [], ◌∷◌, ◌++◌, refl, ap, sym, ◌∙◌, subst, arith, codes}
use Rattle.std.specs.Prelude.{◌↔◌, ℤ, Option, None, Some, slice_index_or}
use Rattle.std.specs.List.{AllZip}
use Rattle.std.proofs.lemmas.List.Elements.{All-head, All-tail}
use Rattle.cons_sys.specs.Constraints.{In}
use Rattle.name_table.specs.Table.{entry_of}
use Rattle.script_text.specs.declared.command.Command.{Command}
use Rattle.script_text.specs.declared.command.Command.TheVariants as command
use Rattle.script_text.specs.declared.command.Comparison.{Comparison}
use Rattle.script_text.specs.declared.command.Part.{Part}
use Rattle.soundness.specs.Points.{PointSet, HasNoPoint}
use Rattle.soundness.specs.Values.{Polyhedron, Names}
use Rattle.soundness.specs.TextsSystems.{PointText}
use Rattle.soundness.specs.Answers.{as_line, ok, TellsWhether}
use Rattle.soundness.specs.Commands.{Does}
use Rattle.soundness.specs.TextsLines.{Spells}
use Rattle.soundness.specs.Replies.{OpenFile, State, IsRefusal, file_begun, IsPerformed, IsUnrefused, IsReply, IsEndReply, AreReplies}
use Rattle.run_laws.specs.Allowed.{AreSame, OnlyOkChanges, AskTheSame, LinesHaveOneAnswer, AreOneReply, QuestionsHaveOneAnswer}
use Rattle.run_laws.proofs.AllowedAnswers.{one_telling, one_comparison}

module _ (old : Names) (reply : List ℕ) (new : Names) (other : reply ≢ ok) where
  unchanged : (c : Command) → Does c old reply new → new ≡ old
  unchanged command.Nothing h = h.0
  unchanged (command.Cons out nnc n part) h = absurd (other h.said)
  unchanged (command.Gens out nnc n part) h = absurd (other h.said)
  unchanged (command.Space space out nnc n) h = absurd (other h.said)
  unchanged (command.Copy out p) h = absurd (other h.is.said)
  unchanged (command.Drop name) h = absurd (other h.said)
  unchanged (command.Add p part) h = absurd (other h.is.said)
  unchanged (command.Addgen p part) h = absurd (other h.is.said)
  unchanged (command.Has p part) h = h.is.0
  unchanged (command.Size p) h = h.is.0
  unchanged (command.Print side p) h = h.is.0
  unchanged command.Names h = h.same
  unchanged (command.OfTwo op out p q) h = absurd (other h.is.said)
  unchanged (command.Closure out p) h = absurd (other h.is.said)
  unchanged (command.Compare by p q) h = h.is.0
  unchanged (command.Isempty p) h = h.is.0
  unchanged (command.Relation p part) h = h.is.0
  unchanged (command.Bound extremum p part) h = h.is.0
  unchanged (command.Map by out p v rel part) h = absurd (other h.is.said)
  unchanged (command.Extend by out p n) h = absurd (other h.is.said)
  unchanged (command.Remove out p vars) h = absurd (other h.is.said)
  unchanged (command.Widen out p q) h = absurd (other h.is.said)
  unchanged (command.Read out ext) h = h.0
  unchanged (command.Write p ext) h = h.is.0
  unchanged (command.System out n locations) h = absurd (other h.said)
  unchanged (command.Init s location p) h = absurd (other h.is.is.said)
  unchanged (command.Trans s source target r) h = absurd (other h.is.is.said)
  unchanged (command.Fixpoint s delay prefix) h = absurd (other h.is.said)
  unchanged (command.Pset out p) h = absurd (other h.is.said)
  unchanged (command.OfTwoPowersets op out s t) h = absurd (other h.is.said)
  unchanged (command.Member out s i) h = absurd (other h.is.said)
  unchanged (command.Psize s) h = h.is.0
  unchanged (command.Covers s t) h = h.is.0
  unchanged (command.Rank out r) h = absurd (other h.is.said)
  unchanged (command.Ranking r) h = h.is.0
  unchanged (command.ShapeOf out p) h = absurd (other h.is.said)
  unchanged (command.Bounds out n part) h = absurd (other h.said)
  unchanged (command.OfTwoShapes op out s t) h = absurd (other h.is.said)
  unchanged (command.ShapeContains s t) h = h.is.0
  unchanged (command.ShapePrint s) h = h.is.0
  unchanged (command.ShapePoly out s) h = absurd (other h.is.said)
  unchanged (command.Hybrid out s) h = absurd (other h.is.said)
  unchanged (command.SetPart part name location p) h = absurd (other h.is.is.said)
  unchanged (command.Reach automaton delay prefix) h = absurd (other h.is.said)

unrefused : (old : Names) (file : Option OpenFile) (text reply : List ℕ) (new : State) → reply ≢ ok → IsUnrefused old file text reply new → new.names ≡ old
unrefused old None text reply new other h = unchanged old reply new.names other h.command h.does
unrefused old (Some file) text reply new other (inl h) = ap (λ (s : State). s.names) h.state
unrefused old (Some file) text reply new other (inr h) = absurd (other h.makes.said)

only_ok : (old : State) (text reply : List ℕ) (new : State) → IsReply old text reply new → reply ≢ ok → new.names ≡ old.names
only_ok old text reply new (inl h) other = ap (λ (s : State). s.names) h.1.1
only_ok old text reply new (inr h) other = unrefused old.names old.file text reply new other h

-- its first byte is another
no_ok : (reply : List ℕ) → IsRefusal reply → reply ≢ ok
no_ok reply h e = by h.said
  where
    apart : (m n : ℕ) → n < m → m ≡ n → ⊥
    apart m n less e = omega (arith, less, e)

    not_apart : (m n : ℕ) → m < n → m ≡ n → ⊥
    not_apart m n less e = omega (arith, less, e)

    by : (reply ≡ as_line (codes "fault " ++ h.rest)) ⊎ (reply ≡ as_line (codes "overflow " ++ h.rest)) → ⊥
    by (inl f) = (let two : as_line (codes "fault " ++ h.rest) ≡ ok = sym f ∙ e in not_apart 102 111 (omega arith) (ap (λ (l : List ℕ). slice_index_or l 0 0) two))
    by (inr f) = (let two : as_line (codes "overflow " ++ h.rest) ≡ ok = sym f ∙ e in apart 118 107 (omega arith) (ap (λ (l : List ℕ). slice_index_or l 1 0) two))

pub only_ok_changes : OnlyOkChanges
only_ok_changes = record { others = only_ok; refused = no_ok }

-- ---- one answer
one_operand : (names : Names) (name : List ℕ) (p q : PointSet) → entry_of names name ≡ Some (Polyhedron p) → entry_of names name ≡ Some (Polyhedron q) → p ≡ q
one_operand names name p q e f = (let same : Some (Polyhedron p) ≡ Some (Polyhedron q) = sym e ∙ f in cc)

same_of : (p q : PointSet) → p ≡ q → AreSame p q
same_of p q e = subst (λ (x : PointSet). AreSame p x) e (record { alike = record { kind = refl; variables = refl }; points = λ v is. (λ i. i, λ i. i) })

module _ (names : Names) (reply other : List ℕ) (new next : Names) where
  one_emptiness : (p : List ℕ) → Does (command.Isempty p) names reply new → Does (command.Isempty p) names other next → reply ≡ other
  one_emptiness p a b =
      let e = one_operand names p a.operand b.operand a.stands b.stands in
      one_telling (HasNoPoint a.operand) (HasNoPoint b.operand) reply other (subst (λ (x : PointSet). HasNoPoint a.operand ↔ HasNoPoint x) e (λ h. h, λ h. h)) a.is.1 b.is.1

  one_comparing : (by : Comparison) (p q : List ℕ) → Does (command.Compare by p q) names reply new → Does (command.Compare by p q) names other next → reply ≡ other
  one_comparing by p q a b =
      let e = same_of a.first b.first (one_operand names p a.first b.first a.first_stands b.first_stands) in
      let f = same_of a.second b.second (one_operand names q a.second b.second a.second_stands b.second_stands) in
      one_comparison by a.first a.second b.first b.second reply other e f a.is.1 b.is.1

  one_membership : (p : List ℕ) (part text : Part) → ((dim : ℕ) (v w : List ℤ) → PointText dim part.text v → PointText dim text.text w → v ≡ w) → Does (command.Has p part) names reply new → Does (command.Has p text) names other next → reply ≡ other
  one_membership p part text one a b =
      let e = one_operand names p a.operand b.operand a.stands b.stands in
      let t = a.is.1 in
      let u = subst (λ (x : PointSet). TellsWhether text x other) (sym e) b.is.1 in
      let same = one a.operand.cons.dim t.point u.point t.text u.text in
      one_telling (In a.operand.cons t.point) (In a.operand.cons u.point) reply other (subst (λ (v : List ℤ). In a.operand.cons t.point ↔ In a.operand.cons v) same (λ h. h, λ h. h)) t.tells u.tells

  one_answer : (c d : Command) → AskTheSame c d → Does c names reply new → Does d names other next → reply ≡ other
  one_answer (command.Isempty p) (command.Isempty x) same a b = one_emptiness p a (subst (λ (n : List ℕ). Does (command.Isempty n) names other next) (sym same) b)
  one_answer (command.Compare by p q) (command.Compare so x y) same a b =
      one_comparing by p q a
      (subst (λ (c : Comparison). Does (command.Compare c p q) names other next) (sym same.0)
      (subst (λ (n : List ℕ). Does (command.Compare so n q) names other next) (sym same.1)
      (subst (λ (n : List ℕ). Does (command.Compare so x n) names other next) (sym same.2) b)))
  one_answer (command.Has p part) (command.Has x text) same a b = one_membership p part text same.1 a (subst (λ (n : List ℕ). Does (command.Has n text) names other next) (sym same.0) b)
  one_answer c d same a b = absurd same

done : (old : State) (text reply : List ℕ) (new : State) → old.file ≡ None → ¬ (IsRefusal reply) → IsReply old text reply new → IsPerformed old.names text reply new
done old text reply new shut unrefused (inl h) = absurd (unrefused h.1.0)
done old text reply new shut unrefused (inr h) = subst (λ (file : Option OpenFile). IsUnrefused old.names file text reply new) shut h

pub lines_have_one_answer : LinesHaveOneAnswer
lines_have_one_answer old text reply other new next shut one a b answered other_answered =
    let f = done old text reply new shut answered a in
    let g = done old text other next shut other_answered b in
    one_answer old.names reply other new.names next.names f.command g.command (one f.command g.command f.spelled g.spelled) f.does g.does

-- ---- questions
asks_no_file : (c : Command) → AskTheSame c c → file_begun c ≡ None
asks_no_file (command.Isempty p) same = refl
asks_no_file (command.Compare by p q) same = refl
asks_no_file (command.Has p part) same = refl
asks_no_file c same = absurd same

asks_only : (c : Command) (old : Names) (reply : List ℕ) (new : Names) → AskTheSame c c → Does c old reply new → new ≡ old
asks_only (command.Isempty p) old reply new same h = h.is.0
asks_only (command.Compare by p q) old reply new same h = h.is.0
asks_only (command.Has p part) old reply new same h = h.is.0
asks_only c old reply new same h = absurd same

abbrev AsksOne : List ℕ → Type 0
AsksOne text = (c d : Command) → Spells text c → Spells text d → AskTheSame c d

abbrev with_names : Names → State
with_names names = record { names = names; file = None }

performed : (old : State) (text reply : List ℕ) (new : State) → old.file ≡ None → IsUnrefused old.names old.file text reply new → IsPerformed old.names text reply new
performed old text reply new shut h = subst (λ (file : Option OpenFile). IsUnrefused old.names file text reply new) shut h

-- a question leaves the names, and no file is open after it
stays : (old : State) (text reply : List ℕ) (new : State) → old.file ≡ None → AsksOne text → IsReply old text reply new → new ≡ with_names old.names
stays old text reply new shut one (inl h) = h.1.1
stays old text reply new shut one (inr h) =
    let p = performed old text reply new shut h in
    let same = one p.command p.command p.spelled p.spelled in
    ap (λ (names : Names). record { names = names; file = new.file }) (asks_only p.command old.names reply new.names same p.does)
    ∙ ap (λ (file : Option OpenFile). record { names = old.names; file = file }) (p.file ∙ asks_no_file p.command same)

one_reply : (old : State) (text reply other : List ℕ) (new next : State) → old.file ≡ None → AsksOne text → IsReply old text reply new → IsReply old text other next → AreOneReply reply other
one_reply old text reply other new next shut one (inl h) b = inl h.1.0
one_reply old text reply other new next shut one (inr h) (inl k) = inr (inl k.1.0)
one_reply old text reply other new next shut one (inr h) (inr k) =
    let f = performed old text reply new shut h in
    let g = performed old text other next shut k in
    inr (inr (one_answer old.names reply other new.names next.names f.command g.command (one f.command g.command f.spelled g.spelled) f.does g.does))

no_end : (old : State) (replies : List (List ℕ)) → old.file ≡ None → IsEndReply old.file replies → replies ≡ []
no_end old replies shut h = subst (λ (file : Option OpenFile). IsEndReply file replies) shut h

pub questions_have_one_answer : QuestionsHaveOneAnswer
questions_have_one_answer old [] replies others shut each a b =
    subst (λ (xs : List (List ℕ)). AllZip AreOneReply xs others) (sym (no_end old replies shut a))
    (subst (λ (ys : List (List ℕ)). AllZip AreOneReply [] ys) (sym (no_end old others shut b)) tt)
questions_have_one_answer old (text ∷ texts) [] others shut each a b = absurd a
questions_have_one_answer old (text ∷ texts) (reply ∷ replies) [] shut each a b = absurd b
questions_have_one_answer old (text ∷ texts) (reply ∷ replies) (other ∷ others) shut each (new, x, xs) (next, y, ys) =
    let one = All-head AsksOne text texts each in (
      one_reply old text reply other new next shut one x y,
      questions_have_one_answer (with_names old.names) texts replies others refl (All-tail AsksOne text texts each)
          (subst (λ (s : State). AreReplies s texts replies) (stays old text reply new shut one x) xs)
          (subst (λ (s : State). AreReplies s texts others) (stays old text other next shut one y) ys),
    )
