-- Of a whole script each question of points has one answer.
use Rattle.std.proofs.Common.{◌≡◌, ◌⊎◌, inl, inr, ℕ, List, [], ◌∷◌, ◌++◌, refl, ap, sym, ◌∙◌, subst, arith, codes, false}
use Rattle.std.specs.Prelude.{pos, Option, None, Some, All, decimal, length, slice_index_or, ⊤}
use Rattle.std.specs.List.{AllZip, concat}
use Rattle.std.specs.Str.Lines.{lines}
use Rattle.std.specs.Map.{keys_of}
use Rattle.std.proofs.lemmas.List.Elements.{All-nil, All-cons, All-head, All-tail}
use Rattle.name_table.specs.Table.{without}
use Rattle.name_table.specs.Listing.{spaced}
use Rattle.script_text.specs.declared.command.Command.{Command}
use Rattle.script_text.specs.declared.command.Command.TheVariants as command
use Rattle.script_text.specs.declared.command.Comparison.TheVariants as comparison
use Rattle.script_text.specs.declared.command.Mapping.{Mapping}
use Rattle.script_text.specs.declared.command.Part.{Part}
use Rattle.script_text.specs.declared.command.Rel.{Rel}
use Rattle.soundness.specs.Points.{PointSet, HasNoPoint, IsSetOf}
use Rattle.soundness.specs.Values.{Polyhedron, System, Union, Shape, Automaton, Names}
use Rattle.soundness.specs.TextsExpressions.{FractionText}
use Rattle.soundness.specs.TextsSystems.{ConstraintText, ConstraintsText, PointText}
use Rattle.soundness.specs.Sets.{IsOfConstraints, IsOfGenerators, IsSpace, IsCopy, IsAdded, IsClosure, IsOfTwo, IsExtended, IsRemoved, ComesOf, IsMapped}
use Rattle.soundness.specs.Answers.{as_line, Tells, TellsWhether, TellsHowTheyLie, TellsRelation}
use Rattle.soundness.specs.Unions.{IsOfOne, IsCombined, AreRankings}
use Rattle.soundness.specs.Shapes.{IsOfBounds, IsSmallestShape, IsOfTwoShapes}
use Rattle.soundness.specs.Systems.{IsEmptySystem, IsWithInitial, IsWithTransition, IsStill, IsWithPart}
use Rattle.soundness.specs.Files.{IsRead}
use Rattle.soundness.specs.Commands.{TakesOut, TellsNames, Does}
use Rattle.soundness.specs.Replies.{OpenFile, State, IsRefusal, MayBeRefused, file_begun, with_line, IsPerformed, IsUnrefused, IsReply, IsEndReply, AreReplies}
use Rattle.run_laws.specs.Allowed.{AreSame, AreOneReply}
use Rattle.run_laws.specs.Scripts.{MakesOneOfMany, ShowsOneOfMany, MeanTheSame, AssignTheSame, SayTheSame, SaysOneThing, OnlyShows, AreRefusedAlike, MayShow, AreOneEach, ScriptsHaveOneAnswer, ScriptsHaveOneText}
use Rattle.run_laws.proofs.AllowedAnswers.{answers_are_one}
use Rattle.run_laws.proofs.AllowedSets.{results_are_one, texts_make_one}
use Rattle.run_laws.proofs.AllowedFiles.{files_are_one}
use Rattle.run_laws.proofs.AllowedLines.{only_ok_changes}
use Rattle.run_laws.proofs.SameNames.{AreSameNames, same_names, kept, without_same, same_keys, same_count, AreDone, making, asking, made_of_one, made_of_two, changed_by, asked_of_one, asked_of_two}

-- what both texts say of sets over the same variables is one
one_meaning : {A : Type 0} (Means : ℕ → List ℕ → A → Type 0) (part text : Part) (dim size : ℕ) (a b : A) → MeanTheSame Means part text → dim ≡ size → Means dim part.text a → Means size text.text b → a ≡ b
one_meaning Means part text dim size a b one e f g = one dim a b f (subst (λ (d : ℕ). Means d text.text b) (sym e) g)

one_mapping : (by : Mapping) (var : ℕ) (rel other : Rel) (part text : Part) (p q s t : PointSet) → AssignTheSame rel part other text → AreSame p q → IsMapped by var rel part p s → IsMapped by var other text q t → AreSame s t
one_mapping by var rel other part text p q s t one same a b =
    let e = one p.cons.dim a.expr b.expr a.divisor b.divisor a.text (subst (λ (d : ℕ). FractionText d text.text b.expr b.divisor) (sym same.alike.variables) b.text) in
    texts_make_one.images by var rel part text p q s t same a
    (record {
      below = b.below;
      expr = b.expr;
      divisor = b.divisor;
      positive = b.positive;
      text = b.text;
      set = subst (λ (r : Rel). IsSetOf q.nnc q.cons.dim (ComesOf by r var b.expr (pos b.divisor) q.cons) t) (sym e.0) b.set;
    }) e.1 e.2

-- the commands that have a text
abbrev HasText : Command → Type 0
HasText (command.Cons out nnc n part) = ⊤
HasText (command.Gens out nnc n part) = ⊤
HasText (command.Add p part) = ⊤
HasText (command.Has p part) = ⊤
HasText (command.Relation p part) = ⊤
HasText (command.Map by out p var rel part) = ⊤
HasText (command.Bounds out n part) = ⊤
HasText c = ⊥

module _ (old next : Names) (reply other : List ℕ) (new end : Names) (same : AreSameNames old next) where
  one_removed : (name : List ℕ) → TakesOut name old reply new → TakesOut name next other end → AreDone new end reply other
  one_removed name f g = (kept (without old name) (without next name) new end f.names g.names (without_same old next name same), f.said ∙ sym g.said)

  one_listing : TellsNames old reply new → TellsNames next other end → AreDone new end reply other
  one_listing f g = (
    kept old next new end f.same g.same same,
    f.said
        ∙ (ap (λ (n : ℕ). as_line (codes "names " ++ decimal n ++ spaced (keys_of old))) (same_count old next same)
        ∙ (ap (λ (ks : List (List ℕ)). as_line (codes "names " ++ decimal (length next) ++ spaced ks)) (same_keys old next same) ∙ sym g.said)),
  )

  -- a command without a text
  plain_done : (c : Command) → ¬ (MakesOneOfMany c) → ¬ (ShowsOneOfMany c) → ¬ (HasText c) → Does c old reply new → Does c next other end → AreDone new end reply other
  plain_done command.Nothing m s t f g = asking old next reply other new end same (λ r. r ≡ []) (λ r. r ≡ []) (λ a b. a ∙ sym b) f g
  plain_done (command.Cons out nnc n part) m s t f g = absurd (t tt)
  plain_done (command.Gens out nnc n part) m s t f g = absurd (t tt)
  plain_done (command.Space space out nnc n) m s t f g = making old next reply other new end same Polyhedron out (IsSpace space nnc n) (IsSpace space nnc n) (results_are_one.spaces space nnc n) f g
  plain_done (command.Copy out p) m s t f g = made_of_one old next reply other new end same Polyhedron Polyhedron p out IsCopy IsCopy results_are_one.copies f g
  plain_done (command.Drop name) m s t f g = one_removed name f g
  plain_done (command.Add p part) m s t f g = absurd (t tt)
  plain_done (command.Addgen p part) m s t f g = absurd (m tt)
  plain_done (command.Has p part) m s t f g = absurd (t tt)
  plain_done (command.Size p) m s t f g = absurd (s tt)
  plain_done (command.Print side p) m s t f g = absurd (s tt)
  plain_done command.Names m s t f g = one_listing f g
  plain_done (command.OfTwo op out p q) m s t f g = made_of_two old next reply other new end same Polyhedron Polyhedron p q out (IsOfTwo op) (results_are_one.operators op) f g
  plain_done (command.Closure out p) m s t f g = made_of_one old next reply other new end same Polyhedron Polyhedron p out IsClosure IsClosure results_are_one.closures f g
  plain_done (command.Compare by p q) m s t f g =
      asked_of_two old next reply other new end same Polyhedron p q (TellsHowTheyLie by) (λ x y z w one two. answers_are_one.comparisons by x y z w reply other one two) f g
  plain_done (command.Isempty p) m s t f g =
      asked_of_one old next reply other new end same Polyhedron p (λ x. Tells (HasNoPoint x)) (λ x. Tells (HasNoPoint x)) (λ x y one. answers_are_one.isempty x y reply other one) f g
  plain_done (command.Relation p part) m s t f g = absurd (t tt)
  plain_done (command.Bound extremum p part) m s t f g = absurd (s tt)
  plain_done (command.Map by out p var rel part) m s t f g = absurd (t tt)
  plain_done (command.Extend by out p n) m s t f g = made_of_one old next reply other new end same Polyhedron Polyhedron p out (IsExtended by n) (IsExtended by n) (results_are_one.extensions by n) f g
  plain_done (command.Remove out p vars) m s t f g = made_of_one old next reply other new end same Polyhedron Polyhedron p out (IsRemoved vars) (IsRemoved vars) (results_are_one.removals vars) f g
  plain_done (command.Widen out p q) m s t f g = absurd (m tt)
  plain_done (command.Read out ext) m s t f g = asking old next reply other new end same (λ r. r ≡ []) (λ r. r ≡ []) (λ a b. a ∙ sym b) f g
  plain_done (command.Write p ext) m s t f g = absurd (s tt)
  plain_done (command.System out n locations) m s t f g = making old next reply other new end same System out (IsEmptySystem n locations) (IsEmptySystem n locations) (λ x y a b. tt) f g
  plain_done (command.Init name location p) m s t f g =
      changed_by old next reply other new end same System Polyhedron System name p name (IsWithInitial location) (λ s t. tt) f g
  plain_done (command.Trans name source target r) m s t f g =
      changed_by old next reply other new end same System Polyhedron System name r name (IsWithTransition source target) (λ s t. tt) f g
  plain_done (command.Fixpoint name delay prefix) m s t f g = absurd (m tt)
  plain_done (command.Pset out p) m s t f g = made_of_one old next reply other new end same Polyhedron Union p out IsOfOne IsOfOne (λ p q v w one a b. tt) f g
  plain_done (command.OfTwoPowersets op out x y) m s t f g = made_of_two old next reply other new end same Union Union x y out (IsCombined op) (λ p q x y v w one two a b. tt) f g
  plain_done (command.Member out x i) m s t f g = absurd (m tt)
  plain_done (command.Psize x) m s t f g = absurd (s tt)
  plain_done (command.Covers x y) m s t f g = absurd (s tt)
  plain_done (command.Rank out r) m s t f g = made_of_one old next reply other new end same Polyhedron Polyhedron r out AreRankings AreRankings results_are_one.rankings f g
  plain_done (command.Ranking r) m s t f g = absurd (s tt)
  plain_done (command.ShapeOf out p) m s t f g = made_of_one old next reply other new end same Polyhedron Shape p out IsSmallestShape IsSmallestShape results_are_one.shapes f g
  plain_done (command.Bounds out n part) m s t f g = absurd (t tt)
  plain_done (command.OfTwoShapes op out x y) m s t f g = made_of_two old next reply other new end same Shape Shape x y out (IsOfTwoShapes op) (results_are_one.shape_operators op) f g
  plain_done (command.ShapeContains x y) m s t f g =
      asked_of_two old next reply other new end same Shape x y (TellsHowTheyLie comparison.Contains) (λ x y z w one two. answers_are_one.comparisons comparison.Contains x y z w reply other one two) f g
  plain_done (command.ShapePrint x) m s t f g = absurd (s tt)
  plain_done (command.ShapePoly out x) m s t f g = made_of_one old next reply other new end same Shape Polyhedron x out IsCopy IsCopy results_are_one.copies f g
  plain_done (command.Hybrid out x) m s t f g = made_of_one old next reply other new end same System Automaton x out IsStill IsStill (λ p q v w one a b. tt) f g
  plain_done (command.SetPart part name location p) m s t f g =
      changed_by old next reply other new end same Automaton Polyhedron Automaton name p name (IsWithPart part location) (λ s t. tt) f g
  plain_done (command.Reach name delay prefix) m s t f g = absurd (m tt)

  -- the same command with another text
  one_done : (c d : Command) → ¬ (MakesOneOfMany c) → ¬ (ShowsOneOfMany c) → SayTheSame c d → Does c old reply new → Does d next other end → AreDone new end reply other
  one_done (command.Cons out nnc n part) (command.Cons o k m text) makes shows say f g =
      making old next reply other new end same Polyhedron out (IsOfConstraints nnc n part.text) (IsOfConstraints nnc n text.text)
      (λ s t a b. texts_make_one.constraints nnc n part.text text.text s t a b (say.1 n a.list b.list a.says b.says)) f (subst (λ (e : Command). Does e next other end) (sym say.0) g)
  one_done (command.Gens out nnc n part) (command.Gens o k m text) makes shows say f g =
      making old next reply other new end same Polyhedron out (IsOfGenerators nnc n part.text) (IsOfGenerators nnc n text.text)
      (λ s t a b. texts_make_one.generators nnc n part.text text.text s t a b (say.1 n a.list b.list a.says b.says)) f (subst (λ (e : Command). Does e next other end) (sym say.0) g)
  one_done (command.Add p part) (command.Add x text) makes shows say f g =
      made_of_one old next reply other new end same Polyhedron Polyhedron p p (IsAdded part) (IsAdded text)
      (λ p q s t one a b. texts_make_one.added part text p q s t one a b (one_meaning ConstraintsText part text p.cons.dim q.cons.dim a.list b.list say.1 one.alike.variables a.text b.text)) f
      (subst (λ (n : List ℕ). Does (command.Add n text) next other end) (sym say.0) g)
  one_done (command.Has p part) (command.Has x text) makes shows say f g =
      asked_of_one old next reply other new end same Polyhedron p (TellsWhether part) (TellsWhether text)
      (λ p q one a b. answers_are_one.has part text p q reply other one a b (one_meaning PointText part text p.cons.dim q.cons.dim a.point b.point say.1 one.alike.variables a.text b.text)) f
      (subst (λ (n : List ℕ). Does (command.Has n text) next other end) (sym say.0) g)
  one_done (command.Relation p part) (command.Relation x text) makes shows say f g =
      asked_of_one old next reply other new end same Polyhedron p (TellsRelation part) (TellsRelation text)
      (λ p q one a b. answers_are_one.relations part text p q reply other one a b (one_meaning ConstraintText part text p.cons.dim q.cons.dim a.constraint b.constraint say.1 one.alike.variables a.text b.text)) f
      (subst (λ (n : List ℕ). Does (command.Relation n text) next other end) (sym say.0) g)
  one_done (command.Map by out p var rel part) (command.Map so o x v more text) makes shows say f g =
      let e = say.0 in
      let all : command.Map by out p var more text ≡ command.Map so o x v more text = cc in
      made_of_one old next reply other new end same Polyhedron Polyhedron p out (IsMapped by var rel part) (IsMapped by var more text) (λ p q s t one a b. one_mapping by var rel more part text p q s t say.1 one a b) f (subst (λ (e : Command). Does e next other end) (sym all) g)
  one_done (command.Bounds out n part) (command.Bounds o m text) makes shows say f g =
      making old next reply other new end same Shape out (IsOfBounds n part.text) (IsOfBounds n text.text)
      (λ s t a b. texts_make_one.constraints false n part.text text.text s t a.0 b.0 (say.1 n a.0.list b.0.list a.0.says b.0.says)) f (subst (λ (e : Command). Does e next other end) (sym say.0) g)
  one_done (command.Cons out nnc n part) d makes shows say f g = cc
  one_done (command.Gens out nnc n part) d makes shows say f g = cc
  one_done (command.Add p part) d makes shows say f g = cc
  one_done (command.Has p part) d makes shows say f g = cc
  one_done (command.Relation p part) d makes shows say f g = cc
  one_done (command.Map by out p var rel part) d makes shows say f g = cc
  one_done (command.Bounds out n part) d makes shows say f g = cc
  one_done c d makes shows say f g = plain_done c makes shows (λ h. h) f (subst (λ (e : Command). Does e next other end) (sym say) g)

-- ---- files that are begun
one_begun : (c d : Command) → SayTheSame c d → file_begun c ≡ file_begun d
one_begun (command.Cons out nnc n part) (command.Cons o k m text) say = refl
one_begun (command.Gens out nnc n part) (command.Gens o k m text) say = refl
one_begun (command.Add p part) (command.Add x text) say = refl
one_begun (command.Has p part) (command.Has x text) say = refl
one_begun (command.Relation p part) (command.Relation x text) say = refl
one_begun (command.Map by out p var rel part) (command.Map so o x v more text) say = refl
one_begun (command.Bounds out n part) (command.Bounds o m text) say = refl
one_begun c d say = ap file_begun say

-- ---- commands that only show something
shows_only : (c : Command) (old : Names) (reply : List ℕ) (new : Names) → ShowsOneOfMany c → Does c old reply new → (new ≡ old) × (file_begun c ≡ None)
shows_only (command.Size p) old reply new shows h = (h.is.0, refl)
shows_only (command.Print side p) old reply new shows h = (h.is.0, refl)
shows_only (command.Bound extremum p part) old reply new shows h = (h.is.0, refl)
shows_only (command.Write p ext) old reply new shows h = (h.is.0, refl)
shows_only (command.Psize s) old reply new shows h = (h.is.0, refl)
shows_only (command.Covers s t) old reply new shows h = (h.is.0, refl)
shows_only (command.Ranking r) old reply new shows h = (h.is.0, refl)
shows_only (command.ShapePrint s) old reply new shows h = (h.is.0, refl)
shows_only c old reply new shows h = absurd shows

-- ---- one line
-- the same names, and the same file is open, if any
record AreSameStates (s t : State) : Type 0 where
  names : AreSameNames s.names t.names
  file : s.file ≡ t.file

-- what a line comes to in both
record AreBoth (text reply other : List ℕ) (new end : State) : Type 0 where
  states : AreSameStates new end
  said : AreOneReply reply other ⊎ MayShow text

abbrev closed_with : Names → State
closed_with names = record { names = names; file = None }

same_closed : (old next : Names) (new end : State) → AreSameNames old next → new ≡ closed_with old → end ≡ closed_with next → AreSameStates new end
same_closed old next new end same e f = subst (λ (s : State). AreSameStates s end) (sym e) (subst (λ (t : State). AreSameStates (closed_with old) t) (sym f) (record { names = same; file = refl }))

-- a refusal says something
no_silence : (reply : List ℕ) → IsRefusal reply → reply ≡ [] → ⊥
no_silence reply h e = by h.said
  where
    by : (reply ≡ as_line (codes "fault " ++ h.rest)) ⊎ (reply ≡ as_line (codes "overflow " ++ h.rest)) → ⊥
    by (inl f) = (let first : 0 ≡ 102 = ap (λ (l : List ℕ). slice_index_or l 0 0) (sym e ∙ f) in absurd (omega (arith, first)))
    by (inr f) = (let first : 0 ≡ 111 = ap (λ (l : List ℕ). slice_index_or l 0 0) (sym e ∙ f) in absurd (omega (arith, first)))

-- no file is begun by a command that is answered by what looks like a refusal
begins_none : (c : Command) (old : Names) (reply : List ℕ) (new : Names) → IsRefusal reply → Does c old reply new → file_begun c ≡ None
begins_none (command.Read out ext) old reply new refusal h = absurd (no_silence reply refusal h.1)
begins_none c old reply new refusal h = refl

by_parts : (names : Names) (new : State) → new.names ≡ names → new.file ≡ None → new ≡ closed_with names
by_parts names new e f = ap (λ (n : Names). record { names = n; file = new.file }) e ∙ ap (λ (file : Option OpenFile). record { names = names; file = file }) f

-- a reply that is a refusal leaves the names, and no file is open after it
refusal_unrefused : (old : Names) (file : Option OpenFile) (text reply : List ℕ) (new : State) → IsRefusal reply → MayBeRefused file text → new.names ≡ old → IsUnrefused old file text reply new → new ≡ closed_with old
refusal_unrefused old None text reply new refusal may same h = by_parts old new same (h.file ∙ begins_none h.command old reply new.names refusal h.does)
refusal_unrefused old (Some file) text reply new refusal may same (inl h) = absurd (h.unended may)
refusal_unrefused old (Some file) text reply new refusal may same (inr h) = by_parts old new same h.shut

refusal_keeps : (old : State) (text reply : List ℕ) (new : State) → IsRefusal reply → MayBeRefused old.file text → IsReply old text reply new → new ≡ closed_with old.names
refusal_keeps old text reply new refusal may (inl h) = h.1.1
refusal_keeps old text reply new refusal may (inr h) = refusal_unrefused old.names old.file text reply new refusal may (only_ok_changes.others old text reply new (inr h) (only_ok_changes.refused reply refusal)) h

-- where no file is open
performed_both : (old next : Names) (text reply other : List ℕ) (new end : State) → AreSameNames old next → SaysOneThing text ⊎ OnlyShows text → IsPerformed old text reply new → IsPerformed next text other end → AreBoth text reply other new end
performed_both old next text reply other new end same (inl says) f g =
    let say = says.one f.command g.command f.spelled g.spelled in
    let done = one_done old next reply other new.names end.names same f.command g.command (says.makes f.command f.spelled) (says.shows f.command f.spelled) say f.does g.does in
    record { states = record { names = done.0; file = f.file ∙ (one_begun f.command g.command say ∙ sym g.file) }; said = inl (inr (inr done.1)) }
performed_both old next text reply other new end same (inr shows) f g =
    let a = shows_only f.command old reply new.names (shows f.command f.spelled) f.does in
    let b = shows_only g.command next other end.names (shows g.command g.spelled) g.does in
    record {
      states = record { names = kept old next new.names end.names a.0 b.0 same; file = f.file ∙ (a.1 ∙ sym (g.file ∙ b.1)) };
      said = inr (f.command, f.spelled, shows f.command f.spelled);
    }

-- where one is
unrefused_both : (old next : Names) (file : Option OpenFile) (text reply other : List ℕ) (new end : State) → AreSameNames old next → SaysOneThing text ⊎ OnlyShows text → IsUnrefused old file text reply new → IsUnrefused next file text other end → AreBoth text reply other new end
unrefused_both old next None text reply other new end same line f g = performed_both old next text reply other new end same line f g
unrefused_both old next (Some file) text reply other new end same line (inl f) (inl g) =
    record {
      states = subst (λ (s : State). AreSameStates s end) (sym f.state) (subst (λ (t : State). AreSameStates (record { names = old; file = Some (with_line file text) }) t) (sym g.state) (record { names = same; file = refl }));
      said = inl (inr (inr (f.said ∙ sym g.said)));
    }
unrefused_both old next (Some file) text reply other new end same line (inl f) (inr g) = absurd (f.unended g.ends)
unrefused_both old next (Some file) text reply other new end same line (inr f) (inl g) = absurd (g.unended f.ends)
unrefused_both old next (Some file) text reply other new end same line (inr f) (inr g) =
    let Is = IsRead file.ext (with_line file text).text in
    let done = making old next reply other new.names end.names same Polyhedron file.name Is Is (files_are_one file.ext (with_line file text).text) f.makes g.makes in
    record { states = record { names = done.0; file = f.shut ∙ sym g.shut }; said = inl (inr (inr done.1)) }

reply_both : (old next : State) (text reply other : List ℕ) (new end : State) → AreSameStates old next → SaysOneThing text ⊎ OnlyShows text → AreRefusedAlike reply other → IsReply old text reply new → IsReply next text other end → AreBoth text reply other new end
reply_both old next text reply other new end same line alike (inl f) g =
    let may = subst (λ (file : Option OpenFile). MayBeRefused file text) same.file f.0 in
    record { states = same_closed old.names next.names new end same.names f.1.1 (refusal_keeps next text other end (alike.0 f.1.0) may g); said = inl (inl f.1.0) }
reply_both old next text reply other new end same line alike (inr f) (inl g) =
    let may = subst (λ (file : Option OpenFile). MayBeRefused file text) (sym same.file) g.0 in
    record { states = same_closed old.names next.names new end same.names (refusal_keeps old text reply new (alike.1 g.1.0) may (inr f)) g.1.1; said = inl (inr (inl g.1.0)) }
reply_both old next text reply other new end same line alike (inr f) (inr g) =
    unrefused_both old.names next.names old.file text reply other new end same.names line f (subst (λ (file : Option OpenFile). IsUnrefused next.names file text other end) (sym same.file) g)

-- ---- all lines
end_both : (file : Option OpenFile) (replies others : List (List ℕ)) → IsEndReply file replies → IsEndReply file others → AllZip AreOneReply replies others
end_both None replies others a b = subst (λ (xs : List (List ℕ)). AllZip AreOneReply xs others) (sym a) (subst (λ (ys : List (List ℕ)). AllZip AreOneReply [] ys) (sym b) tt)
end_both (Some file) replies others (reply, a, refusal) (other, b, refused) =
    subst (λ (xs : List (List ℕ)). AllZip AreOneReply xs others) (sym a) (subst (λ (ys : List (List ℕ)). AllZip AreOneReply (reply ∷ []) ys) (sym b) (inl refusal, tt))

abbrev IsClear : List ℕ → Type 0
IsClear text = SaysOneThing text ⊎ OnlyShows text

one_each : (old next : State) (texts replies others : List (List ℕ)) → AreSameStates old next → All IsClear texts → AllZip AreRefusedAlike replies others → AreReplies old texts replies → AreReplies next texts others → AreOneEach texts replies others
one_each old next [] replies others same clear alike a b = end_both old.file replies others a (subst (λ (file : Option OpenFile). IsEndReply file others) (sym same.file) b)
one_each old next (text ∷ texts) [] others same clear alike a b = absurd a
one_each old next (text ∷ texts) (reply ∷ replies) [] same clear alike a b = absurd b
one_each old next (text ∷ texts) (reply ∷ replies) (other ∷ others) same clear alike (new, f, a) (end, g, b) =
    let both = reply_both old next text reply other new end same (All-head IsClear text texts clear) alike.0 f g in
    (both.said, one_each new end texts replies others both.states (All-tail IsClear text texts clear) alike.1 a b)

pub scripts_have_one_answer : ScriptsHaveOneAnswer
scripts_have_one_answer old texts replies others clear alike a b = one_each old old texts replies others (record { names = same_names old.names; file = refl }) clear alike a b

-- ---- a script without a refusal
abbrev IsUnrefusing : List ℕ → Type 0
IsUnrefusing reply = ¬ (IsRefusal reply)

end_none : (file : Option OpenFile) (replies : List (List ℕ)) → All IsUnrefusing replies → IsEndReply file replies → replies ≡ []
end_none None replies answered a = a
end_none (Some file) replies answered (reply, a, refusal) = absurd (All-head IsUnrefusing reply [] (subst (All IsUnrefusing) a answered) refusal)

alike_both : (old next : State) (texts replies others : List (List ℕ)) → All IsUnrefusing replies → All IsUnrefusing others → AreReplies old texts replies → AreReplies next texts others → AllZip AreRefusedAlike replies others
alike_both old next [] replies others answered other_answered a b =
    subst (λ (xs : List (List ℕ)). AllZip AreRefusedAlike xs others) (sym (end_none old.file replies answered a)) (subst (λ (ys : List (List ℕ)). AllZip AreRefusedAlike [] ys) (sym (end_none next.file others other_answered b)) tt)
alike_both old next (text ∷ texts) [] others answered other_answered a b = absurd a
alike_both old next (text ∷ texts) (reply ∷ replies) [] answered other_answered a b = absurd b
alike_both old next (text ∷ texts) (reply ∷ replies) (other ∷ others) answered other_answered (new, f, a) (end, g, b) = (
  (λ r. absurd (All-head IsUnrefusing reply replies answered r), λ r. absurd (All-head IsUnrefusing other others other_answered r)),
  alike_both new end texts replies others (All-tail IsUnrefusing reply replies answered) (All-tail IsUnrefusing other others other_answered) a b,
)

said_same : (reply other : List ℕ) → IsUnrefusing reply → IsUnrefusing other → AreOneReply reply other → reply ≡ other
said_same reply other answered other_answered (inl r) = absurd (answered r)
said_same reply other answered other_answered (inr (inl r)) = absurd (other_answered r)
said_same reply other answered other_answered (inr (inr e)) = e

more_same : (reply other : List ℕ) (replies others : List (List ℕ)) → reply ≡ other → replies ≡ others → reply ∷ replies ≡ other ∷ others
more_same reply other replies others e f = ap (λ (r : List ℕ). r ∷ replies) e ∙ ap (λ (rs : List (List ℕ)). other ∷ rs) f

ends_same : (replies others : List (List ℕ)) → All IsUnrefusing replies → All IsUnrefusing others → AllZip AreOneReply replies others → replies ≡ others
ends_same [] [] answered other_answered each = refl
ends_same [] (other ∷ others) answered other_answered each = absurd each
ends_same (reply ∷ replies) [] answered other_answered each = absurd each
ends_same (reply ∷ replies) (other ∷ others) answered other_answered each =
    more_same reply other replies others (said_same reply other (All-head IsUnrefusing reply replies answered) (All-head IsUnrefusing other others other_answered) each.0)
    (ends_same replies others (All-tail IsUnrefusing reply replies answered) (All-tail IsUnrefusing other others other_answered) each.1)

-- a line that says one thing shows nothing of many
said_once : (text reply other : List ℕ) → SaysOneThing text → IsUnrefusing reply → IsUnrefusing other → AreOneReply reply other ⊎ MayShow text → reply ≡ other
said_once text reply other says answered other_answered (inl one) = said_same reply other answered other_answered one
said_once text reply other says answered other_answered (inr (c, spelled, shows)) = absurd (says.shows c spelled shows)

all_same : (texts replies others : List (List ℕ)) → All SaysOneThing texts → All IsUnrefusing replies → All IsUnrefusing others → AreOneEach texts replies others → replies ≡ others
all_same [] replies others says answered other_answered each = ends_same replies others answered other_answered each
all_same (text ∷ texts) [] others says answered other_answered each = absurd each
all_same (text ∷ texts) (reply ∷ replies) [] says answered other_answered each = absurd each
all_same (text ∷ texts) (reply ∷ replies) (other ∷ others) says answered other_answered each =
    more_same reply other replies others (said_once text reply other (All-head SaysOneThing text texts says) (All-head IsUnrefusing reply replies answered) (All-head IsUnrefusing other others other_answered) each.0)
    (all_same texts replies others (All-tail SaysOneThing text texts says) (All-tail IsUnrefusing reply replies answered) (All-tail IsUnrefusing other others other_answered) each.1)

clear_each : (texts : List (List ℕ)) → All SaysOneThing texts → All IsClear texts
clear_each [] says = All-nil IsClear
clear_each (text ∷ texts) says = All-cons IsClear text texts (inl (All-head SaysOneThing text texts says)) (clear_each texts (All-tail SaysOneThing text texts says))

pub scripts_have_one_text : ScriptsHaveOneText
scripts_have_one_text script written other says a b answered other_answered =
    let alike = alike_both (closed_with []) (closed_with []) (lines script) a.replies b.replies answered other_answered a.are b.are in
    let each = scripts_have_one_answer (closed_with []) (lines script) a.replies b.replies (clear_each (lines script) says) alike a.are b.are in
    a.all ∙ (ap concat (all_same (lines script) a.replies b.replies says answered other_answered each) ∙ sym b.all)
