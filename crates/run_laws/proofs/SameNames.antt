-- Names that stand for the same, and what a command makes of them.
use Rattle.std.proofs.Common.{◌≡◌, ℕ, List, [], ◌∷◌, refl, ap, sym, ◌∙◌, subst, Bool, true, false, cond}
use Rattle.std.specs.Prelude.{suc, length, Option, Some, ⊤}
use Rattle.std.specs.List.{AllZip}
use Rattle.std.specs.Map.{keys_of}
use Rattle.std.specs.Str.{bytes_eq}
use Rattle.name_table.specs.Table.{entry_of, put, without}
use Rattle.soundness.specs.Values.{Value, Polyhedron, System, Union, Shape, Automaton, Names}
use Rattle.soundness.specs.Commands.{Act, OfOne, OfTwo, Makes, Asks}
use Rattle.run_laws.specs.Allowed.{AreSame}

-- both are of one kind, and polyhedra and shapes have the same points
abbrev pub AreSameValues : Value → Value → Type 0
AreSameValues (Polyhedron p) (Polyhedron q) = AreSame p q
AreSameValues (Shape p) (Shape q) = AreSame p q
AreSameValues (System s) (System t) = ⊤
AreSameValues (Union s) (Union t) = ⊤
AreSameValues (Automaton h) (Automaton k) = ⊤
AreSameValues v w = ⊥

abbrev pub AreSameUnder : List ℕ × Value → List ℕ × Value → Type 0
AreSameUnder e f = (e.0 ≡ f.0) × AreSameValues e.1 f.1

-- the same names in the same order, and under each the same
abbrev pub AreSameNames : Names → Names → Type 0
AreSameNames old next = AllZip AreSameUnder old next

same_value : (v : Value) → AreSameValues v v
same_value (Polyhedron p) = record { alike = record { kind = refl; variables = refl }; points = λ v is. (λ i. i, λ i. i) }
same_value (Shape p) = record { alike = record { kind = refl; variables = refl }; points = λ v is. (λ i. i, λ i. i) }
same_value (System s) = tt
same_value (Union s) = tt
same_value (Automaton h) = tt

pub same_names : (names : Names) → AreSameNames names names
same_names [] = tt
same_names (e ∷ names) = ((refl, same_value e.1), same_names names)

pub kept : (old next new end : Names) → new ≡ old → end ≡ next → AreSameNames old next → AreSameNames new end
kept old next new end e f same = subst (λ (n : Names). AreSameNames n end) (sym e) (subst (λ (m : Names). AreSameNames old m) (sym f) same)

-- ---- what stands under a name
one_value : (v w : Value) → Some v ≡ Some w → v ≡ w
one_value v w h = cc

found_at : (b : Bool) (x y v w : Value) (o u : Option Value) → AreSameValues x y → (o ≡ Some v → u ≡ Some w → AreSameValues v w) → cond b (Some x) o ≡ Some v → cond b (Some y) u ≡ Some w → AreSameValues v w
found_at true x y v w o u same rest f g = subst (λ (z : Value). AreSameValues z w) (one_value x v f) (subst (λ (z : Value). AreSameValues x z) (one_value y w g) same)
found_at false x y v w o u same rest f g = rest f g

pub found_same : (old next : Names) (name : List ℕ) (v w : Value) → AreSameNames old next → entry_of old name ≡ Some v → entry_of next name ≡ Some w → AreSameValues v w
found_same [] next name v w same f g = cc
found_same (e ∷ old) [] name v w same f g = absurd same
found_same (e ∷ old) (h ∷ next) name v w same f g =
    found_at (bytes_eq name e.0) e.1 h.1 v w (entry_of old name) (entry_of next name) same.0.1 (found_same old next name v w same.1) f
    (subst (λ (n : List ℕ). cond (bytes_eq name n) (Some h.1) (entry_of next name) ≡ Some w) (sym same.0.0) g)

-- ---- a name that is put, and one that is taken out
put_at : (b : Bool) (e h : List ℕ × Value) (old next more rest : Names) (v w : Value) → AreSameUnder e h → AreSameNames old next → AreSameNames more rest → AreSameValues v w → AreSameNames (cond b ((e.0, v) ∷ old) (e ∷ more)) (cond b ((h.0, w) ∷ next) (h ∷ rest))
put_at true e h old next more rest v w under same later new = ((under.0, new), same)
put_at false e h old next more rest v w under same later new = (under, later)

pub put_same : (old next : Names) (name : List ℕ) (v w : Value) → AreSameValues v w → AreSameNames old next → AreSameNames (put old name v) (put next name w)
put_same [] [] name v w new same = ((refl, new), tt)
put_same [] (h ∷ next) name v w new same = absurd same
put_same (e ∷ old) [] name v w new same = absurd same
put_same (e ∷ old) (h ∷ next) name v w new same =
    subst (λ (n : List ℕ). AreSameNames (put (e ∷ old) name v) (cond (bytes_eq name n) ((h.0, w) ∷ next) (h ∷ put next name w))) same.0.0
    (put_at (bytes_eq name e.0) e h old next (put old name v) (put next name w) v w same.0 same.1 (put_same old next name v w new same.1) new)

without_at : (b : Bool) (e h : List ℕ × Value) (old next more rest : Names) → AreSameUnder e h → AreSameNames old next → AreSameNames more rest → AreSameNames (cond b old (e ∷ more)) (cond b next (h ∷ rest))
without_at true e h old next more rest under same later = same
without_at false e h old next more rest under same later = (under, later)

pub without_same : (old next : Names) (name : List ℕ) → AreSameNames old next → AreSameNames (without old name) (without next name)
without_same [] [] name same = tt
without_same [] (h ∷ next) name same = absurd same
without_same (e ∷ old) [] name same = absurd same
without_same (e ∷ old) (h ∷ next) name same =
    subst (λ (n : List ℕ). AreSameNames (without (e ∷ old) name) (cond (bytes_eq name n) next (h ∷ without next name))) same.0.0
    (without_at (bytes_eq name e.0) e h old next (without old name) (without next name) same.0 same.1 (without_same old next name same.1))

-- ---- all names
pub same_keys : (old next : Names) → AreSameNames old next → keys_of old ≡ keys_of next
same_keys [] [] same = refl
same_keys [] (h ∷ next) same = absurd same
same_keys (e ∷ old) [] same = absurd same
same_keys (e ∷ old) (h ∷ next) same = ap (λ (k : List ℕ). k ∷ keys_of old) same.0.0 ∙ ap (λ (ks : List (List ℕ)). h.0 ∷ ks) (same_keys old next same.1)

pub same_count : (old next : Names) → AreSameNames old next → length old ≡ length next
same_count [] [] same = refl
same_count [] (h ∷ next) same = absurd same
same_count (e ∷ old) [] same = absurd same
same_count (e ∷ old) (h ∷ next) same = ap (λ (n : ℕ). suc n) (same_count old next same.1)

-- ---- what is done with the same
-- the names after it stand for the same, and the replies are one
abbrev pub AreDone : Names → Names → List ℕ → List ℕ → Type 0
AreDone new end reply other = AreSameNames new end × (reply ≡ other)

module _ (old next : Names) (reply other : List ℕ) (new end : Names) (same : AreSameNames old next) where
  pub making : {A : Type 0} (kind : A → Value) (out : List ℕ) (Is Was : A → Type 0) → ((a b : A) → Is a → Was b → AreSameValues (kind a) (kind b)) → Makes kind out Is old reply new → Makes kind out Was next other end → AreDone new end reply other
  making kind out Is Was one f g = (kept (put old out (kind f.made)) (put next out (kind g.made)) new end f.names g.names (put_same old next out (kind f.made) (kind g.made) (one f.made g.made f.is g.is) same), f.said ∙ sym g.said)

  pub asking : (Is Was : List ℕ → Type 0) → (Is reply → Was other → reply ≡ other) → Asks Is old reply new → Asks Was next other end → AreDone new end reply other
  asking Is Was one f g = (kept old next new end f.0 g.0 same, one f.1 g.1)

  pub of_one : {A : Type 0} (kind : A → Value) (name : List ℕ) (With Under : A → Act) → ((a b : A) → AreSameValues (kind a) (kind b) → With a old reply new → Under b next other end → AreDone new end reply other) → OfOne kind name With old reply new → OfOne kind name Under next other end → AreDone new end reply other
  of_one kind name With Under one f g = one f.operand g.operand (found_same old next name (kind f.operand) (kind g.operand) same f.stands g.stands) f.is g.is

  pub of_two : {A : Type 0} (kind : A → Value) (name more : List ℕ) (With Under : A → A → Act) →
      ((p q x y : A) → AreSameValues (kind p) (kind x) → AreSameValues (kind q) (kind y) → With p q old reply new → Under x y next other end → AreDone new end reply other) → OfTwo kind name more With old reply new → OfTwo kind name more Under next other end → AreDone new end reply other
  of_two kind name more With Under one f g =
      one f.first f.second g.first g.second (found_same old next name (kind f.first) (kind g.first) same f.first_stands g.first_stands)
      (found_same old next more (kind f.second) (kind g.second) same f.second_stands g.second_stands) f.is g.is

  pub made_of_one : {A B : Type 0} (kind : A → Value) (into : B → Value) (name out : List ℕ) (Is Was : A → B → Type 0) → ((p q : A) (s t : B) → AreSameValues (kind p) (kind q) → Is p s → Was q t → AreSameValues (into s) (into t)) →
      OfOne kind name (λ x. Makes into out (Is x)) old reply new → OfOne kind name (λ x. Makes into out (Was x)) next other end → AreDone new end reply other
  made_of_one kind into name out Is Was one f g =
      of_one kind name (λ x. Makes into out (Is x)) (λ x. Makes into out (Was x)) (λ p q operands. making into out (Is p) (Was q) (λ s t. one p q s t operands)) f g

  pub made_of_two : {A B : Type 0} (kind : A → Value) (into : B → Value) (name more out : List ℕ) (Is : A → A → B → Type 0) →
      ((p q x y : A) (s t : B) → AreSameValues (kind p) (kind x) → AreSameValues (kind q) (kind y) → Is p q s → Is x y t → AreSameValues (into s) (into t)) →
      OfTwo kind name more (λ x y. Makes into out (Is x y)) old reply new → OfTwo kind name more (λ x y. Makes into out (Is x y)) next other end → AreDone new end reply other
  made_of_two kind into name more out Is one f g =
      of_two kind name more (λ x y. Makes into out (Is x y)) (λ x y. Makes into out (Is x y)) (λ p q x y firsts seconds. making into out (Is p q) (Is x y) (λ s t. one p q x y s t firsts seconds)) f g

  -- a part of an entry of which two aren't compared is changed
  pub changed_by : {A B C : Type 0} (kind : A → Value) (kind_of_part : B → Value) (into : C → Value) (name part out : List ℕ) (Is : A → B → C → Type 0) → ((s t : C) → AreSameValues (into s) (into t)) →
      OfOne kind name (λ x. OfOne kind_of_part part (λ y. Makes into out (Is x y))) old reply new → OfOne kind name (λ x. OfOne kind_of_part part (λ y. Makes into out (Is x y))) next other end → AreDone new end reply other
  changed_by kind kind_of_part into name part out Is one f g =
      of_one kind name (λ x. OfOne kind_of_part part (λ y. Makes into out (Is x y))) (λ x. OfOne kind_of_part part (λ y. Makes into out (Is x y)))
      (λ x y operands. made_of_one kind_of_part into part out (Is x) (Is y) (λ p q s t parts a b. one s t)) f g

  pub asked_of_one : {A : Type 0} (kind : A → Value) (name : List ℕ) (Is Was : A → List ℕ → Type 0) → ((p q : A) → AreSameValues (kind p) (kind q) → Is p reply → Was q other → reply ≡ other) →
      OfOne kind name (λ x. Asks (Is x)) old reply new → OfOne kind name (λ x. Asks (Was x)) next other end → AreDone new end reply other
  asked_of_one kind name Is Was one f g = of_one kind name (λ x. Asks (Is x)) (λ x. Asks (Was x)) (λ p q operands. asking (Is p) (Was q) (one p q operands)) f g

  pub asked_of_two : {A : Type 0} (kind : A → Value) (name more : List ℕ) (Is : A → A → List ℕ → Type 0) → ((p q x y : A) → AreSameValues (kind p) (kind x) → AreSameValues (kind q) (kind y) → Is p q reply → Is x y other → reply ≡ other) →
      OfTwo kind name more (λ x y. Asks (Is x y)) old reply new → OfTwo kind name more (λ x y. Asks (Is x y)) next other end → AreDone new end reply other
  asked_of_two kind name more Is one f g = of_two kind name more (λ x y. Asks (Is x y)) (λ x y. Asks (Is x y)) (λ p q x y firsts seconds. asking (Is p q) (Is x y) (one p q x y firsts seconds)) f g
