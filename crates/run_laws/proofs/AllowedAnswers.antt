-- The answers that are allowed of the same sets are the same.
use Rattle.std.proofs.Common.{◌≡◌, ◌≢◌, ◌⊎◌, inl, inr, ℕ, List, [], refl, ap, sym, ◌∙◌, subst, Bool, true, false, IsTrue, codes, arith}
use Rattle.std.specs.Prelude.{◌↔◌, ℤ, pos, ◌*ℤ◌, ◌++◌, slice_index_or}
use Rattle.row_core.specs.Vectors.{cell, dot}
use Rattle.row_core.specs.Points.{IsPoint}
use Rattle.cons_sys.specs.Constraints.{Constraint, In}
use Rattle.cons_sys.specs.declared.kind.ConKind.TheVariants.{Eq}
use Rattle.gens_sys.specs.declared.kind.GenKind.TheVariants.{Point}
use Rattle.stored_systems.specs.PointSets.{IsWithin}
use Rattle.poly_pair.specs.declared.topology.Topology.TheVariants.{Nnc}
use Rattle.poly_pair.specs.Polyhedra as poly
use Rattle.optimum.specs.Relations.{HoldsThroughout, HoldsNowhere, HoldsSomewhere, FailsSomewhere}
use Rattle.optimum.specs.Search.{IsShort, IsAtMost}
use Rattle.optimum.specs.Suprema.{HasBeyond, IsSupremum, IsTrueSup}
use Rattle.optimum.specs.Laws.{HasOneBound, bound_of}
use Rattle.optimum.specs.declared.outcome.Sup.{Sup}
use Rattle.optimum.specs.declared.outcome.Sup.TheVariants as sup
use Rattle.script_text.specs.declared.command.Comparison.{Comparison}
use Rattle.script_text.specs.declared.command.Comparison.TheVariants as comparison
use Rattle.script_text.specs.declared.command.Part.{Part}
use Rattle.soundness.specs.Points.{PointSet, HasNoPoint}
use Rattle.soundness.specs.Values.{Powerset}
use Rattle.soundness.specs.Answers.{as_line, Tells, TellsWhether, LieSo, TellsHowTheyLie, relation_words, TellsRelation, IsWitness, bound_text, TellsBound, TellsExtremeOf}
use Rattle.soundness.specs.Unions.{IsInUnion, TellsMissing, TellsCover}
use Rattle.expr_text.specs.Printed.{generator_text}
use Rattle.run_laws.specs.Allowed.{AreSame, AreSameUnions, AnswersAreOne, ShowOneBound, ExtremesAreOne}
use Rattle.run_laws.proofs.AllowedSets.{via, turn, moved, same_back, within_same, same_at, unions_back}

-- ---- yes and no
pub one_telling : (Statement Other : Type 0) (reply other : List ℕ) → Statement ↔ Other → Tells Statement reply → Tells Other other → reply ≡ other
one_telling Statement Other reply other same (inl a) (inl b) = a.1 ∙ sym b.1
one_telling Statement Other reply other same (inl a) (inr b) = absurd (b.0 (same.0 a.0))
one_telling Statement Other reply other same (inr a) (inl b) = absurd (a.0 (same.1 b.0))
one_telling Statement Other reply other same (inr a) (inr b) = a.1 ∙ sym b.1

empty_to : (p q : PointSet) → AreSame p q → HasNoPoint p → HasNoPoint q
empty_to p q same h v w = h v (within_same q p v (same_back p q same) w)

lie_to : (by : Comparison) (p q x y : PointSet) → AreSame p x → AreSame q y → p.cons.dim ≡ q.cons.dim → LieSo by p q → LieSo by x y
lie_to comparison.Contains p q x y one other e h = λ v is i.
    (let at = moved x.cons.dim p.cons.dim v (sym one.alike.variables) is in
    (one.points v at).0 (h v at ((same_at q y p.cons.dim v other (sym e) at).1 i)))
lie_to comparison.Equal p q x y one other e h = λ v is.
    (let at = moved x.cons.dim p.cons.dim v (sym one.alike.variables) is in
    via (turn (one.points v at)) (via (h v at) (same_at q y p.cons.dim v other (sym e) at)))
lie_to comparison.Disjoint p q x y one other e h = λ v is i.
    (let at = moved x.cons.dim p.cons.dim v (sym one.alike.variables) is in
    h v at ((one.points v at).1 i.0, (same_at q y p.cons.dim v other (sym e) at).1 i.1))

pub one_comparison : (by : Comparison) (p q x y : PointSet) (reply other : List ℕ) → AreSame p x → AreSame q y → TellsHowTheyLie by p q reply → TellsHowTheyLie by x y other → reply ≡ other
one_comparison by p q x y reply other one two a b =
    one_telling (LieSo by p q) (LieSo by x y) reply other
    (lie_to by p q x y one two a.operands.variables, lie_to by x y p q (same_back p x one) (same_back q y two) b.operands.variables) a.tells b.tells

one_has : (part text : Part) (p q : PointSet) (reply other : List ℕ) → AreSame p q → (a : TellsWhether part p reply) (b : TellsWhether text q other) → a.point ≡ b.point → reply ≡ other
one_has part text p q reply other same a b e =
    one_telling (In p.cons a.point) (In q.cons b.point) reply other (subst (λ (v : List ℤ). In p.cons a.point ↔ In q.cons v) e (same.points a.point a.is_point)) a.tells b.tells

-- ---- a constraint
one_flag : (a b : Bool) (Statement Other : Type 0) → Statement ↔ Other → IsTrue a ↔ Statement → IsTrue b ↔ Other → a ≡ b
one_flag true true Statement Other same f g = refl
one_flag false false Statement Other same f g = refl
one_flag true false Statement Other same f g = (let no : IsTrue false = g.1 (same.0 (f.0 refl)) in no_flag no)
  where
    no_flag : IsTrue false → true ≡ false
    no_flag e = sym e
one_flag false true Statement Other same f g = f.1 (same.1 (g.0 refl))

throughout_to : (p q : PointSet) (c : Constraint) → AreSame p q → HoldsThroughout p.cons c → HoldsThroughout q.cons c
throughout_to p q c same h v w = h v (within_same q p v (same_back p q same) w)

nowhere_to : (p q : PointSet) (c : Constraint) → AreSame p q → HoldsNowhere p.cons c → HoldsNowhere q.cons c
nowhere_to p q c same h v w = h v (within_same q p v (same_back p q same) w)

divided_to : (p q : PointSet) (c : Constraint) → AreSame p q → HoldsSomewhere p.cons c × FailsSomewhere p.cons c → HoldsSomewhere q.cons c × FailsSomewhere q.cons c
divided_to p q c same (s, f) = (record { point = s.point; within = within_same p q s.point same s.within; holds = s.holds }, record { point = f.point; within = within_same p q f.point same f.within; fails = f.fails })

abbrev words_of : Bool → Bool → Bool → Bool → List ℕ
words_of a b c d = as_line (relation_words a b c d)

same_words : (a b c d e f g h : Bool) → a ≡ e → b ≡ f → c ≡ g → d ≡ h → words_of a b c d ≡ words_of e f g h
same_words a b c d e f g h k l m n = ap (λ (x : Bool). words_of x b c d) k ∙ (ap (λ (x : Bool). words_of e x c d) l ∙ (ap (λ (x : Bool). words_of e f x d) m ∙ ap (λ (x : Bool). words_of e f g x) n))

one_relation : (part text : Part) (p q : PointSet) (reply other : List ℕ) → AreSame p q → (a : TellsRelation part p reply) (b : TellsRelation text q other) → a.constraint ≡ b.constraint → reply ≡ other
one_relation part text p q reply other same a b e =
    let c = a.constraint in
    let back = same_back p q same in
    let at : (P : Constraint → Type 0) → P b.constraint → P c = λ P h. subst P (sym e) h in
    a.said
    ∙ (same_words a.disjoint a.intersects a.included a.saturates b.disjoint b.intersects b.included b.saturates
    (one_flag a.disjoint b.disjoint (HoldsNowhere p.cons c) (HoldsNowhere q.cons c) (nowhere_to p q c same, nowhere_to q p c back) a.nowhere (at (λ k. IsTrue b.disjoint ↔ HoldsNowhere q.cons k) b.nowhere))
    (one_flag a.intersects b.intersects (HoldsSomewhere p.cons c × FailsSomewhere p.cons c) (HoldsSomewhere q.cons c × FailsSomewhere q.cons c) (divided_to p q c same, divided_to q p c back) a.divided
    (at (λ k. IsTrue b.intersects ↔ HoldsSomewhere q.cons k × FailsSomewhere q.cons k) b.divided))
    (one_flag a.included b.included (HoldsThroughout p.cons c) (HoldsThroughout q.cons c) (throughout_to p q c same, throughout_to q p c back) a.throughout (at (λ k. IsTrue b.included ↔ HoldsThroughout q.cons k) b.throughout))
    (one_flag a.saturates b.saturates (HoldsThroughout p.cons (c.0, Eq)) (HoldsThroughout q.cons (c.0, Eq)) (throughout_to p q (c.0, Eq) same, throughout_to q p (c.0, Eq) back) a.equal (at (λ k. IsTrue b.saturates ↔ HoldsThroughout q.cons (k.0, Eq)) b.equal))
    ∙ sym b.said)

-- ---- covers
-- a reply that shows a point isn't `yes`
no_yes : (rest : List ℕ) → as_line (codes "no " ++ rest) ≢ as_line (codes "yes")
no_yes rest e = let first : 110 ≡ 121 = ap (λ (l : List ℕ). slice_index_or l 0 0) e in absurd (omega (arith, first))

-- each point of the second is in the first
abbrev Covers : Powerset → Powerset → Type 0
Covers s t = (v : List ℤ) → IsPoint s.dim v → IsInUnion t v → IsInUnion s v

says_yes : (s t x y : Powerset) (reply other : List ℕ) → AreSameUnions s x → AreSameUnions t y → s.dim ≡ t.dim → (Covers s t × (reply ≡ as_line (codes "yes"))) ⊎ TellsMissing s t reply → (Covers x y × (other ≡ as_line (codes "yes"))) ⊎ TellsMissing x y other → reply ≡ as_line (codes "yes") → other ≡ as_line (codes "yes")
says_yes s t x y reply other one two d a (inl b) e = b.1
says_yes s t x y reply other one two d (inl a) (inr m) e =
    let at : IsPoint s.dim m.point = moved x.dim s.dim m.point (sym one.alike.variables) m.is_point in
    absurd (m.outside ((one.points m.point at).0 (a.0 m.point at ((two.points m.point (moved s.dim t.dim m.point d at)).1 m.within))))
says_yes s t x y reply other one two d (inr m) (inr k) e = absurd (no_yes (generator_text s.dim (m.point, Point)) (sym m.said ∙ e))

one_cover : (s t x y : Powerset) (reply other : List ℕ) → AreSameUnions s x → AreSameUnions t y → TellsCover s t reply → TellsCover x y other → (reply ≡ as_line (codes "yes")) ↔ (other ≡ as_line (codes "yes"))
one_cover s t x y reply other one two a b = (
  says_yes s t x y reply other one two a.operands.variables a.tells b.tells,
  says_yes x y s t other reply (unions_back s x one) (unions_back t y two) b.operands.variables b.tells a.tells,
)

pub answers_are_one : AnswersAreOne
answers_are_one = record {
  isempty = λ p q reply other same a b. one_telling (HasNoPoint p) (HasNoPoint q) reply other (empty_to p q same, empty_to q p (same_back p q same)) a b;
  comparisons = one_comparison;
  has = one_has;
  relations = one_relation;
  covers = one_cover;
}

-- ---- extreme values
beyond_to : (up : Bool) (row : List ℤ) (p q : PointSet) (m k : ℤ) → AreSame p q → HasBeyond up row p.cons.dim (IsWithin p.cons) m k → HasBeyond up row q.cons.dim (IsWithin q.cons) m k
beyond_to up row p q m k same h = (h.0, within_same p q h.0 same h.1, subst (λ (d : ℕ). IsShort up (m *ℤ cell h.0 d) (k *ℤ dot row h.0)) same.alike.variables h.2)

supremum_to : (up : Bool) (row : List ℤ) (p q : PointSet) (num den : ℤ) (attained : Bool) → AreSame p q → IsSupremum up row p.cons.dim (IsWithin p.cons) num den attained → IsSupremum up row q.cons.dim (IsWithin q.cons) num den attained
supremum_to up row p q num den attained same h =
    let back = same_back p q same in
    record {
      lowest = h.lowest;
      positive = h.positive;
      bound = λ u w. subst (λ (d : ℕ). IsAtMost up (den *ℤ dot row u) (num *ℤ cell u d)) same.alike.variables (h.bound u (within_same q p u back w));
      reached = (
        λ e. (let r = h.reached.0 e in (r.0, within_same p q r.0 same r.1, subst (λ (d : ℕ). den *ℤ dot row r.0 ≡ num *ℤ cell r.0 d) same.alike.variables r.2)),
        λ r. h.reached.1 (r.0, within_same q p r.0 back r.1, subst (λ (d : ℕ). den *ℤ dot row r.0 ≡ num *ℤ cell r.0 d) back.alike.variables r.2),
      );
      nearest = λ m k positive short. beyond_to up row p q m k same (h.nearest m k positive short);
    }

-- a polyhedron of the set
abbrev some_polyhedron : PointSet → poly.Polyhedron
some_polyhedron p = record { topology = Nnc; cons = p.cons; gens = record { dim = 0; list = [] } }

abbrev extreme_to : (up : Bool) (row : List ℤ) (p q : PointSet) (reply : List ℕ) → AreSame p q → TellsExtremeOf up row p reply → (b : Sup) × IsTrueSup up row (some_polyhedron q) b
extreme_to up row p q reply same (inl h) = (sup.Empty, empty_to p q same h.0)
extreme_to up row p q reply same (inr (inl h)) = (sup.Unbounded, λ bound. beyond_to up row p q bound (pos 1) same (h.0 bound))
extreme_to up row p q reply same (inr (inr h)) = (sup.At h.num h.den h.attained 0, supremum_to up row p q h.num h.den h.attained same h.bound)

show_one : (up : Bool) (row : List ℤ) (p q : PointSet) (reply other : List ℕ) → AreSame p q → (a : TellsBound up row p reply) (b : TellsBound up row q other) → sup.At a.num a.den a.attained 0 ≡ sup.At b.num b.den b.attained 0 → ShowOneBound row p q reply other
show_one up row p q reply other same a b e =
    let num : a.num ≡ b.num = cc in
    let den : a.den ≡ b.den = cc in
    let attained : a.attained ≡ b.attained = cc in
    record {
      num = a.num;
      den = a.den;
      attained = a.attained;
      witness = a.witness;
      witness_of_other = b.witness;
      is_witness = a.is_witness;
      is_witness_of_other =
          subst (λ (n : ℤ). IsWitness row q n a.den a.attained b.witness) (sym num)
          (subst (λ (d : ℤ). IsWitness row q b.num d a.attained b.witness) (sym den) (subst (λ (t : Bool). IsWitness row q b.num b.den t b.witness) (sym attained) b.is_witness));
      said = a.said;
      said_other =
          b.said
          ∙ (ap (λ (d : ℕ). as_line (bound_text d b.num b.den b.attained b.witness)) (sym same.alike.variables)
          ∙ (ap (λ (n : ℤ). as_line (bound_text p.cons.dim n b.den b.attained b.witness)) (sym num)
          ∙ (ap (λ (d : ℤ). as_line (bound_text p.cons.dim a.num d b.attained b.witness)) (sym den) ∙ ap (λ (t : Bool). as_line (bound_text p.cons.dim a.num a.den t b.witness)) (sym attained))));
    }

extreme_by : HasOneBound → (up : Bool) (row : List ℤ) (p q : PointSet) (reply other : List ℕ) → AreSame p q → (a : TellsExtremeOf up row p reply) (b : TellsExtremeOf up row q other) → (reply ≡ other) ⊎ ShowOneBound row p q reply other
extreme_by law up row p q reply other same a b = by a b (law up row (some_polyhedron q) (extreme_to up row p q reply same a).0 (extreme_to up row q q other itself b).0 (extreme_to up row p q reply same a).1 (extreme_to up row q q other itself b).1)
  where
    itself : AreSame q q
    itself = record { alike = record { kind = refl; variables = refl }; points = λ v is. (λ x. x, λ x. x) }

    by : (a : TellsExtremeOf up row p reply) (b : TellsExtremeOf up row q other) → bound_of (extreme_to up row p q reply same a).0 ≡ bound_of (extreme_to up row q q other itself b).0 → (reply ≡ other) ⊎ ShowOneBound row p q reply other
    by (inl x) (inl y) e = inl (x.1 ∙ sym y.1)
    by (inr (inl x)) (inr (inl y)) e = inl (x.1 ∙ sym y.1)
    by (inr (inr x)) (inr (inr y)) e = inr (show_one up row p q reply other same x y e)
    by (inl x) (inr (inl y)) e = cc
    by (inl x) (inr (inr y)) e = cc
    by (inr (inl x)) (inl y) e = cc
    by (inr (inl x)) (inr (inr y)) e = cc
    by (inr (inr x)) (inl y) e = cc
    by (inr (inr x)) (inr (inl y)) e = cc

pub extremes_are_one : HasOneBound → ExtremesAreOne
extremes_are_one law up row p q reply other same a b = extreme_by law up row p q reply other same a b
