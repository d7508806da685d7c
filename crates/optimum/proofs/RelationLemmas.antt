-- The flags of a relation are true of the points.
use Rattle.std.specs.Prelude.{◌≡◌, ◌⊎◌, ℕ, ◌+◌, List, [], length, ℤ, pos, ◌+ℤ◌, ◌*ℤ◌, neg_ℤ, ◌≤ℤ◌, ◌<ℤ◌, Bool, true, Result, Ok, Err, ◌↔◌, IsTrue}
use Rattle.std.proofs.Common.{arith, sym, ◌∙◌, ap, subst, inl, inr, below_more}
use Rattle.std.proofs.lemmas.Int.{ints}
use Rattle.std.proofs.lemmas.Bool.Decides.{same_from_decides}
use Rattle.std.proofs.lemmas.List.Elements.{All-from_get_or, All-get_or}
use Rattle.row_core.specs.Vectors.{dot}
use Rattle.row_core.specs.declared.PairOver.{PairOver}
use Rattle.cone_laws.specs.Cones.{negated}
use Rattle.cone_laws.proofs.Ring.{ring, by_sign}
use Rattle.cone_laws.proofs.Columns.{dot_comm, dot-negated}
use Rattle.cons_sys.specs.declared.kind.ConKind.{ConKind}
use Rattle.cons_sys.specs.declared.kind.ConKind.TheVariants.{Eq, Ge, Gt}
use Rattle.cons_sys.specs.Constraints.{Constraint, Constraints}
use Rattle.gens_sys.specs.declared.kind.GenKind.{GenKind}
use Rattle.gens_sys.specs.declared.kind.GenKind.TheVariants.{Line}
use Rattle.gens_sys.specs.Generators.{Generator, Generators, generator_at, row_at, kind_at, FitDimension}
use Rattle.stored_systems.specs.PointSets.{IsWithin}
use Rattle.poly_pair.specs.Polyhedra.{Polyhedron, IsKept}
use Rattle.set_laws.specs.Asking.{Asks, MeetsOn, IsProper, IsMember, IsTrueOn, IsFalseOn, HasExample, HasCounter}
use Rattle.optimum.specs.Values.{RowLeaves}
use Rattle.optimum.specs.Relations.{HoldsThroughout, HoldsNowhere, HoldsSomewhere, FailsSomewhere, MeetUpto, AreSides, AreNoted, Includes, Excludes, AreFlags, IsRelation, SidesAnswer, RelationAnswer}
use Rattle.optimum.specs.Laws.{HasOneRelation}
use Rattle.optimum.specs.declared.relating.Sides.{Sides}
use Rattle.optimum.specs.declared.outcome.Relation.{Relation}
use Rattle.set_laws.proofs.GeneratorLaws.{true_on_law, counter_law}
use Rattle.set_laws.proofs.Members.{Between, between}
use Rattle.optimum.proofs.Fractions.{most_if_not, short_if_not}
use Rattle.optimum.proofs.MemberLemmas.{members, proper}
use Rattle.optimum.proofs.ValueLemmas.{all_or_row_leaves, row_leaves_once}

pub negated_value : (a p : List ℤ) → dot (negated a) p ≡ neg_ℤ (dot a p)
negated_value a p = dot_comm (negated a) p ∙ dot-negated p a ∙ ap neg_ℤ (dot_comm p a)

-- ---- one generator more
pub meet_more : (c : Constraint) (list : List Generator) (n : ℕ) (old new : Bool) (x : ℤ) → IsTrue old ↔ MeetUpto c list n → x ≡ dot c.0 (row_at list n) → IsTrue new ↔ IsTrue old × Asks c.1 (kind_at list n) x → IsTrue new ↔ MeetUpto c list (n + 1)
meet_more c list n old new x h e step = (
  (λ t. below_more (λ i. MeetsOn c (generator_at list i)) n (h.0 (step.0 t).0) (subst (Asks c.1 (kind_at list n)) e (step.0 t).1)),
  (λ m. step.1 (h.1 (λ i l. m i (omega (arith, l))), subst (Asks c.1 (kind_at list n)) (sym e) (m n (omega arith)))),
)

turned_is : (row : List ℤ) (list : List Generator) (n : ℕ) (x : ℤ) → x ≡ dot row (row_at list n) → neg_ℤ x ≡ dot (negated row) (row_at list n)
turned_is row list n x e = ap neg_ℤ e ∙ sym (negated_value row (row_at list n))

pub sides_more : (row : List ℤ) (list : List Generator) (n : ℕ) (old new : Sides) (x : ℤ) (kind : GenKind) → AreSides row list n old → x ≡ dot row (row_at list n) → kind ≡ kind_at list n → AreNoted old kind x new → AreSides row list (n + 1) new
sides_more row list n old new x kind s e k note =
    let m : AreNoted old (kind_at list n) x new = subst (λ (g : GenKind). AreNoted old g x new) k note in
    record {
      zero = meet_more (row, Eq) list n old.zero new.zero x s.zero e m.zero;
      least = meet_more (row, Ge) list n old.least new.least x s.least e m.least;
      above = meet_more (row, Gt) list n old.above new.above x s.above e m.above;
      most = meet_more (negated row, Ge) list n old.most new.most (neg_ℤ x) s.most (turned_is row list n x e) m.most;
      below = meet_more (negated row, Gt) list n old.below new.below (neg_ℤ x) s.below (turned_is row list n x e) m.below;
    }

pub none_yet : (c : Constraint) (list : List Generator) (b : Bool) → b ≡ true → IsTrue b ↔ MeetUpto c list 0
none_yet c list b e = ((λ t i l. absurd (omega (arith, l))), (λ m. e))

-- ---- from the generators to the points
module _ (gs : Generators) (fits : FitDimension gs) (proper : IsProper gs) where
  true_by : (c : Constraint) (b : Bool) → IsTrue b ↔ MeetUpto c gs.list (length gs.list) → IsTrue b ↔ IsTrueOn gs c
  true_by c b h = (
    (λ t. (true_on_law gs c fits proper).1 (All-from_get_or (MeetsOn c) gs.list ([], Line) (h.0 t))),
    (λ t. h.1 (λ i l. All-get_or (MeetsOn c) gs.list i ([], Line) l ((true_on_law gs c fits proper).0 t))),
  )

  module _ (row : List ℤ) where
    not_least : (x : ℤ) → ¬ (pos 0 ≤ℤ x) → pos 0 <ℤ neg_ℤ x
    not_least x h = let k = short_if_not true x (pos 0) h in omega (arith, ints, k)

    not_above : (x : ℤ) → ¬ (pos 0 <ℤ x) → pos 0 ≤ℤ neg_ℤ x
    not_above x h = let k = most_if_not true (pos 0) x h in omega (arith, ints, k)

    least_of : (x : ℤ) → ¬ (pos 0 <ℤ neg_ℤ x) → pos 0 ≤ℤ x
    least_of x h = let k = most_if_not true (pos 0) (neg_ℤ x) h in omega (arith, ints, k)

    above_of : (x : ℤ) → ¬ (pos 0 ≤ℤ neg_ℤ x) → pos 0 <ℤ x
    above_of x h = let k = short_if_not true (neg_ℤ x) (pos 0) h in omega (arith, ints, k)

    -- a point below 0 or at 0 and a point above 0 or at 0 have a point at 0 between them
    zero_sum : (t x y : ℤ) → t *ℤ (y *ℤ x +ℤ neg_ℤ x *ℤ y) ≡ pos 0
    zero_sum t x y = simp ring (omega (arith, ints))

    zero_between : (u v : List ℤ) → IsMember gs u → IsMember gs v → dot row u ≤ℤ pos 0 → pos 0 ≤ℤ dot row v → HasExample gs (row, Eq)
    zero_between u v a b h k = by (by_sign (dot row v))
      where
        made : Between gs u v (dot row v) (neg_ℤ (dot row u)) → HasExample gs (row, Eq)
        made w = record { point = w.point; member = w.member; holds = w.values row ∙ zero_sum w.times (dot row u) (dot row v) }

        by : (pos 0 <ℤ dot row v) ⊎ ((dot row v <ℤ pos 0) ⊎ (dot row v ≡ pos 0)) → HasExample gs (row, Eq)
        by (inl p) = made (between gs u v (dot row v) (neg_ℤ (dot row u)) p (omega (arith, ints, h)) a b)
        by (inr (inl n)) = absurd (omega (arith, ints, n, k))
        by (inr (inr z)) = record { point = v; member = b; holds = z }

    -- ---- no point, or an example
    false_by_turned : IsTrueOn gs (negated row, Gt) → IsFalseOn gs (row, Ge)
    false_by_turned t p m s = let e = negated_value row p in let f = t p m in omega (arith, ints, e, f, s)

    false_by_most : IsTrueOn gs (negated row, Ge) → IsFalseOn gs (row, Gt)
    false_by_most t p m s = let e = negated_value row p in let f = t p m in omega (arith, ints, e, f, s)

    false_by_above : IsTrueOn gs (row, Gt) → IsFalseOn gs (row, Eq)
    false_by_above t p m s = let f = t p m in omega (arith, ints, f, s)

    false_by_below : IsTrueOn gs (negated row, Gt) → IsFalseOn gs (row, Eq)
    false_by_below t p m s = let e = negated_value row p in let f = t p m in omega (arith, ints, e, f, s)

    true_by_turned : IsFalseOn gs (row, Ge) → IsTrueOn gs (negated row, Gt)
    true_by_turned f p m = subst (λ (z : ℤ). pos 0 <ℤ z) (sym (negated_value row p)) (not_least (dot row p) (f p m))

    true_by_most : IsFalseOn gs (row, Gt) → IsTrueOn gs (negated row, Ge)
    true_by_most f p m = subst (λ (z : ℤ). pos 0 ≤ℤ z) (sym (negated_value row p)) (not_above (dot row p) (f p m))

    example_least : HasCounter gs (negated row, Gt) → HasExample gs (row, Ge)
    example_least r = record { point = r.point; member = r.member; holds = least_of (dot row r.point) (λ h. r.fails (subst (λ (z : ℤ). pos 0 <ℤ z) (sym (negated_value row r.point)) h)) }

    example_above : HasCounter gs (negated row, Ge) → HasExample gs (row, Gt)
    example_above r = record { point = r.point; member = r.member; holds = above_of (dot row r.point) (λ h. r.fails (subst (λ (z : ℤ). pos 0 ≤ℤ z) (sym (negated_value row r.point)) h)) }

    example_zero : HasCounter gs (row, Gt) → HasCounter gs (negated row, Gt) → HasExample gs (row, Eq)
    unfolding example_least
    example_zero u v = zero_between u.point v.point u.member v.member (most_if_not true (pos 0) (dot row u.point) u.fails) (example_least v).holds

    above_or_below : IsTrueOn gs (row, Gt) ⊎ HasCounter gs (row, Gt) → IsTrueOn gs (negated row, Gt) ⊎ HasCounter gs (negated row, Gt) → (IsTrueOn gs (row, Gt) ⊎ IsTrueOn gs (negated row, Gt)) ⊎ HasExample gs (row, Eq)
    above_or_below (inl a) b = inl (inl a)
    above_or_below (inr a) (inl b) = inl (inr b)
    above_or_below (inr a) (inr b) = inr (example_zero a b)

    one_side : (IsTrueOn gs (row, Gt) ⊎ IsTrueOn gs (negated row, Gt)) ⊎ HasExample gs (row, Eq) → IsFalseOn gs (row, Eq) → IsTrueOn gs (row, Gt) ⊎ IsTrueOn gs (negated row, Gt)
    one_side (inl a) f = a
    one_side (inr x) f = absurd (f x.point x.member x.holds)

    sided : (IsTrueOn gs (row, Gt) ⊎ IsTrueOn gs (negated row, Gt)) ⊎ HasExample gs (row, Eq)
    sided = above_or_below (counter_law gs (row, Gt) fits proper) (counter_law gs (negated row, Gt) fits proper)

    false_or_example : (kind : ConKind) → IsFalseOn gs (row, kind) ⊎ HasExample gs (row, kind)
    false_or_example Eq = by sided
      where
        by : (IsTrueOn gs (row, Gt) ⊎ IsTrueOn gs (negated row, Gt)) ⊎ HasExample gs (row, Eq) → IsFalseOn gs (row, Eq) ⊎ HasExample gs (row, Eq)
        by (inl (inl a)) = inl (false_by_above a)
        by (inl (inr b)) = inl (false_by_below b)
        by (inr x) = inr x
    false_or_example Ge = by (counter_law gs (negated row, Gt) fits proper)
      where
        by : IsTrueOn gs (negated row, Gt) ⊎ HasCounter gs (negated row, Gt) → IsFalseOn gs (row, Ge) ⊎ HasExample gs (row, Ge)
        by (inl a) = inl (false_by_turned a)
        by (inr r) = inr (example_least r)
    false_or_example Gt = by (counter_law gs (negated row, Ge) fits proper)
      where
        by : IsTrueOn gs (negated row, Ge) ⊎ HasCounter gs (negated row, Ge) → IsFalseOn gs (row, Gt) ⊎ HasExample gs (row, Gt)
        by (inl a) = inl (false_by_most a)
        by (inr r) = inr (example_above r)

    -- ---- the flags
    module _ (s : Sides) (sides : AreSides row gs.list (length gs.list) s) where
      either : (a b : Bool) → IsTrue a ↔ IsTrueOn gs (row, Gt) → IsTrue b ↔ IsTrueOn gs (negated row, Gt) → (IsTrue a ⊎ IsTrue b) ↔ IsFalseOn gs (row, Eq)
      either a b f g = (forth, back)
        where
          forth : IsTrue a ⊎ IsTrue b → IsFalseOn gs (row, Eq)
          forth (inl t) = false_by_above (f.0 t)
          forth (inr t) = false_by_below (g.0 t)

          to_flags : IsTrueOn gs (row, Gt) ⊎ IsTrueOn gs (negated row, Gt) → IsTrue a ⊎ IsTrue b
          to_flags (inl t) = inl (f.1 t)
          to_flags (inr t) = inr (g.1 t)

          back : IsFalseOn gs (row, Eq) → IsTrue a ⊎ IsTrue b
          back h = to_flags (one_side sided h)

      excluded : (kind : ConKind) → Excludes kind s ↔ IsFalseOn gs (row, kind)
      excluded Eq = either s.above s.below (true_by (row, Gt) s.above sides.above) (true_by (negated row, Gt) s.below sides.below)
      excluded Ge = ((λ t. false_by_turned ((true_by (negated row, Gt) s.below sides.below).0 t)), (λ f. (true_by (negated row, Gt) s.below sides.below).1 (true_by_turned f)))
      excluded Gt = ((λ t. false_by_most ((true_by (negated row, Ge) s.most sides.most).0 t)), (λ f. (true_by (negated row, Ge) s.most sides.most).1 (true_by_most f)))

      includes : (kind : ConKind) → Includes kind s ↔ IsTrueOn gs (row, kind)
      includes Eq = true_by (row, Eq) s.zero sides.zero
      includes Ge = true_by (row, Ge) s.least sides.least
      includes Gt = true_by (row, Gt) s.above sides.above

      module _ (cs : Constraints) (both : (v : List ℤ) → IsMember gs v ↔ IsWithin cs v) where
        throughout : (c : Constraint) → IsTrueOn gs c ↔ HoldsThroughout cs c
        throughout c = ((λ t v w. t v ((both v).1 w)), (λ t v m. t v ((both v).0 m)))

        nowhere : (c : Constraint) → IsFalseOn gs c ↔ HoldsNowhere cs c
        nowhere c = ((λ t v w. t v ((both v).1 w)), (λ t v m. t v ((both v).0 m)))

        chain : {A B C D : Type 0} → A ↔ B → B ↔ C → C ↔ D → A ↔ D
        chain f g h = ((λ a. h.0 (g.0 (f.0 a))), (λ d. f.1 (g.1 (h.1 d))))

        pub true_flags : (kind : ConKind) (r : Relation) → AreFlags kind s r → IsRelation cs row kind r
        true_flags kind r flags = record {
          disjoint = disjoint;
          included = included;
          saturates = chain flags.saturates (includes Eq) (throughout (row, Eq));
          intersects = (
            (λ t. (some (false_or_example kind) (flags.intersects.0 t).0, other (counter_law gs (row, kind) fits proper) (flags.intersects.0 t).1)),
            (λ w. flags.intersects.1 ((λ t. disjoint.0 t w.0.point w.0.within w.0.holds), (λ t. w.1.fails (included.0 t w.1.point w.1.within)))),
          );
        }
          where
            disjoint : IsTrue r.disjoint ↔ HoldsNowhere cs (row, kind)
            disjoint = chain flags.disjoint (excluded kind) (nowhere (row, kind))

            included : IsTrue r.included ↔ HoldsThroughout cs (row, kind)
            included = chain flags.included (includes kind) (throughout (row, kind))

            some : IsFalseOn gs (row, kind) ⊎ HasExample gs (row, kind) → ¬ (IsTrue r.disjoint) → HoldsSomewhere cs (row, kind)
            some (inl f) n = absurd (n (disjoint.1 ((nowhere (row, kind)).0 f)))
            some (inr x) n = record { point = x.point; within = (both x.point).0 x.member; holds = x.holds }

            other : IsTrueOn gs (row, kind) ⊎ HasCounter gs (row, kind) → ¬ (IsTrue r.included) → FailsSomewhere cs (row, kind)
            other (inl f) n = absurd (n (included.1 ((throughout (row, kind)).0 f)))
            other (inr x) n = record { point = x.point; within = (both x.point).0 x.member; fails = x.fails }

-- ---- the answers
pub relation_answer : (p : Polyhedron) → IsKept p → (gs : Generators) → gs ≡ p.gens → FitDimension gs → (row : List ℤ) (s : Sides) → SidesAnswer row gs.list (Ok s) → (kind : ConKind) (r : Relation) → AreFlags kind s r → RelationAnswer row kind p (Ok r)
relation_answer p k gs e fits row s sides kind r flags =
    let there : SidesAnswer row p.gens.list (Ok s) = subst (λ (g : Generators). SidesAnswer row g.list (Ok s)) e sides in
    (there.0, true_flags p.gens (subst FitDimension e fits) (proper p k) row s there.1 p.cons (members p k) kind r flags)

pub refused_exactly : (row : List ℤ) (kind : ConKind) (p : Polyhedron) (r : Result Relation PairOver) → RelationAnswer row kind p r → (over : PairOver) → (r ≡ Err over) ↔ RowLeaves row p.gens.list over
refused_exactly row kind p r a over = ((λ e. subst (RelationAnswer row kind p) e a), back r a)
  where
    back : (r : Result Relation PairOver) → RelationAnswer row kind p r → RowLeaves row p.gens.list over → r ≡ Err over
    back (Ok f) a l = absurd (all_or_row_leaves row p.gens.list over a.0 l)
    back (Err o) a l = ap (λ (x : PairOver). Err x) (row_leaves_once row p.gens.list o over a l)

abbrev flags_of : Bool → Bool → Bool → Bool → Relation
flags_of disjoint intersects included saturates = record { disjoint = disjoint; intersects = intersects; included = included; saturates = saturates }

same_flags : (cs : Constraints) (row : List ℤ) (kind : ConKind) (r s : Relation) → IsRelation cs row kind r → IsRelation cs row kind s → r ≡ s
same_flags cs row kind r s a b =
    let disjoint = same_from_decides r.disjoint s.disjoint a.disjoint b.disjoint in
    let intersects = same_from_decides r.intersects s.intersects a.intersects b.intersects in
    let included = same_from_decides r.included s.included a.included b.included in
    let saturates = same_from_decides r.saturates s.saturates a.saturates b.saturates in
    let same : flags_of r.disjoint r.intersects r.included r.saturates ≡ flags_of s.disjoint s.intersects s.included s.saturates = cc in
    same

pub one_relation : HasOneRelation
one_relation row kind p (Ok r) (Ok s) a b = ap (λ (x : Relation). Ok x) (same_flags p.cons row kind r s a.1 b.1)
one_relation row kind p r (Err over) a b = (refused_exactly row kind p r a over).1 b
one_relation row kind p (Err over) (Ok s) a b = absurd (all_or_row_leaves row p.gens.list over b.0 a)
