-- The bounds of variables.
use Rattle.std.specs.Prelude.{◌≡◌, ◌⊎◌, ℕ, ◌+◌, ◌<◌, ◌≤◌, List, length, ℤ, pos, neg_ℤ, ◌+ℤ◌, ◌*ℤ◌, ◌≤ℤ◌, ◌<ℤ◌, Bool, true, false, Result, Ok, Err, IfOk, All, IsTrue}
use Rattle.std.proofs.Common.{arith, sym, ◌∙◌, ap, subst, inl, inr}
use Rattle.std.proofs.lemmas.Int.{ints}
use Rattle.std.proofs.lemmas.Bool.{false≢true}
use Rattle.std.proofs.lemmas.List.Elements.{All-nil}
use Rattle.row_core.specs.Vectors.{cell, dot}
use Rattle.row_core.specs.declared.PairOver.{PairOver}
use Rattle.row_core.proofs.Ring.{by_sign, neg-mul}
use Rattle.cons_sys.specs.Kinds.{Allows}
use Rattle.cons_sys.specs.Constraints.{Constraint, Satisfies}
use Rattle.gens_sys.specs.Generators.{FitDimension}
use Rattle.stored_systems.specs.PointSets.{IsWithin}
use Rattle.poly_pair.specs.Polyhedra.{Polyhedron, IsKept}
use Rattle.optimum.specs.Suprema.{SupAnswer, IsTrueSup, IsSupremum}
use Rattle.optimum.specs.declared.outcome.Sup.{Sup}
use Rattle.optimum.specs.declared.outcome.Sup.TheVariants as sup
use Rattle.optimum.proofs.AnswerRange.{found_in_range}
use Rattle.enclosures.specs.Boxes.{variable_row, bound_row, bound_kind, GainsBound, GainsBounds, AreBounds, none_yet, one_more, IsFractionOf}
use Rattle.enclosures.proofs.RowValues.{variable_value, two_set, gained_holds}

-- ---- the numbers of an answer are of the range
module _ (up : Bool) (p : Polyhedron) (k : IsKept p) (fits : FitDimension p.gens) (row : List ℤ) (w : length row ≡ p.cons.dim + 1) where
  pub answer_in_range : (s : Sup) → SupAnswer up row p.gens (Ok s) → IsFractionOf s
  answer_in_range sup.Empty a = tt
  answer_in_range sup.Unbounded a = tt
  answer_in_range (sup.At num den attained index) a = found_in_range up p k fits row w num den attained index a

pub answers_in_range : (up : Bool) (p : Polyhedron) → IsKept p → FitDimension p.gens → (row : List ℤ) → length row ≡ p.cons.dim + 1 → (r : Result Sup PairOver) → SupAnswer up row p.gens r → IfOk r IsFractionOf
answers_in_range up p k fits row w (Ok s) a = answer_in_range up p k fits row w s a
answers_in_range up p k fits row w (Err over) a = tt

-- ---- a bound holds at each point
least_of : (x y z : ℤ) → x ≤ℤ y → z ≡ y +ℤ neg_ℤ x → pos 0 ≤ℤ z
least_of x y z h e = omega (arith, ints, h, e)

above_of : (x y z : ℤ) → x ≤ℤ y → z ≡ y +ℤ neg_ℤ x → ¬ (x ≡ y) → (pos 0 <ℤ z) ⊎ ((z <ℤ pos 0) ⊎ (z ≡ pos 0)) → pos 0 <ℤ z
above_of x y z h e n (inl s) = s
above_of x y z h e n (inr (inl s)) = absurd (omega (arith, ints, h, e, s))
above_of x y z h e n (inr (inr s)) = absurd (n (omega (arith, ints, h, e, s)))

allowed : (attained : Bool) (x y z : ℤ) → x ≤ℤ y → z ≡ y +ℤ neg_ℤ x → (x ≡ y → IsTrue attained) → Allows (bound_kind attained) z
allowed true x y z h e n = least_of x y z h e
allowed false x y z h e n = above_of x y z h e (λ same. false≢true (n same)) (by_sign z)

lower_sum : (num den d c z : ℤ) → z ≡ neg_ℤ num *ℤ d +ℤ den *ℤ c → z ≡ den *ℤ c +ℤ neg_ℤ (num *ℤ d)
lower_sum num den d c z e = let n = neg-mul num d in omega (arith, ints, e, n)

upper_sum : (num den d c z : ℤ) → z ≡ num *ℤ d +ℤ neg_ℤ den *ℤ c → z ≡ num *ℤ d +ℤ neg_ℤ (den *ℤ c)
upper_sum num den d c z e = let n = neg-mul den c in omega (arith, ints, e, n)

module _ (p : Polyhedron) (j : ℕ) (l : j < p.cons.dim) (v : List ℤ) (within : IsWithin p.cons v) where
  value_is : dot (variable_row p.cons.dim j) v ≡ cell v j
  value_is = variable_value p.cons.dim j v l within.point.wide

  bound_allows : (up : Bool) (num den : ℤ) (attained : Bool) → IsSupremum up (variable_row p.cons.dim j) p.cons.dim (IsWithin p.cons) num den attained → Allows (bound_kind attained) (dot (bound_row up p.cons.dim j num den) v)
  bound_allows true num den attained s =
      allowed attained (den *ℤ dot (variable_row p.cons.dim j) v) (num *ℤ cell v p.cons.dim) (dot (bound_row true p.cons.dim j num den) v) (s.bound v within)
      (upper_sum num den (cell v p.cons.dim) (cell v j) (dot (bound_row true p.cons.dim j num den) v) (two_set p.cons.dim j num (neg_ℤ den) v l within.point.wide)
      ∙ ap (λ (c : ℤ). num *ℤ cell v p.cons.dim +ℤ neg_ℤ (den *ℤ c)) (sym value_is))
      (λ same. s.reached.1 (v, within, same))
  bound_allows false num den attained s =
      allowed attained (num *ℤ cell v p.cons.dim) (den *ℤ dot (variable_row p.cons.dim j) v) (dot (bound_row false p.cons.dim j num den) v) (s.bound v within)
      (lower_sum num den (cell v p.cons.dim) (cell v j) (dot (bound_row false p.cons.dim j num den) v) (two_set p.cons.dim j (neg_ℤ num) den v l within.point.wide)
      ∙ ap (λ (c : ℤ). den *ℤ c +ℤ neg_ℤ (num *ℤ cell v p.cons.dim)) (sym value_is))
      (λ same. s.reached.1 (v, within, sym same))

  bound_holds : (up : Bool) (s : Sup) (old new : List Constraint) → IsTrueSup up (variable_row p.cons.dim j) p s → GainsBound up p.cons.dim j s old new → All (Satisfies v) old → All (Satisfies v) new
  bound_holds up sup.Empty old new t g h = subst (All (Satisfies v)) (sym g) h
  bound_holds up sup.Unbounded old new t g h = subst (All (Satisfies v)) (sym g) h
  bound_holds up (sup.At num den attained index) old new t g h = gained_holds old new (bound_row up p.cons.dim j num den) (bound_kind attained) v g h (bound_allows up num den attained t)

  pub bounds_hold : (old new : List Constraint) → GainsBounds p j old new → All (Satisfies v) old → All (Satisfies v) new
  bounds_hold old new g h = bound_holds true g.high g.between new g.is_high g.upper (bound_holds false g.low old g.between g.is_low g.lower h)

pub all_bounds : (p : Polyhedron) (n : ℕ) (list : List Constraint) (v : List ℤ) → IsWithin p.cons v → n ≤ p.cons.dim → AreBounds p n list → All (Satisfies v) list
all_bounds p n list v w l none_yet = All-nil (Satisfies v)
all_bounds p n list v w l (one_more {k} {old} {new} before g) = bounds_hold p k (omega (arith, l)) v w old new g (all_bounds p k old v w (omega (arith, l)) before)
