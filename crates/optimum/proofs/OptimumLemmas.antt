-- Answers of sup and inf: one for each list, and true of the points.
use Rattle.std.specs.Prelude.{◌≡◌, ◌⊎◌, ℕ, ◌<◌, List, [], ◌∷◌, length, ℤ, pos, Bool, Result, Ok, Err, ◌↔◌, IfOk, IsTrue}
use Rattle.std.proofs.Common.{arith, sym, ◌∙◌, ap, refl, subst, inl, inr}
use Rattle.std.proofs.lemmas.Bool.{cases_order}
use Rattle.std.proofs.lemmas.Bool.Decides.{same_from_decides}
use Rattle.row_core.specs.Vectors.{cell, dot}
use Rattle.row_core.specs.declared.PairOver.{PairOver}
use Rattle.gens_sys.specs.Generators.{Generators, row_at, kind_at, FitDimension}
use Rattle.gens_sys.specs.declared.kind.GenKind.{GenKind}
use Rattle.gens_sys.specs.declared.kind.GenKind.TheVariants.{Line, Ray, Point, ClosurePoint}
use Rattle.stored_systems.specs.PointSets.{IsWithin}
use Rattle.poly_pair.specs.Polyhedra.{Polyhedron, HasNoPoint, IsKept}
use Rattle.poly_pair.proofs.StoredLemmas.{none_kept, kept_dim}
use Rattle.set_laws.specs.Asking.{IsMember}
use Rattle.optimum.specs.Values.{RowStays, DotLeaves}
use Rattle.optimum.specs.Search.{IsPointKind, Improves, IsBest, GoesOn, SeeksTo, IsEndless, CompareLeaves, SeekLeaves, IsHeld}
use Rattle.row_core.specs.Content.{IsPrimitive, IsPrimitiveOf, IsMultipleOf}
use Rattle.optimum.specs.declared.seeking.Best.{Best}
use Rattle.optimum.specs.Suprema.{HasBeyond, IsSupremum, IsUnbounded, IsTrueSup, IsFound, SupAnswer}
use Rattle.optimum.specs.Laws.{HasOneSup}
use Rattle.optimum.specs.declared.outcome.Sup.{Sup}
use Rattle.optimum.specs.declared.outcome.Sup.TheVariants as sup
use Rattle.row_core.proofs.OnePrimitive.{IsPrimitiveOf-once}
use Rattle.optimum.proofs.MemberLemmas.{members, proper}
use Rattle.optimum.proofs.ValueLemmas.{same_over, dot_ends, same_dot}
use Rattle.optimum.proofs.BestLemmas.{best_once}
use Rattle.optimum.proofs.OneBound.{unbounded_exactly}
use Rattle.optimum.proofs.SupremumLemmas.{endless_unbounded, supremum}

module _ (up : Bool) (row : List ℤ) (gs : Generators) (fits : FitDimension gs) where
  -- a generator at which the search ends
  record Ends (i : ℕ) : Type 0 where
    generator : i < length gs.list
    reached : SeeksTo up row gs.dim gs.list i
    ends : ¬ (GoesOn up row gs.dim gs.list i)

  same_end : (i j : ℕ) → Ends i → Ends j → i ≡ j
  same_end i j a b =
      elim (cases_order i j) [
        | inl e ↦ e
        | inr (inl less) ↦ absurd (a.ends (b.reached i less))
        | inr (inr more) ↦ absurd (b.ends (a.reached j more))
      ]

  endless_ends : (i : ℕ) → IsEndless up row gs.dim gs.list i → Ends i
  endless_ends i e = record { generator = e.generator; reached = e.reached; ends = λ g. g.bounded e.improves }

  leaves_ends : (over : PairOver) → SeekLeaves up row gs.dim gs.list over → Ends over.right
  leaves_ends over l = record { generator = l.generator; reached = l.reached; ends = by l.cause }
    where
      by : DotLeaves row gs.list over ⊎ CompareLeaves up row gs.dim gs.list over → ¬ (GoesOn up row gs.dim gs.list over.right)
      by (inl d) g = dot_ends row gs.list over d g.stays
      by (inr c) g = c.leaves (g.compared c.point over.left c.best)

  no_improving_point : (g : GenKind) (x : ℤ) → IsPointKind g → Improves up g x → ⊥
  no_improving_point Line x p i = p
  no_improving_point Ray x p i = p
  no_improving_point Point x p i = i
  no_improving_point ClosurePoint x p i = i

  endless_or_leaves : (i : ℕ) (over : PairOver) → IsEndless up row gs.dim gs.list i → SeekLeaves up row gs.dim gs.list over → ⊥
  endless_or_leaves i over e l = by (subst (IsEndless up row gs.dim gs.list) (same_end i over.right (endless_ends i e) (leaves_ends over l)) e) l.cause
    where
      by : IsEndless up row gs.dim gs.list over.right → DotLeaves row gs.list over ⊎ CompareLeaves up row gs.dim gs.list over → ⊥
      by e (inl d) = dot_ends row gs.list over d e.stays
      by e (inr c) = no_improving_point (kind_at gs.list over.right) (dot row (row_at gs.list over.right)) c.point e.improves

  -- no two refusals
  leaves_once : (a b : PairOver) → SeekLeaves up row gs.dim gs.list a → SeekLeaves up row gs.dim gs.list b → a ≡ b
  leaves_once a b p q = by (same_end a.right b.right (leaves_ends a p) (leaves_ends b q)) p.cause q.cause
    where
      by : a.right ≡ b.right → DotLeaves row gs.list a ⊎ CompareLeaves up row gs.dim gs.list a → DotLeaves row gs.list b ⊎ CompareLeaves up row gs.dim gs.list b → a ≡ b
      by e (inl d) (inl f) = same_dot row gs.list a b e (p.turned ∙ sym q.turned) d f
      by e (inl d) (inr f) = absurd (dot_ends row gs.list a d (subst (λ (k : ℕ). RowStays row gs.list k) (sym e) f.stays))
      by e (inr d) (inl f) = absurd (dot_ends row gs.list b f (subst (λ (k : ℕ). RowStays row gs.list k) e d.stays))
      by e (inr d) (inr f) = same_over a b (d.kind ∙ sym f.kind)
          (best_once up row gs fits b.right a.left b.left (subst (λ (k : ℕ). IsBest up row gs.dim gs.list k a.left) e d.best) f.best)
          e (d.column ∙ sym f.column) (p.turned ∙ sym q.turned)

  no_generator : gs.list ≡ [] → (i : ℕ) → i < length gs.list → ⊥
  no_generator e i h = omega (arith, ap length e, h)

  empty_if : gs.list ≡ [] → (r : Result Sup PairOver) → SupAnswer up row gs r → r ≡ Ok sup.Empty
  empty_if e (Ok sup.Empty) a = refl
  empty_if e (Ok sup.Unbounded) (i, endless) = absurd (no_generator e i endless.generator)
  empty_if e (Ok (sup.At num den attained index)) a = absurd (no_generator e index a.best.below)
  empty_if e (Err over) a = absurd (no_generator e over.right a.generator)

  found_leaves : SeeksTo up row gs.dim gs.list (length gs.list) → (over : PairOver) → SeekLeaves up row gs.dim gs.list over → ⊥
  found_leaves s over l = (leaves_ends over l).ends (s over.right l.generator)

  back : (r : Result Sup PairOver) → SupAnswer up row gs r → (over : PairOver) → SeekLeaves up row gs.dim gs.list over → r ≡ Err over
  back (Ok sup.Empty) a over l = absurd (no_generator a over.right l.generator)
  back (Ok sup.Unbounded) (i, e) over l = absurd (endless_or_leaves i over e l)
  back (Ok (sup.At num den attained index)) a over l = absurd (found_leaves a.reached over l)
  back (Err o) a over l = ap (λ (x : PairOver). Err x) (leaves_once o over a l)

  sup_refusal_exactly : (r : Result Sup PairOver) → SupAnswer up row gs r → (over : PairOver) → (r ≡ Err over) ↔ SeekLeaves up row gs.dim gs.list over
  sup_refusal_exactly r a over = ((λ e. subst (SupAnswer up row gs) e a), back r a over)

  found_endless : SeeksTo up row gs.dim gs.list (length gs.list) → (i : ℕ) → IsEndless up row gs.dim gs.list i → ⊥
  found_endless s i e = (endless_ends i e).ends (s i e.generator)

  found_once : (num den other under : ℤ) (attained also : Bool) (a b : ℕ) → IsFound up row gs num den attained a → IsFound up row gs other under also b → sup.At num den attained a ≡ sup.At other under also b
  found_once num den other under attained also a b f g =
      let at : a ≡ b = best_once up row gs fits (length gs.list) a b f.best g.best in
      let there : IsFound up row gs other under also a = subst (IsFound up row gs other under also) (sym at) g in
      let e = IsPrimitiveOf-once (dot row (row_at gs.list a) ∷ cell (row_at gs.list a) gs.dim ∷ []) (num ∷ den ∷ []) (other ∷ under ∷ []) f.lowest there.lowest in
      let n : num ≡ other = ap (λ (v : List ℤ). cell v 0) e in
      let d : den ≡ under = ap (λ (v : List ℤ). cell v 1) e in
      let t : attained ≡ also = same_from_decides attained also f.point there.point in
      cc

  sup_once : (r s : Result Sup PairOver) → SupAnswer up row gs r → SupAnswer up row gs s → r ≡ s
  sup_once r (Err over) a b = back r a over b
  sup_once (Err over) s a b = sym (back s b over a)
  sup_once (Ok sup.Empty) s a b = sym (empty_if a s b)
  sup_once r (Ok sup.Empty) a b = empty_if b r a
  sup_once (Ok sup.Unbounded) (Ok sup.Unbounded) a b = refl
  sup_once (Ok sup.Unbounded) (Ok (sup.At num den attained index)) (i, e) b = absurd (found_endless b.reached i e)
  sup_once (Ok (sup.At num den attained index)) (Ok sup.Unbounded) a (i, e) = absurd (found_endless a.reached i e)
  sup_once (Ok (sup.At num den attained a)) (Ok (sup.At other under also b)) f g = ap (λ (x : Sup). Ok x) (found_once num den other under attained also a b f g)

pub one_sup : HasOneSup
one_sup up row gs fits r s a b = sup_once up row gs fits r s a b

-- ---- true of the points
module _ (up : Bool) (row : List ℤ) (dim : ℕ) (Has Within : List ℤ → Type 0) (both : (v : List ℤ) → Has v ↔ Within v) where
  beyond_within : (m k : ℤ) → HasBeyond up row dim Has m k → HasBeyond up row dim Within m k
  beyond_within m k (v, h, s) = (v, (both v).0 h, s)

  supremum_within : (num den : ℤ) (attained : Bool) → IsSupremum up row dim Has num den attained → IsSupremum up row dim Within num den attained
  supremum_within num den attained s = record {
    lowest = s.lowest;
    positive = s.positive;
    bound = λ v w. s.bound v ((both v).1 w);
    reached = (
      (λ t. let (v, h, e) = s.reached.0 t in (v, (both v).0 h, e)),
      (λ w. s.reached.1 (w.0, (both w.0).1 w.1, w.2)),
    );
    nearest = λ m k p h. beyond_within m k (s.nearest m k p h);
  }

module _ (up : Bool) (row : List ℤ) (p : Polyhedron) (k : IsKept p) (fits : FitDimension p.gens) where
  pub sup_true : (r : Result Sup PairOver) → SupAnswer up row p.gens r → IfOk r (IsTrueSup up row p)
  sup_true (Ok sup.Empty) a = (none_kept p k).0 a
  sup_true (Ok sup.Unbounded) (i, e) = λ bound.
      subst (λ (n : ℕ). HasBeyond up row n (IsWithin p.cons) bound (pos 1)) (kept_dim p k)
      (beyond_within up row p.gens.dim (IsMember p.gens) (IsWithin p.cons) (members p k) bound (pos 1) (endless_unbounded up row p.gens fits (proper p k) i e.generator e.improves bound))
  sup_true (Ok (sup.At num den attained index)) a =
      subst (λ (n : ℕ). IsSupremum up row n (IsWithin p.cons) num den attained) (kept_dim p k)
      (supremum_within up row p.gens.dim (IsMember p.gens) (IsWithin p.cons) (members p k) num den attained (supremum up row p.gens fits (proper p k) a.reached index a.best num den a.lowest attained a.point))
  sup_true (Err o) a = tt

  pub sup_empty : (r : Result Sup PairOver) → SupAnswer up row p.gens r → (r ≡ Ok sup.Empty) ↔ HasNoPoint p
  sup_empty r a = ((λ e. (none_kept p k).0 (subst (SupAnswer up row p.gens) e a)), (λ none. empty_if up row p.gens fits ((none_kept p k).1 none) r a))

  pub sup_unbounded : (r : Result Sup PairOver) → SupAnswer up row p.gens r → IfOk r (λ s. (s ≡ sup.Unbounded) ↔ IsUnbounded up row p)
  sup_unbounded (Ok s) a = unbounded_exactly up row p s (sup_true (Ok s) a)
  sup_unbounded (Err over) a = tt

  pub sup_over : (r : Result Sup PairOver) → SupAnswer up row p.gens r → (over : PairOver) → (r ≡ Err over) ↔ SeekLeaves up row p.gens.dim p.gens.list over
  sup_over r a over = sup_refusal_exactly up row p.gens fits r a over

-- ---- an answer from the best point
pair_is : (v : List ℤ) → length v ≡ 2 → v ≡ cell v 0 ∷ cell v 1 ∷ []
pair_is [] e = absurd (omega (arith, e))
pair_is (x ∷ []) e = absurd (omega (arith, e))
pair_is (x ∷ y ∷ []) e = refl
pair_is (x ∷ y ∷ z ∷ v) e = absurd (omega (arith, e))

pub lowest_pair : (num den : ℤ) (v : List ℤ) → length v ≡ 2 → IsMultipleOf (num ∷ den ∷ []) v → IsPrimitive v → IsPrimitiveOf (num ∷ den ∷ []) (cell v 0 ∷ cell v 1 ∷ [])
lowest_pair num den v e m p = subst (IsPrimitiveOf (num ∷ den ∷ [])) (pair_is v e) (record { multiple = m; primitive = p })

pub found_by : (up : Bool) (row : List ℤ) (gs : Generators) (b : Best) (num den d : ℤ) (attained : Bool) (k : GenKind) → SeeksTo up row gs.dim gs.list (length gs.list) × IsHeld up row gs.dim gs.list (length gs.list) b → d ≡ cell (row_at gs.list b.index) gs.dim → IsPrimitiveOf (b.value ∷ d ∷ []) (num ∷ den ∷ []) → k ≡ kind_at gs.list b.index → IsTrue attained ↔ k ≡ Point → IsFound up row gs num den attained b.index
found_by up row gs b num den d attained k (seeks, held) ed low ek at = record {
  reached = seeks;
  best = held.best;
  lowest = subst (λ (x : ℤ). IsPrimitiveOf (x ∷ cell (row_at gs.list b.index) gs.dim ∷ []) (num ∷ den ∷ [])) held.value (subst (λ (x : ℤ). IsPrimitiveOf (b.value ∷ x ∷ []) (num ∷ den ∷ [])) ed low);
  point = subst (λ (x : GenKind). IsTrue attained ↔ x ≡ Point) ek at;
}

pub cell_at : (v w : List ℤ) (d e : ℕ) → v ≡ w → d ≡ e → cell v d ≡ cell w e
cell_at v w d e p q = ap (λ (u : List ℤ). cell u d) p ∙ ap (λ (n : ℕ). cell w n) q
