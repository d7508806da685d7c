-- The steps of the search for the best point.
use Rattle.std.specs.Prelude.{◌≡◌, ◌⊎◌, ℕ, ◌<◌, ◌+◌, List, length, ℤ, Bool, true, false, cond, Err, Option, Some, None, ◌↔◌, IsTrue}
use Rattle.std.proofs.Math.IntN.{◌*ℤ◌}
use Rattle.std.proofs.Common.{sym, ◌∙◌, ap, refl, subst, inl, inr, below_more}
use Rattle.std.proofs.lemmas.Bool.{false≢true}
use Rattle.row_core.specs.Vectors.{cell, dot}
use Rattle.row_core.specs.Range.{InRange}
use Rattle.row_core.specs.declared.PairOver.{PairOver}
use Rattle.gens_sys.specs.Generators.{Generator, Generators, row_at, kind_at, FitDimension}
use Rattle.gens_sys.specs.declared.kind.GenKind.{GenKind}
use Rattle.optimum.specs.Values.{RowStays}
use Rattle.optimum.specs.declared.seeking.Best.{Best}
use Rattle.optimum.specs.Search.{IsPointKind, Improves, CompareStays, GoesOn, SeeksTo, NoneYet, IsHeld, Keeps, Replaces, TakesPlace, Chooses, CompareAnswer, CompareLeaves, VisitAnswer, compare_over}
use Rattle.optimum.proofs.BestLemmas.{best_once, first_best, same_best, replaced_best, kept_best, goes_point}

-- ---- a comparison
replaces_at : (up : Bool) (x y left right : ℤ) (nk ok k g : GenKind) (b : Bool) → left ≡ x → right ≡ y → nk ≡ k → ok ≡ g → IsTrue b ↔ Replaces up left right nk ok → IsTrue b ↔ Replaces up x y k g
replaces_at up x y left right nk ok k g b el er en eo h =
    subst (λ (z : ℤ). IsTrue b ↔ Replaces up z y k g) el
    (subst (λ (z : ℤ). IsTrue b ↔ Replaces up left z k g) er
    (subst (λ (z : GenKind). IsTrue b ↔ Replaces up left right z g) en
    (subst (λ (z : GenKind). IsTrue b ↔ Replaces up left right nk z) eo h)))

product_at : (x : ℤ) (v w : List ℤ) (d e : ℕ) → v ≡ w → d ≡ e → x *ℤ cell v d ≡ x *ℤ cell w e
product_at x v w d e p q = ap (λ (u : List ℤ). x *ℤ cell u d) p ∙ ap (λ (n : ℕ). x *ℤ cell w n) q

pub chosen : (up : Bool) (dim : ℕ) (list : List Generator) (best : Best) (i : ℕ) (value : ℤ) (b : Best) (new old : List ℤ) (d : ℕ) (left right : ℤ) (nk ok : GenKind) (r : Bool) → new ≡ row_at list i → old ≡ row_at list best.index → d ≡ dim → InRange (best.value *ℤ cell new d) × (left ≡ best.value *ℤ cell new d) → InRange (value *ℤ cell old d) × (right ≡ value *ℤ cell old d) → nk ≡ kind_at list i → ok ≡ kind_at list best.index → IsTrue r ↔ Replaces up left right nk ok → b ≡ cond r (record { index = i; value = value }) best → Chooses up dim list best i value b
chosen up dim list best i value b new old d left right nk ok r en eo ed hl hr ek eg h c =
    let pl = product_at best.value new (row_at list i) d dim en ed in
    let pr = product_at value old (row_at list best.index) d dim eo ed in
    let step = replaces_at up (best.value *ℤ cell (row_at list i) dim) (value *ℤ cell (row_at list best.index) dim) left right nk ok (kind_at list i) (kind_at list best.index) r (hl.1 ∙ pl) (hr.1 ∙ pr) ek eg h in
    record { left = subst InRange pl hl.0; right = subst InRange pr hr.0; choice = by r step c }
  where
    by : (r : Bool) → IsTrue r ↔ TakesPlace up dim list best i value → b ≡ cond r (record { index = i; value = value }) best → (TakesPlace up dim list best i value × (b ≡ record { index = i; value = value })) ⊎ (¬ (TakesPlace up dim list best i value) × (b ≡ best))
    by true s e = inl (s.0 refl, e)
    by false s e = inr ((λ p. false≢true (s.1 p)), e)

module _ (up : Bool) (row : List ℤ) (gs : Generators) (fits : FitDimension gs) (i : ℕ) (h : i < length gs.list) (x : ℤ) (k : GenKind) (value : (x ≡ dot row (row_at gs.list i)) × RowStays row gs.list i) (range : InRange x) (kind : k ≡ kind_at gs.list i) where
  improves_at : Improves up (kind_at gs.list i) (dot row (row_at gs.list i)) → Improves up k x
  improves_at p = subst (λ (g : GenKind). Improves up g x) (sym kind) (subst (λ (z : ℤ). Improves up (kind_at gs.list i) z) (sym value.0) p)

  pub stops : Improves up k x → RowStays row gs.list i × Improves up (kind_at gs.list i) (dot row (row_at gs.list i))
  stops p = (value.1, subst (λ (z : ℤ). Improves up (kind_at gs.list i) z) value.0 (subst (λ (g : GenKind). Improves up g x) kind p))

  module _ (bounded : ¬ (Improves up k x)) where
    other_kind : ¬ (IsPointKind k) → ¬ (IsPointKind (kind_at gs.list i))
    other_kind n p = n (subst IsPointKind (sym kind) p)

    pub goes_other : ¬ (IsPointKind k) → GoesOn up row gs.dim gs.list i
    goes_other n = record { stays = value.1; bounded = λ p. bounded (improves_at p); compared = λ p. absurd (other_kind n p) }

    pub keeps_other : (best : Option Best) → ¬ (IsPointKind k) → Keeps up row gs.dim gs.list i best → Keeps up row gs.dim gs.list (i + 1) best
    keeps_other None n none = below_more (λ j. ¬ (IsPointKind (kind_at gs.list j))) i none (other_kind n)
    keeps_other (Some b) n held = record {
      value = held.value;
      range = held.range;
      best = same_best up row gs fits i b.index held.best (λ p. absurd (other_kind n p)) (λ g. absurd (other_kind n (goes_point (kind_at gs.list i) (kind_at gs.list b.index) i b.index g)));
    }

    point_at : IsPointKind k → IsPointKind (kind_at gs.list i)
    point_at p = subst IsPointKind kind p

    pub goes_first : NoneYet gs.list i → GoesOn up row gs.dim gs.list i
    goes_first none = record { stays = value.1; bounded = λ p. bounded (improves_at p); compared = λ p b best. absurd (none b best.below best.kind) }

    pub keeps_first : NoneYet gs.list i → IsPointKind k → IsHeld up row gs.dim gs.list (i + 1) (record { index = i; value = x })
    keeps_first none p = record { value = value.0; range = range; best = first_best up row gs fits i none (point_at p) }

    module _ (best : Best) (held : IsHeld up row gs.dim gs.list i best) (point : IsPointKind k) where
      -- the products by which the values of the best and of generator i are compared
      abbrev left : ℤ → ℤ
      left v = v *ℤ cell (row_at gs.list i) gs.dim

      abbrev right : ℤ → ℤ
      right v = v *ℤ cell (row_at gs.list best.index) gs.dim

      abbrev Replacing : ℤ → ℤ → Type 0
      Replacing v w = Replaces up (left v) (right w) (kind_at gs.list i) (kind_at gs.list best.index)

      compare_range : InRange (left best.value) → InRange (right x) → CompareStays row gs.dim gs.list best.index i
      compare_range l r = record { left = subst (λ (z : ℤ). InRange (left z)) held.value l; right = subst (λ (z : ℤ). InRange (right z)) value.0 r }

      pub goes_chosen : (b : Best) → Chooses up gs.dim gs.list best i x b → GoesOn up row gs.dim gs.list i
      goes_chosen b c = record {
        stays = value.1;
        bounded = λ p. bounded (improves_at p);
        compared = λ p other is. subst (λ (n : ℕ). CompareStays row gs.dim gs.list n i) (best_once up row gs fits i best.index other held.best is) (compare_range c.left c.right);
      }

      exact : Replacing best.value x → Replacing (dot row (row_at gs.list best.index)) (dot row (row_at gs.list i))
      exact r = subst (λ (z : ℤ). Replacing (dot row (row_at gs.list best.index)) z) value.0 (subst (λ (z : ℤ). Replacing z x) held.value r)

      back : Replacing (dot row (row_at gs.list best.index)) (dot row (row_at gs.list i)) → Replacing best.value x
      back r = subst (λ (z : ℤ). Replacing best.value z) (sym value.0) (subst (λ (z : ℤ). Replacing z (dot row (row_at gs.list i))) (sym held.value) r)

      pub keeps_chosen : (b : Best) → Chooses up gs.dim gs.list best i x b → IsHeld up row gs.dim gs.list (i + 1) b
      keeps_chosen b c = by c.choice
        where
          by : (TakesPlace up gs.dim gs.list best i x × (b ≡ record { index = i; value = x })) ⊎ (¬ (TakesPlace up gs.dim gs.list best i x) × (b ≡ best)) → IsHeld up row gs.dim gs.list (i + 1) b
          by (inl (r, e)) = subst (IsHeld up row gs.dim gs.list (i + 1)) (sym e) (record { value = value.0; range = range; best = replaced_best up row gs fits i best.index h held.best (point_at point) (exact r) })
          by (inr (n, e)) = subst (IsHeld up row gs.dim gs.list (i + 1)) (sym e) (record { value = held.value; range = held.range; best = kept_best up row gs fits i best.index h held.best (point_at point) (λ r. n (back r)) })

      pub compare_leaves : (over : PairOver) → CompareAnswer up gs.dim gs.list best i x (Err over) → VisitAnswer up row gs.dim gs.list i (Err over)
      compare_leaves over (e, n) = subst (λ (o : PairOver). VisitAnswer up row gs.dim gs.list i (Err o)) (sym e) (refl, refl, inr leaves)
        where
          leaves : CompareLeaves up row gs.dim gs.list (compare_over best.index i gs.dim)
          leaves = record {
            kind = refl;
            stays = value.1;
            point = point_at point;
            best = held.best;
            leaves = λ s. n (subst (λ (z : ℤ). InRange (left z)) (sym held.value) s.left, subst (λ (z : ℤ). InRange (right z)) (sym value.0) s.right);
            column = refl;
          }

pub seeks_more : (up : Bool) (row : List ℤ) (dim : ℕ) (list : List Generator) (n : ℕ) → SeeksTo up row dim list n → GoesOn up row dim list n → SeeksTo up row dim list (n + 1)
seeks_more up row dim list n h k = below_more (GoesOn up row dim list) n h k
