-- Rows related to those of a system, mark by mark: they are the rows of lines and rays too.
use Rattle.std.proofs.Common.{◌≡◌, Bool, true, false, List, [], ◌∷◌, map, ℤ, refl, ap, ◌∙◌, arith}
use Rattle.std.proofs.lemmas.List.{nil_from_length}
use Rattle.row_core.specs.Content.{IsPrimitiveOf}
use Rattle.row_core.specs.Lists.{Row, Pointwise, system_rows}
use Rattle.row_core.proofs.PointwiseLemmas.{pointwise_nil, pointwise_tail, pointwise_cons}
use Rattle.cons_sys.specs.Constraints.{Constraint}
use Rattle.gens_sys.specs.Kinds.{IsZeroDirection, is_line}
use Rattle.gens_sys.specs.Generators.{Generator}
use Rattle.std.specs.Prelude.{All}
use Rattle.std.proofs.lemmas.List.Elements.{All-head, All-tail}
use Rattle.stored_systems.specs.WorkLists.{constraint_row, generator_row}
use Rattle.mapped_systems.specs.MappedLists.{AreMapped, nothing, left_out, kept, ArePulled, none_pulled, one_pulled}

-- ---- lists of which each element is mapped
pub pointwise_map : {A B C D : Type 0} (R : A → B → Type 0) (S : C → D → Type 0) (f : A → C) (g : B → D) → ((x : A) (y : B) → R x y → S (f x) (g y)) → (xs : List A) (ys : List B) → Pointwise R xs ys → Pointwise S (map f xs) (map g ys)
pointwise_map R S f g h [] [] p = pointwise_nil S
pointwise_map R S f g h [] (y ∷ ys) p = absurd (omega (arith, p.as_many))
pointwise_map R S f g h (x ∷ xs) [] p = absurd (omega (arith, p.as_many))
pointwise_map R S f g h (x ∷ xs) (y ∷ ys) p = pointwise_cons S (f x) (map f xs) (g y) (map g ys) (h x y (p.each 0 x y (omega arith))) (pointwise_map R S f g h xs ys (pointwise_tail R x xs y ys p))

-- the vectors are related, and the marks are the same
abbrev pub AreRowsBy : (List ℤ → List ℤ → Type 0) → Row → Row → Type 0
AreRowsBy R x y = R x.0 y.0 × (y.1 ≡ x.1)

-- the lines and rays that rows stand for, related to those of a system
pub record AreSplit (R : List ℤ → List ℤ → Type 0) (lines rays : List (List ℤ)) (new : List Row) : Type 0 where
  pub first : List (List ℤ)
  pub rest : List (List ℤ)
  pub listed : new ≡ system_rows first rest
  pub first_related : Pointwise R lines first
  pub rest_related : Pointwise R rays rest

module _ (R : List ℤ → List ℤ → Type 0) where
  split_rays : (rays : List (List ℤ)) (new : List Row) → Pointwise (AreRowsBy R) (map (λ r. (r, false)) rays) new → AreSplit R [] rays new
  split_rays [] new p = record { first = []; rest = []; listed = nil_from_length new p.as_many; first_related = pointwise_nil R; rest_related = pointwise_nil R }
  split_rays (r ∷ rays) [] p = absurd (omega (arith, p.as_many))
  split_rays (r ∷ rays) ((v, mark) ∷ new) p =
      let head : AreRowsBy R (r, false) (v, mark) = p.each 0 (r, false) (v, mark) (omega arith) in
      let s : AreSplit R [] rays new = split_rays rays new (pointwise_tail (AreRowsBy R) (r, false) (map (λ x. (x, false)) rays) (v, mark) new p) in
      let none : s.first ≡ [] = nil_from_length s.first s.first_related.as_many in
      record {
        first = [];
        rest = v ∷ s.rest;
        listed = ap (λ (b : Bool). (v, b) ∷ new) head.1 ∙ ap (λ (rows : List Row). (v, false) ∷ rows) (s.listed ∙ ap (λ (ls : List (List ℤ)). system_rows ls s.rest) none);
        first_related = pointwise_nil R;
        rest_related = pointwise_cons R r rays v s.rest head.0 s.rest_related;
      }

  pub split_rows : (lines rays : List (List ℤ)) (new : List Row) → Pointwise (AreRowsBy R) (system_rows lines rays) new → AreSplit R lines rays new
  split_rows [] rays new p = split_rays rays new p
  split_rows (l ∷ lines) rays [] p = absurd (omega (arith, p.as_many))
  split_rows (l ∷ lines) rays ((v, mark) ∷ new) p =
      let head : AreRowsBy R (l, true) (v, mark) = p.each 0 (l, true) (v, mark) (omega arith) in
      let s : AreSplit R lines rays new = split_rows lines rays new (pointwise_tail (AreRowsBy R) (l, true) (system_rows lines rays) (v, mark) new p) in
      record {
        first = v ∷ s.first;
        rest = s.rest;
        listed = ap (λ (b : Bool). (v, b) ∷ new) head.1 ∙ ap (λ (rows : List Row). (v, true) ∷ rows) s.listed;
        first_related = pointwise_cons R l lines v s.first head.0 s.first_related;
        rest_related = s.rest_related;
      }

-- ---- generators and constraints
-- a generator is mapped, and keeps its kind
abbrev pub KeepsKind : (List ℤ → List ℤ) → Generator → Generator → Type 0
KeepsKind f x y = IsPrimitiveOf (f x.0) y.0 × (y.1 ≡ x.1)

abbrev StaysDirection : (List ℤ → List ℤ) → Generator → Type 0
StaysDirection f g = ¬ (IsZeroDirection g.1 (f g.0))

pub all_kept : (f : List ℤ → List ℤ) (old new : List Generator) → AreMapped f old new → All (λ (g : Generator). ¬ (IsZeroDirection g.1 (f g.0))) old → Pointwise (λ (x y : Generator). IsPrimitiveOf (f x.0) y.0 × (y.1 ≡ x.1)) old new
all_kept f [] [] nothing n = pointwise_nil (KeepsKind f)
all_kept f [] (_ ∷ new) a n = elim a [ ]
all_kept f (g ∷ old) new (left_out z a) n = absurd (All-head (StaysDirection f) g old n z)
all_kept f ((v, kind) ∷ old) ((w, kind2) ∷ new) (kept m p a) n = pointwise_cons (KeepsKind f) (v, kind) old (w, kind) new (p, refl) (all_kept f old new a (All-tail (StaysDirection f) (v, kind) old n))

pub kept_rows : (f : List ℤ → List ℤ) (old new : List Generator) → Pointwise (λ (x y : Generator). IsPrimitiveOf (f x.0) y.0 × (y.1 ≡ x.1)) old new → Pointwise (λ (x y : Row). IsPrimitiveOf (f x.0) y.0 × (y.1 ≡ x.1)) (map generator_row old) (map generator_row new)
kept_rows f old new p = pointwise_map (KeepsKind f) (AreRowsBy (λ v w. IsPrimitiveOf (f v) w)) generator_row generator_row (λ x y h. (h.0, ap is_line h.1)) old new p

pub pulled_rows : (g : List ℤ → List ℤ) (old new : List Constraint) → ArePulled g old new → Pointwise (λ (x y : Row). IsPrimitiveOf (g x.0) y.0 × (y.1 ≡ x.1)) (map constraint_row old) (map constraint_row new)
pulled_rows g [] [] none_pulled = pointwise_nil (AreRowsBy (λ v w. IsPrimitiveOf (g v) w))
pulled_rows g [] (_ ∷ new) p = elim p [ ]
pulled_rows g (_ ∷ old) [] p = elim p [ ]
pulled_rows g ((row, kind) ∷ old) ((stored, kind2) ∷ new) (one_pulled p rest) = pointwise_cons (AreRowsBy (λ v w. IsPrimitiveOf (g v) w)) (constraint_row (row, kind)) (map constraint_row old) (constraint_row (stored, kind)) (map constraint_row new) (p, refl) (pulled_rows g old new rest)
