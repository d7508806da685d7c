-- Where constraints hold whose rows are mapped.
use Rattle.std.proofs.Common.{◌≡◌, ℕ, ◌+◌, List, [], ◌∷◌, slice_index_or, ℤ, pos, ◌*ℤ◌, ◌<◌, ◌<ℤ◌, sym, ap, ◌∙◌, arith, All}
use Rattle.std.proofs.lemmas.Int.{ints}
use Rattle.std.proofs.lemmas.List.Elements.{All-nil, All-cons, All-head, All-tail}
use Rattle.row_core.specs.Vectors.{dot, scale}
use Rattle.row_core.specs.Points.{IsPoint}
use Rattle.row_core.specs.Content.{IsPrimitiveOf}
use Rattle.cone_laws.proofs.Columns.{length-scale, dot_comm, dot-scale}
use Rattle.cons_sys.specs.Constraints.{Constraint, Constraints, FitDimension, Satisfies}
use Rattle.cons_sys.proofs.Signs.{same_sign, SameSign, Allows-same_sign}
use Rattle.stored_systems.specs.PointSets.{IsClosedKind}
use Rattle.mapped_systems.specs.Maps.{substituted, pulled_back, with_zeros, without}
use Rattle.mapped_systems.specs.MappedLists.{ArePulled, none_pulled, one_pulled}
use Rattle.mapped_systems.proofs.ColumnLemmas.{dot-with_zeros, dot-pulled_back}

-- the value of the mapped row at the vector is that of the row at the mapped vector
abbrev pub MeetsAt : (List ℤ → List ℤ) → (List ℤ → List ℤ) → List ℤ → Constraint → Type 0
MeetsAt f g v c = dot (f c.0) v ≡ dot c.0 (g v)

abbrev At : List ℤ → Constraint → Type 0
At v c = Satisfies v c

pub positive_times : (n : ℕ) → 0 < n → pos 0 <ℤ pos n
positive_times n h = omega (arith, ints, h)

pub one_times : (x y : ℤ) → x ≡ y → x ≡ pos 1 *ℤ y
one_times x y e = omega (arith, ints, e)

-- the stored row has the value's sign
pub stored_value : (row stored v : List ℤ) (p : IsPrimitiveOf row stored) → dot row v ≡ pos p.multiple.times *ℤ dot stored v
stored_value row stored v p = ap (λ (w : List ℤ). dot w v) p.multiple.same ∙ dot_comm (scale (pos p.multiple.times) stored) v ∙ dot-scale v (pos p.multiple.times) stored ∙ ap (λ (z : ℤ). pos p.multiple.times *ℤ z) (dot_comm v stored)

module _ (f g : List ℤ → List ℤ) (v : List ℤ) where
  to_old : (row stored : List ℤ) → IsPrimitiveOf (f row) stored → dot (f row) v ≡ dot row (g v) → SameSign (dot stored v) (dot row (g v))
  to_old row stored p e = same_sign (pos p.multiple.times) (pos 1) (dot stored v) (dot row (g v)) (positive_times p.multiple.times p.multiple.positive) (omega (arith, ints)) (one_times (pos p.multiple.times *ℤ dot stored v) (dot row (g v)) (sym (stored_value (f row) stored v p) ∙ e))

  to_new : (row stored : List ℤ) → IsPrimitiveOf (f row) stored → dot (f row) v ≡ dot row (g v) → SameSign (dot row (g v)) (dot stored v)
  to_new row stored p e = same_sign (pos 1) (pos p.multiple.times) (dot row (g v)) (dot stored v) (omega (arith, ints)) (positive_times p.multiple.times p.multiple.positive) (sym (one_times (pos p.multiple.times *ℤ dot stored v) (dot row (g v)) (sym (stored_value (f row) stored v p) ∙ e)))

  pub pulled_holds : (old new : List Constraint) → ArePulled f old new → All (MeetsAt f g v) old → All (Satisfies v) new → All (Satisfies (g v)) old
  pulled_holds [] [] none_pulled m h = All-nil (At (g v))
  pulled_holds [] (_ ∷ new) p m h = elim p [ ]
  pulled_holds (_ ∷ old) [] p m h = elim p [ ]
  pulled_holds ((row, kind) ∷ old) ((stored, kind2) ∷ new) (one_pulled p rest) m h =
      All-cons (At (g v)) (row, kind) old
      (Allows-same_sign kind (dot stored v) (dot row (g v)) (to_old row stored p (All-head (MeetsAt f g v) (row, kind) old m)) (All-head (At v) (stored, kind) new h))
      (pulled_holds old new rest (All-tail (MeetsAt f g v) (row, kind) old m) (All-tail (At v) (stored, kind) new h))

  pub holds_pulled : (old new : List Constraint) → ArePulled f old new → All (MeetsAt f g v) old → All (Satisfies (g v)) old → All (Satisfies v) new
  holds_pulled [] [] none_pulled m h = All-nil (At v)
  holds_pulled [] (_ ∷ new) p m h = elim p [ ]
  holds_pulled (_ ∷ old) [] p m h = elim p [ ]
  holds_pulled ((row, kind) ∷ old) ((stored, kind2) ∷ new) (one_pulled p rest) m h =
      All-cons (At v) (stored, kind) new
      (Allows-same_sign kind (dot row (g v)) (dot stored v) (to_new row stored p (All-head (MeetsAt f g v) (row, kind) old m)) (All-head (At (g v)) (row, kind) old h))
      (holds_pulled old new rest (All-tail (MeetsAt f g v) (row, kind) old m) (All-tail (At (g v)) (row, kind) old h))

-- ---- kinds
abbrev IsClosed : Constraint → Type 0
IsClosed c = IsClosedKind c.1

pub closed_kinds : (f : List ℤ → List ℤ) (old new : List Constraint) → ArePulled f old new → All IsClosed old → All IsClosed new
closed_kinds f [] [] none_pulled h = All-nil IsClosed
closed_kinds f [] (_ ∷ new) a h = elim a [ ]
closed_kinds f (_ ∷ old) [] a h = elim a [ ]
closed_kinds f ((row, kind) ∷ old) ((stored, kind2) ∷ new) (one_pulled p a) h = All-cons IsClosed (stored, kind) new (All-head IsClosed (row, kind) old h) (closed_kinds f old new a (All-tail IsClosed (row, kind) old h))

-- ---- maps
-- a variable replaced
pub replaced_meets : (var : ℕ) (expr : List ℤ) (den : ℤ) (cs : Constraints) → FitDimension cs → var < cs.dim → (v : List ℤ) → IsPoint cs.dim v → All (MeetsAt (pulled_back var expr den) (substituted var expr den) v) cs.list
replaced_meets var expr den cs fit below v pt i d h =
    let w = (fit.each i d h).wide in
    dot-pulled_back var expr den (slice_index_or cs.list i d).0 v (omega (arith, w, below)) (omega (arith, pt.wide, below)) (length-scale den v)

-- columns that are 0
pub padded_meets : (column count : ℕ) (list : List Constraint) (v : List ℤ) → All (MeetsAt (with_zeros column count) (without column (column + count)) v) list
padded_meets column count list v i d h = dot-with_zeros column count (slice_index_or list i d).0 v
