-- Faults passed on.
use Rattle.std.proofs.Common.{◌≡◌, inl, inr, ℕ, ◌<◌, Bool, List, [], length, map, take, slice_index_or, ℤ, sym, ◌∙◌, subst, arith}
use Rattle.std.specs.Prelude.{All, Contains}
use Rattle.std.proofs.lemmas.List.{take_all, length-map, take-map, get_or-map}
use Rattle.flat_rows.specs.Flat.{marked}
use Rattle.row_core.specs.Lists.{Row, row_at, vectors, vector_at}
use Rattle.cone_laws.specs.Canon.{IsPivot}
use Rattle.minimise.specs.FlatRows.{TellsFlat}
use Rattle.minimise.specs.Lefts.{IsLeftAmong}
use Rattle.minimise.specs.Bases.{IsBasis, IsReduced, IsLeading, IsPlace, turned_up}
use Rattle.minimise.specs.Faults.{IsReductionLeft, IsTakingLeft, IsCombineFault, IsReduceFault, IsClearFault, IsTakeFault, IsGrowFault, IsListFault, IsRowFault, IsLeftFault}
use Rattle.minimise.specs.declared.fault.Fault.{Fault}
use Rattle.minimise.specs.declared.fault.Fault.TheVariants.{Memory, Left}
use Rattle.minimise.proofs.LeftCases.{row_left, growing_left}

pub reduce_fault : (lines : List (List ℤ)) (a reduced line : List ℤ) (i p : ℕ) (fault : Fault) → i < length lines → line ≡ vector_at lines i → IsPivot line p → IsReduced (take i lines) a reduced → IsCombineFault p line reduced fault → IsReduceFault lines a fault
reduce_fault lines a reduced line i p Memory below e at is h = tt
reduce_fault lines a reduced line i p (Left left right column) below e at is h = record {
  index = i;
  below = below;
  left_is = sym (h.left_is ∙ e);
  pivot = p;
  at = subst (λ (v : List ℤ). IsPivot v p) (sym h.left_is) at;
  reduced = subst (λ (v : List ℤ). IsReduced (take i lines) a v) (sym h.right_is) is;
  leaves = h.leaves;
}

pub combine_fault : (c : ℕ) (line lent row copied : List ℤ) (fault : Fault) → lent ≡ line → copied ≡ row → IsCombineFault c lent copied fault → IsCombineFault c line row fault
combine_fault c line lent row copied fault e f h = subst (λ (v : List ℤ). IsCombineFault c line v fault) f (subst (λ (v : List ℤ). IsCombineFault c v copied fault) e h)

pub clear_fault : (c : ℕ) (line lent : List ℤ) (lines : List (List ℤ)) (row : List ℤ) (fault : Fault) → lent ≡ line → Contains lines row → IsCombineFault c lent row fault → IsClearFault c line lines fault
clear_fault c line lent lines row Memory e within h = tt
clear_fault c line lent lines row (Left left right column) e within h = record { left_is = h.left_is ∙ e; right_in = subst (λ (v : List ℤ). Contains lines v) (sym h.right_is) within; leaves = h.leaves }

pub take_fault : (c : ℕ) (lines : List (List ℤ)) (line : List ℤ) (k : ℕ) (fault : Fault) → IsPlace lines c k → IsClearFault c line lines fault → IsTakeFault c lines line fault
take_fault c lines line k Memory place h = tt
take_fault c lines line k (Left left right column) place h = record { k = k; place = place; clearing = h }

pub grow_fault_of_reduction : (lines : List (List ℤ)) (a : List ℤ) (fault : Fault) → IsReduceFault lines a fault → IsGrowFault lines a fault
grow_fault_of_reduction lines a Memory h = tt
grow_fault_of_reduction lines a (Left left right column) h = inl h

pub grow_fault_of_line : (lines : List (List ℤ)) (a reduced line : List ℤ) (c : ℕ) (fault : Fault) → IsReduced lines a reduced → IsLeading reduced c → All (λ (l : List ℤ). length l ≡ length a) lines → line ≡ turned_up reduced c → IsTakeFault c lines line fault → IsGrowFault lines a fault
grow_fault_of_line lines a reduced line c Memory is lead wide e h = tt
grow_fault_of_line lines a reduced line c (Left left right column) is lead wide e h =
    inr (record { reduced = reduced; is_reduced = is; pivot = c; leading = lead; wide = wide; taking = subst (λ (v : List ℤ). IsTakingLeft c lines v left right column) e h })

module _ (rows : List Row) (places : List ℕ) (lines : List (List ℤ)) (i : ℕ) (below : i < length places) (within : slice_index_or places i 0 < length rows) (basis : IsBasis (map (row_at rows) (take i places)) lines) where
  size : length (map (row_at rows) places) ≡ length places
  size = length-map places (row_at rows)

  front : IsBasis (take i (map (row_at rows) places)) lines
  front = subst (λ (vs : List (List ℤ)). IsBasis vs lines) (sym (take-map (row_at rows) i places)) basis

  pub list_fault_of_growth : (a : List ℤ) (fault : Fault) → a ≡ row_at rows (slice_index_or places i 0) → IsGrowFault lines a fault → IsListFault rows (map (row_at rows) places) fault
  list_fault_of_growth a Memory e h = tt
  list_fault_of_growth a (Left left right column) e (inl h) =
      row_left rows (map (row_at rows) places) lines i (omega (arith, below, size)) front (slice_index_or places i 0) left right column within (subst (λ (v : List ℤ). IsReductionLeft lines v left right column) e h)
  list_fault_of_growth a (Left left right column) e (inr h) =
      growing_left rows (map (row_at rows) places) lines i (omega (arith, below, size)) front a left right column (omega (arith, below, size)) (get_or-map (row_at rows) places i 0 [] below ∙ sym e) h.wide h

pub list_fault_of_row : (rows : List Row) (flat lines : List (List ℤ)) (fault : Fault) → IsBasis flat lines → IsRowFault rows lines fault → IsListFault rows flat fault
list_fault_of_row rows flat lines Memory basis h = tt
list_fault_of_row rows flat lines (Left left right column) basis h =
    row_left rows flat lines (length flat) (omega arith) (subst (λ (vs : List (List ℤ)). IsBasis vs lines) (sym (take_all (length flat) flat (omega arith))) basis) h.row left right column h.row_below h.reduction

pub left_fault : (width : ℕ) (rows : List Row) (marks : List Bool) (flat : List (List ℤ)) (fault : Fault) → TellsFlat width rows marks → flat ≡ marked marks (vectors rows) → IsListFault rows flat fault → IsLeftFault width rows fault
left_fault width rows marks flat Memory t e h = tt
left_fault width rows marks flat (Left left right column) t e h = record { marks = marks; tells = t; among = subst (λ (vs : List (List ℤ)). IsLeftAmong rows vs left right column) e h }

pub row_fault : (rows : List Row) (lines : List (List ℤ)) (row : ℕ) (a : List ℤ) (fault : Fault) → row < length rows → a ≡ row_at rows row → IsReduceFault lines a fault → IsRowFault rows lines fault
row_fault rows lines row a Memory below e h = tt
row_fault rows lines row a (Left left right column) below e h = record { row = row; row_below = below; reduction = subst (λ (v : List ℤ). IsReductionLeft lines v left right column) e h }
