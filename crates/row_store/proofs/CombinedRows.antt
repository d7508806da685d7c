-- Rows that are combined where they were appended.
use Rattle.std.specs.Prelude.{◌≡◌, ◌≢◌, ℕ, zero, suc, ◌+◌, ◌<◌, List, [], ◌∷◌, ◌++◌, length, ℤ, pos, negsuc, neg_ℤ, ◌<ℤ◌, take, Result, Ok, Err, IsOk, OnOk, OnErr, MatchResult}
use Rattle.std.proofs.Common.{refl, sym, ap, ◌∙◌, subst, arith, set}
use Rattle.std.proofs.lemmas.List.{get_or_append_left, get_or_push, length-set, length_push, set_at, take_at}
use Rattle.std.proofs.lemmas.Int.{ints}
use Rattle.std.proofs.lemmas.Bool.{false≢true}
use Rattle.row_core.proofs.Ring.{one-mul}
use Rattle.row_core.specs.Vectors.{scale, add}
use Rattle.row_core.specs.Content.{IsPrimitiveOf}
use Rattle.flat_rows.specs.Flat.{Flat, entries_at}
use Rattle.row_core.specs.Range.{CombineStays, IsFirstToLeave}
use Rattle.row_core.proofs.CellLemmas.{length-scale, length-add}
use Rattle.row_store.specs.Stores.{IsNegated, IsRowChanged, IsCombinedWith, IsRefusedAt}
use Rattle.row_core.specs.Signs.{sign}
use Rattle.row_core.specs.Combinations.{AreFactors, CombinationLeaves, IsCombined}
use Rattle.row_store.proofs.FactorLemmas.{combined_from_written}
use Rattle.row_core.proofs.Magnitudes.{magnitude_above}
use Rattle.row_store.specs.Vectors.{IsRowAppended, HasSameRows}

-- the row that was pushed, and those before
pub pushed_last : (rows : List (List ℤ)) (row : List ℤ) (last : ℕ) → last ≡ length rows → entries_at (rows ++ row ∷ []) last ≡ row
pushed_last rows row last e = get_or_push rows row [] last (sym e)

pub pushed_before : (rows : List (List ℤ)) (row : List ℤ) (i : ℕ) → i < length rows → entries_at (rows ++ row ∷ []) i ≡ entries_at rows i
pushed_before rows row i h = get_or_append_left rows (row ∷ []) [] i h

-- a combination that was written over the row that was pushed, and made primitive
is_appended : (u v second first : ℤ) (left right : List ℤ) (last : ℕ) (old pushed written new : Flat ℤ) → AreFactors u v second first → u ≢ pos 0 → length left ≡ length right → last ≡ length old.rows
    → pushed.width ≡ old.width → pushed.rows ≡ old.rows ++ right ∷ [] → pushed.spare + 1 ≡ old.spare
    → written ≡ record pushed { rows = set pushed.rows last (add (scale second (entries_at pushed.rows last)) (scale first left)) } → IsRowChanged IsPrimitiveOf last written new
    → IsRowAppended (IsCombined u v left right) old new
is_appended u v second first left right last old pushed written new factors ne wide at width rows spare is changed =
    let here : entries_at pushed.rows last ≡ right = ap (λ (rs : List (List ℤ)). entries_at rs last) rows ∙ pushed_last old.rows right last at in
    let combined : List ℤ = add (scale second right) (scale first left) in
    let size : length combined ≡ length right = length-add (scale second right) (scale first left) (length-scale second right ∙ sym wide ∙ sym (length-scale first left)) ∙ length-scale first left ∙ wide in
    let after : written.rows ≡ old.rows ++ combined ∷ [] =
    ap (λ (t : Flat ℤ). t.rows) is ∙ ap (λ (r : List ℤ). set pushed.rows last (add (scale second r) (scale first left))) here ∙ ap (λ (rs : List (List ℤ)). set rs last combined) rows ∙ set_at old.rows right [] combined last (sym at) in
    let source : entries_at written.rows last ≡ combined = ap (λ (rs : List (List ℤ)). entries_at rs last) after ∙ pushed_last old.rows combined last at in
    let primitive : IsPrimitiveOf combined changed.row = subst (λ (r : List ℤ). IsPrimitiveOf r changed.row) source changed.related in
    record {
      row = changed.row;
      is = combined_from_written u v second first left right combined changed.row factors ne (magnitude_above u ne) refl size (sym (ap length primitive.multiple.same ∙ length-scale (pos primitive.multiple.times) changed.row)) primitive.multiple primitive.primitive;
      width = ap (λ (t : Flat ℤ). t.width) changed.same ∙ ap (λ (t : Flat ℤ). t.width) is ∙ width;
      rows = ap (λ (t : Flat ℤ). t.rows) changed.same ∙ ap (λ (rs : List (List ℤ)). set rs last changed.row) after ∙ set_at old.rows combined [] changed.row last (sym at);
      spare = ap (λ (n : ℕ). n + 1) (ap (λ (t : Flat ℤ). t.spare) changed.same ∙ ap (λ (t : Flat ℤ). t.spare) is) ∙ spare;
    }

-- the rows after a combination was refused
is_left : (right : List ℤ) (last : ℕ) (old pushed left new : Flat ℤ) → last ≡ length old.rows → pushed.width ≡ old.width → pushed.rows ≡ old.rows ++ right ∷ [] → left ≡ pushed → new ≡ record left { rows = take last left.rows } → HasSameRows old new
is_left right last old pushed left new at width rows same is = record {
  width = ap (λ (t : Flat ℤ). t.width) is ∙ ap (λ (t : Flat ℤ). t.width) same ∙ width;
  rows = ap (λ (t : Flat ℤ). t.rows) is ∙ ap (λ (t : Flat ℤ). take last t.rows) same ∙ ap (λ (rs : List (List ℤ)). take last rs) rows ∙ take_at old.rows (right ∷ []) last (sym at);
}

-- the first column at which the combination leaves the range
leaves_at : (u v second first : ℤ) (left right source : List ℤ) (width column : ℕ) → AreFactors u v second first → source ≡ right → length right ≡ width → IsFirstToLeave (CombineStays source second left first) width column → CombinationLeaves u v left right column
leaves_at u v second first left right source width column factors here wide h = record {
  second = second;
  first = first;
  factors = factors;
  column = subst (λ (n : ℕ). IsFirstToLeave (CombineStays right second left first) n column) (sym wide) (subst (λ (r : List ℤ). IsFirstToLeave (CombineStays r second left first) width column) here h);
}

-- the row that was pushed is there after it was combined, or that was refused
pub last_stays : {A : Type 0} (s t : ℤ) (v row : List ℤ) (last : ℕ) (old pushed new : Flat ℤ) (r : Result A ℕ) → last ≡ length old.rows → pushed.rows ≡ old.rows ++ row ∷ []
    → MatchResult r (λ _. IsCombinedWith s t last v pushed new) (IsRefusedAt s t last v pushed new) → last < length new.rows
last_stays s t v row last old pushed new (Ok x) at rows h =
    omega (arith, at, ap length rows ∙ length_push old.rows row, ap (λ (f : Flat ℤ). length f.rows) h.0 ∙ length-set pushed.rows last (add (scale s (entries_at pushed.rows last)) (scale t v)))
last_stays s t v row last old pushed new (Err c) at rows h =
    omega (arith, at, ap length rows ∙ length_push old.rows row, ap (λ (f : Flat ℤ). length f.rows) h.0)

-- what a combination over the row that was pushed, and what was made of it, give: the combination, or the rows as before
pub ended_as : (u v second first : ℤ) (left right : List ℤ) (last : ℕ) (old pushed written new : Flat ℤ) (r r' : Result ℕ ℕ) → AreFactors u v second first → u ≢ pos 0 → length left ≡ length right → length right ≡ pushed.width → last ≡ length old.rows
    → pushed.width ≡ old.width → pushed.rows ≡ old.rows ++ right ∷ [] → pushed.spare + 1 ≡ old.spare
    → MatchResult r (λ _. IsCombinedWith second first last left pushed written) (IsRefusedAt second first last left pushed written)
    → OnOk r (IsOk r') → OnErr r (r' ≡ r) → OnOk r (IsRowChanged IsPrimitiveOf last written new) → OnErr r (new ≡ record written { rows = take last written.rows })
    → MatchResult r' (λ _. IsRowAppended (IsCombined u v left right) old new) (λ column. HasSameRows old new × CombinationLeaves u v left right column)
ended_as u v second first left right last old pushed written new (Ok x) (Ok y) factors ne long wide at width rows spare h is same made dropped = is_appended u v second first left right last old pushed written new factors ne long at width rows spare h.0 made
ended_as u v second first left right last old pushed written new (Ok x) (Err e) factors ne long wide at width rows spare h is same made dropped = absurd (false≢true is)
ended_as u v second first left right last old pushed written new (Err c) r' factors ne long wide at width rows spare h is same made dropped =
    let here : entries_at pushed.rows last ≡ right = ap (λ (rs : List (List ℤ)). entries_at rs last) rows ∙ pushed_last old.rows right last at in
    rw same (
      is_left right last old pushed written new at width rows h.0 dropped,
      leaves_at u v second first left right (entries_at pushed.rows last) pushed.width c factors here wide h.1,
    )

-- ---- a line with the sign of a value
scale_one : (v : List ℤ) → scale (pos 1) v ≡ v
scale_one [] = refl
scale_one (a ∷ v) = ap (λ (x : ℤ). x ∷ scale (pos 1) v) (one-mul a) ∙ ap (λ (r : List ℤ). a ∷ r) (scale_one v)

upward_above : (u : ℤ) (line : List ℤ) → u ≢ pos 0 → ¬ (u <ℤ pos 0) → scale (sign u) line ≡ line
upward_above (pos zero) line ne least = absurd (ne refl)
upward_above (pos (suc n)) line ne least = scale_one line
upward_above (negsuc n) line ne least = absurd (least (omega (arith, ints)))

upward_below : (u : ℤ) (line : List ℤ) → u <ℤ pos 0 → scale (sign u) line ≡ scale (neg_ℤ (pos 1)) line
upward_below (pos n) line below = absurd (omega (arith, ints, below))
upward_below (negsuc n) line below = refl

pub kept_upward : (u : ℤ) (line : List ℤ) (old pushed : Flat ℤ) → u ≢ pos 0 → ¬ (u <ℤ pos 0) → pushed.rows ≡ old.rows ++ line ∷ [] → pushed.rows ≡ old.rows ++ scale (sign u) line ∷ []
kept_upward u line old pushed ne least rows = rows ∙ ap (λ (r : List ℤ). old.rows ++ r ∷ []) (sym (upward_above u line ne least))

pub turned_upward : (u : ℤ) (line : List ℤ) (last : ℕ) (old pushed new : Flat ℤ) → u <ℤ pos 0 → last ≡ length old.rows → pushed.rows ≡ old.rows ++ line ∷ [] → IsRowChanged IsNegated last pushed new → new.rows ≡ old.rows ++ scale (sign u) line ∷ []
turned_upward u line last old pushed new below at rows h =
    let here : entries_at pushed.rows last ≡ line = ap (λ (rs : List (List ℤ)). entries_at rs last) rows ∙ pushed_last old.rows line last at in
    let is : h.row ≡ scale (sign u) line = h.related ∙ ap (λ (r : List ℤ). scale (neg_ℤ (pos 1)) r) here ∙ sym (upward_below u line below) in
    ap (λ (t : Flat ℤ). t.rows) h.same ∙ ap (λ (rs : List (List ℤ)). set rs last h.row) rows ∙ set_at old.rows line [] h.row last (sym at) ∙ ap (λ (r : List ℤ). old.rows ++ r ∷ []) is
