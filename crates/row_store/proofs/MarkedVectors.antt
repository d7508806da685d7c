-- Vectors that all have one mark.
use Rattle.std.specs.Prelude.{◌≡◌, ℕ, zero, suc, ◌^◌, ◌<◌, ◌≤◌, max, Bool, List, [], ◌∷◌, ◌++◌, length, ℤ, pos, negsuc, ◌*ℤ◌, false, All}
use Rattle.std.proofs.Common.{refl, sym, ap, subst, ◌∙◌, arith}
use Rattle.std.proofs.lemmas.List.{length-map, get_or-map, get_or_push, map_push}
use Rattle.std.proofs.lemmas.List.Elements.{All-push, All-nil, All-cons}
use Rattle.flat_rows.specs.Flat.{Flat, entries_at, marked}
use Rattle.row_core.specs.Vectors.{scale}
use Rattle.row_core.specs.Signs.{sign}
use Rattle.row_core.specs.Sizes.{IsWithin, HaveBits}
use Rattle.row_core.proofs.SizeLemmas.{HaveBits-more, unsigned_abs-mul_within}
use Rattle.row_core.specs.Lists.{Row, row_at, AreMarked}
use Rattle.flat_rows.proofs.Marked.{marked-map}
use Rattle.row_store.specs.Vectors.{Vectors, with_mark, IsAppended, HasSame, IsRowAppended, HasSameRows}

-- the list that is seen in a store
abbrev pub seen_vectors : Bool → Flat ℤ → Vectors
seen_vectors eq store = record { width = store.width; rows = with_mark eq store.rows; spare = store.spare }

pub seen_count : (eq : Bool) (store : Flat ℤ) (l : Vectors) → seen_vectors eq store ≡ l → length l.rows ≡ length store.rows
seen_count eq store l e = ap (λ (u : Vectors). length u.rows) (sym e) ∙ length-map store.rows (λ (v : List ℤ). (v, eq))

pub seen_row : (eq : Bool) (store : Flat ℤ) (l : Vectors) (i : ℕ) → seen_vectors eq store ≡ l → i < length store.rows → row_at l.rows i ≡ entries_at store.rows i
seen_row eq store l i e h =
    ap (λ (u : Vectors). row_at u.rows i) (sym e) ∙ ap (λ (r : Row). r.0) (get_or-map (λ (v : List ℤ). (v, eq)) store.rows i [] ([], false) h)

-- vectors with a mark have that one
remarked : (b eq : Bool) (vs : List (List ℤ)) → AreMarked eq (with_mark b vs) → with_mark b vs ≡ with_mark eq vs
remarked b eq [] h = refl
remarked b eq (v ∷ vs) h = let e : b ≡ eq = h 0 (v, b) (omega arith) in ap (λ (m : Bool). with_mark m (v ∷ vs)) e

-- one vector more
pub pushed_seen : (b eq : Bool) (store : Flat ℤ) (l : Vectors) (new : List (List ℤ)) (v : List ℤ) → seen_vectors b store ≡ l → AreMarked eq l.rows → new ≡ store.rows ++ v ∷ [] → with_mark eq new ≡ l.rows ++ (v, eq) ∷ []
pushed_seen b eq store l new v e alike is =
    let old : with_mark b store.rows ≡ l.rows = ap (λ (u : Vectors). u.rows) e in
    let same : with_mark b store.rows ≡ with_mark eq store.rows = remarked b eq store.rows (rw old alike) in
    ap (with_mark eq) is ∙ map_push (λ (w : List ℤ). (w, eq)) store.rows v ∙ ap (λ (rs : List Row). rs ++ (v, eq) ∷ []) (sym same ∙ old)

pub kept_seen : (eq : Bool) (store : Flat ℤ) (l : Vectors) (new : List (List ℤ)) (keep : List Bool) → seen_vectors eq store ≡ l → new ≡ marked keep store.rows → with_mark eq new ≡ marked keep l.rows
kept_seen eq store l new keep e is =
    ap (with_mark eq) is ∙ marked-map (λ (v : List ℤ). (v, eq)) keep store.rows ∙ ap (λ (u : Vectors). marked keep u.rows) e

-- bits of vectors and of one more
pub bits_pushed : (old new : List (List ℤ)) (v : List ℤ) (a b bits : ℕ) → new ≡ old ++ v ∷ [] → bits ≡ max a b → All (HaveBits a) old → HaveBits b v → All (HaveBits bits) new
bits_pushed old new v a b bits e is all one =
    let left : a ≤ bits = omega (arith, is) in
    let right : b ≤ bits = omega (arith, is) in
    subst (All (HaveBits bits)) (sym e) (All-push (HaveBits bits) old v (λ i d below. HaveBits-more a bits _ left (all i d below)) (HaveBits-more b bits v right one))

pub bits_appended : (Is : List ℤ → Type 0) (old new : Flat ℤ) (a b bits : ℕ) → IsRowAppended Is old new → bits ≡ max a b → All (HaveBits a) old.rows → HaveBits b (entries_at new.rows (length old.rows)) → All (HaveBits bits) new.rows
bits_appended Is old new a b bits h is all one =
    let last : entries_at new.rows (length old.rows) ≡ h.row = ap (λ (rs : List (List ℤ)). entries_at rs (length old.rows)) h.rows ∙ get_or_push old.rows h.row [] (length old.rows) refl in
    bits_pushed old.rows new.rows h.row a b bits h.rows is all (subst (HaveBits b) last one)

-- those of a line with a sign
HaveBits-scale : (b : ℕ) (s : ℤ) (v : List ℤ) → IsWithin 1 s → HaveBits b v → HaveBits b (scale s v)
HaveBits-scale b s [] one all = All-nil (IsWithin (2 ^ b))
HaveBits-scale b s (a ∷ v) one all =
    let size = unsigned_abs-mul_within 1 (2 ^ b) s a one (all 0 a (omega arith)) in
    All-cons (IsWithin (2 ^ b)) (s *ℤ a) (scale s v) (record { size = omega (arith, size) })
    (HaveBits-scale b s v one (λ k d h. all (suc k) d (omega (arith, h))))

sign_within : (u : ℤ) → IsWithin 1 (sign u)
sign_within (pos zero) = record { size = omega arith }
sign_within (pos (suc n)) = record { size = omega arith }
sign_within (negsuc n) = record { size = omega arith }

pub HaveBits-upward : (b : ℕ) (u : ℤ) (line : List ℤ) → HaveBits b line → HaveBits b (scale (sign u) line)
HaveBits-upward b u line all = HaveBits-scale b (sign u) line (sign_within u) all

-- a row that was appended to the store, as it is seen in the list
pub appended_seen : (b eq : Bool) (Is Also : List ℤ → Type 0) (old new : Flat ℤ) (l : Vectors) → seen_vectors b old ≡ l → AreMarked eq l.rows → ((v : List ℤ) → Is v → Also v) → IsRowAppended Is old new → IsAppended eq Also l (seen_vectors eq new)
appended_seen b eq Is Also old new l e alike turn h = record {
  vector = h.row;
  is = turn h.row h.is;
  width = h.width ∙ ap (λ (u : Vectors). u.width) e;
  rows = pushed_seen b eq old l new.rows h.row e alike h.rows;
  spare = h.spare ∙ ap (λ (u : Vectors). u.spare) e;
}

pub same_seen : (b : Bool) (old new : Flat ℤ) (l : Vectors) → seen_vectors b old ≡ l → HasSameRows old new → HasSame l (seen_vectors b new)
same_seen b old new l e h = record {
  width = h.width ∙ ap (λ (u : Vectors). u.width) e;
  rows = ap (with_mark b) h.rows ∙ ap (λ (u : Vectors). u.rows) e;
}
