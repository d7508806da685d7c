-- The bounds of cells, by their words and the bounds that are kept.
use Rattle.std.specs.Prelude.{◌≡◌, ◌≢◌, ◌⊎◌, ℕ, zero, suc, ◌*◌, ◌^◌, ◌<◌, ◌≤◌, List, [], ◌∷◌, length, ℤ, pos, ◌<ℤ◌, Some, None, true, false, IfSome, cond, int_lt, slice_index_or, slice_set, get_or, replicate}
use Rattle.std.proofs.Common.{arith, refl, sym, ◌∙◌, ap, subst, inl, inr}
use Rattle.std.proofs.lemmas.Int.{ints}
use Rattle.std.proofs.lemmas.List.{length-set, get_or-set_same, get_or-set_other, ext_get_or, get_or-replicate, length-replicate, get_or_past}
use Rattle.std.proofs.lemmas.List.Elements.{All-from_get_or}
use Rattle.std.proofs.lemmas.Bool.{cases_order}
use Rattle.difference_bounds.specs.Fractions.{IsFraction, IsBelow}
use Rattle.difference_bounds.specs.declared.fraction.Fraction.{Fraction}
use Rattle.difference_bounds.specs.Laws.{IsGreater}
use Rattle.difference_bounds.specs.Walks.{Bound}
use Rattle.difference_bounds.specs.Words.{absent, other, IsShort, whole, IsWord, IsTold, told, kept, cells_of, AreWords, IsRoom, IsStored, IsRaised, AreRaised, IsBoundBelow}
use Rattle.difference_bounds.proofs.WordLemmas.{picks_greater, short_fraction, words_set, table_set}

-- ---- one cell
pub told_short : (w : ℤ) → IsShort w → told w ≡ Some (whole w)
told_short w s = below s.most
  where
    below : w <ℤ pos (2 ^ 60) → cond (int_lt w absent) (Some (whole w)) None ≡ Some (whole w)
    below h = grind (arith, ints)

pub kept_told : (w : ℤ) (b : Bound) → IsTold w → kept w b ≡ told w
kept_told w b h = above (by h)
  where
    by : IsTold w → other <ℤ w
    by (inl e) = omega (arith, ints, e)
    by (inr s) = let l = s.least in omega (arith, ints, l)

    above : other <ℤ w → cond (int_lt other w) (told w) b ≡ told w
    above l = grind (arith, ints)

pub kept_other : (w : ℤ) (b : Bound) → w ≡ other → kept w b ≡ b
kept_other w b e = subst (λ (z : ℤ). kept z b ≡ b) (sym e) refl

pub told_word : (w : ℤ) → IsTold w → IsWord (told w) w
told_word w (inl e) = subst (λ (z : ℤ). IsWord (told z) z) (sym e) refl
told_word w (inr s) = subst (λ (b : Bound). IsWord b w) (sym (told_short w s)) (inl (s, refl))

pub told_fraction : (w : ℤ) → IsTold w → IfSome (told w) IsFraction
told_fraction w (inl e) = subst (λ (z : ℤ). IfSome (told z) IsFraction) (sym e) tt
told_fraction w (inr s) = subst (λ (b : Bound). IfSome b IsFraction) (sym (told_short w s)) (short_fraction w s)

pub told_of : (b : Bound) (w : ℤ) → IsWord b w → w ≢ other → IsTold w
told_of None w h n = inl h
told_of (Some f) w (inl (s, e)) n = inr s
told_of (Some f) w (inr e) n = absurd (n e)

pub told_is : (b : Bound) (w : ℤ) → IsWord b w → w ≢ other → told w ≡ b
told_is None w h n = subst (λ (z : ℤ). told z ≡ None) (sym h) refl
told_is (Some f) w (inl (s, e)) n = told_short w s ∙ sym (ap Some e)
told_is (Some f) w (inr e) n = absurd (n e)

pub kept_is : (b c : Bound) (w : ℤ) → IsWord b w → w ≢ other → kept w c ≡ b
kept_is b c w h n = kept_told w c (told_of b w h n) ∙ told_is b w h n

-- ---- lists
pub cells_length : (ws : List ℤ) (bs : List Bound) → length (cells_of ws bs) ≡ length ws
cells_length [] bs = refl
cells_length (w ∷ ws) [] = ap suc (cells_length ws [])
cells_length (w ∷ ws) (b ∷ bs) = ap suc (cells_length ws bs)

pub cell_is : (ws : List ℤ) (bs : List Bound) (q : ℕ) → q < length ws → slice_index_or (cells_of ws bs) q None ≡ kept (get_or ws q (pos 0)) (slice_index_or bs q None)
cell_is [] bs q l = absurd (omega (arith, l))
cell_is (w ∷ ws) [] zero l = refl
cell_is (w ∷ ws) [] (suc q) l = cell_is ws [] q (omega (arith, l))
cell_is (w ∷ ws) (b ∷ bs) zero l = refl
cell_is (w ∷ ws) (b ∷ bs) (suc q) l = cell_is ws bs q (omega (arith, l))

-- where the word is that of others, there is room for its bound
pub room_by : (ws : List ℤ) (bs : List Bound) (q : ℕ) → AreWords (cells_of ws bs) ws → IsRoom (length ws) bs → q < length ws → get_or ws q (pos 0) ≡ other → q < length bs
room_by ws bs q h (inr e) l o = subst (λ (n : ℕ). q < n) (sym e) l
room_by ws bs q h (inl e) l o =
    let none : slice_index_or bs q None ≡ None = get_or_past bs q None (omega (arith, e)) in
    let cell : slice_index_or (cells_of ws bs) q None ≡ None = cell_is ws bs q l ∙ (kept_other (get_or ws q (pos 0)) (slice_index_or bs q None) o ∙ none) in
    let word : get_or ws q (pos 0) ≡ absent = subst (λ (b : Bound). IsWord b (get_or ws q (pos 0))) cell (h.each q (subst (λ (n : ℕ). q < n) (sym (cells_length ws bs)) l)) in
    absurd (omega (arith, ints, o, word))

module _ (ws : List ℤ) (bs cs : List Bound) (q : ℕ) (w : ℤ) (b : Bound) (l : q < length ws) (here : kept w (slice_index_or cs q None) ≡ b) (aside : (p : ℕ) → p ≢ q → slice_index_or cs p None ≡ slice_index_or bs p None) where
  at : (p : ℕ) → p ≡ q → slice_index_or (cells_of (slice_set ws q w) cs) p None ≡ slice_index_or (slice_set (cells_of ws bs) q b) p None
  at p e =
      subst (λ (n : ℕ). slice_index_or (cells_of (slice_set ws q w) cs) n None ≡ slice_index_or (slice_set (cells_of ws bs) q b) n None) (sym e)
      (cell_is (slice_set ws q w) cs q (subst (λ (n : ℕ). q < n) (sym (length-set ws q w)) l)
      ∙ (ap (λ (z : ℤ). kept z (slice_index_or cs q None)) (get_or-set_same ws q w (pos 0) l)
      ∙ (here ∙ sym (get_or-set_same (cells_of ws bs) q b None (subst (λ (n : ℕ). q < n) (sym (cells_length ws bs)) l)))))

  away : (p : ℕ) → p < length ws → p ≢ q → slice_index_or (cells_of (slice_set ws q w) cs) p None ≡ slice_index_or (slice_set (cells_of ws bs) q b) p None
  away p lp n =
      cell_is (slice_set ws q w) cs p (subst (λ (x : ℕ). p < x) (sym (length-set ws q w)) lp)
      ∙ (ap (λ (z : ℤ). kept z (slice_index_or cs p None)) (get_or-set_other ws q p w (pos 0) n)
      ∙ (ap (kept (get_or ws p (pos 0))) (aside p n)
      ∙ (sym (cell_is ws bs p lp) ∙ sym (get_or-set_other (cells_of ws bs) q p b None n))))

  each : (p : ℕ) → p < length ws → (p ≡ q) ⊎ ((p < q) ⊎ (q < p)) → slice_index_or (cells_of (slice_set ws q w) cs) p None ≡ slice_index_or (slice_set (cells_of ws bs) q b) p None
  each p lp (inl e) = at p e
  each p lp (inr (inl g)) = away p lp (λ e. omega arith)
  each p lp (inr (inr g)) = away p lp (λ e. omega arith)

  pub cells_set : cells_of (slice_set ws q w) cs ≡ slice_set (cells_of ws bs) q b
  cells_set =
      ext_get_or None (cells_of (slice_set ws q w) cs) (slice_set (cells_of ws bs) q b)
      (cells_length (slice_set ws q w) cs ∙ (length-set ws q w ∙ sym (length-set (cells_of ws bs) q b ∙ cells_length ws bs)))
      (λ p lp. each p (subst (λ (n : ℕ). p < n) (cells_length (slice_set ws q w) cs ∙ length-set ws q w) lp) (cases_order p q))

  pub cell_here : slice_index_or (cells_of (slice_set ws q w) cs) q None ≡ b
  cell_here = ap (λ (cells : List Bound). slice_index_or cells q None) cells_set ∙ get_or-set_same (cells_of ws bs) q b None (subst (λ (n : ℕ). q < n) (sym (cells_length ws bs)) l)

  pub cell_elsewhere : (p : ℕ) → p ≢ q → slice_index_or (cells_of (slice_set ws q w) cs) p None ≡ slice_index_or (cells_of ws bs) p None
  cell_elsewhere p n = ap (λ (cells : List Bound). slice_index_or cells p None) cells_set ∙ get_or-set_other (cells_of ws bs) q p b None n

  pub stored_set : (m : ℕ) → IsStored (record { places = m; cells = cells_of ws bs }) ws bs → IsWord b w → IfSome b IsFraction → IsRoom (length ws) cs → IsStored (record { places = m; cells = cells_of (slice_set ws q w) cs }) (slice_set ws q w) cs
  stored_set m s k f r =
      subst (λ (cells : List Bound). IsStored (record { places = m; cells = cells }) (slice_set ws q w) cs) (sym cells_set) (record {
        table = table_set (record { places = m; cells = cells_of ws bs }) q b s.table f;
        worded = words_set (cells_of ws bs) ws q b w s.worded (subst (λ (n : ℕ). q < n) (sym (cells_length ws bs)) l) k;
        room = subst (λ (n : ℕ). IsRoom n cs) (sym (length-set ws q w)) r;
      })

-- ---- the greater words
-- where no bounds are kept, each word tells its bound
pub all_told : (ws : List ℤ) (bs : List Bound) (q : ℕ) → AreWords (cells_of ws bs) ws → length bs ≡ 0 → q < length ws → IsTold (get_or ws q (pos 0))
all_told ws bs q h e l =
    told_of (slice_index_or (cells_of ws bs) q None) (get_or ws q (pos 0)) (h.each q (subst (λ (n : ℕ). q < n) (sym (cells_length ws bs)) l))
    (λ o. let below : q < length bs = room_by ws bs q h (inl e) l o in omega (arith, below, e))

not_other : (w : ℤ) → IsTold w → w ≢ other
not_other w (inl e) f = omega (arith, ints, e, f)
not_other w (inr s) f = let l = s.least in omega (arith, ints, l, f)

word_below : (a b : Bound) (x y : ℤ) → IsWord a x → IsWord b y → IsTold x → IsTold y → x <ℤ y → IsBoundBelow a b
word_below None None x y h k tx ty l = absurd (omega (arith, ints, h, k, l))
word_below None (Some g) x y h (inl (s, e)) tx ty l = absurd (let m = s.most in omega (arith, ints, h, m, l))
word_below None (Some g) x y h (inr e) tx ty l = absurd (not_other y ty e)
word_below (Some f) None x y h k tx ty l = tt
word_below (Some f) (Some g) x y (inl (s, e)) (inl (t, d)) tx ty l = subst (λ (u : Fraction). IsBelow u g) (sym e) (subst (λ (u : Fraction). IsBelow (whole x) u) (sym d) (omega (arith, ints, l)))
word_below (Some f) (Some g) x y (inl (s, e)) (inr d) tx ty l = absurd (not_other y ty d)
word_below (Some f) (Some g) x y (inr e) k tx ty l = absurd (not_other x tx e)

word_unless : (a b : Bound) (x y : ℤ) → IsWord a x → IsWord b y → IsTold x → IsTold y → ¬ (x <ℤ y) → ¬ (IsBoundBelow a b)
word_unless None b x y h k tx ty n p = p
word_unless (Some f) None x y (inl (s, e)) k tx ty n p = let m = s.most in n (omega (arith, ints, k, m))
word_unless (Some f) None x y (inr e) k tx ty n p = not_other x tx e
word_unless (Some f) (Some g) x y (inl (s, e)) (inl (t, d)) tx ty n p =
    let below : IsBelow (whole x) (whole y) = subst (λ (u : Fraction). IsBelow (whole x) u) d (subst (λ (u : Fraction). IsBelow u g) e p) in
    n (omega (arith, ints, below))
word_unless (Some f) (Some g) x y (inl (s, e)) (inr d) tx ty n p = not_other y ty d
word_unless (Some f) (Some g) x y (inr e) k tx ty n p = not_other x tx e

raised_told : (x y z : ℤ) → IsTold x → IsTold y → IsRaised x y z → IsTold z
raised_told x y z tx ty (inl (l, e)) = subst IsTold (sym e) ty
raised_told x y z tx ty (inr (n, e)) = subst IsTold (sym e) tx

raised_is : (a b : Bound) (x y z : ℤ) → IsWord a x → IsWord b y → IsTold x → IsTold y → IsRaised x y z → IsGreater a b (told z)
raised_is a b x y z h k tx ty (inl (l, e)) =
    subst (IsGreater a b) (sym (ap told e ∙ told_is b y k (not_other y ty))) (picks_greater a b (Some true) (word_below a b x y h k tx ty l))
raised_is a b x y z h k tx ty (inr (n, e)) =
    subst (IsGreater a b) (sym (ap told e ∙ told_is a x h (not_other x tx))) (picks_greater a b (Some false) (word_unless a b x y h k tx ty n))

module _ (m : ℕ) (ws vs zs : List ℤ) (bs cs : List Bound) (s : IsStored (record { places = m; cells = cells_of ws bs }) ws bs) (t : AreWords (cells_of vs cs) vs) (eb : length bs ≡ 0) (ec : length cs ≡ 0) (lv : length vs ≡ length ws) (lz : length zs ≡ length ws) (r : AreRaised ws vs zs) where
  left_told : (q : ℕ) → q < length ws → IsTold (get_or ws q (pos 0))
  left_told q l = all_told ws bs q s.worded eb l

  right_told : (q : ℕ) → q < length ws → IsTold (get_or vs q (pos 0))
  right_told q l = all_told vs cs q t ec (subst (λ (n : ℕ). q < n) (sym lv) l)

  new_told : (q : ℕ) → q < length ws → IsTold (get_or zs q (pos 0))
  new_told q l = raised_told (get_or ws q (pos 0)) (get_or vs q (pos 0)) (get_or zs q (pos 0)) (left_told q l) (right_told q l) (r q l)

  new_cell : (q : ℕ) → q < length ws → slice_index_or (cells_of zs bs) q None ≡ told (get_or zs q (pos 0))
  new_cell q l = cell_is zs bs q (subst (λ (n : ℕ). q < n) (sym lz) l) ∙ kept_told (get_or zs q (pos 0)) (slice_index_or bs q None) (new_told q l)

  new_length : length (cells_of zs bs) ≡ length ws
  new_length = cells_length zs bs ∙ lz

  pub cell_greater : (q : ℕ) → q < length ws → IsGreater (slice_index_or (cells_of ws bs) q None) (slice_index_or (cells_of vs cs) q None) (slice_index_or (cells_of zs bs) q None)
  cell_greater q l =
      subst (IsGreater (slice_index_or (cells_of ws bs) q None) (slice_index_or (cells_of vs cs) q None)) (sym (new_cell q l))
      (raised_is (slice_index_or (cells_of ws bs) q None) (slice_index_or (cells_of vs cs) q None) (get_or ws q (pos 0)) (get_or vs q (pos 0)) (get_or zs q (pos 0))
      (s.worded.each q (subst (λ (n : ℕ). q < n) (sym (cells_length ws bs)) l)) (t.each q (subst (λ (n : ℕ). q < n) (sym (cells_length vs cs ∙ lv)) l)) (left_told q l) (right_told q l) (r q l))

  pub stored_raised : IsStored (record { places = m; cells = cells_of zs bs }) zs bs
  stored_raised = record {
    table = record {
      full = new_length ∙ (sym (cells_length ws bs) ∙ s.table.full);
      fractions = All-from_get_or (λ (b : Bound). IfSome b IsFraction) (cells_of zs bs) None (λ q l. let at : q < length ws = subst (λ (n : ℕ). q < n) new_length l in subst (λ (b : Bound). IfSome b IsFraction) (sym (new_cell q at)) (told_fraction (get_or zs q (pos 0)) (new_told q at)));
      few = s.table.few;
    };
    worded = record {
      full = sym (cells_length zs bs);
      each = λ q l. let at : q < length ws = subst (λ (n : ℕ). q < n) new_length l in subst (λ (b : Bound). IsWord b (get_or zs q (pos 0))) (sym (new_cell q at)) (told_word (get_or zs q (pos 0)) (new_told q at));
    };
    room = inl eb;
  }

-- ---- no bounds
module _ (n : ℕ) where
  pub no_bound : (q : ℕ) → q < n → slice_index_or (cells_of (replicate n absent) []) q None ≡ None
  no_bound q l =
      cell_is (replicate n absent) [] q (subst (λ (x : ℕ). q < x) (sym (length-replicate n absent)) l)
      ∙ ap (λ (z : ℤ). kept z None) (get_or-replicate n q absent (pos 0) l)

pub stored_begins : (m : ℕ) → m ≤ 64 → IsStored (record { places = m; cells = cells_of (replicate (m * m) absent) [] }) (replicate (m * m) absent) []
stored_begins m few =
    let count = cells_length (replicate (m * m) absent) [] ∙ length-replicate (m * m) absent in
    record {
      table = record {
        full = count;
        fractions = All-from_get_or (λ (b : Bound). IfSome b IsFraction) (cells_of (replicate (m * m) absent) []) None (λ q l. subst (λ (b : Bound). IfSome b IsFraction) (sym (no_bound (m * m) q (subst (λ (x : ℕ). q < x) count l))) tt);
        few = few;
      };
      worded = record {
        full = sym (cells_length (replicate (m * m) absent) []);
        each = λ q l.
            let below : q < m * m = subst (λ (x : ℕ). q < x) count l in
            subst (λ (b : Bound). IsWord b (get_or (replicate (m * m) absent) q (pos 0))) (sym (no_bound (m * m) q below)) (get_or-replicate (m * m) q absent (pos 0) below);
      };
      room = inl refl;
    }
