-- The first lines of a text: whole ones, and all.
use Rattle.std.proofs.Common.{◌≡◌, ℕ, suc, zero, ◌+◌, ◌<◌, ◌⊎◌, List, [], ◌∷◌, ◌++◌, length, take, map, refl, ap, ◌∙◌, sym, append_assoc, length-append, Bool, true, false, inl, inr, arith}
use Rattle.std.specs.Prelude.{Option}
use Rattle.std.specs.Str.Lines.{lines, lines_of_parts, strip_carriage_return}
use Rattle.std.specs.List.{slice_split}
use Rattle.std.specs.Io.KnownBytes.{IsAtEnd}
use Rattle.std.proofs.lemmas.List.{append-nil}
use Rattle.std.proofs.lemmas.List.Splits.{slice_split_at, length-slice_split}
use Rattle.poly_io.specs.Cut.{cut, is_feed, LacksFeed}
use Rattle.poly_io.proofs.CutLaws.{feed_cases, cut_at}
use Rattle.polycalc.specs.Outcomes.{AreFirstLines}
use Rattle.polycalc.proofs.CutRuns.{parts_of_cut}

pub bool_cases : (b : Bool) → (b ≡ true) ⊎ (b ≡ false)
bool_cases true = inl refl
bool_cases false = inr refl

-- what is read off the cut lines: that the source is at its end, or that after one more line feed another line follows
abbrev pub AreWholeWhenCut : List ℕ → Option (List ℕ) → List (List ℕ) → Type 0
AreWholeWhenCut all left answered = IsAtEnd left ⊎ ((next : List ℕ) × (others : List (List ℕ)) × (cut (all ++ 10 ∷ []) ≡ answered ++ next ∷ others))

-- a text that a line feed ends has a line
pub record HasLine (text : List ℕ) : Type 0 where
  pub next : List ℕ
  pub others : List (List ℕ)
  pub cut_is : cut (text ++ 10 ∷ []) ≡ next ∷ others

pub line_of_fed : (text : List ℕ) → HasLine text
line_of_fed text =
    elim (feed_cases text) [
      | inl lacks ↦ record { next = take 65536 (strip_carriage_return text); others = cut []; cut_is = cut_at text [] lacks }
      | inr (y, z, e, lacks) ↦ record {
        next = take 65536 (strip_carriage_return y);
        others = cut (z ++ 10 ∷ []);
        cut_is = ap (λ (t : List ℕ). cut (t ++ 10 ∷ [])) e ∙ ap cut (append_assoc y (10 ∷ z) (10 ∷ [])) ∙ cut_at y (z ++ 10 ∷ []) lacks;
      }
    ]

-- ---- a line feed more makes the last line whole
lines_of_parts-cons : (x : List ℕ) (parts : List (List ℕ)) → 0 < length parts → lines_of_parts (x ∷ parts) ≡ strip_carriage_return x ∷ lines_of_parts parts
lines_of_parts-cons x [] h = absurd (omega arith)
lines_of_parts-cons x (y ∷ more) h = refl

lines_at : (y z : List ℕ) → LacksFeed y → lines (y ++ 10 ∷ z) ≡ strip_carriage_return y ∷ lines z
lines_at y z h =
    let some : 0 < length (slice_split is_feed z) = omega (arith, length-slice_split is_feed z) in
    ap lines_of_parts (slice_split_at is_feed y 10 z h refl) ∙ lines_of_parts-cons y (slice_split is_feed z) some

-- with it and without it the lines but the last are the same
record IsFed (text : List ℕ) : Type 0 where
  pub whole : List (List ℕ)
  pub last : List ℕ
  pub rest : List (List ℕ)
  pub fed : lines (text ++ 10 ∷ []) ≡ whole ++ last ∷ []
  pub is : lines text ≡ whole ++ rest

fed-by : (fuel : ℕ) (text : List ℕ) → length text < fuel → IsFed text
fed-by zero text h = absurd (omega (arith, h))
fed-by (suc fuel) text h =
    elim (feed_cases text) [
      | inl lacks ↦ record { whole = []; last = strip_carriage_return text; rest = lines text; fed = lines_at text [] lacks; is = refl }
      | inr (y, z, e, lacks) ↦
          let f = fed-by fuel z (omega (arith, h, ap (λ (t : List ℕ). length t) e, length-append y (10 ∷ z))) in
          record {
            whole = strip_carriage_return y ∷ f.whole;
            last = f.last;
            rest = f.rest;
            fed = ap (λ (t : List ℕ). lines (t ++ 10 ∷ [])) e ∙ ap lines (append_assoc y (10 ∷ z) (10 ∷ [])) ∙ lines_at y (z ++ 10 ∷ []) lacks
                ∙ ap (λ (t : List (List ℕ)). strip_carriage_return y ∷ t) f.fed;
            is = ap lines e ∙ lines_at y z lacks ∙ ap (λ (t : List (List ℕ)). strip_carriage_return y ∷ t) f.is;
          }
    ]

-- a list before its last element
record IsFront (front whole : List (List ℕ)) : Type 0 where
  pub more : List (List ℕ)
  pub is : whole ≡ front ++ more

front_of_whole : (front whole : List (List ℕ)) (next last : List ℕ) (others : List (List ℕ)) → whole ++ last ∷ [] ≡ front ++ next ∷ others → IsFront front whole
front_of_whole [] whole next last others e = record { more = whole; is = refl }
front_of_whole (x ∷ front) [] next last others e =
    let none : [] ≡ front ++ next ∷ others = cc in
    absurd (omega (arith, ap (λ (t : List (List ℕ)). length t) none, length-append front (next ∷ others)))
front_of_whole (x ∷ front) (y ∷ whole) next last others e =
    let same : y ≡ x = cc in
    let tails : whole ++ last ∷ [] ≡ front ++ next ∷ others = cc in
    let f = front_of_whole front whole next last others tails in
    record { more = f.more; is = ap (λ (t : List ℕ). t ∷ whole) same ∙ ap (λ (t : List (List ℕ)). x ∷ t) f.is }

-- whole lines of a text are its first lines
record AreFirst (text : List ℕ) (answered : List (List ℕ)) : Type 0 where
  pub others : List (List ℕ)
  pub is : lines text ≡ answered ++ others

first_of_whole : (text : List ℕ) (answered : List (List ℕ)) (next : List ℕ) (others : List (List ℕ)) → lines (text ++ 10 ∷ []) ≡ answered ++ next ∷ others → AreFirst text answered
first_of_whole text answered next others e =
    let f = fed-by (suc (length text)) text (omega arith) in
    let w = front_of_whole answered f.whole next f.last others (sym f.fed ∙ e) in
    record { others = w.more ++ f.rest; is = f.is ∙ ap (λ (t : List (List ℕ)). t ++ f.rest) w.is ∙ append_assoc answered w.more f.rest }

-- lines that were cut, of which there is one, are lines of which there is one
record HasFirst (whole : List (List ℕ)) : Type 0 where
  pub line : List ℕ
  pub others : List (List ℕ)
  pub is : whole ≡ line ∷ others

first_of_some : (whole : List (List ℕ)) (x : List ℕ) (more : List (List ℕ)) → map (take 65536) whole ≡ x ∷ more → HasFirst whole
first_of_some [] x more e = cc
first_of_some (line ∷ others) x more e = record { line = line; others = others; is = refl }

-- ---- the first lines of what a source gave
pub record FirstParts (all : List ℕ) (left : Option (List ℕ)) (cut_lines : List (List ℕ)) : Type 0 where
  pub answered : List (List ℕ)
  pub others : List (List ℕ)
  pub first : AreFirstLines all left answered others
  pub is_cut : map (take 65536) answered ≡ cut_lines

pub first_of_parts : (all : List ℕ) (left : Option (List ℕ)) (answered others : List (List ℕ)) → cut all ≡ answered ++ others → AreWholeWhenCut all left answered → FirstParts all left answered
first_of_parts all left answered others e (inl last) =
    let p = parts_of_cut (lines all) answered others e in
    record { answered = p.first; others = p.second; first = record { cut = p.both; whole = inl last }; is_cut = p.first_cut }
first_of_parts all left answered others e (inr (next, more, fed)) =
    let p = parts_of_cut (lines (all ++ 10 ∷ [])) answered (next ∷ more) fed in
    let q = first_of_some p.second next more p.second_cut in
    let whole = p.both ∙ ap (λ (t : List (List ℕ)). p.first ++ t) q.is in
    let f = first_of_whole all p.first q.line q.others whole in
    record {
      answered = p.first;
      others = f.others;
      first = record { cut = f.is; whole = inr (record { next = q.line; others = q.others; cut = whole }) };
      is_cut = p.first_cut;
    }

-- all lines of a source that is at its end
pub all_lines : (all : List ℕ) (left : Option (List ℕ)) → IsAtEnd left → AreFirstLines all left (lines all) []
all_lines all left last = record { cut = sym (append-nil (lines all)); whole = inl last }
