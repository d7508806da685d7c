-- Bytes that end with a line feed, and the lines behind them.
use Rattle.std.proofs.Common.{◌≡◌, ℕ, ◌+◌, ◌<◌, List, [], ◌∷◌, ◌++◌, length, refl, sym, ◌∙◌, ap, arith, Bool, true, false, cond, map, append_assoc, inl, inr, ◌⊎◌, ◌-◌, subst, get_or, take, drop, length-append}
use Rattle.std.specs.Prelude.{All}
use Rattle.std.proofs.lemmas.List.Elements.{All-push, All-nil}
use Rattle.cdd_reading.specs.Files.{IsEnd, IsFile}
use Rattle.std.specs.List.{slice_split, onto_first}
use Rattle.std.specs.Str.Lines.{lines, lines_of_parts, strip_carriage_return}
use Rattle.std.proofs.lemmas.List.{append-nil}
use Rattle.std.proofs.lemmas.List.Splits.{length-slice_split}
use Rattle.std.proofs.Math.Seq.{take-append_seam}
use Rattle.plain_text.proofs.LineCuts.{lines_of_parts-cons}
use Rattle.plain_text.specs.Lines.{is_feed}

-- the parts of the bytes before a line feed
front_parts : List ℕ → List (List ℕ)
front_parts [] = [] ∷ []
front_parts (b ∷ f) = cond (is_feed b) ([] ∷ front_parts f) (onto_first b (front_parts f))

onto_append : (b : ℕ) (a c : List (List ℕ)) → 0 < length a → onto_first b (a ++ c) ≡ onto_first b a ++ c
onto_append b [] c h = absurd (omega arith)
onto_append b (x ∷ a) c h = refl

some_step : (t : Bool) (b : ℕ) (a : List (List ℕ)) → 0 < length (cond t ([] ∷ a) (onto_first b a))
some_step true b a = omega arith
some_step false b [] = omega arith
some_step false b (x ∷ a) = omega arith

front_some : (f : List ℕ) → 0 < length (front_parts f)
unfolding front_parts
front_some [] = omega arith
front_some (b ∷ f) = some_step (is_feed b) b (front_parts f)

split_step : (t : Bool) (b : ℕ) (a c : List (List ℕ)) → 0 < length a → cond t ([] ∷ (a ++ c)) (onto_first b (a ++ c)) ≡ cond t ([] ∷ a) (onto_first b a) ++ c
split_step true b a c h = refl
split_step false b a c h = onto_append b a c h

front_split : (f xs : List ℕ) → slice_split is_feed (f ++ 10 ∷ xs) ≡ front_parts f ++ slice_split is_feed xs
unfolding front_parts
front_split [] xs = refl
front_split (b ∷ f) xs = ap (λ p. cond (is_feed b) ([] ∷ p) (onto_first b p)) (front_split f xs) ∙ split_step (is_feed b) b (front_parts f) (slice_split is_feed xs) (front_some f)

behind_some : (a c : List (List ℕ)) → 0 < length c → 0 < length (a ++ c)
behind_some [] c h = h
behind_some (x ∷ a) c h = omega arith

parts_append : (a c : List (List ℕ)) → 0 < length c → lines_of_parts (a ++ c) ≡ map strip_carriage_return a ++ lines_of_parts c
parts_append [] c h = refl
parts_append (x ∷ a) c h = lines_of_parts-cons x (a ++ c) (behind_some a c h) ∙ ap (λ t. strip_carriage_return x ∷ t) (parts_append a c h)

-- lines before and behind a line feed
pub lines-behind : (f xs : List ℕ) → lines (f ++ 10 ∷ xs) ≡ lines (f ++ 10 ∷ []) ++ lines xs
lines-behind f xs =
    ap lines_of_parts (front_split f xs)
    ∙ parts_append (front_parts f) (slice_split is_feed xs) (omega (arith, length-slice_split is_feed xs))
    ∙ ap (λ t. t ++ lines xs) (sym (ap lines_of_parts (front_split f []) ∙ parts_append (front_parts f) ([] ∷ []) (omega arith) ∙ append-nil (map strip_carriage_return (front_parts f))))

-- bytes of whole lines
abbrev pub AreWhole : List ℕ → Type 0
AreWhole front = (front ≡ []) ⊎ ((f : List ℕ) × (front ≡ f ++ 10 ∷ []))

pub whole_lines : (front xs : List ℕ) → AreWhole front → lines (front ++ xs) ≡ lines front ++ lines xs
whole_lines front xs (inl e) = ap (λ t. lines (t ++ xs)) e ∙ sym (ap (λ t. lines t ++ lines xs) e)
whole_lines front xs (inr (f, e)) =
    ap (λ t. lines (t ++ xs)) e ∙ ap (λ t. lines t) (append_assoc f (10 ∷ []) xs) ∙ lines-behind f xs ∙ sym (ap (λ t. lines t ++ lines xs) e)

cancel_right : (xs ys zs : List (List ℕ)) → xs ++ zs ≡ ys ++ zs → xs ≡ ys
cancel_right [] [] zs e = refl
cancel_right [] (y ∷ ys) zs e = let k : length zs ≡ length ((y ∷ ys) ++ zs) = ap (λ (t : List (List ℕ)). length t) e in absurd (omega (arith, k, length-append ys zs))
cancel_right (x ∷ xs) [] zs e = let k : length ((x ∷ xs) ++ zs) ≡ length zs = ap (λ (t : List (List ℕ)). length t) e in absurd (omega (arith, k, length-append xs zs))
cancel_right (x ∷ xs) (y ∷ ys) zs e =
    let h : x ≡ y = ap (λ (t : List (List ℕ)). get_or t 0 []) e in
    ap (λ t. x ∷ t) (cancel_right xs ys zs (ap (λ (t : List (List ℕ)). drop 1 t) e)) ∙ ap (λ v. v ∷ ys) h

-- the bytes before what is left, with the line that was read
pub record Front (bytes rest : List ℕ) (n : ℕ) (front : List ℕ) : Type 0 where
  pub cut : bytes ≡ front ++ rest
  pub whole : (rest ≡ []) ⊎ AreWhole front
  pub unended : All (λ line. ¬ (IsEnd line)) (lines front)
  pub number : n ≡ length (lines front) + 1

one_line : (front chunk line : List ℕ) (n : ℕ) → lines (front ++ chunk) ≡ lines front ++ line ∷ [] → n ≡ length (lines front) + 1 → n + 1 ≡ length (lines (front ++ chunk)) + 1
one_line front chunk line n e f = let k : length (lines (front ++ chunk)) ≡ length (lines front ++ line ∷ []) = ap (λ (t : List (List ℕ)). length t) e in omega (arith, k, f, length-append (lines front) (line ∷ []))

goes_further : (bytes rest behind front chunk line : List ℕ) (n : ℕ) → Front bytes rest n front → rest ≡ chunk ++ behind → (behind ≡ []) ⊎ AreWhole (front ++ chunk) → lines (front ++ chunk) ≡ lines front ++ line ∷ [] → ¬ (IsEnd line) → Front bytes behind (n + 1) (front ++ chunk)
goes_further bytes rest behind front chunk line n f e w l open_line = record {
  cut = f.cut ∙ ap (λ t. front ++ t) e ∙ sym (append_assoc front chunk behind);
  whole = w;
  unended = subst (λ (t : List (List ℕ)). All (λ x. ¬ (IsEnd x)) t) (sym l) (All-push (λ x. ¬ (IsEnd x)) (lines front) line f.unended open_line);
  number = one_line front chunk line n l f.number;
}

-- what is left isn't empty, so that whole lines were read
read_whole : (rest front : List ℕ) → 0 < length rest → (rest ≡ []) ⊎ AreWhole front → AreWhole front
read_whole rest front h (inl e) = let k : length rest ≡ 0 = ap (λ (t : List ℕ). length t) e in absurd (omega arith)
read_whole rest front h (inr w) = w

pub further : (bytes rest behind front line c : List ℕ) (n : ℕ) → Front bytes rest n front → 0 < length rest → lines rest ≡ line ∷ lines behind → ((rest ≡ c) × (behind ≡ [])) ⊎ (rest ≡ c ++ 10 ∷ behind) → ¬ (IsEnd line) → (now : List ℕ) × Front bytes behind (n + 1) now
further bytes rest behind front line c n f h l (inl (e, z)) o =
    let all : lines (front ++ rest) ≡ lines front ++ line ∷ [] = whole_lines front rest (read_whole rest front h f.whole) ∙ ap (λ t. lines front ++ t) (l ∙ ap (λ t. line ∷ lines t) z) in
    (front ++ rest, goes_further bytes rest behind front rest line n f (sym (append-nil rest) ∙ ap (λ t. rest ++ t) (sym z)) (inl z) all o)
further bytes rest behind front line c n f h l (inr e) o =
    let same : lines (c ++ 10 ∷ []) ≡ line ∷ [] = cancel_right (lines (c ++ 10 ∷ [])) (line ∷ []) (lines behind) (sym (lines-behind c behind) ∙ ap (λ t. lines t) (sym e) ∙ l) in
    (front ++ (c ++ 10 ∷ []), goes_further bytes rest behind front (c ++ 10 ∷ []) line n f (e ∙ sym (append_assoc c (10 ∷ []) behind)) (inr (inr (front ++ c, sym (append_assoc front c (10 ∷ []))))) (whole_lines front (c ++ 10 ∷ []) (read_whole rest front h f.whole) ∙ ap (λ t. lines front ++ t) same) o)

short_length : (front rest : List ℕ) → length (front ++ rest) - length rest ≡ length front
short_length front rest = omega (arith, length-append front rest)

taken : (front rest : List ℕ) → take (length (front ++ rest) - length rest) (front ++ rest) ≡ front
taken front rest = ap (λ n. take n (front ++ rest)) (short_length front rest) ∙ take-append_seam front rest

pub ended : (bytes rest behind front line : List ℕ) (n : ℕ) → Front bytes rest n front → 0 < length rest → lines rest ≡ line ∷ lines behind → IsEnd line → IsFile bytes (lines (take (length bytes - length rest) bytes)) (lines behind) × (n ≡ length (lines (take (length bytes - length rest) bytes)) + 1)
ended bytes rest behind front line n f h l e =
    let same : take (length bytes - length rest) bytes ≡ front = ap (λ t. take (length t - length rest) t) f.cut ∙ taken front rest in (
      record {
        last = line;
        cut = ap (λ t. lines t) f.cut ∙ whole_lines front rest (read_whole rest front h f.whole) ∙ ap (λ t. lines front ++ t) l ∙ ap (λ t. lines t ++ line ∷ lines behind) (sym same);
        unended = subst (λ (t : List ℕ). All (λ x. ¬ (IsEnd x)) (lines t)) (sym same) f.unended;
        ends = e;
      },
      f.number ∙ ap (λ t. length (lines t) + 1) (sym same),
    )

pub nothing_read : (bytes : List ℕ) → Front bytes bytes 1 []
nothing_read bytes = record { cut = refl; whole = inr (inl refl); unended = All-nil (λ x. ¬ (IsEnd x)); number = refl }
