-- Rows as spans of one list of forms.
use Rattle.std.proofs.Common.{◌≡◌, ℕ, ◌-◌, ◌≤◌, List, [], ◌∷◌, ◌++◌, length, take, drop, map, refl, ap, sym, ◌∙◌, arith, length-append, length-drop}
use Rattle.std.specs.Prelude.{All}
use Rattle.std.proofs.lemmas.List.{take-append-le, drop-append-le, drop_at, take_all, map-append}
use Rattle.std.proofs.lemmas.List.Elements.{All-head, All-tail}
use Rattle.grammar.specs.Span.{IsSpan}
use Rattle.grammar.specs.Rows.{row_at}
use Rattle.grammar.specs.declared.re.Re.{Re}
use Rattle.grammar.specs.declared.span.Span.{Span}

row_at-append : (forms more : List Re) (span : Span) → IsSpan (length forms) span → row_at (forms ++ more) span ≡ row_at forms span
row_at-append forms more span h =
    let first : drop span.start (forms ++ more) ≡ drop span.start forms ++ more = drop-append-le span.start forms more (omega (arith, h.ordered, h.within)) in
    let room : span.end - span.start ≤ length (drop span.start forms) = omega (arith, length-drop span.start forms, h.ordered, h.within) in
    ap (λ (x : List Re). take (span.end - span.start) x) first ∙ take-append-le (span.end - span.start) (drop span.start forms) more room

rows-append : (forms more : List Re) (spans : List Span) → All (IsSpan (length forms)) spans → map (row_at (forms ++ more)) spans ≡ map (row_at forms) spans
rows-append forms more [] h = refl
rows-append forms more (span ∷ spans) h =
    let head : row_at (forms ++ more) span ≡ row_at forms span = row_at-append forms more span (All-head (IsSpan (length forms)) span spans h) in
    let tail : map (row_at (forms ++ more)) spans ≡ map (row_at forms) spans = rows-append forms more spans (All-tail (IsSpan (length forms)) span spans h) in
    cc

last_row : (forms more : List Re) (start end : ℕ) → start ≡ length forms → end ≡ length (forms ++ more) → take (end - start) (drop start (forms ++ more)) ≡ more
last_row forms more start end e f =
    let behind : drop start (forms ++ more) ≡ more = drop_at forms more start (sym e) in
    ap (λ (x : List Re). take (end - start) x) behind ∙ take_all (end - start) more (omega (arith, length-append forms more))

-- one more row behind the others
pub rows-push : (forms grown more : List Re) (spans new : List Span) (start end : ℕ) →
    All (IsSpan (length forms)) spans → grown ≡ forms ++ more → new ≡ spans ++ record { start = start; end = end } ∷ [] →
    start ≡ length forms → end ≡ length grown → map (row_at grown) new ≡ map (row_at forms) spans ++ more ∷ []
rows-push forms grown more spans new start end h e f s t =
    let last : row_at (forms ++ more) (record { start = start; end = end }) ≡ more = last_row forms more start end s (t ∙ ap length e) in
    ap (λ (x : List Re). map (row_at x) new) e ∙ ap (λ (x : List Span). map (row_at (forms ++ more)) x) f
    ∙ map-append (row_at (forms ++ more)) spans (record { start = start; end = end } ∷ [])
    ∙ ap (λ (x : List (List Re)). x ++ row_at (forms ++ more) (record { start = start; end = end }) ∷ []) (rows-append forms more spans h)
    ∙ ap (λ (x : List Re). map (row_at forms) spans ++ x ∷ []) last
