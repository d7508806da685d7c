-- The rows of the code, one after the other.
use Rattle.std.proofs.Common.{◌≡◌, ℕ, zero, suc, ◌+◌, ◌<◌, true, false, List, [], ◌∷◌, ◌++◌, length, take, map, get_or, refl, ap, sym, ◌∙◌, arith, append_assoc, append-nil}
use Rattle.std.proofs.lemmas.Bool.{or_from, or_left, or_parts, or_right}
use Rattle.std.proofs.lemmas.List.{take_more, length-map}
use Rattle.grammar.specs.Form.{Form}
use Rattle.grammar.specs.Shape.{shape}
use Rattle.grammar.specs.Derivative.{after_row, after_rows, row_ends, some_ends}
use Rattle.grammar.specs.declared.re.Re.{Re}

row_shape : (rows : List (List Re)) (i : ℕ) → get_or (map (map shape) rows) i [] ≡ map shape (get_or rows i [])
row_shape [] i = refl
row_shape (row ∷ rows) zero = refl
row_shape (row ∷ rows) (suc i) = row_shape rows i

pub rows_more : (rows : List (List Re)) (i : ℕ) (row : List Re) → i < length rows → row ≡ get_or rows i [] → take (i + 1) (map (map shape) rows) ≡ take i (map (map shape) rows) ++ map shape row ∷ []
rows_more rows i row h e =
    let room : i < length (map (map shape) rows) = omega (arith, length-map rows (map shape)) in
    take_more (map (map shape) rows) i [] room
    ∙ ap (λ (x : List Form). take i (map (map shape) rows) ++ x ∷ []) (row_shape rows i ∙ ap (λ (x : List Re). map shape x) (sym e))

after_rows-push : (b : ℕ) (rows : List (List Form)) (row : List Form) → after_rows b (rows ++ row ∷ []) ≡ after_rows b rows ++ after_row b row
after_rows-push b [] row = append-nil (after_row b row)
after_rows-push b (first ∷ rows) row =
    ap (λ (x : List (List Form)). after_row b first ++ x) (after_rows-push b rows row) ∙ sym (append_assoc (after_row b first) (after_rows b rows) (after_row b row))

-- one more row behind those that were gone through
pub after_rows_more : (b : ℕ) (rows : List (List Re)) (i : ℕ) (row : List Re) (start old new : List (List Form)) → i < length rows → row ≡ get_or rows i [] →
    old ≡ start ++ after_rows b (take i (map (map shape) rows)) → new ≡ old ++ after_row b (map shape row) → new ≡ start ++ after_rows b (take (i + 1) (map (map shape) rows))
after_rows_more b rows i row start old new h e o n =
    n ∙ ap (λ (x : List (List Form)). x ++ after_row b (map shape row)) o
    ∙ append_assoc start (after_rows b (take i (map (map shape) rows))) (after_row b (map shape row))
    ∙ ap (λ (x : List (List Form)). start ++ x) (sym (after_rows-push b (take i (map (map shape) rows)) (map shape row)))
    ∙ ap (λ (x : List (List Form)). start ++ after_rows b x) (sym (rows_more rows i row h e))

some_ends-push : (rows : List (List Form)) (row : List Form) → some_ends rows ≡ false → row_ends row ≡ false → some_ends (rows ++ row ∷ []) ≡ false
some_ends-push [] row e h = or_from (row_ends row) false h refl
some_ends-push (first ∷ rows) row e h =
    let p = or_parts (row_ends first) (some_ends rows) e in
    or_from (row_ends first) (some_ends (rows ++ row ∷ [])) p.0 (some_ends-push rows row p.1 h)

pub some_ends_more : (rows : List (List Re)) (i : ℕ) (row : List Re) → i < length rows → row ≡ get_or rows i [] →
    some_ends (take i (map (map shape) rows)) ≡ false → row_ends (map shape row) ≡ false → some_ends (take (i + 1) (map (map shape) rows)) ≡ false
some_ends_more rows i row h e o n =
    ap some_ends (rows_more rows i row h e) ∙ some_ends-push (take i (map (map shape) rows)) (map shape row) o n

some_ends_at : (rows : List (List Re)) (i : ℕ) → i < length rows → row_ends (map shape (get_or rows i [])) ≡ true → some_ends (map (map shape) rows) ≡ true
some_ends_at [] i h e = absurd (omega arith)
some_ends_at (row ∷ rows) zero h e = or_left (row_ends (map shape row)) (some_ends (map (map shape) rows)) e
some_ends_at (row ∷ rows) (suc i) h e = or_right (row_ends (map shape row)) (some_ends (map (map shape) rows)) (some_ends_at rows i (omega arith) e)

pub some_ends_found : (rows : List (List Re)) (i : ℕ) (row : List Re) → i < length rows → row ≡ get_or rows i [] → row_ends (map shape row) ≡ true → some_ends (map (map shape) rows) ≡ true
some_ends_found rows i row h e r = some_ends_at rows i h (ap (λ (x : List Re). row_ends (map shape x)) (sym e) ∙ r)

pub no_rows : (rows : List (List Re)) → map (map shape) rows ≡ [] → rows ≡ []
no_rows [] e = refl
no_rows (row ∷ rows) e = cc
