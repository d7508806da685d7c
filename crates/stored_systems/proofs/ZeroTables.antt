-- Tables of zeros: written bit by bit, longer by some rows, turned, and of a part of their rows.
use Rattle.std.specs.Prelude.{◌≡◌, ◌≢◌, ℕ, zero, suc, ◌+◌, ◌<◌, ◌↔◌, Bool, true, false, not, cond, List, [], ◌∷◌, ◌++◌, length, map, filter, drop, take, replicate, ℤ, pos, IsTrue, All}
use Rattle.std.proofs.Common.{refl, sym, ap, ◌∙◌, arith, subst, inl, inr, ◌⊎◌, get_or, set}
use Rattle.std.proofs.lemmas.List.{append_assoc, take_more, length-append, append-nil, length-take, length-drop, get_or-drop, length-set, length-map, length-replicate, get_or-set_same, get_or-set_other, get_or-map, get_or_default, get_or-replicate}
use Rattle.std.proofs.lemmas.List.Elements.{All-head, All-tail, All-map, All-append}
use Rattle.std.proofs.lemmas.Bool.{cases_eq}
use Rattle.flat_rows.specs.Flat.{marked}
use Rattle.row_core.specs.Vectors.{cell, dot}
use Rattle.row_core.specs.Lists.{Row, row_at, vectors, system_rows, Pointwise}
use Rattle.row_core.proofs.PointwiseLemmas.{pointwise_nil, pointwise_cons, pointwise_tail, pointwise_append}
use Rattle.sat_matrix.proofs.MarkedRows.{pointwise_marked}
use Rattle.flat_rows.proofs.Marked.{marked-map, marked-append}
use Rattle.cone_laws.specs.Canon.{vector_at}
use Rattle.cone_laws.specs.Cones.{Generates}
use Rattle.cone_laws.specs.Members.{ConeOf}
use Rattle.cone_laws.proofs.Columns.{dot_comm}
use Rattle.cone_laws.proofs.SystemLists.{zero_on_lines}
use Rattle.sat_matrix.specs.Tables.{Table, bits_of, transposed}
use Rattle.sat_matrix.specs.ZeroTables.{TellsZeros, IsZeroTable}
use Rattle.row_core.proofs.RowListLemmas.{length-vectors, vector_at-vectors}
use Rattle.sat_matrix.proofs.TurnedTables.{TellsRows, turned_tells}
use Rattle.gens_sys.specs.declared.kind.GenKind.TheVariants.{Line}
use Rattle.gens_sys.specs.Generators.{Generator, Generators, row_at as generator_at}
use Rattle.cons_sys.specs.Constraints.{Constraint, Constraints}
use Rattle.stored_systems.specs.WorkLists.{divisor_row, constraint_row, constraint_list, generator_row, generator_list}
use Rattle.stored_systems.specs.StoredForms.{is_divisor_row, stored_constraints, stored_generators}
use Rattle.stored_systems.proofs.Irredundance.{con_rows_plain}
use Rattle.stored_systems.proofs.StoredPair.{gen_list_stored}
use Rattle.stored_systems.proofs.DivisorRow.{dot_divisor}
use Rattle.stored_systems.specs.Entries.{is_last_one}
use Rattle.stored_systems.specs.Marks.{has_mark}
use Rattle.stored_systems.proofs.RowLemmas.{divisor_by_entries}
use Rattle.stored_systems.specs.Zeros.{ArePairZeros, TellsFrom, AreZeroOn, kept_inequalities}

-- ---- the row of the divisor
-- the one row of the table tells the zeros of the row of the divisor on the first n generators
pub record IsDivisorUpto (n : ℕ) (gs : Generators) (table : Table) : Type 0 where
  pub columns : table.columns ≡ length gs.list
  pub single : length table.rows ≡ 1
  pub wide : length (bits_of table.rows 0) ≡ length gs.list
  pub told : (j : ℕ) → j < n → IsTrue (get_or (bits_of table.rows 0) j false) ↔ (cell (generator_at gs.list j) gs.dim ≡ pos 0)

pub divisor_start : (gs : Generators) (table : Table) → table.columns ≡ length gs.list → table.rows ≡ replicate table.columns false ∷ [] → IsDivisorUpto 0 gs table
divisor_start gs table columns rows = record {
  columns = columns;
  single = ap length rows;
  wide = ap (λ rs. length (bits_of rs 0)) rows ∙ length-replicate table.columns false ∙ columns;
  told = λ j l. absurd (omega (arith, l));
}

pub divisor_more : (n : ℕ) (gs : Generators) (cur new : Table) (bit : Bool) → n < length gs.list → IsDivisorUpto n gs cur → IsTrue bit ↔ (cell (generator_at gs.list n) gs.dim ≡ pos 0) → new ≡ record cur { rows = set cur.rows 0 (set (bits_of cur.rows 0) n bit) } → IsDivisorUpto (n + 1) gs new
divisor_more n gs cur new bit below h tells e = record {
  columns = ap (λ (t : Table). t.columns) e ∙ h.columns;
  single = ap length in_rows ∙ length-set cur.rows 0 written ∙ h.single;
  wide = ap length here ∙ length-set (bits_of cur.rows 0) n bit ∙ h.wide;
  told = λ j l. by_place j (cases_eq j n) l;
}
  where
    written : List Bool
    written = set (bits_of cur.rows 0) n bit

    in_rows : new.rows ≡ set cur.rows 0 written
    in_rows = ap (λ (t : Table). t.rows) e

    here : bits_of new.rows 0 ≡ written
    here = ap (λ rs. bits_of rs 0) in_rows ∙ get_or-set_same cur.rows 0 written [] (omega (arith, h.single))

    by_place : (j : ℕ) → (j ≡ n) ⊎ (j ≢ n) → j < n + 1 → IsTrue (get_or (bits_of new.rows 0) j false) ↔ (cell (generator_at gs.list j) gs.dim ≡ pos 0)
    by_place j (inl same) l =
        subst (λ (m : ℕ). IsTrue (get_or (bits_of new.rows 0) m false) ↔ (cell (generator_at gs.list m) gs.dim ≡ pos 0)) (sym same)
        (subst (λ (b : Bool). IsTrue b ↔ (cell (generator_at gs.list n) gs.dim ≡ pos 0)) (sym (ap (λ (bits : List Bool). get_or bits n false) here ∙ get_or-set_same (bits_of cur.rows 0) n bit false (omega (arith, h.wide, below)))) tells)
    by_place j (inr other) l =
        subst (λ (b : Bool). IsTrue b ↔ (cell (generator_at gs.list j) gs.dim ≡ pos 0)) (sym (ap (λ (bits : List Bool). get_or bits j false) here ∙ get_or-set_other (bits_of cur.rows 0) n j bit false other)) (h.told j (omega (arith, l, other)))

listed_dot : (gs : Generators) (j : ℕ) → j < length gs.list → dot (row_at (generator_list gs) j) (divisor_row gs.dim) ≡ cell (generator_at gs.list j) gs.dim
listed_dot gs j h =
    dot_comm (row_at (generator_list gs) j) (divisor_row gs.dim) ∙ dot_divisor gs.dim (row_at (generator_list gs) j)
    ∙ ap (λ (row : Row). cell row.0 gs.dim) (get_or-map generator_row gs.list j ([], Line) ([], false) h)

pub divisor_end : (n : ℕ) (gs : Generators) (table : Table) → n ≡ length gs.list → IsDivisorUpto n gs table → IsZeroTable (generator_list gs) (length (generator_list gs)) (divisor_row gs.dim ∷ []) table
divisor_end n gs table end h = record { columns = h.columns ∙ size; each = record { as_many = h.single; each = told } }
  where
    size : length gs.list ≡ length (generator_list gs)
    size = sym (length-map gs.list generator_row)

    row : TellsZeros (generator_list gs) (length (generator_list gs)) (divisor_row gs.dim) (bits_of table.rows 0)
    row = record {
      wide = h.wide ∙ size;
      zeros = λ j l.
          let b : j < length gs.list = omega (arith, l, size) in
          subst (λ (z : ℤ). IsTrue (get_or (bits_of table.rows 0) j false) ↔ (z ≡ pos 0)) (sym (listed_dot gs j b)) (h.told j (omega (arith, b, end)));
    }

    told : (i : ℕ) (d : List ℤ) (e : List Bool) → i < 1 → TellsZeros (generator_list gs) (length (generator_list gs)) (get_or (divisor_row gs.dim ∷ []) i d) (get_or table.rows i e)
    told zero d e l = subst (λ (bits : List Bool). TellsZeros (generator_list gs) (length (generator_list gs)) (divisor_row gs.dim) bits) (sym (get_or_default table.rows 0 e [] (omega (arith, h.single)))) row
    told (suc i) d e l = absurd (omega (arith, l))

-- ---- further rows
pub zeros_append : (list : List Row) (vs more : List (List ℤ)) (old new : Table) (bits : List (List Bool)) → IsZeroTable list (length list) vs old → Pointwise (TellsZeros list (length list)) more bits → new.columns ≡ old.columns → new.rows ≡ old.rows ++ bits → IsZeroTable list (length list) (vs ++ more) new
zeros_append list vs more old new bits h g c e = record {
  columns = c ∙ h.columns;
  each = subst (λ (rs : List (List Bool)). Pointwise (TellsZeros list (length list)) (vs ++ more) rs) (sym e) (pointwise_append (TellsZeros list (length list)) vs more old.rows bits h.each g);
}

full_tells : (list : List Row) (v : List ℤ) → All (λ (row : Row). dot row.0 v ≡ pos 0) list → TellsZeros list (length list) v (replicate (length list) true)
full_tells list v h = record {
  wide = length-replicate (length list) true;
  zeros = λ j l. ((λ _. h j ([], false) l), (λ _. get_or-replicate (length list) j true false l));
}

pub full_rows : (list : List Row) (vs : List (List ℤ)) → AreZeroOn list vs → Pointwise (TellsZeros list (length list)) vs (replicate (length vs) (replicate (length list) true))
full_rows list [] h = pointwise_nil (TellsZeros list (length list))
full_rows list (v ∷ vs) h =
    let P : List ℤ → Type 0 = λ v. All (λ (row : Row). dot row.0 v ≡ pos 0) list in
    pointwise_cons (TellsZeros list (length list)) v vs (replicate (length list) true) (replicate (length vs) (replicate (length list) true)) (full_tells list v (All-head P v vs h)) (full_rows list vs (All-tail P v vs h))

pub zeros_full : (list : List Row) (vs more : List (List ℤ)) (old new : Table) (n : ℕ) → IsZeroTable list (length list) vs old → AreZeroOn list more → n ≡ length more → new.columns ≡ old.columns → new.rows ≡ old.rows ++ replicate n (replicate old.columns true) → IsZeroTable list (length list) (vs ++ more) new
zeros_full list vs more old new n h g size c e =
    zeros_append list vs more old new (replicate (length more) (replicate (length list) true)) h (full_rows list more g) c
    (e ∙ ap (λ (k : ℕ). old.rows ++ replicate k (replicate old.columns true)) size ∙ ap (λ (k : ℕ). old.rows ++ replicate (length more) (replicate k true)) h.columns)

-- ---- a part of the rows
marked_first : {X : Type 0} (b : Bool) (x : X) (marks : List Bool) (xs rest : List X) → marked marks xs ≡ rest → marked (b ∷ marks) (x ∷ xs) ≡ cond b (x ∷ rest) rest
marked_first true x marks xs rest e = ap (λ ys. x ∷ ys) e
marked_first false x marks xs rest e = e

pub marked-filter : {X : Type 0} (keep : X → Bool) (xs : List X) → marked (map keep xs) xs ≡ filter keep xs
marked-filter keep [] = refl
marked-filter keep (x ∷ xs) = marked_first (keep x) x (map keep xs) xs (filter keep xs) (marked-filter keep xs)

-- the row of a ray, where the ray isn't the row of the divisor
pub row_kept : (dim : ℕ) (ray : List ℤ) (r : Bool) (old new : List (List Bool)) (bits : List Bool) → r ≡ is_last_one dim ray → length ray ≡ dim + 1 → r ≡ false → new ≡ old ++ bits ∷ [] → new ≡ old ++ marked (not (is_divisor_row dim ray) ∷ []) (bits ∷ [])
row_kept dim ray r old new bits e w f n = n ∙ ap (λ (b : Bool). old ++ marked (not b ∷ []) (bits ∷ [])) (sym (divisor_by_entries dim ray w ∙ sym e ∙ f))

pub row_skipped : (dim : ℕ) (ray : List ℤ) (r : Bool) (old : List (List Bool)) (bits : List Bool) → r ≡ is_last_one dim ray → length ray ≡ dim + 1 → r ≡ true → old ≡ old ++ marked (not (is_divisor_row dim ray) ∷ []) (bits ∷ [])
row_skipped dim ray r old bits e w t = sym (append-nil old) ∙ ap (λ (b : Bool). old ++ marked (not b ∷ []) (bits ∷ [])) (sym (divisor_by_entries dim ray w ∙ sym e ∙ t))

-- one row more
pub kept_row_more : (dim from i : ℕ) (rows : List Row) (zeros old cur new : List (List Bool)) (row : List ℤ) → i < length rows → from + length rows ≡ length zeros → row ≡ row_at rows i → cur ≡ old ++ marked (take i (map (λ r. not (is_divisor_row dim r)) (vectors rows))) (take i (drop from zeros)) → new ≡ cur ++ marked (not (is_divisor_row dim row) ∷ []) (bits_of zeros (from + i) ∷ []) → new ≡ old ++ marked (take (i + 1) (map (λ r. not (is_divisor_row dim r)) (vectors rows))) (take (i + 1) (drop from zeros))
kept_row_more dim from i rows zeros old cur new row below many is h e =
    e ∙ ap (λ rs. rs ++ marked (keep row ∷ []) (bits_of zeros (from + i) ∷ [])) h
    ∙ append_assoc old (marked (take i marks) (take i (drop from zeros))) (marked (keep row ∷ []) (bits_of zeros (from + i) ∷ []))
    ∙ ap (λ rs. old ++ rs) (ap (λ (b : Bool). marked (take i marks) (take i (drop from zeros)) ++ marked (b ∷ []) (bits_of zeros (from + i) ∷ [])) same_mark
    ∙ ap (λ (bits : List Bool). marked (take i marks) (take i (drop from zeros)) ++ marked (get_or marks i false ∷ []) (bits ∷ [])) same_bits
    ∙ sym (marked-append (take i marks) (get_or marks i false ∷ []) (take i (drop from zeros)) (get_or (drop from zeros) i [] ∷ []) (omega (arith, length-take i marks, length-take i (drop from zeros), mark_size, rest_size, below)))
    ∙ ap (λ (ms : List Bool). marked ms (take i (drop from zeros) ++ get_or (drop from zeros) i [] ∷ [])) (sym (take_more marks i false (omega (arith, below, mark_size))))
    ∙ ap (λ (rs : List (List Bool)). marked (take (i + 1) marks) rs) (sym (take_more (drop from zeros) i [] (omega (arith, below, rest_size)))))
  where
    keep : List ℤ → Bool
    keep r = not (is_divisor_row dim r)

    marks : List Bool
    marks = map keep (vectors rows)

    mark_size : length marks ≡ length rows
    mark_size = length-map (vectors rows) keep ∙ length-vectors rows

    rest_size : length (drop from zeros) ≡ length rows
    rest_size = length-drop from zeros ∙ omega (arith, many)

    same_mark : keep row ≡ get_or marks i false
    same_mark = ap keep (is ∙ sym (vector_at-vectors rows i)) ∙ sym (get_or-map keep (vectors rows) i [] false (omega (arith, below, length-vectors rows)))

    same_bits : bits_of zeros (from + i) ≡ get_or (drop from zeros) i []
    same_bits = sym (get_or-drop from zeros i [])

-- the rows of the inequalities of a list
pub zeros_marked : (list rows : List Row) (old new : Table) → IsZeroTable list (length list) (vectors rows) old → new.columns ≡ old.columns → new.rows ≡ marked (map (has_mark false) rows) old.rows → IsZeroTable list (length list) (vectors (filter (has_mark false) rows)) new
zeros_marked list rows old new h c e = record {
  columns = c ∙ h.columns;
  each =
      subst (λ (vs : List (List ℤ)). Pointwise (TellsZeros list (length list)) vs new.rows) (sym (marked-map (λ (row : Row). row.0) (map (has_mark false) rows) rows) ∙ ap vectors (marked-filter (has_mark false) rows))
      (subst (λ (rs : List (List Bool)). Pointwise (TellsZeros list (length list)) (marked (map (has_mark false) rows) (vectors rows)) rs) (sym e) (pointwise_marked (TellsZeros list (length list)) (map (has_mark false) rows) (vectors rows) old.rows h.each));
}

-- those of the stored inequalities
pub zeros_kept : (list : List Row) (dim from : ℕ) (vs rays : List (List ℤ)) (zeros old new : Table) → IsZeroTable list (length list) vs old → TellsFrom from list rays zeros → new.columns ≡ old.columns → new.rows ≡ old.rows ++ marked (map (λ r. not (is_divisor_row dim r)) rays) (drop from zeros.rows) → IsZeroTable list (length list) (vs ++ kept_inequalities dim rays) new
zeros_kept list dim from vs rays zeros old new h t c e =
    let keep : List ℤ → Bool = λ r. not (is_divisor_row dim r) in
    zeros_append list vs (kept_inequalities dim rays) old new (marked (map keep rays) (drop from zeros.rows)) h
    (subst (λ (xs : List (List ℤ)). Pointwise (TellsZeros list (length list)) xs (marked (map keep rays) (drop from zeros.rows))) (marked-filter keep rays) (pointwise_marked (TellsZeros list (length list)) (map keep rays) rays (drop from zeros.rows) t.each)) c e

-- ---- a turned table
pub zeros_turned : (list rows : List Row) (table turned : Table) → IsZeroTable list (length list) (vectors rows) table → turned ≡ record { columns = length table.rows; rows = transposed table.columns table.rows; spare = 0 } → IsZeroTable rows (length rows) (vectors list) turned
zeros_turned list rows table turned h e = record {
  columns = ap (λ (t : Table). t.columns) e ∙ many;
  each = record { as_many = ap length in_rows ∙ t.as_many ∙ sym (length-vectors list); each = λ i d f l. at i d f (omega (arith, l, length-vectors list)) };
}
  where
    t : TellsRows list (vectors rows) (transposed table.columns table.rows)
    t = turned_tells list (vectors rows) table h

    in_rows : turned.rows ≡ transposed table.columns table.rows
    in_rows = ap (λ (x : Table). x.rows) e

    many : length table.rows ≡ length rows
    many = h.each.as_many ∙ length-vectors rows

    told : (i : ℕ) → i < length list → TellsZeros rows (length rows) (row_at list i) (bits_of (transposed table.columns table.rows) i)
    told i l = record {
      wide = t.wide i l ∙ length-vectors rows;
      zeros = λ j b. subst (λ (z : ℤ). IsTrue (get_or (bits_of (transposed table.columns table.rows) i) j false) ↔ (z ≡ pos 0)) (dot_comm (row_at list i) (vector_at (vectors rows) j) ∙ ap (λ (v : List ℤ). dot v (row_at list i)) (vector_at-vectors rows j)) (t.tells i j l (omega (arith, b, length-vectors rows)));
    }

    at : (i : ℕ) (d : List ℤ) (f : List Bool) → i < length list → TellsZeros rows (length rows) (get_or (vectors list) i d) (get_or turned.rows i f)
    at i d f l =
        subst (λ (v : List ℤ). TellsZeros rows (length rows) v (get_or turned.rows i f)) (sym (get_or_default (vectors list) i d [] (omega (arith, l, length-vectors list)) ∙ vector_at-vectors list i))
        (subst (λ (bits : List Bool). TellsZeros rows (length rows) (row_at list i) bits) (sym (ap (λ rs. get_or rs i f) in_rows ∙ get_or_default (transposed table.columns table.rows) i f [] (omega (arith, l, t.as_many)))) (told i l))

pub vectors-system_rows : (lines rays : List (List ℤ)) → vectors (system_rows lines rays) ≡ lines ++ rays
vectors-system_rows [] [] = refl
vectors-system_rows [] (r ∷ rays) = ap (λ vs. r ∷ vs) (vectors-system_rows [] rays)
vectors-system_rows (l ∷ lines) rays = ap (λ vs. l ∷ vs) (vectors-system_rows lines rays)

-- where there is no line
pub zeros_alone : (list : List Row) (first rest : List (List ℤ)) (sat turned : Table) → length first ≡ 0 → IsZeroTable list (length list) rest sat → turned ≡ record { columns = length sat.rows; rows = transposed sat.columns sat.rows; spare = 0 } → IsZeroTable (system_rows first rest) (length (system_rows first rest)) (vectors list) turned
zeros_alone list [] rest sat turned none h e = zeros_turned list (system_rows [] rest) sat turned (subst (λ (vs : List (List ℤ)). IsZeroTable list (length list) vs sat) (sym (vectors-system_rows [] rest)) h) e
zeros_alone list (l ∷ first) rest sat turned none h e = absurd (omega (arith, none))

-- with true places for lines in front of its columns
pub zeros_behind : (list : List Row) (first rest : List (List ℤ)) (lines : ℕ) (sat blank full whole turned : Table) → blank.columns ≡ sat.columns → blank.rows ≡ [] → full.columns ≡ blank.columns → full.rows ≡ blank.rows ++ replicate lines (replicate blank.columns true) → whole.columns ≡ full.columns → whole.rows ≡ full.rows ++ sat.rows → turned ≡ record { columns = length whole.rows; rows = transposed whole.columns whole.rows; spare = 0 } → length first ≡ lines → AreZeroOn list first → IsZeroTable list (length list) rest sat → IsZeroTable (system_rows first rest) (length (system_rows first rest)) (vectors list) turned
zeros_behind list first rest lines sat blank full whole turned c none fc fe wc we te size flat h =
    zeros_turned list (system_rows first rest) whole turned
    (subst (λ (vs : List (List ℤ)). IsZeroTable list (length list) vs whole) (sym (vectors-system_rows first rest)) (zeros_append list first rest full whole sat.rows of_first h.each wc we)) te
  where
    of_none : IsZeroTable list (length list) [] blank
    of_none = record { columns = c ∙ h.columns; each = subst (λ (rs : List (List Bool)). Pointwise (TellsZeros list (length list)) [] rs) (sym none) (pointwise_nil (TellsZeros list (length list))) }

    of_first : IsZeroTable list (length list) first full
    of_first = zeros_full list [] first blank full lines of_none flat (sym size) fc fe

-- ---- where the rows of a table begin
pointwise_rest : {A B : Type 0} (R : A → B → Type 0) (xs zs : List A) (ys : List B) → Pointwise R (xs ++ zs) ys → Pointwise R zs (drop (length xs) ys)
pointwise_rest R [] zs ys h = h
pointwise_rest R (x ∷ xs) zs [] h = absurd (omega (arith, h.as_many))
pointwise_rest R (x ∷ xs) zs (y ∷ ys) h = pointwise_rest R xs zs ys (pointwise_tail R x (xs ++ zs) y ys h)

pub tells_behind : (list : List Row) (first rest : List (List ℤ)) (table : Table) (from : ℕ) → from ≡ length first → IsZeroTable list (length list) (first ++ rest) table → TellsFrom from list rest table
tells_behind list first rest table from e h = record {
  columns = h.columns;
  many = h.each.as_many ∙ length-append first rest ∙ ap (λ (n : ℕ). n + length rest) (sym e);
  each = subst (λ (n : ℕ). Pointwise (TellsZeros list (length list)) rest (drop n table.rows)) (sym e) (pointwise_rest (TellsZeros list (length list)) first rest table.rows h.each);
}

-- ---- lines
-- the lines of a system are 0 on all rows that are valid on it
pub lines_zero : (width : ℕ) (lines rays equalities inequalities : List (List ℤ)) → Generates (ConeOf width (system_rows lines rays)) equalities inequalities → AreZeroOn (system_rows equalities inequalities) lines
lines_zero width lines rays equalities inequalities g i d h =
    All-append (λ (row : Row). dot row.0 (get_or lines i d) ≡ pos 0) (map (λ l. (l, true)) equalities) (map (λ r. (r, false)) inequalities)
    (All-map (λ (row : Row). dot row.0 (get_or lines i d) ≡ pos 0) (λ (l : List ℤ). (l, true)) equalities (λ k f b. zero_on_lines width lines rays (get_or equalities k f) (g.lines_within k f b).0 i d h))
    (All-map (λ (row : Row). dot row.0 (get_or lines i d) ≡ pos 0) (λ (r : List ℤ). (r, false)) inequalities (λ k f b. zero_on_lines width lines rays (get_or inequalities k f) (g.rays_within k f b) i d h))

-- ---- the kept table
pub pair_table : (dim : ℕ) (cs : Constraints) (gs : Generators) (equalities inequalities : List (List ℤ)) (table : Table) → cs.dim ≡ dim → gs.dim ≡ dim → cs.list ≡ stored_constraints dim equalities inequalities → IsZeroTable (generator_list gs) (length (generator_list gs)) (divisor_row gs.dim ∷ equalities ++ kept_inequalities gs.dim inequalities) table → ArePairZeros cs gs table
pair_table dim cs gs equalities inequalities table cd gd list h = subst (λ (vs : List (List ℤ)). IsZeroTable (generator_list gs) (length (generator_list gs)) vs table) (sym rows) h
  where
    behind : vectors (map constraint_row cs.list) ≡ equalities ++ kept_inequalities gs.dim inequalities
    behind =
        ap (λ (cons : List Constraint). vectors (map constraint_row cons)) list ∙ ap vectors (con_rows_plain equalities (kept_inequalities dim inequalities)) ∙ vectors-system_rows equalities (kept_inequalities dim inequalities)
        ∙ ap (λ (n : ℕ). equalities ++ kept_inequalities n inequalities) (sym gd)

    rows : vectors (constraint_list cs) ≡ divisor_row gs.dim ∷ equalities ++ kept_inequalities gs.dim inequalities
    rows = ap (λ (n : ℕ). divisor_row n ∷ vectors (map constraint_row cs.list)) (cd ∙ sym gd) ∙ ap (λ vs. divisor_row gs.dim ∷ vs) behind

pub copied_zeros : (cs : Constraints) (gs : Generators) (table copy : Table) → copy ≡ record table { spare = 0 } → ArePairZeros cs gs table → ArePairZeros cs gs copy
copied_zeros cs gs table copy e h = subst (λ (t : Table). ArePairZeros cs gs t) (sym e) (record { columns = h.columns; each = h.each })
