use Rattle.std.proofs.Common.{◌≡◌, ◌+◌, ◌*◌, ◌<◌, ◌≤◌, List, ℤ, ℕ, length, map, sym, ap, ◌∙◌, subst, arith}
use Rattle.std.specs.Prelude.{All}
use Rattle.std.specs.List.{range_with_len}
use Rattle.std.proofs.lemmas.Result.{err_from_is_err_and}
use Rattle.std.proofs.lemmas.List.FromFn.{length-range_with_len}
use Rattle.row_core.specs.Lists.{Row, row_at, vectors}
use Rattle.minimise.specs.Bases.{IsBasis}
use Rattle.minimise.specs.MinimalForms.{AreIndependent}
use Rattle.ray_order.proofs.Rankings.{rows_as_listed}
use Rattle.minimise.proofs.Forms.{listed_reduced, places_within, formed_total, fault_of_lines, fault_of_rays}
use Rattle.minimise.proofs.Widths.{vectors_wide}
use Rattle.minimise.proofs.forming.formed_parts.Goals as goal

-- the places name rows
within : (n : ℕ) (rows : List Row) (places : List ℕ) → places ≡ range_with_len 0 n → n ≡ length rows → All (λ p. p < length rows) places
within n rows places e many = subst (All (λ p. p < length rows)) (sym e) (places_within n (length rows) many)

pub basis-requires : goal.basis-requires
basis-requires g c = record { within = within c.len.result c.args.lines.now.rows c.deref.result.now (c.deref.ensures.value ∙ c.in_ok-all_places.ensures) c.len.ensures }

pub reduced_list-requires-clause-width : goal.reduced_list-requires-clause-width
reduced_list-requires-clause-width g c = c.in_ok-new_lines.ensures.list.0 ∙ sym c.requires.rays_wide

pub reduced_list-requires-clause-within : goal.reduced_list-requires-clause-within
reduced_list-requires-clause-within g c = within c.len-2.result c.args.rays.now.rows c.deref-2.result.now (c.deref-2.ensures.value ∙ c.in_ok-places.ensures) c.len-2.ensures

pub reduced_list-requires-clause-echelon : goal.reduced_list-requires-clause-echelon
reduced_list-requires-clause-echelon g c = c.in_ok-new_lines.ensures.basis.echelon

-- the rows at all places are the lines
lines_listed : (rows : List Row) (n : ℕ) (places : List ℕ) → places ≡ range_with_len 0 n → n ≡ length rows → map (row_at rows) places ≡ vectors rows
lines_listed rows n places e many = ap (map (row_at rows)) (e ∙ ap (range_with_len 0) many) ∙ sym (rows_as_listed rows)

-- as many places as rows
places_many : (n count : ℕ) (places : List ℕ) → places ≡ range_with_len 0 n → n ≡ count → length places ≡ count
places_many n count places e many = ap (λ (is : List ℕ). length is) e ∙ length-range_with_len 0 n ∙ many

pub returns-in_err-all_places-clause-counted : goal.returns-in_err-all_places-clause-counted
returns-in_err-all_places-clause-counted g c = omega arith

-- at most two passes over the lines
after_lines : (before after places lines rays width : ℕ) → after ≤ before + 2 * (places * width) → places ≡ lines → after + rays * width ≤ before + 2 * ((lines + rays) * width)
after_lines before after places lines rays width h e =
    let two : after ≤ before + 2 * (lines * width) = subst (λ (n : ℕ). after ≤ before + 2 * (n * width)) e h in
    omega (arith, two, formed_total lines rays width)

-- and then one over the rays
after_rays : (before between after places_of_lines places lines rays width ray_width : ℕ) → between ≤ before + 2 * (places_of_lines * width) → places_of_lines ≡ lines → after ≤ between + places * ray_width → places ≡ rays → ray_width ≡ width → after ≤ before + 2 * ((lines + rays) * width)
after_rays before between after places_of_lines places lines rays width ray_width h e k f w =
    let first = after_lines before between places_of_lines lines rays width h e in
    let then : after ≤ between + rays * width = subst (λ (v : ℕ). after ≤ between + rays * v) w (subst (λ (n : ℕ). after ≤ between + n * ray_width) f k) in
    omega (arith, first, then)

pub returns-in_err-new_lines-clause-no_fewer : goal.returns-in_err-new_lines-clause-no_fewer
returns-in_err-new_lines-clause-no_fewer g c = omega (arith, c.basis.ensures.counted)

pub returns-in_err-new_lines-clause-counted : goal.returns-in_err-new_lines-clause-counted
returns-in_err-new_lines-clause-counted g c =
    let most = after_lines c.args.steps.now c.basis.new.steps _ (length c.args.lines.now.rows) (length c.args.rays.now.rows) c.args.lines.now.width c.basis.ensures.counted.1 (places_many c.len.result _ _ (c.deref.ensures.value ∙ c.in_ok-all_places.ensures) c.len.ensures) in
    omega (arith, most)

pub returns-in_err-places-clause-no_fewer : goal.returns-in_err-places-clause-no_fewer
returns-in_err-places-clause-no_fewer g c = omega (arith, c.basis.ensures.counted)

pub returns-in_err-places-clause-counted : goal.returns-in_err-places-clause-counted
returns-in_err-places-clause-counted g c =
    let most = after_lines c.args.steps.now c.basis.new.steps _ (length c.args.lines.now.rows) (length c.args.rays.now.rows) c.args.lines.now.width c.basis.ensures.counted.1 (places_many c.len.result _ _ (c.deref.ensures.value ∙ c.in_ok-all_places.ensures) c.len.ensures) in
    omega (arith, most)

pub returns-in_err-new_rays-clause-no_fewer : goal.returns-in_err-new_rays-clause-no_fewer
returns-in_err-new_rays-clause-no_fewer g c = omega (arith, c.basis.ensures.counted, c.reduced_list.ensures.counted)

pub returns-in_err-new_rays-clause-counted : goal.returns-in_err-new_rays-clause-counted
returns-in_err-new_rays-clause-counted g c =
    after_rays c.args.steps.now c.basis.new.steps c.reduced_list.new.steps _ _ (length c.args.lines.now.rows) (length c.args.rays.now.rows) c.args.lines.now.width c.args.rays.now.width
    c.basis.ensures.counted.1 (places_many c.len.result _ _ (c.deref.ensures.value ∙ c.in_ok-all_places.ensures) c.len.ensures)
    c.reduced_list.ensures.counted.1 (places_many c.len-2.result _ _ (c.deref-2.ensures.value ∙ c.in_ok-places.ensures) c.len-2.ensures) c.requires.rays_wide

pub returns-clause-no_fewer : goal.returns-clause-no_fewer
returns-clause-no_fewer g c = omega (arith, c.basis.ensures.counted, c.reduced_list.ensures.counted)

pub returns-clause-counted : goal.returns-clause-counted
returns-clause-counted g c =
    after_rays c.args.steps.now c.basis.new.steps c.reduced_list.new.steps _ _ (length c.args.lines.now.rows) (length c.args.rays.now.rows) c.args.lines.now.width c.args.rays.now.width
    c.basis.ensures.counted.1 (places_many c.len.result _ _ (c.deref.ensures.value ∙ c.in_ok-all_places.ensures) c.len.ensures)
    c.reduced_list.ensures.counted.1 (places_many c.len-2.result _ _ (c.deref-2.ensures.value ∙ c.in_ok-places.ensures) c.len-2.ensures) c.requires.rays_wide

pub returns-clause-formed : goal.returns-clause-formed
returns-clause-formed g c =
    let lines = c.args.lines.now in
    let rays = c.args.rays.now in
    let made = c.in_ok-new_lines.new_lines in
    let reduced = c.in_ok-new_rays.new_rays in
    let listed = lines_listed lines.rows c.len.result c.deref.result.now (c.deref.ensures.value ∙ c.in_ok-all_places.ensures) c.len.ensures in
    record {
      basis = subst (λ (vs : List (List ℤ)). IsBasis vs (vectors made.rows)) listed c.in_ok-new_lines.ensures.basis;
      reduced = listed_reduced (vectors made.rows) rays.rows c.len-2.result c.deref-2.result.now (vectors reduced.rows) (c.deref-2.ensures.value ∙ c.in_ok-places.ensures) c.len-2.ensures c.in_ok-new_rays.ensures.reduced;
      lists = record {
        lines_wide = c.in_ok-new_lines.ensures.list.0;
        rays_wide = c.in_ok-new_rays.ensures.list.0 ∙ c.requires.rays_wide;
        lines_marked = c.in_ok-new_lines.ensures.list.1;
        rays_marked = c.in_ok-new_rays.ensures.list.1;
      };
      wide = vectors_wide lines.width made c.width-basis_width.ensures.rows c.in_ok-new_lines.ensures.list.0;
      as_many = λ free.
          c.in_ok-new_lines.ensures.as_many (subst (λ (vs : List (List ℤ)). AreIndependent vs) (sym listed) free)
          ∙ places_many c.len.result (length lines.rows) c.deref.result.now (c.deref.ensures.value ∙ c.in_ok-all_places.ensures) c.len.ensures;
    }

pub returns-in_err-new_lines-clause-formed : goal.returns-in_err-new_lines-clause-formed
returns-in_err-new_lines-clause-formed g c =
    let p = err_from_is_err_and c.from_residual-in_err-new_lines.result c.from_residual-in_err-new_lines.ensures.1 in
    rw (p.1, p.2) (fault_of_lines c.args.lines.now.rows c.args.rays.now.rows _ _ (lines_listed c.args.lines.now.rows c.len.result c.deref.result.now (c.deref.ensures.value ∙ c.in_ok-all_places.ensures) c.len.ensures) c.in_err-new_lines.ensures.basis)

pub returns-in_err-new_rays-clause-formed : goal.returns-in_err-new_rays-clause-formed
returns-in_err-new_rays-clause-formed g c =
    let p = err_from_is_err_and c.from_residual-in_err-new_rays.result c.from_residual-in_err-new_rays.ensures.1 in
    rw (p.1, p.2) (fault_of_rays c.args.lines.now.rows c.args.rays.now.rows (vectors c.in_ok-new_lines.new_lines.rows) _
    (subst (λ (vs : List (List ℤ)). IsBasis vs (vectors c.in_ok-new_lines.new_lines.rows)) (lines_listed c.args.lines.now.rows c.len.result c.deref.result.now (c.deref.ensures.value ∙ c.in_ok-all_places.ensures) c.len.ensures) c.in_ok-new_lines.ensures.basis) c.in_err-new_rays.ensures.reduced)
