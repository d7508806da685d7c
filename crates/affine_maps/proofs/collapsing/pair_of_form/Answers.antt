use Rattle.std.proofs.Common.{◌≡◌, ℕ, ◌+◌, ◌*◌, ◌≤◌, List, length, ap, subst}
use Rattle.std.specs.Prelude.{Option, Some, None, Result, Ok, Err, IfSome}
use Rattle.std.proofs.lemmas.Result.{err_from_is_err_and}
use Rattle.row_core.specs.Lists.{Row, vectors}
use Rattle.row_core.specs.declared.errors.Memory.{Memory}
use Rattle.cone_laws.specs.DualSystems.{AreSystemsOf}
use Rattle.chernikova.specs.declared.cone.Cone.{Cone}
use Rattle.chernikova.specs.Conversion.{IsConverted}
use Rattle.poly_pair.specs.Conversions.{cone_rows}
use Rattle.affine_maps.specs.Collapsing.{IsCollapse, LeavesInSecond}
use Rattle.affine_maps.proofs.CollapseWork.{both_made}
use Rattle.affine_maps.proofs.collapsing.pair_of_form.Goals as goal

-- a system of the width of the dimension
converted_at : (width dim : ℕ) (rows : List Row) (found : Option Cone) (cone : Cone) → found ≡ Some cone → width ≡ dim + 1 → IfSome found (IsConverted width rows) → IsConverted (dim + 1) rows cone
converted_at width dim rows found cone is w h = subst (λ (n : ℕ). IsConverted n rows cone) w (subst (λ (x : Option Cone). IfSome x (IsConverted width rows)) is h)

systems_of : (dim : ℕ) (rows : List Row) (first second : Cone) → IsConverted (dim + 1) rows first → IsConverted (dim + 1) (cone_rows first) second → AreSystemsOf (dim + 1) rows (vectors first.lines.rows) (vectors first.rays.rows) (vectors second.lines.rows) (vectors second.rays.rows)
systems_of dim rows first second a b = record { first = a.canon; second = b.canon }

never_none : {T : Type 0} (e : Memory) → ◌≡◌ {A = Result (Option T) Memory} (Err e) (Ok None) → ⊥
never_none e h = cc

-- both were made, of which the first counts by the width of its lines
collapse_at : {T : Type 0} (width lines_width : ℕ) (rows lines rays : List Row) (old mid new : ℕ) (r : Result (Option T) Memory) → lines_width ≡ width → old ≤ mid → mid ≤ old + 2 * ((length lines + length rays) * lines_width) → mid ≤ new → new ≤ mid + 2 * (length rows * width) → (r ≡ Ok None → LeavesInSecond width rows) → IsCollapse width rows lines rays old new r
collapse_at width lines_width rows lines rays old mid new r e fewer counted more more_counted left =
    both_made width rows lines rays old mid r fewer (subst (λ (n : ℕ). mid ≤ old + 2 * ((length lines + length rays) * n)) e counted) new more more_counted left

pub returns-in_err-second-clause-collapse : goal.returns-in_err-second-clause-collapse
returns-in_err-second-clause-collapse g c =
    let form = c.args.form in
    let p = err_from_is_err_and c.from_residual-in_err-second.result c.from_residual-in_err-second.ensures.1 in
    rw (p.1, p.2) (collapse_at c.args.list.now.width form.lines.width c.args.list.now.rows form.lines.rows form.rays.rows c.args.steps.now c.canonical.new.steps c.second_system.new.steps _ c.requires.form.lists.lines_wide c.canonical.ensures.no_fewer c.canonical.ensures.counted c.second_system.ensures.no_fewer c.second_system.ensures.counted (λ e. absurd (never_none _ e)))

pub returns-in_default-2-clause-collapse : goal.returns-in_default-2-clause-collapse
returns-in_default-2-clause-collapse g c =
    let form = c.args.form in
    collapse_at c.args.list.now.width form.lines.width c.args.list.now.rows form.lines.rows form.rays.rows c.args.steps.now c.canonical.new.steps c.second_system.new.steps _ c.requires.form.lists.lines_wide c.canonical.ensures.no_fewer c.canonical.ensures.counted c.second_system.ensures.no_fewer c.second_system.ensures.counted (λ e. c.in_ok-second.ensures.left (ap (λ found. Ok found) c.in_default-2.is))

pub closed_of_vectors-requires-clause-systems : goal.closed_of_vectors-requires-clause-systems
closed_of_vectors-requires-clause-systems g c =
    let rows = c.args.list.now.rows in
    let first = c.in-Some.first in
    let second = c.in-Some-2.second in
    c.requires.closed (vectors first.lines.rows) (vectors first.rays.rows) (vectors second.lines.rows) (vectors second.rays.rows)
    (systems_of c.args.dim rows first second (converted_at c.args.list.now.width c.args.dim rows c.in_ok-first.field-0 first c.in-Some.is c.requires.width c.in_ok-first.ensures.system) (converted_at c.args.list.now.width c.args.dim (cone_rows first) c.in_ok-second.field-0 second c.in-Some-2.is c.requires.width c.in_ok-second.ensures.system))

pub returns-in_err-pair-clause-collapse : goal.returns-in_err-pair-clause-collapse
returns-in_err-pair-clause-collapse g c =
    let form = c.args.form in
    let p = err_from_is_err_and c.from_residual-in_err-pair.result c.from_residual-in_err-pair.ensures.1 in
    rw (p.1, p.2) (collapse_at c.args.list.now.width form.lines.width c.args.list.now.rows form.lines.rows form.rays.rows c.args.steps.now c.canonical.new.steps c.second_system.new.steps _ c.requires.form.lists.lines_wide c.canonical.ensures.no_fewer c.canonical.ensures.counted c.second_system.ensures.no_fewer c.second_system.ensures.counted (λ e. absurd (never_none _ e)))

pub returns-clause-collapse : goal.returns-clause-collapse
returns-clause-collapse g c =
    let form = c.args.form in
    collapse_at c.args.list.now.width form.lines.width c.args.list.now.rows form.lines.rows form.rays.rows c.args.steps.now c.canonical.new.steps c.second_system.new.steps _ c.requires.form.lists.lines_wide c.canonical.ensures.no_fewer c.canonical.ensures.counted c.second_system.ensures.no_fewer c.second_system.ensures.counted (λ e. absurd cc)
