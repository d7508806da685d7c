-- The list of a system: its lines as equalities, and then its rays.
use Rattle.std.proofs.Common.{◌≡◌, ℕ, ◌<◌, List, [], ◌∷◌, length, map, true, false, ℤ, pos, ◌≤ℤ◌, refl, ap, ◌∙◌, subst, arith}
use Rattle.std.specs.Prelude.{All}
use Rattle.std.proofs.lemmas.List.{get_or-map, length-map}
use Rattle.std.proofs.lemmas.List.Elements.{All-append, All-map, All-from_get_or, All-weaker}
use Rattle.row_core.specs.Vectors.{dot}
use Rattle.row_core.specs.Lists.{Row, system_rows, vector_at}
use Rattle.cone_laws.specs.Cones.{Meets, Spans, Generates, negated}
use Rattle.cone_laws.specs.Duality.{lines_of, rays_of, IsAdmitted}
use Rattle.cone_laws.proofs.Columns.{dot_comm}
use Rattle.cone_laws.proofs.Bipolar.{admitted_is_spanned}
use Rattle.cone_laws.specs.Members.{ConeOf}
use Rattle.cone_laws.proofs.MemberLemmas.{cone_from, rows_of_both}

-- ---- its lines and rays
no_lines : (rays : List (List ℤ)) → lines_of (map (λ r. (r, false)) rays) ≡ []
no_lines [] = refl
no_lines (r ∷ rays) = no_lines rays

rays_alone : (rays : List (List ℤ)) → rays_of (map (λ r. (r, false)) rays) ≡ rays
rays_alone [] = refl
rays_alone (r ∷ rays) = ap (λ (rs : List (List ℤ)). r ∷ rs) (rays_alone rays)

pub lines_of-system_rows : (lines rays : List (List ℤ)) → lines_of (system_rows lines rays) ≡ lines
lines_of-system_rows [] rays = no_lines rays
lines_of-system_rows (l ∷ lines) rays = ap (λ (ls : List (List ℤ)). l ∷ ls) (lines_of-system_rows lines rays)

pub rays_of-system_rows : (lines rays : List (List ℤ)) → rays_of (system_rows lines rays) ≡ rays
rays_of-system_rows [] rays = rays_alone rays
rays_of-system_rows (l ∷ lines) rays = rays_of-system_rows lines rays

pub list_of_system : (lines rays : List (List ℤ)) → (lines_of (system_rows lines rays) ≡ lines) × (rays_of (system_rows lines rays) ≡ rays)
list_of_system lines rays = (lines_of-system_rows lines rays, rays_of-system_rows lines rays)

-- ---- what its rows admit
pub cone_of_system : (width : ℕ) (lines rays : List (List ℤ)) (a : List ℤ) → length a ≡ width → All (λ l. dot l a ≡ pos 0) lines → All (λ r. pos 0 ≤ℤ dot r a) rays → ConeOf width (system_rows lines rays) a
cone_of_system width lines rays a w f g =
    cone_from width (system_rows lines rays) a w
    (All-append (Meets a) (map (λ l. (l, true)) lines) (map (λ r. (r, false)) rays) (All-map (Meets a) (λ (l : List ℤ). (l, true)) lines f) (All-map (Meets a) (λ (r : List ℤ). (r, false)) rays g))

module _ (width : ℕ) (lines rays : List (List ℤ)) (a : List ℤ) (u : ConeOf width (system_rows lines rays) a) where
  pub met_line : (i : ℕ) → i < length lines → dot (vector_at lines i) a ≡ pos 0
  met_line i b =
      let p = ((rows_of_both width (map (λ l. (l, true)) lines) (map (λ r. (r, false)) rays) a).0 u).0 in
      subst (Meets a) (get_or-map (λ l. (l, true)) lines i [] ([], false) b) (p.meets i ([], false) (omega arith) (omega (arith, length-map {B = Row} lines (λ l. (l, true)))))

  pub met_ray : (i : ℕ) → i < length rays → pos 0 ≤ℤ dot (vector_at rays i) a
  met_ray i b =
      let p = ((rows_of_both width (map (λ l. (l, true)) lines) (map (λ r. (r, false)) rays) a).0 u).1 in
      subst (Meets a) (get_or-map (λ r. (r, false)) rays i [] ([], false) b) (p.meets i ([], false) (omega arith) (omega (arith, length-map {B = Row} rays (λ r. (r, false)))))

-- ---- the same of a row and vectors: the row is 0 on the lines and at least 0 on the rays
pub zero_on_lines : (width : ℕ) (lines rays : List (List ℤ)) (a : List ℤ) → ConeOf width (system_rows lines rays) a → All (λ l. dot a l ≡ pos 0) lines
zero_on_lines width lines rays a u = All-from_get_or (λ l. dot a l ≡ pos 0) lines [] (λ i b. dot_comm a (vector_at lines i) ∙ met_line width lines rays a u i b)

pub least_on_rays : (width : ℕ) (lines rays : List (List ℤ)) (a : List ℤ) → ConeOf width (system_rows lines rays) a → All (λ r. pos 0 ≤ℤ dot a r) rays
least_on_rays width lines rays a u = All-from_get_or (λ r. pos 0 ≤ℤ dot a r) rays [] (λ i b. subst (λ (z : ℤ). pos 0 ≤ℤ z) (dot_comm (vector_at rays i) a) (met_ray width lines rays a u i b))

pub cone_of_row : (width : ℕ) (lines rays : List (List ℤ)) (a : List ℤ) → length a ≡ width → All (λ l. dot a l ≡ pos 0) lines → All (λ r. pos 0 ≤ℤ dot a r) rays → ConeOf width (system_rows lines rays) a
cone_of_row width lines rays a w f g =
    cone_of_system width lines rays a w
    (All-weaker (λ l. dot a l ≡ pos 0) (λ l. dot l a ≡ pos 0) (λ l e. dot_comm l a ∙ e) lines f)
    (All-weaker (λ r. pos 0 ≤ℤ dot a r) (λ r. pos 0 ≤ℤ dot r a) (λ r e. subst (λ (z : ℤ). pos 0 ≤ℤ z) (dot_comm a r) e) rays g)

-- ---- its widths
pub lists_wide : (width : ℕ) (lines rays : List (List ℤ)) → All (λ v. length v ≡ width) lines → All (λ v. length v ≡ width) rays → All (λ g. length g.0 ≡ width) (system_rows lines rays)
lists_wide width lines rays f g =
    All-append (λ (g : Row). length g.0 ≡ width) (map (λ l. (l, true)) lines) (map (λ r. (r, false)) rays)
    (All-map (λ (g : Row). length g.0 ≡ width) (λ (l : List ℤ). (l, true)) lines f) (All-map (λ (g : Row). length g.0 ≡ width) (λ (r : List ℤ). (r, false)) rays g)

pub system_wide : (width : ℕ) (C : List ℤ → Type 0) (lines rays : List (List ℤ)) → ((v : List ℤ) → C v → length v ≡ width) → Generates C lines rays → All (λ g. length g.0 ≡ width) (system_rows lines rays)
system_wide width C lines rays wide g = lists_wide width lines rays (All-weaker (λ l. C l × C (negated l)) (λ l. length l ≡ width) (λ l m. wide l m.0) lines g.lines_within) (All-weaker C (λ r. length r ≡ width) wide rays g.rays_within)

-- ---- the bipolar law for a system
pub spanned_of_admitted : (width : ℕ) (lines rays : List (List ℤ)) (v : List ℤ) → All (λ g. length g.0 ≡ width) (system_rows lines rays) → length v ≡ width → IsAdmitted width (system_rows lines rays) v → Spans lines rays v
spanned_of_admitted width lines rays v wide w f =
    subst (λ (ls : List (List ℤ)). Spans ls rays v) (lines_of-system_rows lines rays)
    (subst (λ (rs : List (List ℤ)). Spans (lines_of (system_rows lines rays)) rs v) (rays_of-system_rows lines rays) (admitted_is_spanned width (system_rows lines rays) v wide w f))
