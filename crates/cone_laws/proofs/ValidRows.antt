-- The rows that are at least 0 on a cone, and what these admit.
use Rattle.std.proofs.Common.{◌≡◌, ℕ, List, length, slice_index_or, ℤ, pos, ◌≤ℤ◌, subst}
use Rattle.std.specs.Prelude.{◌↔◌, All}
use Rattle.row_core.specs.Vectors.{dot}
use Rattle.row_core.specs.Lists.{Row, system_rows}
use Rattle.cone_laws.specs.Cones.{Upto, Spans, Generates, negated}
use Rattle.cone_laws.specs.Duality.{lines_of, rays_of}
use Rattle.cone_laws.proofs.Columns.{dot_comm, dot-negated}
use Rattle.cone_laws.proofs.Spanning.{at_least_zero_on_spanned}
use Rattle.cone_laws.proofs.Bipolar.{admitted_is_spanned, spanned_is_admitted}
use Rattle.cone_laws.specs.Members.{ConeOf}
use Rattle.cone_laws.specs.DualSystems.{IsDual, AreSystemsOf}
use Rattle.cone_laws.proofs.MemberLemmas.{zero_of_signs, spanned_within, canon_same}
use Rattle.cone_laws.proofs.SystemLists.{spanned_of_admitted, zero_on_lines, least_on_rays, cone_of_row, system_wide}

-- a row that the list of a system admits is at least 0 on what the system spans
pub least_on_spanned : (width : ℕ) (lines rays : List (List ℤ)) (a v : List ℤ) → ConeOf width (system_rows lines rays) a → Spans lines rays v → pos 0 ≤ℤ dot a v
least_on_spanned width lines rays a v u s = at_least_zero_on_spanned a lines rays v (zero_on_lines width lines rays a u) (least_on_rays width lines rays a u) s

-- ---- of each set that a system generates
module _ (width : ℕ) (C : List ℤ → Type 0) (lines rays : List (List ℤ)) (g : Generates C lines rays) where
  -- a row that the list of the system admits is at least 0 on the set
  pub valid_of_row : (a : List ℤ) → ConeOf width (system_rows lines rays) a → (v : List ℤ) → C v → pos 0 ≤ℤ dot a v
  valid_of_row a u v m = least_on_spanned width lines rays a v u (g.spans v m)

  -- a row that is at least 0 on the set is admitted
  pub row_of_valid : (a : List ℤ) → length a ≡ width → ((v : List ℤ) → C v → pos 0 ≤ℤ dot a v) → ConeOf width (system_rows lines rays) a
  row_of_valid a w h =
      cone_of_row width lines rays a w
      (λ i d l. zero_of_signs (dot a (slice_index_or lines i d)) (dot a (negated (slice_index_or lines i d))) (h (slice_index_or lines i d) (g.lines_within i d l).0) (h (negated (slice_index_or lines i d)) (g.lines_within i d l).1) (dot-negated a (slice_index_or lines i d)))
      (λ i d l. h (slice_index_or rays i d) (g.rays_within i d l))

pub valid_is_dual : (width : ℕ) (rows : List Row) (k : ℕ) (lines rays : List (List ℤ)) (a : List ℤ) → Generates (Upto width rows k) lines rays → length a ≡ width → ((v : List ℤ) → Upto width rows k v → pos 0 ≤ℤ dot a v) ↔ ConeOf width (system_rows lines rays) a
valid_is_dual width rows k lines rays a g w = (row_of_valid width (Upto width rows k) lines rays g a w, valid_of_row width (Upto width rows k) lines rays g a)

-- ---- what a list spans
pub spanned_by_the_list : (width : ℕ) (vectors : List Row) (equalities inequalities : List (List ℤ)) (v : List ℤ) → All (λ g. length g.0 ≡ width) vectors → Generates (ConeOf width vectors) equalities inequalities → length v ≡ width → Spans (lines_of vectors) (rays_of vectors) v ↔ ConeOf width (system_rows equalities inequalities) v
spanned_by_the_list width vectors equalities inequalities v wide g w = (
  (λ s. row_of_valid width (ConeOf width vectors) equalities inequalities g v w (λ a c. subst (λ (z : ℤ). pos 0 ≤ℤ z) (dot_comm a v) (spanned_is_admitted width vectors v s a c))),
  (λ u. admitted_is_spanned width vectors v wide w (λ a c. subst (λ (z : ℤ). pos 0 ≤ℤ z) (dot_comm v a) (valid_of_row width (ConeOf width vectors) equalities inequalities g v u a c))),
)

-- ---- the second system of a list
module _ (width : ℕ) (list : List Row) (lines rays equalities inequalities : List (List ℤ)) (first : Generates (ConeOf width list) lines rays) (second : Generates (ConeOf width (system_rows lines rays)) equalities inequalities) where
  pub second_spans : (v : List ℤ) → ConeOf width (system_rows equalities inequalities) v → Spans lines rays v
  second_spans v u =
      spanned_of_admitted width lines rays v (system_wide width (ConeOf width list) lines rays (λ x c. c.wide) first) u.wide
      (λ a c. subst (λ (z : ℤ). pos 0 ≤ℤ z) (dot_comm v a) (valid_of_row width (ConeOf width (system_rows lines rays)) equalities inequalities second v u a c))

  pub second_admits : (v : List ℤ) → ConeOf width (system_rows equalities inequalities) v → ConeOf width list v
  second_admits v u = spanned_within width list (length list) lines rays v first u.wide (second_spans v u)

  pub admits_second : (v : List ℤ) → ConeOf width list v → ConeOf width (system_rows equalities inequalities) v
  admits_second v u =
      row_of_valid width (ConeOf width (system_rows lines rays)) equalities inequalities second v u.wide
      (λ a m. subst (λ (z : ℤ). pos 0 ≤ℤ z) (dot_comm a v) (valid_of_row width (ConeOf width list) lines rays first a m v u))

pub second_of_second : (width : ℕ) (rows : List Row) (lines rays equalities inequalities : List (List ℤ)) (v : List ℤ) → Generates (ConeOf width rows) lines rays → Generates (ConeOf width (system_rows lines rays)) equalities inequalities → ConeOf width (system_rows equalities inequalities) v ↔ ConeOf width rows v
second_of_second width rows lines rays equalities inequalities v g h = (second_admits width rows lines rays equalities inequalities g h v, admits_second width rows lines rays equalities inequalities g h v)

pub are_dual : (width : ℕ) (list : List Row) (lines rays equalities inequalities : List (List ℤ)) → AreSystemsOf width list lines rays equalities inequalities → IsDual width lines rays equalities inequalities
are_dual width list lines rays equalities inequalities s = record {
  vectors = canon_same (ConeOf width list) (ConeOf width (system_rows equalities inequalities)) lines rays
      (admits_second width list lines rays equalities inequalities s.first.system.generates s.second.system.generates)
      (second_admits width list lines rays equalities inequalities s.first.system.generates s.second.system.generates) s.first;
  rows = s.second;
}

pub systems_are_dual : (width : ℕ) (list : List Row) (lines rays equalities inequalities : List (List ℤ)) → AreSystemsOf width list lines rays equalities inequalities → IsDual width lines rays equalities inequalities × ((v : List ℤ) → ConeOf width (system_rows equalities inequalities) v ↔ ConeOf width list v)
systems_are_dual width list lines rays equalities inequalities s = (
  are_dual width list lines rays equalities inequalities s,
  (λ v. second_of_second width list lines rays equalities inequalities v s.first.system.generates s.second.system.generates),
)
