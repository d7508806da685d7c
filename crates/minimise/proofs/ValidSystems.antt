-- The canonical system of the second list is that of all rows that are valid on the cone.
use Rattle.std.specs.Prelude.{ℕ, List, ◌++◌, ℤ}
use Rattle.std.proofs.Common.{sym, subst}
use Rattle.row_core.specs.Lists.{Row, Rows, vectors, system_rows}
use Rattle.cone_laws.specs.Canon.{Canon, IsSystem}
use Rattle.cone_laws.specs.Members.{ConeOf}
use Rattle.row_core.specs.MarkedLists.{AreLists}
use Rattle.cone_laws.proofs.MemberLemmas.{canon_same}
use Rattle.cone_laws.proofs.ValidRows.{valid_of_row, row_of_valid}
use Rattle.minimise.specs.declared.second_system.Simplified.{Simplified}
use Rattle.minimise.specs.declared.second_system.Simplified.TheVariants.{Done, Left}
use Rattle.minimise.specs.Simplified.{IsDone, IsValidOn, IsSystemOfValid}
use Rattle.minimise.proofs.Simplifications.{system_as}

-- what the system of a cone admits, as rows, is valid on the cone
canon_of_valid : (width : ℕ) (rows : List Row) (lines rays : List (List ℤ)) (equalities inequalities : List (List ℤ)) → IsSystem (ConeOf width rows) lines rays → Canon (ConeOf width (system_rows lines rays)) equalities inequalities → Canon (IsValidOn width (ConeOf width rows)) equalities inequalities
canon_of_valid width rows lines rays equalities inequalities s canon =
    canon_same (ConeOf width (system_rows lines rays)) (IsValidOn width (ConeOf width rows)) equalities inequalities
    (λ a m. record { wide = m.wide; least = valid_of_row width (ConeOf width rows) lines rays s.generates a m })
    (λ a valid. row_of_valid width (ConeOf width rows) lines rays s.generates a valid.wide valid.least)
    canon

pub valid_of_done : (width : ℕ) (rows : List Row) (lines rays : Rows) (done : Simplified) → IsSystem (ConeOf width rows) (vectors lines.rows) (vectors rays.rows) → AreLists width lines rays → IsDone width (lines.rows ++ rays.rows) done → IsSystemOfValid width (ConeOf width rows) done
valid_of_done width rows lines rays (Done equalities inequalities sat) s lists found =
    canon_of_valid width rows (vectors lines.rows) (vectors rays.rows) (vectors equalities.rows) (vectors inequalities.rows) s
    (subst (λ (rs : List Row). Canon (ConeOf width rs) (vectors equalities.rows) (vectors inequalities.rows)) (sym (system_as lines.rows rays.rows lists.lines_marked lists.rays_marked)) found.canon)
valid_of_done width rows lines rays (Left left right column) s lists found = tt
