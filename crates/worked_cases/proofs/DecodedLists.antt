-- The canonical system of the list of generators with a point, as the decoding takes it.
use Rattle.std.specs.Prelude.{◌≡◌, ℕ, ◌+◌, ◌<◌, List, [], ◌∷◌, ◌++◌, length, All, slice_index_or, ℤ}
use Rattle.std.proofs.Common.{sym, subst, ap, ◌∙◌, arith}
use Rattle.std.proofs.Math.Seq.{get_or-append_seam}
use Rattle.std.proofs.lemmas.List.{length_push}
use Rattle.row_core.specs.Lists.{Row, Rows, IsRow, FitWidth, vectors}
use Rattle.cone_laws.specs.Cones.{Upto}
use Rattle.cone_laws.specs.Canon.{Canon, IsSystem}
use Rattle.cone_laws.specs.Members.{ConeOf}
use Rattle.row_core.specs.MarkedLists.{AreLists}
use Rattle.gens_sys.specs.Generators.{Generator, Generators, FitDimension, Gains}
use Rattle.gens_sys.specs.declared.kind.GenKind.{GenKind}
use Rattle.gens_sys.specs.declared.kind.GenKind.TheVariants.{Line, Point}
use Rattle.chernikova.specs.declared.cone.Cone.{Cone}
use Rattle.nnc_enc.specs.EncodedGenerators.{encoded_generators, HasPoint}
use Rattle.nnc_enc.specs.Results.{AreRowLists}
use Rattle.nnc_enc.proofs.ConditionLemmas.{generators_have_rows}

-- a list that gained a point has one
pub gained_point : (old new : List Generator) (row : List ℤ) → Gains old new row Point → HasPoint new
gained_point old new row g = record {
  number = length old;
  below = subst (λ (l : List Generator). length old < length l) (sym g.list) (omega (arith, length_push old (g.stored, Point)));
  kind = subst (λ (l : List Generator). (slice_index_or l (length old) ([], Line)).1 ≡ Point) (sym g.list) (ap (λ (x : Generator). x.1) (get_or-append_seam old (g.stored, Point) [] ([], Line)));
}

pub are_row_lists : (gs : Generators) (list : Rows) (width : ℕ) (cone : Cone) → FitDimension gs → HasPoint gs.list → list.width ≡ gs.dim + 2 → list.rows ≡ encoded_generators gs.dim gs.list → width ≡ list.width → FitWidth list → Canon (Upto width list.rows (length list.rows)) (vectors cone.lines.rows) (vectors cone.rays.rows) → AreLists width cone.lines cone.rays → AreRowLists cone.lines cone.rays
are_row_lists gs list width cone fit point w e v wide canon lists = record {
  dim = gs.dim;
  lines_width = lists.lines_wide ∙ v ∙ w;
  rays_width = lists.rays_wide ∙ v ∙ w;
  gens = encoded_generators gs.dim gs.list;
  rows = generators_have_rows gs cone.lines.rows cone.rays.rows fit point
      (subst (λ (rs : List Row). All (IsRow (gs.dim + 2)) rs) e (subst (λ (n : ℕ). All (IsRow n) list.rows) w wide.each))
      (subst (λ (rs : List Row). IsSystem (ConeOf (gs.dim + 2) rs) (vectors cone.lines.rows) (vectors cone.rays.rows)) e (subst (λ (n : ℕ). IsSystem (ConeOf n list.rows) (vectors cone.lines.rows) (vectors cone.rays.rows)) (v ∙ w) canon.system));
}
