-- Which systems meet the conditions of the decoding and the strong calls.
use Rattle.std.proofs.Common.{◌≡◌, ℕ, ◌+◌, List, [], length, false, ℤ, pos, ◌<ℤ◌, sym, subst, arith}
use Rattle.row_core.specs.Vectors.{cell}
use Rattle.row_core.specs.Lists.{Row, vectors, system_rows}
use Rattle.cone_laws.specs.Cones.{Upto}
use Rattle.cone_laws.specs.Canon.{vector_at, IsSystem, Canon}
use Rattle.cone_laws.specs.Members.{ConeOf}
use Rattle.cone_laws.proofs.SystemLists.{system_wide}
use Rattle.nnc_enc.specs.Results.{AreRowsOf, AreVectorsOf}
use Rattle.nnc_enc.proofs.EncodedDuals.{encoded_has_dual, dual_is_encoded}
use Rattle.nnc_enc.proofs.EncodedRows.{constraints_encode}
use Rattle.nnc_enc.proofs.EncodedVectors.{generators_encode}
use Rattle.nnc_enc.specs.Conditions.{ConstraintsHaveVectors, GeneratorsHaveRows, VectorsHaveRows, RowsHaveVectors}
use Rattle.nnc_enc.proofs.MarkLemmas.{length-vectors, vector_at-vectors}

pub constraints_have_vectors : ConstraintsHaveVectors
constraints_have_vectors cs lines rays i fit wide system h up = record {
  wide = λ j l. (wide j ([], false) l).wide;
  system = system;
  encoded = constraints_encode cs fit;
  vector = vector_at (vectors rays) i;
  member = system.generates.rays_within i [] (omega (arith, h, length-vectors rays));
  above = subst (λ (v : List ℤ). pos 0 <ℤ cell v cs.dim) (sym (vector_at-vectors rays i)) up;
}

pub generators_have_rows : GeneratorsHaveRows
generators_have_rows gs lines rays fit point wide system = record {
  wide = λ j l. (wide j ([], false) l).wide;
  system = system;
  encoded = generators_encode gs fit point;
}

pub vectors_have_rows : VectorsHaveRows
vectors_have_rows dim rows lines rays equalities inequalities r system = record {
  wide = λ j l. system_wide (dim + 2) (ConeOf (dim + 2) rows) (vectors lines) (vectors rays) (λ v m. m.wide) r.system.generates j ([], false) l;
  system = system;
  encoded = encoded_has_dual dim rows (vectors lines) (vectors rays) r.vector r.system r.encoded r.member r.above;
}

pub rows_have_vectors : RowsHaveVectors
rows_have_vectors dim gens equalities inequalities lines rays r system =
    let d = dual_is_encoded dim gens (vectors equalities) (vectors inequalities) r.system r.encoded in
    record {
      wide = λ j l. system_wide (dim + 2) (ConeOf (dim + 2) gens) (vectors equalities) (vectors inequalities) (λ v m. m.wide) r.system.generates j ([], false) l;
      system = system;
      encoded = d.0;
      vector = d.1.vector;
      member = d.1.member;
      above = d.1.above;
    }

-- ---- the same of lists that the calls make

pub rows_of_second : (dim width : ℕ) (rows lines rays : List Row) (second : List Row) (equalities inequalities : List Row) → width ≡ dim + 2 → AreVectorsOf dim rows lines rays → second ≡ system_rows (vectors lines) (vectors rays) → Canon (Upto width second (length second)) (vectors equalities) (vectors inequalities) → AreRowsOf dim second equalities inequalities
rows_of_second dim width rows lines rays second equalities inequalities is_width v is canon =
    subst (λ (list : List Row). AreRowsOf dim list equalities inequalities) (sym is)
    (vectors_have_rows dim rows lines rays equalities inequalities v
    (subst (λ (list : List Row). IsSystem (Upto (dim + 2) list (length list)) (vectors equalities) (vectors inequalities)) is (subst (λ (w : ℕ). IsSystem (Upto w second (length second)) (vectors equalities) (vectors inequalities)) is_width canon.system)))
