-- What the decoding calls and the strong calls give.
use Rattle.std.proofs.Common.{◌≡◌, ◌⊎◌, inl, inr, ℕ, ◌<◌, List, length, false, sym, ◌∙◌, subst, arith}
use Rattle.std.proofs.lemmas.Bool.{false≢true}
use Rattle.row_core.specs.Lists.{Row, vectors}
use Rattle.cons_sys.specs.Constraints.{Constraint}
use Rattle.gens_sys.specs.Generators.{Generator}
use Rattle.cone_laws.specs.Canon.{vector_at}
use Rattle.nnc_enc.specs.StrongRows.{HasVariable, HasNoVariable, kept_at, IsSpare, IsSpareVector}
use Rattle.nnc_enc.specs.Decoding.{AreDecodedRows, AreDecodedVectors}
use Rattle.nnc_enc.specs.Results.{DecodedRowsCode, StrongRowsCode, StrongRowsAreNeeded, DecodedVectorsCode, StrongVectorsCode}
use Rattle.nnc_enc.proofs.MarkLemmas.{length-vectors, vector_at-vectors, variable_or_not}
use Rattle.nnc_enc.proofs.OrderLemmas.{kept_permutation}
use Rattle.nnc_enc.proofs.ConsLemmas.{kept_constraints_code, kept_constraints_are_needed}
use Rattle.nnc_enc.proofs.GensLemmas.{kept_generators_code}

plain_spare : (dim : ℕ) (gens lines rays : List Row) (list : List Constraint) (d : AreDecodedRows dim lines rays list) (i : ℕ) → i < length (vectors rays) → kept_at d.keep i ≡ false → IsSpare dim gens (vectors rays) d.keep i
plain_spare dim gens lines rays list d i h f = by_variable (variable_or_not (vector_at (vectors rays) i) dim)
  where
    by_variable : HasVariable dim (vector_at (vectors rays) i) ⊎ HasNoVariable dim (vector_at (vectors rays) i) → IsSpare dim gens (vectors rays) d.keep i
    by_variable (inl v) = absurd (false≢true (sym f ∙ (d.variables.each i (omega (arith, h, length-vectors rays))).1 (subst (HasVariable dim) (vector_at-vectors rays i) v)))
    by_variable (inr z) = inl z

pub decoded_rows_code : DecodedRowsCode
decoded_rows_code dim gens lines rays cs p r d point = kept_constraints_code dim gens lines rays d.keep d.order cs p r.wide r.system r.encoded (plain_spare dim gens lines rays cs.list d) d.kept d.listed point

pub strong_rows_code : StrongRowsCode
strong_rows_code dim gens lines rays cs p r s point = kept_constraints_code dim gens lines rays s.keep s.order cs p r.wide r.system r.encoded s.pass.spare (kept_permutation s.keep (length rays) s.kept s.order s.ordered.permutation s.are_kept) s.listed point

pub strong_rows_are_needed : StrongRowsAreNeeded
strong_rows_are_needed dim gens lines rays list r s i h = kept_constraints_are_needed dim gens lines rays s.keep s.order list r.wide r.system r.encoded s.pass (kept_permutation s.keep (length rays) s.kept s.order s.ordered.permutation s.are_kept) s.listed i h

none_spare : (dim : ℕ) (rows lines rays : List Row) (list : List Generator) (d : AreDecodedVectors dim lines rays list) (i : ℕ) → i < length (vectors rays) → kept_at d.keep i ≡ false → IsSpareVector dim rows (vectors rays) d.keep i
none_spare dim rows lines rays list d i h f = absurd (false≢true (sym f ∙ d.all i (omega (arith, h, length-vectors rays))))

pub decoded_vectors_code : DecodedVectorsCode
decoded_vectors_code dim rows lines rays gs v r d w = kept_generators_code dim rows lines rays d.keep d.order gs r.vector v r.wide r.system r.encoded r.member r.above (none_spare dim rows lines rays gs.list d) d.kept d.listed w

pub strong_vectors_code : StrongVectorsCode
strong_vectors_code dim rows lines rays gs v r s w = kept_generators_code dim rows lines rays s.keep s.order gs r.vector v r.wide r.system r.encoded r.member r.above s.pass.spare (kept_permutation s.keep (length rays) s.kept s.order s.ordered.permutation s.are_kept) s.listed w
