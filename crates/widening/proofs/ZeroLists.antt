-- On which generators rows are 0.
use Rattle.std.proofs.Common.{◌≡◌, ◌≢◌, ◌⊎◌, inl, inr, ℕ, zero, suc, ◌+◌, ◌-◌, ◌<◌, Bool, true, false, List, [], ◌∷◌, ◌++◌, length, map, ℤ, pos, neg_ℤ, refl, sym, ap, ◌∙◌, subst, arith}
use Rattle.std.specs.Prelude.{◌↔◌, IsTrue, slice_index_or}
use Rattle.std.proofs.lemmas.Bool.{false≢true, cases_eq}
use Rattle.std.proofs.lemmas.Int.{ints}
use Rattle.std.proofs.lemmas.List.{length-append, length-map, get_or-map, get_or_append_left, get_or-append_right}
use Rattle.row_core.specs.Vectors.{dot}
use Rattle.row_core.specs.Lists as lists
use Rattle.row_core.specs.Lists.{Row, vectors}
use Rattle.cone_laws.specs.Cones.{negated}
use Rattle.cone_laws.proofs.Columns.{dot_comm}
use Rattle.cone_laws.proofs.MemberLemmas.{negated_dot}
use Rattle.sat_matrix.specs.Tables.{Table, bits_of, bit_at}
use Rattle.sat_matrix.specs.ZeroTables.{TellsZeros}
use Rattle.cons_sys.specs.declared.kind.ConKind.TheVariants.{Eq}
use Rattle.cons_sys.specs.Constraints as cons
use Rattle.cons_sys.specs.Constraints.{Constraint, Constraints}
use Rattle.gens_sys.specs.declared.kind.GenKind.TheVariants.{Line}
use Rattle.gens_sys.specs.Generators.{Generators, row_at}
use Rattle.stored_systems.specs.WorkLists.{constraint_row, constraint_list, generator_row, generator_list}
use Rattle.stored_systems.specs.Zeros.{ArePairZeros}
use Rattle.widening.specs.Values.{AreZeroOnSame, HasZerosAmong, TellsGenerators, HasBits, StandsAmong}

-- ---- negatives
pub negative_zero : (x y : ℤ) → y ≡ neg_ℤ x → (x ≡ pos 0) ↔ (y ≡ pos 0)
negative_zero x y e = ((λ h. omega (arith, ints, e, h)), (λ h. omega (arith, ints, e, h)))

-- a row and its negative are 0 on the same generators
pub zero_negated : (row v : List ℤ) → (dot row v ≡ pos 0) ↔ (dot (negated row) v ≡ pos 0)
zero_negated row v = negative_zero (dot row v) (dot (negated row) v) (negated_dot row v)

pub among_negated : (cs : List Constraint) (gs : Generators) (row : List ℤ) → HasZerosAmong cs gs row → HasZerosAmong cs gs (negated row)
among_negated cs gs row (i, b, same) = (i, b, λ n h. ((λ z. (zero_negated row (row_at gs.list n)).0 ((same n h).0 z)), (λ z. (same n h).1 ((zero_negated row (row_at gs.list n)).1 z))))

pub negated_among : (cs : List Constraint) (gs : Generators) (row : List ℤ) → HasZerosAmong cs gs (negated row) → HasZerosAmong cs gs row
negated_among cs gs row (i, b, same) = (i, b, λ n h. ((λ z. (zero_negated row (row_at gs.list n)).1 ((same n h).0 z)), (λ z. (same n h).1 ((zero_negated row (row_at gs.list n)).0 z))))

-- ---- truth values
same_bools : (a b : Bool) → (IsTrue a → IsTrue b) → (IsTrue b → IsTrue a) → a ≡ b
same_bools true true f g = refl
same_bools false false f g = refl
same_bools true false f g = absurd (false≢true (f refl))
same_bools false true f g = absurd (false≢true (g refl))

-- one truth value more
pub tells_more : (rows : List Row) (k : ℕ) (v : List ℤ) (bits : List Bool) (b : Bool) → TellsZeros rows k v bits → (IsTrue b ↔ (dot (lists.row_at rows k) v ≡ pos 0)) → TellsZeros rows (k + 1) v (bits ++ b ∷ [])
tells_more rows k v bits b t h = record {
  wide = omega (arith, length-append bits (b ∷ []), t.wide);
  zeros = λ j l. by_place j l (cases_eq j k);
}
  where
    none : k - length bits ≡ 0
    none = omega (arith, t.wide)

    last : slice_index_or (bits ++ b ∷ []) k false ≡ b
    last = get_or-append_right bits (b ∷ []) (length bits) k false refl (omega (arith, t.wide)) ∙ ap (λ (n : ℕ). slice_index_or (b ∷ []) n false) none

    by_place : (j : ℕ) → j < k + 1 → (j ≡ k) ⊎ (j ≢ k) → IsTrue (slice_index_or (bits ++ b ∷ []) j false) ↔ (dot (lists.row_at rows j) v ≡ pos 0)
    by_place j l (inl e) =
        subst (λ (n : ℕ). IsTrue (slice_index_or (bits ++ b ∷ []) n false) ↔ (dot (lists.row_at rows n) v ≡ pos 0)) (sym e)
        (subst (λ (x : Bool). IsTrue x ↔ (dot (lists.row_at rows k) v ≡ pos 0)) (sym last) h)
    by_place j l (inr ne) =
        let c : j < k = omega (arith, l, ne) in
        subst (λ (x : Bool). IsTrue x ↔ (dot (lists.row_at rows j) v ≡ pos 0)) (sym (get_or_append_left bits (b ∷ []) false j (omega (arith, c, t.wide)))) (t.zeros j c)

pub length-generators : (gs : Generators) → length (generator_list gs) ≡ length gs.list
length-generators gs = length-map gs.list generator_row

pub at_generator : (gs : Generators) (row : List ℤ) (n : ℕ) → n < length gs.list → dot (lists.row_at (generator_list gs) n) row ≡ dot row (row_at gs.list n)
at_generator gs row n h = ap (λ (r : Row). dot r.0 row) (get_or-map generator_row gs.list n ([], Line) ([], false) h) ∙ dot_comm (row_at gs.list n) row

tells_at : (gs : Generators) (row : List ℤ) (bits : List Bool) → TellsGenerators gs row bits → (n : ℕ) → n < length gs.list → IsTrue (slice_index_or bits n false) ↔ (dot row (row_at gs.list n) ≡ pos 0)
tells_at gs row bits t n h = subst (λ (z : ℤ). IsTrue (slice_index_or bits n false) ↔ (z ≡ pos 0)) (at_generator gs row n h) (t.zeros n (omega (arith, h, length-generators gs)))

module _ (gs : Generators) (a k : List ℤ) (rows : List (List Bool)) (i : ℕ) (bits : List Bool) (t : TellsGenerators gs a (bits_of rows i)) (s : TellsGenerators gs k bits) where
  zeros_of_bits : HasBits rows i bits → AreZeroOnSame gs a k
  zeros_of_bits same n h =
      let e : bit_at rows i n ≡ slice_index_or bits n false = same n (omega (arith, h, s.wide, length-generators gs)) in (
        (λ z. (tells_at gs k bits s n h).0 (subst IsTrue e ((tells_at gs a (bits_of rows i) t n h).1 z))),
        (λ z. (tells_at gs a (bits_of rows i) t n h).0 (subst IsTrue (sym e) ((tells_at gs k bits s n h).1 z))),
      )

  bits_of_zeros : AreZeroOnSame gs a k → HasBits rows i bits
  bits_of_zeros same n b =
      let h : n < length gs.list = omega (arith, b, s.wide, length-generators gs) in
      same_bools (bit_at rows i n) (slice_index_or bits n false)
      (λ p. (tells_at gs k bits s n h).1 ((same n h).0 ((tells_at gs a (bits_of rows i) t n h).0 p)))
      (λ p. (tells_at gs a (bits_of rows i) t n h).1 ((same n h).1 ((tells_at gs k bits s n h).0 p)))

-- ---- the kept table
module _ (cs : Constraints) (gs : Generators) (table : Table) (zeros : ArePairZeros cs gs table) where
  length-vectors : length (vectors (constraint_list cs)) ≡ length cs.list + 1
  length-vectors = omega (arith, length-map (map constraint_row cs.list) (λ (row : Row). row.0), length-map cs.list constraint_row)

  pub length-rows : length table.rows ≡ length cs.list + 1
  length-rows = zeros.each.as_many ∙ length-vectors

  constraint_vector : (i : ℕ) → i < length cs.list → slice_index_or (vectors (constraint_list cs)) (suc i) [] ≡ cons.row_at cs.list i
  constraint_vector i h =
      get_or-map (λ (row : Row). row.0) (map constraint_row cs.list) i ([], false) [] (omega (arith, h, length-map cs.list constraint_row))
      ∙ ap (λ (row : Row). row.0) (get_or-map constraint_row cs.list i ([], Eq) ([], false) h)

  -- the row of a constraint comes after that of the divisor
  row_tells : (i : ℕ) → i < length cs.list → TellsGenerators gs (cons.row_at cs.list i) (bits_of table.rows (suc i))
  row_tells i h = subst (λ (v : List ℤ). TellsGenerators gs v (bits_of table.rows (suc i))) (constraint_vector i h) (zeros.each.each (suc i) [] [] (omega (arith, h, length-vectors)))

  module _ (row : List ℤ) (bits : List Bool) (t : TellsGenerators gs row bits) where
    among_stands : HasZerosAmong cs.list gs row → StandsAmong table.rows bits
    among_stands (i, h, same) = (suc i, omega arith, omega (arith, h, length-rows), bits_of_zeros gs (cons.row_at cs.list i) row table.rows (suc i) bits (row_tells i h) t same)

    stands_at : (i : ℕ) → 0 < i → i < length table.rows → HasBits table.rows i bits → HasZerosAmong cs.list gs row
    stands_at zero p h same = absurd (omega (arith, p))
    stands_at (suc i) p h same =
        let b : i < length cs.list = omega (arith, h, length-rows) in
        (i, b, zeros_of_bits gs (cons.row_at cs.list i) row table.rows (suc i) bits (row_tells i b) t same)

    stands_among : StandsAmong table.rows bits → HasZerosAmong cs.list gs row
    stands_among (i, p, h, same) = stands_at i p h same

    pub stands_exactly : StandsAmong table.rows bits ↔ HasZerosAmong cs.list gs row
    stands_exactly = (stands_among, among_stands)
