-- The system of the encoded list of constraints, and the points that it codes.
use Rattle.std.proofs.Common.{◌≡◌, ◌⊎◌, inl, inr, ℕ, ◌+◌, ◌<◌, List, [], ◌∷◌, ◌++◌, length, ℤ, pos, ◌*ℤ◌, ◌≤ℤ◌, ◌<ℤ◌, sym, ◌∙◌, subst, ap, arith}
use Rattle.std.specs.Prelude.{All}
use Rattle.std.proofs.lemmas.List.Elements.{All-from_get_or}
use Rattle.cone_laws.specs.Cones.{Upto}
use Rattle.std.proofs.lemmas.Int.{ints}
use Rattle.std.proofs.lemmas.List.{map-append}
use Rattle.std.proofs.lemmas.List.Edits.{get_or-remove_above, length-remove}
use Rattle.row_core.specs.Vectors.{cell}
use Rattle.row_core.specs.Content.{IsPrimitiveOf}
use Rattle.row_core.specs.Points.{IsPoint}
use Rattle.row_core.specs.Lists.{Row, Rows, row_at, vectors}
use Rattle.row_core.specs.declared.errors.Overflow.{Overflow}
use Rattle.row_core.specs.declared.errors.ConvErr.{ConvErr}
use Rattle.row_core.specs.declared.errors.ConvErr.TheVariants as conversion
use Rattle.sat_matrix.specs.ZeroTables.{IsZeroTable}
use Rattle.row_core.proofs.Ring.{positive_of_mul}
use Rattle.cone_laws.specs.Members.{ConeOf}
use Rattle.cone_laws.specs.Canon.{Canon, IsSystem, vector_at}
use Rattle.cone_laws.specs.Leaves.{Leaves}
use Rattle.row_core.specs.MarkedLists.{AreLists}
use Rattle.cone_laws.proofs.Ring.{by_sign}
use Rattle.cone_laws.proofs.Columns.{cell-scale, length-scale}
use Rattle.chernikova.specs.declared.cone.Cone.{Cone}
use Rattle.chernikova.specs.Conversion.{IsRealOverflow, IsRealOverflowFrom}
use Rattle.chernikova.proofs.Prefixes.{front_system, front_zeros}
use Rattle.cons_sys.specs.declared.kind.ConKind.{ConKind}
use Rattle.cons_sys.specs.Constraints.{Constraint, Constraints, FitDimension, In}
use Rattle.cons_sys.proofs.SystemLemmas.{In-same_point}
use Rattle.nnc_enc.specs.Encoding.{encoded_constraint, encoded_constraints, height_row, bound_row, lowered}
use Rattle.nnc_enc.proofs.EncodedRows.{constraints_are_coded, constraints_encode}
use Rattle.nnc_enc.proofs.CodedLemmas.{coded_by, scale_one}
use Rattle.nnc_enc.proofs.LineLemmas.{no_height_no_point}
use Rattle.nnc_enc.proofs.MarkLemmas.{length-vectors, vector_at-vectors}
use Rattle.stored_systems.specs.WorkLists.{HaveNoPoint}
use Rattle.row_core.specs.Refusals.{IsOverflowIn}
use Rattle.poly_pair.specs.Spanning.{HoldNowhere}
use Rattle.cover_search.specs.Regions.{LeavesOnList, with_one, IsPointIn, HasCone, HasListAndCone}
use Rattle.cover_search.proofs.LongerLists.{leaves_longer}

-- ---- lists
-- the row of one more constraint stands behind the list
pub list_with_one : (cs : Constraints) (c : Constraint) → encoded_constraints (with_one cs c) ≡ encoded_constraints cs ++ encoded_constraint cs.dim c ∷ []
list_with_one cs c = ap (λ (rs : List Row). height_row cs.dim ∷ bound_row cs.dim ∷ rs) (map-append (encoded_constraint cs.dim) cs.list (c ∷ []))

-- an overflow of a list is one of the longer list
pub list_longer : (cs : Constraints) (c : Constraint) (over : Overflow) → LeavesOnList cs over → LeavesOnList (with_one cs c) over
list_longer cs c over l =
    subst (λ (rs : List Row). Leaves (cs.dim + 2) rs over) (sym (list_with_one cs c))
    (leaves_longer (cs.dim + 2) (encoded_constraints cs) (encoded_constraint cs.dim c ∷ []) over l)

same_constraints : (cs : Constraints) (n : ℕ) (list : List Constraint) → cs.dim ≡ n → cs.list ≡ list → cs ≡ record { dim = n; list = list }
same_constraints cs n list e f = ap (λ (k : ℕ). record { dim = k; list = cs.list }) e ∙ ap (λ (l : List Constraint). record { dim = n; list = l }) f

-- a constraint was appended
pub one_more : (cs new : Constraints) (row : List ℤ) (kind : ConKind) (c : Constraint) → new.dim ≡ cs.dim → new.list ≡ cs.list ++ (row, kind) ∷ [] → row ≡ c.0 → kind ≡ c.1 → new ≡ with_one cs c
one_more cs new row kind c e f g h = same_constraints new cs.dim (cs.list ++ c ∷ []) e (f ∙ ap (λ (r : List ℤ). cs.list ++ (r, kind) ∷ []) g ∙ ap (λ (k : ConKind). cs.list ++ (c.0, k) ∷ []) h)

-- ---- systems
-- the system of the first rows of a list, with its table
pub record IsFrontOf (width : ℕ) (rows : List Row) (from : ℕ) (cone : Cone) : Type 0 where
  pub system : IsSystem (Upto width rows from) (vectors cone.lines.rows) (vectors cone.rays.rows)
  pub lists : AreLists width cone.lines cone.rays
  pub zeros : IsZeroTable rows from (vectors cone.rays.rows) cone.sat

abbrev pub IsFront : Rows → ℕ → Cone → Type 0
IsFront list from cone = IsFrontOf list.width list.rows from cone

pub has_cone : (cs : Constraints) (width : ℕ) (all : List Row) (cone : Cone) → width ≡ cs.dim + 2 → all ≡ encoded_constraints cs → Canon (ConeOf width all) (vectors cone.lines.rows) (vectors cone.rays.rows) → AreLists width cone.lines cone.rays → IsZeroTable all (length all) (vectors cone.rays.rows) cone.sat → HasCone cs cone
has_cone cs width all cone e f canon lists zeros = record {
  canon = subst (λ (n : ℕ). Canon (ConeOf n (encoded_constraints cs)) (vectors cone.lines.rows) (vectors cone.rays.rows)) e (subst (λ (rs : List Row). Canon (ConeOf width rs) (vectors cone.lines.rows) (vectors cone.rays.rows)) f canon);
  lists = subst (λ (n : ℕ). AreLists n cone.lines cone.rays) e lists;
  zeros = subst (λ (rs : List Row). IsZeroTable rs (length rs) (vectors cone.rays.rows) cone.sat) f zeros;
}

-- the system of the rows at the front of a list
pub front_cone : (cs : Constraints) (taken : Rows) (more : List Row) (all : Rows) (from : ℕ) (cone : Cone) → HasListAndCone cs taken cone → all.width ≡ taken.width → all.rows ≡ taken.rows ++ more → from ≡ length taken.rows → IsFront all from cone
front_cone cs taken more all from cone h w r n =
    subst (λ (k : ℕ). IsFront all k cone) (sym n)
    (subst (λ (v : ℕ). IsFrontOf v all.rows (length taken.rows) cone) (sym (w ∙ h.width))
    (subst (λ (rs : List Row). IsFrontOf (cs.dim + 2) rs (length taken.rows) cone) (sym r) (record {
      system = front_system (cs.dim + 2) taken.rows more (vectors cone.lines.rows) (vectors cone.rays.rows) (subst (λ (rs : List Row). IsSystem (ConeOf (cs.dim + 2) rs) (vectors cone.lines.rows) (vectors cone.rays.rows)) (sym h.rows) h.canonical.canon.system);
      lists = h.canonical.lists;
      zeros = front_zeros taken.rows more (vectors cone.rays.rows) cone.sat (subst (λ (rs : List Row). IsZeroTable rs (length rs) (vectors cone.rays.rows) cone.sat) (sym h.rows) h.canonical.zeros);
    })))

-- a copy is the same system, but for the room in its table
copied_cone : (cs : Constraints) (cone copy : Cone) → copy ≡ record cone { sat = record cone.sat { spare = 0 } } → HasCone cs cone → HasCone cs copy
copied_cone cs cone copy e h = subst (HasCone cs) (sym e) (record { canon = h.canon; lists = h.lists; zeros = record { columns = h.zeros.columns; each = h.zeros.each } })

pub copied_region : (cs copied_cs : Constraints) (list copied_list : Rows) (cone copy : Cone) → copied_cs ≡ cs → copied_list ≡ list → copy ≡ record cone { sat = record cone.sat { spare = 0 } } → HasListAndCone cs list cone → HasListAndCone copied_cs copied_list copy
copied_region cs copied_cs list copied_list cone copy e f g h =
    subst (λ (ds : Constraints). HasListAndCone ds copied_list copy) (sym e)
    (subst (λ (rs : Rows). HasListAndCone cs rs copy) (sym f) (record { width = h.width; rows = h.rows; canonical = copied_cone cs cone copy g h.canonical }))

pub whole_overflow : (cs : Constraints) (width : ℕ) (all : List Row) (error : ConvErr) → width ≡ cs.dim + 2 → all ≡ encoded_constraints cs → IsRealOverflow width all error → IsOverflowIn (LeavesOnList cs) error
whole_overflow cs width all (conversion.Overflow over) e f l = subst (λ (n : ℕ). Leaves n (encoded_constraints cs) over) e (subst (λ (rs : List Row). Leaves width rs over) f l)
whole_overflow cs width all conversion.Memory e f l = tt

pub list_overflow : (cs : Constraints) (width from : ℕ) (all : List Row) (error : ConvErr) → width ≡ cs.dim + 2 → all ≡ encoded_constraints cs → IsRealOverflowFrom width all from error → IsOverflowIn (LeavesOnList cs) error
list_overflow cs width from all (conversion.Overflow over) e f l = whole_overflow cs width all (conversion.Overflow over) e f l.0
list_overflow cs width from all conversion.Memory e f l = tt

-- ---- points
not_above : (x : ℤ) → ¬ (pos 0 <ℤ x) → x ≤ℤ pos 0
not_above x h = by_case (by_sign x)
  where
    by_case : (pos 0 <ℤ x) ⊎ ((x <ℤ pos 0) ⊎ (x ≡ pos 0)) → x ≤ℤ pos 0
    by_case (inl q) = absurd (h q)
    by_case (inr (inl q)) = omega (arith, ints, q)
    by_case (inr (inr q)) = omega (arith, ints, q)

above_between : (e d : ℤ) → pos 0 <ℤ e → e ≤ℤ d → pos 0 <ℤ d
above_between e d h k = omega (arith, ints)

positive_factor : (t x y : ℤ) → x ≡ t *ℤ y → pos 0 <ℤ t → pos 0 <ℤ x → pos 0 <ℤ y
positive_factor t x y e h k = positive_of_mul t y h (subst (λ (z : ℤ). pos 0 <ℤ z) e k)

module _ (cs : Constraints) (fit : FitDimension cs) (cone : Cone) (has : HasCone cs cone) where
  -- where no ray codes a point there is none
  pub holds_nowhere : HaveNoPoint cs.dim (vectors cone.rays.rows) → HoldNowhere cs
  holds_nowhere none v within =
      no_height_no_point cs.dim (encoded_constraints cs) (vectors cone.lines.rows) (vectors cone.rays.rows) v has.canon.system (constraints_encode cs fit)
      (λ i b. not_above (cell (vector_at (vectors cone.rays.rows) i) cs.dim) (none i [] b)) within.point.wide ((constraints_are_coded cs v fit within.point).0 within.holds)

  -- a ray that codes a point, without its height
  module _ (i : ℕ) (below : i < length cone.rays.rows) (above : pos 0 <ℤ cell (row_at cone.rays.rows i) cs.dim) where
    member : ConeOf (cs.dim + 2) (encoded_constraints cs) (row_at cone.rays.rows i)
    member = subst (ConeOf (cs.dim + 2) (encoded_constraints cs)) (vector_at-vectors cone.rays.rows i) (has.canon.system.generates.rays_within i [] (omega (arith, below, length-vectors cone.rays.rows)))

    coded_point : IsPoint cs.dim (lowered cs.dim (row_at cone.rays.rows i))
    coded_point = record {
      wide = omega (arith, length-remove (row_at cone.rays.rows i) cs.dim (omega (arith, member.wide)), member.wide);
      positive = subst (λ (z : ℤ). pos 0 <ℤ z) (sym (get_or-remove_above (row_at cone.rays.rows i) cs.dim (pos 0) cs.dim (omega arith) (omega (arith, member.wide))))
          (above_between (cell (row_at cone.rays.rows i) cs.dim) (cell (row_at cone.rays.rows i) (cs.dim + 1)) above ((constraints_encode cs fit).bound (row_at cone.rays.rows i) member));
    }

    coded_in : In cs (lowered cs.dim (row_at cone.rays.rows i))
    coded_in = (constraints_are_coded cs (lowered cs.dim (row_at cone.rays.rows i)) fit coded_point).1 (coded_by cs.dim (ConeOf (cs.dim + 2) (encoded_constraints cs)) (row_at cone.rays.rows i) member.wide member above)

    pub point_in : (v : List ℤ) → IsPrimitiveOf (lowered cs.dim (row_at cone.rays.rows i)) v → IsPointIn cs v
    point_in v p = record {
      point = record {
        wide = omega (arith, ap (λ (u : List ℤ). length u) p.multiple.same, length-scale (pos p.multiple.times) v, coded_point.wide);
        positive = positive_factor (pos p.multiple.times) (cell (lowered cs.dim (row_at cone.rays.rows i)) cs.dim) (cell v cs.dim)
            (ap (λ (u : List ℤ). cell u cs.dim) p.multiple.same ∙ cell-scale (pos p.multiple.times) v cs.dim) (omega (arith, ints, p.multiple.positive)) coded_point.positive;
      };
      primitive = p.primitive;
      holds = In-same_point cs (lowered cs.dim (row_at cone.rays.rows i)) v (record {
        left = pos 1;
        right = pos p.multiple.times;
        left_positive = omega (arith, ints);
        right_positive = omega (arith, ints, p.multiple.positive);
        same = scale_one (lowered cs.dim (row_at cone.rays.rows i)) ∙ p.multiple.same;
      }) coded_in;
    }

-- ---- vectors
pub all_vectors : (P : List ℤ → Type 0) (rows : List Row) → ((i : ℕ) → i < length rows → P (row_at rows i)) → All P (vectors rows)
all_vectors P rows h = All-from_get_or P (vectors rows) [] (λ i b. subst P (sym (vector_at-vectors rows i)) (h i (omega (arith, b, length-vectors rows))))
