-- Generators with further ones behind them.
use Rattle.std.proofs.Common.{◌≡◌, ◌⊎◌, inl, inr, ℕ, ◌+◌, ◌<◌, List, [], ◌++◌, length, true, false, ℤ, pos, ◌+ℤ◌, ◌*ℤ◌, ◌≤ℤ◌, refl, sym, ap, ◌∙◌, subst, arith}
use Rattle.std.specs.Prelude.{◌↔◌}
use Rattle.std.proofs.lemmas.Int.{ints}
use Rattle.std.proofs.lemmas.List.Elements.{All-get_or}
use Rattle.row_core.specs.Vectors.{cell, scale}
use Rattle.row_core.specs.Points.{IsPoint}
use Rattle.cone_laws.proofs.Sums.{V, Same, Nothing, Sums, none, line, ray, SpansBy, sums_one_line, sums_one_ray, sums_more, spans_more, spans_same, spans_sums}
use Rattle.cone_laws.proofs.Columns.{cell-scale, length-scale}
use Rattle.gens_sys.specs.Kinds.{is_line}
use Rattle.gens_sys.specs.Generators.{Generator, Generators, generator_at, row_at, IsGenerator}
use Rattle.gens_sys.specs.Spans.{Span}
use Rattle.gens_sys.specs.declared.kind.GenKind.TheVariants.{Line, Point}
use Rattle.nnc_enc.specs.EncodedGenerators.{HasPoint}
use Rattle.nnc_enc.proofs.MarkedSums.{Marks, marks_one, marks_same, marks_through}
use Rattle.nnc_enc.proofs.SpanMarks.{LineOf, OtherOf, PointOf, span_marks, marks_span}
use Rattle.set_laws.specs.JoinedSets.{AreOfSet, GenerateSame, joined, JoinedSetsAreSame}
use Rattle.set_laws.proofs.ListedVectors.{in_front, behind, of_joined}
use Rattle.set_laws.proofs.Directions.{point_above, line_level, other_least, spanned_by_other}

-- the kinds of the vectors of a sum
abbrev IsALine : Generator → Type 0
IsALine g = is_line g.1 ≡ true

abbrev IsNoLine : Generator → Type 0
IsNoLine g = is_line g.1 ≡ false

abbrev IsAPoint : Generator → Type 0
IsAPoint g = g.1 ≡ Point

-- ---- lines as rays
-- a multiple of a line
record IsLineMultiple (L : V → Type 0) (v : V) : Type 0 where
  factor : ℤ
  vector : V
  of : L vector
  same : (j : ℕ) → v j ≡ factor *ℤ vector j

abbrev Directions : (L R : V → Type 0) → V → Type 0
Directions L R v = R v ⊎ IsLineMultiple L v

one_line : (v x u : ℤ) → v ≡ x +ℤ u → v ≡ pos 1 *ℤ x +ℤ u
one_line v x u e = omega (arith, ints, e)

sums_directions : {L R : V → Type 0} (v : V) → Sums L R v → Sums Nothing (Directions L R) v
sums_directions v (none h) = none h
sums_directions v (line k l u m s h) =
    ray (pos 1) (λ j. k *ℤ l j) u (omega (arith, ints)) (inr (record { factor = k; vector = l; of = m; same = λ j. refl })) (sums_directions u s) (λ j. one_line (v j) (k *ℤ l j) (u j) (h j))
sums_directions v (ray k r u p m s h) = ray k r u p (inl m) (sums_directions u s) h

marks_directions : {L R M : V → Type 0} (v : V) → Marks L R M v → Marks Nothing (Directions L R) M v
marks_directions v s = record {
  times = s.times;
  positive = s.positive;
  factor = s.factor;
  above = s.above;
  vector = s.vector;
  marked = s.marked;
  rest = s.rest;
  others = sums_directions s.rest s.others;
  same = s.same;
}

marks_more : {L R M S T N : V → Type 0} → ((l : V) → L l → S l) → ((r : V) → R r → T r) → ((u : V) → M u → N u) → (v : V) → Marks L R M v → Marks S T N v
marks_more f g h v s = record {
  times = s.times;
  positive = s.positive;
  factor = s.factor;
  above = s.above;
  vector = s.vector;
  marked = h s.vector s.marked;
  rest = s.rest;
  others = sums_more f g s.rest s.others;
  same = s.same;
}

nothing_spanned : (T S : V → Type 0) (l : V) → Nothing l → SpansBy T S l
nothing_spanned T S l m = elim m [ ]

times_level : (k x z : ℤ) → z ≡ k *ℤ x → x ≡ pos 0 → pos 0 ≤ℤ z
times_level k x z e f = let t = ap (λ (y : ℤ). k *ℤ y) f in omega (arith, ints, e, t)

once : (x : ℤ) → x ≡ pos 1 *ℤ x
once x = omega (arith, ints)

-- ---- from the one set to the other
module _ (gs hs : Generators) (added : List Generator) (first : AreOfSet gs) (second : AreOfSet hs) (same_dim : gs.dim ≡ hs.dim) (same : GenerateSame gs hs) (point : HasPoint gs.list) where
  fits_at : (i : ℕ) → i < length gs.list → IsGenerator gs.dim (generator_at gs.list i)
  fits_at i h = All-get_or (IsGenerator gs.dim) gs.list i ([], Line) h first.fit.each

  abbrev Ours : V → Type 0
  Ours = SpansBy (LineOf hs.list) (OtherOf hs.list)

  abbrev Theirs : V → Type 0
  Theirs = SpansBy (LineOf (hs.list ++ added)) (OtherOf (hs.list ++ added))

  longer : (v : V) → Ours v → Theirs v
  longer v s = spans_more (in_front IsALine hs.list added) (in_front IsNoLine hs.list added) v s

  -- a vector of the first generators that is no line
  other_spanned : (v : V) → OtherOf gs.list v → Ours v
  other_spanned v m =
      spans_same (cell (row_at gs.list m.index)) v
      (spanned_by_other gs hs first second same_dim same point (row_at gs.list m.index) (fits_at m.index m.is.0).wide (other_least gs.dim (generator_at gs.list m.index) m.is.1 (fits_at m.index m.is.0))
      (sums_one_ray (pos 1) (cell (row_at gs.list m.index)) (cell (row_at gs.list m.index)) (omega (arith, ints)) (record { index = m.index; is = m.is; same = λ j. refl }) (λ j. once (cell (row_at gs.list m.index) j))))
      m.same

  -- a multiple of one of their lines
  line_spanned : (v l : V) (k : ℤ) → LineOf gs.list l → ((j : ℕ) → v j ≡ k *ℤ l j) → Ours v
  line_spanned v l k m e =
      spans_same (cell w) v
      (spanned_by_other gs hs first second same_dim same point w (length-scale k row ∙ (fits_at m.index m.is.0).wide)
      (times_level k (cell row gs.dim) (cell w gs.dim) (cell-scale k row gs.dim) (line_level gs.dim (generator_at gs.list m.index) m.is.1 (fits_at m.index m.is.0)))
      (sums_one_line k (cell row) (cell w) (record { index = m.index; is = m.is; same = λ j. refl }) (λ j. cell-scale k row j)))
      (λ j. e j ∙ ap (λ (z : ℤ). k *ℤ z) (m.same j) ∙ sym (cell-scale k row j))
    where
      row : List ℤ
      row = row_at gs.list m.index

      w : List ℤ
      w = scale k row

  direction_spanned : (v : V) → Directions (LineOf (gs.list ++ added)) (OtherOf (gs.list ++ added)) v → Theirs v
  direction_spanned v (inl m) = by_part (of_joined IsNoLine gs.list added v m)
    where
      by_part : OtherOf gs.list v ⊎ OtherOf added v → Theirs v
      by_part (inl n) = longer v (other_spanned v n)
      by_part (inr n) = spans_sums v (sums_one_ray (pos 1) v v (omega (arith, ints)) (behind IsNoLine hs.list added v n) (λ j. once (v j)))
  direction_spanned v (inr m) = by_part (of_joined IsALine gs.list added m.vector m.of)
    where
      by_part : LineOf gs.list m.vector ⊎ LineOf added m.vector → Theirs v
      by_part (inl n) = longer v (line_spanned v m.vector m.factor n m.same)
      by_part (inr n) = spans_sums v (sums_one_line m.factor m.vector v (behind IsALine hs.list added m.vector n) m.same)

  abbrev Marked : V → Type 0
  Marked = Marks (LineOf (hs.list ++ added)) (OtherOf (hs.list ++ added)) (PointOf (hs.list ++ added))

  -- a point of the first generators is one of the set
  point_marked : (v : V) → PointOf (gs.list ++ added) v → Marked v
  point_marked v m = by_part (of_joined IsAPoint gs.list added v m)
    where
      of_first : (n : PointOf gs.list v) → Marked v
      of_first n =
          let row : List ℤ = row_at gs.list n.index in
          let is : IsPoint gs.dim row = record { wide = (fits_at n.index n.is.0).wide; positive = point_above gs.dim (generator_at gs.list n.index) n.is.1 (fits_at n.index n.is.0) } in
          let span : Span hs row = (same row is).0 (marks_span gs row (marks_one (cell row) (cell row) (record { index = n.index; is = n.is; same = λ j. refl }) (λ j. refl))) in
          marks_same (cell row) v n.same (marks_more (in_front IsALine hs.list added) (in_front IsNoLine hs.list added) (in_front IsAPoint hs.list added) (cell row) (span_marks hs row span))

      by_part : PointOf gs.list v ⊎ PointOf added v → Marked v
      by_part (inl n) = of_first n
      by_part (inr n) = marks_one v v (behind IsAPoint hs.list added v n) (λ j. refl)

  through : (v : List ℤ) → Span (joined gs added) v → Span (joined hs added) v
  through v s = marks_span (joined hs added) v (marks_through (nothing_spanned (LineOf (hs.list ++ added)) Nothing) direction_spanned point_marked (cell v) (marks_directions (cell v) (span_marks (joined gs added) v s)))

-- ---- sets without a point
none_other : (gs hs : Generators) → AreOfSet hs → gs.dim ≡ hs.dim → GenerateSame gs hs → gs.list ≡ [] → hs.list ≡ []
none_other gs hs second same_dim same e = by_point second.point
  where
    no_span : (v : List ℤ) → Span gs v → ⊥
    no_span v s = omega (arith, s.point.within, ap length e)

    by_point : (hs.list ≡ []) ⊎ HasPoint hs.list → hs.list ≡ []
    by_point (inl n) = n
    by_point (inr p) =
        let fits : IsGenerator hs.dim (generator_at hs.list p.number) = All-get_or (IsGenerator hs.dim) hs.list p.number ([], Line) p.below second.fit.each in
        let row : List ℤ = row_at hs.list p.number in
        let is : IsPoint hs.dim row = record { wide = fits.wide; positive = point_above hs.dim (generator_at hs.list p.number) p.kind fits } in
        let own : Span hs row = marks_span hs row (marks_one (cell row) (cell row) (record { index = p.number; is = (p.below, p.kind); same = λ j. refl }) (λ j. refl)) in
        absurd (no_span row ((same row (subst (λ (n : ℕ). IsPoint n row) (sym same_dim) is)).1 own))

of_list : (gs hs : Generators) (v : List ℤ) → gs.list ≡ hs.list → Span gs v → Span hs v
of_list gs hs v e s = marks_span hs v (subst (λ (list : List Generator). Marks (LineOf list) (OtherOf list) (PointOf list) (cell v)) e (span_marks gs v s))

goes_over : (gs hs : Generators) (added : List Generator) → AreOfSet gs → AreOfSet hs → gs.dim ≡ hs.dim → GenerateSame gs hs → (v : List ℤ) → Span (joined gs added) v → Span (joined hs added) v
goes_over gs hs added first second same_dim same v s = by_point first.point
  where
    by_point : (gs.list ≡ []) ⊎ HasPoint gs.list → Span (joined hs added) v
    by_point (inl n) = of_list (joined gs added) (joined hs added) v (ap (λ (list : List Generator). list ++ added) (n ∙ sym (none_other gs hs second same_dim same n))) s
    by_point (inr p) = through gs hs added first second same_dim same p v s

swapped : (gs hs : Generators) → gs.dim ≡ hs.dim → GenerateSame gs hs → GenerateSame hs gs
swapped gs hs e h v is = let at = h v (subst (λ (n : ℕ). IsPoint n v) (sym e) is) in (at.1, at.0)

pub joined_sets_are_same : JoinedSetsAreSame
joined_sets_are_same gs hs added first second e same v is = (
  goes_over gs hs added first second e same v,
  goes_over hs gs added second first (sym e) (swapped gs hs e same) v,
)
