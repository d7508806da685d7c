-- What is printed of a polyhedron of functions.
use Rattle.std.proofs.Common.{◌≡◌, inl, inr, ℕ, ◌+◌, ◌-◌, ◌^◌, ◌<◌, List, ℤ, refl, sym, ap, ◌∙◌, subst, arith}
use Rattle.std.specs.Prelude.{◌≤◌, ◌↔◌, pos, negsuc, ◌<ℤ◌, unsigned_abs, take, codes, Result, Ok, Err, IfOk}
use Rattle.std.proofs.lemmas.Int.{ints}
use Rattle.std.proofs.lemmas.List.{length-take-le}
use Rattle.std.proofs.lemmas.List.Elements.{All-get_or, All-take}
use Rattle.row_core.specs.Vectors.{cell}
use Rattle.row_core.specs.Range.{InRange, AllInRange}
use Rattle.row_core.specs.declared.errors.Memory.{Memory}
use Rattle.term_text.specs.Texts.{IsFrac}
use Rattle.expr_text.specs.Printed.{fraction_text}
use Rattle.expr_text.specs.ReadBack.{IsPrintedFraction}
use Rattle.expr_text.proofs.PrintFractions.{fractions_read_back}
use Rattle.row_core.specs.Points.{IsPoint}
use Rattle.gens_sys.specs.Generators.{Generators, FitDimension, row_at}
use Rattle.gens_sys.specs.Spans.{Span}
use Rattle.poly_pair.specs.Polyhedra.{Polyhedron, IsKept, HasNoPoint}
use Rattle.poly_pair.specs.FirstLists.{HasNoPointKind}
use Rattle.poly_pair.proofs.StoredLemmas.{kept_is_pair, kept_dim}
use Rattle.poly_pair.proofs.PairedSystems.{kept_paired}
use Rattle.set_laws.proofs.Members.{member_at, fits_at}
use Rattle.set_laws.proofs.PairedMembers.{member_within}
use Rattle.ranking.specs.PrintedRankings.{IsFirstPoint, function_text, IsRankingText}
use Rattle.ranking.specs.Laws.{PrintedFunctionRanks}

no_point : (p : Polyhedron) → IsKept p → HasNoPointKind p.gens.list → HasNoPoint p
no_point p k none v w = let s : Span p.gens v = (kept_is_pair p k v w.point).0 w.holds in none s.point.index s.point.within s.point.kind

pub none_text : (p : Polyhedron) (gs : Generators) → gs ≡ p.gens → IsKept p → HasNoPointKind gs.list → (r : Result (List ℕ) Memory) → IfOk r (λ text. text ≡ codes "none") → IfOk r (IsRankingText p)
none_text p gs same k none (Ok text) told = inl (record { none = no_point p k (subst (λ (hs : Generators). HasNoPointKind hs.list) same none); told = told })
none_text p gs same k none (Err cause) told = tt

module _ (p : Polyhedron) (gs : Generators) (same : gs ≡ p.gens) (k : IsKept p) (fit : FitDimension gs) (i : ℕ) (first : IsFirstPoint gs.list i) (d : ℕ) (dim_is : d ≡ p.cons.dim) (some : 1 ≤ p.cons.dim) (v : List ℤ) (row_is : v ≡ row_at gs.list i) where
  stored : IsFirstPoint p.gens.list i
  stored = subst (λ (hs : Generators). IsFirstPoint hs.list i) same first

  printed : fraction_text (d - 1) (take d v) (cell v d) ≡ function_text (p.cons.dim - 1) (row_at p.gens.list i)
  printed =
      let last : d ≡ d - 1 + 1 = omega (arith, dim_is, some) in
      ap (λ (m : ℕ). fraction_text (d - 1) (take m v) (cell v m)) last
      ∙ ap (λ (n : ℕ). function_text (n - 1) v) dim_is
      ∙ ap (function_text (p.cons.dim - 1)) (row_is ∙ ap (λ (hs : Generators). row_at hs.list i) same)

  pub first_text : (divisor : ℤ) → divisor ≡ cell v d → (r : Result (List ℕ) Memory) → IfOk r (λ text. text ≡ fraction_text (d - 1) (take d v) divisor) → IfOk r (IsRankingText p)
  first_text divisor e (Ok text) told = inr (record {
    index = i;
    first = stored;
    within = member_within (kept_paired p k) (member_at p.gens (subst FitDimension same fit) i stored.below stored.point);
    narrow = subst (λ (n : ℕ). n < 2 ^ 32 - 2) (kept_dim p k) (subst (λ (hs : Generators). hs.dim < 2 ^ 32 - 2) same fit.narrow);
    in_range = (fits_at p.gens (subst FitDimension same fit) i stored.below).in_range;
    told = told ∙ ap (fraction_text (d - 1) (take d v)) e ∙ printed;
  })
  first_text divisor e (Err cause) told = tt

positive_is : (z : ℤ) → pos 0 <ℤ z → z ≡ pos (unsigned_abs z)
positive_is (pos n) h = refl
positive_is (negsuc n) h = absurd (omega (arith, ints, h))

positive_size : (z : ℤ) → pos 0 <ℤ z → 0 < unsigned_abs z
positive_size (pos n) h = omega (arith, ints, h)
positive_size (negsuc n) h = absurd (omega (arith, ints, h))

-- the text of a function whose numbers are of the range
function_read : (n : ℕ) (f : List ℤ) → IsPoint (n + 1) f → n + 1 < 2 ^ 32 - 2 → AllInRange f → (text : List ℕ) → text ≡ function_text n f → (v : List ℤ × ℤ) → IsFrac n text v.0 v.1 ↔ (v ≡ (take (n + 1) f, cell f (n + 1)))
function_read n f point narrow in_range text told v =
    let is : cell f (n + 1) ≡ pos (unsigned_abs (cell f (n + 1))) = positive_is (cell f (n + 1)) point.positive in
    let last : InRange (cell f (n + 1)) = All-get_or InRange f (n + 1) (pos 0) (omega (arith, point.wide)) in_range in
    let printed : IsPrintedFraction n (take (n + 1) f) (unsigned_abs (cell f (n + 1))) = record {
      wide = length-take-le (n + 1) f (omega (arith, point.wide));
      narrow = omega (arith, narrow);
      in_range = All-take InRange (n + 1) f in_range;
      positive = positive_size (cell f (n + 1)) point.positive;
      small = last.size;
    } in
    subst (λ (w : List ℕ). IsFrac n w v.0 v.1 ↔ (v ≡ (take (n + 1) f, cell f (n + 1)))) (sym told)
    (subst (λ (z : ℤ). IsFrac n (fraction_text n (take (n + 1) f) z) v.0 v.1 ↔ (v ≡ (take (n + 1) f, z))) (sym is) (fractions_read_back n (take (n + 1) f) (unsigned_abs (cell f (n + 1))) v printed))

pub printed_law : PrintedFunctionRanks
printed_law n relation functions text set (inl none) = inl (record {
  none = λ f point ranks. none.none f (record { point = subst (λ (m : ℕ). IsPoint m f) (sym set.over.same_dim) point; holds = (set.points f point).1 ranks });
  told = none.told;
})
printed_law n relation functions text set (inr printed) =
    let point : IsPoint (n + 1) (row_at functions.gens.list printed.index) = subst (λ (m : ℕ). IsPoint m (row_at functions.gens.list printed.index)) set.over.same_dim printed.within.point in
    let told : text ≡ function_text n (row_at functions.gens.list printed.index) = printed.told ∙ ap (λ (m : ℕ). function_text m (row_at functions.gens.list printed.index)) (ap (λ (m : ℕ). m - 1) set.over.same_dim ∙ omega arith) in
    inr (record {
      function = row_at functions.gens.list printed.index;
      point = point;
      ranks = (set.points (row_at functions.gens.list printed.index) point).0 printed.within.holds;
      told = told;
      read = function_read n (row_at functions.gens.list printed.index) point (subst (λ (m : ℕ). m < 2 ^ 32 - 2) set.over.same_dim printed.narrow) printed.in_range text told;
    })
