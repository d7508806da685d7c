-- What is asked of powersets, relations and shapes that are the same has the same answers.
use Rattle.std.proofs.Common.{◌≡◌, ◌⊎◌, inl, inr, ℕ, ◌<◌, List, ◌++◌, length, get_or, ap, sym, ◌∙◌, subst, arith, codes, decimal}
use Rattle.std.specs.Prelude.{ℤ, ◌/◌, ◌-◌}
use Rattle.std.proofs.lemmas.Bool.{cases_order}
use Rattle.std.proofs.lemmas.List.Elements.{Contains-get_or}
use Rattle.row_core.specs.Points.{IsPoint}
use Rattle.row_core.specs.Lists.{Pointwise}
use Rattle.cons_sys.specs.Constraints.{In}
use Rattle.gens_sys.specs.Generators.{row_at}
use Rattle.poly_pair.specs.Polyhedra.{Polyhedron}
use Rattle.powerset.specs.Powersets.{FinitePowerset, IsKeptPowerset, IsInPowerset}
use Rattle.powerset.specs.PowersetLaws.{AreOfDimension}
use Rattle.powerset.specs.Covers.{Covers, IsCounterPoint, IsCover}
use Rattle.powerset.specs.declared.covering.Cover.{Cover}
use Rattle.powerset.specs.declared.covering.Cover.TheVariants.{Yes, No}
use Rattle.powerset.proofs.SameReductions.{pointwise_back}
use Rattle.ranking.specs.PrintedRankings.{IsFirstPoint, IsRankingText, function_text}
use Rattle.line_values.specs.Meaning.{line}
use Rattle.powerset.specs.Commands.{members_text, cover_line}
use Rattle.run_laws.specs.Sameness.{AreSamePolyhedra, AreSamePowersets}
use Rattle.run_laws.specs.Truth.{SaysCover, SaysRanking}
use Rattle.run_laws.specs.Laws.{ShowUncovered}
use Rattle.run_laws.proofs.OneForm.{OneForm}
use Rattle.run_laws.proofs.OneResult.{same_back, same_at}
use Rattle.run_laws.proofs.OneUnion.{dims_of}
use Rattle.run_laws.proofs.OneShape.{one_ranking_set}

-- ---- powersets
pub same_unions_back : (u w : FinitePowerset) → AreSamePowersets u w → AreSamePowersets w u
same_unions_back u w same = record { topology = sym same.topology; dim = sym same.dim; members = pointwise_back AreSamePolyhedra AreSamePolyhedra u.members w.members same_back same.members }

pub sized_alike : (u w : FinitePowerset) → AreSamePowersets u w → line (members_text u) ≡ line (members_text w)
sized_alike u w same = ap (λ (n : ℕ). line (codes "members " ++ decimal n)) (sym same.members.as_many)

-- a point of the one is one of the other
in_same : (dim : ℕ) (ms ns : List Polyhedron) (v : List ℤ) → AreOfDimension dim ms → Pointwise AreSamePolyhedra ms ns → IsPoint dim v → IsInPowerset ms v → IsInPowerset ns v
in_same dim ms ns v dims same is i =
    let k : ℕ = i.listed.0 in
    let here : k < length ms = i.listed.1 in
    let there : k < length ns = omega (arith, here, same.as_many) in
    let one : Polyhedron = get_or ms k i.member in
    let other : Polyhedron = get_or ns k i.member in
    let inside : In one.cons v = subst (λ (o : Polyhedron). In o.cons v) (sym i.listed.2) i.holds in
    record { member = other; listed = Contains-get_or ns k i.member there; holds = (same_at one other dim v (same.each k i.member i.member here) (dims k i.member here) is).0 inside }

pub in_union_same : (u w : FinitePowerset) (v : List ℤ) → IsKeptPowerset u → AreSamePowersets u w → IsPoint u.dim v → IsInPowerset u.members v → IsInPowerset w.members v
in_union_same u w v kept same is i = in_same u.dim u.members w.members v (dims_of u kept) same.members is i

-- a union isn't covered where a point shows it
never_both : (s s2 t t2 : FinitePowerset) (v : List ℤ) → AreSamePowersets s s2 → AreSamePowersets t t2 → IsKeptPowerset s → IsKeptPowerset t2 → s.dim ≡ t.dim → Covers s t → IsCounterPoint s2 t2 v → ⊥
never_both s s2 t t2 v same others a b e h k =
    let at : IsPoint s.dim v = subst (λ (n : ℕ). IsPoint n v) (sym same.dim) k.point in
    let at_other : IsPoint t2.dim v = subst (λ (n : ℕ). IsPoint n v) (e ∙ others.dim) at in
    k.outside (in_union_same s s2 v a same at (h v at (in_union_same t2 t v b (same_unions_back t t2 others) at_other k.within)))

-- both answers are that one union covers the other, or both show a point
pub covered_once : (s s2 t t2 : FinitePowerset) (text other : List ℕ) → AreSamePowersets s s2 → AreSamePowersets t t2 → IsKeptPowerset s → IsKeptPowerset s2 → IsKeptPowerset t → IsKeptPowerset t2 → s.dim ≡ t.dim → SaysCover text s t → SaysCover other s2 t2 → ShowUncovered text other ⊎ (text ≡ other)
covered_once s s2 t t2 text other same others a a2 b b2 e h k = by_answers h.answer k.answer h.said k.said h.true_of k.true_of
  where
    by_answers : (x y : Cover) → text ≡ cover_line s.dim x → other ≡ cover_line s2.dim y → IsCover s t x → IsCover s2 t2 y → ShowUncovered text other ⊎ (text ≡ other)
    by_answers Yes Yes f g i j = inr (f ∙ sym g)
    by_answers Yes (No v) f g i j = absurd (never_both s s2 t t2 v same others a b2 e i j)
    by_answers (No v) Yes f g i j = absurd (never_both s2 s t2 t v (same_unions_back s s2 same) (same_unions_back t t2 others) a2 b (sym same.dim ∙ e ∙ others.dim) j i)
    by_answers (No v) (No w) f g i j = inl (record { dim = s.dim; point = v; point_of_other = w; said = f; said_other = g ∙ ap (λ (n : ℕ). cover_line n (No w)) (sym same.dim) })

-- ---- ranking functions
-- a list has one first point
one_first : (functions : Polyhedron) (i k : ℕ) → IsFirstPoint functions.gens.list i → IsFirstPoint functions.gens.list k → i ≡ k
one_first functions i k a b = by_order (cases_order i k)
  where
    by_order : (i ≡ k) ⊎ ((i < k) ⊎ (k < i)) → i ≡ k
    by_order (inl e) = e
    by_order (inr (inl l)) = absurd (b.before i l a.point)
    by_order (inr (inr l)) = absurd (a.before k l b.point)

-- the stored generators decide the function that is said
ranking_text_once : (functions : Polyhedron) (text other : List ℕ) → IsRankingText functions text → IsRankingText functions other → text ≡ other
ranking_text_once functions text other (inl n) (inl m) = n.told ∙ sym m.told
ranking_text_once functions text other (inl n) (inr f) = absurd (n.none (row_at functions.gens.list f.index) f.within)
ranking_text_once functions text other (inr f) (inl n) = absurd (n.none (row_at functions.gens.list f.index) f.within)
ranking_text_once functions text other (inr f) (inr g) =
    f.told ∙ ap (λ (i : ℕ). function_text (functions.cons.dim - 1) (row_at functions.gens.list i)) (one_first functions f.index g.index f.first g.first) ∙ sym g.told

pub ranked_once : OneForm → (r : Polyhedron) (text other : List ℕ) → SaysRanking text r → SaysRanking other r → text ≡ other
ranked_once laws r text other h k =
    let same = one_ranking_set laws (r.cons.dim / 2) r h.functions k.functions h.made.kept k.made.kept h.made.is k.made.is in
    let first : IsRankingText k.functions h.text = subst (λ (x : Polyhedron). IsRankingText x h.text) (same.closed h.made.is.over.same_topology) h.first in
    h.said ∙ ap line (ranking_text_once k.functions h.text k.text first k.first) ∙ sym k.said
