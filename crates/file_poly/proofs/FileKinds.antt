-- Lists of files fit a closed polyhedron, and its systems fit a file.
use Rattle.std.proofs.Common.{◌≡◌, ◌≢◌, ℕ, ◌+◌, ◌<◌, ◌≤◌, List, [], ◌∷◌, ◌++◌, length, get_or, suc, Bool, true, false, cond, refl, sym, subst, arith, inl, inr}
use Rattle.std.specs.Prelude.{All, not, ◌&&◌, ◌||◌, ◌==◌}
use Rattle.std.specs.List.{list_any}
use Rattle.std.proofs.lemmas.Bool.{cases_lt}
use Rattle.std.proofs.lemmas.Bool.Decides.{Decides-eqb}
use Rattle.cons_sys.specs.Constraints.{Constraint, Constraints}
use Rattle.cons_sys.specs.declared.kind.ConKind.{ConKind}
use Rattle.cons_sys.specs.declared.kind.ConKind.TheVariants.{Eq, Ge, Gt}
use Rattle.gens_sys.specs.Generators.{Generator, Generators}
use Rattle.gens_sys.specs.declared.kind.GenKind.{GenKind}
use Rattle.gens_sys.specs.declared.kind.GenKind.TheVariants.{Line, Ray, Point, ClosurePoint}
use Rattle.reply_text.specs.declared.faults.Fault.TheVariants as fault
use Rattle.cdd_reading.specs.Tokens.{has_some}
use Rattle.cdd_reading.specs.Files.{IsIneFile, IsExtFile, is_point, origin}
use Rattle.cdd_reading.specs.Refusals.{tests, NoneOf}
use Rattle.cdd_text.specs.Written.{HasNoStrict, HasNoClosurePoint}
use Rattle.cdd_reading.specs.declared.format.Format.TheVariants.{Ine, Ext}
use Rattle.cdd_text.proofs.ReadKinds.{ine_without_strict, ext_without_closure_points}
use Rattle.stored_systems.specs.PointSets.{IsClosedKind, AreClosed, IsClosedGenKind, IsClosedGen, AreClosedGens}
use Rattle.poly_pair.specs.FirstLists.{HasNoPointKind, LacksPoint}
use Rattle.file_poly.specs.Files.{IsFit}
use Rattle.file_poly.specs.declared.listed.Listed.TheVariants.{Cons, Gens}
use Rattle.poly_pair.specs.declared.topology.TheConstants.{MAX_DIM}
use Rattle.cdd_reading.specs.declared.table.TheConstants.{MAX_WIDTH}

-- ---- kinds
closed_kind : (k : ConKind) → k ≢ Gt → IsClosedKind k
closed_kind Eq h = tt
closed_kind Ge h = tt
closed_kind Gt h = absurd (h refl)

closed_gen_kind : (k : GenKind) → k ≢ ClosurePoint → IsClosedGenKind k
closed_gen_kind Line h = tt
closed_gen_kind Ray h = tt
closed_gen_kind Point h = tt
closed_gen_kind ClosurePoint h = absurd (h refl)

weak_kind : (k : ConKind) → IsClosedKind k → k ≢ Gt
weak_kind Eq h e = cc
weak_kind Ge h e = cc
weak_kind Gt h e = h

plain_kind : (k : GenKind) → IsClosedGenKind k → k ≢ ClosurePoint
plain_kind Line h e = cc
plain_kind Ray h e = cc
plain_kind Point h e = cc
plain_kind ClosurePoint h e = h

-- where the one holds of each element, the other does
each : {A : Type 0} (P Q : A → Type 0) → ((x : A) → P x → Q x) → (xs : List A) → All P xs → All Q xs
each P Q f xs h i d b = f (get_or xs i d) (h i d b)

pub written_constraints : (cs : Constraints) → AreClosed cs → HasNoStrict cs
written_constraints cs h = each (λ (c : Constraint). IsClosedKind c.1) (λ (c : Constraint). c.1 ≢ Gt) (λ c k. weak_kind c.1 k) cs.list h

pub written_generators : (gs : Generators) → AreClosedGens gs → HasNoClosurePoint gs
written_generators gs h = each (IsClosedGen gs.dim) (λ (g : Generator). g.1 ≢ ClosurePoint) (λ g k. plain_kind g.1 k.kind) gs.list h

-- ---- points
no_point : (list : List Generator) → HasNoPointKind list → list_any is_point list ≡ true → ⊥
no_point [] none e = cc
no_point ((row, Point) ∷ list) none e = none 0 (omega arith) refl
no_point ((row, Line) ∷ list) none e = no_point list (λ i h. none (suc i) (omega (arith, h))) e
no_point ((row, Ray) ∷ list) none e = no_point list (λ i h. none (suc i) (omega (arith, h))) e
no_point ((row, ClosurePoint) ∷ list) none e = no_point list (λ i h. none (suc i) (omega (arith, h))) e

or_true : (b : Bool) → (b || true) ≡ true
or_true true = refl
or_true false = refl

last_point : (list : List Generator) (g : Generator) → is_point g ≡ true → list_any is_point (list ++ g ∷ []) ≡ true
last_point [] g e = rw e refl
last_point (h ∷ list) g e = rw (last_point list g e) (or_true (is_point h))

some_there : (n : ℕ) (b : Bool) → (b ≡ true → n ≡ 0) → 0 < n → (not b && true) ≡ false → ⊥
some_there n true is k h = omega (arith, is refl, k)
some_there n false is k h = let no : true ≡ false = h in cc

-- a list without generators, or with a point, doesn't lack one
isnt_lacking : (list : List Generator) (any : Bool) → list_any is_point list ≡ any → (has_some list && not any) ≡ false → ¬ (LacksPoint list)
isnt_lacking list true e h lacks = no_point list lacks.none e
isnt_lacking [] false e h lacks = absurd (omega (arith, lacks.some))
isnt_lacking (g ∷ list) false e h lacks = some_there (length (g ∷ list)) (length (g ∷ list) == 0) (λ t. (Decides-eqb (length (g ∷ list)) 0).0 t) lacks.some h

with_point_cases : (b : Bool) (dim : ℕ) (list : List Generator) → (has_some list && not (list_any is_point list)) ≡ b → ¬ (LacksPoint (cond b (list ++ (origin dim, Point) ∷ []) list))
with_point_cases true dim list e lacks = no_point (list ++ (origin dim, Point) ∷ []) lacks.none (last_point list (origin dim, Point) refl)
with_point_cases false dim list e lacks = isnt_lacking list (list_any is_point list) refl e lacks

file_with_point : (bytes : List ℕ) (gs : Generators) → IsExtFile bytes gs → ¬ (LacksPoint gs.list)
file_with_point bytes gs f =
    subst (λ (list : List Generator). ¬ (LacksPoint list)) (sym f.list) (with_point_cases (has_some f.given && not (list_any is_point f.given)) gs.dim f.given refl)

-- ---- limits
few_columns : (d n : ℕ) → d ≡ n + 1 → (MAX_WIDTH < d → ⊥) → n ≤ MAX_DIM
few_columns d n e few =
    elim (cases_lt MAX_WIDTH d) [
      | inl many ↦ absurd (few many)
      | inr k ↦ omega (arith, e, k)
    ]

pub fit_constraints : (bytes : List ℕ) (cs : Constraints) → IsIneFile bytes cs → NoneOf (tests Ine bytes) → IsFit (Cons cs)
fit_constraints bytes cs f none = (
  few_columns f.contents.sizes.columns cs.dim f.over (λ k. none.1.1.1.1.1.1.0 fault.TooManyDims (refl, (f.contents, f.says, k))),
  each (λ (c : Constraint). c.1 ≢ Gt) (λ (c : Constraint). IsClosedKind c.1) (λ c k. closed_kind c.1 k) cs.list (ine_without_strict bytes cs f),
)

pub fit_generators : (bytes : List ℕ) (gs : Generators) → IsExtFile bytes gs → NoneOf (tests Ext bytes) → IsFit (Gens gs)
fit_generators bytes gs f none = (
  few_columns f.contents.sizes.columns gs.dim f.over (λ k. none.1.1.1.1.1.1.0 fault.TooManyDims (refl, (f.contents, f.says, k))),
  each (λ (g : Generator). g.1 ≢ ClosurePoint) (λ (g : Generator). IsClosedGenKind g.1) (λ g k. closed_gen_kind g.1 k) gs.list (ext_without_closure_points bytes gs f),
  file_with_point bytes gs f,
)
