-- What is read can be written.
use Rattle.std.proofs.Common.{◌≡◌, ◌≢◌, ℕ, List, [], ◌∷◌, ◌++◌, Bool, true, false, cond, subst, sym, if◌then◌else◌, not}
use Rattle.std.specs.Prelude.{All, ◌&&◌}
use Rattle.std.specs.List.{AllZip, list_any}
use Rattle.std.proofs.lemmas.List.Elements.{All-nil, All-cons, All-push}
use Rattle.row_core.specs.Vectors.{cell}
use Rattle.row_core.specs.Lists.{Row}
use Rattle.cons_sys.specs.Constraints.{Constraint, Constraints}
use Rattle.cons_sys.specs.declared.kind.ConKind.{ConKind}
use Rattle.cons_sys.specs.declared.kind.ConKind.TheVariants.{Eq, Ge, Gt}
use Rattle.gens_sys.specs.Generators.{Generator, Generators}
use Rattle.gens_sys.specs.declared.kind.GenKind.{GenKind}
use Rattle.gens_sys.specs.declared.kind.GenKind.TheVariants.{Point, ClosurePoint}
use Rattle.cdd_reading.specs.Tokens.{has_some}
use Rattle.cdd_reading.specs.Files.{IsRowOf, IsVectorOf, IsKind, IsIneFile, IsExtFile, is_point, origin}
use Rattle.cdd_text.specs.Written.{HasNoStrict, HasNoClosurePoint}

never_strict : (m : Bool) (k : ConKind) → k ≡ (if m then Eq else Ge) → k ≢ Gt
never_strict true k e f = cc
never_strict false k e f = cc

abbrev isnt_strict : Constraint → Type 0
isnt_strict c = c.1 ≢ Gt

all_weak : (rows : List Row) (list : List Constraint) → AllZip IsRowOf rows list → All isnt_strict list
all_weak [] [] h = All-nil isnt_strict
all_weak [] (c ∷ list) h = absurd h
all_weak (row ∷ rows) [] h = absurd h
all_weak (row ∷ rows) (c ∷ list) (here, h) = All-cons isnt_strict c list (never_strict row.1 c.1 here.1) (all_weak rows list h)

pub ine_without_strict : (bytes : List ℕ) (cs : Constraints) → IsIneFile bytes cs → HasNoStrict cs
ine_without_strict bytes cs f = all_weak f.rows cs.list f.each

abbrev isnt_closure : Generator → Type 0
isnt_closure g = g.1 ≢ ClosurePoint

all_closed : (rows : List Row) (list : List Generator) → AllZip IsVectorOf rows list → All isnt_closure list
all_closed [] [] h = All-nil isnt_closure
all_closed [] (g ∷ list) h = absurd h
all_closed (row ∷ rows) [] h = absurd h
all_closed (row ∷ rows) (g ∷ list) (here, h) = All-cons isnt_closure g list (λ e. subst (λ (k : GenKind). IsKind row.1 (cell row.0 0) k) e here.1) (all_closed rows list h)

closed_cases : (b : Bool) (dim : ℕ) (list : List Generator) → All isnt_closure list → All isnt_closure (cond b (list ++ (origin dim, Point) ∷ []) list)
closed_cases true dim list h = All-push isnt_closure list (origin dim, Point) h (λ e. cc)
closed_cases false dim list h = h

pub ext_without_closure_points : (bytes : List ℕ) (gs : Generators) → IsExtFile bytes gs → HasNoClosurePoint gs
ext_without_closure_points bytes gs f = subst (λ (l : List Generator). All isnt_closure l) (sym f.list) (closed_cases (has_some f.given && not (list_any is_point f.given)) gs.dim f.given (all_closed f.rows f.given f.each))
