-- Entries of a kind.
use Rattle.std.proofs.Common.{◌≡◌, refl, ap}
use Rattle.std.specs.Prelude.{Option, None, Some, MatchOption}
use Rattle.calc_state.specs.declared.entry.Entry.{Entry}
use Rattle.calc_state.specs.declared.entry.Entry.TheVariants as entry
use Rattle.calc_state.specs.Table.{as_poly, as_system, as_powerset, as_shape, as_hybrid}
use Rattle.calc_state.specs.Changes.{as_entry}

-- what is found of a kind is an entry of the kind
abbrev pub IsKind : {A : Type 0} → (Option Entry → Option A) → (A → Entry) → Type 0
IsKind {A} found kind = (o : Option Entry) (a : A) → found o ≡ Some a → o ≡ Some (kind a)

pub poly_there : IsKind as_poly entry.Poly
poly_there (Some (entry.Poly q)) p h = ap (as_entry entry.Poly) h
poly_there o p h = cc

pub system_there : IsKind as_system entry.System
system_there (Some (entry.System t)) s h = ap (as_entry entry.System) h
system_there o s h = cc

pub powerset_there : IsKind as_powerset entry.Powerset
powerset_there (Some (entry.Powerset w)) u h = ap (as_entry entry.Powerset) h
powerset_there o u h = cc

pub shape_there : IsKind as_shape entry.Shape
shape_there (Some (entry.Shape r)) s h = ap (as_entry entry.Shape) h
shape_there o s h = cc

pub hybrid_there : IsKind as_hybrid entry.Hybrid
hybrid_there (Some (entry.Hybrid k)) x h = ap (as_entry entry.Hybrid) h
hybrid_there o x h = cc

-- what was found has the property
pub record Found {A : Type 0} (o : Option A) (Is : A → Type 0) : Type 0 where
  pub value : A
  pub there : o ≡ Some value
  pub is : Is value

pub found_of : {A : Type 0} (o : Option A) (Is : A → Type 0) → MatchOption o ⊥ Is → Found o Is
found_of None Is h = absurd h
found_of (Some x) Is h = record { value = x; there = refl; is = h }

pub same_entry : (e f : Entry) → Some e ≡ Some f → e ≡ f
same_entry e f h = cc
