-- What bringing a pair to canonical form costs and shows.
use Rattle.std.proofs.Common.{◌≡◌, inl, inr, ℕ, ◌+◌, ◌*◌, ◌≤◌, length, refl, subst, arith}
use Rattle.std.specs.Prelude.{Option, Some, None, Result, Ok, Err}
use Rattle.row_core.specs.declared.errors.Memory.{Memory}
use Rattle.cons_sys.specs.Constraints.{Constraints}
use Rattle.gens_sys.specs.Generators.{Generators}
use Rattle.affine_maps.specs.Carrying.{HaveNoLine, IsForming, AfterForming, IsFormedInVain, ConvertsForms}
use Rattle.poly_pair.specs.DoubleDescriptions.{HasPairOverflow}
use Rattle.poly_pair.proofs.WorkLemmas.{pair_fewer}

-- there is no answer where none is found
pub none_found : {T : Type 0} (found : Option T) → ((x : T) → found ≡ Some x → ⊥) → ◌≡◌ {A = Result (Option T) Memory} (Ok found) (Ok None)
none_found (Some x) never = absurd (never x refl)
none_found None never = refl

-- ---- counted combinations
-- two numbers of rows, of one width
both_counted : (old mid new cons gens width : ℕ) → mid ≤ old + 2 * (cons * width) → new ≤ mid + 2 * (gens * width) → new ≤ old + 2 * ((cons + gens) * width)
both_counted old mid new cons gens width h k = omega (arith, h, k)

module _ (cs : Constraints) (gs : Generators) (old mid : ℕ) (fewer : old ≤ mid) (counted : mid ≤ old + 2 * (length cs.list * (cs.dim + 1))) where
  -- the constraints alone
  pub first_forming : IsForming cs gs old mid
  first_forming = record { no_fewer = fewer; counted = both_counted old mid mid (length cs.list) (length gs.list) (cs.dim + 1) counted (omega arith) }

  -- both
  pub both_forming : (new : ℕ) → mid ≤ new → new ≤ mid + 2 * (length gs.list * (gs.dim + 1)) → gs.dim ≡ cs.dim → IsForming cs gs old new
  both_forming new more more_counted same = record {
    no_fewer = omega (arith, fewer, more);
    counted = both_counted old mid new (length cs.list) (length gs.list) (cs.dim + 1) counted (subst (λ (n : ℕ). new ≤ mid + 2 * (length gs.list * (n + 1))) same more_counted);
  }

module _ {T : Type 0} (cs : Constraints) (gs : Generators) (old new : ℕ) where
  after_fewer : (between : ℕ) (r : Result (Option T) Memory) → AfterForming cs gs between new r → between ≤ new
  after_fewer between r (inl h) = pair_fewer cs between new r h.1
  after_fewer between r (inr h) = omega (arith, h.1.0)

  vain_fewer : (r : Result (Option T) Memory) → IsFormedInVain cs gs old new r → old ≤ new
  vain_fewer r h = omega (arith, h.forming.no_fewer, after_fewer h.between r h.after)

  pub forms_fewer : (r : Result (Option T) Memory) → ConvertsForms cs gs old new r → old ≤ new
  forms_fewer (Ok None) h = vain_fewer (Ok None) h
  forms_fewer (Ok (Some x)) (inl h) = h.no_fewer
  forms_fewer (Ok (Some x)) (inr h) = vain_fewer (Ok (Some x)) h
  forms_fewer (Err e) (inl h) = h.no_fewer
  forms_fewer (Err e) (inr h) = vain_fewer (Err e) h

  -- a combination left the range
  pub formed_in_vain : (r : Result (Option T) Memory) → IsFormedInVain cs gs old new r → ConvertsForms cs gs old new r
  formed_in_vain (Ok None) h = h
  formed_in_vain (Ok (Some x)) h = inr h
  formed_in_vain (Err e) h = inr h

-- where there is no answer of a set without a line, its second list leaves the range
pub forms_leave : {T : Type 0} (cs : Constraints) (gs : Generators) (old new : ℕ) → ConvertsForms {T = T} cs gs old new (Ok None) → HaveNoLine gs.list → HasPairOverflow cs
forms_leave {T = T} cs gs old new h none = by_case h.after
  where
    by_case : AfterForming {T = T} cs gs h.between new (Ok None) → HasPairOverflow cs
    by_case (inl a) = record { over = a.1.over; leaves = a.1.conversion.overflow }
    by_case (inr a) = absurd (a.0 none)
