-- What making the two systems of a list from a minimal form costs and shows.
use Rattle.std.proofs.Common.{◌≡◌, inl, inr, ℕ, ◌+◌, ◌*◌, ◌≤◌, List, length, arith}
use Rattle.std.specs.Prelude.{Option, None, Result, Ok}
use Rattle.row_core.specs.Lists.{Row}
use Rattle.row_core.specs.declared.errors.Memory.{Memory}
use Rattle.minimise.specs.MinimalForms.{LeavesInForm}
use Rattle.affine_maps.specs.Collapsing.{IsCollapse, LeavesInSecond}

-- two numbers of rows of the form, and one of the list, of one width
first_counted : (old mid a b c width : ℕ) → mid ≤ old + 2 * ((a + b) * width) → mid ≤ old + 2 * ((a + b + c) * width)
first_counted old mid a b c width h = omega (arith, h)

all_counted : (old mid new a b c width : ℕ) → mid ≤ old + 2 * ((a + b) * width) → new ≤ mid + 2 * (c * width) → new ≤ old + 2 * ((a + b + c) * width)
all_counted old mid new a b c width h k = omega (arith, h, k)

module _ {T : Type 0} (width : ℕ) (list lines rays : List Row) (old mid : ℕ) (r : Result (Option T) Memory) (fewer : old ≤ mid) (counted : mid ≤ old + 2 * ((length lines + length rays) * width)) where
  pub form_alone : (r ≡ Ok None → LeavesInForm lines rays) → IsCollapse width list lines rays old mid r
  form_alone left = record { no_fewer = fewer; counted = first_counted old mid (length lines) (length rays) (length list) width counted; leaves = λ e. inl (left e) }

  pub both_made : (new : ℕ) → mid ≤ new → new ≤ mid + 2 * (length list * width) → (r ≡ Ok None → LeavesInSecond width list) → IsCollapse width list lines rays old new r
  both_made new more more_counted left = record {
    no_fewer = omega (arith, fewer, more);
    counted = all_counted old mid new (length lines) (length rays) (length list) width counted more_counted;
    leaves = λ e. inr (left e);
  }
