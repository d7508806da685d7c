use Rattle.std.specs.Prelude.{◌≡◌, ℕ, ◌+◌, ◌-◌, ◌≤◌, List, length, true, IfSome, ⊤}
use Rattle.row_core.specs.Lists.{Row}
use Rattle.chernikova.specs.Conversion.{IsState, IsCountedUpto}
use Rattle.chernikova.specs.Plans.{StepLists, lists_of, IsPlan}
use Rattle.ray_order.specs.RowOrders.{AreReordered}
use Rattle.chernikova.specs.declared.system.System.{System}
use Rattle.chernikova.specs.declared.taking.Search.{Search}
use Rattle.chernikova.specs.declared.taking.Search.TheVariants as search
use Rattle.chernikova.specs.declared.list_order.ListOrder.{ListOrder}
use Rattle.chernikova.specs.declared.beside.Beside.{Beside}

-- the first k rows are taken in, and what was counted since an old count fits, beside what is left
pub record GoesOnFrom (width : ℕ) (rows : List Row) (k old new : ℕ) (first : ListOrder)
    : Type 0 where
  pub taken : k ≤ length rows
  pub state : IsState width rows k first.system
  pub no_fewer : old ≤ new
  pub counted : IsCountedUpto width rows k (new - old + first.slack)

-- what the next row asks for, if that is known
abbrev pub IsPlanned : Beside → Type 0
IsPlanned beside =
    let lists = lists_of beside.scratch in
    IfSome beside.plan (IsPlan beside.rows.rows beside.taken beside.system lists)

-- the rows of a list in another order, the system of those taken in, and the plan of the next
pub record IsRunning (width : ℕ) (rows : List Row) (beside : Beside) : Type 0 where
  pub same_width : beside.rows.width ≡ width
  pub reordered : AreReordered rows beside.rows.rows beside.places.items
  pub taken : beside.taken ≤ length rows
  pub state : IsState width beside.rows.rows beside.taken beside.system
  pub planned : IsPlanned beside

-- such a conversion as long as it runs
abbrev pub IsBeside : ℕ → List Row → Beside → Type 0
IsBeside width rows beside = beside.running ≡ true → IsRunning width rows beside

-- it has taken in all rows
pub record IsDone (width : ℕ) (rows : List Row) (beside : Beside) : Type 0 where
  pub running : IsRunning width rows beside
  pub all : beside.taken ≡ length rows

-- what came of the search for what row k asks of a system
abbrev pub IsSearchOfRow : List Row → ℕ → System → StepLists → Search → Type 0
IsSearchOfRow rows k cone lists (search.Found looks plan) = IsPlan rows k cone lists plan
IsSearchOfRow rows k cone lists (search.Dear looks) = ⊤
