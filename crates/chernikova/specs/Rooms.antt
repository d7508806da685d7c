use Rattle.std.specs.Prelude.{ℕ, ◌≤◌, ⊤, List, length}
use Rattle.sat_matrix.specs.Tables.{Table}
use Rattle.row_core.specs.Lists.{Row}
use Rattle.row_store.specs.Vectors.{HasSame, HasRoomForStep}
use Rattle.sat_matrix.specs.TableSteps.{HasFalseColumn}
use Rattle.chernikova.specs.Conversion.{IsState}
use Rattle.chernikova.specs.Plans.{lists_of, IsPlan}
use Rattle.chernikova.specs.declared.scratch.Scratch.{Scratch}
use Rattle.chernikova.specs.declared.system.System.{System}
use Rattle.chernikova.specs.declared.plan.Plan.{Plan}
use Rattle.chernikova.specs.declared.plan.Plan.TheVariants as plan

-- the system has the same lines and rays
pub record HasSameVectors (old new : System) : Type 0 where
  pub lines : HasSame old.lines new.lines
  pub rays : HasSame old.rays new.rays

-- the lists of a line step are empty, with room for the next system, and its table for a row more
pub record HasLineRoom (scratch : Scratch) (cone : System) : Type 0 where
  pub vectors : HasRoomForStep cone.lines cone.rays scratch.lines scratch.rays
  pub zeros : 1 ≤ cone.sat.spare

-- there is room for the ray of each of so many pairs, and for its row of the table
pub record HasRayRoom (pairs : ℕ) (cone : System) : Type 0 where
  pub rays : pairs ≤ cone.rays.spare
  pub zeros : pairs ≤ cone.sat.spare

-- there is all room that the step takes
abbrev pub HasRoom : Plan → Scratch → System → Type 0
HasRoom (plan.Line index) scratch cone = HasLineRoom scratch cone
HasRoom plan.Same scratch cone = ⊤
HasRoom plan.Ray scratch cone = HasRayRoom (length scratch.pair_lists.pairs.items) cone

-- the system of the rows before row k, the plan of the step with it, and room for that step
pub record IsReady (width : ℕ) (rows : List Row) (k : ℕ) (step : Plan) (scratch : Scratch)
    (cone : System) : Type 0 where
  pub before : Table
  pub state : IsState width rows k (record cone { sat = before })
  pub planned : IsPlan rows k (record cone { sat = before }) (lists_of scratch) step
  pub column : HasFalseColumn before cone.sat
  pub room : HasRoom step scratch cone
