use Rattle.stored_systems.proofs.Stored.{stored_admits_valid_rows}
use Rattle.stored_systems.proofs.stored_laws.stored_admits_valid_rows.Goals as goal

pub returns : goal.returns
returns c = stored_admits_valid_rows
