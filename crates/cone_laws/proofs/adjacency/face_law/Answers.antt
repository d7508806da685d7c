use Rattle.cone_laws.proofs.FaceLists.{face_law}
use Rattle.cone_laws.proofs.adjacency.face_law.Goals as goal

pub returns : goal.returns
returns c = face_law
