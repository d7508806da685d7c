use Rattle.line_values.proofs.PerformedLemmas.{not_full}
use Rattle.open_files.proofs.FileLemmas.{file_refused, room_refused, file_passes, file_leaves}
use Rattle.open_files.proofs.reading.read_whole.Goals as goal

pub returns-in-Err : goal.returns-in-Err
returns-in-Err g c = rw c.from.ensures (file_refused c.args.full c.args.file.now c.in-Err.cause c.in-Err.ensures.read)

pub returns-then-full : goal.returns-then-full
returns-then-full g c = room_refused c.args.full c.args.file.now c.in-Ok.ensures.read.1 c.if-full.true

pub returns-in-Err-polyhedron : goal.returns-in-Err-polyhedron
returns-in-Err-polyhedron g c =
    rw c.from-in-Err-polyhedron.ensures
    (file_leaves c.args.full c.args.file.now c.in-Ok.list c.in-Err-polyhedron.cause (file_passes c.args.full c.args.file.now c.in-Ok.ensures.read.1 (not_full c.args.full c.if-full.false)) c.in-Ok.ensures.read.0 c.in-Err-polyhedron.ensures.overflow)

pub returns : goal.returns
returns g c = (
  file_passes c.args.full c.args.file.now c.in-Ok.ensures.read.1 (not_full c.args.full c.if-full.false),
  record { list = c.in-Ok.list; read = c.in-Ok.ensures.read.0; set = c.in-Ok-polyhedron.ensures.set },
  c.is_proper.ensures,
)
