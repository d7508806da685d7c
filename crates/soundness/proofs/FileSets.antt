-- The polyhedron of a file, as the file is said of points.
use Rattle.std.proofs.Common.{◌≡◌, ℕ, List, Bool, true, false}
use Rattle.poly_pair.specs.Polyhedra.{Polyhedron, IsKept}
use Rattle.poly_pair.specs.declared.topology.Topology.TheVariants.{Closed}
use Rattle.cdd_reading.specs.declared.format.Format.{Format}
use Rattle.cdd_reading.specs.Refusals.{tests, NoneOf}
use Rattle.file_poly.specs.Files as poly_files
use Rattle.file_poly.specs.declared.listed.Listed.{Listed}
use Rattle.file_poly.specs.declared.listed.Listed.TheVariants.{Cons, Gens}
use Rattle.line_values.specs.Operands.{format_of}
use Rattle.soundness.specs.Files.{IsRead}
use Rattle.soundness.proofs.PointLaws.{turn, set_of, closed_is_over}
use Rattle.soundness.proofs.FileReads.{ine_reads, ext_reads, origin_is}

file_is : (ext : Bool) (bytes : List ℕ) (p : Polyhedron) (list : Listed) → IsKept p → NoneOf (tests (format_of ext) bytes) → poly_files.IsListOf (format_of ext) bytes list → poly_files.IsOfList list p → IsRead ext bytes (set_of p)
file_is false bytes p (Cons cs) kept passes read set =
    let f = ine_reads bytes cs passes read in
    record {
      marked = f.marked;
      dim = cs.dim;
      rows = f.rows;
      file = f.file;
      set = record { list = cs.list; say = f.says; set = record { over = closed_is_over cs.dim p kept set.over; points = λ v is. turn (set.points v is) } };
    }
file_is false bytes p (Gens gs) kept passes read set = absurd read
file_is true bytes p (Cons cs) kept passes read set = absurd read
file_is true bytes p (Gens gs) kept passes read set =
    let f = ext_reads bytes gs passes read in
    record {
      marked = f.marked;
      dim = gs.dim;
      rows = f.rows;
      file = f.file;
      set = record {
        listed = read.given;
        say = f.says;
        list = gs.list;
        origin = origin_is bytes gs read;
        set = record { over = closed_is_over gs.dim p kept set.over; points = λ v is. turn (set.points v is) };
      };
    }

-- a file that passes its tests is read as the set of its polyhedron
pub of_file : (ext : Bool) (bytes : List ℕ) (p : Polyhedron) → IsKept p → NoneOf (tests (format_of ext) bytes) → poly_files.IsOfFile (format_of ext) bytes p → IsRead ext bytes (set_of p)
of_file ext bytes p kept passes h = file_is ext bytes p h.list kept passes h.read h.set

-- which is closed
closed_list : (list : Listed) (p : Polyhedron) → poly_files.IsOfList list p → p.topology ≡ Closed
closed_list (Cons cs) p set = set.over.same_topology
closed_list (Gens gs) p set = set.over.same_topology

pub closed_file : (want : Format) (bytes : List ℕ) (p : Polyhedron) → poly_files.IsOfFile want bytes p → p.topology ≡ Closed
closed_file want bytes p h = closed_list h.list p h.set
