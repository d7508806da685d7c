-- What the commands mean that ask how two polyhedra lie, or whether one has no point.
use Rattle.std.specs.Prelude.{List, ℕ, Bool, false, Result, Ok}
use Rattle.row_core.specs.declared.errors.PairOver.{PairOver}
use Rattle.cone_laws.specs.Leaves.{Leaves}
use Rattle.poly_pair.specs.Polyhedra.{Polyhedron, HasNoPoint, IsIncluded, HaveSamePoints}
use Rattle.poly_pair.specs.TopologyLists.{list_width}
use Rattle.lattice_ops.specs.Sets.{AreDisjoint, meet_list}
use Rattle.lattice_ops.specs.Questions.{Answers, AnswersEqual}
use Rattle.script_text.specs.declared.command.Comparison.{Comparison}
use Rattle.script_text.specs.declared.command.Comparison.TheVariants as by
use Rattle.line_values.specs.Pairs.{ShowsRows}
use Rattle.line_values.specs.Meaning.{Meaning, no_fault, no_overflow, alike, IsTold}

-- a test of pairs of rows in order tells whether the statement is true, and this is said
pub record IsTested (Answer : Result Bool PairOver → Type 0) (Statement : Type 0)
    (text : List ℕ) : Type 0 where
  pub told : IsTold Statement text
  pub tested : Answer (Ok told.holds)

-- contains P Q
abbrev pub contains : Polyhedron → Polyhedron → Meaning (List ℕ)
contains p q = record {
  conditions = alike p q no_fault;
  overflows = ShowsRows (Answers p.cons.list q.gens.list false) p q;
  does = IsTested (Answers p.cons.list q.gens.list false) (IsIncluded q p);
}

-- equal P Q
abbrev pub equal : Polyhedron → Polyhedron → Meaning (List ℕ)
equal p q = record {
  conditions = alike p q no_fault;
  overflows = ShowsRows (AnswersEqual p.topology p q) p q;
  does = IsTested (AnswersEqual p.topology p q) (HaveSamePoints p q);
}

-- disjoint P Q
abbrev pub disjoint : Polyhedron → Polyhedron → Meaning (List ℕ)
disjoint p q = record {
  conditions = alike p q no_fault;
  overflows = Leaves (list_width p.topology p.cons.dim) (meet_list p q);
  does = IsTold (AreDisjoint p q);
}

-- contains, equal or disjoint P Q
abbrev pub compared : Comparison → Polyhedron → Polyhedron → Meaning (List ℕ)
compared by.Contains p q = contains p q
compared by.Equal p q = equal p q
compared by.Disjoint p q = disjoint p q

-- isempty P
abbrev pub isempty : Polyhedron → Meaning (List ℕ)
isempty p = record { conditions = no_fault; overflows = no_overflow; does = IsTold (HasNoPoint p) }
