use Rattle.std.proofs.Common.{◌≡◌, ap, sym, subst, ◌∙◌, refl}
use Rattle.script_text.specs.declared.command.Command.{Command}
use Rattle.script_text.specs.declared.command.Command.TheVariants.{Cons, Gens, Space, Copy, Drop, Add, Addgen, Has, Size, Print, Names, OfTwo, Closure, Compare, Isempty, Relation, Bound, Map, Extend, Remove, Widen, Read, Write}
use Rattle.command_tasks.specs.Tasks.{task_of, further_task}
use Rattle.command_tasks.proofs.taking_apart.task_of.Goals as goal

-- no earlier arm took the command
pub returns-in_default : goal.returns-in_default
returns-in_default c = c.further_task.ensures ∙ same c.args.command refl
  where
    same : (k : Command) → c.args.command ≡ k → further_task c.args.command ≡ task_of c.args.command
    same (Cons a b d e) is = absurd (c.in_default.not-Cons a b d e is)
    same (Gens a b d e) is = absurd (c.in_default.not-Gens a b d e is)
    same (Space a b d e) is = absurd (c.in_default.not-Space a b d e is)
    same (Copy a b) is = absurd (c.in_default.not-Copy a b is)
    same (Drop a) is = absurd (c.in_default.not-Drop a is)
    same (Add a b) is = absurd (c.in_default.not-Add a b is)
    same (Addgen a b) is = absurd (c.in_default.not-Addgen a b is)
    same (Has a b) is = absurd (c.in_default.not-Has a b is)
    same (Size a) is = absurd (c.in_default.not-Size a is)
    same (Print a b) is = absurd (c.in_default.not-Print a b is)
    same Names is = absurd (c.in_default.not-Names is)
    same (OfTwo a b d e) is = absurd (c.in_default.not-OfTwo a b d e is)
    same (Closure a b) is = absurd (c.in_default.not-Closure a b is)
    same (Compare a b d) is = absurd (c.in_default.not-Compare a b d is)
    same (Isempty a) is = absurd (c.in_default.not-Isempty a is)
    same (Relation a b) is = absurd (c.in_default.not-Relation a b is)
    same (Bound a b d) is = absurd (c.in_default.not-Bound a b d is)
    same (Map a b d e f g) is = absurd (c.in_default.not-Map a b d e f g is)
    same (Extend a b d e) is = absurd (c.in_default.not-Extend a b d e is)
    same (Remove a b d) is = absurd (c.in_default.not-Remove a b d is)
    same (Widen a b d) is = absurd (c.in_default.not-Widen a b d is)
    same (Read a b) is = absurd (c.in_default.not-Read a b is)
    same (Write a b) is = absurd (c.in_default.not-Write a b is)
    same other is = subst (λ (command : Command). further_task command ≡ task_of command) (sym is) refl

pub returns-in-Cons : goal.returns-in-Cons
returns-in-Cons c = c.makes_alone.ensures ∙ ap task_of (sym c.in-Cons.is)

pub returns-in-Gens : goal.returns-in-Gens
returns-in-Gens c = c.makes_alone-in-Gens.ensures ∙ ap task_of (sym c.in-Gens.is)

pub returns-in-Space : goal.returns-in-Space
returns-in-Space c = c.makes_alone-in-Space.ensures ∙ ap task_of (sym c.in-Space.is)

pub returns-in-Copy : goal.returns-in-Copy
returns-in-Copy c = c.makes_of_one.ensures ∙ ap task_of (sym c.in-Copy.is)

pub returns-in-Drop : goal.returns-in-Drop
returns-in-Drop c = ap task_of (sym c.in-Drop.is)

pub returns-in-Add : goal.returns-in-Add
returns-in-Add c = c.adds.ensures ∙ ap task_of (sym c.in-Add.is)

pub returns-in-Addgen : goal.returns-in-Addgen
returns-in-Addgen c = c.adds-in-Addgen.ensures ∙ ap task_of (sym c.in-Addgen.is)

pub returns-in-Has : goal.returns-in-Has
returns-in-Has c = c.asks_about.ensures ∙ ap task_of (sym c.in-Has.is)

pub returns-in-Size : goal.returns-in-Size
returns-in-Size c = c.asks_about-in-Size.ensures ∙ ap task_of (sym c.in-Size.is)

pub returns-in-Print : goal.returns-in-Print
returns-in-Print c = c.asks_about-in-Print.ensures ∙ ap task_of (sym c.in-Print.is)

pub returns-in-Names : goal.returns-in-Names
returns-in-Names c = c.asks.ensures ∙ ap task_of (sym c.in-Names.is)

pub returns-in-OfTwo : goal.returns-in-OfTwo
returns-in-OfTwo c = c.makes_of_two.ensures ∙ ap task_of (sym c.in-OfTwo.is)

pub returns-in-Closure : goal.returns-in-Closure
returns-in-Closure c = c.makes_of_one-in-Closure.ensures ∙ ap task_of (sym c.in-Closure.is)

pub returns-in-Compare : goal.returns-in-Compare
returns-in-Compare c = c.asks-in-Compare.ensures ∙ ap task_of (sym c.in-Compare.is)

pub returns-in-Isempty : goal.returns-in-Isempty
returns-in-Isempty c = c.asks_about-in-Isempty.ensures ∙ ap task_of (sym c.in-Isempty.is)

pub returns-in-Relation : goal.returns-in-Relation
returns-in-Relation c = c.asks_about-in-Relation.ensures ∙ ap task_of (sym c.in-Relation.is)

pub returns-in-Bound : goal.returns-in-Bound
returns-in-Bound c = c.asks_about-in-Bound.ensures ∙ ap task_of (sym c.in-Bound.is)

pub returns-in-Map : goal.returns-in-Map
returns-in-Map c = c.makes_of_one-in-Map.ensures ∙ ap task_of (sym c.in-Map.is)

pub returns-in-Extend : goal.returns-in-Extend
returns-in-Extend c = c.makes_of_one-in-Extend.ensures ∙ ap task_of (sym c.in-Extend.is)

pub returns-in-Remove : goal.returns-in-Remove
returns-in-Remove c = c.makes_of_one-in-Remove.ensures ∙ ap task_of (sym c.in-Remove.is)

pub returns-in-Widen : goal.returns-in-Widen
returns-in-Widen c = c.makes_of_two-in-Widen.ensures ∙ ap task_of (sym c.in-Widen.is)

pub returns-in-Read : goal.returns-in-Read
returns-in-Read c = ap task_of (sym c.in-Read.is)

pub returns-in-Write : goal.returns-in-Write
returns-in-Write c = c.asks_about-in-Write.ensures ∙ ap task_of (sym c.in-Write.is)
