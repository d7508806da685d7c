-- The first fault of a command, from the faults before, of and behind its text.
use Rattle.std.proofs.Common.{List, [], ◌∷◌, ◌++◌, Err, inl, inr}
use Rattle.reply_text.specs.declared.faults.Fault.{Fault}
use Rattle.reply_text.specs.declared.faults.Fault.TheVariants.{UnknownName, TopologyMismatch, NotClosed, DimMismatch, TooManyDims, NoPoint, TooManyNames, NotNested}
use Rattle.line_values.specs.declared.refusal.StepErr.{StepErr}
use Rattle.line_values.specs.declared.refusal.StepErr.TheVariants as err
use Rattle.line_values.specs.Order.{Conditions, IsFirstOf, NoneOf, IsFirst, Passes}
use Rattle.line_values.specs.Texts.{text_order, IsTextRefusal}
use Rattle.line_values.specs.Meaning.{Meaning}
use Rattle.line_values.specs.Performed.{IsPerformed}

-- ---- lists of faults
first_in : (fs gs : List Fault) (holds : Conditions) (f : Fault) → IsFirstOf fs holds f → IsFirstOf (fs ++ gs) holds f
first_in [] gs holds f is = absurd is
first_in (x ∷ fs) gs holds f (inl is) = inl is
first_in (x ∷ fs) gs holds f (inr is) = inr (is.0, first_in fs gs holds f is.1)

first_behind : (fs gs : List Fault) (holds : Conditions) (f : Fault) → NoneOf fs holds → IsFirstOf gs holds f → IsFirstOf (fs ++ gs) holds f
first_behind [] gs holds f none is = is
first_behind (x ∷ fs) gs holds f none is = inr (none.0, first_behind fs gs holds f none.1 is)

none_of_both : (fs gs : List Fault) (holds : Conditions) → NoneOf fs holds → NoneOf gs holds → NoneOf (fs ++ gs) holds
none_of_both [] gs holds none others = others
none_of_both (x ∷ fs) gs holds none others = (none.0, none_of_both fs gs holds none.1 others)

-- ---- the faults before those of a text, and behind them
abbrev pub early : List Fault
early = UnknownName ∷ TopologyMismatch ∷ NotClosed ∷ DimMismatch ∷ TooManyDims ∷ []

abbrev pub late : List Fault
late = NoPoint ∷ TooManyNames ∷ NotNested ∷ []

-- the text is refused
pub refused_by_text : {A : Type 0} (m : Meaning A) (e : StepErr) → NoneOf early m.conditions → IsTextRefusal m.conditions e → IsPerformed m (Err e)
refused_by_text m (err.Input f) before is = first_behind early (text_order ++ late) m.conditions f before (first_in text_order late m.conditions f is)
refused_by_text m (err.Overflow over) before is = absurd is
refused_by_text m err.Memory before is = tt

-- a fault behind the text's
pub refused_late : (holds : Conditions) (f : Fault) → NoneOf early holds → NoneOf text_order holds → IsFirstOf late holds f → IsFirst holds f
refused_late holds f before none is = first_behind early (text_order ++ late) holds f before (first_behind text_order late holds f none is)

-- no fault
pub all_pass : (holds : Conditions) → NoneOf early holds → NoneOf text_order holds → NoneOf late holds → Passes holds
all_pass holds before none behind = none_of_both early (text_order ++ late) holds before (none_of_both text_order late holds none behind)
