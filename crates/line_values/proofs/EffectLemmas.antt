-- What came of a command, from what came of what it makes or says.
use Rattle.std.proofs.Common.{◌≡◌, ℕ, List, Bool, Result, Ok, Err, Option, Some, refl, sym, subst}
use Rattle.std.specs.Prelude.{MatchOption}
use Rattle.line_values.specs.declared.refusal.StepErr.{StepErr}
use Rattle.line_values.specs.declared.refusal.StepErr.TheVariants as err
use Rattle.line_values.specs.Meaning.{Meaning, on_one, on_two}
use Rattle.line_values.specs.Performed.{IsPerformed}
use Rattle.line_values.specs.declared.change.Change.{Change}
use Rattle.line_values.specs.Effects.{puts, tells, placed, replied}

-- what came of a command that is this one
pub performed_as : {C A : Type 0} (means : C → Meaning A) (command spelled : C) (result : Result A StepErr) → command ≡ spelled → IsPerformed (means spelled) result → IsPerformed (means command) result
performed_as {C} means command spelled result e is = subst (λ (c : C). IsPerformed (means c) result) (sym e) is

-- what came of a command of which one or two operands were looked up
pub on_found : {A B : Type 0} (m : B → Meaning A) (result : Result A StepErr) {o u : Option B} → o ≡ u → IsPerformed (on_one o m) result → IsPerformed (on_one u m) result
on_found {A} {B} m result e is = subst (λ (x : Option B). IsPerformed (on_one x m) result) e is

pub on_two_found : {A B C : Type 0} (m : B → C → Meaning A) (result : Result A StepErr) {o u : Option B} {v w : Option C} → o ≡ u → v ≡ w → IsPerformed (on_two o v m) result → IsPerformed (on_two u w m) result
on_two_found {A} {B} {C} m result {o} {u} {v} {w} e f is = subst (λ (x : Option C). IsPerformed (on_two u x m) result) f (subst (λ (x : Option B). IsPerformed (on_two x v m) result) e is)

-- the entry of a kind that was made is put under the name
module _ {A E : Type 0} (make : A → E) (kind : Option E → Option A) (found : (a : A) → kind (Some (make a)) ≡ Some a) (out : List ℕ) where
  placed_performed : (m : Meaning A) (made : Result A StepErr) → IsPerformed m made → IsPerformed (puts kind out m) (placed make out made)
  placed_performed m (Ok a) is = (is.0, (refl, subst (λ (o : Option A). MatchOption o ⊥ m.does) (sym (found a)) is.1))
  placed_performed m (Err (err.Input f)) is = is
  placed_performed m (Err (err.Overflow over)) is = is
  placed_performed m (Err err.Memory) is = tt

  put_performed : (m : Meaning A) (made : Result A StepErr) (result : Result (Change E) StepErr) → result ≡ placed make out made → IsPerformed m made → IsPerformed (puts kind out m) result
  put_performed m made result e is = subst (λ (r : Result (Change E) StepErr). IsPerformed (puts kind out m) r) (sym e) (placed_performed m made is)

  -- by a command without operands, with one or with two, where the table is full or not
  pub put_none : (m : Bool → Meaning A) (made : Result A StepErr) {full has_none : Bool} {result : Result (Change E) StepErr} → full ≡ has_none → result ≡ placed make out made → IsPerformed (m full) made → IsPerformed (puts kind out (m has_none)) result
  put_none m made {full} {has_none} {result} e put is = put_performed (m has_none) made result put (subst (λ (b : Bool). IsPerformed (m b) made) e is)

  pub put_found : {B : Type 0} (m : B → Meaning A) (made : Result A StepErr) {o u : Option B} {result : Result (Change E) StepErr} → o ≡ u → result ≡ placed make out made → IsPerformed (on_one o m) made → IsPerformed (puts kind out (on_one u m)) result
  put_found {B} m made {o} {u} {result} f put is = put_performed (on_one u m) made result put (subst (λ (x : Option B). IsPerformed (on_one x m) made) f is)

  pub put_one : {B : Type 0} (m : Bool → B → Meaning A) (made : Result A StepErr) {full has_none : Bool} {o u : Option B} {result : Result (Change E) StepErr} → full ≡ has_none → o ≡ u → result ≡ placed make out made → IsPerformed (on_one o (m full)) made → IsPerformed (puts kind out (on_one u (m has_none))) result
  put_one {B} m made {full} {has_none} {o} {u} {result} e f put is =
      put_performed (on_one u (m has_none)) made result put (subst (λ (b : Bool). IsPerformed (on_one u (m b)) made) e (subst (λ (x : Option B). IsPerformed (on_one x (m full)) made) f is))

  pub put_two : {B C : Type 0} (m : Bool → B → C → Meaning A) (made : Result A StepErr) {full has_none : Bool} {o u : Option B} {v w : Option C} {result : Result (Change E) StepErr} → full ≡ has_none → o ≡ u → v ≡ w → result ≡ placed make out made → IsPerformed (on_two o v (m full)) made → IsPerformed (puts kind out (on_two u w (m has_none))) result
  put_two {B} {C} m made {full} {has_none} {o} {u} {v} {w} {result} e f h put is =
      put_performed (on_two u w (m has_none)) made result put (subst (λ (b : Bool). IsPerformed (on_two u w (m b)) made) e
      (subst (λ (x : Option C). IsPerformed (on_two u x (m full)) made) h (subst (λ (x : Option B). IsPerformed (on_two x v (m full)) made) f is)))

-- the text of a question is the reply
replied_performed : (E : Type 0) (m : Meaning (List ℕ)) (told : Result (List ℕ) StepErr) → IsPerformed m told → IsPerformed (tells {E = E} m) (replied told)
replied_performed E m (Ok text) is = is
replied_performed E m (Err (err.Input f)) is = is
replied_performed E m (Err (err.Overflow over)) is = is
replied_performed E m (Err err.Memory) is = tt

module _ {E : Type 0} where
  pub say_none : (m : Meaning (List ℕ)) (told : Result (List ℕ) StepErr) {result : Result (Change E) StepErr} → result ≡ replied told → IsPerformed m told → IsPerformed (tells m) result
  say_none m told {result} e is = subst (λ (r : Result (Change E) StepErr). IsPerformed (tells m) r) (sym e) (replied_performed E m told is)

  pub say_one : {B : Type 0} (m : B → Meaning (List ℕ)) (told : Result (List ℕ) StepErr) {o u : Option B} {result : Result (Change E) StepErr} → o ≡ u → result ≡ replied told → IsPerformed (on_one o m) told → IsPerformed (tells (on_one u m)) result
  say_one {B} m told {o} {u} f e is = say_none (on_one u m) told e (subst (λ (x : Option B). IsPerformed (on_one x m) told) f is)

  pub say_two : {B C : Type 0} (m : B → C → Meaning (List ℕ)) (told : Result (List ℕ) StepErr) {o u : Option B} {v w : Option C} {result : Result (Change E) StepErr} → o ≡ u → v ≡ w → result ≡ replied told → IsPerformed (on_two o v m) told → IsPerformed (tells (on_two u w m)) result
  say_two {B} {C} m told {o} {u} {v} {w} f h e is = say_none (on_two u w m) told e (subst (λ (x : Option C). IsPerformed (on_two u x m) told) h (subst (λ (x : Option B). IsPerformed (on_two x v m) told) f is))
