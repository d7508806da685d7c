-- What is written to a script and to a file.
use Rattle.std.specs.Prelude.{◌≡◌, ◌≢◌, ◌⊎◌, ℕ, List, All, [], ◌∷◌, ◌++◌, Option, None, Some, Bool, not, codes, take, ⊤}
use Rattle.std.specs.List.{concat, flat_map}
use Rattle.std.specs.Str.Lines.{lines}
use Rattle.cdd_reading.specs.Tokens.{tokens}
use Rattle.cdd_reading.specs.Files.{IsEnd}
use Rattle.script_text.specs.declared.command.Command.{Command}
use Rattle.script_text.specs.declared.command.Command.TheVariants.{Read}
use Rattle.soundness.specs.Points.{PointSet}
use Rattle.soundness.specs.Values.{Polyhedron, Names}
use Rattle.soundness.specs.Answers.{as_line}
use Rattle.soundness.specs.Files.{IsRead, TellsFile}
use Rattle.soundness.specs.Commands.{Makes, Does}
use Rattle.soundness.specs.TextsLines.{Spells}

-- a file that `read` has begun: the name of its set, whether it lists generators, and its lines so
-- far
pub record OpenFile : Type 0 where
  pub name : List ℕ
  pub ext : Bool
  pub text : List ℕ

-- between two lines: what the names stand for, and the file that is open, if one is
pub record State : Type 0 where
  pub names : Names
  pub file : Option OpenFile

-- ---- one line
-- one line, without a line feed but at its end, which begins with `fault ` or with `overflow `
pub record IsRefusal (reply : List ℕ) : Type 0 where
  pub rest : List ℕ
  pub one_line : All (λ b. b ≢ 10) rest
  pub said : (reply ≡ as_line (codes "fault " ++ rest))
      ⊎ (reply ≡ as_line (codes "overflow " ++ rest))

-- where a file is open only its last line is refused
abbrev pub MayBeRefused : Option OpenFile → List ℕ → Type 0
MayBeRefused None text = ⊤
MayBeRefused (Some file) text = IsEnd text

-- a refused line changes nothing; no file is open after it
abbrev pub IsRefused : State → List ℕ → State → Type 0
IsRefused old reply new = IsRefusal reply × (new ≡ record { names = old.names; file = None })

-- the file that the command begins
abbrev pub file_begun : Command → Option OpenFile
file_begun (Read out ext) = Some (record { name = out; ext = ext; text = [] })
file_begun other = None

-- the line spells a command, which does what it says
pub record IsPerformed (old : Names) (text : List ℕ) (reply : List ℕ) (new : State) : Type 0 where
  pub command : Command
  pub spelled : Spells text command
  pub does : Does command old reply new.names
  pub file : new.file ≡ file_begun command

-- the file with one line more, which ends with CR LF; of a line above the limit of 65,535 bytes
-- the first 65,536 are kept
abbrev pub with_line : OpenFile → List ℕ → OpenFile
with_line file text =
    record { name = file.name; ext = file.ext; text = file.text ++ take 65536 text ++ 13 ∷ 10 ∷ [] }

-- the line isn't the last of the open file: it has no reply
pub record IsLineOfFile (old : Names) (file : OpenFile) (text reply : List ℕ)
    (new : State) : Type 0 where
  pub unended : ¬ (IsEnd text)
  pub said : reply ≡ []
  pub state : new ≡ record { names = old; file = Some (with_line file text) }

-- the line is its last: the set of the file is put under its name
pub record IsEndOfFile (old : Names) (file : OpenFile) (text reply : List ℕ)
    (new : State) : Type 0 where
  pub ends : IsEnd text
  pub makes : Makes Polyhedron file.name (IsRead file.ext (with_line file text).text)
      old reply new.names
  pub shut : new.file ≡ None

-- what is replied to a line that isn't refused, where no file is open, or where one is
abbrev pub IsUnrefused : Names → Option OpenFile → List ℕ → List ℕ → State → Type 0
IsUnrefused old None text reply new = IsPerformed old text reply new
IsUnrefused old (Some file) text reply new =
    IsLineOfFile old file text reply new ⊎ IsEndOfFile old file text reply new

-- the reply to a line, and the state after it
abbrev pub IsReply : State → List ℕ → List ℕ → State → Type 0
IsReply old text reply new =
    (MayBeRefused old.file text × IsRefused old reply new)
    ⊎ IsUnrefused old.names old.file text reply new

-- ---- all lines
-- the end of a script has no reply, and a refusal where a file is still open
abbrev pub IsEndReply : Option OpenFile → List (List ℕ) → Type 0
IsEndReply None replies = replies ≡ []
IsEndReply (Some file) replies = (reply : List ℕ) × (replies ≡ reply ∷ []) × IsRefusal reply

-- the replies to lines, one after another, and to the end
abbrev pub AreReplies : State → List (List ℕ) → List (List ℕ) → Type 0
AreReplies old [] replies = IsEndReply old.file replies
AreReplies old (text ∷ texts) [] = ⊥
AreReplies old (text ∷ texts) (reply ∷ replies) =
    (new : State) × IsReply old text reply new × AreReplies new texts replies

-- what is written to a script: the replies to its lines; at first there is no name, and no file
pub record IsWrittenTo (script : List ℕ) (written : List ℕ) : Type 0 where
  pub replies : List (List ℕ)
  pub are : AreReplies (record { names = []; file = None }) (lines script) replies
  pub all : written ≡ concat replies

-- the file is read, no word behind it is `linearity`, and the other file of the same points is
-- written
pub record IsConversion (ext : Bool) (bytes written : List ℕ) : Type 0 where
  pub set : PointSet
  pub read : IsRead ext bytes set
  pub behind : All (λ w. w ≢ codes "linearity") (flat_map tokens read.file.behind)
  pub tells : TellsFile (not ext) set written

-- what is written to a file: a refusal, or such a file
abbrev pub IsConverted : Bool → List ℕ → List ℕ → Type 0
IsConverted ext bytes written = IsRefusal written ⊎ IsConversion ext bytes written
