use Rattle.std.specs.Prelude.{◌≡◌, ℕ, ◌≤◌, List, [], ◌∷◌, length, true, codes}
use Rattle.plain_text.specs.Digits.{is_nat, number}
use Rattle.cdd_reading.specs.declared.format.Format.TheVariants.{Ine, Ext}
use Rattle.job_words.specs.declared.job.Job.{Job}
use Rattle.job_words.specs.declared.job.Job.TheVariants.{Run, Convert, Sample}

-- the word is one to four decimal digits, and spells this number, at most 1,000
pub record SpellsSize (word : List ℕ) (n : ℕ) : Type 0 where
  pub digits : is_nat word ≡ true
  pub few : length word ≤ 4
  pub value : n ≡ number word
  pub small : n ≤ 1000

-- the words ask for the job
abbrev pub IsAskedBy : List (List ℕ) → Job → Type 0
IsAskedBy words Run = words ≡ codes "run" ∷ []
IsAskedBy words (Convert Ine) = words ≡ codes "ine2ext" ∷ []
IsAskedBy words (Convert Ext) = words ≡ codes "ext2ine" ∷ []
IsAskedBy words (Sample n) =
    (word : List ℕ) × (words ≡ codes "sample" ∷ word ∷ []) × SpellsSize word n
