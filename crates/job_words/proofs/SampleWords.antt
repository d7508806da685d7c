-- The words that ask for a sample.
use Rattle.std.proofs.Common.{◌≡◌, ℕ, List, [], ◌∷◌, length, ap, sym, ◌∙◌, subst, arith, Bool, true, false}
use Rattle.std.specs.Prelude.{Option, None, Some, MatchOption, IsTrue, ◌↔◌, slice_index_or, codes}
use Rattle.std.specs.Bool.{Decides}
use Rattle.cdd_reading.specs.declared.format.Format.TheVariants.{Ine, Ext}
use Rattle.job_words.specs.Words.{SpellsSize, IsAskedBy}
use Rattle.job_words.specs.declared.job.Job.{Job}
use Rattle.job_words.specs.declared.job.Job.TheVariants as job

abbrev pub second : List (List ℕ) → List ℕ
second (word ∷ other ∷ words) = other
second words = []

-- of two words, a test of the first
pub first_of_two : (first : List ℕ) (words : List (List ℕ)) (word : List ℕ) (r : Bool) → length words ≡ 2 → word ≡ slice_index_or words 0 [] → Decides r (word ≡ first) → Decides r ((length words ≡ 2) × (slice_index_or words 0 [] ≡ first))
first_of_two first words word r two e d = (λ t. (two, sym e ∙ d.0 t), λ q. d.1 (e ∙ q.1))

-- a test that failed
pub not_so : (r : Bool) (P : Type 0) → IsTrue r ↔ P → r ≡ false → P → ⊥
not_so r P d e p = let never : true ≡ false = sym (d.1 p) ∙ e in cc

abbrev MaySpell : List ℕ → Option ℕ → Type 0
MaySpell word found = MatchOption found ((n : ℕ) → ¬ (SpellsSize word n)) (λ n. SpellsSize word n)

abbrev MayAsk : List (List ℕ) → Option ℕ → Type 0
MayAsk words found = MatchOption found ((n : ℕ) → ¬ (IsAskedBy words (job.Sample n))) (λ n. IsAskedBy words (job.Sample n))

-- `sample` and a word that may spell a number
pub sample_asked : (words : List (List ℕ)) (word : List ℕ) (found : Option ℕ) → (length words ≡ 2) × (slice_index_or words 0 [] ≡ codes "sample") → word ≡ slice_index_or words 1 [] → MaySpell word found → MayAsk words found
sample_asked [] word found h e is = absurd (omega (arith, h.0))
sample_asked (a ∷ []) word found h e is = absurd (omega (arith, h.0))
sample_asked (a ∷ b ∷ []) word (Some n) h e is = (word, ap (λ (x : List ℕ). x ∷ b ∷ []) h.1 ∙ ap (λ (y : List ℕ). codes "sample" ∷ y ∷ []) (sym e), is)
sample_asked (a ∷ b ∷ []) word None h e is = λ n asked. is n (subst (λ (x : List ℕ). SpellsSize x n) (sym (e ∙ ap second asked.1)) asked.2)
sample_asked (a ∷ b ∷ c ∷ words) word found h e is = absurd (omega (arith, h.0))

-- other words
pub no_sample : (words : List (List ℕ)) → ¬ ((length words ≡ 2) × (slice_index_or words 0 [] ≡ codes "sample")) → (n : ℕ) → ¬ (IsAskedBy words (job.Sample n))
no_sample words other n asked = other (ap (λ (ws : List (List ℕ)). length ws) asked.1, ap (λ (ws : List (List ℕ)). slice_index_or ws 0 []) asked.1)

-- words that ask for no kind of job
pub no_job : (words : List (List ℕ)) → ¬ (IsAskedBy words job.Run) → ¬ (IsAskedBy words (job.Convert Ine)) → ¬ (IsAskedBy words (job.Convert Ext)) → ((n : ℕ) → ¬ (IsAskedBy words (job.Sample n))) → (task : Job) → ¬ (IsAskedBy words task)
no_job words run ine ext sample job.Run asked = run asked
no_job words run ine ext sample (job.Convert Ine) asked = ine asked
no_job words run ine ext sample (job.Convert Ext) asked = ext asked
no_job words run ine ext sample (job.Sample n) asked = sample n asked
