-- Sharing sheets as words: what each word must be in its place, and which sheet the words mean. Assumes nothing.
use Rattle.std.specs.Prelude.{◌≡◌, ℕ, zero, suc, ◌+◌, ◌*◌, ◌/◌, ◌%◌, ◌^◌, ◌<◌, Bool, not, ◌&&◌, List, [], ◌∷◌, ◌++◌, map, length, Some, None, Ok, Err, Option, Result, nat_le}
use Rattle.std.specs.List.{AllByRecursion}
use Rattle.base.specs.Words.{kind, payload, word}
use Rattle.base.specs.Loading.{or_refuse}
use Rattle.base.specs.declared.words.Kind.{Kind}
use Rattle.base.specs.declared.words.Kind.TheVariants.{Head, Positive, Negative, Member, TrueNode, FalseNode, Link, Opening}
use Rattle.base.specs.declared.misfit.Misfit.{Misfit}
use Rattle.base.specs.declared.misfit.Misfit.TheVariants.{NoForm, OutOfRange, PastLimit}
use Rattle.base.specs.declared.refusal.Refusal.{Refusal}
use Rattle.base.specs.declared.refusal.Refusal.TheVariants as refusal
use Rattle.rules.specs.Growing.{cause_if, names}
use Rattle.sharing.specs.Limits.{max_heads, max_jobs, count_bits, ink_bits}
use Rattle.sharing.specs.Sheets.{Sheet, Limited, sheet_of}
use Rattle.sharing.specs.declared.sheet.Job.{Job}
use Rattle.sharing.specs.declared.sheet.SharingSheet.{SharingSheet}
use Rattle.sharing.specs.declared.reading.Counts.{Counts}

-- a sheet as words: its heads in bits 27 to 14 of the opening word, its jobs in bits 13 to 0
abbrev pub opening_word : Sheet → ℕ
opening_word S = word Opening (S.heads * 2 ^ count_bits + length S.jobs)

-- a job: its ink in bits 23 to 8, its heads in bits 7 to 0
abbrev pub job_word : Job → ℕ
job_word job = word Member (job.ink * 2 ^ max_heads + job.heads)

abbrev pub sheet_words : Sheet → List ℕ
sheet_words S = opening_word S ∷ map job_word S.jobs

-- a job that may go to none but the first H heads
pub record JobOver (H : ℕ) (job : Job) : Type 0 where
  pub on_heads : job.heads < 2 ^ H
  pub inked : job.ink < 2 ^ ink_bits

-- the words are those of a sheet within the limits
pub record IsSheet (S : Sheet) (ws : List ℕ) : Type 0 where
  pub limited : Limited S
  pub over : AllByRecursion (JobOver S.heads) S.jobs
  pub encoded : ws ≡ sheet_words S

-- the counts in the payload of an opening word
abbrev pub counts_in : ℕ → Counts
counts_in p = record { heads = p / 2 ^ count_bits % 2 ^ count_bits; jobs = p % 2 ^ count_bits }

abbrev pub in_range : Counts → Bool
in_range c = names max_heads c.heads && nat_le c.jobs max_jobs

-- why a word does not fit as the opening word
abbrev pub opening_misfit : Kind → ℕ → Option Misfit
opening_misfit Head p = Some NoForm
opening_misfit Positive p = Some NoForm
opening_misfit Negative p = Some NoForm
opening_misfit Member p = Some NoForm
opening_misfit TrueNode p = Some NoForm
opening_misfit FalseNode p = Some NoForm
opening_misfit Link p = Some NoForm
opening_misfit Opening p = cause_if (not (in_range (counts_in p))) PastLimit (cause_if (nat_le (2 ^ (count_bits + count_bits)) p) NoForm None)

-- the job in the payload of a word that fits as a job
abbrev pub job_in : ℕ → Job
job_in p = record { heads = p % 2 ^ max_heads; ink = p / 2 ^ max_heads }

-- why a word does not fit as a job on H heads
abbrev pub job_misfit : ℕ → Kind → ℕ → Option Misfit
job_misfit H Head p = Some NoForm
job_misfit H Positive p = Some NoForm
job_misfit H Negative p = Some NoForm
job_misfit H Member p = cause_if (nat_le (2 ^ (ink_bits + max_heads)) p) NoForm (cause_if (nat_le (2 ^ H) (job_in p).heads) OutOfRange None)
job_misfit H TrueNode p = Some NoForm
job_misfit H FalseNode p = Some NoForm
job_misfit H Link p = Some NoForm
job_misfit H Opening p = Some NoForm

abbrev pub with_job : Sheet → Job → Sheet
with_job S job = record { heads = S.heads; jobs = S.jobs ++ job ∷ [] }

-- the words behind those of S, from a place on, where so many jobs are left
unfoldable pub read_jobs : ℕ → Sheet → ℕ → List ℕ → Result Sheet Refusal
read_jobs zero S place [] = Ok S
read_jobs zero S place (w ∷ ws) = Err (refusal.NoForm place)
read_jobs (suc left) S place [] = Err (refusal.NoForm place)
read_jobs (suc left) S place (w ∷ ws) = or_refuse (job_misfit S.heads (kind w) (payload w)) place (read_jobs left (with_job S (job_in (payload w))) (suc place) ws)

abbrev pub bare : ℕ → Sheet
bare H = record { heads = H; jobs = [] }

-- the sheet of the words, or the refusal of the first word at fault
abbrev pub sheet_of_words : List ℕ → Result Sheet Refusal
sheet_of_words [] = Err (refusal.NoForm 0)
sheet_of_words (w ∷ ws) =
    or_refuse (opening_misfit (kind w) (payload w)) 0 (read_jobs (counts_in (payload w)).jobs (bare (counts_in (payload w)).heads) 1 ws)

-- what a reader of words answers
abbrev pub SheetRead : Result Sheet Refusal → Result SharingSheet Refusal → Type 0
SheetRead read (Ok s) = read ≡ Ok (sheet_of s)
SheetRead read (Err f) = read ≡ Err f

-- what loading answers, and what stands afterwards
abbrev pub SheetLoaded : Result Sheet Refusal → SharingSheet → Result (Unit {0}) Refusal → SharingSheet → Type 0
SheetLoaded read before (Ok done) after = read ≡ Ok (sheet_of after)
SheetLoaded read before (Err f) after = (read ≡ Err f) × (after ≡ before)
