-- Sharing sheets: the heads, the jobs with their inks, and the rules that they mean. Assumes nothing.
use Rattle.std.specs.Prelude.{ℕ, ◌+◌, ◌-◌, ◌*◌, ◌/◌, ◌%◌, ◌^◌, ◌≤◌, Bool, not, ◌&&◌, ◌||◌, List, [], ◌++◌, map, length, take, ◌==◌, slice_index_or}
use Rattle.std.specs.List.{range_with_len}
use Rattle.sets.specs.Sets.{rising}
use Rattle.rules.specs.Program.{Rule, Program}
use Rattle.sharing.specs.Limits.{max_heads, max_jobs}
use Rattle.sharing.specs.declared.sheet.Job.{Job}
use Rattle.sharing.specs.declared.sheet.SharingSheet.{SharingSheet}

-- so many heads, and the jobs in their order; both count from 0
pub record Sheet : Type 0 where
  pub heads : ℕ
  pub jobs : List Job

-- what every sheet keeps
pub record Limited (S : Sheet) : Type 0 where
  pub some_heads : 1 ≤ S.heads
  pub few_heads : S.heads ≤ max_heads
  pub few_jobs : length S.jobs ≤ max_jobs

-- the sheet that a value of the code holds
abbrev pub sheet_of : SharingSheet → Sheet
sheet_of s = record { heads = s.heads; jobs = take s.count s.jobs }

abbrev pub no_job : Job
no_job = record { heads = 0; ink = 0 }

abbrev pub job_at : Sheet → ℕ → Job
job_at S j = slice_index_or S.jobs j no_job

-- bit h of its heads says that a job may go to head h
abbrev pub may_go : Job → ℕ → Bool
may_go job h = job.heads / 2 ^ h % 2 == 1

-- the atoms from 1 to this number are the pairs of a job and a head, job by job and head by head
abbrev pub pair_count : Sheet → ℕ
pair_count S = length S.jobs * S.heads

-- the job of a pair, and its head
abbrev pub job_of : Sheet → ℕ → ℕ
job_of S a = (a - 1) / S.heads

abbrev pub head_of : Sheet → ℕ → ℕ
head_of S a = (a - 1) % S.heads

abbrev pub ink_of : Sheet → ℕ → ℕ
ink_of S a = (job_at S (job_of S a)).ink

-- the job of the pair may go to its head
unfoldable pub allowed : Sheet → ℕ → Bool
allowed S a = may_go (job_at S (job_of S a)) (head_of S a)

abbrev pub same_job : Sheet → ℕ → ℕ → Bool
same_job S a b = job_of S a == job_of S b

abbrev pub same_head : Sheet → ℕ → ℕ → Bool
same_head S a b = head_of S a == head_of S b

abbrev pub same_ink : Sheet → ℕ → ℕ → Bool
same_ink S a b = ink_of S a == ink_of S b

-- pair b is allowed and excludes pair a: the same job on another head, or a job of another ink on the same head
unfoldable pub excludes : Sheet → ℕ → ℕ → Bool
excludes S a b = allowed S b && ((same_job S a b && not (same_head S a b)) || (same_head S a b && not (same_ink S a b)))

-- pair b is allowed and takes job j off its waiting
unfoldable pub serves : Sheet → ℕ → ℕ → Bool
serves S j b = allowed S b && job_of S b == j

-- an allowed pair runs unless an allowed pair that excludes it does
abbrev pub pair_rule : Sheet → ℕ → Rule
pair_rule S a = record { head = a; pos = []; neg = rising (excludes S a) (pair_count S) }

-- a job waits unless it runs on one of its heads
abbrev pub waiting_rule : Sheet → ℕ → Rule
waiting_rule S j = record { head = pair_count S + j + 1; pos = []; neg = rising (serves S j) (pair_count S) }

-- the rules of the allowed pairs, rising, and then those of the waiting jobs
abbrev pub sheet_program : Sheet → Program
sheet_program S = record {
  atoms = pair_count S + length S.jobs;
  rules = map (pair_rule S) (rising (allowed S) (pair_count S)) ++ map (waiting_rule S) (range_with_len 0 (length S.jobs));
}
