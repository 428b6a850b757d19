-- What a job file is: the bytes of a job, as they are written. Scope, section 7. Nothing here reads.
use Rattle.std.specs.Prelude.{ℕ, suc, ◌<◌, ◌^◌, ◌≡◌, List, [], ◌∷◌, ◌++◌, length}
use Rattle.chain.specs.Job.{Edition, First, Second, Job, OfEdition, processors, hold_of, Valid}
use Rattle.fields.specs.Field.{field_bytes, half_bytes}

-- Scope 7.3: "1 for a machine, 2 for a tile"
abbrev pub processor_kind : ℕ
processor_kind = 1

abbrev pub task_kind : ℕ
task_kind = 2

-- Scope 17.9: "its kind is 3 and its value c"
abbrev pub startup_kind : ℕ
startup_kind = 3

-- Scope 7.3: "Byte 0 of a record is its kind". Scope 7.4: "Bytes 1 to 3 are zero, but bytes 2 and 3 of a machine are its hold". Scope 7.5: "Bytes 4 to 7
-- are the speed or the weight, or the start-up work." A record without a hold has 0 there.
unfoldable pub record_bytes : ℕ → ℕ → ℕ → List ℕ
record_bytes kind hold v = kind ∷ 0 ∷ (half_bytes hold ++ field_bytes v)

-- A record of this kind for each value, with its hold by its index. Scope 7.2: "with no header".
unfoldable pub records_bytes : ℕ → (ℕ → ℕ) → List ℕ → List ℕ
records_bytes kind hold [] = []
records_bytes kind hold (v ∷ vs) = record_bytes kind (hold 0) v ++ records_bytes kind (λ i. hold (suc i)) vs

-- No record has a hold.
abbrev pub no_hold : ℕ → ℕ
no_hold i = 0

-- Scope 17.9: "A job file of the second edition has one record more, in front: its kind is 3 and its value c."
unfoldable pub edition_bytes : Edition → List ℕ
edition_bytes First = []
edition_bytes (Second c) = record_bytes startup_kind 0 c

-- Scope 7.6: "All machines stand before all tiles."
unfoldable pub job_bytes : Edition → Job → List ℕ
job_bytes edition job =
    edition_bytes edition ++ (records_bytes processor_kind (hold_of job) job.speeds ++ records_bytes task_kind no_hold job.weights)

-- One hold for each processor, and no more of them. Scope 18.2: "A hold has 16 bits".
pub record ExactHolds (job : Job) : Type 0 where
  pub count : length job.holds ≡ processors job
  pub limit : (p : ℕ) → hold_of job p < 2 ^ 16

-- A job file: the bytes of some job of some edition, within the limits.
pub record JobFile (file : List ℕ) : Type 0 where
  pub edition : Edition
  pub job : Job
  pub of : OfEdition edition job
  pub valid : Valid job
  pub exact : ExactHolds job
  pub bytes : file ≡ job_bytes edition job
