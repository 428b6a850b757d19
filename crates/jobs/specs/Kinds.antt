-- The kinds of records, and their numbers. Scope 7.3: "Byte 0 of a record is its kind".
use Rattle.std.specs.Prelude.{ℕ, cond, eqb, Result, Ok, Err}
use Rattle.chain.specs.declared.Refusal.{Refusal}
use Rattle.chain.specs.declared.Refusal.TheVariants.{UnknownRecord}
use Rattle.jobs.specs.JobFile.{processor_kind, task_kind, startup_kind}
use Rattle.jobs.specs.declared.Kind.{Kind}
use Rattle.jobs.specs.declared.Kind.TheVariants.{Processor, Task, Startup}

-- The number of a kind.
unfoldable pub kind_number : Kind → ℕ
kind_number Processor = processor_kind
kind_number Task = task_kind
kind_number Startup = startup_kind

-- The kind with this number, refusal 3 where there is none.
unfoldable pub kind_of : ℕ → Result Kind Refusal
kind_of n =
    cond (eqb n processor_kind) (Ok Processor)
    (cond (eqb n task_kind) (Ok Task) (cond (eqb n startup_kind) (Ok Startup) (Err UnknownRecord)))
