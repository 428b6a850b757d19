-- What reading and writing a job file answer, and what they leave in the lent lists, on the whole input.
use Rattle.std.specs.Prelude.{ℕ, cond, List, [], ◌∷◌, ◌++◌, length, Result}
use Rattle.chain.specs.declared.Refusal.{Refusal}
use Rattle.chain.specs.Numbers.{answered}
use Rattle.chain.specs.Job.{Edition, Job}
use Rattle.chain.specs.Refusal.{Test, length_test, first_refusal, refusal}
use Rattle.refusals.specs.Inputs.{bytes_needed, write_inputs}
use Rattle.refusals.specs.Answers.{Said, answer_said, lent_after}
use Rattle.jobs.specs.JobFile.{job_bytes}
use Rattle.jobs.specs.Parse.{second_in, startup_in, speeds_of, holds_of, weights_of, file_tests}
use Rattle.jobs.specs.declared.JobRead.{JobRead}

-- What is read of a file: whether it is of the second edition, the start-up work that counts, P and N.
abbrev pub read_in : List ℕ → JobRead
read_in file =
    record { second = second_in file; startup = startup_in file; processors = length (speeds_of file); tasks = length (weights_of file) }

-- Reading says the edition, 1 or 2, the start-up work that counts, P and N.
abbrev pub read_values : JobRead → List ℕ
read_values read = cond read.second 2 1 ∷ read.startup ∷ read.processors ∷ read.tasks ∷ []

abbrev pub read_said : Result JobRead Refusal → Said
read_said = answer_said read_values

-- Reading. Scope 8.7: "on reading, P speeds and N weights; P holds, on reading and wherever a job comes as lists". The lists of speeds,
-- holds and weights that are lent have these lengths.
unfoldable pub read_tests : List ℕ → ℕ → ℕ → ℕ → List Test
read_tests file lent_speeds lent_holds lent_weights =
    file_tests file
    ++ length_test (length (weights_of file)) lent_weights ∷ length_test (length (speeds_of file)) lent_speeds ∷ length_test (length (holds_of file)) lent_holds ∷ []

unfoldable pub read_refusal : List ℕ → ℕ → ℕ → ℕ → ℕ
read_refusal file lent_speeds lent_holds lent_weights = first_refusal (read_tests file lent_speeds lent_holds lent_weights)

-- What is read, or the refusal.
unfoldable pub read_answer : List ℕ → ℕ → ℕ → ℕ → Result JobRead Refusal
read_answer file lent_speeds lent_holds lent_weights = answered (read_refusal file lent_speeds lent_holds lent_weights) (read_in file)

-- The list of speeds, that of holds and that of weights after reading.
unfoldable pub read_speeds : List ℕ → List ℕ → List ℕ → List ℕ → List ℕ
read_speeds file speeds holds weights = lent_after (read_refusal file (length speeds) (length holds) (length weights)) (speeds_of file) speeds

unfoldable pub read_holds : List ℕ → List ℕ → List ℕ → List ℕ → List ℕ
read_holds file speeds holds weights = lent_after (read_refusal file (length speeds) (length holds) (length weights)) (holds_of file) holds

unfoldable pub read_weights : List ℕ → List ℕ → List ℕ → List ℕ → List ℕ
read_weights file speeds holds weights = lent_after (read_refusal file (length speeds) (length holds) (length weights)) (weights_of file) weights

-- Writing: the count of bytes, or the refusal.
unfoldable pub write_answer : Edition → Job → ℕ → Result ℕ Refusal
write_answer edition job lent = answered (refusal job (write_inputs edition job lent)) (bytes_needed edition job)

-- The buffer after writing.
unfoldable pub write_bytes : Edition → Job → List ℕ → List ℕ
write_bytes edition job file = lent_after (refusal job (write_inputs edition job (length file))) (job_bytes edition job) file
