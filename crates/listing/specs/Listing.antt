-- What `strips` writes: from the bytes of a job file to the bytes of its listing. Scope, section 9.
use Rattle.std.specs.Prelude.{ℕ, ◌+◌, ◌*◌, cond, List, [], ◌∷◌, ◌++◌, eqb, take}
use Rattle.chain.specs.declared.Method.{Method}
use Rattle.chain.specs.declared.Method.TheVariants.{Table, Bidding, Bisection, Nicol}
use Rattle.chain.specs.Limits.{max_processors, max_tasks}
use Rattle.chain.specs.Job.{Edition, Job, tasks, processors, total_weight, held}
use Rattle.chain.specs.Plan.{plan_of}
use Rattle.chain.specs.Refusal.{Test, enough_test, first_refusal}
use Rattle.refusals.specs.Inputs.{record_size}
use Rattle.chain.specs.Numbers.{number_of}
use Rattle.jobs.specs.Parse.{edition_in, job_in, file_tests}
use Rattle.planner.specs.declared.Figures.{Figures}
use Rattle.planner.specs.Answers.{plan_figures}
use Rattle.texts.specs.Text.{text, decimal, field, labelled, refusal_line}

-- The fields of a list, each behind its space.
unfoldable pub fields : List ℕ → List ℕ
fields [] = []
fields (n ∷ ns) = field n ++ fields ns

-- Scope 9.2: "The first line is `tiles`, N, `machines`, P, `total`, Wtot." Scope 9.4: "each line ends with one line
-- feed".
unfoldable pub counts_line : Job → List ℕ
counts_line job =
    labelled "tiles" (tasks job) ++ labelled " machines" (processors job) ++ labelled " total" (total_weight job) ++ text "\n"

-- Scope 9.3: "method, count, allowance, the bottleneck's load and speed, imbalance, separators": those before the
-- separators,
unfoldable pub figures_text : ℕ → Figures → List ℕ
figures_text method f =
    decimal method ++ field f.count ++ field f.allowance ++ field f.bottleneck.load ++ field f.bottleneck.speed
    ++ field f.imbalance

-- and the whole line.
unfoldable pub plan_line : ℕ → Figures → List ℕ → List ℕ
plan_line method f separators = figures_text method f ++ fields separators ++ text "\n"

-- The line of a method: its plan of the job, which is of this edition.
unfoldable pub method_line : Edition → Method → Job → List ℕ
method_line edition method job = plan_line (number_of method) (plan_figures edition method job) (plan_of job)

-- The line of method 4. Scope 18.21: "The listing of a job with holds leaves out the line of method 4."
unfoldable pub last_line : Edition → Job → List ℕ
last_line edition job = cond (held job) [] (method_line edition Nicol job)

-- Scope 9.3: "Then there is a line for each method, in the order of their numbers".
unfoldable pub job_listing : Edition → Job → List ℕ
job_listing edition job =
    counts_line job ++ method_line edition Table job ++ method_line edition Bidding job ++ method_line edition Bisection job
    ++ last_line edition job

-- By the number of the refusal: the listing of the job, or that number.
unfoldable pub listing_by : ℕ → Edition → Job → List ℕ
listing_by number edition job = cond (eqb number 0) (job_listing edition job) (refusal_line number)

-- The same of a file. A job that has passed is planned by every method that has a line (`read_planned`).
unfoldable pub listing_of : ℕ → List ℕ → List ℕ
listing_of number file = listing_by number (edition_in file) (job_in file)

-- The tests that a file is listed by: its own, then that of its holds,
unfoldable pub listed_tests : List ℕ → List Test
listed_tests file = file_tests file ++ enough_test (job_in file) ∷ []

-- and the number that it is refused with, 0 where it is listed.
unfoldable pub listed_refusal : List ℕ → ℕ
listed_refusal file = first_refusal (listed_tests file)

-- Scope 9.6: "at most one record more than the longest job has", which is of the second edition: with so many
-- machines at most,
abbrev pub intake_for : ℕ → ℕ
intake_for limit = record_size * (limit + max_tasks + 2)

-- and with ours.
unfoldable pub intake : ℕ
intake = intake_for max_processors

-- The listing of a file. Scope 9.6: "judges a longer file by those bytes".
unfoldable pub listing : List ℕ → List ℕ
listing file = listing_of (listed_refusal (take intake file)) (take intake file)
