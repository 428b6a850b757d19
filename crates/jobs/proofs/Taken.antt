-- What reading a file leaves, for callers that go on with the job that was read.
-- Assumes nothing.
use Prim.Native.Nat.{ℕ, zero, suc, ◌≤◌}
use mathlib.Core.Path.{◌≡◌, refl, sym, ap, ap₂, subst, ◌∙◌}
use mathlib.Core.List.{List, [], ◌∷◌, ◌++◌}
use native.Mathlib.Omega.{arith}
use lib.ListN.{length, take, drop, length-append}
use lib.Seq.{take_at}
use Rattle.std.specs.Prelude.{Result, Ok}
use Rattle.chain.specs.declared.Refusal.{Refusal}
use Rattle.chain.specs.Limits.{max_processors, max_tasks}
use Rattle.chain.specs.Job.{edition_of, job_of, Valid}
use Rattle.chain.specs.Numbers.{refused}
use Rattle.chain.specs.Refusal.{Test, length_test}
use Rattle.chain.proofs.Refusals.{first_refusal_before}
use Rattle.parts.specs.declared.job.ValidJob.{ValidJob}
use Rattle.parts.specs.Lent.{the, edition}
use Rattle.refusals.specs.Answers.{lent_after}
use Rattle.refusals.proofs.Lent.{lent_accepted}
use Rattle.parts.proofs.Lines.{edition_effective}
use Rattle.jobs.specs.declared.JobRead.{JobRead}
use Rattle.jobs.specs.Parse.{value_at, second_in, edition_in, startup_in, speeds_of, holds_of, weights_of, job_in, file_tests, file_refusal}
use Rattle.jobs.specs.Answers.{read_in, read_tests, read_refusal, read_answer, read_speeds, read_holds, read_weights}
use Rattle.jobs.proofs.Answered.{refused_answered}
use Rattle.jobs.proofs.Calls.{read_known, read_fits}
use Rattle.jobs.proofs.Reading.{holds-length, read_accepted, file_accepted}
use Rattle.jobs.proofs.RoundTrip.{accepted_valid}

-- What reading leaves: an accepted file's lists in front, beside what was read of it.
pub record Taken (file es hs ws : List ℕ) (read : JobRead) : Type 0 where
  pub accepted : file_refusal file ≡ 0
  pub edition : edition_of read.second read.startup ≡ edition_in file
  pub counts : read.startup ≡ startup_in file
  pub speeds : take read.processors es ≡ speeds_of file
  pub holds : take read.processors hs ≡ holds_of file
  pub weights : take read.tasks ws ≡ weights_of file
  pub few_speeds : read.processors ≤ length es
  pub few_holds : read.processors ≤ length hs
  pub few_weights : read.tasks ≤ length ws

module _ (file es hs ws : List ℕ) where
  number : ℕ
  number = read_refusal file (length es) (length hs) (length ws)

  abbrev lists : List Test
  lists =
      length_test (length (weights_of file)) (length ws) ∷ length_test (length (speeds_of file)) (length es) ∷ length_test (length (holds_of file)) (length hs) ∷ []

  pub read_taken : {es' hs' ws' : List ℕ} {read : JobRead} {r : Result JobRead Refusal} → r ≡ read_answer file (length es) (length hs) (length ws)
      → r ≡ Ok read → es' ≡ read_speeds file es hs ws → hs' ≡ read_holds file es hs ws → ws' ≡ read_weights file es hs ws → Taken file es' hs' ws' read
  unfolding read_speeds read_holds read_weights
  read_taken {es'} {hs'} {ws'} {read} a e f h g =
      record {
        accepted = file_accepted file es hs ws a e;
        edition = ap₂ edition_of is_second is_startup ∙ edition_effective (second_in file) (value_at file 0);
        counts = is_startup;
        speeds = ap (take read.processors) in_es ∙ take_at (speeds_of file) (drop (length (speeds_of file)) es) read.processors (sym is_p);
        holds = ap (take read.processors) in_hs ∙ take_at (holds_of file) (drop (length (holds_of file)) hs) read.processors (holds-length file ∙ sym is_p);
        weights = ap (take read.tasks) in_ws ∙ take_at (weights_of file) (drop (length (weights_of file)) ws) read.tasks (sym is_n);
        few_speeds = omega (arith, is_p, ap length in_es, length-append (speeds_of file) (drop (length (speeds_of file)) es));
        few_holds = omega (arith, is_p, holds-length file, ap length in_hs, length-append (holds_of file) (drop (length (holds_of file)) hs));
        few_weights = omega (arith, is_n, ap length in_ws, length-append (weights_of file) (drop (length (weights_of file)) ws));
      }
    where
      told : (read_refusal file (length es) (length hs) (length ws) ≡ 0) × (read ≡ read_in file)
      told = read_accepted file es hs ws a e

      is_second : read.second ≡ second_in file
      is_second = ap (λ (r : JobRead). r.second) told.1

      is_startup : read.startup ≡ startup_in file
      is_startup = ap (λ (r : JobRead). r.startup) told.1

      is_p : read.processors ≡ length (speeds_of file)
      is_p = ap (λ (r : JobRead). r.processors) told.1

      is_n : read.tasks ≡ length (weights_of file)
      is_n = ap (λ (r : JobRead). r.tasks) told.1

      in_es : es' ≡ speeds_of file ++ drop (length (speeds_of file)) es
      in_es = f ∙ ap (λ (k : ℕ). lent_after k (speeds_of file) es) told.0 ∙ lent_accepted (speeds_of file) es

      in_hs : hs' ≡ holds_of file ++ drop (length (holds_of file)) hs
      in_hs = h ∙ ap (λ (k : ℕ). lent_after k (holds_of file) hs) told.0 ∙ lent_accepted (holds_of file) hs

      in_ws : ws' ≡ weights_of file ++ drop (length (weights_of file)) ws
      in_ws = g ∙ ap (λ (k : ℕ). lent_after k (weights_of file) ws) told.0 ∙ lent_accepted (weights_of file) ws

  -- With lists that are long enough, a refusal of reading is the file's.
  pub read_refused : {r : Result JobRead Refusal} → max_processors ≤ length es → max_processors ≤ length hs → (file_refusal file ≡ 0 → length (weights_of file) ≤ length ws)
      → r ≡ read_answer file (length es) (length hs) (length ws) → refused r ≡ file_refusal file
  unfolding number read_answer
  read_refused x u y a = ap refused a ∙ refused_answered (read_in file) (read_known file (length es) (length hs) (length ws)) ∙ same (file_refusal file) refl
    where
      same : (j : ℕ) → file_refusal file ≡ j → number ≡ file_refusal file
      same zero f =
          read_fits file (length es) (length hs) (length ws) f (omega (arith, (accepted_valid file f).processors_limit)) (omega (arith, (accepted_valid file f).processors_limit, holds-length file)) (y f)
          ∙ sym f
      same (suc j) f =
          unfold file_refusal read_refusal read_tests in
          first_refusal_before (file_tests file) lists (λ z. let w : ⊥ = omega (arith, sym f ∙ z) in w)

  -- So it is with lists that are long enough for every job.
  pub read_rejected : {r : Result JobRead Refusal} → max_processors ≤ length es → max_processors ≤ length hs → max_tasks ≤ length ws
      → r ≡ read_answer file (length es) (length hs) (length ws) → refused r ≡ file_refusal file
  read_rejected x u y a = read_refused x u (λ f. omega (arith, (accepted_valid file f).tasks_limit)) a

-- The job that was read is the file's.
module _ {file es hs ws : List ℕ} {read : JobRead} (w : Taken file es hs ws read) where
  pub taken_job : job_of read.startup (take read.processors es) (take read.processors hs) (take read.tasks ws) ≡ job_in file
  taken_job =
      ap₂ (λ (es hs : List ℕ). job_of read.startup es hs (take read.tasks ws)) w.speeds w.holds
      ∙ ap₂ (λ (c : ℕ) (ws : List ℕ). job_of c (speeds_of file) (holds_of file) ws) w.counts w.weights

  pub taken_valid : Valid (job_of read.startup (take read.processors es) (take read.processors hs) (take read.tasks ws))
  taken_valid = subst Valid (sym taken_job) (accepted_valid file w.accepted)

  -- So is the one that `JobRead::job` makes of these lists.
  module _ (job : ValidJob) (e : the job ≡ job_of read.startup (take read.processors es) (take read.processors hs) (take read.tasks ws)) where
    pub taken_the : the job ≡ job_in file
    taken_the = e ∙ taken_job

    pub taken_edition : job.second ≡ read.second → edition job ≡ edition_in file
    taken_edition f = ap₂ edition_of f (ap (λ j. j.startup) e) ∙ w.edition
