-- What the calls promise: each number exactly when its test is the first to fail; a file read and written, a job written and read.
-- Assumes nothing.
use Prim.Native.Nat.{ℕ, zero, suc, ◌≤◌}
use mathlib.Core.Path.{◌≡◌, refl, sym, ap, ap₂, ◌∙◌}
use mathlib.Core.Bool.{Bool, cond}
use mathlib.Core.List.{List, [], ◌∷◌, ◌++◌}
use mathlib.Core.Logic.{◌≢◌, ◌↔◌}
use native.Mathlib.Omega.{arith}
use lib.ListN.{length, drop}
use borrow.Author.Tests.{le-leb}
use Rattle.std.specs.Prelude.{Ok}
use Rattle.chain.specs.Job.{Edition, edition_of, Job, OfEdition, tasks, processors, Valid}
use Rattle.chain.specs.Refusal.{length_test, holds_test, processors_test, tasks_test, first_refusal, FirstFailing, job_tests, nothing, call_tests, refusal}
use Rattle.chain.proofs.Numbers.{answered_ok}
use Rattle.chain.proofs.Refusals.{Numbered, numbered_nil, numbered_cons, numbered_append, first_refusal-append, gives, job_accepted}
use Rattle.fields.specs.Field.{Bytes}
use Rattle.refusals.specs.Inputs.{bytes_needed, write_inputs}
use Rattle.refusals.specs.Answers.{said_by, written_said, lent_after}
use Rattle.refusals.proofs.Tests.{length-enough, all-holds, write_bytes_lem}
use Rattle.refusals.proofs.Answering.{Known, answer_said_lem, number_of_lem}
use Rattle.refusals.proofs.Known.{KnownTests, tests_nil, tests_cons, tests_append, known_first, refusal_known}
use Rattle.parts.proofs.Lines.{edition_effective}
use Rattle.refusals.proofs.Steps.{passes, passed-all}
use Rattle.refusals.proofs.Lent.{lent_accepted}
use Rattle.jobs.specs.JobFile.{job_bytes, ExactHolds}
use Rattle.jobs.specs.Parse.{record_count, value_at, multiple_test, form_test, order_test, place_test, speed_test, weight_test, work_test, record_tests, records_tests, second_in, edition_in, startup_in, speeds_of, holds_of, weights_of, job_in, file_tests, file_refusal}
use Rattle.jobs.specs.Answers.{read_in, read_values, read_said, read_tests, read_refusal, read_answer, read_speeds, read_holds, read_weights, write_answer, write_bytes}
use Rattle.jobs.proofs.AllRecords.{records_numbered}
use Rattle.jobs.proofs.Writing.{length_bytes, Writes, write_all}
use Rattle.jobs.proofs.RoundTrip.{written_back, accepted_valid, edition_back, speeds_back, holds_back, weights_back, startup_back, bytes_accepted}

-- Numbers above 0.
pub file_numbered : (file : List ℕ) → Numbered (file_tests file)
unfolding file_tests multiple_test processors_test tasks_test
file_numbered file =
    numbered_cons (omega arith)
    (numbered_append (records_numbered file (record_count file)) (numbered_cons (omega arith) (numbered_cons (omega arith) numbered_nil)))

pub read_numbered : (file : List ℕ) (lent_speeds lent_holds lent_weights : ℕ) → Numbered (read_tests file lent_speeds lent_holds lent_weights)
unfolding read_tests length_test
read_numbered file lent_speeds lent_holds lent_weights =
    numbered_append (file_numbered file) (numbered_cons (omega arith) (numbered_cons (omega arith) (numbered_cons (omega arith) numbered_nil)))

-- And up to 18: each is a refusal's.
record_known : (file : List ℕ) (i : ℕ) → KnownTests (record_tests file i)
unfolding record_tests form_test order_test place_test speed_test weight_test work_test
record_known file i =
    tests_cons (omega arith)
    (tests_cons (omega arith)
    (tests_cons (omega arith) (tests_cons (omega arith) (tests_cons (omega arith) (tests_cons (omega arith) tests_nil)))))

records_known : (file : List ℕ) (n : ℕ) → KnownTests (records_tests file n)
unfolding records_tests
records_known file zero = tests_nil
records_known file (suc n) = tests_append (records_known file n) (record_known file n)

pub file_known : (file : List ℕ) → KnownTests (file_tests file)
unfolding file_tests multiple_test processors_test tasks_test
file_known file =
    tests_cons (omega arith)
    (tests_append (records_known file (record_count file)) (tests_cons (omega arith) (tests_cons (omega arith) tests_nil)))

pub read_known : (file : List ℕ) (lent_speeds lent_holds lent_weights : ℕ) → Known (read_refusal file lent_speeds lent_holds lent_weights)
unfolding read_refusal read_tests length_test
read_known file lent_speeds lent_holds lent_weights =
    known_first (read_tests file lent_speeds lent_holds lent_weights)
    (tests_append (file_known file) (tests_cons (omega arith) (tests_cons (omega arith) (tests_cons (omega arith) tests_nil))))

-- What the answers say: the edition, the start-up work that counts, P and N, or the refusal's number;
pub read_said_lem : (file : List ℕ) (lent_speeds lent_holds lent_weights : ℕ)
    → read_said (read_answer file lent_speeds lent_holds lent_weights)
    ≡ said_by (read_refusal file lent_speeds lent_holds lent_weights) (cond (second_in file) 2 1 ∷ startup_in file ∷ length (speeds_of file) ∷ length (weights_of file) ∷ [])
unfolding read_answer
read_said_lem file a b c = answer_said_lem (read_known file a b c) read_values (read_in file)

pub read_number : (file : List ℕ) (lent_speeds lent_holds lent_weights : ℕ)
    → (read_said (read_answer file lent_speeds lent_holds lent_weights)).number ≡ read_refusal file lent_speeds lent_holds lent_weights
read_number file a b c =
    number_of_lem (cond (second_in file) 2 1 ∷ startup_in file ∷ length (speeds_of file) ∷ length (weights_of file) ∷ []) (read_said_lem file a b c)

-- the count of bytes, or the refusal's number.
pub write_said : (edition : Edition) (job : Job) (lent : ℕ)
    → written_said (write_answer edition job lent) ≡ said_by (refusal job (write_inputs edition job lent)) (bytes_needed edition job ∷ [])
unfolding write_answer
write_said edition job lent =
    answer_said_lem (refusal_known job (write_inputs edition job lent)) (λ (count : ℕ). count ∷ []) (bytes_needed edition job)

pub write_number : (edition : Edition) (job : Job) (lent : ℕ) → (written_said (write_answer edition job lent)).number ≡ refusal job (write_inputs edition job lent)
write_number edition job lent = number_of_lem (bytes_needed edition job ∷ []) (write_said edition job lent)

-- A number is given exactly when its test is the first to fail.
pub job_gives : (job : Job) {n : ℕ} → n ≢ 0 → (first_refusal (job_tests job) ≡ n) ↔ FirstFailing (job_tests job) n
job_gives job h = gives (job_tests job) refl h

pub read_gives : (file : List ℕ) (lent_speeds lent_holds lent_weights : ℕ) {n : ℕ} → n ≢ 0
    → ((read_said (read_answer file lent_speeds lent_holds lent_weights)).number ≡ n) ↔ FirstFailing (read_tests file lent_speeds lent_holds lent_weights) n
unfolding read_refusal
read_gives file a b c h = gives (read_tests file a b c) (read_number file a b c) h

pub write_gives : (edition : Edition) (job : Job) (lent : ℕ) {n : ℕ} → n ≢ 0
    → ((written_said (write_answer edition job lent)).number ≡ n) ↔ FirstFailing (call_tests job (write_inputs edition job lent)) n
unfolding refusal
write_gives edition job lent h = gives (call_tests job (write_inputs edition job lent)) (write_number edition job lent) h

-- The lists of a valid job pass.
pub valid_lists : (job : Job) → Valid job → 0 ≡ refusal job nothing
unfolding holds_test
valid_lists job v = all-holds job refl (job_accepted.1 v) (length-enough (processors job) (length job.holds) v.holds_given)

-- An accepted file, read and then written in its edition into a buffer that is long enough, is there again.
pub record WrittenAgain (file buffer : List ℕ) : Type 0 where
  pub answer : write_answer (edition_in file) (job_in file) (length buffer) ≡ Ok (length file)
  pub bytes : write_bytes (edition_in file) (job_in file) buffer ≡ file ++ drop (length file) buffer

pub written_again : (file buffer : List ℕ) → Bytes file → file_refusal file ≡ 0 → length file ≤ length buffer → WrittenAgain file buffer
written_again file buffer b e h =
    record { answer = sym w.0 ∙ ap Ok (sym long); bytes = sym w.1 ∙ ap (λ (l : List ℕ). l ++ drop (length l) buffer) same }
  where
    own : List ℕ
    own = job_bytes (edition_in file) (job_in file)

    same : own ≡ file
    same = written_back file b e

    long : length file ≡ bytes_needed (edition_in file) (job_in file)
    long = sym (ap length same) ∙ length_bytes (edition_in file) (job_in file)

    none : refusal (job_in file) (write_inputs (edition_in file) (job_in file) (length buffer)) ≡ 0
    none =
        sym (write_bytes_lem (job_in file) (edition_in file) (length buffer) refl (sym (valid_lists (job_in file) (accepted_valid file e))) refl (length-enough (bytes_needed (edition_in file) (job_in file)) (length buffer) (omega (arith, long))))

    w : Writes (edition_in file) (job_in file) buffer (Ok (bytes_needed (edition_in file) (job_in file))) (own ++ drop (length own) buffer)
    w = write_all (edition_in file) (job_in file) buffer none refl

-- An accepted file is read into lists that are long enough.
pub read_fits : (file : List ℕ) (lent_speeds lent_holds lent_weights : ℕ) → file_refusal file ≡ 0 → length (speeds_of file) ≤ lent_speeds
    → length (holds_of file) ≤ lent_holds → length (weights_of file) ≤ lent_weights → read_refusal file lent_speeds lent_holds lent_weights ≡ 0
unfolding file_refusal read_refusal read_tests length_test
read_fits file a b c e h k l =
    first_refusal-append (file_tests file) (length_test (length (weights_of file)) c ∷ length_test (length (speeds_of file)) a ∷ length_test (length (holds_of file)) b ∷ []) (file_numbered file) e
    ∙ passes 9 (length_test (length (speeds_of file)) a ∷ length_test (length (holds_of file)) b ∷ []) (le-leb (length (weights_of file)) c l)
    ∙ passes 9 (length_test (length (holds_of file)) b ∷ []) (le-leb (length (speeds_of file)) a h)
    ∙ passes 9 [] (le-leb (length (holds_of file)) b k) ∙ passed-all

-- A valid job of an edition, written and then read into lists that are long enough, is there again, with that edition.
pub record ReadAgain (edition : Edition) (job : Job) (es hs ws : List ℕ) : Type 0 where
  pub second : Bool
  pub same_edition : edition_of second job.startup ≡ edition
  pub answer : read_answer (job_bytes edition job) (length es) (length hs) (length ws)
      ≡ Ok (record { second = second; startup = job.startup; processors = processors job; tasks = tasks job })
  pub speeds : read_speeds (job_bytes edition job) es hs ws ≡ job.speeds ++ drop (processors job) es
  pub holds : read_holds (job_bytes edition job) es hs ws ≡ job.holds ++ drop (processors job) hs
  pub weights : read_weights (job_bytes edition job) es hs ws ≡ job.weights ++ drop (tasks job) ws

pub read_again : (edition : Edition) (job : Job) (es hs ws : List ℕ) → OfEdition edition job → Valid job → ExactHolds job → processors job ≤ length es
    → processors job ≤ length hs → tasks job ≤ length ws → ReadAgain edition job es hs ws
unfolding read_answer read_speeds read_holds read_weights
read_again edition job es hs ws of ok exact h k l =
    record {
      second = second_in file;
      same_edition = ap (edition_of (second_in file)) (sym c') ∙ edition_effective (second_in file) (value_at file 0) ∙ edition_back edition job of ok;
      answer = sym (answered_ok (read_in file) none) ∙ ap Ok read;
      speeds = ap (λ (n : ℕ). lent_after n (speeds_of file) es) none ∙ lent_accepted (speeds_of file) es ∙ ap (λ (l : List ℕ). l ++ drop (length l) es) es';
      holds = ap (λ (n : ℕ). lent_after n (holds_of file) hs) none ∙ lent_accepted (holds_of file) hs ∙ ap (λ (l : List ℕ). l ++ drop (length l) hs) hs' ∙ ap (λ (n : ℕ). job.holds ++ drop n hs) exact.count;
      weights = ap (λ (n : ℕ). lent_after n (weights_of file) ws) none ∙ lent_accepted (weights_of file) ws ∙ ap (λ (l : List ℕ). l ++ drop (length l) ws) ws';
    }
  where
    file : List ℕ
    file = job_bytes edition job

    c' : startup_in file ≡ job.startup
    c' = startup_back edition job of ok exact

    es' : speeds_of file ≡ job.speeds
    es' = speeds_back edition job of ok exact

    hs' : holds_of file ≡ job.holds
    hs' = holds_back edition job of ok exact

    ws' : weights_of file ≡ job.weights
    ws' = weights_back edition job of ok exact

    read : read_in file ≡ record { second = second_in file; startup = job.startup; processors = processors job; tasks = tasks job }
    read =
        ap (λ (c : ℕ). record { second = second_in file; startup = c; processors = length (speeds_of file); tasks = length (weights_of file) }) c'
        ∙ ap₂ (λ (p t : ℕ). record { second = second_in file; startup = job.startup; processors = p; tasks = t }) (ap length es') (ap length ws')

    none : read_refusal file (length es) (length hs) (length ws) ≡ 0
    none =
        read_fits file (length es) (length hs) (length ws) (bytes_accepted edition job of ok exact) (omega (arith, ap length es')) (omega (arith, ap length hs', exact.count)) (omega (arith, ap length ws'))
