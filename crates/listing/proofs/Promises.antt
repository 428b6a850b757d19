-- What a caller may read off a listing, and off the answer of the call that puts it.
-- Assumes nothing.
use Prim.Native.Nat.{ℕ, suc, ◌+◌, ◌*◌, ◌≤◌}
use mathlib.Core.Path.{◌≡◌, refl, sym, ap, ◌∙◌}
use mathlib.Core.List.{List, [], ◌∷◌, ◌++◌, Memᴰ}
use mathlib.Core.Logic.{◌≢◌, ◌↔◌}
use native.Mathlib.Omega.{arith}
use native.Mathlib.Decide.{ℕ_discrete}
use native.Mathlib.Nat.{le_refl}
use lib.Dec.{T}
use lib.ListN.{length, get_or, take, drop, length-append}
use lib.Seq.{take-take}
use Rattle.chain.specs.declared.Method.{Method}
use Rattle.chain.specs.declared.Method.TheVariants.{Table, Bidding, Bisection, Nicol}
use Rattle.chain.specs.Job.{Edition, Job, processors, tasks, enough}
use Rattle.chain.specs.Plan.{takes}
use Rattle.chain.specs.Refusal.{length_test, holds_test, enough_test, free_test, FirstFailing, separators_needed, refusal}
use Rattle.chain.proofs.Refusals.{pass_head, pass_skip, job_accepted, valid_holds, append_accepted, gives, given_number}
use Rattle.refusals.specs.Inputs.{scratch_lists, scratch_needed, plan_lists, method_inputs}
use Rattle.std.specs.Prelude.{Result, Ok}
use Rattle.chain.specs.declared.Refusal.{Refusal}
use Rattle.chain.specs.Numbers.{number_of}
use Rattle.chain.proofs.Numbers.{number_chosen, answered_ok}
use Rattle.refusals.specs.Answers.{said_by, written_said, lent_after}
use Rattle.refusals.proofs.Answering.{Known, number_of_lem, answer_said_lem}
use Rattle.refusals.proofs.Known.{tests_nil, tests_cons, known_first}
use Rattle.refusals.proofs.Lent.{lent_refused, lent-front}
use Rattle.refusals.proofs.Methods.{known_passes}
use Rattle.refusals.proofs.Steps.{passed-all}
use Rattle.refusals.proofs.Tests.{length-enough, all-holds, separators_list, plan_holds, method_free, method_other, plan_known}
use Rattle.parts.proofs.Front.{taken}
use Rattle.jobs.specs.Parse.{edition_in, job_in, file_tests, file_refusal}
use Rattle.jobs.proofs.Calls.{file_numbered}
use Rattle.jobs.proofs.RoundTrip.{accepted_valid}
use Rattle.planner.specs.Answers.{plan_refusal, plan_figures, chosen_answer, plan_answer, plan_writes}
use Rattle.planner.proofs.Promises.{accepted_separators}
use Rattle.texts.specs.Text.{text, labelled, refusal_line}
use Rattle.texts.proofs.Laws.{refusal_one}
use Rattle.listing.specs.Listing.{counts_line, plan_line, method_line, job_listing, listing_of}
use Rattle.listing.specs.Listing.{listed_tests, listed_refusal, intake, listing}
use Rattle.listing.specs.Answers.{list_tests, list_refusal, list_answer, list_writes}
use Rattle.listing.proofs.Listings.{refused_by, listed_by}

-- Nothing is refused by a method that takes the job, past the lists and the holds.
method_passes : (job : Job) (method : Method) (s t : ℕ) → T (takes method job) → 0 ≡ refusal job (plan_lists job s t)
    → 0 ≡ refusal job (method_inputs job (number_of method) s t)
unfolding takes number_of free_test
method_passes job Table s t h e = method_other job 1 s t e refl refl (λ z. omega arith)
method_passes job Bidding s t h e = method_other job 2 s t e refl refl (λ z. omega arith)
method_passes job Bisection s t h e = method_other job 3 s t e refl refl (λ z. omega arith)
method_passes job Nicol s t h e = method_free job 4 s t e refl refl refl (sym (pass_skip (free_test job) [] h ∙ passed-all))

-- A file that is listed is read, and the holds of its job are enough.
pub listed_accepted : (file : List ℕ) → listed_refusal file ≡ 0 → (file_refusal file ≡ 0) × T (enough (job_in file))
unfolding listed_refusal listed_tests file_refusal enough_test
listed_accepted file e =
    let a = append_accepted (file_tests file) (enough_test (job_in file) ∷ []) (file_numbered file) e in
    (a.0, pass_head (enough_test (job_in file)) [] (omega arith) a.1)

-- Its job is planned by every method that takes it, with lists that are long enough:
module _ (file : List ℕ) (listed : listed_refusal file ≡ 0) (method : Method) (taken : T (takes method (job_in file)))
    (s t : List ℕ) (seps : separators_needed (job_in file) ≤ length s) (work : scratch_needed (job_in file) ≤ length t) where
  abbrev job : Job
  job = job_in file

  abbrev edition : Edition
  edition = edition_in file

  abbrev number : ℕ
  number = number_of method

  -- planning refuses nothing,
  pub read_planned : plan_refusal job number (length s) (length t) ≡ 0
  unfolding plan_refusal enough_test
  read_planned =
      let ok = listed_accepted file listed in
      let valid = accepted_valid file ok.0 in
      let held = sym (pass_skip (holds_test job) [] (valid_holds valid) ∙ passed-all) in
      let all = all-holds job (sym (job_accepted.1 valid)) refl held in
      let list = separators_list job (length s) all refl (length-enough (processors job + 1) (length s) (omega arith)) in
      let room = length-enough (scratch_lists * (tasks job + 1)) (length t) (omega arith) in
      let kept = sym (pass_skip (enough_test job) [] ok.1 ∙ passed-all) in
      let lists = plan_holds job (length s) (length t) list refl room refl kept in
      let known = known_passes number (number_chosen method) in
      sym (plan_known job number (length s) (length t) known (method_passes job method (length s) (length t) taken lists))

  -- the call answers with the figures of the method's line,
  pub read_accepted : plan_answer edition job number s t ≡ Ok (plan_figures edition method job)
  unfolding plan_answer chosen_answer
  read_accepted =
      let refusal = plan_refusal job number (length s) (length t) in
      ap (λ (c : Result Method Refusal). chosen_answer edition job c refusal) (number_chosen method)
      ∙ sym (answered_ok (plan_figures edition method job) read_planned)

  -- and leaves its separators.
  pub read_line : method_line edition method job
      ≡ plan_line number (plan_figures edition method job) (take (suc (processors job)) (plan_writes job number s t))
  unfolding method_line
  read_line =
      ap (plan_line number (plan_figures edition method job)) (sym (accepted_separators edition job number s t read_accepted))

-- Scope 9.6: "judges a longer file by those bytes": what comes behind them is without effect.
pub listing_taken : (file : List ℕ) → listing (take intake file) ≡ listing file
unfolding listing
listing_taken file = ap (λ (l : List ℕ). listing_of (listed_refusal l) l) (take-take intake intake file (le_refl intake))

-- A listing is the line of a refusal exactly where its file is refused with that number: the listing of a job begins
-- with another byte.
pub listing_refused : (file : List ℕ) {n : ℕ} → n ≢ 0 → (listing file ≡ refusal_line n) ↔ (listed_refusal (take intake file) ≡ n)
unfolding listing listing_of
listing_refused file {n} h = (
  λ e. elim (ℕ_discrete k 0) [
    | yes z ↦ absurd (begins (listed_by edition job z ∙ e))
    | no z ↦ refusal_one k n (refused_by edition job refl z ∙ e)
  ],
  λ e. sym (refused_by edition job (sym e) h),
)
  where
    k : ℕ
    k = listed_refusal (take intake file)

    edition : Edition
    edition = edition_in (take intake file)

    job : Job
    job = job_in (take intake file)

    begins : job_listing edition job ≡ refusal_line n → ⊥
    begins e = unfold job_listing counts_line refusal_line labelled text in let z = ap (λ (l : List ℕ). get_or l 0 0) e in omega (arith, z)

-- The call: 0 or 9; that of the first test that fails; a refusal leaves the buffer as it was.
module _ (file out : List ℕ) where
  list_known : Known (list_refusal (length out))
  unfolding list_refusal list_tests length_test
  list_known = known_first (list_tests (length out)) (tests_cons (omega arith) tests_nil)

  pub list_said : written_said (list_answer file (length out)) ≡ said_by (list_refusal (length out)) (length (listing file) ∷ [])
  unfolding list_answer
  list_said = answer_said_lem list_known (λ count. count ∷ []) (length (listing file))

  pub list_number : (written_said (list_answer file (length out))).number ≡ list_refusal (length out)
  list_number = number_of_lem (length (listing file) ∷ []) list_said

  pub list_numbers : Memᴰ (written_said (list_answer file (length out))).number (0 ∷ 9 ∷ [])
  unfolding list_refusal list_tests length_test
  list_numbers = given_number (9 ∷ []) (list_tests (length out)) list_number tt

  pub list_gives : {n : ℕ} → n ≢ 0 → ((written_said (list_answer file (length out))).number ≡ n) ↔ FirstFailing (list_tests (length out)) n
  unfolding list_refusal
  list_gives h = gives (list_tests (length out)) list_number h

  pub list_keeps : list_refusal (length out) ≢ 0 → list_writes file out ≡ out
  unfolding list_writes
  list_keeps h = lent_refused h (listing file) out

  -- Where it is accepted, it answers how many bytes the listing has, and those in front of the buffer are the listing.
  pub record Listed (n : ℕ) : Type 0 where
    pub count : n ≡ length (listing file)
    pub bytes : take n (list_writes file out) ≡ listing file
    pub within : n ≤ length (list_writes file out)

  pub list_accepted : {n : ℕ} → list_answer file (length out) ≡ Ok n → Listed n
  unfolding list_answer list_writes
  list_accepted {n} e =
      record {
        count = is_n;
        bytes = taken (listing file) (drop n out) (sym is_n) put;
        within = omega (arith, is_n, ap length put, length-append (listing file) (drop n out));
      }
    where
      none : list_refusal (length out) ≡ 0
      none = sym list_number ∙ ap (λ (r : Result ℕ Refusal). (written_said r).number) e

      is_n : n ≡ length (listing file)
      is_n = cc (answered_ok (length (listing file)) none ∙ e)

      put : lent_after (list_refusal (length out)) (listing file) out ≡ listing file ++ drop n out
      put = lent-front (listing file) out none (sym is_n)

  -- The same, of what a call answered and left.
  module _ {r : Result ℕ Refusal} {later : List ℕ} {n : ℕ} (a : r ≡ list_answer file (length out)) (e : r ≡ Ok n)
      (f : later ≡ list_writes file out) where
    pub list_counts : n ≤ length later
    list_counts = omega (arith, (list_accepted (sym a ∙ e)).within, ap length f)

    pub list_text : take n later ≡ listing file
    list_text = ap (take n) f ∙ (list_accepted (sym a ∙ e)).bytes
