-- What writing a job file answers and leaves, by its tests.
-- Assumes nothing.
use Prim.Native.Nat.{ℕ, ◌+◌, ◌*◌, ◌≤◌}
use mathlib.Core.Path.{◌≡◌, refl, sym, ap, ap₂, subst, ◌∙◌}
use mathlib.Core.Bool.{Bool, true, false}
use mathlib.Core.List.{List, ◌++◌, append_assoc}
use native.Mathlib.Omega.{arith}
use lib.ListN.{length, get_or, take, drop, length-append}
use lib.Seq.{get_or-take}
use Rattle.std.specs.Prelude.{Result, Ok, Err, IsErrAnd}
use Rattle.chain.specs.declared.Refusal.{Refusal}
use Rattle.chain.specs.Numbers.{refused}
use Rattle.chain.specs.Job.{Edition, First, Second, startup_of, edition_of, effective, Job, job_of, tasks, processors, hold_of}
use Rattle.chain.specs.Refusal.{refusal}
use Rattle.fields.proofs.Stores.{put_next}
use Rattle.refusals.specs.Inputs.{head_records, bytes_needed, write_inputs}
use Rattle.parts.specs.declared.job.JobLists.{JobLists}
use Rattle.parts.specs.declared.job.ValidJob.{ValidJob}
use Rattle.parts.specs.Lent.{the, edition, lent, lent_edition, IsLent}
use Rattle.parts.proofs.Lines.{edition_effective}
use Rattle.refusals.proofs.Accepted.{Accepted}
use Rattle.refusals.proofs.Exits.{the_lent, edition_lent, tested}
use Rattle.refusals.proofs.Answering.{wrote_refused, wrote_all}
use Rattle.jobs.specs.JobFile.{processor_kind, task_kind, startup_kind, record_bytes, records_bytes, no_hold, edition_bytes, job_bytes}
use Rattle.jobs.specs.Answers.{write_answer, write_bytes}
use Rattle.jobs.proofs.Records.{length_record, length_records, records_same}

-- The bytes of the record in front, and those of a job.
pub length_edition : (edition : Edition) → length (edition_bytes edition) ≡ 8 * head_records edition
unfolding edition_bytes head_records
length_edition First = refl
length_edition (Second c) = length_record startup_kind 0 c

pub length_bytes : (edition : Edition) (job : Job) → length (job_bytes edition job) ≡ bytes_needed edition job
unfolding job_bytes
length_bytes edition job =
    length-append (edition_bytes edition) (records_bytes processor_kind (hold_of job) job.speeds ++ records_bytes task_kind no_hold job.weights)
    ∙ omega (arith, length_edition edition, length-append (records_bytes processor_kind (hold_of job) job.speeds) (records_bytes task_kind no_hold job.weights), length_records processor_kind (hold_of job) job.speeds, length_records task_kind no_hold job.weights)

-- The record in front is put, or none is.
pub second_head : {b : Bool} (c : ℕ) → b ≡ true → head_records (edition_of b c) ≡ 1
unfolding edition_of head_records
second_head c e = ap (λ (b : Bool). head_records (edition_of b c)) e

pub head_put : {b : Bool} (c : ℕ) (file : List ℕ) {now : List ℕ} → b ≡ true → now ≡ take (8 * 0) file ++ record_bytes 3 0 c ++ drop (8 * 0 + 8) file
    → now ≡ edition_bytes (edition_of b c) ++ drop (8 * head_records (edition_of b c)) file
unfolding edition_of edition_bytes head_records
head_put c file e f = f ∙ sym (ap (λ (b : Bool). edition_bytes (edition_of b c) ++ drop (8 * head_records (edition_of b c)) file) e)

pub head_none : {b : Bool} (c : ℕ) (file : List ℕ) → b ≡ false → file ≡ edition_bytes (edition_of b c) ++ drop (8 * head_records (edition_of b c)) file
unfolding edition_of edition_bytes head_records
head_none c file e = sym (ap (λ (b : Bool). edition_bytes (edition_of b c) ++ drop (8 * head_records (edition_of b c)) file) e)

-- Records of a kind are put behind the n records A.
put_run : (kind : ℕ) (hold : ℕ → ℕ) (vs A file : List ℕ) (n : ℕ) → length A ≡ 8 * n
    → take (8 * n) (A ++ drop (8 * n) file) ++ records_bytes kind hold vs ++ drop (8 * (n + length vs)) (A ++ drop (8 * n) file)
    ≡ A ++ records_bytes kind hold vs ++ drop (8 * (n + length vs)) file
put_run kind hold vs A file n e =
    let more : 8 * (n + length vs) ≡ 8 * n + 8 * length vs = omega arith in
    ap (λ (m : ℕ). take (8 * n) (A ++ drop (8 * n) file) ++ records_bytes kind hold vs ++ drop m (A ++ drop (8 * n) file)) more
    ∙ put_next file A (records_bytes kind hold vs) (8 * n) (8 * length vs) e ∙ ap (λ (m : ℕ). A ++ records_bytes kind hold vs ++ drop m file) (sym more)

-- What `write_job` answers and leaves at each of its ends.
module _ (edition : Edition) (job : Job) (file : List ℕ) where
  abbrev pub Writes : Result ℕ Refusal → List ℕ → Type 0
  Writes r now = (r ≡ write_answer edition job (length file)) × (now ≡ write_bytes edition job file)

  abbrev number : ℕ
  number = refusal job (write_inputs edition job (length file))

  pub write_refused : {B : Type 0} {r : Result B Refusal} {e : Refusal} (q : Result ℕ Refusal) → r ≡ Err e → IsErrAnd q (λ y. y ≡ e)
      → refused r ≡ number → Writes q file
  unfolding write_answer write_bytes
  write_refused q f g h = wrote_refused (bytes_needed edition job) (job_bytes edition job) file q f g h

  pub write_all : {now : List ℕ} → number ≡ 0 → now ≡ job_bytes edition job ++ drop (length (job_bytes edition job)) file
      → Writes (Ok (bytes_needed edition job)) now
  unfolding write_answer write_bytes
  write_all z e =
      wrote_all (bytes_needed edition job) (job_bytes edition job) file z (length_bytes edition job)
      (e ∙ ap (λ (n : ℕ). job_bytes edition job ++ drop n file) (length_bytes edition job))

  -- What the buffer holds after the record in front, h of them, then processors with these holds, then tasks with none.
  module _ {h : ℕ} (head : h ≡ head_records edition) {zero one two : List ℕ} (x : zero ≡ edition_bytes edition ++ drop (8 * head_records edition) file)
      (hold none : ℕ → ℕ) (given : records_bytes 1 hold job.speeds ≡ records_bytes 1 (hold_of job) job.speeds) (free : (p : ℕ) → none p ≡ 0)
      (y : one ≡ take (8 * h) zero ++ records_bytes 1 hold job.speeds ++ drop (8 * (h + processors job)) zero)
      (z : two ≡ take (8 * (h + processors job)) one ++ records_bytes 2 none job.weights ++ drop (8 * (h + processors job + tasks job)) one) where
    H : List ℕ
    H = edition_bytes edition

    R₁ : List ℕ
    R₁ = records_bytes 1 (hold_of job) job.speeds

    R₂ : List ℕ
    R₂ = records_bytes 2 no_hold job.weights

    long : length (H ++ R₁) ≡ 8 * (h + processors job)
    unfolding H R₁
    long = length-append H R₁ ∙ omega (arith, head, length_edition edition, length_records 1 (hold_of job) job.speeds)

    put_one : one ≡ H ++ R₁ ++ drop (8 * (h + processors job)) file
    unfolding H R₁
    put_one =
        y ∙ ap (λ (l : List ℕ). take (8 * h) zero ++ l ++ drop (8 * (h + processors job)) zero) given
        ∙ ap (λ (l : List ℕ). take (8 * h) l ++ R₁ ++ drop (8 * (h + processors job)) l)
        (x ∙ ap (λ (n : ℕ). H ++ drop (8 * n) file) (sym head))
        ∙ put_run 1 (hold_of job) job.speeds H file h (omega (arith, head, length_edition edition))

    put_two : two ≡ job_bytes edition job ++ drop (length (job_bytes edition job)) file
    unfolding H R₁ R₂ job_bytes
    put_two =
        z
        ∙ ap (λ (l : List ℕ). take (8 * (h + processors job)) one ++ l ++ drop (8 * (h + processors job + tasks job)) one) (records_same 2 none no_hold job.weights (λ p k. free p))
        ∙ ap (λ (l : List ℕ). take (8 * (h + processors job)) l ++ R₂ ++ drop (8 * (h + processors job + tasks job)) l) put_one
        ∙ put_run 2 no_hold job.weights (H ++ R₁) file (h + processors job) long
        ∙ ap (λ (l : List ℕ). l ++ drop (8 * (h + processors job + tasks job)) file) (append_assoc H R₁ R₂)
        ∙ ap (λ (n : ℕ). job_bytes edition job ++ drop n file)
        (let e : 8 * (h + processors job + tasks job) ≡ length (job_bytes edition job) = omega (arith, head, length_bytes edition job) in e)

    pub write_both : number ≡ 0 → Writes (Ok (8 * (h + tasks job + processors job))) two
    write_both none =
        let w : Writes (Ok (bytes_needed edition job)) two = write_all none put_two in
        (ap Ok (let e : 8 * (h + tasks job + processors job) ≡ bytes_needed edition job = omega (arith, head) in e) ∙ w.0, w.1)

-- The holds of a job by lists are those of the list that was given.
pub given_holds : (c : ℕ) (es hs ws : List ℕ) → records_bytes 1 (λ p. get_or hs p 0) es ≡ records_bytes 1 (hold_of (job_of c es hs ws)) es
unfolding hold_of
given_holds c es hs ws =
    records_same 1 (λ p. get_or hs p 0) (λ p. get_or (take (length es) hs) p 0) es (λ p h. sym (get_or-take (length es) hs p 0 h))

-- A job that was tested is that of the lists: its bytes fit, and what is written of it is written of them.
module _ {lists : JobLists} {job : ValidJob} (is : IsLent lists job) where
  tested_write : (n : ℕ) → refused {A = ValidJob} (Ok job) ≡ refusal (lent lists) (write_inputs (lent_edition lists) (lent lists) n)
      → Accepted (the job) (write_inputs (lent_edition lists) (the job) n)
  tested_write n e = tested is (λ j. write_inputs (lent_edition lists) j n) e

  pub write_room : (n : ℕ) → refused {A = ValidJob} (Ok job) ≡ refusal (lent lists) (write_inputs (lent_edition lists) (lent lists) n)
      → 8 * (head_records (edition job) + (tasks (the job) + processors (the job))) ≤ n
  write_room n e = omega (arith, (tested_write n e).lists.0, ap head_records (edition_lent is))

  pub write_none : (n : ℕ) → refused {A = ValidJob} (Ok job) ≡ refusal (lent lists) (write_inputs (lent_edition lists) (lent lists) n)
      → refusal (the job) (write_inputs (edition job) (the job) n) ≡ 0
  unfolding refused
  write_none n e =
      ap₂ (λ (d : Edition) (j : Job). refusal j (write_inputs d j n)) (edition_lent is) (the_lent is) ∙ sym e

  pub write_lent : (file now : List ℕ) (r : Result ℕ Refusal) → Writes (edition job) (the job) file r now → Writes (lent_edition lists) (lent lists) file r now
  write_lent file now r w =
      subst (λ (d : Edition). Writes d (lent lists) file r now) (edition_lent is)
      (subst (λ (j : Job). Writes (edition job) j file r now) (the_lent is) w)

-- Lists with the start-up work that counts in place of what was given: they are tested alike, and their job is the same.
effective_twice : (b : Bool) (c : ℕ) → effective b (effective b c) ≡ effective b c
unfolding edition_of startup_of
effective_twice true c = refl
effective_twice false c = refl

module _ (lists : JobLists) {s : ℕ} (counts : s ≡ effective lists.second lists.startup) where
  abbrev by_startup : ℕ → Job
  by_startup c = job_of c lists.speeds.now lists.holds.now lists.weights.now

  pub counted_number : (n : ℕ) {k : ℕ} → k ≡ refusal (by_startup s) (write_inputs (edition_of lists.second s) (by_startup s) n)
      → k ≡ refusal (lent lists) (write_inputs (lent_edition lists) (lent lists) n)
  counted_number n e =
      e ∙ ap (λ (c : ℕ). refusal (by_startup c) (write_inputs (edition_of lists.second c) (by_startup c) n)) counts
      ∙ ap (λ (d : Edition). refusal (lent lists) (write_inputs d (lent lists) n)) (edition_effective lists.second lists.startup)

  pub counted_lent : {job : ValidJob}
      → IsLent (record { second = lists.second; startup = s; speeds = lists.speeds; holds = lists.holds; weights = lists.weights }) job → IsLent lists job
  counted_lent i =
      record {
        second = i.second;
        startup = i.startup ∙ ap (effective lists.second) counts ∙ effective_twice lists.second lists.startup;
        speeds = i.speeds;
        holds = i.holds;
        weights = i.weights;
      }
