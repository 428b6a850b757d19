-- Job files both ways, in each edition: an accepted file has the bytes of the job that it holds; a valid job's bytes are accepted and
-- hold it; so the accepted files are exactly the job files, and each holds one job of one edition.
-- Assumes nothing.
use Prim.Native.Nat.{ℕ, zero, suc, ◌+◌, ◌*◌, ◌≤◌, ◌<◌, ◌^◌}
use mathlib.Core.Path.{◌≡◌, refl, sym, ap, ap₂, subst, ◌∙◌}
use mathlib.Core.Bool.{Bool, true, false, ◌&&◌}
use mathlib.Core.List.{List, [], ◌∷◌, ◌++◌, append_assoc, append-nil}
use mathlib.Core.Logic.{◌≢◌, ◌⊎◌, inl, inr, ◌↔◌}
use native.Mathlib.Omega.{arith}
use native.Mathlib.Decide.{dec_le, ℕ_discrete}
use lib.Dec.{le→leb}
use lib.ListN.{length, get_or, take, replicate, length-append, get_or-append, get_or-eq_default}
use lib.Seq.{take-suc, take-length, take_all, length-take-le, get_or-take, get_or-append-add}
use borrow.Author.Tests.{le-leb}
use Rattle.chain.specs.Limits.{max_weight, max_startup, max_speed, max_tasks, max_processors}
use Rattle.chain.specs.Job.{Edition, First, Second, startup_of, Job, job_of, free_job, OfEdition, speed_of, hold_of, Valid}
use Rattle.chain.specs.Refusal.{between, each_between, processors_test, tasks_test, length_test, holds_test, first_refusal}
use Rattle.chain.proofs.Refusals.{job_accepted}
use Rattle.fields.specs.Field.{Bytes, field_bytes, half_bytes}
use Rattle.fields.proofs.Laws.{half_limit}
use Rattle.refusals.specs.Inputs.{head_records}
use Rattle.jobs.specs.JobFile.{processor_kind, task_kind, startup_kind, record_bytes, records_bytes, no_hold, edition_bytes, job_bytes, ExactHolds, JobFile}
use Rattle.jobs.specs.Parse.{record_count, byte_at, kind_at, value_at, hold_at, record_tests, records_tests, standing, values_of, holds_among, edition_in, startup_in, speeds_of, holds_of, weights_of, job_in, file_refusal}
use Rattle.refusals.proofs.Each.{between_in}
use Rattle.refusals.proofs.Steps.{passes, passed-all}
use Rattle.refusals.proofs.ByLists.{counts_decide}
use Rattle.jobs.proofs.Records.{records_snoc, records_same}
use Rattle.jobs.proofs.Writing.{length_bytes, given_holds}
use Rattle.jobs.proofs.OneRecord.{processor_passes, task_passes, startup_passes}
use Rattle.jobs.proofs.AllRecords.{multiple_passes, records_next, records_fewer, standing_more, standing_same, standing-length, values_more, values_same}
use Rattle.jobs.proofs.Passed.{OfProcessor, OfTask, OfStartup, passed-blank, passed_record, NoFront, Front, front, passed-at, record_by_record, front-values}
use Rattle.jobs.proofs.Reading.{holds-length, file_early, file_counts, accepted_multiple, accepted_records, head_below}
use Rattle.jobs.proofs.Bytes.{blank_hold, hold_zero, next_record, Has, has_kind, processor_has_blank, other_has_blank, has_hold, has_value, run_record, after_run, front_record, after_front}

none : (l : List ℕ) → length l ≡ 0 → l ≡ []
none [] e = refl
none (x ∷ l) e = absurd (let z : ⊥ = omega arith in z)

-- The job in a file is of the file's edition.
pub job_edition : (file : List ℕ) → OfEdition (edition_in file) (job_in file)
job_edition file = record { counts = refl }

-- A file is of the first edition exactly when its first record is not of kind 3,
pub first_exactly : (file : List ℕ) → (edition_in file ≡ First) ↔ (kind_at file 0 ≢ startup_kind)
first_exactly file = (λ e. only e (front file), λ h. then h (front file))
  where
    only : edition_in file ≡ First → NoFront file ⊎ Front file → kind_at file 0 ≢ startup_kind
    only e (inl f) = f.kind
    only e (inr f) = absurd (let z : ⊥ = unfold head_records in omega (arith, f.head, ap head_records e) in z)

    then : kind_at file 0 ≢ startup_kind → NoFront file ⊎ Front file → edition_in file ≡ First
    then h (inl f) = f.edition
    then h (inr f) = absurd (h f.kind)

-- and a job's bytes in it are those of the processors and the tasks alone.
pub first_bytes : (job : Job) → job_bytes First job ≡ records_bytes processor_kind (hold_of job) job.speeds ++ records_bytes task_kind no_hold job.weights
unfolding job_bytes edition_bytes
first_bytes job = refl

-- A record without a hold has zeros in bytes 1 to 3.
pub free_record : (kind v : ℕ) → record_bytes kind 0 v ≡ kind ∷ 0 ∷ 0 ∷ 0 ∷ field_bytes v
unfolding record_bytes half_bytes
free_record kind v = refl

-- From the file: its first n records, written out again; those behind the record in front, and all.
module _ (file : List ℕ) (b : Bytes file) where
  among : ℕ → ℕ → ℕ
  among n p = get_or (holds_among file n) p 0

  behind : ℕ → List ℕ
  behind n = records_bytes processor_kind (among n) (values_of processor_kind file n) ++ records_bytes task_kind no_hold (values_of task_kind file n)

  written : ℕ → List ℕ
  written n = edition_bytes (edition_in file) ++ behind n

  -- The holds of the records before a processor's stay, and its own is the last.
  one_hold : (n : ℕ) → OfProcessor file n
      → records_bytes processor_kind (among (suc n)) (values_of processor_kind file (suc n))
      ≡ records_bytes processor_kind (among n) (values_of processor_kind file n) ++ record_bytes processor_kind (hold_at file n) (value_at file n)
  unfolding among
  one_hold n p =
      ap₂ (λ (hs vs : List ℕ). records_bytes processor_kind (λ p. get_or hs p 0) vs) (standing_more file (hold_at file) processor_kind n p.kind) (values_more file processor_kind n p.kind)
      ∙ records_snoc processor_kind more vs (value_at file n)
      ∙ ap₂ (λ (l : List ℕ) (h : ℕ). l ++ record_bytes processor_kind h (value_at file n))
      (records_same processor_kind more (λ p. get_or hs p 0) vs (λ i h. get_or-append hs (hold_at file n ∷ []) 0 i (omega (arith, long))))
      (ap more (let e : length vs ≡ length hs + 0 = omega (arith, long) in e) ∙ get_or-append-add hs (hold_at file n ∷ []) 0 0)
    where
      vs : List ℕ
      vs = values_of processor_kind file n

      hs : List ℕ
      hs = holds_among file n

      more : ℕ → ℕ
      more p = get_or (hs ++ hold_at file n ∷ []) p 0

      long : length hs ≡ length vs
      long = standing-length file (hold_at file) (value_at file) processor_kind n

  one_processor : (n : ℕ) → OfProcessor file n → behind (suc n) ≡ behind n ++ record_bytes (kind_at file n) (hold_at file n) (value_at file n)
  unfolding behind records_bytes
  one_processor n p =
      ap₂ (λ (l ws : List ℕ). l ++ records_bytes task_kind no_hold ws) (one_hold n p) (values_same file task_kind n (omega (arith, p.kind)) ∙ empty)
      ∙ append-nil (before ++ record_bytes processor_kind (hold_at file n) (value_at file n))
      ∙ ap₂ (λ (l : List ℕ) (k : ℕ). l ++ record_bytes k (hold_at file n) (value_at file n))
      (sym (ap (λ (ws : List ℕ). before ++ records_bytes task_kind no_hold ws) empty ∙ append-nil before)) (sym p.kind)
    where
      before : List ℕ
      before = records_bytes processor_kind (among n) (values_of processor_kind file n)

      empty : values_of task_kind file n ≡ []
      empty = none (values_of task_kind file n) p.first

  one_task : (n : ℕ) → OfTask file n → behind (suc n) ≡ behind n ++ record_bytes (kind_at file n) (hold_at file n) (value_at file n)
  unfolding behind among
  one_task n t =
      ap₂ (λ (hs vs : List ℕ). records_bytes processor_kind (λ p. get_or hs p 0) vs ++ records_bytes task_kind no_hold (values_of task_kind file (suc n))) (standing_same file (hold_at file) processor_kind n (omega (arith, t.kind))) (values_same file processor_kind n (omega (arith, t.kind)))
      ∙ ap (λ (l : List ℕ). before ++ l) (ap (records_bytes task_kind no_hold) (values_more file task_kind n t.kind) ∙ records_snoc task_kind no_hold (values_of task_kind file n) (value_at file n))
      ∙ sym (append_assoc before (records_bytes task_kind no_hold (values_of task_kind file n)) (record_bytes task_kind 0 (value_at file n)))
      ∙ ap₂ (λ (k h : ℕ). behind n ++ record_bytes k h (value_at file n)) (sym t.kind) (sym t.no_hold_lem)
    where
      before : List ℕ
      before = records_bytes processor_kind (among n) (values_of processor_kind file n)

  next_written : (n : ℕ) → first_refusal (record_tests file n) ≡ 0 → 8 * suc n ≤ length file
      → behind (suc n) ≡ behind n ++ record_bytes (kind_at file n) (hold_at file n) (value_at file n) → written n ≡ take (8 * n) file → written (suc n) ≡ take (8 * suc n) file
  unfolding written
  next_written n r h more before =
      ap (λ (l : List ℕ). edition_bytes (edition_in file) ++ l) more
      ∙ sym (append_assoc (edition_bytes (edition_in file)) (behind n) (record_bytes (kind_at file n) (hold_at file n) (value_at file n)))
      ∙ ap (λ (l : List ℕ). l ++ record_bytes (kind_at file n) (hold_at file n) (value_at file n)) before
      ∙ sym (next_record file n h b (passed-blank file n r))

  front_written : (n : ℕ) → head_records (edition_in file) ≤ n → 8 * n ≤ length file → first_refusal (records_tests file n) ≡ 0
      → written (head_records (edition_in file)) ≡ take (8 * head_records (edition_in file)) file
  unfolding written behind records_bytes
  front_written n l h e =
      ap₂ (λ (es ws : List ℕ). edition_bytes (edition_in file) ++ (records_bytes processor_kind (among (head_records (edition_in file))) es ++ records_bytes task_kind no_hold ws)) (front-values file processor_kind (λ z. omega arith)) (front-values file task_kind (λ z. omega arith))
      ∙ append-nil (edition_bytes (edition_in file)) ∙ go (front file)
    where
      go : NoFront file ⊎ Front file → edition_bytes (edition_in file) ≡ take (8 * head_records (edition_in file)) file
      go (inl f) =
          unfold edition_bytes in ap edition_bytes f.edition ∙ sym (ap (λ (k : ℕ). take (8 * k) file) f.head)
      go (inr f) =
          let passed = passed-blank file 0 (passed-at file 0 (records_fewer file n 1 (omega (arith, f.head)) e)) in
          unfold edition_bytes in
          ap edition_bytes f.edition
          ∙ ap₂ (λ (k h : ℕ). record_bytes k h (value_at file 0)) (sym f.kind) (sym (blank_hold file 0 passed (omega (arith, f.kind))))
          ∙ sym (ap (λ (k : ℕ). take (8 * k) file) f.head ∙ next_record file 0 (omega (arith, f.head)) b passed)

  all_written : (n : ℕ) → head_records (edition_in file) ≤ n → 8 * n ≤ length file → first_refusal (records_tests file n) ≡ 0 → written n ≡ take (8 * n) file
  all_written n l h e =
      record_by_record file (λ k. 8 * k ≤ length file → written k ≡ take (8 * k) file) (λ m. front_written n l h e)
      (λ k m r p before q. next_written k r q (one_processor k p) (before (omega arith)))
      (λ k m r t before q. next_written k r q (one_task k t) (before (omega arith))) n l e h

  -- An accepted file, written out from what was read, has the same bytes.
  pub written_back : file_refusal file ≡ 0 → job_bytes (edition_in file) (job_in file) ≡ file
  unfolding job_bytes speeds_of holds_of weights_of written behind among
  written_back e =
      let r = file_early file e in
      let m = accepted_multiple file r in
      ap (λ (l : List ℕ). edition_bytes (edition_in file) ++ (l ++ records_bytes task_kind no_hold (weights_of file))) (sym (given_holds (startup_in file) (speeds_of file) (holds_of file) (weights_of file)))
      ∙ all_written (record_count file) (head_below file m) (omega arith) (accepted_records file r) ∙ take_all (8 * record_count file) file (omega arith)

-- The holds that are read: one for each speed, none of which is cut off,
pub all-holds : (file : List ℕ) → take (length (speeds_of file)) (holds_of file) ≡ holds_of file
all-holds file = take_all (length (speeds_of file)) (holds_of file) (omega (arith, holds-length file))

-- and each of 16 bits.
snoc_small : (k : ℕ) (xs : List ℕ) (v : ℕ) → v < k → ((p : ℕ) → get_or xs p 0 < k) → (p : ℕ) → get_or (xs ++ v ∷ []) p 0 < k
snoc_small k [] v h e zero = h
snoc_small k [] v h e (suc p) = e p
snoc_small k (x ∷ xs) v h e zero = e 0
snoc_small k (x ∷ xs) v h e (suc p) = snoc_small k xs v h (λ q. e (suc q)) p

module _ (file : List ℕ) (b : Bytes file) where
  hold_small : (i : ℕ) → hold_at file i < 2 ^ 16
  unfolding hold_at
  hold_small i = half_limit file (8 * i + 2) b

  holds_small : (n p : ℕ) → get_or (holds_among file n) p 0 < 2 ^ 16
  unfolding standing
  holds_small zero p = omega arith
  holds_small (suc n) p =
      elim (ℕ_discrete (kind_at file n) processor_kind) [
        | yes e ↦ subst (λ (l : List ℕ). get_or l p 0 < 2 ^ 16) (sym (standing_more file (hold_at file) processor_kind n e)) (snoc_small (2 ^ 16) (holds_among file n) (hold_at file n) (hold_small n) (holds_small n) p)
        | no h ↦ subst (λ (l : List ℕ). get_or l p 0 < 2 ^ 16) (sym (standing_same file (hold_at file) processor_kind n h)) (holds_small n p)
      ]

  pub exact_holds : ExactHolds (job_in file)
  unfolding hold_of holds_of
  exact_holds =
      record {
        count = ap length (all-holds file) ∙ holds-length file;
        limit = λ p. subst (λ (l : List ℕ). get_or l p 0 < 2 ^ 16) (sym (all-holds file)) (holds_small (record_count file) p);
      }

-- A job by lists has one for each processor, where the list is long enough.
pub given_exact : (c : ℕ) (es hs ws : List ℕ) → length es ≤ length hs → ((p : ℕ) → get_or hs p 0 < 2 ^ 16) → ExactHolds (job_of c es hs ws)
unfolding hold_of
given_exact c es hs ws h k =
    record {
      count = length-take-le (length es) hs h;
      limit = λ p. elim (dec_le (suc p) (length es)) [ yes l ↦ subst (λ (x : ℕ). x < 2 ^ 16) (sym (get_or-take (length es) hs p 0 l)) (k p) | no l ↦ subst (λ (x : ℕ). x < 2 ^ 16) (sym (get_or-eq_default (take (length es) hs) 0 (omega (arith, length-take-le (length es) hs h)))) (omega arith) ];
    }

replicate_snoc : (x k : ℕ) → replicate k x ++ x ∷ [] ≡ replicate (suc k) x
replicate_snoc x zero = refl
replicate_snoc x (suc k) = ap (λ (l : List ℕ). x ∷ l) (replicate_snoc x k)

-- Scope 18.26: "A file whose bytes 2 and 3 are all zero is such a job", one without holds.
pub record NoHoldBytes (file : List ℕ) : Type 0 where
  pub second : (i : ℕ) → byte_at file i 2 ≡ 0
  pub third : (i : ℕ) → byte_at file i 3 ≡ 0

module _ (file : List ℕ) (z : NoHoldBytes file) where
  none_set : (n : ℕ) → holds_among file n ≡ replicate (length (holds_among file n)) 0
  unfolding standing
  none_set zero = refl
  none_set (suc n) =
      elim (ℕ_discrete (kind_at file n) processor_kind) [
        | yes e ↦ let more : holds_among file (suc n) ≡ holds_among file n ++ 0 ∷ [] = standing_more file (hold_at file) processor_kind n e ∙ ap (λ (h : ℕ). holds_among file n ++ h ∷ []) (hold_zero file n (z.second n) (z.third n)) in
            more ∙ ap (λ (l : List ℕ). l ++ 0 ∷ []) (none_set n) ∙ replicate_snoc 0 (length (holds_among file n))
            ∙ ap (λ (k : ℕ). replicate k 0) (let l : suc (length (holds_among file n)) ≡ length (holds_among file (suc n)) = omega (arith, ap length more, length-append (holds_among file n) (0 ∷ [])) in l)
        | no h ↦ let same : holds_among file (suc n) ≡ holds_among file n = standing_same file (hold_at file) processor_kind n h in same ∙ none_set n ∙ ap (λ (l : List ℕ). replicate (length l) 0) (sym same)
      ]

  pub free_read : job_in file ≡ free_job (startup_in file) (speeds_of file) (weights_of file)
  unfolding holds_of
  free_read =
      ap (λ (hs : List ℕ). job_of (startup_in file) (speeds_of file) hs (weights_of file))
      (none_set (record_count file) ∙ ap (λ (k : ℕ). replicate k 0) (holds-length file))

-- Every value that is read is in range.
module _ (file : List ℕ) where
  each_snoc : (lo hi : ℕ) (xs : List ℕ) (x : ℕ) → each_between lo hi xs ≡ true → lo ≤ x → x ≤ hi → each_between lo hi (xs ++ x ∷ []) ≡ true
  unfolding each_between
  each_snoc lo hi [] x e h k = ap (λ (c : Bool). c && true) (between_in lo hi x h k)
  each_snoc lo hi (y ∷ xs) x e h k = go (between lo hi y) e (each_snoc lo hi xs x)
    where
      go : (c : Bool) → (c && each_between lo hi xs) ≡ true → (each_between lo hi xs ≡ true → lo ≤ x → x ≤ hi → each_between lo hi (xs ++ x ∷ []) ≡ true)
          → (c && each_between lo hi (xs ++ x ∷ [])) ≡ true
      go true f g = g f h k
      go false f g = f

  pub record InRange (n : ℕ) : Type 0 where
    pub speeds : each_between 1 max_speed (values_of processor_kind file n) ≡ true
    pub weights : each_between 0 max_weight (values_of task_kind file n) ≡ true

  in_range : (n : ℕ) → head_records (edition_in file) ≤ n → first_refusal (records_tests file n) ≡ 0 → InRange n
  in_range n h e = record_by_record file InRange none_yet (λ k l r p q. one_speed k p q) (λ k l r t q. one_weight k t q) n h e
    where
      none_yet : InRange (head_records (edition_in file))
      none_yet =
          unfold each_between in
          record {
            speeds = ap (each_between 1 max_speed) (front-values file processor_kind (λ z. omega arith));
            weights = ap (each_between 0 max_weight) (front-values file task_kind (λ z. omega arith));
          }

      one_speed : (n : ℕ) → OfProcessor file n → InRange n → InRange (suc n)
      one_speed n p q =
          record {
            speeds = ap (each_between 1 max_speed) (values_more file processor_kind n p.kind) ∙ each_snoc 1 max_speed (values_of processor_kind file n) (value_at file n) q.speeds p.positive p.limit;
            weights = ap (each_between 0 max_weight) (values_same file task_kind n (omega (arith, p.kind))) ∙ q.weights;
          }

      one_weight : (n : ℕ) → OfTask file n → InRange n → InRange (suc n)
      one_weight n t q =
          record {
            speeds = ap (each_between 1 max_speed) (values_same file processor_kind n (omega (arith, t.kind))) ∙ q.speeds;
            weights = ap (each_between 0 max_weight) (values_more file task_kind n t.kind) ∙ each_snoc 0 max_weight (values_of task_kind file n) (value_at file n) q.weights (omega arith) t.limit;
          }

  -- And so is the start-up work.
  startup_in_range : (n : ℕ) → head_records (edition_in file) ≤ n → first_refusal (records_tests file n) ≡ 0 → startup_in file ≤ max_startup
  unfolding startup_of
  startup_in_range n h e = go (front file)
    where
      first : kind_at file 0 ≡ startup_kind → OfProcessor file 0 ⊎ (OfTask file 0 ⊎ OfStartup file 0) → value_at file 0 ≤ max_startup
      first k (inl p) = absurd (let z : ⊥ = omega (arith, p.kind) in z)
      first k (inr (inl t)) = absurd (let z : ⊥ = omega (arith, t.kind) in z)
      first k (inr (inr s)) = s.limit

      go : NoFront file ⊎ Front file → startup_in file ≤ max_startup
      go (inl f) = omega (arith, ap startup_of f.edition)
      go (inr f) =
          omega (arith, ap startup_of f.edition, first f.kind (passed_record file 0 (passed-at file 0 (records_fewer file n 1 (omega (arith, f.head)) e))))

  -- An accepted file holds a valid job.
  pub accepted_valid : file_refusal file ≡ 0 → Valid (job_in file)
  unfolding speeds_of weights_of processors_test tasks_test holds_test length_test
  accepted_valid e =
      let r = file_early file e in
      let h = head_below file (accepted_multiple file r) in
      let q = in_range (record_count file) h (accepted_records file r) in
      let c = startup_in_range (record_count file) h (accepted_records file r) in
      job_accepted.0 (sym (counts_decide (weights_of file) (holds_of file) (speeds_of file) refl c refl (sym q.speeds) refl refl (sym q.weights) refl (sym e ∙ file_counts file r)))
      (le→leb (length (speeds_of file)) (length (take (length (speeds_of file)) (holds_of file))) (omega (arith, ap length (all-holds file), holds-length file)))

-- From the job: the first n records of its file hold these speeds, holds and weights, and pass.
pub record Back (file : List ℕ) (n : ℕ) (es hs ws : List ℕ) : Type 0 where
  pub speeds : values_of processor_kind file n ≡ es
  pub holds : holds_among file n ≡ hs
  pub weights : values_of task_kind file n ≡ ws
  pub passed : first_refusal (records_tests file n) ≡ 0

module _ {file : List ℕ} {n v : ℕ} {es hs ws : List ℕ} (q : Back file n es hs ws) (small : v < 2 ^ 32) where
  pub back_processor : {a : ℕ} → Has file n processor_kind a v → a < 2 ^ 16 → ws ≡ [] → 1 ≤ v → v ≤ max_speed → Back file (suc n) (es ++ v ∷ []) (hs ++ a ∷ []) ws
  back_processor h s z l k =
      record {
        speeds = values_more file processor_kind n (has_kind h) ∙ ap₂ (λ (l : List ℕ) (x : ℕ). l ++ x ∷ []) q.speeds (has_value h small);
        holds = standing_more file (hold_at file) processor_kind n (has_kind h) ∙ ap₂ (λ (l : List ℕ) (x : ℕ). l ++ x ∷ []) q.holds (has_hold h s);
        weights = values_same file task_kind n (omega (arith, has_kind h)) ∙ q.weights;
        passed = records_next file n q.passed ∙ sym (processor_passes file n (sym (has_kind h)) (sym (has_value h small)) (sym (processor_has_blank h refl)) (sym (ap length (q.weights ∙ z))) refl refl (omega arith) refl (omega arith) k);
      }

  pub back_task : Has file n task_kind 0 v → v ≤ max_weight → Back file (suc n) es hs (ws ++ v ∷ [])
  back_task h k =
      record {
        speeds = values_same file processor_kind n (omega (arith, has_kind h)) ∙ q.speeds;
        holds = standing_same file (hold_at file) processor_kind n (omega (arith, has_kind h)) ∙ q.holds;
        weights = values_more file task_kind n (has_kind h) ∙ ap₂ (λ (l : List ℕ) (x : ℕ). l ++ x ∷ []) q.weights (has_value h small);
        passed = records_next file n q.passed ∙ sym (task_passes file n (sym (has_kind h)) (sym (has_value h small)) (sym (other_has_blank h (omega arith) refl)) refl refl refl k);
      }

  pub back_startup : Has file n startup_kind 0 v → n ≡ 0 → v ≤ max_startup → Back file (suc n) es hs ws
  back_startup h z k =
      record {
        speeds = values_same file processor_kind n (omega (arith, has_kind h)) ∙ q.speeds;
        holds = standing_same file (hold_at file) processor_kind n (omega (arith, has_kind h)) ∙ q.holds;
        weights = values_same file task_kind n (omega (arith, has_kind h)) ∙ q.weights;
        passed = records_next file n q.passed ∙ sym (startup_passes file n (sym (has_kind h)) (sym (has_value h small)) (sym (other_has_blank h (omega arith) refl)) refl refl (omega arith) refl k);
      }

-- Within a list the default is never read.
same_default : (l : List ℕ) (i a b : ℕ) → i < length l → get_or l i a ≡ get_or l i b
same_default [] i a b h = absurd (let z : ⊥ = omega arith in z)
same_default (x ∷ l) zero a b h = refl
same_default (x ∷ l) (suc i) a b h = same_default l i a b (omega arith)

-- What the records of a job's file hold.
module _ (edition : Edition) (job : Job) where
  speed_has : (i : ℕ) → i < length job.speeds → Has (job_bytes edition job) (head_records edition + i) processor_kind (hold_of job i) (get_or job.speeds i 0)
  unfolding job_bytes
  speed_has i h =
      after_front edition (records_bytes processor_kind (hold_of job) job.speeds ++ records_bytes task_kind no_hold job.weights) i processor_kind (hold_of job i) (get_or job.speeds i 0)
      (run_record processor_kind (hold_of job) job.speeds (records_bytes task_kind no_hold job.weights) i h)

  weight_has : (i : ℕ) → i < length job.weights
      → Has (job_bytes edition job) (head_records edition + (length job.speeds + i)) task_kind 0 (get_or job.weights i 0)
  unfolding job_bytes
  weight_has i h =
      after_front edition (records_bytes processor_kind (hold_of job) job.speeds ++ records_bytes task_kind no_hold job.weights) (length job.speeds + i) task_kind 0 (get_or job.weights i 0)
      (after_run processor_kind (hold_of job) job.speeds (records_bytes task_kind no_hold job.weights) i task_kind 0 (get_or job.weights i 0)
      (subst (λ (l : List ℕ). Has l i task_kind 0 (get_or job.weights i 0)) (append-nil (records_bytes task_kind no_hold job.weights)) (run_record task_kind no_hold job.weights [] i h)))

startup_has : (c : ℕ) (job : Job) → Has (job_bytes (Second c) job) 0 startup_kind 0 c
unfolding job_bytes
startup_has c job = front_record c (records_bytes processor_kind (hold_of job) job.speeds ++ records_bytes task_kind no_hold job.weights)

work_limit : (c : ℕ) (job : Job) → OfEdition (Second c) job → Valid job → c ≤ max_startup
unfolding startup_of
work_limit c job of ok = omega (arith, of.counts, ok.startup_limit)

small_work : (c : ℕ) (job : Job) → OfEdition (Second c) job → Valid job → c < 2 ^ 32
unfolding max_startup
small_work c job of ok = omega (arith, work_limit c job of ok)

-- A job of an edition, written and read back, is of that edition.
pub edition_back : (edition : Edition) (job : Job) → OfEdition edition job → Valid job → edition_in (job_bytes edition job) ≡ edition
edition_back First job of ok = go (front (job_bytes First job))
  where
    go : NoFront (job_bytes First job) ⊎ Front (job_bytes First job) → edition_in (job_bytes First job) ≡ First
    go (inl f) = f.edition
    go (inr f) =
        absurd (let z : ⊥ = unfold head_records in omega (arith, f.kind, has_kind (speed_has First job 0 ok.some_processor)) in z)
edition_back (Second c) job of ok = go (front (job_bytes (Second c) job))
  where
    go : NoFront (job_bytes (Second c) job) ⊎ Front (job_bytes (Second c) job) → edition_in (job_bytes (Second c) job) ≡ Second c
    go (inl f) = absurd (f.kind (has_kind (startup_has c job)))
    go (inr f) = f.edition ∙ ap Second (has_value (startup_has c job) (small_work c job of ok))

back_none : (file : List ℕ) → Back file 0 [] [] []
unfolding standing records_tests first_refusal
back_none file = record { speeds = refl; holds = refl; weights = refl; passed = refl }

back_front : (edition : Edition) (job : Job) → OfEdition edition job → Valid job → Back (job_bytes edition job) (head_records edition) [] [] []
unfolding head_records
back_front First job of ok = back_none (job_bytes First job)
back_front (Second c) job of ok =
    back_startup (back_none (job_bytes (Second c) job)) (small_work c job of ok) (startup_has c job) refl (work_limit c job of ok)

module _ (edition : Edition) (job : Job) (of : OfEdition edition job) (ok : Valid job) (exact : ExactHolds job) where
  abbrev file : List ℕ
  file = job_bytes edition job

  abbrev head : ℕ
  head = head_records edition

  abbrev es : List ℕ
  es = job.speeds

  abbrev hs : List ℕ
  hs = job.holds

  abbrev ws : List ℕ
  ws = job.weights

  back_processors : (n : ℕ) → n ≤ length es → Back file (head + n) (take n es) (take n hs) []
  unfolding speed_of hold_of max_speed
  back_processors zero h =
      subst (λ (n : ℕ). Back file n [] [] []) (let e : head ≡ head + 0 = omega arith in e) (back_front edition job of ok)
  back_processors (suc n) h =
      let same : get_or es n 0 ≡ get_or es n 1 = same_default es n 0 1 h in
      subst (λ (k : ℕ). Back file k (take (suc n) es) (take (suc n) hs) []) (let e : suc (head + n) ≡ head + suc n = omega arith in e)
      (subst (λ (l : List ℕ). Back file (suc (head + n)) (take (suc n) es) l []) (sym (take-suc hs n 0 (omega (arith, exact.count))))
      (subst (λ (l : List ℕ). Back file (suc (head + n)) l (take n hs ++ get_or hs n 0 ∷ []) []) (sym (take-suc es n 0 h))
      (back_processor (back_processors n (omega arith)) (omega (arith, same, ok.speeds_limit n)) (speed_has edition job n h) (exact.limit n) refl
      (omega (arith, same, ok.speeds_positive n)) (omega (arith, same, ok.speeds_limit n)))))

  all-processors : Back file (head + length es) es hs []
  all-processors =
      subst (λ (l : List ℕ). Back file (head + length es) es l []) (ap (λ (n : ℕ). take n hs) (sym exact.count) ∙ take-length hs)
      (subst (λ (l : List ℕ). Back file (head + length es) l (take (length es) hs) []) (take-length es) (back_processors (length es) (omega arith)))

  back_tasks : (m : ℕ) → m ≤ length ws → Back file (head + (length es + m)) es hs (take m ws)
  unfolding max_weight
  back_tasks zero h =
      subst (λ (n : ℕ). Back file n es hs []) (let e : head + length es ≡ head + (length es + 0) = omega arith in e) all-processors
  back_tasks (suc m) h =
      subst (λ (n : ℕ). Back file n es hs (take (suc m) ws)) (let e : suc (head + (length es + m)) ≡ head + (length es + suc m) = omega arith in e)
      (subst (λ (l : List ℕ). Back file (suc (head + (length es + m))) es hs l) (sym (take-suc ws m 0 h))
      (back_task (back_tasks m (omega arith)) (omega (arith, ok.weights_limit m)) (weight_has edition job m h) (ok.weights_limit m)))

  back : Back file (record_count file) es hs ws
  back =
      subst (λ (n : ℕ). Back file n es hs ws) (let e : head + (length es + length ws) ≡ record_count file = omega (arith, length_bytes edition job) in e)
      (subst (λ (l : List ℕ). Back file (head + (length es + length ws)) es hs l) (take-length ws) (back_tasks (length ws) (omega arith)))

  -- A valid job of an edition, written and read back, gives the same lists and the same start-up work,
  pub speeds_back : speeds_of (job_bytes edition job) ≡ job.speeds
  unfolding speeds_of
  speeds_back = back.speeds

  pub holds_back : holds_of (job_bytes edition job) ≡ job.holds
  unfolding holds_of
  holds_back = back.holds

  pub weights_back : weights_of (job_bytes edition job) ≡ job.weights
  unfolding weights_of
  weights_back = back.weights

  pub startup_back : startup_in (job_bytes edition job) ≡ job.startup
  startup_back = ap startup_of (edition_back edition job of ok) ∙ sym of.counts

  -- so the same job;
  pub job_back : job_in (job_bytes edition job) ≡ job
  job_back =
      ap₂ (λ (es hs : List ℕ). job_of (startup_in file) es hs (weights_of file)) speeds_back holds_back
      ∙ ap₂ (λ (c : ℕ) (ws : List ℕ). job_of c es hs ws) startup_back weights_back
      ∙ ap (λ (l : List ℕ). whole l) (ap (λ (n : ℕ). take n hs) (sym exact.count) ∙ take-length hs)
    where
      whole : List ℕ → Job
      whole l = record { startup = job.startup; weights = ws; speeds = es; holds = l }

  -- and its bytes are accepted.
  pub bytes_accepted : file_refusal (job_bytes edition job) ≡ 0
  unfolding processors_test tasks_test
  bytes_accepted =
      file_counts file (multiple_passes file (omega (arith, length_bytes edition job)) ∙ back.passed)
      ∙ ap₂ (λ (es ws : List ℕ). first_refusal (processors_test es ∷ tasks_test ws ∷ [])) speeds_back weights_back
      ∙ passes 7 (tasks_test ws ∷ []) (between_in 1 max_processors (length es) ok.some_processor ok.processors_limit)
      ∙ passes 8 [] (le-leb (length ws) max_tasks ok.tasks_limit) ∙ passed-all

-- Reading accepts exactly the job files.
pub accepted_exactly : (file : List ℕ) → Bytes file → (file_refusal file ≡ 0) ↔ JobFile file
accepted_exactly file b = (
  λ e. record {
    edition = edition_in file;
    job = job_in file;
    of = job_edition file;
    valid = accepted_valid file e;
    exact = exact_holds file b;
    bytes = sym (written_back file b e);
  },
  λ f. ap file_refusal f.bytes ∙ bytes_accepted f.edition f.job f.of f.valid f.exact,
)

-- A job file holds one job, of one edition:
pub one_job : (bytes : List ℕ) (f : JobFile bytes) → (f.edition ≡ edition_in bytes) × (f.job ≡ job_in bytes)
one_job bytes f = (
  sym (ap edition_in f.bytes ∙ edition_back f.edition f.job f.of f.valid),
  sym (ap job_in f.bytes ∙ job_back f.edition f.job f.of f.valid f.exact),
)

-- two jobs with the same bytes are the same job, of the same edition.
pub same_bytes : {d e : Edition} {job other : Job} → OfEdition d job → Valid job → ExactHolds job → OfEdition e other → Valid other → ExactHolds other
    → job_bytes d job ≡ job_bytes e other → (d ≡ e) × (job ≡ other)
same_bytes {d} {e} {job} {other} of ok exact of' ok' exact' same = (
  sym (edition_back d job of ok) ∙ ap edition_in same ∙ edition_back e other of' ok',
  sym (job_back d job of ok exact) ∙ ap job_in same ∙ job_back e other of' ok' exact',
)
