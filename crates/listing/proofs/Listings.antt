-- What the functions of a listing put is the text of the definition.
-- Assumes nothing.
use Prim.Native.Nat.{ℕ, suc, min, ◌+◌, ◌≤◌}
use Rattle.std.proofs.lemmas.List.{take_min}
use Rattle.std.specs.Result.{IsErrAnd}
use mathlib.Core.Path.{◌≡◌, refl, sym, ap, ap₂, ◌∙◌}
use mathlib.Core.List.{List, [], ◌∷◌, ◌++◌}
use mathlib.Core.Logic.{◌≢◌}
use native.Mathlib.Omega.{arith}
use native.Mathlib.Decide.{dec_le}
use lib.ListN.{length, take}
use lib.Seq.{take_all}
use borrow.Author.Tests.{ne_eqb}
use lib.Dec.{T}
use mathlib.Core.Bool.{Bool, true, false, cond}
use Rattle.std.specs.Prelude.{Result, Ok, Err}
use Rattle.chain.specs.declared.Method.{Method}
use Rattle.chain.specs.declared.Method.TheVariants.{Table, Bidding, Bisection, Nicol}
use Rattle.chain.specs.Job.{Edition, Job, Valid, processors, held, enough}
use Rattle.chain.specs.Plan.{plan_of, takes}
use Rattle.chain.specs.Refusal.{enough_test, first_refusal}
use Rattle.chain.proofs.Tests.{T-not-of}
use Rattle.chain.proofs.Refusals.{pass_head, first_decide, others_decide}
use Rattle.chain.specs.declared.Refusal.{Refusal}
use Rattle.chain.specs.Numbers.{number_of, code_of, refused}
use Rattle.chain.proofs.Numbers.{code_nonzero}
use Rattle.refusals.proofs.Tests.{length_short}
use Rattle.refusals.proofs.Answering.{wrote_refused, wrote_all}
use Rattle.jobs.specs.Parse.{edition_in, job_in, file_tests, file_refusal}
use Rattle.jobs.proofs.Calls.{file_numbered}
use Rattle.parts.proofs.Front.{taken}
use Rattle.planner.specs.declared.Figures.{Figures}
use Rattle.planner.specs.Answers.{plan_figures, Tested}
use Rattle.planner.proofs.Laws.{plan_length}
use Rattle.texts.specs.Text.{refusal_line}
use Rattle.listing.specs.Listing.{plan_line, method_line, last_line, job_listing, listing_by, listing_of}
use Rattle.listing.specs.Listing.{listed_tests, listed_refusal, intake, listing}
use Rattle.texts.specs.Room.{Put}
use Rattle.texts.specs.Page.{Puts}
use Rattle.texts.specs.declared.Page.{Page}
use Rattle.listing.specs.Room.{listing_room}
use Rattle.listing.specs.Answers.{list_tests, list_refusal, list_answer, list_writes}
use Rattle.texts.proofs.Laws.{puts_as, put_front}

-- The line of a method, from its plan's figures and a list with the plan's separators in front.
pub method_put : (edition : Edition) (method : Method) {job : Job} (v : Valid job) {f : Figures} (l : List ℕ)
    {s : List ℕ} {p p₁ : Page} → f ≡ plan_figures edition method job → s ≡ plan_of job ++ l
    → Puts (plan_line (number_of method) f (take (processors job + 1) s)) p p₁ → Puts (method_line edition method job) p p₁
unfolding method_line
method_put edition method {job} v {f} l {s} g h put =
    let next : processors job + 1 ≡ suc (processors job) = omega arith in
    let front : take (processors job + 1) s ≡ plan_of job = taken (plan_of job) l (plan_length v ∙ sym next) h in
    puts_as (ap₂ (λ (x : Figures) (t : List ℕ). plan_line (number_of method) x t) g front) put

-- The line of method 4, of a job with holds and of one without.
pub last_none : (edition : Edition) (job : Job) {b : Bool} → b ≡ held job → b ≡ true → [] ≡ last_line edition job
unfolding last_line
last_none edition job e h = ap (λ (t : Bool). cond t [] (method_line edition Nicol job)) (sym h ∙ e)

pub last_line_lem : (edition : Edition) (job : Job) {b : Bool} → b ≡ held job → b ≡ false
    → method_line edition Nicol job ≡ last_line edition job
unfolding last_line
last_line_lem edition job e h = ap (λ (t : Bool). cond t [] (method_line edition Nicol job)) (sym h ∙ e)

-- A job whose holds are enough is planned by the methods 1 to 3, and without holds by method 4.
module _ {job : Job} (k : Valid job × T (enough job)) where
  pub table_tested : Tested Table job
  unfolding takes
  table_tested = record { valid = k.0; enough-holds = k.1; taken = tt }

  pub bidding_tested : Tested Bidding job
  unfolding takes
  bidding_tested = record { valid = k.0; enough-holds = k.1; taken = tt }

  pub bisection_tested : Tested Bisection job
  unfolding takes
  bisection_tested = record { valid = k.0; enough-holds = k.1; taken = tt }

pub free_tested : {job : Job} {b : Bool} → Valid job × T (enough job) → b ≡ held job → b ≡ false → Tested Nicol job
unfolding takes
free_tested k e h = record { valid = k.0; enough-holds = k.1; taken = T-not-of (sym e ∙ h) }

-- Where test 17 passes, the holds are enough.
pub kept_enough : (job : Job) → first_refusal (enough_test job ∷ []) ≡ 0 → T (enough job)
unfolding enough_test
kept_enough job e = pass_head (enough_test job) [] (omega arith) e

-- The line of a refusal, by its number, and the listing of a job that nothing refuses.
pub refused_by : (edition : Edition) (job : Job) {k n : ℕ} → k ≡ n → k ≢ 0 → refusal_line k ≡ listing_by n edition job
unfolding listing_by
refused_by edition job {k} e h =
    sym (ap (λ (b : Bool). cond b (job_listing edition job) (refusal_line k)) (ne_eqb k 0 h))
    ∙ ap (λ (j : ℕ). listing_by j edition job) e

pub listed_by : (edition : Edition) (job : Job) {n : ℕ} → n ≡ 0 → job_listing edition job ≡ listing_by n edition job
unfolding listing_by
listed_by edition job z = ap (λ (j : ℕ). listing_by j edition job) (sym z)

-- The number that a file is refused with: that of reading, or, where it is read, that of the test of its job's holds.
pub listed_first : (file : List ℕ) {k : ℕ} → k ≡ file_refusal file → k ≢ 0 → k ≡ listed_refusal file
unfolding listed_refusal listed_tests file_refusal
listed_first file e h = first_decide (file_tests file) (enough_test (job_in file) ∷ []) e h

pub listed_enough : (file : List ℕ) {job : Job} → file_refusal file ≡ 0 → job ≡ job_in file
    → first_refusal (enough_test job ∷ []) ≡ listed_refusal file
unfolding listed_refusal listed_tests file_refusal
listed_enough file e f =
    ap (λ (j : Job). first_refusal (enough_test j ∷ [])) f
    ∙ others_decide (file_tests file) (enough_test (job_in file) ∷ []) refl (file_numbered file) e refl

-- The listing of a file whose job is listed, and of one that is refused.
pub listed_job : (file : List ℕ) {edition : Edition} {job : Job} → listed_refusal file ≡ 0
    → edition ≡ edition_in file → job ≡ job_in file → job_listing edition job ≡ listing_of (listed_refusal file) file
unfolding listing_of
listed_job file z d f = ap₂ job_listing d f ∙ listed_by (edition_in file) (job_in file) z

pub listed_refused : (file : List ℕ) {A : Type 0} {r : Result A Refusal} {refusal : Refusal}
    → refused r ≡ listed_refusal file → r ≡ Err refusal → refusal_line (code_of refusal) ≡ listing_of (listed_refusal file) file
unfolding listing_of refused
listed_refused file {r = r} {refusal = refusal} e h =
    let k : code_of refusal ≡ listed_refusal file = sym (ap refused h) ∙ e in
    refused_by (edition_in file) (job_in file) k (code_nonzero refusal)

-- A file that is not too long is listed whole.
pub listed_whole : (file : List ℕ) → length file ≤ intake → listing_of (listed_refusal file) file ≡ listing file
unfolding listing
listed_whole file h = ap (λ (l : List ℕ). listing_of (listed_refusal l) l) (sym (take_all intake file h))

-- So are the first bytes, as many as there are of those that are taken in.
pub listed_taken : (file : List ℕ) {n : ℕ} → n ≡ min intake (length file)
    → listing_of (listed_refusal (take n file)) (take n file) ≡ listing file
unfolding listing
listed_taken file {n} e =
    ap (λ (l : List ℕ). listing_of (listed_refusal l) l) (ap (λ (k : ℕ). take k file) e ∙ take_min intake file)

-- A buffer that is not refused has room for the longest listing.
pub list_room : (lent : ℕ) → list_refusal lent ≡ 0 → listing_room ≤ lent
unfolding list_refusal list_tests
list_room lent e =
    elim (dec_le listing_room lent) [
      | yes p ↦ p
      | no p ↦ let z = length_short listing_room lent (omega arith) in absurd (omega (arith, e, z))
    ]

-- What the call answers and leaves: of a buffer that is refused, and of the listing put into it.
pub list_refused : (file out : List ℕ) {A : Type 0} {r : Result A Refusal} {refusal : Refusal} (q : Result ℕ Refusal)
    → r ≡ Err refusal → IsErrAnd q (λ e. e ≡ refusal) → refused r ≡ list_refusal (length out)
    → (q ≡ list_answer file (length out)) × (out ≡ list_writes file out)
unfolding list_answer list_writes
list_refused file out q h f e = wrote_refused (length (listing file)) (listing file) out q h f e

pub list_done : (file : List ℕ) {out later : List ℕ} {n : ℕ} → Put (listing file) 0 out later n → n ≤ length out
    → list_refusal (length out) ≡ 0 → (Ok n ≡ list_answer file (length out)) × (later ≡ list_writes file out)
unfolding list_answer list_writes
list_done file {out} {later} {n} p h e =
    let f = put_front p h in
    let w = wrote_all (length (listing file)) (listing file) out e (sym f.0) f.1 in
    (ap Ok f.0 ∙ w.0, w.1)
