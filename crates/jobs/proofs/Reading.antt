-- What reading a job file answers and leaves, by its tests.
-- Assumes nothing.
use Prim.Native.Nat.{ℕ, ◌+◌, ◌%◌, ◌≤◌}
use mathlib.Core.Path.{◌≡◌, refl, sym, ap, ap₂, ◌∙◌}
use mathlib.Core.Bool.{Bool}
use mathlib.Core.List.{List, [], ◌∷◌, ◌++◌, append_assoc}
use mathlib.Core.Logic.{◌≢◌, ◌⊎◌, inl, inr}
use native.Mathlib.Omega.{arith}
use native.Mathlib.Decide.{ℕ_discrete}
use lib.Dec.{T, leb, leb→le}
use lib.ListN.{length, drop}
use Rattle.std.specs.Prelude.{Result, Ok, Err}
use Rattle.chain.specs.declared.Refusal.{Refusal}
use Rattle.chain.specs.Limits.{max_processors, max_tasks}
use Rattle.chain.specs.Lists.{tabulate}
use Rattle.chain.specs.Numbers.{refused, answered}
use Rattle.chain.specs.Refusal.{Test, test, between, processors_test, tasks_test, length_test, first_refusal}
use Rattle.chain.specs.Job.{edition_of}
use Rattle.chain.proofs.Numbers.{refused_ok, err_nonzero, answered_ok, answered_err}
use Rattle.chain.proofs.Refusals.{Numbered, numbered_nil, numbered_cons, numbered_append, append_accepted, pass_head, pass_skip, first_refusal-append, first_refusal_before}
use Rattle.refusals.specs.Inputs.{head_records}
use Rattle.refusals.specs.Answers.{lent_after}
use Rattle.refusals.proofs.Lent.{lent_refused, lent_accepted}
use Rattle.refusals.proofs.Values.{answered_value}
use Rattle.jobs.specs.declared.JobRead.{JobRead}
use Rattle.jobs.specs.JobFile.{processor_kind}
use Rattle.jobs.specs.Parse.{record_count, value_at, hold_at, multiple_test, records_tests, edition_in, speeds_of, holds_of, weights_of, file_tests, file_refusal}
use Rattle.jobs.specs.Answers.{read_in, read_tests, read_refusal, read_answer, read_speeds, read_holds, read_weights}
use Rattle.jobs.specs.Inner.{records_refusal}
use Rattle.jobs.proofs.Answered as answer
use Rattle.jobs.proofs.AllRecords.{records_numbered, standing-length, multiple_fails, multiple_passes, Told}
use Rattle.jobs.proofs.Passed.{NoFront, Front, front, kind_some, Placed, placed}

-- A file has as many holds as speeds.
pub holds-length : (file : List ℕ) → length (holds_of file) ≡ length (speeds_of file)
unfolding holds_of speeds_of
holds-length file = standing-length file (hold_at file) (value_at file) processor_kind (record_count file)

-- Tests in two parts: k is what the first part gives.
module _ (ts us : List Test) {k : ℕ} (e : k ≡ first_refusal ts) where
  stops : k ≢ 0 → first_refusal (ts ++ us) ≡ k
  stops h = first_refusal_before ts us (λ z. h (e ∙ z)) ∙ sym e

  goes_on : Numbered ts → k ≡ 0 → first_refusal (ts ++ us) ≡ first_refusal us
  goes_on n z = first_refusal-append ts us n (sym e ∙ z)

-- The test of one length.
abbrev fit : ℕ → ℕ → List Test
fit needed given = length_test needed given ∷ []

fit_numbered : (needed given : ℕ) → Numbered (fit needed given)
unfolding length_test
fit_numbered needed given = numbered_cons (omega arith) numbered_nil

fits : (needed given : ℕ) (ts : List Test) → first_refusal (length_test needed given ∷ ts) ≡ 0 → (needed ≤ given) × (first_refusal ts ≡ 0)
unfolding length_test
fits needed given ts e =
    let t = length_test needed given in
    let p : T t.passes = pass_head t ts (omega arith) e in
    (leb→le needed given p, sym (pass_skip t ts p) ∙ e)

module _ (file : List ℕ) where
  -- The tests of the length and of the records.
  early : List Test
  early = multiple_test file ∷ records_tests file (record_count file)

  early_numbered : Numbered early
  unfolding early multiple_test
  early_numbered = numbered_cons (omega arith) (records_numbered file (record_count file))

  -- The tests 7 and 8.
  counts : List Test
  counts = processors_test (speeds_of file) ∷ tasks_test (weights_of file) ∷ []

  counts_numbered : Numbered counts
  unfolding counts processors_test tasks_test
  counts_numbered = numbered_cons (omega arith) (numbered_cons (omega arith) numbered_nil)

  -- Accepted by them, a file has a length that is a multiple of 8, and records that pass.
  pub accepted_multiple : records_refusal file ≡ 0 → length file % 8 ≡ 0
  accepted_multiple e =
      elim (ℕ_discrete (length file % 8) 0) [ yes z ↦ z | no z ↦ absurd (let w : ⊥ = omega (arith, multiple_fails file z, e) in w) ]

  pub accepted_records : records_refusal file ≡ 0 → first_refusal (records_tests file (record_count file)) ≡ 0
  accepted_records e = sym (multiple_passes file (accepted_multiple e)) ∙ e

  -- Every record in front is one of the file's.
  pub head_below : length file % 8 ≡ 0 → head_records (edition_in file) ≤ record_count file
  head_below m = go (front file)
    where
      go : NoFront file ⊎ Front file → head_records (edition_in file) ≤ record_count file
      go (inl f) = omega (arith, f.head)
      go (inr f) = omega (arith, f.head, kind_some file f.kind)

  pub accepted_placed : records_refusal file ≡ 0 → Placed file (record_count file)
  accepted_placed e = placed file (record_count file) (head_below (accepted_multiple e)) (accepted_records e)

  -- The records are those in front, those of the processors and those of the tasks.
  pub accepted_together : records_refusal file ≡ 0 → head_records (edition_in file) + (length (speeds_of file) + length (weights_of file)) ≡ record_count file
  unfolding speeds_of weights_of
  accepted_together e = (accepted_placed e).together

  -- The file's own tests: those of the length and the records decide where they fail, 7 and 8 otherwise.
  pub file_early : file_refusal file ≡ 0 → records_refusal file ≡ 0
  unfolding file_refusal file_tests records_refusal early counts
  file_early e =
      elim (ℕ_discrete (first_refusal early) 0) [ yes z ↦ z | no z ↦ sym (stops early counts refl z) ∙ e ]

  pub file_counts : records_refusal file ≡ 0 → file_refusal file ≡ first_refusal (processors_test (speeds_of file) ∷ tasks_test (weights_of file) ∷ [])
  unfolding file_refusal file_tests records_refusal early counts
  file_counts e = goes_on early counts refl early_numbered e

  -- Reading into lists of these lengths.
  module _ (lent_speeds lent_holds lent_weights : ℕ) where
    abbrev number : ℕ
    number = read_refusal file lent_speeds lent_holds lent_weights

    abbrev speeds_fit : List Test
    speeds_fit = fit (length (speeds_of file)) lent_speeds

    abbrev holds_fit : List Test
    holds_fit = fit (length (holds_of file)) lent_holds

    abbrev weights_fit : List Test
    weights_fit = fit (length (weights_of file)) lent_weights

    read_is : number ≡ first_refusal (early ++ (counts ++ (weights_fit ++ (speeds_fit ++ holds_fit))))
    unfolding read_refusal read_tests file_tests early counts
    read_is =
        ap (λ (l : List Test). first_refusal (multiple_test file ∷ l))
        (append_assoc (records_tests file (record_count file)) counts (weights_fit ++ (speeds_fit ++ holds_fit)))

    -- The answer where one of the calls of `test_file` is refused, and where none is: what each answers is told in order.
    abbrev pub Answers : Result JobRead Refusal → Type 0
    Answers r = r ≡ read_answer file lent_speeds lent_holds lent_weights

    by_number : {A : Type 0} {r : Result A Refusal} {q : Result JobRead Refusal} {e : Refusal} → number ≡ refused r → r ≡ Err e → q ≡ Err e → Answers q
    unfolding read_answer
    by_number f g k = k ∙ answered_err (read_in file) g (sym f)

    pub records_answer : {r q : Result JobRead Refusal} {e : Refusal} → Told file r → r ≡ Err e → q ≡ Err e → Answers q
    unfolding read_answer records_refusal early
    records_answer d g k =
        k ∙ sym g ∙ d
        ∙ ap (λ (n : ℕ). answered n (read_in file))
        (sym (read_is ∙ stops early (counts ++ (weights_fit ++ (speeds_fit ++ holds_fit))) refl (answer.err_nonzero (records_refusal file) (read_in file) (sym d ∙ g))))

    module _ {r : Result JobRead Refusal} {read : JobRead} (d : Told file r) (g : r ≡ Ok read) where
      told : (records_refusal file ≡ 0) × (read ≡ read_in file)
      told = answered_value (records_refusal file) (read_in file) (sym d ∙ g)

      past_records : number ≡ first_refusal (counts ++ (weights_fit ++ (speeds_fit ++ holds_fit)))
      unfolding records_refusal early
      past_records = read_is ∙ goes_on early (counts ++ (weights_fit ++ (speeds_fit ++ holds_fit))) refl early_numbered told.0

      module _ {A : Type 0} (c : Result A Refusal)
          (f : refused c ≡ first_refusal (test 7 (between 1 max_processors read.processors) ∷ test 8 (leb read.tasks max_tasks) ∷ [])) where
        counted : refused c ≡ first_refusal counts
        unfolding counts processors_test tasks_test
        counted =
            f
            ∙ ap (λ (r : JobRead). first_refusal (test 7 (between 1 max_processors r.processors) ∷ test 8 (leb r.tasks max_tasks) ∷ [])) told.1

        pub counts_answer : {q : Result JobRead Refusal} {e : Refusal} → c ≡ Err e → q ≡ Err e → Answers q
        counts_answer h k =
            by_number (past_records ∙ stops counts (weights_fit ++ (speeds_fit ++ holds_fit)) counted (err_nonzero h refl)) h k

        module _ {x : A} (h : c ≡ Ok x) (w : Result A Refusal) (fw : refused w ≡ first_refusal (length_test read.tasks lent_weights ∷ [])) where
          past_counts : number ≡ first_refusal (weights_fit ++ (speeds_fit ++ holds_fit))
          past_counts = past_records ∙ goes_on counts (weights_fit ++ (speeds_fit ++ holds_fit)) counted counts_numbered (refused_ok h refl)

          of_weights : refused w ≡ first_refusal weights_fit
          of_weights = fw ∙ ap (λ (r : JobRead). first_refusal (fit r.tasks lent_weights)) told.1

          pub weights_answer : {q : Result JobRead Refusal} {e : Refusal} → w ≡ Err e → q ≡ Err e → Answers q
          weights_answer i k =
              by_number (past_counts ∙ stops weights_fit (speeds_fit ++ holds_fit) of_weights (err_nonzero i refl)) i k

          module _ {y : A} (i : w ≡ Ok y) (s : Result A Refusal) (fs : refused s ≡ first_refusal (length_test read.processors lent_speeds ∷ [])) where
            past_weights : number ≡ first_refusal (speeds_fit ++ holds_fit)
            past_weights =
                past_counts ∙ goes_on weights_fit (speeds_fit ++ holds_fit) of_weights (fit_numbered (length (weights_of file)) lent_weights) (refused_ok i refl)

            of_speeds : refused s ≡ first_refusal speeds_fit
            of_speeds = fs ∙ ap (λ (r : JobRead). first_refusal (fit r.processors lent_speeds)) told.1

            pub speeds_answer : {q : Result JobRead Refusal} {e : Refusal} → s ≡ Err e → q ≡ Err e → Answers q
            speeds_answer j k =
                by_number (past_weights ∙ stops speeds_fit holds_fit of_speeds (err_nonzero j refl)) j k

            module _ {z : A} (j : s ≡ Ok z) (l : Result A Refusal) (fl : refused l ≡ first_refusal (length_test read.processors lent_holds ∷ [])) where
              past_speeds : number ≡ refused l
              past_speeds =
                  past_weights ∙ goes_on speeds_fit holds_fit of_speeds (fit_numbered (length (speeds_of file)) lent_speeds) (refused_ok j refl)
                  ∙ ap (λ (n : ℕ). first_refusal (fit n lent_holds)) (holds-length file)
                  ∙ sym (fl ∙ ap (λ (r : JobRead). first_refusal (fit r.processors lent_holds)) told.1)

              pub holds_answer : {q : Result JobRead Refusal} {e : Refusal} → l ≡ Err e → q ≡ Err e → Answers q
              holds_answer m k = by_number past_speeds m k

              pub all_answer : {u : A} → l ≡ Ok u → Answers (Ok read)
              unfolding read_answer
              all_answer m = ap Ok told.1 ∙ answered_ok (read_in file) (past_speeds ∙ refused_ok m refl)

  -- What reading leaves in these lists.
  module _ (es hs ws : List ℕ) where
    abbrev lent_number : ℕ
    lent_number = read_refusal file (length es) (length hs) (length ws)

    -- Refused, they stay.
    pub read_kept : {r : Result JobRead Refusal} {e : Refusal} → r ≡ read_answer file (length es) (length hs) (length ws) → r ≡ Err e
        → (es ≡ read_speeds file es hs ws) × (hs ≡ read_holds file es hs ws) × (ws ≡ read_weights file es hs ws)
    unfolding read_answer read_speeds read_holds read_weights
    read_kept d g =
        let h : lent_number ≢ 0 = answer.err_nonzero lent_number (read_in file) (sym d ∙ g) in
        (sym (lent_refused h (speeds_of file) es), sym (lent_refused h (holds_of file) hs), sym (lent_refused h (weights_of file) ws))

    module _ {r : Result JobRead Refusal} {read : JobRead} (d : r ≡ read_answer file (length es) (length hs) (length ws)) (g : r ≡ Ok read) where
      pub read_accepted : (lent_number ≡ 0) × (read ≡ read_in file)
      unfolding read_answer
      read_accepted = answered_value lent_number (read_in file) (sym d ∙ g)

      -- The file passes its own tests, and the lists are long enough.
      accepted_parts : (first_refusal (early ++ counts) ≡ 0)
          × (first_refusal (length_test (length (weights_of file)) (length ws) ∷ length_test (length (speeds_of file)) (length es) ∷ length_test (length (holds_of file)) (length hs) ∷ []) ≡ 0)
      unfolding read_refusal read_tests file_tests early counts
      accepted_parts =
          append_accepted (early ++ counts)
          (length_test (length (weights_of file)) (length ws) ∷ length_test (length (speeds_of file)) (length es) ∷ length_test (length (holds_of file)) (length hs) ∷ [])
          (numbered_append early_numbered counts_numbered) read_accepted.0

      pub file_accepted : file_refusal file ≡ 0
      unfolding file_refusal file_tests early counts
      file_accepted = accepted_parts.0

      pub read_fits : (read.tasks ≤ length ws) × (read.processors ≤ length es) × (read.processors ≤ length hs)
      read_fits =
          let w = fits (length (weights_of file)) (length ws) (length_test (length (speeds_of file)) (length es) ∷ length_test (length (holds_of file)) (length hs) ∷ []) accepted_parts.1 in
          let s = fits (length (speeds_of file)) (length es) (length_test (length (holds_of file)) (length hs) ∷ []) w.1 in
          let h = fits (length (holds_of file)) (length hs) [] s.1 in
          let p : read.processors ≡ length (speeds_of file) = ap (λ (r : JobRead). r.processors) read_accepted.1 in
          let t : read.tasks ≡ length (weights_of file) = ap (λ (r : JobRead). r.tasks) read_accepted.1 in
          (omega (arith, w.0), omega (arith, s.0), omega (arith, h.0, holds-length file))

      held : Placed file (record_count file)
      held = accepted_placed (file_early file_accepted)

      -- So many records stand in front; then come the processors' and the tasks'.
      module _ {h : ℕ} (e : (c : ℕ) → h ≡ head_records (edition_of read.second c)) where
        pub head_is : h ≡ head_records (edition_in file)
        head_is =
            e (value_at file 0)
            ∙ ap (λ (b : Bool). head_records (edition_of b (value_at file 0))) (ap (λ (r : JobRead). r.second) read_accepted.1)

        pub read_together : h + (read.processors + read.tasks) ≡ record_count file
        read_together =
            let p : read.processors ≡ length (speeds_of file) = ap (λ (r : JobRead). r.processors) read_accepted.1 in
            let t : read.tasks ≡ length (weights_of file) = ap (λ (r : JobRead). r.tasks) read_accepted.1 in
            omega (arith, head_is, accepted_together (file_early file_accepted))

        -- The lists hold the values in front, and the rest stays.
        pub speeds_left : tabulate (λ j. value_at file (h + j)) read.processors ++ drop read.processors es ≡ read_speeds file es hs ws
        unfolding read_speeds speeds_of
        speeds_left =
            ap₂ (λ (h p : ℕ). tabulate (λ j. value_at file (h + j)) p ++ drop p es) head_is (ap (λ (r : JobRead). r.processors) read_accepted.1)
            ∙ ap (λ (l : List ℕ). l ++ drop (length (speeds_of file)) es) held.speeds
            ∙ sym (ap (λ (n : ℕ). lent_after n (speeds_of file) es) read_accepted.0 ∙ lent_accepted (speeds_of file) es)

        pub holds_left : tabulate (λ j. hold_at file (h + j)) read.processors ++ drop read.processors hs ≡ read_holds file es hs ws
        unfolding read_holds holds_of
        holds_left =
            ap₂ (λ (h p : ℕ). tabulate (λ j. hold_at file (h + j)) p ++ drop p hs) head_is
            (ap (λ (r : JobRead). r.processors) read_accepted.1 ∙ sym (holds-length file))
            ∙ ap (λ (l : List ℕ). l ++ drop (length (holds_of file)) hs) held.holds
            ∙ sym (ap (λ (n : ℕ). lent_after n (holds_of file) hs) read_accepted.0 ∙ lent_accepted (holds_of file) hs)

        pub weights_left : tabulate (λ j. value_at file (h + read.processors + j)) read.tasks ++ drop read.tasks ws ≡ read_weights file es hs ws
        unfolding read_weights speeds_of weights_of
        weights_left =
            ap₂ (λ (h p : ℕ). tabulate (λ j. value_at file (h + p + j)) read.tasks ++ drop read.tasks ws) head_is (ap (λ (r : JobRead). r.processors) read_accepted.1)
            ∙ ap (λ (t : ℕ). tabulate (λ j. value_at file (head_records (edition_in file) + length (speeds_of file) + j)) t ++ drop t ws) (ap (λ (r : JobRead). r.tasks) read_accepted.1)
            ∙ ap (λ (l : List ℕ). l ++ drop (length (weights_of file)) ws) held.weights
            ∙ sym (ap (λ (n : ℕ). lent_after n (weights_of file) ws) read_accepted.0 ∙ lent_accepted (weights_of file) ws)
