-- What each call needs, answers and leaves in the lent list, once its tests have passed.
-- Assumes nothing.
use Prim.Native.Nat.{ℕ, suc, ◌≤◌, ◌<◌}
use mathlib.Core.Path.{◌≡◌, sym, ap, subst, ◌∙◌}
use mathlib.Core.List.{List, ◌++◌}
use lib.ListN.{length, take, drop}
use Rattle.std.specs.Prelude.{Ok}
use Rattle.bound.specs.declared.Bound.{Bound}
use Rattle.chain.specs.declared.Outcome.{Outcome}
use Rattle.chain.specs.Numbers.{answered}
use Rattle.chain.specs.Job.{Job, Partition, processors, bottleneck}
use Rattle.chain.specs.Probe.{walked, probe}
use Rattle.chain.specs.Heuristic.{heuristic}
use Rattle.chain.specs.Halving.{Halvable, halving}
use Rattle.chain.specs.Refusal.{measure_inputs, halving_inputs, refusal}
use Rattle.chain.proofs.Numbers.{answered_ok}
use Rattle.chain.proofs.Parts.{valid_proper}
use Rattle.chain.proofs.Within.{free_of}
use Rattle.chain.proofs.Heuristic.{heuristic_partition}
use Rattle.chain.proofs.Halving.{halving_partition}
use Rattle.chain.proofs.Walk.{walked-length}
use Rattle.refusals.specs.Answers.{lent_after}
use Rattle.refusals.specs.Inputs.{probe_inputs, heuristic_inputs}
use Rattle.refusals.proofs.Accepted.{accepted}
use Rattle.refusals.proofs.Lent.{lent-front}
use Rattle.parts.proofs.Front.{front_partition, front-bottleneck}
use Rattle.calls.specs.Answers.{measure_answer, probe_answer, probe_writes, heuristic_answer, heuristic_writes}
use Rattle.calls.specs.Answers.{halving_answer, halving_writes}

-- The job that was tested is the one that was lent.
module _ (job : Job) (s : List ℕ) {tested : Job} (same : tested ≡ job) where
  roomy : {n : ℕ} → suc (processors job) ≤ n → processors tested < n
  roomy {n} h = subst (λ (g : Job). processors g < n) (sym same) h

  -- Measuring.
  module _ (z : refusal job (measure_inputs job s) ≡ 0) where
    pub measure_front : Partition tested (take (suc (processors tested)) s)
    measure_front = subst (λ (g : Job). Partition g (take (suc (processors g)) s)) (sym same) (accepted z).divisions.0

    pub measure_accepted : {B : Bound} → B ≡ bottleneck tested (take (suc (processors tested)) s)
        → Ok B ≡ measure_answer job s
    unfolding measure_answer
    measure_accepted {B} f =
        answered_ok B z
        ∙ ap (answered (refusal job (measure_inputs job s)))
        (f ∙ ap (λ (g : Job). bottleneck g (take (suc (processors g)) s)) same)

  -- The probe.
  module _ (B : Bound) (z : refusal job (probe_inputs job B (length s)) ≡ 0) where
    pub probe_room : processors tested < length s
    probe_room = roomy (accepted z).lists.0

    pub probe_accepted : {r : Outcome} {now : List ℕ} → r ≡ probe tested B
        → now ≡ walked tested B ++ drop (suc (processors tested)) s
        → (Ok r ≡ probe_answer job B s) × (now ≡ probe_writes job B s)
    unfolding probe_answer probe_writes
    probe_accepted {r} {now} f g = (
      answered_ok r z ∙ ap (answered (refusal job (probe_inputs job B (length s))))
          (f ∙ ap (λ (j : Job). probe j B) same),
      g ∙ ap (λ (j : Job). walked j B ++ drop (suc (processors j)) s) same
          ∙ sym (lent-front (walked job B) s z (walked-length job B)),
    )

  -- A call that divides the job writes the separators, and measures them.
  module _ (divide : Job → List ℕ) (part : Partition job (divide job)) {now : List ℕ}
      (w : now ≡ divide tested ++ drop (suc (processors tested)) s) where
    written : now ≡ divide job ++ drop (suc (processors job)) s
    written = w ∙ ap (λ (g : Job). divide g ++ drop (suc (processors g)) s) same

    divided_front : Partition tested (take (suc (processors tested)) now)
    divided_front =
        subst (λ (g : Job). Partition g (take (suc (processors g)) now)) (sym same)
        (front_partition (divide job) (drop (suc (processors job)) s) part written)

    divided : {n : ℕ} {B : Bound} → n ≡ 0 → B ≡ bottleneck tested (take (suc (processors tested)) now)
        → (Ok B ≡ answered n (bottleneck job (divide job))) × (now ≡ lent_after n (divide job) s)
    divided {n} {B} z f =
        let g = f ∙ ap (λ (j : Job). bottleneck j (take (suc (processors j)) now)) same in (
          answered_ok B z ∙ ap (answered n) (front-bottleneck (divide job) (drop (suc (processors job)) s) part
              written g),
          written ∙ sym (lent-front (divide job) s z part.count),
        )

  -- The heuristic.
  module _ (z : refusal job (heuristic_inputs job (length s)) ≡ 0) where
    pub heuristic_room : processors tested < length s
    heuristic_room = roomy (accepted z).lists.0

    part : Partition job (heuristic job)
    part = heuristic_partition (valid_proper (accepted z).valid) (free_of (accepted z).free.0)

    module _ {now : List ℕ} (w : now ≡ heuristic tested ++ drop (suc (processors tested)) s) where
      pub heuristic_front : Partition tested (take (suc (processors tested)) now)
      heuristic_front = divided_front heuristic part w

      pub heuristic_accepted : {B : Bound} → B ≡ bottleneck tested (take (suc (processors tested)) now)
          → (Ok B ≡ heuristic_answer job s) × (now ≡ heuristic_writes job s)
      unfolding heuristic_answer heuristic_writes
      heuristic_accepted f = divided heuristic part w z f

  -- Halving the row.
  module _ (z : refusal job (halving_inputs job (length s)) ≡ 0) where
    pub halving_room : processors tested < length s
    halving_room = roomy (accepted z).lists.0

    pub halving_row : Halvable tested.speeds
    halving_row = subst (λ (g : Job). Halvable g.speeds) (sym same) (accepted z).rows.0

    halves : Partition job (halving job)
    halves = halving_partition job (accepted z).rows.0 (free_of (accepted z).free.0)

    module _ {now : List ℕ} (w : now ≡ halving tested ++ drop (suc (processors tested)) s) where
      pub halving_front : Partition tested (take (suc (processors tested)) now)
      halving_front = divided_front halving halves w

      pub halving_accepted : {B : Bound} → B ≡ bottleneck tested (take (suc (processors tested)) now)
          → (Ok B ≡ halving_answer job s) × (now ≡ halving_writes job s)
      unfolding halving_answer halving_writes
      halving_accepted f = divided halving halves w z f
