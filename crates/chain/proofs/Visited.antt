-- The processors that a walk comes to: the first of them at which every task is placed. No fewer can take all tasks within the bound.
-- Assumes nothing.
use Prim.Native.Nat.{ℕ, ◌≤◌, ◌<◌}
use mathlib.Core.Path.{◌≡◌, sym, ap, subst, ◌∙◌}
use mathlib.Core.Bool.{not}
use mathlib.Core.List.{List}
use native.Mathlib.Omega.{arith}
use native.Mathlib.Decide.{dec_le}
use lib.Dec.{T, eqb, eqb→eq, T_not}
use borrow.Author.Tests.{eq-eqb, ne_eqb}
use Rattle.bound.specs.declared.Bound.{Bound}
use Rattle.bound.specs.Order.{◌≼◌, Real}
use Rattle.chain.specs.Lists.{is_first}
use Rattle.chain.specs.Job.{Job, tasks, processors, last, at}
use Rattle.chain.specs.Probe.{separator, walk, Begins, fits, visited}
use Rattle.chain.proofs.Tests.{T_of, T-not-of}
use Rattle.chain.proofs.Parts.{Proper}
use Rattle.chain.proofs.Indices.{first_holds, first_fails, first_of, first_exists, smallest_first}
use Rattle.chain.proofs.Bottleneck.{processors-last}
use Rattle.chain.proofs.Walk.{separator_to, separator_full, separator_left, walk_at, walk_end, walked-walk, walked_furthest, growing}
use Rattle.chain.proofs.NextBid.{fails_before_end}

module _ {job : Job} (ok : Proper job) (B : Bound) where
  -- The walk's last entry is N, and no entry is more.
  ends : at (walk job B) (processors job) ≡ tasks job
  ends = ap (at (walk job B)) (processors-last ok) ∙ walk_end job B

  inside : (p : ℕ) → p ≤ processors job → at (walk job B) p ≤ tasks job
  inside p h =
      elim (dec_le p (last job)) [
        | yes l ↦ omega (arith, walk_at job B p l, separator_to job B p)
        | no l ↦ omega (arith, ends, ap (at (walk job B)) (let e : p ≡ processors job = omega (arith, processors-last ok) in e))
      ]

  -- Once every task is placed, every further entry is N.
  pub walk_full : (p k : ℕ) → separator job B p ≡ tasks job → p ≤ k → k ≤ processors job → at (walk job B) k ≡ tasks job
  walk_full p k e h l =
      elim (dec_le k (last job)) [
        | yes m ↦ walk_at job B k m ∙ separator_full job B p k e h
        | no m ↦ ap (at (walk job B)) (let x : k ≡ processors job = omega (arith, processors-last ok) in x) ∙ ends
      ]

  -- An index at which every task is placed, while at each before one is left, is the number of processors that the walk came to,
  pub visited_is : (n : ℕ) → n ≤ processors job → at (walk job B) n ≡ tasks job → ((k : ℕ) → k < n → at (walk job B) k < tasks job)
      → visited job B ≡ n
  unfolding visited
  visited_is n h e l =
      smallest_first (λ p. eqb (at (walk job B) p) (tasks job)) (processors job) n h
      (first_of (λ p. eqb (at (walk job B) p) (tasks job)) n (T_of (eq-eqb (at (walk job B) n) (tasks job) e))
      (λ k m. T-not-of (ne_eqb (at (walk job B) k) (tasks job) (λ z. omega (arith, l k m)))))

  -- so it is that of a separator before the end,
  pub visited_full : (p : ℕ) → p ≤ last job → separator job B p ≡ tasks job → ((k : ℕ) → k < p → separator job B k < tasks job)
      → visited job B ≡ p
  visited_full p h e l =
      visited_is p (omega (arith, processors-last ok)) (walk_at job B p h ∙ e)
      (λ k m. omega (arith, walk_at job B k (omega arith), l k m))

  -- and all of them where a task is left for the last, as in a probe that fails.
  pub visited-all : separator job B (last job) < tasks job → visited job B ≡ processors job
  visited-all h =
      visited_is (processors job) (omega arith) ends
      (λ k m.
      let l : k ≤ last job = omega (arith, processors-last ok) in
      omega (arith, walk_at job B k l, separator_left job B (last job) k h l))

  pub visited_fails : T (not (fits job B)) → visited job B ≡ processors job
  visited_fails t = visited-all (fails_before_end job B t (last job) (omega arith))

  -- There is such an index.
  pub visited_first : (visited job B ≤ processors job) × T (is_first (λ p. eqb (at (walk job B) p) (tasks job)) (visited job B))
  unfolding visited
  visited_first =
      let f = first_exists (λ p. eqb (at (walk job B) p) (tasks job)) (processors job)
      (λ h.
      T_not (eqb (at (walk job B) (processors job)) (tasks job)) (h (processors job) (omega arith))
      (T_of (eq-eqb (at (walk job B) (processors job)) (tasks job) ends))) in
      subst (λ (n : ℕ). (n ≤ processors job) × T (is_first (λ p. eqb (at (walk job B) p) (tasks job)) n))
      (sym (smallest_first (λ p. eqb (at (walk job B) p) (tasks job)) (processors job) f.0 f.1 f.2))
      (f.1, f.2)

  pub visited_placed : at (walk job B) (visited job B) ≡ tasks job
  visited_placed =
      eqb→eq (at (walk job B) (visited job B)) (tasks job)
      (first_holds (λ p. eqb (at (walk job B) p) (tasks job)) (visited job B) visited_first.1)

  -- Where every task is placed, the walk has come to no more processors.
  pub visited-le : (p : ℕ) → at (walk job B) p ≡ tasks job → visited job B ≤ p
  visited-le p e =
      elim (dec_le (visited job B) p) [
        | yes h ↦ h
        | no h ↦
            absurd
            (T_not (eqb (at (walk job B) p) (tasks job))
            (first_fails (λ i. eqb (at (walk job B) i) (tasks job)) (visited job B) visited_first.1 p (omega arith))
            (T_of (eq-eqb (at (walk job B) p) (tasks job) e)))
      ]

  -- From there on every entry is N.
  pub visited_rest : (k : ℕ) → visited job B ≤ k → k ≤ processors job → at (walk job B) k ≡ tasks job
  visited_rest k h l =
      elim (dec_le (visited job B) (last job)) [
        | yes m ↦ walk_full (visited job B) k (sym (walk_at job B (visited job B) m) ∙ visited_placed) h l
        | no m ↦ ap (at (walk job B)) (let x : k ≡ processors job = omega (arith, processors-last ok) in x) ∙ ends
      ]

  -- However tasks are given to the first p processors within the bound, the walk comes to no more than p where these are all tasks.
  pub visited_fewest : T (fits job B) → (p : ℕ) (t : List ℕ) → p ≤ processors job → Begins job B p t → at t p ≡ tasks job → visited job B ≤ p
  visited_fewest f p t h b e =
      visited-le p
      (omega (
        arith,
        inside p h,
        walked_furthest job B p t h b,
        ap (λ (l : List ℕ). at l p) (walked-walk ok B f),
      ))

-- At a greater bound a walk comes to no more processors.
pub visited_falls : {job : Job} → Proper job → {B C : Bound} → Real B → B ≼ C → visited job C ≤ visited job B
visited_falls {job} ok {B} {C} r h =
    visited-le ok C (visited job B)
    (elim (dec_le (visited job B) (last job)) [
      | yes m ↦
          omega (
            arith,
            walk_at job B (visited job B) m,
            walk_at job C (visited job B) m,
            visited_placed ok B,
            growing job r h (visited job B),
            separator_to job C (visited job B),
          )
      | no m ↦
          ap (at (walk job C)) (let x : visited job B ≡ processors job = omega (arith, processors-last ok, (visited_first ok B).0) in x)
          ∙ ends ok C
    ])
