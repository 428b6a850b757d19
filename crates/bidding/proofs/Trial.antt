-- A trial, block by block, and what it leaves to the next.
-- Assumes nothing.
use Prim.Native.Nat.{ℕ, suc, ◌+◌, ◌-◌, ◌*◌, ◌≤◌, ◌<◌}
use mathlib.Core.Path.{◌≡◌, refl, sym, ap, ap₂, subst, ◌∙◌}
use mathlib.Core.Bool.{not}
use mathlib.Core.List.{List, ◌++◌}
use native.Mathlib.Omega.{arith}
use lib.Dec.{T, T_not, lit<}
use native.Mathlib.Decide.{dec_le}
use lib.ListN.{length, get_or, set, take, drop, replicate, length-append, length-drop, length-set, get_or-append}
use lib.Seq.{get_or-set_same, get_or-set_other, length-take-le}
use Rattle.std.proofs.lemmas.List.{length-replicate, get_or-replicate}
use Rattle.std.proofs.lemmas.Slice.{drop-append-drop}
use Rattle.bound.specs.declared.Bound.{Bound}
use Rattle.bound.specs.Order.{over, nought, infinite, ◌≼◌, ◌≺◌, lesser, least_below, Real}
use Rattle.bound.proofs.Order.{nought-le, not_both}
use Rattle.chain.specs.declared.Outcome.TheVariants.{Fits}
use Rattle.chain.specs.Lists.{tabulate}
use Rattle.chain.specs.Job.{Job, Valid, tasks, processors, last, within, offer}
use Rattle.chain.specs.Probe.{separator, fits, bid, visited, probe}
use Rattle.chain.proofs.Within.{within_empty, within_raise}
use Rattle.chain.proofs.Parts.{valid_proper}
use Rattle.chain.proofs.Bottleneck.{processors-last}
use Rattle.chain.proofs.Walk.{separator_grows, separator-within}
use Rattle.chain.proofs.Visited.{visited_fails}
use Rattle.chain.proofs.NextBid.{bid_before, fails_before_end}
use Rattle.chain.specs.Ranges.{Narrow}
use Rattle.chain.proofs.Ranges.{lesser_narrow, infinite_narrow}
use Rattle.parts.proofs.Front.{Front, front_kept}
use Rattle.parts.specs.Kept.{KeptFrom}
use Rattle.probe.specs.declared.Point.{Point}
use Rattle.probe.specs.Walk.{least_before, begun, Reached}
use Rattle.probe.proofs.Walked.{Walked, placed_first, begun_first, begun-at}
use Rattle.probe.proofs.Answer.{fits_outcome}
use Rattle.bidding.specs.Blocks.{block, least_from, least_in, laid_bid, Laid, Come, Passes, bound_of, Known, Leasts}
use Rattle.bidding.proofs.Least.{range_joins, range_same}
use Rattle.bidding.proofs.Blocks.{bid_either, bid_narrow, least_narrow}

-- Where block k begins: the walk stands there after k blocks.
abbrev start : Job → ℕ → ℕ
start job k = last job - (last job - block * k)

-- The list of leasts is renewed up to block k.
pub record Renewed (job : Job) (B : Bound) (before now : List Bound) (k : ℕ) : Type 0 where
  pub same : length now ≡ length before
  pub done : (j : ℕ) → j < k → bound_of now j ≡ least_in job (bid job B) j
  pub rest : (j : ℕ) → k ≤ j → bound_of now j ≡ bound_of before j

renewed_next : {job : Job} {B C : Bound} {before now : List Bound} {k : ℕ} → Renewed job B before now k → k < length before → C ≡ least_in job (bid job B) k
    → Renewed job B before (set now k C) (k + 1)
renewed_next {job} {B} {C} {before} {now} {k} w h e =
    record {
      same = length-set now k C ∙ w.same;
      done = λ j l.
          elim (dec_le (suc j) k) [
            | yes m ↦ get_or-set_other now k j C (over 0 0) (λ x. omega arith) ∙ w.done j m
            | no m ↦ here j (omega arith)
          ];
      rest = λ j l. get_or-set_other now k j C (over 0 0) (λ x. omega arith) ∙ w.rest j (omega arith);
    }
  where
    here : (j : ℕ) → k ≡ j → bound_of (set now k C) j ≡ least_in job (bid job B) j
    here j x =
        subst (λ (i : ℕ). bound_of (set now k C) i ≡ least_in job (bid job B) i) x
        (get_or-set_same now k C (over 0 0) (omega (arith, w.same)) ∙ e)

-- What the trial keeps.
pub record Trial (job : Job) (B : Bound) (xs ys : List ℕ) (before now : List Bound) (k a : ℕ) (best : Bound) : Type 0 where
  pub walked : Walked job B xs ys (start job k) a best
  pub renewed : Renewed job B before now k

pub trial_start : {job : Job} {B : Bound} {xs : List ℕ} {leasts : List Bound} → 0 < tasks job → Trial job B xs xs leasts leasts 0 0 infinite
unfolding separator least_below
trial_start {job} {B} {xs} h =
    record {
      walked =
          subst (λ (i : ℕ). Walked job B xs xs i 0 infinite) (let z : 0 ≡ start job 0 = omega arith in z)
          (record {
            to = omega arith;
            reached = refl;
            left = h;
            least = refl;
            small = infinite_narrow;
            front = record { same = refl; done = λ k l. absurd (let z : ⊥ = omega arith in z); rest = λ k l. refl };
          });
      renewed = record { same = refl; done = λ k l. absurd (let z : ⊥ = omega arith in z); rest = λ k l. refl };
    }

-- A trial that fits leaves no bids.
pub fits_leasts : {job : Job} (B : Bound) {n : ℕ} {leasts : List Bound} → Fits n ≡ probe job B → T (not (fits job B)) → Leasts job B leasts
fits_leasts {job} B e t = absurd (T_not (fits job B) t (fits_outcome job B (sym e)).0)

module _ {job : Job} (v : Valid job) (B : Bound) {xs : List ℕ} (r : processors job < length xs) where
  module _ {ys : List ℕ} {before now : List Bound} {k a : ℕ} {best : Bound} (w : Trial job B xs ys before now k a best) where
    pub room : length ys ≡ length xs
    room = w.walked.front.same

    -- After the last block it stands before the last processor, and has the least bid of every block.
    pub trial_last : last job ≤ block * k → Walked job B xs ys (last job) a best
    trial_last h = subst (λ (i : ℕ). Walked job B xs ys i a best) (let z : start job k ≡ last job = omega arith in z) w.walked

    pub trial_leasts : Known job B xs before → last job ≤ block * k → Leasts job B now
    trial_leasts s h = record { room = omega (arith, s.room, w.renewed.same); each = λ j l. w.renewed.done j (omega arith) }

    module _ (h : block * k < last job) where
      here : start job k ≡ block * k
      here = omega arith

      -- What stands in the list from there on is as it was.
      old : (q : ℕ) → block * k ≤ q → get_or ys q 0 ≡ get_or xs q 0
      old q l = w.walked.front.rest q (omega arith)

      pub trial_come : Laid job B 0 xs → Come job B ys (block * k) a
      trial_come l =
          record {
            to = omega arith;
            start_is = w.walked.reached ∙ ap (separator job B) here;
            left = w.walked.left;
            before = λ q m. w.walked.front.done q (omega arith);
            laid =
                record {
                  grows = λ q m n. omega (arith, old q m, old (suc q) (omega arith), l.grows q (omega arith) n);
                  inside = λ q m n. omega (arith, old (suc q) (omega arith), l.inside q (omega arith) n);
                  each = λ q m n.
                      subst (λ (i : ℕ). T (within job q i (get_or ys (suc q) 0) B)) (sym (old q m))
                      (subst (λ (i : ℕ). T (within job q (get_or xs q 0) i B)) (sym (old (suc q) (omega arith))) (l.each q (omega arith) n));
                };
          }

      -- The bound of the block in the list,
      module _ (s : Known job B xs before) where
        known_is : bound_of now k ≡ bound_of before k
        known_is = w.renewed.rest k (omega arith)

        pub known_small : Narrow (bound_of now k)
        known_small = subst Narrow (sym known_is) (s.small k h)

        pub known_least : {e : ℕ} → e ≡ last job - (last job - (block * k + block)) → B ≺ bound_of now k
            → bound_of now k ≡ least_from (laid_bid job ys) (block * k) (e - block * k)
        known_least {e} f u =
            known_is ∙ s.each k h (subst (λ (D : Bound). B ≺ D) known_is u)
            ∙ ap (λ (i : ℕ). least_from (laid_bid job xs) (block * k) (i - block * k)) (sym f)
            ∙ range_same (λ q m n. ap₂ (λ (i j : ℕ). offer job q i (suc j)) (sym (old q m)) (sym (old (suc q) (omega arith))))

      -- and the trial after it.
      module _ {e : ℕ} (f : e ≡ last job - (last job - (block * k + block))) {zs : List ℕ} {point : Point} (y : Passes job B ys zs (block * k) e point) where
        front : Front (separator job B) point.processor xs zs
        front =
            record {
              same = y.same ∙ room;
              done = y.done;
              rest = λ q l. y.rest q l ∙ old q (omega (arith, y.from));
            }

        pub trial_room : length zs ≡ length xs
        trial_room = front.same

        -- Where every task is placed it ends;
        module _ (l : tasks job ≤ point.start) where
          reached : Reached job B zs (record { processor = point.processor; start = point.start; least = least_before job B point.processor })
          reached =
              record {
                to = omega (arith, y.to);
                start_is = y.start_is;
                least_is = refl;
                small = least_narrow v B (bid job B) (bid_narrow v B) point.processor;
                left = y.left;
                before = y.done;
              }

          pub trial_placed : Fits point.processor ≡ probe job B
          trial_placed = placed_first v (omega (arith, trial_room)) reached l

          pub begun_placed : zs ≡ begun job B xs
          unfolding begun
          begun_placed =
              begun_first v (omega (arith, trial_room)) reached l
              ∙ ap (λ (l : List ℕ). tabulate (separator job B) (visited job B) ++ l)
              (front_kept {m = visited job B} front (omega (arith, (fits_outcome job B (sym trial_placed)).1))).rest

        -- else it goes on.
        pub trial_turn : {C : Bound} → Known job B xs before → point.start < tasks job → C ≡ lesser best point.least
            → Trial job B xs zs before (set now k point.least) (k + 1) point.start C
        trial_turn {C} s l g =
            record {
              walked =
                  subst (λ (j : ℕ). Walked job B xs zs j point.start C) at_end
                  (record {
                    to = omega (arith, y.to);
                    reached = y.start_is;
                    left = l;
                    least =
                        g ∙ ap₂ lesser (w.walked.least ∙ ap (least_before job B) here) (y.all l).1
                        ∙ range_joins (bid job B) (bid_either v B) (block * k) (omega arith) ∙ ap (least_before job B) (sym (y.all l).0);
                    small = subst Narrow (sym g) (lesser_narrow w.walked.small y.small);
                    front = front;
                  });
              renewed = renewed_next w.renewed (omega (arith, s.room)) least_is;
            }
          where
            at_end : point.processor ≡ start job (k + 1)
            at_end = omega (arith, (y.all l).0)

            least_is : point.least ≡ least_in job (bid job B) k
            least_is = (y.all l).1 ∙ ap (λ (j : ℕ). least_from (bid job B) (block * k) (j - block * k)) f

-- Before the first trial every part is empty, and no bid is known.
module _ {job : Job} (v : Valid job) (xs : List ℕ) (r : processors job < length xs) {vs : List ℕ}
    (e : vs ≡ replicate (length (take (processors job) xs)) 0) where
  as_many : length vs ≡ processors job
  as_many =
      ap length e ∙ length-replicate (length (take (processors job) xs)) 0
      ∙ length-take-le (processors job) xs (omega arith)

  pub first_kept : KeptFrom (suc (processors job)) xs (vs ++ drop (processors job) xs)
  first_kept =
      record {
        same = omega (arith, length-append vs (drop (processors job) xs), length-drop (processors job) xs, as_many);
        rest = drop-append-drop (processors job) xs vs (suc (processors job)) (omega arith) as_many;
      }

  nought-at : (k : ℕ) → k ≤ last job → get_or (vs ++ drop (processors job) xs) k 0 ≡ 0
  nought-at k h =
      get_or-append vs (drop (processors job) xs) 0 k (omega (arith, as_many, processors-last (valid_proper v)))
      ∙ ap (λ (l : List ℕ). get_or l k 0) e
      ∙ get_or-replicate (length (take (processors job) xs)) k 0 0
      (omega (arith, length-take-le (processors job) xs (omega arith), processors-last (valid_proper v)))

  pub first_laid : (B : Bound) → 0 < tasks job → Laid job B 0 (vs ++ drop (processors job) xs)
  first_laid B t =
      record {
        grows = λ k l h. omega (arith, nought-at k (omega arith), nought-at (suc k) h);
        inside = λ k l h. omega (arith, nought-at (suc k) h);
        each = λ k l h.
            subst (λ (i : ℕ). T (within job k i (get_or (vs ++ drop (processors job) xs) (suc k) 0) B)) (sym (nought-at k (omega arith)))
            (subst (λ (i : ℕ). T (within job k 0 i B)) (sym (nought-at (suc k) h)) (within_empty job k 0 B));
      }

pub first_known : {job : Job} (B : Bound) (xs : List ℕ) (n : ℕ) → last job ≤ block * n → Known job B xs (replicate n nought)
first_known {job} B xs n h =
    record {
      room = omega (arith, length-replicate n nought);
      small = λ k l. subst Narrow (sym (nothing_known k l)) (record { load_fits = lit< tt; speed_fits = lit< tt });
      each = λ k l u. absurd (not_both (subst (λ (D : Bound). B ≺ D) (nothing_known k l) u) (nought-le B));
    }
  where
    nothing_known : (k : ℕ) → block * k < last job → bound_of (replicate n nought) k ≡ nought
    nothing_known k l = get_or-replicate n k nought (over 0 0) (omega arith)

-- After a trial that fails the walk's parts are within every greater bound, and its bids are known.
module _ {job : Job} (v : Valid job) (B : Bound) (xs : List ℕ) (r : processors job < length xs) (t : T (not (fits job B))) {ys : List ℕ} (e : ys ≡ begun job B xs) where
  written : (p : ℕ) → p ≤ last job → get_or ys p 0 ≡ separator job B p
  written p h =
      ap (λ (l : List ℕ). get_or l p 0) e
      ∙ begun-at v B xs r p (omega (arith, processors-last (valid_proper v), visited_fails (valid_proper v) B t))

  module _ {C : Bound} (b : Real B) (m : B ≼ C) where
    pub laid_next : Laid job C 0 ys
    laid_next =
        record {
          grows = λ k l h. omega (arith, written k (omega arith), written (suc k) h, separator_grows job B k);
          inside = λ k l h. omega (arith, written (suc k) h, fails_before_end job B t (suc k) h);
          each = λ k l h.
              subst (λ (i : ℕ). T (within job k i (get_or ys (suc k) 0) C)) (sym (written k (omega arith)))
              (subst (λ (i : ℕ). T (within job k (separator job B k) i C)) (sym (written (suc k) h))
              (within_raise job k (separator job B k) (separator job B (suc k)) b m (separator-within job B k)));
        }

    pub known_next : {leasts : List Bound} → Leasts job B leasts → Known job C ys leasts
    known_next s =
        record {
          room = s.room;
          small = λ k h. subst Narrow (sym (s.each k h)) (least_narrow v B (λ i. bid job B (block * k + i)) (λ i. bid_narrow v B (block * k + i)) (last job - (last job - (block * k + block)) - block * k));
          each = λ k h u. s.each k h ∙ range_same (λ q l n. same q (omega arith));
        }
      where
        same : (q : ℕ) → q < last job → bid job B q ≡ laid_bid job ys q
        same q h =
            bid_before job B q h
            ∙ ap₂ (λ (i j : ℕ). offer job q i (suc j)) (sym (written q (omega arith))) (sym (written (suc q) h))
