-- What the probe's loop keeps, and what it comes to.
-- Assumes nothing.
use Prim.Native.Nat.{ℕ, suc, ◌+◌, ◌-◌, ◌*◌, ◌^◌, ◌≤◌, ◌<◌}
use mathlib.Core.Path.{◌≡◌, refl, sym, ap, subst, ◌∙◌}
use mathlib.Core.Bool.{true, false}
use mathlib.Core.List.{List, ◌++◌}
use native.Mathlib.Omega.{arith}
use native.Mathlib.Decide.{dec_le}
use native.Mathlib.Numerals.{add-one}
use lib.Dec.{T}
use lib.ListN.{length, get_or, set, take, drop, replicate, length-drop}
use lib.Seq.{length-take-le}
use borrow.Rule.Slice.PartMut.{put_mid}
use Rattle.std.proofs.Common.{rules}
use Rattle.std.proofs.lemmas.List.{places, length-replicate, get_or-replicate}
use Rattle.bound.specs.declared.Bound.{Bound}
use Rattle.bound.specs.Order.{infinite, le, lesser, least_below, Finite}
use Rattle.chain.specs.Lists.{tabulate}
use Rattle.chain.specs.Job.{Job, Valid, tasks, processors, last, offer, at}
use Rattle.chain.specs.Probe.{reach, separator, walk, walked, fits, visited, probe}
use Rattle.chain.proofs.Parts.{valid_proper}
use Rattle.chain.proofs.Bottleneck.{processors-last}
use Rattle.chain.proofs.Within.{offer-test}
use Rattle.chain.proofs.Tests.{T_true}
use Rattle.chain.proofs.Walk.{reach_from, reach_to, separator_to, separator_left, walk_at, walked-walk, full_fits}
use Rattle.chain.proofs.Visited.{visited_first, visited_full, visited-all, visited_rest}
use Rattle.chain.specs.Ranges.{Lendable, Narrow}
use Rattle.chain.proofs.Ranges.{offer_products, offer_narrow, lesser_narrow, infinite_narrow}
use Rattle.chain.proofs.Indices.{table_of}
use Rattle.parts.proofs.Front.{Front, front_store, front_end, front_of, front_kept}
use Rattle.parts.specs.Kept.{KeptFrom}
use Rattle.probe.specs.declared.Point.{Point}
use Rattle.chain.specs.declared.Outcome.TheVariants.{Fits, Fails}
use Rattle.probe.specs.Walk.{least_before, begun, Reached}
use Rattle.probe.proofs.Bids.{least_turn, least_end}
use Rattle.probe.proofs.Answer.{outcome_fits, outcome_fails, walk_count, written_at, written_drop, written_length}

-- The products of the test of the last part fit.
pub rest_products : {job : Job} {B C : Bound} (p a b : ℕ) → Valid job → Lendable B → C ≡ offer job p a b
    → (C.load * B.speed < 2 ^ 64) × (B.load * C.speed < 2 ^ 64)
rest_products {job} {B} p a b v l e =
    subst (λ (C : Bound). (C.load * B.speed < 2 ^ 64) × (B.load * C.speed < 2 ^ 64)) (sym e) (offer_products v p a b l)

-- No part ends past the last task.
pub end_to : (job : Job) {b : ℕ} (p a : ℕ) (B : Bound) → b ≡ reach job p a B → a ≤ tasks job → b ≤ tasks job
end_to job p a B e h = omega (arith, reach_to job p a B h)

-- What the loop keeps: it stands at the separator of p, where a task is left, has the least bid of the processors below p, and has written
-- the separators before p.
pub record Walked (job : Job) (B : Bound) (before now : List ℕ) (p a : ℕ) (best : Bound) : Type 0 where
  pub to : p ≤ last job
  pub reached : a ≡ separator job B p
  pub left : a < tasks job
  pub least : best ≡ least_before job B p
  pub small : Narrow best
  pub front : Front (separator job B) p before now

-- Every walk reaches its first point,
pub reached_first : (job : Job) (B : Bound) (xs : List ℕ) → Reached job B xs (record { processor = 0; start = 0; least = infinite })
unfolding separator least_below
reached_first job B xs =
    record {
      to = omega arith;
      start_is = refl;
      least_is = refl;
      small = infinite_narrow;
      left = λ k h. absurd (let z : ⊥ = omega arith in z);
      before = λ k h. absurd (let z : ⊥ = omega arith in z);
    }

reached_front : {job : Job} {B : Bound} {xs : List ℕ} {point : Point} → Reached job B xs point → Front (separator job B) point.processor xs xs
reached_front w = record { same = refl; done = w.before; rest = λ k h. refl }

-- and the loop can go on from any that is reached and where a task is left.
pub walked_start : {job : Job} {B : Bound} {xs : List ℕ} {point : Point} → Reached job B xs point → point.start < tasks job
    → Walked job B xs xs point.processor point.start point.least
walked_start w h =
    record { to = w.to; reached = w.start_is; left = h; least = w.least_is; small = w.small; front = reached_front w }

-- The separators of the processors that the walk came to stand in front of the list.
begun_end : (job : Job) (B : Bound) {xs ys : List ℕ} {p : ℕ} → Front (separator job B) p xs ys → p ≤ length xs → visited job B ≡ p → ys ≡ begun job B xs
unfolding begun
begun_end job B {xs} w h e = front_end w h ∙ ap (λ (i : ℕ). tabulate (separator job B) i ++ drop i xs) (sym e)

-- Where every task is placed before processor p, the probe fits and its walk has come to p processors.
module _ {job : Job} (v : Valid job) (B : Bound) {p : ℕ} (h : p ≤ last job) (e : tasks job ≤ separator job B p)
    (l : (k : ℕ) → k < p → separator job B k < tasks job) where
  full : separator job B p ≡ tasks job
  full = omega (arith, separator_to job B p)

  came : visited job B ≡ p
  came = visited_full (valid_proper v) B p h full l

  answer_placed : Fits p ≡ probe job B
  answer_placed = ap Fits (sym came) ∙ sym (outcome_fits job B (T_true (fits job B) (full_fits job B p h full)))

-- So where a walk comes to a point with no task left.
module _ {job : Job} (v : Valid job) {B : Bound} {xs : List ℕ} {point : Point} (r : processors job < length xs) (w : Reached job B xs point)
    (h : tasks job ≤ point.start) where
  e : tasks job ≤ separator job B point.processor
  e = omega (arith, w.start_is)

  pub placed_first : Fits point.processor ≡ probe job B
  placed_first = answer_placed v B w.to e w.left

  pub begun_first : xs ≡ begun job B xs
  begun_first = begun_end job B (reached_front w) (omega (arith, w.to, processors-last (valid_proper v))) (came v B w.to e w.left)

module _ {job : Job} (v : Valid job) {B : Bound} {xs ys : List ℕ} {p a : ℕ} {best : Bound} (l : processors job < length xs)
    (w : Walked job B xs ys p a best) where
  store : Front (separator job B) (suc p) xs (set ys p a)
  store = front_store a w.front (omega (arith, w.to)) w.reached

  -- The part's end is after its start.
  pub end_after : {b : ℕ} → b ≡ reach job p a B → a ≤ b
  end_after e = omega (arith, reach_from job p a B)

  -- It is the next separator.
  next : {b : ℕ} → b ≡ reach job p a B → b ≡ separator job B (suc p)
  unfolding separator
  next f = f ∙ ap (λ (i : ℕ). reach job p i B) w.reached

  -- Where it is N every task is placed,
  module _ {b : ℕ} (h : p < last job) (f : b ≡ reach job p a B) (x : tasks job ≤ b) where
    y : tasks job ≤ separator job B (suc p)
    y = omega (arith, next f)

    before : (k : ℕ) → k < suc p → separator job B k < tasks job
    before k z = separator_left job B p k (omega (arith, w.reached, w.left)) (omega arith)

    pub placed : Fits (p + 1) ≡ probe job B
    placed = ap Fits (add-one p) ∙ answer_placed v B h y before

    pub begun_placed : set ys p a ≡ begun job B xs
    begun_placed = begun_end job B store (omega (arith, processors-last (valid_proper v))) (came v B h y before)

  -- else the walk goes on.
  pub walked_turn : {b : ℕ} {D C : Bound} → p < last job → b ≡ reach job p a B → b < tasks job → D ≡ offer job p a (suc b) → C ≡ lesser best D
      → Walked job B xs (set ys p a) (p + 1) b C
  walked_turn {b} {D} {C} h f x d k =
      subst (λ (i : ℕ). Walked job B xs (set ys p a) i b C) (sym (add-one p))
      (record {
        to = h;
        reached = next f;
        left = x;
        least =
            g
            ∙ ap (λ (i : ℕ). lesser best (offer job p i (suc b))) w.reached
            ∙ ap (λ (i : ℕ). lesser best (offer job p (separator job B p) (suc i))) (next f)
            ∙ ap (λ (D : Bound). lesser D (offer job p (separator job B p) (suc (separator job B (suc p))))) w.least
            ∙ least_turn v B p h;
        small = subst Narrow (sym g) (lesser_narrow w.small (offer_narrow v p a (suc b)));
        front = store;
      })
    where
      g : C ≡ lesser best (offer job p a (suc b))
      g = k ∙ ap (lesser best) d

  module _ (h : last job ≤ p) where
    at_last : p ≡ last job
    at_last = omega (arith, w.to)

    came_to_all : visited job B ≡ processors job
    came_to_all = visited-all (valid_proper v) B (omega (arith, w.left, w.reached, ap (separator job B) at_last))

    pub walked_end : set ys (last job) a ≡ begun job B xs
    walked_end =
        ap (λ (i : ℕ). set ys i a) (sym at_last)
        ∙ begun_end job B store (omega (arith, processors-last (valid_proper v)))
        (came_to_all ∙ (let f : processors job ≡ suc p = omega (arith, at_last, processors-last (valid_proper v)) in f))

    -- The last part, from where the walk stands, decides,
    module _ (f : Finite B) {C : Bound} (e : C ≡ offer job (last job) a (tasks job)) where
      rest_is : C ≡ offer job (last job) (separator job B (last job)) (tasks job)
      rest_is = e ∙ ap (λ (i : ℕ). offer job (last job) i (tasks job)) (w.reached ∙ ap (separator job B) at_last)

      fits_is : le C B ≡ fits job B
      unfolding fits
      fits_is =
          ap (λ (D : Bound). le D B) rest_is ∙ offer-test job (last job) (separator job B (last job)) (tasks job) f

      pub answer_fits : le C B ≡ true → Fits (processors job) ≡ probe job B
      answer_fits t = ap Fits (sym came_to_all) ∙ sym (outcome_fits job B (sym fits_is ∙ t))

      -- and is the last bid.
      pub answer_fails : {D : Bound} → le C B ≡ false → D ≡ lesser best C → Fails D ≡ probe job B
      answer_fails {D} t g =
          ap Fails
          (g ∙ ap (λ (E : Bound). lesser E C) (w.least ∙ ap (least_before job B) at_last) ∙ ap (lesser (least_before job B (last job))) rest_is
          ∙ least_end v B)
          ∙ sym (outcome_fails job B (sym fits_is ∙ t))

-- The entries of a list a part of which, k entries from a on, was written.
module _ (a k : ℕ) (xs vs : List ℕ) where
  put_mid_length : a + k ≤ length xs → length vs ≡ k → length (put_mid a k xs vs) ≡ length xs
  put_mid_length h e = search (rules, places)

  put_mid_before : (i : ℕ) → i < a → a ≤ length xs → get_or (put_mid a k xs vs) i 0 ≡ get_or xs i 0
  put_mid_before i h l = search (rules, places)

  put_mid_at : (i : ℕ) → a ≤ i → i < a + length vs → a ≤ length xs → get_or (put_mid a k xs vs) i 0 ≡ get_or vs (i - a) 0
  put_mid_at i h l m = search (rules, places)

  put_mid_after : (i : ℕ) → a + k ≤ i → length vs ≡ k → a + k ≤ length xs → get_or (put_mid a k xs vs) i 0 ≡ get_or xs i 0
  put_mid_after i h e l = search (rules, places)

-- A walk that has begun, its list filled up with N from there on: it is the walk.
module _ {job : Job} (v : Valid job) (B : Bound) (xs : List ℕ) (r : processors job < length xs) where
  begun-front : Front (separator job B) (visited job B) xs (begun job B xs)
  unfolding begun
  begun-front = front_of (separator job B) (visited job B) xs (omega (arith, (visited_first (valid_proper v) B).0))

  pub begun-length : length (begun job B xs) ≡ length xs
  begun-length = begun-front.same

  pub begun-at : (k : ℕ) → k < visited job B → get_or (begun job B xs) k 0 ≡ separator job B k
  begun-at = begun-front.done

  pub begun_kept : {ys : List ℕ} → ys ≡ begun job B xs → KeptFrom (suc (processors job)) xs ys
  begun_kept e =
      subst (KeptFrom (suc (processors job)) xs) (sym e) (front_kept begun-front (omega (arith, (visited_first (valid_proper v) B).0)))

  -- vs being as many N as are left,
  pub begun-filled : {k m n : ℕ} {ys vs : List ℕ} → k ≡ visited job B → m ≡ suc (processors job) → n ≡ tasks job → ys ≡ begun job B xs
      → vs ≡ replicate (length (take (m - k) (drop k ys))) n → put_mid k (m - k) ys vs ≡ walk job B ++ drop (suc (processors job)) xs
  begun-filled {k} {m} {n} {ys} {vs} e f g h t =
      front_end front (omega arith)
      ∙ ap (λ (i : ℕ). tabulate (at (walk job B)) i ++ drop i xs) f
      ∙ ap (λ (l : List ℕ). l ++ drop (suc (processors job)) xs) (table_of (walk job B) (walk_count v B))
    where
      old : Front (separator job B) (visited job B) xs ys
      old = subst (Front (separator job B) (visited job B) xs) (sym h) begun-front

      come : visited job B ≤ processors job
      come = (visited_first (valid_proper v) B).0

      room : ℕ
      room = length (take (m - k) (drop k ys))

      as_many : length vs ≡ m - k
      as_many =
          ap length t ∙ length-replicate room n
          ∙ length-take-le (m - k) (drop k ys) (omega (arith, length-drop k ys, old.same))

      front : Front (at (walk job B)) m xs (put_mid k (m - k) ys vs)
      front = record {
        same = put_mid_length k (m - k) ys vs (omega (arith, old.same, come)) as_many ∙ old.same;
        done = λ i x.
            elim (dec_le (suc i) k) [
              | yes y ↦
                  put_mid_before k (m - k) ys vs i y (omega (arith, old.same, come)) ∙ old.done i (omega arith)
                  ∙ sym (walk_at job B i (omega (arith, come, processors-last (valid_proper v))))
              | no y ↦
                  put_mid_at k (m - k) ys vs i (omega arith) (omega (arith, as_many)) (omega (arith, old.same, come))
                  ∙ ap (λ (l : List ℕ). get_or l (i - k) 0) t
                  ∙ get_or-replicate room (i - k) n 0 (omega (arith, as_many, length-replicate room n, ap length t))
                  ∙ g ∙ sym (visited_rest (valid_proper v) B i (omega arith) (omega arith))
            ];
        rest = λ i x. put_mid_after k (m - k) ys vs i (omega (arith, come)) as_many (omega (arith, old.same, come))
            ∙ old.rest i (omega (arith, come));
      }

  -- or one, where it has come to the last.
  pub begun_ended : {ys : List ℕ} → visited job B ≡ processors job → ys ≡ begun job B xs
      → set ys (processors job) (tasks job) ≡ walk job B ++ drop (suc (processors job)) xs
  begun_ended {ys} e h =
      front_end front (omega arith)
      ∙ ap (λ (l : List ℕ). l ++ drop (suc (processors job)) xs) (table_of (walk job B) (walk_count v B))
    where
      old : Front (separator job B) (processors job) xs ys
      old =
          subst (Front (separator job B) (processors job) xs) (sym h)
          (subst (λ (k : ℕ). Front (separator job B) k xs (begun job B xs)) e begun-front)

      walked_to : Front (at (walk job B)) (processors job) xs ys
      walked_to = record {
        same = old.same;
        done = λ i x. old.done i x ∙ sym (walk_at job B i (omega (arith, processors-last (valid_proper v))));
        rest = old.rest;
      }

      front : Front (at (walk job B)) (suc (processors job)) xs (set ys (processors job) (tasks job))
      front = front_store (tasks job) walked_to r (sym (visited_rest (valid_proper v) B (processors job) (omega arith) (omega arith)))

-- The walk of a probe that fits is what it writes.
pub fit_written : {job : Job} {ys : List ℕ} → Valid job → (B : Bound) (l : List ℕ) → T (fits job B) → ys ≡ walk job B ++ l → ys ≡ walked job B ++ l
fit_written v B l t e = e ∙ ap (λ (zs : List ℕ). zs ++ l) (sym (walked-walk (valid_proper v) B t))

-- Behind a walk that was written to ys, p being the last processor.
module _ {job : Job} (v : Valid job) (B : Bound) (xs : List ℕ) {ys : List ℕ} (l : processors job < length xs)
    (w : ys ≡ walk job B ++ drop (suc (processors job)) xs) {p : ℕ} (h : suc p ≡ processors job) where
  pub walk_room : length ys ≡ length xs
  walk_room = ap length w ∙ written_length v B xs l

  entry : (k : ℕ) → k ≤ p → get_or ys k 0 ≡ separator job B k
  entry k m =
      ap (λ (zs : List ℕ). get_or zs k 0) w ∙ written_at v B (drop (suc (processors job)) xs) k (omega arith)
      ∙ walk_at job B k (omega (arith, processors-last (valid_proper v)))

  -- the last part starts where the walk has left it,
  module _ {a : ℕ} (e : a ≡ get_or ys p 0) where
    starts : a ≡ separator job B p
    starts = e ∙ entry p (omega arith)

    pub start_inside : a ≤ tasks job
    start_inside = omega (arith, starts, separator_to job B p)

    -- and its end, stored behind it, makes what a trial writes.
    pub reach-stored : {n : ℕ} → n ≡ reach job p a B → set ys (p + 1) n ≡ walked job B ++ drop (suc (processors job)) xs
    unfolding separator walked
    reach-stored {n} f =
        ap (λ (i : ℕ). set ys i n) (add-one p)
        ∙ front_end (front_store n front (omega (arith, walk_room)) (f ∙ ap (λ (i : ℕ). reach job p i B) starts)) (omega (arith, walk_room))
        ∙ ap (λ (i : ℕ). tabulate (separator job B) (suc i) ++ drop (suc i) ys) h
        ∙ ap (λ (zs : List ℕ). tabulate (separator job B) (suc (processors job)) ++ zs)
        (ap (drop (suc (processors job))) w ∙ written_drop v B (drop (suc (processors job)) xs))
      where
        front : Front (separator job B) (suc p) ys ys
        front = record { same = refl; done = λ k m. entry k (omega arith); rest = λ k m. refl }
