-- Crossings, values and moves of the table, in the words of the code.
-- Assumes nothing.
use Prim.Native.Nat.{ℕ, zero, suc, ◌+◌, ◌-◌, ◌*◌, ◌^◌, ◌≤◌, ◌<◌, min}
use mathlib.Core.Path.{◌≡◌, sym, ap, ap₂, subst, ◌∙◌}
use mathlib.Core.Bool.{Bool, true, false}
use mathlib.Core.List.{List}
use mathlib.Core.Logic.{◌≢◌}
use native.Mathlib.Omega.{arith}
use native.Mathlib.Nat.{mul-le-mul}
use native.Mathlib.Decide.{ℕ_discrete}
use native.Mathlib.Numerals.{add-one}
use lib.Dec.{lit<}
use lib.ListN.{get_or}
use Rattle.bound.specs.declared.Bound.{Bound}
use Rattle.bound.specs.Order.{over, le, lesser, Finite}
use Rattle.bound.proofs.Order.{greater_cases}
use Rattle.chain.specs.Limits.{max_tasks, max_processors}
use Rattle.chain.specs.Lists.{sum_to}
use Rattle.chain.specs.Job.{Job, Valid, tasks, processors, speed_of, hold_of, offer}
use Rattle.chain.specs.Dynamic.{start_of, candidate, table_value, crossing, moves_to}
use Rattle.chain.proofs.Parts.{valid_proper}
use Rattle.chain.specs.Ranges.{Small, Narrow}
use Rattle.chain.proofs.Ranges.{offer_small, offer_narrow}
use Rattle.chain.proofs.Table.{start_unlimited, start_limited, start_keeps, crossing_is, crossing-le, value_first, value_later, table_attained, moves_to_crossing}
use Rattle.chain.proofs.Within.{offer_part}
use Rattle.parts.specs.Prefix.{load_between, Ready}
use Rattle.parts.proofs.Laws.{speed_read, speed_bound}
use Rattle.dynamic.specs.Rows.{entry_at, RowAt, Begins}

-- What the code's test of two bounds says of the bounds that they are.
pub tested : {B C X Y : Bound} {r t : Bool} → B ≡ X → C ≡ Y → r ≡ le B C → r ≡ t → le X Y ≡ t
tested e f h k = sym (ap₂ le e f) ∙ sym h ∙ k

-- A bound that is narrow, by the bound that it is.
pub narrow_same : {B C : Bound} → B ≡ C → Narrow C → Narrow B
narrow_same e s = subst Narrow (sym e) s

-- The speed that the code reads is that of the processor behind p.
pub next_speed : (job : Job) (p : ℕ) → suc p < processors job → get_or job.speeds (p + 1) 0 ≡ speed_of job (suc p)
next_speed job p h = ap (λ (q : ℕ). get_or job.speeds q 0) (add-one p) ∙ speed_read job (suc p) h

-- What is read of a whole row is its value,
pub row_read : {job : Job} {xs : List ℕ} {p k : ℕ} {B : Bound} → RowAt job xs p (suc (tasks job)) → k ≤ tasks job → B ≡ entry_at xs k
    → B ≡ table_value job p k
row_read {k = k} r h f = f ∙ r.entries k (omega arith)

-- and the bound of a part that keeps the hold is what it offers.
pub part_offered : {job : Job} {xs : List ℕ} {e k i : ℕ} {B : Bound} (p : ℕ) → Ready job xs → start_of job (suc p) i ≤ k → k ≤ i → i ≤ tasks job
    → e ≡ speed_of job (suc p) → B ≡ over (load_between job.startup xs k i) e → B ≡ offer job (suc p) k i
part_offered {job} {xs} {e} {k} {i} p r s h l x f =
    speed_bound r.prefix (suc p) k i h l x f ∙ sym (offer_part job (suc p) k i (start_keeps job (suc p) i k s))

-- A crossing that is not where j begins is past it.
pub crossing_later : (job : Job) (p i : ℕ) {first at : ℕ} → first ≡ start_of job (suc p) i → at ≡ crossing job p i → at ≢ first
    → start_of job (suc p) i < at
crossing_later job p i e f n = omega (arith, (crossing_is job p i).from)

-- How many entries of a row have j begin at 0, with hold h: all without a limit, else as many as the hold and one more, and no more than there are.
pub record Free (h n free : ℕ) : Type 0 where
  pub to : free ≤ suc n
  pub limited : h ≢ 0 → free ≤ suc h
  pub rest : free ≤ n → (0 < h) × (free ≡ suc h)

pub free_unlimited : {h n free : ℕ} → h ≡ 0 → free ≡ n + 1 → Free h n free
free_unlimited e f = record { to = omega arith; limited = λ z. absurd (z e); rest = λ l. absurd (let z : ⊥ = omega arith in z) }

pub free_limited : {h n free : ℕ} → h ≢ 0 → free ≡ min (n + 1) (h + 1) → Free h n free
free_limited f e = record { to = omega arith; limited = λ z. omega arith; rest = λ l. (omega arith, omega arith) }

-- Where j begins: with a limit, at i less the hold; at 0 up to the hold, and everywhere without a limit.
module _ (job : Job) (p : ℕ) {h : ℕ} (e : h ≡ hold_of job (suc p)) where
  pub start_behind : (i : ℕ) → 0 < h → start_of job (suc p) i ≡ i - h
  start_behind i l = omega (arith, start_limited job (suc p) i (λ z. omega arith))

  -- So at the first `free` entries it is at 0, and behind them it is limited.
  module _ {free : ℕ} (w : Free h (tasks job) free) where
    pub begins_free : Begins job p false h 0 free
    begins_free =
        record {
          ordered = omega arith;
          inside = w.to;
          behind = λ e. absurd (let z : ◌≡◌ {A = ℕ} 0 1 = cc in let y : ⊥ = omega arith in y);
          starts =
              λ i l m.
              elim (ℕ_discrete h 0) [
                | yes z ↦ start_unlimited job (suc p) i (omega arith)
                | no n ↦ omega (arith, start_behind i (omega arith), w.limited n)
              ];
        }

    pub begins_limited : {all : ℕ} → all ≡ suc (tasks job) → Begins job p true h free all
    begins_limited e =
        record {
          ordered = omega (arith, w.to);
          inside = omega arith;
          behind = λ t l. omega (arith, w.rest (omega arith));
          starts = λ i l m. start_behind i (omega (arith, w.rest (omega arith)));
        }

-- The value at i: that of the row before at the crossing; past where j begins, the lesser of it and of the part before the crossing.
module _ (job : Job) (p i : ℕ) {at : ℕ} {B : Bound} (e : at ≡ crossing job p i) (b : B ≡ table_value job p at) where
  pub value_here : at ≤ start_of job (suc p) i → B ≡ table_value job (suc p) i
  value_here h = cc (value_first job p i (omega arith))

  pub value_lesser : {C X : Bound} → start_of job (suc p) i < at → C ≡ offer job (suc p) (at - 1) i → X ≡ lesser B C → X ≡ table_value job (suc p) i
  value_lesser h k x = cc (value_later job p i (omega arith))

-- Pointers of all rows make no more moves than 32 bits count.
moves_limit : max_processors * max_tasks < 2 ^ 32
unfolding max_processors max_tasks
moves_limit = lit< tt

module _ {job : Job} (v : Valid job) where
  -- A property of every offer is one of every value of the table:
  table_cases : (Q : Bound → Type 0) → ((p a b : ℕ) → Q (offer job p a b)) → (p i : ℕ) → Q (table_value job p i)
  unfolding table_value candidate
  table_cases Q h zero i = h 0 0 i
  table_cases Q h (suc p) i = go (table_cases Q h p) (table_attained (valid_proper v) p i)
    where
      go : ((j : ℕ) → Q (table_value job p j)) → (j : ℕ) × (j ≤ i) × (table_value job (suc p) i ≡ candidate job (table_value job p) (suc p) i j)
          → Q (table_value job (suc p) i)
      go row (j, l, e) = subst Q (sym e) (greater_cases Q (table_value job p j) (offer job (suc p) j i) (row j) (h (suc p) j i))

  -- each is narrow, and small where it is a number.
  pub table_narrow : (p i : ℕ) → Narrow (table_value job p i)
  table_narrow = table_cases Narrow (offer_narrow v)

  pub table_small : (p i : ℕ) → Finite (table_value job p i) → Small (table_value job p i)
  table_small = table_cases (λ B. Finite B → Small B) (offer_small v)

  -- The moves of the first p rows, and what one row more can add, fit 32 bits.
  moves_so_far : (p : ℕ) → sum_to (λ q. moves_to job q (tasks job)) p ≤ p * tasks job
  unfolding sum_to
  moves_so_far zero = omega arith
  moves_so_far (suc p) =
      omega (arith, moves_so_far p, moves_to_crossing (valid_proper v) p (tasks job), crossing-le (valid_proper v) p (tasks job))

  pub moves_fit : (p : ℕ) → p < processors job → sum_to (λ q. moves_to job q (tasks job)) p + tasks job < 2 ^ 32
  moves_fit p h =
      let m : suc p * tasks job ≤ max_processors * max_tasks = mul-le-mul (omega (arith, v.processors_limit)) v.tasks_limit in
      omega (arith, moves_so_far p, moves_limit)
