-- What the loops of the table keep: each invariant at the start, after a turn and at the end.
-- Assumes nothing.
use Prim.Native.Nat.{ℕ, zero, suc, ◌+◌, ◌-◌, ◌*◌, ◌^◌, ◌≤◌, ◌<◌}
use mathlib.Core.Path.{◌≡◌, refl, sym, ap, subst, ◌∙◌}
use mathlib.Core.Bool.{Bool, true, false, not, cond}
use mathlib.Core.List.{List, ◌++◌, append_assoc}
use native.Mathlib.Omega.{arith}
use native.Mathlib.Numerals.{add-one}
use mathlib.Core.Logic.{◌≢◌}
use lib.Dec.{T, eqb}
use borrow.Author.Tests.{eq-eqb, ne_eqb}
use lib.ListN.{length, get_or, take, drop, length-append, length-take, length-drop}
use lib.Seq.{get_or-take, take_at, drop_at, drop-append-add}
use Rattle.bound.specs.declared.Bound.{Bound}
use Rattle.bound.specs.Order.{over, le, lesser}
use Rattle.chain.specs.Lists.{sum_to}
use Rattle.chain.specs.Job.{Job, Valid, tasks, processors, speed_of, last, enough, offer}
use Rattle.chain.specs.Dynamic.{start_of, table_value, crossing, moves_to, moves}
use Rattle.chain.proofs.Parts.{valid_proper, valid_plannable}
use Rattle.chain.specs.Ranges.{Small, Narrow}
use Rattle.chain.proofs.Ranges.{offer_narrow, narrow_products}
use Rattle.chain.proofs.Table.{crossing_is, crossing-le, crossing_grows, moves_to_crossing, crossing_here, crossing_past}
use Rattle.chain.proofs.Demand.{table_least_bound}
use Rattle.parts.specs.Prefix.{weight_between, load_between, Ready}
use Rattle.parts.proofs.Laws.{started_some}
use Rattle.dynamic.specs.Rows.{entry_at, stored, RowAt, Begun, Movable, Advanced, passed, Begins, FilledTo, Filled, Tabled}
use Rattle.dynamic.proofs.Crossing.{tested, row_read, part_offered, crossing_later, value_lesser, table_narrow, narrow_same, table_small, moves_fit}
use Rattle.dynamic.proofs.Row.{row_none, row_stored}

-- The pointer on its way to the crossing of i.
pub record Moving (job : Job) (p i from count at counted : ℕ) : Type 0 where
  pub past : start_of job (suc p) i ≤ at
  pub to : at ≤ crossing job p i
  pub carried : counted + from ≡ count + at

-- A pointer on its way is at most i.
pub moving-le : {job : Job} {p i from count at counted : ℕ} → Valid job → Moving job p i from count at counted → at ≤ i
moving-le {job} {p} {i} v w = omega (arith, w.to, crossing-le (valid_proper v) p i)

-- The two bounds that are compared there: what the part offers, and the value of the row before.
module _ {job : Job} {sums xs : List ℕ} {p i from count at counted c e : ℕ} {B C : Bound} (r : Ready job sums) (row : RowAt job xs p (suc (tasks job)))
    (h : i ≤ tasks job) (z : c ≡ job.startup) (x : e ≡ speed_of job (suc p)) (w : Moving job p i from count at counted)
    (f : B ≡ over (load_between c sums at i) e) (g : C ≡ entry_at xs at) where
  part_there : B ≡ offer job (suc p) at i
  part_there = part_offered p r w.past (moving-le r.valid w) h x (f ∙ ap (λ (n : ℕ). over (load_between n sums at i) e) z)

  value_there : C ≡ table_value job p at
  value_there = row_read row (omega (arith, moving-le r.valid w)) g

  pub moving_products : (B.load * C.speed < 2 ^ 64) × (C.load * B.speed < 2 ^ 64)
  moving_products =
      narrow_products (narrow_same part_there (offer_narrow r.valid (suc p) at i)) (narrow_same value_there (table_narrow r.valid p at))

  -- Where the test says so, the pointer is at the crossing;
  pub moving_stop : {k : Bool} → k ≡ le B C → k ≡ true → Advanced job p i from count at counted
  moving_stop t k =
      record { arrived = crossing_here job p i at w.past w.to (tested part_there value_there t k); carried = w.carried }

  -- else it is before the crossing, and so before i: one move, and one more counted.
  moving_on : {k : Bool} → k ≡ le B C → k ≡ false → suc at ≤ crossing job p i
  moving_on t k = crossing_past job p i at w.to (tested part_there value_there t k)

  pub moving_before : {k : Bool} → k ≡ le B C → k ≡ false → at < i
  moving_before t k = omega (arith, moving_on t k, crossing-le (valid_proper r.valid) p i)

  pub moving_turn : {k : Bool} → k ≡ le B C → k ≡ false → Moving job p i from count (at + 1) (counted + 1)
  moving_turn t k = record { past = omega (arith, w.past); to = omega (arith, moving_on t k); carried = omega (arith, w.carried) }

-- The two candidates past where j begins: the value of the row before at the crossing, and the part before it.
module _ {job : Job} {sums xs : List ℕ} {p i at first e : ℕ} {B C : Bound} (r : Ready job sums) (row : RowAt job xs p (suc (tasks job)))
    (h : i ≤ tasks job) (x : e ≡ speed_of job (suc p)) (z : first ≡ start_of job (suc p) i) (y : at ≡ crossing job p i) (n : at ≢ first)
    (f : B ≡ entry_at xs at) (g : C ≡ over (job.startup + weight_between sums (at - 1) i) e) where
  past_first : start_of job (suc p) i < at
  past_first = crossing_later job p i z y n

  at_index : at ≤ i
  at_index = omega (arith, y, crossing-le (valid_proper r.valid) p i)

  value_crossing : B ≡ table_value job p at
  value_crossing = row_read row (omega (arith, at_index)) f

  offer_before : C ≡ offer job (suc p) (at - 1) i
  offer_before =
      part_offered p r (omega (arith, past_first)) (omega (arith, at_index)) h x
      (started_some job.startup sums e (at - 1) i (omega (arith, past_first, at_index)) g)

  pub here_narrow : Narrow B
  here_narrow = narrow_same value_crossing (table_narrow r.valid p at)

  pub before_narrow : Narrow C
  before_narrow = narrow_same offer_before (offer_narrow r.valid (suc p) (at - 1) i)

  pub lesser_value : {X : Bound} → X ≡ lesser B C → X ≡ table_value job (suc p) i
  lesser_value = value_lesser job p i y value_crossing past_first offer_before

-- The pointer is not past the next crossing.
passed-le : {job : Job} → Valid job → (p i : ℕ) → passed job p i ≤ crossing job p i
unfolding passed
passed-le v p zero = omega arith
passed-le v p (suc i) = crossing_grows (valid_proper v) p i (suc i) (omega arith)

-- The row after row p is being filled.
pub filling_start : {job : Job} {xs : List ℕ} (p : ℕ) {count counted : ℕ} → 2 * suc (tasks job) ≤ length xs → counted ≡ count
    → FilledTo job xs p 0 count 0 counted
unfolding passed
filling_start p h e = record { row = row_none (suc p) h; pointer = refl; carried = omega arith }

-- Where j begins, as code finds it that is compiled for both ways.
module _ {job : Job} {p n hold from to i first : ℕ} (b : Begins job p (not (eqb n 0)) hold from to) (l : from ≤ i) (m : i < to) where
  pub begins_behind : n ≢ 0 → first ≡ i - hold → first ≡ start_of job (suc p) i
  begins_behind h e = e ∙ sym (b.starts i l m ∙ ap (λ (t : Bool). cond (not t) (i - hold) 0) (ne_eqb n 0 h))

  pub begins_at_0 : n ≡ 0 → first ≡ 0 → first ≡ start_of job (suc p) i
  begins_at_0 h e = e ∙ sym (b.starts i l m ∙ ap (λ (t : Bool). cond (not t) (i - hold) 0) (eq-eqb n 0 h))

-- A turn at an entry that is to be filled.
module _ {job : Job} {p hold from to i : ℕ} {limited : Bool} (b : Begins job p limited hold from to) (m : from ≤ i) (n : i < to) where
  pub begins_inside : i ≤ tasks job
  begins_inside = omega (arith, b.inside)

  -- From where the pointer stands it moves on to there, and can move on to the crossing.
  pub filling_movable : {xs : List ℕ} {first count at counted at' counted' : ℕ} → Valid job → FilledTo job xs p i count at counted → count + tasks job < 2 ^ 32
      → first ≡ start_of job (suc p) i → Begun first at counted at' counted' → Movable job p i at' counted'
  filling_movable v w k e g =
      record {
        index = begins_inside;
        past = omega (arith, g.past);
        to = g.least (crossing job p i) (omega (arith, (crossing_is job p i).from)) (omega (arith, w.pointer, passed-le v p i));
        counts = omega (arith, w.carried, g.carried, b.inside);
      }

  -- The entry is stored.
  pub filling_turn : {xs ys : List ℕ} {first count at counted at' counted' at'' counted'' : ℕ} {B : Bound} → FilledTo job xs p i count at counted
      → Begun first at counted at' counted' → Advanced job p i at' counted' at'' counted'' → ys ≡ stored xs i B → B ≡ table_value job (suc p) i
      → FilledTo job ys p (i + 1) count at'' counted''
  unfolding passed
  filling_turn w g a f e =
      record {
        row = row_stored w.row begins_inside f e;
        pointer = a.arrived ∙ sym (ap (passed job p) (add-one i));
        carried = omega (arith, a.carried, g.carried, w.carried);
      }

pub filling_end : {job : Job} {xs ys : List ℕ} {p i end count count' at counted at' counted' : ℕ} → Valid job → FilledTo job xs p i count' at counted
    → FilledTo job ys p end (counted - at) at' counted' → end ≡ suc (tasks job) → count' ≡ count → Filled job ys p count counted'
unfolding passed
filling_end {job} {xs} {ys} {p} v w f e z =
    record {
      row = subst (RowAt job ys (suc p)) e f.row;
      carried = omega (arith, f.carried, w.carried, f.pointer, ap (passed job p) e, moves_to_crossing (valid_proper v) p (tasks job));
    }

-- Row p stands whole, and so many moves are made.
pub record Tabling (job : Job) (xs ys : List ℕ) (p counted : ℕ) : Type 0 where
  pub current : RowAt job xs p (suc (tasks job))
  pub room : 2 * suc (tasks job) ≤ length ys
  pub carried : counted ≡ sum_to (λ q. moves_to job q (tasks job)) p

pub tabling_start : {job : Job} {xs ys : List ℕ} → RowAt job xs 0 (suc (tasks job)) → 2 * suc (tasks job) ≤ length ys → Tabling job xs ys 0 0
unfolding sum_to
tabling_start r h = record { current = r; room = h; carried = refl }

-- The moves of one row more can be counted.
pub tabling_fits : {job : Job} {xs ys : List ℕ} {p counted : ℕ} → Valid job → Tabling job xs ys p counted → p < processors job
    → counted + tasks job < 2 ^ 32
tabling_fits {p = p} v w h = omega (arith, w.carried, moves_fit v p h)

sum_next : (f : ℕ → ℕ) (p : ℕ) → sum_to f (p + 1) ≡ sum_to f p + f p
unfolding sum_to
sum_next f p = ap (sum_to f) (add-one p)

-- The next row is whole, and the rows change places.
pub tabling_turn : {job : Job} {xs ys zs : List ℕ} {p count counted : ℕ} → Tabling job xs ys p count → Filled job zs p count counted
    → Tabling job zs xs (p + 1) counted
tabling_turn {job} {xs} {ys} {zs} {p} w f =
    record {
      current = subst (λ (q : ℕ). RowAt job zs q (suc (tasks job))) (sym (add-one p)) f.row;
      room = w.current.room;
      carried = omega (arith, f.carried, w.carried, sum_next (λ q. moves_to job q (tasks job)) p);
    }

-- With the last row all moves are made.
pub tabling_moves : {job : Job} {xs ys : List ℕ} {p counted : ℕ} → Tabling job xs ys p counted → p ≡ last job → counted ≡ moves job
unfolding moves
tabling_moves {job} w e = w.carried ∙ ap (sum_to (λ q. moves_to job q (tasks job))) e

-- A list whose two rows are changed: the prefix sums are as they were, and so is what is behind the rows.
module _ (job : Job) {xs : List ℕ} (sums rows new : List ℕ) (e : xs ≡ sums ++ rows) (f : length sums ≡ suc (tasks job))
    (h : 5 * suc (tasks job) ≤ length xs) (g : length new ≡ length (take (4 * (tasks job + 1)) rows)) where
  abbrev k : ℕ
  k = 4 * (tasks job + 1)

  rows_length : length new ≡ k
  rows_length = omega (arith, g, length-take k rows, ap length e, length-append sums rows)

  tabled_same : length (sums ++ (new ++ drop k rows)) ≡ length xs
  tabled_same =
      omega (
        arith,
        length-append sums (new ++ drop k rows),
        length-append new (drop k rows),
        length-drop k rows,
        rows_length,
        ap length e,
        length-append sums rows,
      )

  tabled_rest : drop (5 * suc (tasks job)) (sums ++ (new ++ drop k rows)) ≡ drop (5 * suc (tasks job)) xs
  tabled_rest =
      sym (ap (λ (l : List ℕ). drop (5 * suc (tasks job)) l) (append_assoc sums new (drop k rows)))
      ∙ drop_at (sums ++ new) (drop k rows) (5 * suc (tasks job)) (omega (arith, length-append sums new, rows_length))
      ∙ sym
      (ap (drop (5 * suc (tasks job))) e ∙ ap (λ (n : ℕ). drop n (sums ++ rows)) (let z : 5 * suc (tasks job) ≡ length sums + k = omega arith in z)
      ∙ drop-append-add sums rows k)

  pub tabled : {B : Bound} {count : ℕ} → B ≡ table_value job (last job) (tasks job) → count ≡ moves job
      → Tabled job xs (sums ++ (new ++ drop k rows)) B count
  tabled b m =
      record {
        value = b;
        counted = m;
        sums = take_at sums (new ++ drop k rows) (suc (tasks job)) f ∙ sym (ap (take (suc (tasks job))) e ∙ take_at sums rows (suc (tasks job)) f);
        rest = tabled_rest;
        same = tabled_same;
      }

-- What a caller reads off: the list still begins with the prefix sums, and the bound is small.
pub tabled_ready : {job : Job} {xs ys : List ℕ} {B : Bound} {count : ℕ} → Tabled job xs ys B count → Ready job xs → Ready job ys
tabled_ready {job} {xs} {ys} w r =
    record {
      valid = r.valid;
      prefix = record { enough = omega (arith, w.same, r.prefix.enough); sums = λ i l. front i (omega arith) ∙ r.prefix.sums i l };
    }
  where
    front : (i : ℕ) → i < suc (tasks job) → get_or ys i 0 ≡ get_or xs i 0
    front i h =
        sym (get_or-take (suc (tasks job)) ys i 0 h) ∙ ap (λ (l : List ℕ). get_or l i 0) w.sums ∙ get_or-take (suc (tasks job)) xs i 0 h

pub tabled_small : {job : Job} {xs ys : List ℕ} {B : Bound} {count : ℕ} → Tabled job xs ys B count → Valid job → T (enough job) → Small B
tabled_small {job} w v e =
    subst Small (sym w.value) (table_small v (last job) (tasks job) (table_least_bound (valid_plannable v e)).finite)
