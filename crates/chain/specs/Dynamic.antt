-- Dynamic programming. Scope 5.4 to 5.9. Row p here is the scope's row p + 1.
use Rattle.std.specs.Prelude.{ℕ, zero, suc, ◌+◌, ◌-◌, cond, eqb, ltb}
use Rattle.bound.specs.declared.Bound.{Bound}
use Rattle.bound.specs.Order.{le, pick, greater, lesser}
use Rattle.chain.specs.Lists.{sum_to, smallest_from}
use Rattle.chain.specs.Job.{Job, tasks, last, hold_of, offer}

-- Scope 5.6: "max(B(p−1,j), L(j+1,i)/ep)", for the row before, given as a function of j, and processor p.
unfoldable pub candidate : Job → (ℕ → Bound) → ℕ → ℕ → ℕ → Bound
candidate job before p i j = greater (before j) (offer job p j i)

-- Scope 18.12: "In the table j begins at i minus the hold of machine p, at 0 where that is less or there is no limit."
unfoldable pub start_of : Job → ℕ → ℕ → ℕ
start_of job p i = let h = hold_of job p in cond (eqb h 0) 0 (i - h)

-- Scope 5.5: "the crossing of (p,i) is the smallest j ≤ i with L(j+1,i)/ep at most B(p−1,j)". Scope 18.13: "from there on"
unfoldable pub crossing_of : Job → (ℕ → Bound) → ℕ → ℕ → ℕ
crossing_of job before p i =
    let a = start_of job p i in
    smallest_from (λ j. le (offer job p j i) (before j)) a (i - a)

-- Scope 5.6: "at the crossing and, where the crossing is above 0, at the index before". Scope 18.13: "the index before it counts only where the crossing
-- is above where j begins"
-- Here the crossing is c, and a is where j begins.
unfoldable pub lesser_at : (ℕ → Bound) → ℕ → ℕ → Bound
lesser_at f a c = pick (ltb a c) (lesser (f c) (f (c - 1))) (f c)

-- Scope 5.4: "B(1,i) = L(1,i)/e1." Scope 5.6: "B(p,i) is the lesser of max(B(p−1,j), L(j+1,i)/ep)"
unfoldable pub table_value : Job → ℕ → ℕ → Bound
table_value job zero i = offer job 0 0 i
table_value job (suc p) i =
    lesser_at (candidate job (table_value job p) (suc p) i) (start_of job (suc p) i) (crossing_of job (table_value job p) (suc p) i)

-- The crossing in row p + 1.
unfoldable pub crossing : Job → ℕ → ℕ → ℕ
crossing job p i = crossing_of job (table_value job p) (suc p) i

-- Scope 5.8: "For each p ≥ 2 a pointer starts at 0 and goes on, one index a move, from crossing to crossing as i goes up from 0."
-- The moves in row p + 1 until i.
unfoldable pub moves_to : Job → ℕ → ℕ → ℕ
moves_to job p zero = crossing job p 0
moves_to job p (suc i) = moves_to job p i + (crossing job p (suc i) - crossing job p i)

-- Scope 5.9: "The table's count is its moves"
unfoldable pub moves : Job → ℕ
moves job = sum_to (λ p. moves_to job p (tasks job)) (last job)
