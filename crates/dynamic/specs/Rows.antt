-- The rows of the table, and what the functions over them ask and leave.
use Rattle.std.specs.Prelude.{ℕ, zero, suc, ◌+◌, ◌-◌, ◌*◌, ◌^◌, ◌≤◌, ◌<◌, ◌≡◌, Bool, true, cond, List, length, get_or, set, take, drop}
use Rattle.bound.specs.declared.Bound.{Bound}
use Rattle.bound.specs.Order.{over}
use Rattle.chain.specs.Job.{Job, tasks, last}
use Rattle.chain.specs.Dynamic.{start_of, table_value, crossing, moves_to, moves}

-- Entry i of a row: a load and, behind it, a speed.
unfoldable pub entry_at : List ℕ → ℕ → Bound
entry_at xs i = over (get_or xs (2 * i) 0) (get_or xs (2 * i + 1) 0)

-- The row with B as entry i.
unfoldable pub stored : List ℕ → ℕ → Bound → List ℕ
stored xs i B = set (set xs (2 * i) B.load) (2 * i + 1) B.speed

-- The row holds the first n values of processor p, and has room for all.
pub record RowAt (job : Job) (xs : List ℕ) (p n : ℕ) : Type 0 where
  pub room : 2 * suc (tasks job) ≤ length xs
  pub entries : (i : ℕ) → i < n → entry_at xs i ≡ table_value job p i

-- The pointer has moved on to `first`, and no further; its moves are counted.
pub record Begun (first from count at counted : ℕ) : Type 0 where
  pub past : first ≤ at
  pub least : (k : ℕ) → first ≤ k → from ≤ k → at ≤ k
  pub carried : counted + from ≡ count + at

-- The pointer can move on to the crossing of i in the row after row p: it is not before where j begins nor past the crossing, and its moves can be
-- counted.
pub record Movable (job : Job) (p i at count : ℕ) : Type 0 where
  pub index : i ≤ tasks job
  pub past : start_of job (suc p) i ≤ at
  pub to : at ≤ crossing job p i
  pub counts : count + i < 2 ^ 32 + at

-- The pointer stands at the crossing of i, and its moves are counted.
pub record Advanced (job : Job) (p i from count at counted : ℕ) : Type 0 where
  pub arrived : at ≡ crossing job p i
  pub carried : counted + from ≡ count + at

-- Where the pointer stands when i entries of a row are written.
unfoldable pub passed : Job → ℕ → ℕ → ℕ
passed job p zero = 0
passed job p (suc i) = crossing job p i

-- At the entries from `from` to `to` of the row after row p j begins at i less the hold where that is limited, else at 0.
pub record Begins (job : Job) (p : ℕ) (limited : Bool) (hold from to : ℕ) : Type 0 where
  pub ordered : from ≤ to
  pub inside : to ≤ suc (tasks job)
  pub behind : limited ≡ true → from < to → hold ≤ from
  pub starts : (i : ℕ) → from ≤ i → i < to → start_of job (suc p) i ≡ cond limited (i - hold) 0

-- The first `end` entries of the row after row p are filled by a pointer that started at 0, and its moves are counted.
pub record FilledTo (job : Job) (xs : List ℕ) (p end count at counted : ℕ) : Type 0 where
  pub row : RowAt job xs (suc p) end
  pub pointer : at ≡ passed job p end
  pub carried : counted ≡ count + at

-- The row after row p is filled, and its moves are counted.
pub record Filled (job : Job) (xs : List ℕ) (p count counted : ℕ) : Type 0 where
  pub row : RowAt job xs (suc p) (suc (tasks job))
  pub carried : counted ≡ count + moves_to job p (tasks job)

-- What the table method gives and leaves: the value B of the last processor at the last task; the moves made; the prefix sums as
-- they were, and what is behind the 5 × (N + 1) numbers.
pub record Tabled (job : Job) (xs ys : List ℕ) (B : Bound) (count : ℕ) : Type 0 where
  pub value : B ≡ table_value job (last job) (tasks job)
  pub counted : count ≡ moves job
  pub sums : take (suc (tasks job)) ys ≡ take (suc (tasks job)) xs
  pub rest : drop (5 * suc (tasks job)) ys ≡ drop (5 * suc (tasks job)) xs
  pub same : length ys ≡ length xs
