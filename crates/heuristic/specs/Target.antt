-- The smallest index nearest to a target, by the first index past it; and what the one pass of the heuristic keeps of them.
use Rattle.std.specs.Prelude.{ℕ, suc, ◌+◌, ◌-◌, ◌*◌, ◌≤◌, ◌<◌, ◌≡◌, List, ◌⊎◌, leb}
use Rattle.chain.specs.Lists.{smallest_from, smallest_least, distance}
use Rattle.chain.specs.Job.{Job, tasks, part_weight, total_weight, total_speed, at}

-- The smallest index from a to b whose entry is at least the limit, b if there is none.
unfoldable pub first_at_least : List ℕ → ℕ → ℕ → ℕ → ℕ
first_at_least xs a b limit = smallest_from (λ i. leb limit (at xs i)) a (b - a)

-- r is the first index from i to n whose entry is above the cap, n + 1 if there is none; the entry before it is not.
pub record FirstAbove (xs : List ℕ) (i n cap r : ℕ) : Type 0 where
  pub from : i ≤ r
  pub to : r ≤ suc n
  pub below : at xs (r - 1) ≤ cap
  pub above : r ≤ n → cap < at xs r

-- How far entry i times the factor is from the target.
abbrev pub off_in : List ℕ → ℕ → ℕ → ℕ → ℕ
off_in xs factor target i = distance (at xs i * factor) target

-- The smallest index from s to n whose entry times the factor is nearest to the target.
unfoldable pub nearest_in : List ℕ → ℕ → ℕ → ℕ → ℕ → ℕ
nearest_in xs factor target s n = s + smallest_least (λ d. off_in xs factor target (s + d)) (n - s)

-- i is the first index past the target up to n, n + 1 if there is none, and the one before it is not past.
pub record PastAt (xs : List ℕ) (factor target n i : ℕ) : Type 0 where
  pub some : 1 ≤ i
  pub to : i ≤ suc n
  pub below : at xs (i - 1) * factor ≤ target
  pub above : i ≤ n → target < at xs i * factor

-- So it is of those from s on; where it is s itself, it is nearer than the one before.
pub record PastFrom (xs : List ℕ) (factor target s n i : ℕ) : Type 0 where
  pub past : PastAt xs factor target n i
  pub from : s ≤ i
  pub nearer : i ≤ s → (i ≤ n) × (off_in xs factor target i < off_in xs factor target (i - 1))

-- r is the nearer of the first index i past the target and the one before it, which is taken where they are as near.
abbrev pub Nearer : List ℕ → ℕ → ℕ → ℕ → ℕ → ℕ → Type 0
Nearer xs factor target n i r =
    ((r ≡ i) × (i ≤ n) × (off_in xs factor target i < off_in xs factor target (i - 1)))
    ⊎ ((r ≡ i - 1) × (i ≤ n → off_in xs factor target (i - 1) ≤ off_in xs factor target i))

-- How far W(1,i) times Etot is from the target.
abbrev pub off : Job → ℕ → ℕ → ℕ
off job target i = distance (part_weight job 0 i * total_speed job) target

-- The smallest index whose W(1,i) times Etot is nearest to the target.
unfoldable pub nearest_to : Job → ℕ → ℕ
nearest_to job target = smallest_least (off job target) (tasks job)

-- A target of the heuristic, with all speed beside it: it is at most all weight times all speed.
pub record Target (job : Job) (total target : ℕ) : Type 0 where
  pub speed : total ≡ total_speed job
  pub most : target ≤ total_weight job * total_speed job

-- No index before i, from 1 to N + 1, is past the target.
pub record NonePast (job : Job) (target i : ℕ) : Type 0 where
  pub from : 1 ≤ i
  pub to : i ≤ suc (tasks job)
  pub before : (k : ℕ) → k < i → part_weight job 0 k * total_speed job ≤ target

-- i is the first index past the target, N + 1 if there is none.
pub record FirstPast (job : Job) (target i : ℕ) : Type 0 where
  pub behind : NonePast job target i
  pub past : i ≤ tasks job → target < part_weight job 0 i * total_speed job
