-- Growing entries, and what the search among them keeps and finds.
use Rattle.std.specs.Prelude.{ℕ, suc, ◌+◌, ◌≤◌, ◌<◌, List, length, get_or}

-- The list's entries up to n grow.
pub record Rising (xs : List ℕ) (n : ℕ) : Type 0 where
  pub enough : n < length xs
  pub up : (i j : ℕ) → i ≤ j → j ≤ n → get_or xs i 0 ≤ get_or xs j 0

-- The search ends by counting where the last index is fewer than so many entries on.
abbrev pub near : ℕ
near = 8

-- low is an index from a to n whose entry is at most the cap, and the entry a step on, if there is one, is above it.
pub record Spanned (xs : List ℕ) (a n cap low step : ℕ) : Type 0 where
  pub from : a ≤ low
  pub to : low ≤ n
  pub below : get_or xs low 0 ≤ cap
  pub above : low + step ≤ n → cap < get_or xs (low + step) 0

-- r is an index from a to n whose entry is at most the cap, and the next entry, if there is one, is above it.
pub record LastAtMost (xs : List ℕ) (a n cap r : ℕ) : Type 0 where
  pub from : a ≤ r
  pub to : r ≤ n
  pub below : get_or xs r 0 ≤ cap
  pub above : r < n → cap < get_or xs (suc r) 0
