-- What a call leaves of a lent list.
use Rattle.std.specs.Prelude.{ℕ, ◌≡◌, List, length, drop}

-- What is behind the first n entries is as it was.
pub record KeptFrom (n : ℕ) (before now : List ℕ) : Type 0 where
  pub same : length now ≡ length before
  pub rest : drop n now ≡ drop n before
