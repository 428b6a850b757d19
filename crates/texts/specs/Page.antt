-- A page: whether it has room, and what putting a text on it leaves.
use Rattle.std.specs.Prelude.{ℕ, ◌+◌, ◌≡◌, ◌≤◌, List, length}
use Rattle.texts.specs.Room.{Put}
use Rattle.texts.specs.declared.Page.{Page}

-- There is room for so many bytes behind what has been written.
abbrev pub HasRoom : Page → ℕ → Type 0
HasRoom page bytes = page.at + bytes ≤ length page.out.now

-- The text has been put behind what had been written. The page is on the same buffer, which is as long as before.
pub record Puts (new : List ℕ) (old later : Page) : Type 0 where
  pub put : Put new old.at old.out.now later.out.now later.at
  pub size : length later.out.now ≡ length old.out.now
  pub same_buffer : later.out.ghost_name ≡ old.out.ghost_name
