-- Room for what a listing is made of.
use Rattle.std.specs.Prelude.{ℕ, ◌+◌, ◌*◌}
use Rattle.chain.specs.Limits.{max_processors}
use Rattle.texts.specs.Room.{field_room}

-- The six numbers of a plan's line before its separators. The first has no space; that byte is left for the line feed.
abbrev pub figures_room : ℕ
figures_room = 6 * field_room

-- The line of a plan with so many separators.
abbrev pub plan_room : ℕ → ℕ
plan_room separators = figures_room + field_room * separators

-- The first line: `tiles`, ` machines`, ` total` and the line feed, and three fields.
abbrev pub counts_room : ℕ
counts_room = 21 + 3 * field_room

-- The whole listing: the first line, and one for each of the four methods. The line of a refusal is shorter. With so
-- many machines at most,
abbrev pub room_for : ℕ → ℕ
room_for limit = counts_room + 4 * plan_room (limit + 1)

-- and with ours.
unfoldable pub listing_room : ℕ
listing_room = room_for max_processors
