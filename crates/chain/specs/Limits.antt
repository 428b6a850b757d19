-- The limits of the scope, each by its name.
use Rattle.std.specs.Prelude.{ℕ, ◌+◌, ◌*◌}

-- Scope 1.1: "N tiles, 0 to 2,048"
unfoldable pub max_tasks : ℕ
max_tasks = 2048

-- Scope 1.2: "a weight w, 0 to 1,000,000"
unfoldable pub max_weight : ℕ
max_weight = 1000000

-- Scope 17.1: "c, 0 to 1,000,000"
unfoldable pub max_startup : ℕ
max_startup = 1000000

-- The greatest load that a part can have.
unfoldable pub max_load : ℕ
max_load = max_tasks * max_weight + max_startup

-- Scope 1.3: "P machines, 1 to 96"
unfoldable pub max_processors : ℕ
max_processors = 96

-- Scope 1.4: "a speed e, 1 to 10,000"
unfoldable pub max_speed : ℕ
max_speed = 10000

-- Scope 2.9: "A bound that a caller lends has a load of 0 to 100,000,000,000,000"
unfoldable pub max_bound_load : ℕ
max_bound_load = 100000000000000

-- Scope 2.9: "a speed of 1 to 1,000,000,000"
unfoldable pub max_bound_speed : ℕ
max_bound_speed = 1000000000
