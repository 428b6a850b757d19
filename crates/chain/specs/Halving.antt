-- Halving the row ("recursive bisection"). Scope, section 16.
use Rattle.std.specs.Prelude.{ℕ, zero, suc, ◌+◌, ◌-◌, ◌*◌, ◌^◌, ◌<◌, ◌≡◌, List, [], ◌∷◌, ◌++◌, length, get_or}
use Rattle.chain.specs.Lists.{smallest_least, distance, levels}
use Rattle.chain.specs.Job.{Job, tasks, processors, part_weight}

-- A row of these speeds can be halved. Scope 16.1: "rows whose speeds are all equal and whose number of machines is a power of two"
pub record Halvable (es : List ℕ) : Type 0 where
  pub equal : (p : ℕ) → p < length es → get_or es p 1 ≡ get_or es 0 1
  pub doublings : ℕ
  pub power : length es ≡ 2 ^ doublings

-- How far twice W(a+1,i) is from W(a+1,b). Scope 16.4: "Distances are compared exactly, doubled."
unfoldable pub uneven : Job → ℕ → ℕ → ℕ → ℕ
uneven job a b i = distance (2 * part_weight job a i) (part_weight job a b)

-- Scope 16.3: "the smallest index i from a to b whose W(a+1,i) is nearest to half of W(a+1,b)"
unfoldable pub split : Job → ℕ → ℕ → ℕ
split job a b = a + smallest_least (λ d. uneven job a b (a + d)) (b - a)

-- The separators between a and b of a row of 2 ^ k processors that takes the part from a to b; cut says where a part is split. Scope 16.2:
-- "A row of one machine takes its tiles". Scope 16.5: "The first half of the row takes the tiles a + 1 to i, the second the tiles i + 1 to
-- b; each is then split likewise."
unfoldable pub splits_by : (ℕ → ℕ → ℕ) → ℕ → ℕ → ℕ → List ℕ
splits_by cut zero a b = []
splits_by cut (suc k) a b = splits_by cut k a (cut a b) ++ cut a b ∷ splits_by cut k (cut a b) b

-- The separators of the halved row, s0 = 0 and sP = N among them.
unfoldable pub halving : Job → List ℕ
halving job = 0 ∷ (splits_by (split job) (levels (processors job)) 0 (tasks job) ++ (tasks job ∷ []))
