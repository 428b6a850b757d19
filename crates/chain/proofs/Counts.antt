-- The counts of the methods, and the numbers of their allowances, fit what the code keeps them in.
-- Assumes nothing.
use Prim.Native.Nat.{◌+◌, ◌-◌, ◌*◌, ◌^◌, ◌≤◌, ◌<◌}
use mathlib.Core.Bool.{Bool, true, false, cond}
use native.Mathlib.Omega.{arith}
use native.Mathlib.Nat.{mul-le-mul, lt_of_le_of_lt, div-le_self, le_trans as ≤_trans}
use lib.Dec.{eqb, lit<}
use Rattle.chain.specs.Limits.{max_processors, max_tasks}
use Rattle.chain.specs.Lists.{digits}
use Rattle.chain.specs.Job.{Edition, First, Second, Job, Valid, tasks, processors, last, fastest, slowest}
use Rattle.chain.specs.declared.Method.TheVariants.{Table, Bidding, Nicol}
use Rattle.chain.specs.Plan.{breadth, difference, bidding_allowance, allowance}
use Rattle.chain.proofs.Digits.{digits_below}
use Rattle.chain.proofs.Ranges.{index_fits, fastest_limit, speeds_fit, difference_product}

-- The counts of moves and trials fit 32 bits.
counts_fit : max_processors * max_tasks + 2 < 2 ^ 32
unfolding max_processors max_tasks
counts_fit = lit< tt

-- The allowance of bidding is at most 2 on one processor, and at most (P − 1) · N + 1 on more.
bidding-within : (edition : Edition) (job : Job) → bidding_allowance edition job ≤ last job * tasks job + 2
unfolding bidding_allowance
bidding-within First job = omega arith
bidding-within (Second c) job = go (eqb (last job) 0)
  where
    go : (t : Bool) → cond t 2 (last job * tasks job + 1) ≤ last job * tasks job + 2
    go true = omega arith
    go false = omega arith

pub allowance-fits : (edition : Edition) {job : Job} → Valid job → (allowance edition Table job < 2 ^ 32) × (allowance edition Bidding job < 2 ^ 32)
unfolding allowance
allowance-fits edition {job} v =
    let x : last job * tasks job ≤ max_processors * max_tasks = mul-le-mul (≤_trans {n = last job} {m = processors job} (omega arith) v.processors_limit) v.tasks_limit in
    (omega (arith, counts_fit), omega (arith, counts_fit, bidding-within edition job))

-- The number of binary digits of N, and the trials of Nicol's search, fit 32 bits.
pub tasks-digits : {job : Job} → Valid job → digits (tasks job) ≤ 32
tasks-digits {job} v = digits_below (tasks job) 32 (index_fits v (omega arith))

digits_counts_fit : max_processors * 32 < 2 ^ 32
unfolding max_processors
digits_counts_fit = lit< tt

pub nicol_fits : (edition : Edition) {job : Job} → Valid job → allowance edition Nicol job < 2 ^ 32
unfolding allowance
nicol_fits edition {job} v =
    let x : last job * digits (tasks job) ≤ max_processors * 32 = mul-le-mul (≤_trans {n = last job} {m = processors job} (omega arith) v.processors_limit) (tasks-digits v) in
    omega (arith, digits_counts_fit)

-- The square of the fastest speed fits 64 bits.
pub square_fits : {job : Job} → Valid job → fastest job * fastest job < 2 ^ 64
square_fits {job} v =
    let h : fastest job ≤ 2 ^ 32 - 1 = omega (arith, fastest_limit v, speeds_fit) in
    lt_of_le_of_lt (mul-le-mul h h) (lit< tt)

-- D fits 64 bits.
difference-fits : {job : Job} → Valid job → difference job < 2 ^ 64
unfolding difference
difference-fits {job} v =
    lt_of_le_of_lt (div-le_self (breadth job * (fastest job * fastest job)) (slowest job)) (difference_product v)

pub digits_fit : {job : Job} → Valid job → digits (difference job) ≤ 64
digits_fit {job} v = digits_below (difference job) 64 (difference-fits v)
