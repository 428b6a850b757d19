-- `allowance_of` meets its contract, method by method.
use native.Mathlib.Omega.{arith}
use Rattle.chain.specs.Job.{First}
use Rattle.chain.specs.Plan.{bidding_allowance, allowance}
use Rattle.chain.proofs.Counts.{allowance-fits}
use Rattle.parts.specs.Lent.{the, edition}
use Rattle.planner.proofs.Allowances.{few-last, few_trials, allowance_table, allowance-bidding, allowance_bisection}
use Rattle.planner.proofs.Allowances.{allowance_nicol}
use Rattle.planner.proofs.allowance.allowance_of.Goals as goal

pub overflow_mul-most : goal.overflow_mul-most
unfolding allowance
overflow_mul-most c =
    let h = (allowance-fits First c.args.job.valid).0 in
    record { fits = omega arith }

pub overflow_cast-result : goal.overflow_cast-result
unfolding allowance
overflow_cast-result c =
    let h = (allowance-fits First c.args.job.valid).0 in
    record { fits = omega arith }

pub bidding_allowance-requires : goal.bidding_allowance-requires
unfolding allowance bidding_allowance
bidding_allowance-requires c =
    let h = (allowance-fits First c.args.job.valid).1 in
    omega arith

pub overflow_cast-result-in-Nicol : goal.overflow_cast-result-in-Nicol
overflow_cast-result-in-Nicol c = omega (arith, few-last c.args.job.valid)

pub overflow_mul-result : goal.overflow_mul-result
overflow_mul-result c = omega (arith, few_trials c.args.job.valid c.digits_of-in-Nicol.ensures.upper_bound)

pub returns-in-Table : goal.returns-in-Table
returns-in-Table c = allowance_table (edition c.args.job) (the c.args.job) c.in-Table.is

pub returns-in-Bidding : goal.returns-in-Bidding
returns-in-Bidding c =
    let job = c.args.job in
    allowance-bidding job.second job.startup (the job) c.in-Bidding.is c.bidding_allowance.ensures

pub returns-in-Bisection : goal.returns-in-Bisection
returns-in-Bisection c =
    let job = c.args.job in
    allowance_bisection (edition job) (the job) c.in-Bisection.is c.difference_of.ensures c.digits_of.ensures.value

pub returns-in-Nicol : goal.returns-in-Nicol
returns-in-Nicol c =
    let job = c.args.job in
    allowance_nicol (edition job) (the job) c.in-Nicol.is c.digits_of-in-Nicol.ensures.value
