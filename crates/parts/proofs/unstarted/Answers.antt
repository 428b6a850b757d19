-- `unstarted` meets its contract: 0 is the start-up work.
use Prim.Native.Nat.{ℕ}
use mathlib.Core.Path.{◌≡◌, refl, sym, ap, subst}
use Rattle.chain.specs.Job.{job_of, Valid}
use Rattle.parts.specs.declared.job.ValidJob.{ValidJob}
use Rattle.parts.specs.Lent.{the}
use Rattle.parts.proofs.unstarted.Goals as goal

-- The job of a valid job's lists with 0.
nought : (job : ValidJob) → job.startup ≡ 0 → job_of 0 job.speeds.now job.holds.now job.weights.now ≡ the job
nought job e = ap (λ (n : ℕ). job_of n job.speeds.now job.holds.now job.weights.now) (sym e)

pub invariant_of-result : goal.invariant_of-result
invariant_of-result c = record { valid = subst Valid (sym (nought c.args.job c.requires)) c.args.job.valid }

pub returns : goal.returns
returns c = (nought c.args.job c.requires, refl)
