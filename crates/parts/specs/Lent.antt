-- The job that lists stand for.
use Rattle.std.specs.Prelude.{◌≡◌}
use Rattle.chain.specs.Job.{Edition, edition_of, effective, Job, job_of}
use Rattle.parts.specs.declared.job.JobLists.{JobLists}
use Rattle.parts.specs.declared.job.ValidJob.{ValidJob}

-- The job of a valid job's lists, and its edition.
abbrev pub the : ValidJob → Job
the job = job_of job.startup job.speeds.now job.holds.now job.weights.now

abbrev pub edition : ValidJob → Edition
edition job = edition_of job.second job.startup

-- The job of lists that are lent, with the start-up work that counts, and its edition.
abbrev pub lent : JobLists → Job
lent lists = job_of (effective lists.second lists.startup) lists.speeds.now lists.holds.now lists.weights.now

abbrev pub lent_edition : JobLists → Edition
lent_edition lists = edition_of lists.second lists.startup

-- A valid job is that of the lists.
pub record IsLent (lists : JobLists) (job : ValidJob) : Type 0 where
  pub second : job.second ≡ lists.second
  pub startup : job.startup ≡ effective lists.second lists.startup
  pub speeds : job.speeds.now ≡ lists.speeds.now
  pub holds : job.holds.now ≡ lists.holds.now
  pub weights : job.weights.now ≡ lists.weights.now
