-- What callers take from a lent job, a valid job and a line.
-- Assumes nothing.
use Prim.Native.Nat.{ℕ}
use mathlib.Core.Path.{◌≡◌, refl, sym, ap, subst, ◌∙◌}
use mathlib.Core.Bool.{Bool, true, false}
use mathlib.Core.List.{List, ◌++◌}
use Rattle.chain.specs.Job.{Job, startup_of, edition_of, effective, job_of}
use Rattle.parts.specs.declared.job.JobLists.{JobLists}
use Rattle.parts.specs.declared.job.ValidJob.{ValidJob}
use Rattle.parts.specs.declared.line.Line.{Line}
use Rattle.parts.specs.Prefix.{prefixes, Prefix, Ready}
use Rattle.parts.specs.Lent.{the, edition, lent, lent_edition, IsLent}
use Rattle.parts.proofs.Laws.{prefixes_are}

-- A line is a valid job with its prefix sums.
pub line_ready : (line : Line) → Ready (the line.job) line.sums.now
line_ready line = record { valid = line.job.valid; prefix = line.prefix }

-- A valid job that is that of the lists stands for the same job.
pub lent_is : {lists : JobLists} {job : ValidJob} → IsLent lists job → the job ≡ lent lists
lent_is {lists} {job} i =
    ap (λ (c : ℕ). job_of c job.speeds.now job.holds.now job.weights.now) i.startup
    ∙ ap (λ (es : List ℕ). job_of (effective lists.second lists.startup) es job.holds.now job.weights.now) i.speeds
    ∙ ap (λ (hs : List ℕ). job_of (effective lists.second lists.startup) lists.speeds.now hs job.weights.now) i.holds
    ∙ ap (λ (ws : List ℕ). job_of (effective lists.second lists.startup) lists.speeds.now lists.holds.now ws) i.weights

-- The edition with the start-up work that counts is the edition.
pub edition_effective : (b : Bool) (c : ℕ) → edition_of b (effective b c) ≡ edition_of b c
unfolding edition_of startup_of
edition_effective true c = refl
edition_effective false c = refl

pub lent_edition_is : {lists : JobLists} {job : ValidJob} → IsLent lists job → edition job ≡ lent_edition lists
lent_edition_is {lists} {job} i =
    ap (edition_of job.second) i.startup
    ∙ ap (λ (b : Bool). edition_of b (effective lists.second lists.startup)) i.second
    ∙ edition_effective lists.second lists.startup

-- A list in whose front prefix sums were written holds them.
pub sums_prefix : {job : Job} {xs : List ℕ} (l : List ℕ) → xs ≡ prefixes job.weights ++ l → Prefix job xs
sums_prefix {job} l e = subst (Prefix job) (sym e) (prefixes_are job l)
