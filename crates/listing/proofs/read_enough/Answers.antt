-- `read_enough` meets its contract: what reading refuses, then the test of the holds.
use mathlib.Core.Path.{refl, sym, ◌∙◌}
use Rattle.chain.specs.Numbers.{refused}
use Rattle.chain.proofs.Numbers.{refused_ok, refused_err, err_nonzero}
use Rattle.refusals.proofs.Answering.{passed_on}
use Rattle.jobs.proofs.Taken.{read_taken, read_rejected, taken_valid, taken_the, taken_edition}
use Rattle.listing.proofs.Listings.{listed_first, listed_enough, kept_enough}
use Rattle.listing.proofs.read_enough.Goals as goal

pub returns-in_err-read_job-clause-number : goal.returns-in_err-read_job-clause-number
returns-in_err-read_job-clause-number c =
    let q = c.requires in
    let file = c.args.file.now in
    let was = c.in_err-read_job.was in
    let of_file = read_rejected file _ _ _ q.speeds_room q.holds_room q.weights_room c.read_job.ensures.answer in
    refused_err was (passed_on _ c.from_residual.ensures.1) (listed_first file of_file (err_nonzero was refl))

pub job-job-requires : goal.job-job-requires
job-job-requires c =
    let r = c.read_job.ensures in
    let w = read_taken c.args.file.now _ _ _ r.answer c.in_ok-read_job.was r.speeds r.holds r.weights in
    record { speeds = w.few_speeds; holds = w.few_holds; weights = w.few_weights; valid = taken_valid w }

pub returns-in_err-test_enough-clause-number : goal.returns-in_err-test_enough-clause-number
returns-in_err-test_enough-clause-number c =
    let file = c.args.file.now in
    let r = c.read_job.ensures in
    let w = read_taken file _ _ _ r.answer c.in_ok-read_job.was r.speeds r.holds r.weights in
    let of_file = listed_enough file w.accepted (taken_the w c.job-job.result c.job-job.ensures.job) in
    let err = passed_on _ c.from_residual-in_err-test_enough.ensures.1 in
    refused_err c.in_err-test_enough.was err (c.test_enough.ensures ∙ of_file)

pub returns : goal.returns
unfolding refused
returns c =
    let file = c.args.file.now in
    let r = c.read_job.ensures in
    let w = read_taken file _ _ _ r.answer c.in_ok-read_job.was r.speeds r.holds r.weights in
    let job = c.job-job.result in
    let of_file = taken_the w job c.job-job.ensures.job in
    let passed = refused_ok c.in_ok-test_enough.was c.test_enough.ensures in
    record {
      number = sym (sym (listed_enough file w.accepted of_file) ∙ passed);
      job = of_file;
      edition = taken_edition w job c.job-job.ensures.job c.job-job.ensures.second;
      enough = kept_enough _ passed;
    }
