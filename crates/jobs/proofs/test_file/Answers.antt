-- `test_file` meets its contract: the records, 7 and 8, then 9 of each list.
use Rattle.refusals.proofs.Answering.{passed_on}
use Rattle.jobs.proofs.Reading.{records_answer, counts_answer, weights_answer, speeds_answer, holds_answer, all_answer}
use Rattle.jobs.proofs.test_file.Goals as goal

pub returns-in_err-read : goal.returns-in_err-read
returns-in_err-read c =
    records_answer c.args.file.now c.args.speeds c.args.holds c.args.weights c.test_records.ensures c.in_err-read.was
    (passed_on _ c.from_residual.ensures.1)

pub returns-in_err-test_counts : goal.returns-in_err-test_counts
returns-in_err-test_counts c =
    counts_answer c.args.file.now c.args.speeds c.args.holds c.args.weights c.test_records.ensures c.in_ok-read.was
    _ c.test_counts.ensures c.in_err-test_counts.was (passed_on _ c.from_residual-in_err-test_counts.ensures.1)

pub returns-in_err-test_length : goal.returns-in_err-test_length
returns-in_err-test_length c =
    weights_answer c.args.file.now c.args.speeds c.args.holds c.args.weights c.test_records.ensures c.in_ok-read.was
    _ c.test_counts.ensures c.in_ok-test_counts.was _ c.test_length.ensures c.in_err-test_length.was (passed_on _ c.from_residual-in_err-test_length.ensures.1)

pub returns-in_err-test_length-2 : goal.returns-in_err-test_length-2
returns-in_err-test_length-2 c =
    speeds_answer c.args.file.now c.args.speeds c.args.holds c.args.weights c.test_records.ensures c.in_ok-read.was
    _ c.test_counts.ensures c.in_ok-test_counts.was _ c.test_length.ensures c.in_ok-test_length.was _ c.test_length-2.ensures c.in_err-test_length-2.was (passed_on _ c.from_residual-in_err-test_length-2.ensures.1)

pub returns-in_err-test_length-3 : goal.returns-in_err-test_length-3
returns-in_err-test_length-3 c =
    holds_answer c.args.file.now c.args.speeds c.args.holds c.args.weights c.test_records.ensures c.in_ok-read.was
    _ c.test_counts.ensures c.in_ok-test_counts.was _ c.test_length.ensures c.in_ok-test_length.was _ c.test_length-2.ensures c.in_ok-test_length-2.was _ c.test_length-3.ensures c.in_err-test_length-3.was (passed_on _ c.from_residual-in_err-test_length-3.ensures.1)

pub returns : goal.returns
returns c =
    all_answer c.args.file.now c.args.speeds c.args.holds c.args.weights c.test_records.ensures c.in_ok-read.was
    _ c.test_counts.ensures c.in_ok-test_counts.was _ c.test_length.ensures c.in_ok-test_length.was _ c.test_length-2.ensures c.in_ok-test_length-2.was _ c.test_length-3.ensures c.in_ok-test_length-3.was
