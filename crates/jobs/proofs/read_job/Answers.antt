-- `read_job` meets its contract: the tests, then the values and holds of both kinds.
use Prim.Native.Nat.{ℕ, ◌+◌, ◌<◌}
use Rattle.std.proofs.Common.{rules, Some, slice_get}
use mathlib.Core.Path.{◌≡◌, sym, ap, ◌∙◌}
use native.Mathlib.Omega.{arith}
use lib.Seq.{length-take-le}
use Rattle.refusals.proofs.Answering.{passed_on}
use Rattle.jobs.specs.Parse.{record_count, value_at, hold_at}
use Rattle.jobs.proofs.Filling.{front_below, below_front, front_filled}
use Rattle.jobs.proofs.Reading.{read_kept, read_fits, read_together, speeds_left, holds_left, weights_left}
use Rattle.jobs.proofs.read_job.Goals as goal

pub returns-in_err-read : goal.returns-in_err-read
returns-in_err-read c =
    let h = read_kept c.args.file.now c.args.speeds.now c.args.holds.now c.args.weights.now c.test_file.ensures c.in_err-read.was in
    record {
      answer = passed_on _ c.from_residual.ensures.1 ∙ sym c.in_err-read.was ∙ c.test_file.ensures;
      speeds = h.0;
      holds = h.1;
      weights = h.2;
    }

pub overflow_add-tail : goal.overflow_add-tail
overflow_add-tail c =
    let together = read_together c.args.file.now c.args.speeds.now c.args.holds.now c.args.weights.now c.test_file.ensures c.in_ok-read.was
    c.head_records-head.ensures.value in
    omega arith

pub slice_bounds-fill-end : goal.slice_bounds-fill-end
slice_bounds-fill-end c = (read_fits c.args.file.now c.args.speeds.now c.args.holds.now c.args.weights.now c.test_file.ensures c.in_ok-read.was).1

pub slice_bounds-fill-end-2 : goal.slice_bounds-fill-end-2
slice_bounds-fill-end-2 c =
    sym (length-take-le c.in_ok-read.read.processors c.args.speeds.now (read_fits c.args.file.now c.args.speeds.now c.args.holds.now c.args.weights.now c.test_file.ensures c.in_ok-read.was).1)

pub fill-requires : goal.fill-requires
fill-requires c i h =
    let together = read_together c.args.file.now c.args.speeds.now c.args.holds.now c.args.weights.now c.test_file.ensures c.in_ok-read.was
    c.head_records-head.ensures.value in
    let front = front_below c.args.speeds.now (read_fits c.args.file.now c.args.speeds.now c.args.holds.now c.args.weights.now c.test_file.ensures c.in_ok-read.was).1 h in
    let k : c.head_records-head.result + i < record_count c.args.file.now = omega arith in
    (λ _ _ _ _ long _ _. omega (arith, long.0), λ _ _ _ _ _ _ _ _. k)

pub slice_bounds-fill-end-3 : goal.slice_bounds-fill-end-3
slice_bounds-fill-end-3 c = (read_fits c.args.file.now c.args.speeds.now c.args.holds.now c.args.weights.now c.test_file.ensures c.in_ok-read.was).2

pub slice_bounds-fill-end-4 : goal.slice_bounds-fill-end-4
slice_bounds-fill-end-4 c =
    sym (length-take-le c.in_ok-read.read.processors c.args.holds.now (read_fits c.args.file.now c.args.speeds.now c.args.holds.now c.args.weights.now c.test_file.ensures c.in_ok-read.was).2)

pub fill-requires-2 : goal.fill-requires-2
fill-requires-2 c i h =
    let together = read_together c.args.file.now c.args.speeds.now c.args.holds.now c.args.weights.now c.test_file.ensures c.in_ok-read.was
    c.head_records-head.ensures.value in
    let front = front_below c.args.holds.now (read_fits c.args.file.now c.args.speeds.now c.args.holds.now c.args.weights.now c.test_file.ensures c.in_ok-read.was).2 h in
    let k : c.head_records-head.result + i < record_count c.args.file.now = omega arith in
    (λ _ _ _ _ long _ _. omega (arith, long.0), λ _ _ _ _ _ _ _ _. k)

pub slice_bounds-fill-end-5 : goal.slice_bounds-fill-end-5
slice_bounds-fill-end-5 c = (read_fits c.args.file.now c.args.speeds.now c.args.holds.now c.args.weights.now c.test_file.ensures c.in_ok-read.was).0

pub slice_bounds-fill-end-6 : goal.slice_bounds-fill-end-6
slice_bounds-fill-end-6 c =
    sym (length-take-le c.in_ok-read.read.tasks c.args.weights.now (read_fits c.args.file.now c.args.speeds.now c.args.holds.now c.args.weights.now c.test_file.ensures c.in_ok-read.was).0)

pub fill-requires-3 : goal.fill-requires-3
fill-requires-3 c i h =
    let together = read_together c.args.file.now c.args.speeds.now c.args.holds.now c.args.weights.now c.test_file.ensures c.in_ok-read.was
    c.head_records-head.ensures.value in
    let front = front_below c.args.weights.now (read_fits c.args.file.now c.args.speeds.now c.args.holds.now c.args.weights.now c.test_file.ensures c.in_ok-read.was).0 h in
    let k : c.head_records-head.result + c.in_ok-read.read.processors + i < record_count c.args.file.now = omega arith in
    (λ _ _ _ _ long _ _. omega (arith, long.0), λ _ _ _ _ _ _ _ _. k)

pub returns-clause-answer : goal.returns-clause-answer
returns-clause-answer c = sym c.in_ok-read.was ∙ c.test_file.ensures

pub returns-clause-speeds : goal.returns-clause-speeds
returns-clause-speeds c =
    let fits = (read_fits c.args.file.now c.args.speeds.now c.args.holds.now c.args.weights.now c.test_file.ensures c.in_ok-read.was).1 in
    let each : (i : ℕ) → i < c.in_ok-read.read.processors → slice_get c.fill.new.list i ≡ Some (value_at c.args.file.now (c.head_records-head.result + i)) =
    λ i h. let e = c.fill.ensures i (below_front c.args.speeds.now fits h) in
    e.1 ∙ ap Some (let v : e.0 ≡ value_at c.args.file.now (c.head_records-head.result + i) = search rules in v) in
    front_filled (λ i. value_at c.args.file.now (c.head_records-head.result + i)) c.args.speeds.now c.fill.new.list c.in_ok-read.read.processors fits c.fill.auto.list each
    ∙ speeds_left c.args.file.now c.args.speeds.now c.args.holds.now c.args.weights.now c.test_file.ensures c.in_ok-read.was c.head_records-head.ensures.value

pub returns-clause-holds : goal.returns-clause-holds
returns-clause-holds c =
    let fits = (read_fits c.args.file.now c.args.speeds.now c.args.holds.now c.args.weights.now c.test_file.ensures c.in_ok-read.was).2 in
    let each : (i : ℕ) → i < c.in_ok-read.read.processors → slice_get c.fill-2.new.list i ≡ Some (hold_at c.args.file.now (c.head_records-head.result + i)) =
    λ i h. let e = c.fill-2.ensures i (below_front c.args.holds.now fits h) in
    e.1 ∙ ap Some (let v : e.0 ≡ hold_at c.args.file.now (c.head_records-head.result + i) = search rules in v) in
    front_filled (λ i. hold_at c.args.file.now (c.head_records-head.result + i)) c.args.holds.now c.fill-2.new.list c.in_ok-read.read.processors fits c.fill-2.auto.list each
    ∙ holds_left c.args.file.now c.args.speeds.now c.args.holds.now c.args.weights.now c.test_file.ensures c.in_ok-read.was c.head_records-head.ensures.value

pub returns-clause-weights : goal.returns-clause-weights
returns-clause-weights c =
    let fits = (read_fits c.args.file.now c.args.speeds.now c.args.holds.now c.args.weights.now c.test_file.ensures c.in_ok-read.was).0 in
    let each : (i : ℕ) → i < c.in_ok-read.read.tasks → slice_get c.fill-3.new.list i ≡ Some (value_at c.args.file.now (c.head_records-head.result + c.in_ok-read.read.processors + i)) =
    λ i h. let e = c.fill-3.ensures i (below_front c.args.weights.now fits h) in
    e.1 ∙ ap Some (let v : e.0 ≡ value_at c.args.file.now (c.head_records-head.result + c.in_ok-read.read.processors + i) = search rules in v) in
    front_filled (λ i. value_at c.args.file.now (c.head_records-head.result + c.in_ok-read.read.processors + i)) c.args.weights.now c.fill-3.new.list c.in_ok-read.read.tasks fits c.fill-3.auto.list each
    ∙ weights_left c.args.file.now c.args.speeds.now c.args.holds.now c.args.weights.now c.test_file.ensures c.in_ok-read.was c.head_records-head.ensures.value
