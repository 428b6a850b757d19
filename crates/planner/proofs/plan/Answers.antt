-- `plan` meets its contract: the method, the other tests, then the plan by it.
use mathlib.Core.Path.{sym, ◌∙◌}
use lib.ListN.{length}
use Rattle.chain.specs.Job.{Job}
use Rattle.chain.specs.Numbers.{number_of}
use Rattle.chain.proofs.Numbers.{refused_ok}
use Rattle.parts.specs.Lent.{the, lent, lent_edition}
use Rattle.refusals.specs.Inputs.{method_inputs}
use Rattle.refusals.proofs.Answering.{passed_on}
use Rattle.refusals.proofs.Exits.{the_lent, edition_lent, tested}
use Rattle.planner.specs.Answers.{method_refusal}
use Rattle.planner.proofs.Laws.{plans_unknown, plans_refused, plans_accepted, taken_by}
use Rattle.planner.proofs.plan.Goals as goal

pub returns-in_err-method : goal.returns-in_err-method
returns-in_err-method c =
    let a = c.args in
    let q = c.from_residual in
    let none = sym c.try_from.ensures ∙ c.in_err-method.was in
    let plans = plans_unknown (lent_edition a.lists) (lent a.lists) a.method a.separators.now a.scratch.now in
    let h = plans none (passed_on q.result q.ensures.1) in
    record { answer = h.0; separators = h.1.0; scratch = h.1.1 }

pub returns-in_err-job : goal.returns-in_err-job
unfolding method_refusal
returns-in_err-job c =
    let a = c.args in
    let q = c.from_residual-in_err-job in
    let known = sym c.try_from.ensures ∙ c.in_ok-method.was in
    let plans = plans_refused (lent_edition a.lists) (lent a.lists) a.method a.separators.now a.scratch.now known in
    let h = plans c.in_err-job.was (passed_on q.result q.ensures.1) c.test_method.ensures.number in
    record { answer = h.0; separators = h.1.0; scratch = h.1.1 }

pub plan_in-requires : goal.plan_in-requires
plan_in-requires c =
    let a = c.args in
    let job = c.in_ok-job.job in
    let method = c.in_ok-method.method in
    let inputs = λ (j : Job). method_inputs j (number_of method) (length a.separators.now) (length a.scratch.now) in
    let t = tested c.in_ok-job.ensures.job inputs c.in_ok-job.ensures.number in
    record {
      tested = record { valid = job.valid; enough-holds = t.keeping.0; taken = taken_by method (the job) t.free };
      separators_room = t.lists.0;
      scratch_room = t.lists.1.0;
    }

pub returns : goal.returns
unfolding method_refusal
returns c =
    let a = c.args in
    let is = c.in_ok-job.ensures.job in
    let p = c.plan_in.ensures in
    let known = sym c.try_from.ensures ∙ c.in_ok-method.was in
    let none = refused_ok c.in_ok-job.was c.test_method.ensures.number in
    let h =
    plans_accepted (lent_edition a.lists) (lent a.lists) a.method a.separators.now a.scratch.now known none
    (edition_lent is) (the_lent is) c.in_ok-job.job.valid
    p.figures p.separators p.scratch_kept in
    record { answer = h.0; separators = h.1.0; scratch = h.1.1 }
