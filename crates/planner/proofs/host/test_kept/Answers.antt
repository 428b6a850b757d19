-- `test_kept` meets its contract: 17, then 18 for method 4.
use mathlib.Core.Path.{sym, ◌∙◌}
use Rattle.chain.specs.Numbers.{number_of, refused}
use Rattle.parts.specs.Lent.{the}
use Rattle.refusals.proofs.Exits.{stopped, went}
use Rattle.refusals.proofs.Methods.{nicol_true, nicol_false}
use Rattle.planner.proofs.Kept.{kept_short, kept_free, kept_other}
use Rattle.planner.proofs.host.test_kept.Goals as goal

pub returns-in_err-test_enough : goal.returns-in_err-test_enough
returns-in_err-test_enough c =
    let m = number_of c.args.method in
    stopped _ c.in_err-test_enough.was c.from_residual.ensures.1 (kept_short m (the c.args.job) c.test_enough.ensures)

pub returns-in_err-test_free : goal.returns-in_err-test_free
returns-in_err-test_free c =
    let m = number_of c.args.method in
    let four = nicol_true c.args.method (sym c.eq.ensures ∙ c.if-eq.true) in
    let enough = went c.in_ok-test_enough.was in
    stopped _ c.in_err-test_free.was c.from_residual-in_err-test_free.ensures.1
    (λ _. kept_free m (the c.args.job) c.test_enough.ensures enough four c.test_free.ensures)

pub returns-in_ok-test_free : goal.returns-in_ok-test_free
unfolding refused
returns-in_ok-test_free c =
    let m = number_of c.args.method in
    let four = nicol_true c.args.method (sym c.eq.ensures ∙ c.if-eq.true) in
    let enough = went c.in_ok-test_enough.was in
    kept_free m (the c.args.job) c.test_enough.ensures enough four c.in_ok-test_free.ensures

pub returns-else-eq : goal.returns-else-eq
unfolding refused
returns-else-eq c =
    let m = number_of c.args.method in
    let other = nicol_false c.args.method (sym c.eq.ensures ∙ c.if-eq.false) in
    kept_other m (the c.args.job) c.test_enough.ensures (went c.in_ok-test_enough.was) other
