-- `put_grade` meets its contract: the grade of the bytes that are taken in, and its line.
use Rattle.std.proofs.Common.{rules}
use Rattle.chain.specs.Limits.{max_processors, max_tasks}
use Rattle.texts.proofs.Laws.{puts_as, puts_all}
use Rattle.listing.specs.Listing.{intake}
use Rattle.gradeline.specs.Line.{plan_intake}
use Rattle.gradeline.proofs.Laws.{graded_line}
use Rattle.gradeline.proofs.put_grade.Goals as goal

pub returns-clause-put : goal.returns-clause-put
unfolding intake plan_intake max_processors max_tasks
returns-clause-put c =
    let line = graded_line c.args.job.now c.args.plan.now c.min.ensures c.min-2.ensures c.grade_files.ensures in
    let page = c.new-page.ensures in
    puts_all (puts_as line c.put_graded.ensures.put) page.bytes page.empty (search rules) c.written.ensures
