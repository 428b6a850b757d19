-- `take_in` meets its contract: each turn takes more of what the reader has.
use Rattle.std.proofs.Common.{rules}
use Rattle.intake.proofs.Laws.{taken_more}
use Rattle.intake.proofs.take_in.Goals as goal

pub loop-bytes-preserved : goal.loop-bytes-preserved
loop-bytes-preserved g c = record {
  within = search rules;
  size = search rules;
  taken =
      let came = c.loop-bytes.invariant in
      taken_more _ _ _ _ _ _ _ _ came.within c.in-Ok.ensures.bound.0 came.taken c.in-Ok.ensures.bytes.0;
}
