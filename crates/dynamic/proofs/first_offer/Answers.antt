-- `first_offer` meets its contract.
use mathlib.Core.Bool.{not}
use mathlib.Core.Path.{refl, ap}
use native.Mathlib.Omega.{arith}
use Rattle.chain.proofs.Within.{offered, not_offered}
use Rattle.parts.specs.Lent.{the}
use Rattle.parts.proofs.Laws.{loads_to, prefix_bound}
use Rattle.parts.proofs.Lines.{line_ready}
use Rattle.dynamic.proofs.first_offer.Goals as goal

pub returns-then-not-keeps_hold : goal.returns-then-not-keeps_hold
returns-then-not-keeps_hold c =
    not_offered (the c.args.line.job) 0 0 c.args.i c.keeps_hold.ensures (ap not c.if-not-keeps_hold.true)

pub part_bound-requires : goal.part_bound-requires
part_bound-requires c = record { loadable = loads_to (line_ready c.args.line) c.requires; a_le_b = omega arith }

pub returns : goal.returns
returns c =
    offered (the c.args.line.job) 0 0 c.args.i c.keeps_hold.ensures (ap not c.if-not-keeps_hold.false)
    (prefix_bound c.args.line.prefix 0 0 c.args.i c.args.line.job.valid.some_processor (omega arith) c.requires refl c.part_bound.ensures)
