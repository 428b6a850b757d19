-- `bound_to` meets its contract.
use mathlib.Core.Path.{◌≡◌, refl, sym, subst}
use Rattle.chain.specs.Ranges.{Small}
use Rattle.chain.specs.Job.{Job, part_bound}
use Rattle.chain.proofs.Ranges.{part_small}
use Rattle.parts.specs.Lent.{the}
use Rattle.parts.specs.Prefix.{Ready}
use Rattle.parts.proofs.Laws.{loads_to, prefix_bound}
use Rattle.nicol.proofs.bound_to.Goals as goal

pub part_bound-requires : goal.part_bound-requires
part_bound-requires c =
    let line = c.args.line in
    let r : Ready (the line.job) line.sums.now = record { valid = line.job.valid; prefix = line.prefix } in
    record { loadable = loads_to r c.requires.2; a_le_b = c.requires.1 }

pub returns : goal.returns
returns c =
    let job : Job = the c.args.line.job in
    let e : c.part_bound.result ≡ part_bound job c.args.p c.args.a c.args.j =
    prefix_bound c.args.line.prefix c.args.p c.args.a c.args.j c.requires.0 c.requires.1 c.requires.2 refl c.part_bound.ensures in
    record {
      value = e;
      small = subst Small (sym e) (part_small c.args.line.job.valid c.args.p c.args.a c.args.j);
    }
