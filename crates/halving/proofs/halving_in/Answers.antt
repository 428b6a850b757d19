-- `halving_in` meets its contract: the two ends, then the splits between them.
use Prim.Native.Nat.{ℕ, ◌^◌}
use mathlib.Core.Path.{◌≡◌, refl, sym, subst}
use native.Mathlib.Omega.{arith}
use Rattle.chain.specs.Lists.{levels}
use Rattle.chain.proofs.Halving.{processors_power}
use Rattle.chain.proofs.Ranges.{index_fits}
use Rattle.parts.specs.Lent.{the}
use Rattle.parts.proofs.Laws.{prefix_rising}
use Rattle.parts.proofs.Lines.{line_ready}
use Rattle.halving.proofs.Laws.{row_number, row_done}
use Rattle.halving.proofs.halving_in.Goals as goal

pub overflow_cast-separators : goal.overflow_cast-separators
overflow_cast-separators c = record { fits = index_fits c.args.line.job.valid (omega arith) }

pub split_row-requires : goal.split_row-requires
split_row-requires c =
    let job = the c.args.line.job in
    record {
      rising = prefix_rising c.args.line.prefix;
      part = (omega arith, index_fits c.args.line.job.valid (omega arith));
      power = subst (λ (n : ℕ). 2 ^ levels n ≡ n) (sym (row_number c.args.separators.now (line_ready c.args.line) c.requires.room refl)) (processors_power job c.requires.halvable);
    }

pub returns : goal.returns
returns c = row_done c.args.separators.now (line_ready c.args.line) c.requires.room refl c.split_row.ensures
