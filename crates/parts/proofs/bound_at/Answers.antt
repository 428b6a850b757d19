-- `bound_at` meets its contract: the entries of a partition are the ends of a part.
use mathlib.Core.Path.{refl}
use native.Mathlib.Omega.{arith}
use Rattle.parts.specs.Lent.{the}
use Rattle.parts.proofs.Laws.{loads_to, prefix_bound}
use Rattle.parts.proofs.Lines.{line_ready}
use Rattle.parts.proofs.Measure.{front_length, front_part, bound_read}
use Rattle.parts.proofs.bound_at.Goals as goal

pub bounds-separators-p : goal.bounds-separators-p
bounds-separators-p c =
    omega (arith, front_length c.args.separators.now c.requires.partition)

pub bounds-separators-p-2 : goal.bounds-separators-p-2
bounds-separators-p-2 c =
    omega (arith, front_length c.args.separators.now c.requires.partition)

pub part_bound-requires : goal.part_bound-requires
part_bound-requires c =
    let h = front_part c.args.separators.now c.requires.partition c.requires.processor refl refl in
    record { loadable = loads_to (line_ready c.args.line) h.1; a_le_b = h.0 }

pub returns : goal.returns
returns c =
    let a = c.args in
    let h = front_part a.separators.now c.requires.partition c.requires.processor refl refl in
    bound_read (the a.line.job) a.separators.now a.p refl refl
    (prefix_bound a.line.prefix a.p _ _ c.requires.processor h.0 h.1 refl c.part_bound.ensures)
