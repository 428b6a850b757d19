-- `table_in` meets its contract: what is in front of the two rows and behind them stays.
use native.Mathlib.Omega.{arith}
use Rattle.parts.specs.Lent.{the}
use Rattle.dynamic.proofs.Laws.{tabled}
use Rattle.dynamic.proofs.table_in.Goals as goal

pub returns : goal.returns
returns c =
    let s = c.split_at_mut-sums in
    tabled (the c.args.job) s.result.0.now s.result.1.now c.fill_rows.new.rows s.ensures.value (omega (arith, s.ensures.front_len)) c.requires.room c.fill_rows.auto.rows
    c.fill_rows.ensures.value c.fill_rows.ensures.count
