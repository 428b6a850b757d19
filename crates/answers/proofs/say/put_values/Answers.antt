-- `put_values` meets its contract.
use Prim.Native.Nat.{ℕ}
use mathlib.Core.Path.{ap, ◌∙◌}
use mathlib.Core.List.{List, ◌++◌}
use lib.ListN.{drop}
use Rattle.answers.proofs.Put.{put_front}
use Rattle.answers.proofs.say.put_values.Goals as goal

pub returns : goal.returns
returns c =
    let n = c.min-count.result in
    ap (λ (l : List ℕ). l ++ drop n c.args.answer.now) c.copy_from_slice.ensures.after ∙ put_front c.args.values.now c.args.answer.now n c.min-count.ensures
