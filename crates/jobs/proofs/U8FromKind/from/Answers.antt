-- The number of a kind, kind by kind.
use Prim.Native.Nat.{◌+◌}
use mathlib.Core.Path.{◌≡◌, refl}
use denote.Enum.Declared.{tag_of}
use Rattle.jobs.specs.contracts.Kind.{the_type}
use Rattle.jobs.specs.declared.Kind.{Kind}
use Rattle.jobs.specs.declared.Kind.TheVariants.{Processor, Task, Startup}
use Rattle.jobs.specs.Kinds.{kind_number}
use Rattle.jobs.proofs.U8FromKind.from.Goals as goal

numbered : (x : Kind) → tag_of the_type x + 1 ≡ kind_number x
unfolding kind_number
numbered Processor = refl
numbered Task = refl
numbered Startup = refl

pub returns : goal.returns
returns c = numbered c.args.kind
