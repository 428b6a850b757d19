-- The number of a refusal, refusal by refusal.
use Prim.Native.Nat.{◌+◌}
use mathlib.Core.Path.{◌≡◌, refl}
use denote.Enum.Declared.{tag_of}
use Rattle.chain.specs.contracts.Refusal.{the_type}
use Rattle.chain.specs.declared.Refusal.{Refusal}
use Rattle.chain.specs.declared.Refusal.TheVariants.{UnknownMethod, PartialRecord, UnknownRecord, ProcessorAfterTask, SpeedRange, WeightRange, ProcessorCount, TaskCount, ShortList}
use Rattle.chain.specs.declared.Refusal.TheVariants.{BoundRange, NoPartition, PlanLength, UntruePlan, UnequalRow, LateStartup, StartupRange, FewHolds, HoldsSet}
use Rattle.chain.specs.Numbers.{code_of}
use Rattle.chain.proofs.U32FromRefusal.from.Goals as goal

numbered : (x : Refusal) → tag_of the_type x + 1 ≡ code_of x
unfolding code_of
numbered UnknownMethod = refl
numbered PartialRecord = refl
numbered UnknownRecord = refl
numbered ProcessorAfterTask = refl
numbered SpeedRange = refl
numbered WeightRange = refl
numbered ProcessorCount = refl
numbered TaskCount = refl
numbered ShortList = refl
numbered BoundRange = refl
numbered NoPartition = refl
numbered PlanLength = refl
numbered UntruePlan = refl
numbered UnequalRow = refl
numbered LateStartup = refl
numbered StartupRange = refl
numbered FewHolds = refl
numbered HoldsSet = refl

pub returns : goal.returns
returns c = numbered c.args.refusal
