-- The number of a method, method by method.
use Prim.Native.Nat.{◌+◌}
use mathlib.Core.Path.{◌≡◌, refl}
use denote.Enum.Declared.{tag_of}
use Rattle.chain.specs.contracts.Method.{the_type}
use Rattle.chain.specs.declared.Method.{Method}
use Rattle.chain.specs.declared.Method.TheVariants.{Table, Bidding, Bisection, Nicol}
use Rattle.chain.specs.Numbers.{number_of}
use Rattle.chain.proofs.U32FromMethod.from.Goals as goal

numbered : (x : Method) → tag_of the_type x + 1 ≡ number_of x
unfolding number_of
numbered Table = refl
numbered Bidding = refl
numbered Bisection = refl
numbered Nicol = refl

pub returns : goal.returns
returns c = numbered c.args.method
