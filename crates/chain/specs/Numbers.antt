-- The methods and the refusals by their numbers, and an answer by the number that it is refused with. Scope, sections 5 and 8.
use Rattle.std.specs.Prelude.{ℕ, cond, eqb, Result, Ok, Err}
use Rattle.chain.specs.declared.Method.{Method}
use Rattle.chain.specs.declared.Method.TheVariants.{Table, Bidding, Bisection, Nicol}
use Rattle.chain.specs.declared.Refusal.{Refusal}
use Rattle.chain.specs.declared.Refusal.TheVariants.{UnknownMethod, PartialRecord, UnknownRecord, ProcessorAfterTask, SpeedRange, WeightRange, ProcessorCount, TaskCount, ShortList}
use Rattle.chain.specs.declared.Refusal.TheVariants.{BoundRange, NoPartition, PlanLength, UntruePlan, UnequalRow, LateStartup, StartupRange, FewHolds, HoldsSet}

-- The number of a method. Scope 5.1: "Method 1 is the table, method 2 bidding, method 3 bisection, method 4 Nicol's search."
unfoldable pub number_of : Method → ℕ
number_of Table = 1
number_of Bidding = 2
number_of Bisection = 3
number_of Nicol = 4

-- The method with this number, refusal 1 where there is none.
unfoldable pub chosen_of : ℕ → Result Method Refusal
chosen_of n =
    cond (eqb n 1) (Ok Table)
    (cond (eqb n 2) (Ok Bidding) (cond (eqb n 3) (Ok Bisection) (cond (eqb n 4) (Ok Nicol) (Err UnknownMethod))))

-- The number of a refusal. Scope, section 8.
unfoldable pub code_of : Refusal → ℕ
code_of UnknownMethod = 1
code_of PartialRecord = 2
code_of UnknownRecord = 3
code_of ProcessorAfterTask = 4
code_of SpeedRange = 5
code_of WeightRange = 6
code_of ProcessorCount = 7
code_of TaskCount = 8
code_of ShortList = 9
code_of BoundRange = 10
code_of NoPartition = 11
code_of PlanLength = 12
code_of UntruePlan = 13
code_of UnequalRow = 14
code_of LateStartup = 15
code_of StartupRange = 16
code_of FewHolds = 17
code_of HoldsSet = 18

-- The refusal with this number. (Where there is none it reads as the last.)
unfoldable pub refusal_of : ℕ → Refusal
refusal_of n =
    cond (eqb n 1) UnknownMethod
    (cond (eqb n 2) PartialRecord
    (cond (eqb n 3) UnknownRecord
    (cond (eqb n 4) ProcessorAfterTask
    (cond (eqb n 5) SpeedRange
    (cond (eqb n 6) WeightRange
    (cond (eqb n 7) ProcessorCount
    (cond (eqb n 8) TaskCount
    (cond (eqb n 9) ShortList
    (cond (eqb n 10) BoundRange
    (cond (eqb n 11) NoPartition
    (cond (eqb n 12) PlanLength
    (cond (eqb n 13) UntruePlan
    (cond (eqb n 14) UnequalRow
    (cond (eqb n 15) LateStartup
    (cond (eqb n 16) StartupRange
    (cond (eqb n 17) FewHolds
    HoldsSet))))))))))))))))

-- The number that an answer is refused with, 0 where it is accepted.
unfoldable pub refused : {A : Type 0} → Result A Refusal → ℕ
refused (Ok x) = 0
refused (Err refusal) = code_of refusal

-- The answer by the number of the refusal: this value, or that refusal.
unfoldable pub answered : {A : Type 0} → ℕ → A → Result A Refusal
answered number value = cond (eqb number 0) (Ok value) (Err (refusal_of number))
