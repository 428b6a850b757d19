-- What `grade` writes: from the bytes of a job file and of a plan file to one line. Scope, section 14.
use Rattle.std.specs.Prelude.{ℕ, ◌+◌, ◌*◌, List, take, Result, Ok, Err}
use Rattle.chain.specs.declared.Refusal.{Refusal}
use Rattle.chain.specs.Limits.{max_processors}
use Rattle.chain.specs.Numbers.{code_of}
use Rattle.refusals.specs.Inputs.{plan_record_size}
use Rattle.grading.specs.declared.grades.Grade.{Grade}
use Rattle.grading.specs.Files.{file_grade}
use Rattle.texts.specs.Text.{text, refusal_line}
use Rattle.listing.specs.Listing.{intake}

-- Scope 14.8: "one line: `best`, `valid` or, of a refusal, `refused`, a space, the number"
unfoldable pub grade_text : Result Grade Refusal → List ℕ
grade_text (Ok Grade.Best) = text "best\n"
grade_text (Ok Grade.Valid) = text "valid\n"
grade_text (Err refusal) = refusal_line (code_of refusal)

-- Scope 14.9: "of the plan file at most one record more than the longest has"
unfoldable pub plan_intake : ℕ
plan_intake = plan_record_size * (max_processors + 1)

-- The line of a job file and a plan file. Scope 14.9: "judges longer files by those bytes".
unfoldable pub grade_line : List ℕ → List ℕ → List ℕ
grade_line job plan = grade_text (file_grade (take intake job) (take plan_intake plan))
