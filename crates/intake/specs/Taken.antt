-- How many bytes were taken in.
use Rattle.std.specs.Prelude.{ℕ, Result, Ok, Err}
use Rattle.intake.specs.declared.ReadFailed.{ReadFailed}

-- All that came, or what came before a read that failed.
abbrev pub bytes_taken : Result ℕ ReadFailed → ℕ
bytes_taken (Ok bytes) = bytes
bytes_taken (Err failed) = failed.bytes
