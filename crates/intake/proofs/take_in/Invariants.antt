-- What has come lies within the buffer and is what the reader gave; each turn leaves less room.
use Rattle.std.proofs.Common.{length, take, ◌-◌, ◌≡◌, ◌≤◌}
use Rattle.std.specs.Io.KnownBytes.{Consumes}
use Rattle.intake.proofs.take_in.Given as goal

abbrev pub invariant-loop-bytes : goal.invariant-loop-bytes
invariant-loop-bytes g l =
    record {
      within : l.bytes ≤ length l.file;
      size : length l.file ≡ length l.initial.file;
      taken : Consumes (g.R.Read.remaining l.initial.input) (g.R.Read.remaining l.input) (take l.bytes l.file);
    }

abbrev pub decreases-loop-bytes : goal.decreases-loop-bytes
decreases-loop-bytes g l = length l.initial.file - l.bytes
