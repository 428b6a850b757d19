use Rattle.std.proofs.Common.{◌+◌, ◌*◌, ◌≤◌, take}
use Rattle.listing.specs.Listing.{fields}
use Rattle.texts.specs.Room.{field_room}
use Rattle.texts.specs.Page.{Puts}
use Rattle.listing.proofs.put_fields.Given as goal

abbrev pub invariant-loop-number : goal.invariant-loop-number
invariant-loop-number l =
    record {
      put : Puts (fields (take l.number-index l.numbers)) l.initial.page l.page;
      upper_bound : l.page.at ≤ l.initial.page.at + field_room * l.number-index;
    }
