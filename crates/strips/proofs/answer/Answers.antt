-- `answer` meets its contract: what was answered counts bytes of the buffer, and these are the listing.
use Rattle.std.proofs.Common.{arith, sym, ap, length-take-le}
use Rattle.std.specs.Result.{is_ok}
use Rattle.chain.specs.Limits.{max_processors}
use Rattle.listing.specs.Room.{listing_room}
use Rattle.listing.proofs.Promises.{list_counts, list_text}
use Rattle.strips.proofs.Listed.{refuses_none}
use Rattle.strips.proofs.answer.Goals as goal

pub unwrap-n-requires : goal.unwrap-n-requires
unfolding listing_room max_processors
unwrap-n-requires g c = ap is_ok (refuses_none c.args.file.now c.list.ensures.answer (omega arith))

pub slice_bounds-text-end : goal.slice_bounds-text-end
slice_bounds-text-end g c = list_counts c.args.file.now _ c.list.ensures.answer c.unwrap-n.ensures c.list.ensures.bytes

pub slice_bounds-send-end : goal.slice_bounds-send-end
slice_bounds-send-end g c =
    let l = c.list.ensures in
    sym (length-take-le _ _ (list_counts c.args.file.now _ l.answer c.unwrap-n.ensures l.bytes))

pub send-requires : goal.send-requires
send-requires g c = list_text c.args.file.now _ c.list.ensures.answer c.unwrap-n.ensures c.list.ensures.bytes
