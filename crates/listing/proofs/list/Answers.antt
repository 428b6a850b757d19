-- `list` meets its contract: the test of the buffer, then the listing.
use mathlib.Core.Path.{◌≡◌, ap}
use native.Mathlib.Omega.{arith}
use lib.ListN.{length}
use Rattle.std.proofs.Common.{◌≤◌, rules}
use Rattle.chain.specs.Limits.{max_processors, max_tasks}
use Rattle.chain.proofs.Numbers.{refused_ok}
use Rattle.texts.proofs.Laws.{puts_all, put_as}
use Rattle.listing.specs.Listing.{intake}
use Rattle.listing.specs.Room.{listing_room}
use Rattle.listing.specs.Answers.{list_tests, list_refusal}
use Rattle.listing.proofs.Listings.{listed_taken, list_room, list_refused, list_done}
use Rattle.listing.proofs.list.Goals as goal

pub returns-in_err-test_length : goal.returns-in_err-test_length
unfolding listing_room list_tests list_refusal max_processors
returns-in_err-test_length c =
    let a = c.args in
    let exit = c.from_residual.ensures.1 in
    let h = list_refused a.file.now a.out.now _ c.in_err-test_length.was exit c.test_length.ensures in
    record { answer = h.0; bytes = h.1 }

pub list_file-requires : goal.list_file-requires
unfolding listing_room list_tests list_refusal max_processors
list_file-requires c =
    let room = list_room (length c.args.out.now) (refused_ok c.in_ok-test_length.was c.test_length.ensures) in
    omega (arith, room, ap length c.new-page.ensures.bytes, c.new-page.ensures.empty)

pub returns : goal.returns
unfolding listing_room list_tests list_refusal intake max_processors max_tasks
returns c =
    let file = c.args.file.now in
    let out = c.args.out.now in
    let page = c.new-page.ensures in
    let none : list_refusal (length out) ≡ 0 = refused_ok c.in_ok-test_length.was c.test_length.ensures in
    let within : c.written.result ≤ length out =
    omega (arith, list_room (length out) none, c.list_file.ensures.upper_bound, page.empty, c.written.ensures) in
    let put = puts_all c.list_file.ensures.put page.bytes page.empty (search rules) c.written.ensures in
    let h = list_done file (put_as (listed_taken file c.min.ensures) put) within none in
    record { answer = h.0; bytes = h.1 }
