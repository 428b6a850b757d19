-- `put_text` meets its contract: the text has been copied behind what was written.
use mathlib.Core.Path.{refl}
use lib.Seq.{length-sets}
use Rattle.texts.proofs.Laws.{put_part}
use Rattle.texts.proofs.Page.put_text.Goals as goal

pub returns : goal.returns
returns c =
    let put = put_part c.requires c.copy_from_slice.ensures.after in
    record { put = put; size = simp (put.bytes, length-sets); same_buffer = refl }
