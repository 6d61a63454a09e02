-- `text::put_text` meets its contract: the part of the output that holds the text afterwards is what it is set to from `at` on.
-- Assumes nothing.
use Rattle.text.proofs.Storing.{put_part}
use Rattle.text.proofs.put_text.Goals as goal

pub returns : goal.returns
returns c = put_part c.requires c.copy_from_slice.ensures.after
