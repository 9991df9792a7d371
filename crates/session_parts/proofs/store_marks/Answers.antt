-- The table is copied to the mark section: its words are the mark words of the table's marks.
use lib.ListN.{drop}
use Rattle.session.specs.Limits.{fixed_size}
use Rattle.session.proofs.Decoded.{layout-whole}
use Rattle.session.proofs.Stores.{put_marks}
use Rattle.session_parts.proofs.store_marks.Goals as goal

pub returns : goal.returns
returns c =
    let xs = c.args.session.now in
    put_marks _ _ _ xs (drop fixed_size xs) c.args.table.now _ (layout-whole xs c.requires.0) c.requires.1 c.requires.2
    c.copy_from_slice.ensures.after
