-- The state and the four numbers are stored one behind the other, and fill the image.
use Rattle.image.specs.Image.{fields_of, image_of}
use Rattle.image.proofs.Image.{laid}
use Rattle.image.proofs.put_session.Goals as goal

pub returns : goal.returns
unfolding image_of
returns c =
    laid c.args.s.lanes c.args.image.now _ _ (fields_of c.args.s) c.told-image c.put_bytes.ensures
    (rw (c.put-4.ensures, c.put-3.ensures, c.put-2.ensures, c.put.ensures))
