-- `arith::bytes::write2` puts the two bytes in place of those that stood there.
use mathlib.Core.Path.{refl, ◌∙◌}
use Rattle.arith.specs.Bytes.{bytes2}
use Rattle.arith.proofs.ByteLaws.{put_bytes, low2}
use Rattle.arith.proofs.bytes.write2.Goals as goal

pub returns : goal.returns
returns c = put_bytes c.args.buf.now c.args.at 2 (bytes2 c.args.v) c.requires refl (c.copy_from_slice.ensures.after ∙ c.to_le_bytes-bytes.ensures ∙ low2 c.args.v)
