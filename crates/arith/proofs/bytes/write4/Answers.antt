-- `arith::bytes::write4` puts the four bytes in place of those that stood there.
use mathlib.Core.Path.{refl, ◌∙◌}
use Rattle.arith.specs.Bytes.{bytes4}
use Rattle.arith.proofs.ByteLaws.{put_bytes}
use Rattle.arith.proofs.bytes.write4.Goals as goal

pub returns : goal.returns
returns c = put_bytes c.args.buf.now c.args.at 4 (bytes4 c.args.v) c.requires.0 refl (c.copy_from_slice.ensures.after ∙ c.to_le_bytes-bytes.ensures)
