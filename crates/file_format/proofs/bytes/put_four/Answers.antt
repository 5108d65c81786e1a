-- `put_four` meets its contract. Assumes nothing.
use mathlib.Core.Path.{refl, ◌∙◌}
use Rattle.file_format.proofs.Blocks.{put_copied}
use Rattle.file_format.proofs.Numbers.{low_four}
use Rattle.file_format.proofs.bytes.put_four.Goals as goal

pub returns : goal.returns
returns c = put_copied _ _ (c.copy_from_slice.ensures.after ∙ c.to_le_bytes-bytes.ensures ∙ low_four c.args.number) refl c.requires
