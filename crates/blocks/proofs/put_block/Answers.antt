use Rattle.output.proofs.PlacingLaws.{puts_then}
use Rattle.blocks.specs.BlockText.{block_text}
use Rattle.blocks.proofs.put_block.Goals as goal

pub returns : goal.returns
unfolding block_text
returns c =
    puts_then c.put_address-a.ensures (puts_then c.put-b.ensures c.put_decimal.ensures)
