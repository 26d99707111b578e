use Rattle.vbi_line.proofs.BytesToLevels.{block_tells}
use Rattle.vbi_line.proofs.bytes_to_levels.block_bits_at.Goals as goal

pub returns-clause-levels : goal.returns-clause-levels
returns-clause-levels c =
    block_tells c.args.low c.args.bytes.now c.args.column c.block_at-samples.result c.bits_above.result
    c.block_at-samples.ensures.long c.block_at-samples.ensures.each c.bits_above.ensures.levels
