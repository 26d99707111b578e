use Rattle.vbi_line.proofs.BytesToLevels.{last_tells, last-lt}
use Rattle.vbi_line.proofs.bytes_to_levels.last_bits_at.Goals as goal

pub returns-clause-levels : goal.returns-clause-levels
returns-clause-levels c =
    last_tells c.args.low c.args.bytes.now c.args.column c.args.count c.block_bits_at.result c.requires.block
    c.requires.few c.block_bits_at.ensures.levels

pub returns-clause-range : goal.returns-clause-range
returns-clause-range c = last-lt c.args.count c.block_bits_at.result c.requires.few c.block_bits_at.ensures.range
