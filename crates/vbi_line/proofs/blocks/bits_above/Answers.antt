use Rattle.std.proofs.Common.{◌≡◌, length, rules}
use Rattle.vbi_line.proofs.Slicing.{levels_above, above-lt}
use Rattle.vbi_line.proofs.blocks.bits_above.Goals as goal

pub returns-clause-levels : goal.returns-clause-levels
returns-clause-levels c =
    let long : length c.args.samples ≡ 16 = search rules in
    levels_above c.args.samples c.args.low long

pub returns-clause-range : goal.returns-clause-range
returns-clause-range c =
    let long : length c.args.samples ≡ 16 = search rules in
    above-lt c.args.samples c.args.low long
