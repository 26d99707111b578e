use Rattle.std.proofs.Common.{ap, ◌∙◌}
use Rattle.vbi_line.specs.OneReading.{reading_of}
use Rattle.vbi_line.proofs.reading.read_twice.Goals as goal

-- kept for time: 1 s
pub returns-clause-reading : goal.returns-clause-reading
returns-clause-reading c =
    c.read_packed_twice.ensures ∙ ap (reading_of c.args.system) c.slice_lanes-packed.ensures.levels
