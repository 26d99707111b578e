use Rattle.std.proofs.Common.{rules}
use Rattle.vbi_words.specs.Readings.{IsReading}
use Rattle.vbi_line.proofs.OneReading.{only_reading, blank_is_read}
use Rattle.vbi_line.proofs.reading.read_packed_twice.Goals as goal

pub returns : goal.returns
returns c =
    let is : IsReading c.args.system c.args.packed.now
    (record { outcome = c.match-plain.outcome.0; pass = c.match-plain.outcome.1 }) = search (rules, blank_is_read) in
    only_reading c.args.system c.args.packed.now _ is
