-- A sighting's number is that of the words alone.
use Rattle.std.proofs.Common.{arith}
use Rattle.std.proofs.Common.{◌≡◌}
use Rattle.vbi_side.specs.Types.{System, Counted, Shown}
use Rattle.vbi_side.specs.Lines.{number_from, code_in}

pub same_words : (system : System) (counted : Counted) (line_16 line recorded_16 recorded : Shown)
    → line_16.word ≡ recorded_16.word → line.word ≡ recorded.word
    → number_from system counted (code_in line_16) (code_in line)
    ≡ number_from system counted (code_in recorded_16) (code_in recorded)
same_words system counted line_16 line recorded_16 recorded first second = grind arith
