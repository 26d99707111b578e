-- A decoder as a state of the machine by which `vbi_words` is proved. Only private contracts cite this file.
use Rattle.std.specs.Prelude.{ℕ, ◌<◌, ◌^◌, ◌≡◌, ◌+◌, Bool, replicate}
use Rattle.vbi_words.specs.declared.system.System.{System}
use Rattle.vbi_words.specs.Words.{lowest_bits}
use Rattle.vbi_words.proofs.Machine.{State, lead, first, second, tail, dead}
use Rattle.vbi_words.proofs.SystemMachine.{after_of}
use Rattle.vbi_line.specs.declared.decoder.Decoder.{Decoder}
use Rattle.vbi_line.specs.declared.decoder.Decoder.TheVariants.{Lead, First, Second, Tail}

-- the state, with the bits as a list
abbrev pub state_of : Decoder → State
state_of (Lead run) = lead run
state_of (First level run cells bits) = first level run (lowest_bits cells bits)
state_of (Second level run cells bits) = second level run (lowest_bits cells bits)
state_of (Tail bits) = tail (lowest_bits 24 bits)

-- a decoder has no bit beyond the cells that it has counted
abbrev pub IsSound : Decoder → Type 0
IsSound (Lead run) = Unit {0}
IsSound (First level run cells bits) = (cells < 24) × (bits < 2 ^ cells)
IsSound (Second level run cells bits) = (cells < 25) × (bits < 2 ^ cells)
IsSound (Tail bits) = bits < 2 ^ 24

-- how many columns the last run has
abbrev pub run_of : Decoder → ℕ
run_of (Lead run) = run
run_of (First level run cells bits) = run
run_of (Second level run cells bits) = run
run_of (Tail bits) = 0

-- a word can still be shown after `lived` of these levels, and after one more none can
abbrev pub DiesAfter : System → State → Bool → ℕ → Type 0
DiesAfter system state level lived =
    (after_of system state (replicate lived level) ≡ dead → ⊥)
    × (after_of system state (replicate (lived + 1) level) ≡ dead)
