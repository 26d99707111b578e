-- What a call is given beside its bytes, and why it is refused: the system is looked at first, then black and white,
-- then the length. The numbers of systems and levels may be any of 32 bits.
use Rattle.std.specs.Prelude.{ℕ, Bool, ◌*◌, ◌%◌, ◌==◌, ◌&&◌, nat_lt, nat_le, if◌then◌else◌, ok_or, Result, Ok, Err}
use Rattle.vbi_words.specs.declared.system.System as words
use Rattle.vbi_words.specs.Geometry.{line_bytes, field_bytes}
use Rattle.vbi_c.specs.Types.{Setup, Drawing, Refusal}
use Rattle.vbi_c.specs.declared.status.Refusal.TheVariants.{System, Levels, Length}
use Rattle.vbi_c.specs.Numbers.{system_of, word_or_none}
use Rattle.vbi_c.specs.Statuses.{in_turn}

-- the system of a number with black and white: samples of 16 bits, black below white
abbrev pub setup_of : ℕ → ℕ → ℕ → Result Setup Refusal
setup_of number black white = in_turn (ok_or (system_of number) System) (λ system.
    if nat_lt black white && nat_le white 65535
    then Ok (record { system = system; levels = record { black = black; white = white } })
    else Err Levels)

-- a setup whose bytes have a length that fits its system
abbrev pub of_length : (words.System → Bool) → Result Setup Refusal → Result Setup Refusal
of_length fits asked = in_turn asked (λ setup. if fits setup.system then Ok setup else Err Length)

-- the setup of a call with this many bytes, which have to be those of a line
abbrev pub line_setup : ℕ → ℕ → ℕ → ℕ → Result Setup Refusal
line_setup number black white length =
    of_length (λ system. length == line_bytes system) (setup_of number black white)

-- the setup of a call with this many bytes, which have to be those of three lines
abbrev pub rows_setup : ℕ → ℕ → ℕ → ℕ → Result Setup Refusal
rows_setup number black white length =
    of_length (λ system. length == 3 * line_bytes system) (setup_of number black white)

-- the setup of a call with this many bytes, which have to be those of that many fields
abbrev pub fields_setup : ℕ → ℕ → ℕ → ℕ → ℕ → Result Setup Refusal
fields_setup number black white length count =
    of_length (λ system. length == count * field_bytes system) (setup_of number black white)

-- the setup of a call with this many bytes, which have to be those of 1 to 28 lines
abbrev pub lines_setup : ℕ → ℕ → ℕ → ℕ → Result Setup Refusal
lines_setup number black white length = of_length (λ system.
    length % line_bytes system == 0 && nat_lt 0 length && nat_le length (28 * line_bytes system))
    (setup_of number black white)

-- what these numbers ask to be drawn on this many bytes: after the setup and the length the word is looked at
abbrev pub drawing_of : ℕ → ℕ → ℕ → ℕ → ℕ → Result Drawing Refusal
drawing_of system black white word length = in_turn (line_setup system black white length)
    (λ setup. in_turn (word_or_none word) (λ word. Ok (record { setup = setup; word = word })))
