use Rattle.vbi_field.proofs.Common.{◌≡◌, ◌^◌, ◌<◌, drop, list_all, is_digit, digits_value}
use Rattle.std.specs.Str.Parse.{digits_value_after}
use Rattle.vbi_field.proofs.word_row.hex_value.Given as goal

abbrev pub invariant-loop-byte : goal.invariant-loop-byte
invariant-loop-byte l =
    (digits_value 16 l.text ≡ digits_value_after 16 l.value (drop l.byte-index l.text))
    × (list_all (λ c. is_digit c 16) l.text ≡ list_all (λ c. is_digit c 16) (drop l.byte-index l.text))
    × (l.value < 16 ^ l.byte-index)
