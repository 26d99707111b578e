-- What a line's reading gives to a document: numbers of 64 bits, and a cause in UTF-8 with nothing to escape.
use Rattle.vbi_meta.proofs.Common.{◌≡◌, ℕ, ◌<◌, ◌≤◌, ◌^◌, Bool, List, [], ◌∷◌, ◌++◌, length, decimal, ◌∙◌, refl, ap}
use Rattle.vbi_meta.proofs.Common.{sym}
use Rattle.vbi_meta.proofs.Common.{ap₂, subst, inl, inr, arith, lit<, true, decimal_is_IsNumeral, IsUtf8-append}
use Rattle.vbi_meta.proofs.Common.{digit_from_value, codes, AllDigits, are_ascii, IsUtf8-are_ascii, escape, Outcome}
use Rattle.vbi_meta.proofs.Common.{Word, Blank, Unfinished, Change, Hold, cause_text_of, Reading, reading_at}
use Rattle.vbi_meta.proofs.Common.{readings_at, row_levels, line_at, FieldReadings, System, ConfigView, Ntsc, Pal}
use Rattle.vbi_meta.proofs.Common.{Slicing, samples_of, IsWord, is_reading, value_of, IsUtf8}
use Rattle.std.proofs.lemmas.List.{length-take, length-map}
use Rattle.std.proofs.lemmas.Fmt.{IsAscii-decimal}
use Rattle.std.proofs.lemmas.Str.{IsUtf8-from_ascii}
use Rattle.json.proofs.Printed.Strings.{escape_byte_plain}
use Rattle.json.specs.Print.{escape_byte}
use Rattle.vbi_field.specs.ConfigView.{line_bytes}
use Rattle.vbi_words.specs.Outcomes.{FirstHopeless, IsOutcome}
use Rattle.vbi_words.specs.Readings.{Reads}
use Rattle.vbi_line.specs.OneReading.{reading_of}
use Rattle.vbi_meta.proofs.BytesOf.{then, are}
use Rattle.vbi_meta.proofs.PrintedBytes.{Printed, is_printed, known, count}

-- a reading that a line of a stream can have
pub record IsShown (reading : Reading) : Type 0 where
  pub value : value_of reading.outcome < 2 ^ 64
  pub pass : reading.pass < 2 ^ 64
  pub free : escape (cause_text_of reading.outcome) ≡ cause_text_of reading.outcome
  pub utf8 : IsUtf8 (cause_text_of reading.outcome)
  pub printed : Printed (cause_text_of reading.outcome)

-- all three of a field's
pub record AreShown (readings : FieldReadings) : Type 0 where
  pub first : IsShown readings.first
  pub second : IsShown readings.second
  pub third : IsShown readings.third

-- ---- the text of a number

escape_digits : (ds : List ℕ) → AllDigits 10 ds → escape ds ≡ ds
escape_digits [] h = refl
escape_digits (d ∷ ds) h =
    let range = digit_from_value d h.0 in
    ap₂ (λ (a b : List ℕ). a ++ b) (escape_byte_plain d (λ e. omega arith) (λ e. omega arith) (omega arith))
    (escape_digits ds h.1)

escape_decimal : (n : ℕ) → n < 2 ^ 64 → escape (decimal n) ≡ decimal n
escape_decimal n h = escape_digits (decimal n) (decimal_is_IsNumeral n h).0.1

pub decimal_utf8 : (n : ℕ) → n < 2 ^ 64 → IsUtf8 (decimal n)
decimal_utf8 n h = IsUtf8-from_ascii (decimal n) (IsAscii-decimal n h)

-- ---- a reading

-- the causes with a column: a name, and the column after it
column_free : (name : List ℕ) (column : ℕ) → escape (name ++ decimal column) ≡ name ++ escape (decimal column)
    → column < 2 ^ 64
    → escape (name ++ decimal column) ≡ name ++ decimal column
column_free name column named h = named ∙ ap (λ l. name ++ l) (escape_decimal column h)

column_utf8 : (name : List ℕ) (column : ℕ) → are_ascii name ≡ true → column < 2 ^ 64 → IsUtf8 (name ++ decimal column)
column_utf8 name column e h = IsUtf8-append name (decimal column) (IsUtf8-are_ascii name e) (decimal_utf8 column h)

small_column : (system : System) (levels : List Bool) (column : ℕ) → length levels < 2 ^ 64
    → FirstHopeless system levels column
    → column < 2 ^ 64
small_column system levels column short is = omega (arith, is.inside)

-- what shows it, and its column after its name
with_column : (outcome : Outcome) (name : List ℕ) (column pass : ℕ) → value_of outcome < 2 ^ 64
    → cause_text_of outcome ≡ name ++ decimal column → escape (name ++ decimal column) ≡ name ++ escape (decimal column)
    → are_ascii name ≡ true → are is_printed name ≡ true → pass < 2 ^ 64 → column < 2 ^ 64
    → IsShown (record { outcome = outcome; pass = pass })
with_column outcome name column pass value text free ascii printed small few = record {
  value = value;
  pass = small;
  free = subst (λ t. escape t ≡ t) (sym text) (column_free name column free few);
  utf8 = subst IsUtf8 (sym text) (column_utf8 name column ascii few);
  printed = subst Printed (sym text) (then (known name printed) (count column few));
}

-- a word, in whatever pass
pub word_shown : (word pass : ℕ) → IsWord word → pass < 2 ^ 64 → IsShown (record { outcome = Word word; pass = pass })
unfolding escape_byte
word_shown word pass is small =
    record {
      value = omega (arith, is.1);
      pass = small;
      free = refl;
      utf8 = IsUtf8-are_ascii _ refl;
      printed = known (codes "word") refl;
    }

-- what levels show
pub outcome_shown : (system : System) (levels : List Bool) → length levels < 2 ^ 64 → (outcome : Outcome) (pass : ℕ)
    → IsOutcome system levels outcome → pass < 2 ^ 64 → IsShown (record { outcome = outcome; pass = pass })
unfolding escape_byte
outcome_shown system levels short (Word w) pass shows small = word_shown w pass shows.is_word small
outcome_shown system levels short Blank pass is small = record {
  value = lit< tt;
  pass = small;
  free = refl;
  utf8 = IsUtf8-are_ascii _ refl;
  printed = known (codes "blank") refl;
}
outcome_shown system levels short Unfinished pass is small = record {
  value = lit< tt;
  pass = small;
  free = refl;
  utf8 = IsUtf8-are_ascii _ refl;
  printed = known (codes "unfinished") refl;
}
outcome_shown system levels short (Change c) pass is small =
    with_column (Change c) (codes "change ") c pass (lit< tt) refl refl refl refl small
    (small_column system levels c short is.2)
outcome_shown system levels short (Hold c) pass is small =
    with_column (Hold c) (codes "hold ") c pass (lit< tt) refl refl refl refl small
    (small_column system levels c short is.2)

pub is_shown : (system : System) (levels : List Bool) → length levels < 2 ^ 64 → (outcome : Outcome) (pass : ℕ)
    → Reads system levels outcome pass → IsShown (record { outcome = outcome; pass = pass })
is_shown system levels short (Word w) pass (inl (p, shows)) = word_shown w pass shows.is_word (omega arith)
is_shown system levels short (Word w) pass (inr (p, none, high, shows)) =
    word_shown w pass shows.is_word (omega arith)
is_shown system levels short Blank pass (p, is, none) =
    outcome_shown system levels short Blank pass is (omega arith)
is_shown system levels short Unfinished pass (p, is, none) =
    outcome_shown system levels short Unfinished pass is (omega arith)
is_shown system levels short (Change c) pass (p, is, none) =
    outcome_shown system levels short (Change c) pass is (omega arith)
is_shown system levels short (Hold c) pass (p, is, none) =
    outcome_shown system levels short (Hold c) pass is (omega arith)

-- the reading of levels
pub reading_shown : (system : System) (levels : List Bool) → length levels < 2 ^ 64
    → IsShown (reading_of system levels)
reading_shown system levels short = is_shown system levels short _ _ (is_reading system levels)

-- ---- the rows of a stream

pub samples_below : (bytes : List ℕ) → length (samples_of bytes) ≤ length bytes
samples_below [] = omega arith
samples_below (low ∷ []) = omega arith
samples_below (low ∷ high ∷ bytes) = omega (arith, samples_below bytes)

-- a row of a line of either system, by its bytes
abbrev pub IsShort : List ℕ → Type 0
IsShort bytes = length bytes ≤ 2270

line_few : (system : System) → line_bytes system ≤ 2270
line_few Ntsc = omega arith
line_few Pal = omega arith

pub short_row : (system : System) (z : List ℕ) (i r : ℕ) → IsShort (line_at system z i r)
short_row system z i r = grind (arith, length-take, line_few)

pub short_levels : (slicing : Slicing) (bytes : List ℕ) → IsShort bytes → length (row_levels slicing bytes) < 2 ^ 64
short_levels slicing bytes short = grind (arith, length-map, samples_below)

row_shown : (c : ConfigView) (z : List ℕ) (i r : ℕ) → IsShown (reading_at c z i r)
row_shown c z i r =
    reading_shown c.system _ (short_levels c.levels (line_at c.system z i r) (short_row c.system z i r))

pub field_shown : (c : ConfigView) (z : List ℕ) (i : ℕ) → AreShown (readings_at c z i)
field_shown c z i = record { first = row_shown c z i 15; second = row_shown c z i 16; third = row_shown c z i 17 }
