-- What readers of JSON (RFC 8259) find in a text, and when that is what the lines of a stream show.
use Rattle.std.specs.Prelude.{◌≡◌, ℕ, ◌+◌, ◌<◌, ◌≤◌, List, Option, Some, None, option_and_then, codes, IsUtf8, ◌≢◌, ◌^◌}
use Rattle.std.specs.Prelude.{◌⊎◌, [], ◌∷◌, ◌++◌, All, decimal, slice_get}
use Rattle.json.specs.Json.{Json, document}
use Rattle.json.specs.Strict.{HasUniqueKeys}
use Rattle.serde_json.specs.Data.{Data, null}
use Rattle.serde_json.specs.Find.{at, as_str}
use Rattle.serde_json.specs.Read.{read}
use Rattle.vbi_field.specs.CodeTexts.{Word, cause_text_of}
use Rattle.vbi_field.specs.Stream.{Reading, fields_of, rest_of, line_at}
use Rattle.vbi_field.specs.Texts.{RowReads, FieldRecovers}
use Rattle.vbi_field.specs.ConfigView.{ConfigView}
use Rattle.vbi_field.specs.Document.{value_of}
use Rattle.vbi_field.specs.RecoveredDocument.{Near, Recovered, FieldRecovered, cause_line, word_or_zero, hundredths}
use Rattle.vbi_field.specs.RecoveredRows.{as_readings}
use Rattle.vbi_near.specs.Recovery.{IsRecovered, none_erased}
use Rattle.vbi_meta.specs.DocumentValue.{document_value, recovered_value}
use Rattle.vbi_meta.specs.Settings.{whole, member_of}
use Rattle.json.specs.Lex.{tokens}
use Rattle.json.specs.Token as token

-- the text is JSON in UTF-8, this is its value, and no object in it has a key twice: readers that keep the first of two
-- members and readers that keep the last agree
pub record IsReadAs (text : List ℕ) (value : Data) : Type 0 where
  pub utf8 : IsUtf8 text
  pub value_of_text : read text ≡ Some value
  pub unique : (j : Json) × (document text ≡ Some j) × HasUniqueKeys j

-- ---- paths

-- what is found at `.fields[i]`
abbrev pub field_in : List ℕ → ℕ → Option Data
field_in text i = option_and_then (at i) (member_of (read text) (codes "fields"))

-- in a field, or in `.cutField`, the whole number at `.seqNo`
abbrev pub number_of : Option Data → Option ℕ
number_of field = option_and_then whole (member_of field (codes "seqNo"))

-- in a field, the whole number at `.vbi.vbiData[k]`
abbrev pub word_of : ℕ → Option Data → Option ℕ
word_of k field =
    option_and_then whole (option_and_then (at k) (member_of (member_of field (codes "vbi")) (codes "vbiData")))

-- in a field, the string at `.vbiCause[k]`
abbrev pub cause_of : ℕ → Option Data → Option (List ℕ)
cause_of k field = option_and_then as_str (option_and_then (at k) (member_of field (codes "vbiCause")))

-- in a field, the whole number at `.vbiPass[k]`
abbrev pub pass_of : ℕ → Option Data → Option ℕ
pass_of k field = option_and_then whole (option_and_then (at k) (member_of field (codes "vbiPass")))

-- what is found at `.cutField`
abbrev pub cut_in : List ℕ → Option Data
cut_in text = member_of (read text) (codes "cutField")

-- ---- what is found is how the lines are read

-- for line 16 + k of field i the text has the word or 0 and the pass of one reading, and the cause, with its column, of
-- another
pub record HasLine (text : List ℕ) (i k : ℕ) (line other : Reading) : Type 0 where
  pub word : word_of k (field_in text i) ≡ Some (value_of line.outcome)
  pub cause : cause_of k (field_in text i) ≡ Some (cause_text_of other.outcome)
  pub pass : pass_of k (field_in text i) ≡ Some line.pass

-- for line 16 + k of field i the text has the word or 0, the pass and the cause of one reading
abbrev pub HasReading : List ℕ → ℕ → ℕ → Reading → Type 0
HasReading text i k reading = HasLine text i k reading reading

-- `.cutField` is null if no byte came past the whole fields, and else has the number of the cut field and its bytes
pub record HasCut (text : List ℕ) (fields rest : ℕ) : Type 0 where
  pub none : rest ≡ 0 → cut_in text ≡ Some null
  pub number : 0 < rest → number_of (cut_in text) ≡ Some (fields + 1)
  pub bytes : 0 < rest → option_and_then whole (member_of (cut_in text) (codes "bytes")) ≡ Some rest

-- Fields are counted from 0 here. Each whole field has its number from 1, nothing stands after the last, and the cut
-- field is told.
pub record HasFields (c : ConfigView) (z text : List ℕ) : Type 0 where
  pub numbers : (i : ℕ) → i < fields_of c z → number_of (field_in text i) ≡ Some (i + 1)
  pub nothing : (i : ℕ) → fields_of c z ≤ i → field_in text i ≡ None
  pub cut : HasCut text (fields_of c z) (rest_of c z)

-- a line's place in a stream: its field, counted from 0, and k for line 16 + k
pub record LinePlace : Type 0 where
  pub i : ℕ
  pub k : ℕ

-- this line is there and is read as this word, in the pass that is found: in pass 1 its levels show the word, in pass 2
-- they show none, and the smoothed levels show it
pub record ReadsWord (c : ConfigView) (z text : List ℕ) (line : LinePlace) (word : ℕ) : Type 0 where
  pub field : line.i < fields_of c z
  pub place : line.k < 3
  pub pass : ℕ
  pub found : pass_of line.k (field_in text line.i) ≡ Some pass
  pub reads : RowReads c z line.i (15 + line.k) (record { outcome = Word word; pass = pass })

-- What is found in the text is how the lines of the stream are read, by the relation between a row's levels and its
-- reading. Line 16 + k is row 15 + k.
pub record HasReadings (c : ConfigView) (z text : List ℕ) : Type 0 where
  pub fields : HasFields c z text
  -- each line has a reading that is found, and what is a line's reading is found
  pub each : (i k : ℕ) → i < fields_of c z → k < 3
      → (reading : Reading) × RowReads c z i (15 + k) reading × HasReading text i k reading
  pub lines : (i k : ℕ) (reading : Reading) → i < fields_of c z → k < 3 → RowReads c z i (15 + k) reading
      → HasReading text i k reading
  -- a number other than 0 among the words is the word of that line, in pass 1 or 2
  pub words : (line : LinePlace) (word : ℕ) → word_of line.k (field_in text line.i) ≡ Some word → 0 < word
      → ReadsWord c z text line word

-- What `HasReadings` says, in short: a number among the words stands at one of the lines.
pub record FollowsLines (c : ConfigView) (z text : List ℕ) : Type 0 where
  pub fields : HasFields c z text
  pub each : (i k : ℕ) → i < fields_of c z → k < 3
      → (reading : Reading) × RowReads c z i (15 + k) reading × HasLine text i k reading reading
  pub lines : (i k : ℕ) (reading : Reading) → i < fields_of c z → k < 3 → RowReads c z i (15 + k) reading
      → HasLine text i k reading reading
  pub only : (i k word : ℕ) → word_of k (field_in text i) ≡ Some word → (i < fields_of c z) × (k < 3)

-- the text is read as the stream's document, and has the readings of its lines
pub record ReadsBack (c : ConfigView) (z text : List ℕ) : Type 0 where
  pub is_read : IsReadAs text (document_value c z)
  pub readings : HasReadings c z text

-- ---- what is found is what the lines show with recovered words

-- in a field, what is found at `.vbiNear[k]`, and the whole number that this has under a name
abbrev pub nearest_of : ℕ → Option Data → Option Data
nearest_of k field = option_and_then (at k) (member_of field (codes "vbiNear"))

abbrev pub count_in : Option Data → List ℕ → Option ℕ
count_in nearest name = option_and_then whole (member_of nearest name)

-- what is found is null, or if the line's word was recovered, its nearest word, or 0 if there is none, and how far the
-- line is from that and from any other, in hundredths of a column
pub record HasNearest (c : ConfigView) (found : Option Data) (shown : Reading) (near : Near) : Type 0 where
  pub none : shown.pass ≢ 3 → found ≡ Some null
  pub word : shown.pass ≡ 3 → count_in found (codes "word") ≡ Some (word_or_zero near.word)
  pub distance : shown.pass ≡ 3 → count_in found (codes "distance") ≡ Some (hundredths c.levels near.distance)
  pub rival : shown.pass ≡ 3 → count_in found (codes "rival") ≡ Some (hundredths c.levels near.rival)

-- for line 16 + k of field i the text has the word or 0 and the pass that it shows; the cause of that, or if it was
-- recovered, of the line's reading; and its nearest word
pub record HasShown (c : ConfigView) (text : List ℕ) (i k : ℕ) (shown reading : Reading) (near : Near) : Type 0 where
  pub line : HasLine text i k shown (cause_line shown reading)
  pub nearest : HasNearest c (nearest_of k (field_in text i)) shown near

-- the text has what the three lines of field i show
pub record HasField (c : ConfigView) (text : List ℕ) (i : ℕ) (field : FieldRecovered) : Type 0 where
  pub first : HasShown c text i 0 (as_readings field.shown).first field.readings.first field.first
  pub second : HasShown c text i 1 (as_readings field.shown).second field.readings.second field.second
  pub third : HasShown c text i 2 (as_readings field.shown).third field.readings.third field.third

-- this line is there and shows this word, in the pass that is found
pub record ShowsWord (c : ConfigView) (z text : List ℕ) (line : LinePlace) (word : ℕ) : Type 0 where
  pub field : line.i < fields_of c z
  pub place : line.k < 3
  pub pass : ℕ
  pub found : pass_of line.k (field_in text line.i) ≡ Some pass
  pub recovered : FieldRecovered
  pub recovers : FieldRecovers c z line.i recovered
  pub shows : slice_get recovered.shown line.k ≡ Some (record { outcome = Word word; pass = pass })

-- What is found in the text is what the lines of the stream show, by the rule of recovery.
pub record HasRecovered (c : ConfigView) (z text : List ℕ) : Type 0 where
  pub fields : HasFields c z text
  -- each field shows something that is found, and what a field shows is found
  pub each : (i : ℕ) → i < fields_of c z
      → (field : FieldRecovered) × FieldRecovers c z i field × HasField c text i field
  pub lines : (i : ℕ) (field : FieldRecovered) → i < fields_of c z → FieldRecovers c z i field
      → HasField c text i field
  -- a number other than 0 among the words is the word that this line shows
  pub words : (line : LinePlace) (word : ℕ) → word_of line.k (field_in text line.i) ≡ Some word → 0 < word
      → ShowsWord c z text line word

-- the text is read as the stream's document with recovered words, and has what its lines show
pub record RecoversBack (c : ConfigView) (z text : List ℕ) : Type 0 where
  pub is_read : IsReadAs text (recovered_value c z)
  pub shown : HasRecovered c z text

-- ---- the same in short, by the rule of recovery, whatever that is

-- the rule says this of lines 16, 17 and 18 of field i, by the bytes of their rows; it says nothing else of them, as
-- the law `one_recovered` of the crate `vbi_near` says
abbrev pub RuleSays : ConfigView → List ℕ → ℕ → List Recovered → Type 0
RuleSays c z i lines = IsRecovered c.system c.levels
    (line_at c.system z i 15 ++ (line_at c.system z i 16 ++ line_at c.system z i 17)) (none_erased c.system) lines

-- for line 16 + k of field i the text has the word or 0 and the pass that the rule says, and unless it recovered the
-- word, the cause, with its column
pub record HasSaid (text : List ℕ) (i k : ℕ) (line : Recovered) : Type 0 where
  pub word : word_of k (field_in text i) ≡ Some (value_of line.outcome)
  pub pass : pass_of k (field_in text i) ≡ Some line.pass
  pub cause : line.pass ≢ 3 → cause_of k (field_in text i) ≡ Some (cause_text_of line.outcome)

-- What is found in the text is what the rule says of the lines of the stream.
pub record FollowsRule (c : ConfigView) (z text : List ℕ) : Type 0 where
  pub fields : HasFields c z text
  pub each : (i : ℕ) → i < fields_of c z → (first second third : Recovered)
      × RuleSays c z i (first ∷ second ∷ third ∷ [])
      × HasSaid text i 0 first × HasSaid text i 1 second × HasSaid text i 2 third
  -- a number among the words stands at one of these lines
  pub only : (i k word : ℕ) → word_of k (field_in text i) ≡ Some word → (i < fields_of c z) × (k < 3)

-- ---- a text of bytes that stand for themselves, and of whole numbers that a float of 32 bits (IEEE 754) holds

-- the byte is printed ASCII, so it is no line feed
abbrev pub IsPrinted : ℕ → Type 0
IsPrinted byte = (32 ≤ byte) × (byte ≤ 126)

-- the byte is of ASCII and stands for itself: it is printed, and isn't the backslash of an escape, or it is a line feed
abbrev pub IsPlain : ℕ → Type 0
IsPlain byte = ((32 ≤ byte) × (byte ≤ 126) × (byte ≢ 92)) ⊎ (byte ≡ 10)

-- a number is written in decimal digits alone, without sign, point or exponent, and is below 2 ^ 24; every other token
-- passes
abbrev pub IsSmall : token.Token → Type 0
IsSmall (token.number digits) = (n : ℕ) × (n < 2 ^ 24) × (digits ≡ decimal n)
IsSmall _ = Unit {0}

-- each byte of the text is plain, and each number among its tokens of JSON (RFC 8259) is small
pub record IsPlainText (text : List ℕ) : Type 0 where
  pub bytes : All IsPlain text
  pub numbers : All IsSmall (tokens text)
