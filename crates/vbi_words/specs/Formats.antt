-- The format of a field, by the codes of its three lines.
use Rattle.std.specs.Prelude.{ℕ, ◌↔◌, Bool, true, false, IsTrue, List, Any, Option, Some, None}
use Rattle.std.specs.List.{list_any}
use Rattle.vbi_words.specs.declared.code.Code.{Code}
use Rattle.vbi_words.specs.declared.code.Code.TheVariants.{Picture, Time, ClvPicture, PictureStop, ClvMark}
use Rattle.vbi_words.specs.declared.format.Format.{Format}
use Rattle.vbi_words.specs.declared.format.Format.TheVariants.{Cav, Clv, Both, Neither}
use Rattle.vbi_words.specs.Codes.{IsCode, code_of}

-- whether the code is one that discs of constant angular velocity alone have
abbrev pub is_cav_code : Code → Bool
is_cav_code (Picture number) = true
is_cav_code PictureStop = true
is_cav_code _ = false

-- whether the code is one that discs of constant linear velocity alone have
abbrev pub is_clv_code : Code → Bool
is_clv_code ClvMark = true
is_clv_code (Time hours minutes) = true
is_clv_code (ClvPicture seconds picture) = true
is_clv_code _ = false

-- the line has a word, and its code passes the test
abbrev pub HasCode : (Code → Bool) → Option ℕ → Type 0
HasCode test None = ⊥
HasCode test (Some word) = (code : Code) × IsCode word code × IsTrue (test code)

-- whether the format says that there are CAV codes
abbrev pub names_cav : Format → Bool
names_cav Cav = true
names_cav Both = true
names_cav _ = false

-- whether the format says that there are CLV codes
abbrev pub names_clv : Format → Bool
names_clv Clv = true
names_clv Both = true
names_clv _ = false

-- the format of a field whose lines have these words, or none: it names the kinds of code that a line has
pub record IsFormat (lines : List (Option ℕ)) (format : Format) : Type 0 where
  pub cav : IsTrue (names_cav format) ↔ Any (HasCode is_cav_code) lines
  pub clv : IsTrue (names_clv format) ↔ Any (HasCode is_clv_code) lines

-- ---- as a function, which `laws::one_format` shows to give the only format

-- whether the line has a word whose code passes the test
abbrev pub has_code : (Code → Bool) → Option ℕ → Bool
has_code test None = false
has_code test (Some word) = test (code_of word)

-- the format that names these kinds of code
abbrev pub format_from : Bool → Bool → Format
format_from true true = Both
format_from true false = Cav
format_from false true = Clv
format_from false false = Neither

-- the format of a field whose lines have these words, or none
unfoldable pub format_of_lines : List (Option ℕ) → Format
format_of_lines lines = format_from (list_any (has_code is_cav_code) lines) (list_any (has_code is_clv_code) lines)
