-- What the command `line` does, by its answer: z are the bytes fetched, text is what was written, n what was counted.
use Rattle.std.specs.Prelude.{◌≡◌, ℕ, ◌<◌, List, [], ◌++◌, codes, length, Option, Result, Ok, Err}
use Rattle.vbi_field.specs.Ran.{IsAtEnd, Counts, HasFailed, IsCalm, IsFirstOf, Ran, Use}
use Rattle.vbi_field.specs.ConfigView.{width_of, line_bytes, ConfigView}
use Rattle.vbi_field.specs.Stream.{row_levels, reading_of}
use Rattle.vbi_field.specs.CodeTexts.{Outcome, Word, cause_text_of, hex_text_of}
use Rattle.vbi_line.specs.Intake as intakes
use Rattle.vbi_line.specs.declared.intake.Intake.{Intake}
use Rattle.vbi_field.specs.Extracts.{counts_of}
use Rattle.vbi_field.specs.Outlet as outlets
use Rattle.vbi_field.specs.declared.outlet.Outlet.{Outlet}
pub use Rattle.vbi_cli.specs.declared.one_line.LineFault.{LineFault}
pub use Rattle.vbi_cli.specs.declared.one_line.LineFault.TheVariants.{Short, Read, Write}

-- what a line is answered with: its word in hexadecimal digits, or why it has none, and a newline
abbrev pub line_text : Outcome → List ℕ
line_text (Word word) = hex_text_of word ++ codes "\n"
line_text outcome = cause_text_of outcome ++ codes "\n"

module _ (c : ConfigView) (input : Option (List ℕ)) (z text : List ℕ) where
  -- Ok: one line's bytes were fetched and no more, and the line's answer was written
  pub record AnswersLine (outcome : Outcome) : Type 0 where
    pub whole : length z ≡ line_bytes c.system
    pub outcome_of : outcome ≡ (reading_of c.system (row_levels c.levels z)).outcome
    pub answer : text ≡ line_text outcome

  -- `Short`: the reader ended after this many bytes, fewer than a line's, and nothing was written
  pub record WasShort (bytes : ℕ) : Type 0 where
    pub count : bytes ≡ length z
    pub short : bytes < line_bytes c.system
    pub at_end : IsAtEnd input
    pub none : text ≡ []

  -- `Read`: the reader failed after this many bytes, fewer than a line's, and nothing was written
  pub record StopsAtRead (offset : ℕ) : Type 0 where
    pub count : offset ≡ length z
    pub short : offset < line_bytes c.system
    pub none : text ≡ []

  -- `Write`: one line's bytes were fetched and no more, and the writer failed after this many bytes, which are the
  -- first of the answer and not all of it
  pub record StopsAtWrite (written : ℕ) : Type 0 where
    pub whole : length z ≡ line_bytes c.system
    pub count : written ≡ length text
    pub first : IsFirstOf text (line_text (reading_of c.system (row_levels c.levels z)).outcome)

  -- how far the command came, by the answer
  abbrev pub EndsBy : Result Outcome LineFault → Type 0
  EndsBy (Ok outcome) = AnswersLine outcome
  EndsBy (Err (Short bytes)) = WasShort bytes
  EndsBy (Err (Read offset)) = StopsAtRead offset
  EndsBy (Err (Write written)) = StopsAtWrite written

-- the device that a fault names failed for good, and no other gave an error; interruptions were tried again
abbrev pub FailsBy : Result Outcome LineFault → Counts → Type 0
FailsBy (Err (Read offset)) n = HasFailed n.reader × (n.writer.errors ≡ 0)
FailsBy (Err (Write written)) n = HasFailed n.writer × (n.reader.errors ≡ 0)
FailsBy _ n = IsCalm n

-- the samples looked at, by the answer: each of a whole line once, and none of a part of one
abbrev pub looks_by : ConfigView → Result Outcome LineFault → ℕ
looks_by c (Err (Short bytes)) = 0
looks_by c (Err (Read offset)) = 0
looks_by c _ = width_of c.system

-- what was done, by the answer: the samples looked at, which device failed, and how far the command came
pub record Answers (c : ConfigView) (input : Option (List ℕ)) (n : Counts) (result : Result Outcome LineFault)
    (z text : List ℕ) : Type 0 where
  pub looks : n.looked ≡ looks_by c result
  pub devices : FailsBy result n
  pub came : EndsBy c input z text result

module _ {R W : Type 0} where
  -- the run of a fresh intake and a fresh outlet that gave this answer
  abbrev pub RunsLine : ConfigView → Use R (Intake R) → Use W (Outlet W) → Result Outcome LineFault → Type 0
  RunsLine c i o result =
      let input = i.told (outlets.device_of (intakes.counted_of i.after)) in
      let n = counts_of i.after o.after in
      Ran (i.told (outlets.device_of (intakes.counted_of i.before))) input
      (o.told (outlets.device_of (outlets.counted_of o.before)))
      (o.told (outlets.device_of (outlets.counted_of o.after))) n (Answers c input n result)
