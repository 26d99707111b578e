-- What a run is given, and the greatest numbers of a run and of its texts.
use Rattle.std.specs.Prelude.{ℕ, ◌*◌}
pub use Rattle.vbi_words.specs.Geometry.{width_of, height_of, name_of, line_bytes, field_bytes, system_named}
pub use Rattle.vbi_words.specs.declared.system.System.{System}
pub use Rattle.vbi_words.specs.Levels.{Slicing}
pub use Rattle.vbi_words.specs.declared.system.System.TheVariants.{Ntsc, Pal}

-- the most fields that a run may be allowed
abbrev pub most_fields : ℕ
most_fields = 1000000

-- the most rows of a field, those of PAL
abbrev pub most_rows : ℕ
most_rows = 313

-- the most bytes of one text: a head, an entry or a tail
abbrev pub longest_text : ℕ
longest_text = 448

-- the most bytes of a row of words: three items of six digits, two spaces and a newline
abbrev pub longest_row : ℕ
longest_row = 21

-- the system, the samples of black and white, and how many fields are allowed
pub record ConfigView : Type 0 where
  pub system : System
  pub levels : Slicing
  pub max_fields : ℕ

-- how many bytes may come: those of the fields that are allowed
abbrev pub allowed_bytes : ConfigView → ℕ
allowed_bytes c = c.max_fields * field_bytes c.system
