-- What a contract sees of the buffer of a line: the bytes held, the room left, the cursors of its passes and the count
-- of samples looked at. A sample is two bytes, the low one first, as in ld-decode's TBC files.
use Rattle.std.specs.Prelude.{◌≡◌, ℕ, ◌+◌, ◌-◌, ◌*◌, ◌^◌, ◌<◌, ◌≤◌, List, [], ◌∷◌, length, slice_index, take, drop}
use Rattle.std.specs.Prelude.{Option, MatchOption}
use Rattle.vbi_words.specs.declared.system.System.{System}
use Rattle.vbi_words.specs.Geometry.{width_of, line_bytes}
use Rattle.vbi_line.specs.declared.line.LineBuf.TheInside.{Inside}

-- the bytes held, the bytes of the part that isn't filled, the cursor of each pass, the latest first, and the count of
-- samples looked at
pub record Line : Type 0 where
  pub system : System
  pub held : List ℕ
  pub room : List ℕ
  pub cursors : List ℕ
  pub looked : ℕ

-- a whole line is held
abbrev pub IsFull : Line → Type 0
IsFull l = length l.held ≡ line_bytes l.system

-- a line keeps its system, its passes and its count
pub record KeepsPasses (old new : Line) : Type 0 where
  pub system : new.system ≡ old.system
  pub cursors : new.cursors ≡ old.cursors
  pub looked : new.looked ≡ old.looked

-- no byte is held, and no pass was started
pub record IsCleared (old new : Line) : Type 0 where
  pub system : new.system ≡ old.system
  pub held : new.held ≡ []
  pub cursors : new.cursors ≡ []
  pub looked : new.looked ≡ old.looked

-- a line keeps its system and its bytes
pub record KeepsBytes (old new : Line) : Type 0 where
  pub system : new.system ≡ old.system
  pub held : new.held ≡ old.held
  pub room : new.room ≡ old.room

-- ---- the next sample of a pass

-- the sample at a column, low byte first
abbrev pub sample_at : List ℕ → ℕ → ℕ
sample_at bytes k = slice_index bytes (2 * k) + 256 * slice_index bytes (2 * k + 1)

-- a pass at this cursor, with these before it, gives a sample and moves on by one
pub record Looks (old : Line) (cursor : ℕ) (before : List ℕ) (s : ℕ) (new : Line) : Type 0 where
  pub inside : cursor < width_of old.system
  pub sample : s ≡ sample_at old.held cursor
  pub cursors : new.cursors ≡ (cursor + 1) ∷ before
  pub looked : new.looked ≡ old.looked + 1
  pub bytes : KeepsBytes old new

-- what the latest pass gives: a sample, or none at the line's end
abbrev pub IsNextSample : Line → Option ℕ → Line → Type 0
IsNextSample old result new = (cursor : ℕ) (before : List ℕ) → old.cursors ≡ cursor ∷ before
    → MatchOption result ((cursor ≡ width_of old.system) × (new ≡ old)) (λ s. Looks old cursor before s new)

-- ---- the next block of a pass

-- a pass at this cursor, with these before it, gives sixteen samples and moves on by sixteen
pub record LooksAtBlock (old : Line) (cursor : ℕ) (before : List ℕ) (block : List ℕ) (new : Line) : Type 0 where
  pub inside : cursor + 16 ≤ width_of old.system
  pub long : length block ≡ 16
  pub samples : (k : ℕ) → k < 16 → slice_index block k ≡ sample_at old.held (cursor + k)
  pub cursors : new.cursors ≡ (cursor + 16) ∷ before
  pub looked : new.looked ≡ old.looked + 16
  pub bytes : KeepsBytes old new

-- what the latest pass gives when a block is asked for: none if fewer than sixteen samples are left
abbrev pub IsNextBlock : Line → Option (List ℕ) → Line → Type 0
IsNextBlock old result new = (cursor : ℕ) (before : List ℕ) → old.cursors ≡ cursor ∷ before
    → MatchOption result ((width_of old.system < cursor + 16) × (new ≡ old))
    (λ block. LooksAtBlock old cursor before block new)

-- ---- as the fields of a `LineBuf`

-- the first bytes of the array are held, and the rest of a line's are room
abbrev pub line_of : Inside → Line
line_of b = record {
  system = b.system;
  held = take b.held b.store.bytes;
  room = take (line_bytes b.system - b.held) (drop b.held b.store.bytes);
  cursors = take b.passes (b.cursor ∷ b.earlier ∷ []);
  looked = b.looked;
}

-- the bytes fit, a pass needs a whole line, and the count of samples has room for the rest of a pass
pub record IsLine (b : Inside) : Type 0 where
  pub bytes : length b.store.bytes ≡ 2270
  pub held : b.held ≤ line_bytes b.system
  pub passes : b.passes ≤ 2
  pub cursor : b.cursor ≤ width_of b.system
  pub earlier : b.earlier ≤ width_of b.system
  pub looked : b.looked + (width_of b.system - b.cursor) ≤ 2 ^ 63
  pub whole : 0 < b.passes → b.held ≡ line_bytes b.system
