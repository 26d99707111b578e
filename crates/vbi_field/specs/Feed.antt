-- What a feeder does with a stream in pieces. The bytes z are those of the pieces before.
use Rattle.std.specs.Prelude.{◌≡◌, ◌↔◌, ℕ, ◌<◌, ◌≤◌, ◌⊎◌, false, IsTrue, List, [], ◌∷◌, ◌++◌, length, take, Option}
use Rattle.std.specs.Prelude.{Result, Ok, Err, IsErr, Bool, ◌+◌, ◌-◌, ◌*◌, min}
use Rattle.vbi_field.specs.Texts.{document, Extends, ExtendsInPart}
use Rattle.vbi_field.specs.Outlet.{NoError, HasCause, counted_of, written_of, Wrote, WrotePart, Outlet}
use Rattle.vbi_field.specs.Stream.{Position, position_of, fields_of, rest_of, cut_of, looks_of}
use Rattle.vbi_field.specs.ConfigView.{ConfigView, allowed_bytes, most_fields, width_of, height_of, line_bytes}
use Rattle.vbi_field.specs.Ran.{Summary, RunFault, Read, Write, TooManyFields, Failed}
use Rattle.vbi_line.specs.Line.{Line}
use Rattle.vbi_field.specs.declared.progress.Progress.{Progress}
use Rattle.vbi_field.specs.declared.feeder.Feeder.TheInside.{Inside}

-- what a contract sees of a feeder: its config, the position to which its stream has come, whether it has failed,
-- and how many samples were looked at
pub record Feeding : Type 0 where
  pub config : ConfigView
  pub position : Position
  pub has_failed : Bool
  pub looked : ℕ

-- a stream of the bytes z, no more than are allowed, has come to this position
pub record IsAt (c : ConfigView) (z : List ℕ) (now : Position) : Type 0 where
  pub allowed : length z ≤ allowed_bytes c
  pub position : now ≡ position_of c z

-- a feeder that hasn't failed has come to the position of the bytes z
pub record StandsAt (f : Feeding) (z : List ℕ) : Type 0 where
  pub unfailed : f.has_failed ≡ false
  pub at : IsAt f.config z f.position

module _ {W : Type 0} (contents : W → Option (List ℕ)) (c : ConfigView) (o o' : Outlet W) (z : List ℕ) where
  -- what a piece did, if the feeder was at z before, and its position now
  abbrev pub IsFed : List ℕ → Position → Result (Unit {0}) RunFault → Type 0
  IsFed piece now (Ok u) = IsAt c (z ++ piece) now × Extends document contents c o o' z (z ++ piece)
  IsFed piece now (Err (Write written)) =
      ExtendsInPart document contents c o o' z (take (allowed_bytes c) (z ++ piece))
  IsFed piece now (Err TooManyFields) = (allowed_bytes c < length (z ++ piece))
      × Extends document contents c o o' z (take (allowed_bytes c) (z ++ piece))
  IsFed piece now (Err _) = ⊥

  -- what the end did, if the feeder was at z before
  abbrev pub IsFinished : Result Summary RunFault → Type 0
  IsFinished (Ok s) =
      Wrote contents o o' (document.tail (fields_of c z) (rest_of c z))
      × (s.fields ≡ fields_of c z) × (s.cut ≡ cut_of (rest_of c z)) × (s.looked ≡ looks_of c z)
  IsFinished (Err (Write written)) = WrotePart contents o o' (document.tail (fields_of c z) (rest_of c z))
  IsFinished (Err _) = ⊥

-- ---- what a call says, and what a caller has who makes one for each piece

module _ {W : Type 0} (contents : W → Option (List ℕ)) where
  -- `begin` that is Ok: nothing was pushed yet, and the head was written
  pub record Begins (c : ConfigView) (o o' : Outlet W) (f : Feeding) : Type 0 where
    pub config : f.config ≡ c
    pub stands : StandsAt f []
    pub head : Wrote contents o o' (document.head c)

  -- `feed`, for whatever stream z had come to the feeder's position before
  pub record Feeds (f f' : Feeding) (o o' : Outlet W) (piece : List ℕ) (result : Result (Unit {0}) RunFault) : Type 0
    where
      pub config : f'.config ≡ f.config
      pub failed : IsTrue f'.has_failed ↔ IsErr result
      pub fed : (z : List ℕ) → StandsAt f z → IsFed contents f.config o o' z piece f'.position result

  -- `finish`, for whatever stream z had come to the feeder's position before
  abbrev pub Finishes : Feeding → Outlet W → Outlet W → Result Summary RunFault → Type 0
  Finishes f o o' result = (z : List ℕ) → StandsAt f z → IsFinished contents f.config o o' z result

  -- a `feed` of each piece in order, up to the first that fails, with that one's answer
  abbrev pub FeedsAll : Feeding → Feeding → Outlet W → Outlet W → List (List ℕ) → Result (Unit {0}) RunFault → Type 0
  FeedsAll f f' o o' [] result = (f' ≡ f) × (o' ≡ o) × (result ≡ Ok tt)
  FeedsAll f f' o o' (piece ∷ pieces) result =
      (IsErr result × Feeds f f' o o' piece result)
      ⊎ ((next : Feeding) × (outlet : Outlet W) × Feeds f next o outlet piece (Ok tt)
      × FeedsAll next f' outlet o' pieces result)

  -- `begin`, a `feed` of each piece in order and `finish`, none of which failed
  pub record Pushes (c : ConfigView) (o o' : Outlet W) (pieces : List (List ℕ)) (s : Summary) : Type 0 where
    pub first : Feeding
    pub last : Feeding
    pub begun : Outlet W
    pub fed : Outlet W
    pub begins : Begins c o begun first
    pub feeds : FeedsAll first last begun fed pieces (Ok tt)
    pub finishes : Finishes last fed o' (Ok s)

module _ {W : Type 0} (o o' : Outlet W) where
  -- a piece answers `Write` if the writer failed, and never `Read`
  abbrev pub IsFeedFault : RunFault → Type 0
  IsFeedFault (Write written) = (written ≡ written_of o') × HasCause (counted_of o) (counted_of o')
  IsFeedFault TooManyFields = NoError (counted_of o) (counted_of o')
  IsFeedFault Failed = Unit {0}
  IsFeedFault (Read field offset) = ⊥

  -- the end answers `Write` if the writer failed, and never `Read` or `TooManyFields`
  abbrev pub IsEndFault : RunFault → Type 0
  IsEndFault TooManyFields = ⊥
  IsEndFault fault = IsFeedFault fault

-- ---- the state of a feeder: its line and its progress, and the position that they make

-- the position that the whole rows and the bytes of the unfinished one make
abbrev pub position_in : ConfigView → Line → Progress → Position
position_in c l p = record {
  fields = p.fields;
  rest = p.row * line_bytes c.system + length l.held;
  held = l.held;
  first = p.readings.first;
  second = p.readings.second;
  third = p.readings.third;
}

-- how many of the rows 15, 16 and 17 are among the rows of f fields and r rows more
abbrev pub selected : ℕ → ℕ → ℕ
selected f r = 3 * f + min 3 (r - 15)

-- less than a line is held and no pass was started, no more fields are whole than are allowed, and the samples of the
-- selected rows were looked at once each
pub record IsFeederState (c : ConfigView) (l : Line) (p : Progress) : Type 0 where
  pub system : l.system ≡ c.system
  pub cursors : l.cursors ≡ []
  pub short : length l.held < line_bytes c.system
  pub inside : p.row < height_of c.system
  pub few : p.fields ≤ c.max_fields
  pub most : p.fields ≤ most_fields
  pub looked : l.looked ≡ width_of c.system * selected p.fields p.row

-- what the first bytes of a piece did, if the line and the progress were those of z before
abbrev pub IsStep : {W : Type 0} → (W → Option (List ℕ)) → ConfigView → Outlet W → Outlet W → List ℕ → List ℕ → Position
    → Result ℕ RunFault → Type 0
IsStep contents c o o' z bytes now (Ok n) = IsFed contents c o o' z (take n bytes) now (Ok tt)
IsStep contents c o o' z bytes now (Err fault) = IsFed contents c o o' z bytes now (Err fault)

-- how the fields of a feeder are seen
abbrev pub feeding_of : Inside → Feeding
feeding_of f = record {
  config = f.config;
  position = position_in f.config f.line f.progress;
  has_failed = f.has_failed;
  looked = f.line.looked;
}

-- what holds of every feeder, also of one that has failed
abbrev pub IsFeeder : Inside → Type 0
IsFeeder f = IsFeederState f.config f.line f.progress
