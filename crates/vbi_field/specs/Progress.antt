-- How far a stream has come in whole rows, as the code keeps it.
use Rattle.std.specs.Prelude.{◌≡◌, ◌≢◌, ℕ, ◌+◌, ◌*◌, ◌<◌, ◌≤◌, ◌⊎◌, List, ◌++◌, length, Option, Some, None}
use Rattle.std.specs.Prelude.{Result, Ok, Err, Bool, IsTrue}
use Rattle.vbi_field.specs.ConfigView.{most_fields, height_of, line_bytes, ConfigView, System}
use Rattle.vbi_field.specs.Stream.{row_levels, Reading, FieldReadings, reading_among, readings_at, reading_of}
use Rattle.vbi_field.specs.Stream.{rows_in, rows_at, line_at}
pub use Rattle.vbi_field.specs.declared.progress.PartialReadings.{PartialReadings}
pub use Rattle.vbi_field.specs.declared.progress.Progress.{Progress}
use Rattle.vbi_field.specs.Texts.{Extends, ExtendsInPart, Kind, Outlet}
use Rattle.vbi_field.specs.declared.summary.RunFault.{RunFault}

-- the readings of a field, if all three are there
abbrev pub all_of : Option Reading → Option Reading → Option Reading → Option FieldReadings
all_of (Some first) (Some second) (Some third) = Some (record { first = first; second = second; third = third })
all_of _ _ _ = None

-- the rows of z are whole, and these are the number of its whole fields, the rows past them and their readings
pub record IsProgress (c : ConfigView) (z : List ℕ) (p : Progress) : Type 0 where
  pub whole : length z ≡ (p.fields * height_of c.system + p.row) * line_bytes c.system
  pub inside : p.row < height_of c.system
  pub first : p.readings.first ≡ reading_among c z p.fields p.row 15
  pub second : p.readings.second ≡ reading_among c z p.fields p.row 16
  pub third : p.readings.third ≡ reading_among c z p.fields p.row 17

-- no more fields are whole than a run may have, and the unfinished one lacks a row
pub record IsWithin (c : ConfigView) (p : Progress) : Type 0 where
  pub fields : p.fields ≤ most_fields
  pub inside : p.row < height_of c.system

-- b is a whole row, with this reading if its number in the field is 15, 16 or 17
pub record IsLineOf (c : ConfigView) (b : List ℕ) (row : ℕ) (reading : Option Reading) : Type 0 where
  pub whole : length b ≡ line_bytes c.system
  pub shows : 15 ≤ row → row ≤ 17 → reading ≡ Some (reading_of c.system (row_levels c.levels b))

-- z is one row longer than before: inside a field, or at its end with the field's readings
abbrev pub AdvancesOver : ConfigView → List ℕ → Progress → Option FieldReadings → Progress → Type 0
AdvancesOver c z old None new = IsProgress c z new × (new.fields ≡ old.fields)
AdvancesOver c z old (Some readings) new =
    IsProgress c z new × (old.row + 1 ≡ height_of c.system) × (readings ≡ readings_at c z old.fields)

-- a row with this reading leads to this, whatever stream z came before it and whatever the bytes b of the row are
pub record Advances (c : ConfigView) (old : Progress) (reading : Option Reading) (result : Option FieldReadings)
    (new : Progress) : Type 0 where
  pub over : (z b : List ℕ) → IsProgress c z old → IsLineOf c b old.row reading → AdvancesOver c (z ++ b) old result new

module _ {A : Type 0} where
  -- in the place of row r: what belongs to a row, if it is of this one, and else what was there
  abbrev pub IsKept : ℕ → ℕ → A → A → A → Type 0
  IsKept r row its was now = (row ≡ r → now ≡ its) × (row ≢ r → now ≡ was)

-- the reading of a row is put in its place, if it has one
pub record TakesReading (row : ℕ) (reading : Option Reading) (was now : PartialReadings) : Type 0 where
  pub first : IsKept 15 row reading was.first now.first
  pub second : IsKept 16 row reading was.second now.second
  pub third : IsKept 17 row reading was.third now.third

-- ---- the bytes of rows that are kept

-- of field i of z, of which so many rows are whole, those of rows 15, 16 and 17 are held
pub record HoldsRows (c : ConfigView) (z : List ℕ) (i rows : ℕ) (held : List ℕ) : Type 0 where
  pub first : 15 < rows → line_at c.system held 0 0 ≡ line_at c.system z i 15
  pub second : 16 < rows → line_at c.system held 0 1 ≡ line_at c.system z i 16
  pub third : 17 < rows → line_at c.system held 0 2 ≡ line_at c.system z i 17

-- a whole row is put in its place, if it has one
pub record HoldsOn (system : System) (row : ℕ) (b was now : List ℕ) : Type 0 where
  pub long : length now ≡ length was
  pub first : IsKept 15 row b (line_at system was 0 0) (line_at system now 0 0)
  pub second : IsKept 16 row b (line_at system was 0 1) (line_at system now 0 1)
  pub third : IsKept 17 row b (line_at system was 0 2) (line_at system now 0 2)

-- if rows are kept and the last row of z is the last of its field, those of the field are held
abbrev pub HoldsField : Bool → ConfigView → List ℕ → Progress → List ℕ → Type 0
HoldsField keeps c z before held =
    IsTrue keeps → before.row + 1 ≡ height_of c.system → rows_in c.system held ≡ rows_at c z before.fields

-- one row further: inside the field, or at its end
abbrev pub MovesOneRow : ConfigView → Progress → Progress → Type 0
MovesOneRow c old new =
    ((new.fields ≡ old.fields) × (new.row ≡ old.row + 1))
    ⊎ ((new.fields ≡ old.fields + 1) × (new.row ≡ 0) × (old.row + 1 ≡ height_of c.system))

-- what a whole row b after z leads to, for a kind t of text and by the answer: the text that is due with the row was
-- written, or only the first of it
abbrev pub AddsRow : Kind → {W : Type 0} → (W → Option (List ℕ)) → ConfigView → Outlet W → Outlet W → List ℕ → List ℕ
    → Progress → Result (Unit {0}) RunFault → Type 0
AddsRow t contents c o o' z b now (Ok u) = IsProgress c (z ++ b) now × Extends t contents c o o' z (z ++ b)
AddsRow t contents c o o' z b now (Err fault) = IsProgress c (z ++ b) now × ExtendsInPart t contents c o o' z (z ++ b)
