-- A capture of a side of which the fields stand in the disc's order: which fields of the disc it has, and which it
-- lacks.
use Rattle.std.specs.Prelude.{◌≡◌, ℕ, suc, ◌+◌, ◌*◌, ◌-◌, ◌<◌, ◌≤◌, true, List, Option, Some}
use Rattle.vbi_side.specs.Types.{Number, Sightings, Pace}
use Rattle.vbi_side.specs.Paces.{fits}
use Rattle.vbi_side.specs.Beliefs.{enough, Believed}
use Rattle.vbi_side.specs.Truth.{wrong_weight}
use Rattle.vbi_side.specs.Numbers.{IsMarked}

-- the disc counts at this pace from its beginning to its end: any two of its fields that have numbers have such as fit
abbrev pub DiscRuns : Pace → (ℕ → Option ℕ) → Type 0
DiscRuns pace disc = (d e m n : ℕ) → disc d ≡ Some m → disc e ≡ Some n → fits pace d m e n ≡ true

-- a disc of video, which may have a number on both fields of its picture, counts so: to within a slack of 1 if it has,
-- else of 0
abbrev pub DiscCounts : ℕ → (ℕ → Option ℕ) → Type 0
DiscCounts slack disc = (d e m n : ℕ) → disc d ≡ Some m → disc e ≡ Some n → e + 2 * m ≤ d + 2 * n + slack

-- field i of the capture is field `place i` of the disc: none stands there twice, and none before an earlier one
abbrev pub Rises : (ℕ → ℕ) → Type 0
Rises place = (i : ℕ) → place i < place (suc i)

-- the number that each field of the capture has on the disc
abbrev pub captured : (ℕ → Option ℕ) → (ℕ → ℕ) → ℕ → Option ℕ
captured disc place i = disc (place i)

-- the capture lacks field d of the disc
abbrev pub Lacks : (ℕ → ℕ) → ℕ → Type 0
Lacks place d = (i : ℕ) → place i ≡ d → ⊥

-- from field i of the capture to field j each is the disc's next one: none was lost between
abbrev pub NoneLost : (ℕ → ℕ) → ℕ → ℕ → Type 0
NoneLost place i j = (k : ℕ) → i ≤ k → k ≤ j → place k ≡ place i + (k - i)

-- from field i of the capture to field j each is followed by the disc's next one: there is no cut between
abbrev pub IsOneRun : (ℕ → ℕ) → ℕ → ℕ → Type 0
IsOneRun place i j = (k : ℕ) → i ≤ k → k < j → place (suc k) ≡ suc (place k)

-- so many fields of the disc are lost between those of capture fields i and j
abbrev pub AreLost : (ℕ → ℕ) → ℕ → ℕ → ℕ → Type 0
AreLost place i j lost = place j ≡ place i + (j - i) + lost

-- number n is believed of field i, and what was misread around it weighs less than enough
pub record IsAnchor (pace : Pace) (recorded : ℕ → Option ℕ) (fields : List Sightings) (i n : ℕ) : Type 0 where
  pub believed : Believed pace fields i n
  pub few : wrong_weight recorded fields i < enough

-- ---- what a capture has

-- picture n is lost: the disc has its number, and the capture lacks each field that has it
abbrev pub IsLost : (ℕ → Option ℕ) → (ℕ → ℕ) → ℕ → Type 0
IsLost disc place n = ((d : ℕ) × (disc d ≡ Some n)) × ((d : ℕ) → disc d ≡ Some n → Lacks place d)

-- ---- its ends

-- numbers m and n are believed of the first and the last field of which one is
pub record AreEnds (answers : List Number) (first m last n : ℕ) : Type 0 where
  pub begins : IsMarked answers first m
  pub ends : IsMarked answers last n
  pub none_before : (i k : ℕ) → i < first → IsMarked answers i k → ⊥
  pub none_after : (i k : ℕ) → last < i → IsMarked answers i k → ⊥
