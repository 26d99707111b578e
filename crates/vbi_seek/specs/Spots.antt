-- What the fields of a side tell at its spots, of numbers or of chapters, and when that leads a search to a field.
use Rattle.std.specs.Prelude.{◌≡◌, ◌<◌, ◌≤◌, ◌+◌, ◌-◌, ◌*◌, ◌/◌, ◌⊎◌, ℕ, zero, suc, Some, None}
use Rattle.vbi_seek.specs.declared.narrowing.Between.{Between}
use Rattle.vbi_seek.specs.declared.search.Target.{Target}
use Rattle.vbi_seek.specs.declared.search.Target.TheVariants.{Number, Chapter}
use Rattle.vbi_seek.specs.ChapterSearch.{spot_most}
use Rattle.vbi_seek.specs.FieldLines.{Side}
use Rattle.vbi_seek.specs.Targets.{TellFirst, most_of}
use Rattle.vbi_seek.specs.NumberSearch.{left_most}

-- the spots of a side: how many fields it has, so many of which tell something at a spot if none is worn; which first
-- fields from one on, and no fewer, tell what; and one past the last field in which what they tell may begin
pub record Spots : Type 1 where
  pub count : ℕ
  pub most : ℕ
  pub tells : ℕ → ℕ → ℕ → Type 0
  pub past : ℕ → ℕ → ℕ

-- one past the last field in which what some fields tell may begin: a number begins in one of the fields that tell it,
-- and a chapter in one of the 24 from the first of these on
abbrev pub past_of : Target → ℕ → ℕ → ℕ
past_of (Number judging) f k = f + k
past_of Chapter f k = f + spot_most

-- the spots of numbers or of chapters of a side
abbrev pub spots_in : Target → Side → Spots
spots_in kind side = record {
  count = side.count;
  most = most_of kind;
  tells = TellFirst kind side;
  past = past_of kind;
}

-- no more fields than are read of each spot tell anything from this one on
abbrev pub IsSilentSpot : Spots → ℕ → Type 0
IsSilentSpot spots f = (k n : ℕ) → k ≤ spots.most → spots.tells f k n → ⊥

-- what the fields of a side tell leads to field t with what is sought. The fields from a to b are a sixteenth of the
-- side at least, and from each of them on so many fields or fewer tell something. At no other field anything is told.
-- What is lower is told at t or before it, and what isn't, by fields that reach beyond t
pub record Leads (spots : Spots) (sought t a b : ℕ) : Type 0 where
  pub inside : b < spots.count
  pub part : spots.count + 16 * a ≤ 16 * (b + 1)
  pub between : (a ≤ t) × (t < b + spots.most)
  pub told : (f : ℕ) → a ≤ f → f ≤ b → (k n : ℕ) × (k ≤ spots.most) × spots.tells f k n
  pub untold : (f k n : ℕ) → spots.tells f k n → (a ≤ f + (k - spots.most)) × (f + (k - spots.most) ≤ b)
  pub lower : (f k n : ℕ) → spots.tells f k n → n < sought → f + (k - spots.most) ≤ t
  pub higher : (f k n : ℕ) → spots.tells f k n → sought ≤ n → t < spots.past f k

-- the fields between which something is sought have field t among them, or a little after them; an end at which
-- something was told is among those from a to b
pub record IsWithin (most t a b : ℕ) (between : Between) : Type 0 where
  pub from : between.low ≤ t
  pub to : t < between.high + most
  pub lower : (n : ℕ) → between.lower ≡ Some n → (a ≤ between.low) × (between.low ≤ b)
  pub higher : (n : ℕ) → between.higher ≡ Some n → (a ≤ between.high) × (between.high ≤ b)

-- something was told at one of the ends
abbrev pub IsToldAt : Between → Type 0
IsToldAt between = ((n : ℕ) × (between.lower ≡ Some n)) ⊎ ((n : ℕ) × (between.higher ≡ Some n))

-- they lead to a place: field t is from its first field on, and no further after its last one than is looked at
pub record IsPlaced (most t : ℕ) (place : Between) : Type 0 where
  pub from : place.low ≤ t
  pub to : t < place.high + most
  pub near : place.high ≤ place.low + left_most

-- before anything is told
abbrev pub whole : ℕ → Between
whole count = record { low = 0; high = count; lower = None; higher = None }

-- so few fields are left of these by a step: of a number three quarters, of a chapter half
abbrev pub three_quarters : ℕ → ℕ
three_quarters many = 3 * many / 4

abbrev pub half : ℕ → ℕ
half many = (many + 1) / 2

abbrev pub left_by : Target → ℕ → ℕ
left_by (Number judging) = three_quarters
left_by Chapter = half

-- so few are left after this many steps
unfoldable pub left_after : (ℕ → ℕ) → ℕ → ℕ → ℕ
left_after step count zero = count
left_after step count (suc k) = step (left_after step count k)
