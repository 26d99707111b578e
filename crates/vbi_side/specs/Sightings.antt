-- The numbers that a field's lines show.
use Rattle.std.specs.Prelude.{◌≡◌, ℕ, ◌≤◌, ◌==◌, min, nat_le, nat_lt, ◌&&◌, ◌⊎◌, Bool, Option, Some, None}
use Rattle.vbi_side.specs.Types.{Sighting, Sightings}

-- the line shows a number
abbrev pub IsSeen : Sighting → Type 0
IsSeen sighting = 1 ≤ sighting.weight

-- how much a sighting weighs: 2 at most
abbrev pub weight_of : Sighting → ℕ
weight_of sighting = min sighting.weight 2

-- the line shows this number
abbrev pub Has : Sighting → ℕ → Type 0
Has sighting n = IsSeen sighting × (sighting.number ≡ n)

-- the field shows this number
abbrev pub Shows : Option Sightings → ℕ → Type 0
Shows None n = ⊥
Shows (Some field) n = Has field.line_17 n ⊎ Has field.line_18 n

-- both lines show one number in pass 1
abbrev pub shows_twice : Sightings → Bool
shows_twice field = nat_le 2 field.line_17.weight && nat_le 2 field.line_18.weight
    && (field.line_17.number == field.line_18.number)

-- both lines show, in pass 1, one number between m and n
abbrev pub shows_between : ℕ → ℕ → Sightings → Bool
shows_between m n field = shows_twice field && nat_lt m field.line_17.number && nat_lt field.line_17.number n
