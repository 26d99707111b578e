-- Whether a disc has its numbers on both fields of a picture. That is found by the numbers that are believed: if the
-- next number follows on a disc with a number on one field of each picture, it stands an even count of fields after
-- the one before, but for a loss of one field. A number that stays says nothing, as a field may have been frozen.
use Rattle.std.specs.Prelude.{◌≡◌, ℕ, zero, suc, ◌+◌, ◌*◌, ◌%◌, ◌<◌, ◌≤◌, ◌==◌, nat_lt, nat_le, not, ◌&&◌, Bool, false}
use Rattle.std.specs.Prelude.{IfSome, if◌then◌else◌, List, length, slice_get, Option, Some, None}
use Rattle.vbi_whole.specs.Types.{Number, Place}
use Rattle.vbi_whole.specs.declared.numbers_on_both.Steps.{Steps}

-- the place of field k and this answer's number, if that is believed, else another one
abbrev pub place_or : Option Place → ℕ → Option Number → Option Place
place_or other k None = other
place_or other k (Some answer) =
    if answer.state == 1 then Some (record { field = k; number = answer.number }) else other

-- the last believed number before field k
unfoldable pub last_known : List Number → ℕ → Option Place
last_known answers zero = None
last_known answers (suc k) = place_or (last_known answers k) k (slice_get answers k)

-- the answer's number is believed, and another than that of this place
abbrev pub is_turn : Option Place → Option Number → Bool
is_turn None answer = false
is_turn (Some place) None = false
is_turn (Some place) (Some answer) = (answer.state == 1) && not (answer.number == place.number)

-- field k stands an odd count of fields after this place
abbrev pub is_odd : Option Place → ℕ → Bool
is_odd None k = false
is_odd (Some place) k = ((place.field + k) % 2) == 1

-- this many believed numbers before field k are others than the one before them
unfoldable pub turns : List Number → ℕ → ℕ
turns answers zero = 0
turns answers (suc k) =
    if is_turn (last_known answers k) (slice_get answers k) then suc (turns answers k) else turns answers k

-- and this many of these stand an odd count of fields after that one
unfoldable pub odd_turns : List Number → ℕ → ℕ
odd_turns answers zero = 0
odd_turns answers (suc k) =
    if is_turn (last_known answers k) (slice_get answers k) && is_odd (last_known answers k) k
    then suc (odd_turns answers k) else odd_turns answers k

-- so the numbers before field k follow each other
pub record AreSteps (answers : List Number) (k : ℕ) (steps : Steps) : Type 0 where
  pub last : steps.last ≡ last_known answers k
  pub earlier : IfSome steps.last (λ place. place.field < k)
  pub all : steps.all ≡ turns answers k
  pub odd : steps.odd ≡ odd_turns answers k
  pub few : steps.all ≤ k
  pub fewer : steps.odd ≤ k

-- numbers stand on both fields of a picture: a quarter of those that follow another one or more stand so
abbrev pub is_on_both : List Number → Bool
is_on_both answers =
    nat_lt 0 (odd_turns answers (length answers)) && nat_le (turns answers (length answers))
    (4 * odd_turns answers (length answers))
