-- How what is due is reckoned: the numbers nearest to a field that lie whole pictures away from it.
use Rattle.std.specs.Prelude.{◌≡◌, ℕ, ◌+◌, ◌-◌, ◌%◌, ◌==◌, ◌<◌, ◌≤◌, Bool, true}
use Rattle.vbi_side.specs.Types.{Pace, Place, Video, Film}
use Rattle.vbi_side.specs.Beliefs.{reach}
use Rattle.vbi_side.specs.Paces.{spot}

-- this many fields last whole pictures
abbrev pub are_whole : Pace → ℕ → Bool
are_whole Video fields = fields % 2 == 0
are_whole Film fields = fields % 5 == 0

-- field j, with number m, is the nearest field before field i, within reach and whole pictures away, that has a number
pub record IsBefore (HasNumber : ℕ → ℕ → Type 0) (pace : Pace) (i j m : ℕ) : Type 0 where
  pub before : j < i
  pub near : i ≤ j + reach
  pub whole : are_whole pace (i - j) ≡ true
  pub has : HasNumber j m
  pub nearest : (k n : ℕ) → j < k → k < i → are_whole pace (i - k) ≡ true → HasNumber k n → ⊥

-- field j, with number m, is the nearest field after field i, within reach and whole pictures away, that has a number
pub record IsAfter (HasNumber : ℕ → ℕ → Type 0) (pace : Pace) (i j m : ℕ) : Type 0 where
  pub after : i < j
  pub near : j ≤ i + reach
  pub whole : are_whole pace (j - i) ≡ true
  pub has : HasNumber j m
  pub nearest : (k n : ℕ) → i < k → k < j → are_whole pace (k - i) ≡ true → HasNumber k n → ⊥

-- no field before field i, within reach and whole pictures away, has a number
abbrev pub NoneBefore : (ℕ → ℕ → Type 0) → Pace → ℕ → Type 0
NoneBefore HasNumber pace i =
    (k n : ℕ) → i ≤ k + reach → k < i → are_whole pace (i - k) ≡ true → HasNumber k n → ⊥

-- no field after field i, within reach and whole pictures away, has a number
abbrev pub NoneAfter : (ℕ → ℕ → Type 0) → Pace → ℕ → Type 0
NoneAfter HasNumber pace i =
    (k n : ℕ) → i < k → k ≤ i + reach → are_whole pace (k - i) ≡ true → HasNumber k n → ⊥

-- each number between fields j and k passes the test, which is told its place
abbrev pub AllPass : (ℕ → ℕ → Type 0) → (Place → Bool) → ℕ → ℕ → Type 0
AllPass HasNumber test j k = (h x : ℕ) → j < h → h < k → HasNumber h x → test (spot h x) ≡ true
