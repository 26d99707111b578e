-- How a call ends, and that what is looked at first is refused first.
use Rattle.std.specs.Prelude.{◌≡◌, ◌≢◌, ℕ, IfOk, Result, Ok, Err, Bool, if◌then◌else◌}
use Rattle.vbi_c.specs.Types.{Refusal}
use Rattle.vbi_c.specs.declared.status.Refusal.TheVariants.{System, Levels, Length, Word, Counted, Pace}
use Rattle.vbi_c.specs.declared.status.Refusal.TheVariants.{Erased, Line, Known, Clock}

-- the status of a refused call, as include/ldvbi.h has it
abbrev pub refusal_status : Refusal → ℕ
refusal_status System = 1
refusal_status Levels = 2
refusal_status Length = 3
refusal_status Word = 4
refusal_status Counted = 5
refusal_status Pace = 6
refusal_status Erased = 7
refusal_status Line = 8
refusal_status Known = 9
refusal_status Clock = 10

-- the status of a call whose arguments were found right, or were refused
abbrev pub status_of : {A : Type 0} → Result A Refusal → ℕ
status_of (Ok found) = 0
status_of (Err refusal) = refusal_status refusal

-- what comes next, by what was found right; what was refused stays so
abbrev pub in_turn : {A B : Type 0} → Result A Refusal → (A → Result B Refusal) → Result B Refusal
in_turn (Ok found) next = next found
in_turn (Err refusal) next = Err refusal

-- the lengths of the arrays of a call fit, or the call is refused
abbrev pub fitting : Bool → Result (Unit {0}) Refusal
fitting fit = if fit then Ok tt else Err Length

-- a call is answered the status of what its arguments stand for: if they are found right, this holds of what they stand
-- for; after any status but 0 all is unwritten
pub record Answers {A : Type 0} (asked : Result A Refusal) (status : ℕ) (holds : A → Type 0) (unwritten : Type 0)
    : Type 0 where
  pub status_is : status ≡ status_of asked
  pub does : IfOk asked holds
  pub refused : status ≢ 0 → unwritten
