-- A line that has a word of pass 1, or is blank, is shown as it was read.
-- recover_rows stands on it.
use Rattle.std.proofs.Common.{◌≡◌, ℕ, Bool, false, refl, arith}
use Rattle.std.specs.Prelude.{if◌then◌else◌}
use Rattle.vbi_near.proofs.Common.{Outcome, Word, Blank, Unfinished, Change, Hold, Reading}
use Rattle.vbi_near.proofs.OneSeen.{word_own}
use Rattle.vbi_near.specs.Recovery.{Seen, Stands, IsSureBy, own_by, is_open, shown_in}
use Rattle.vbi_near.specs.{declared.recovery.Recovered.Recovered, Candidates.Candidates}

-- by its own levels it shows what was read
sure-own : (o : Outcome) (pass : ℕ) (plain : Outcome) (confirms : ℕ → Bool) → IsSureBy o pass
    → own_by plain o pass confirms ≡ record { outcome = o; pass = pass }
sure-own (Word w) pass plain confirms one = word_own plain w pass confirms (λ two. omega (arith, one, two))
sure-own Blank pass plain confirms one = refl
sure-own Unfinished pass plain confirms one = absurd one
sure-own (Change c) pass plain confirms one = absurd one
sure-own (Hold c) pass plain confirms one = absurd one

-- a line with a word of pass 1, or a blank one, isn't open
sure-closed : (o : Outcome) (pass : ℕ) → IsSureBy o pass → is_open o ≡ false
sure-closed (Word w) pass one = refl
sure-closed Blank pass one = refl
sure-closed Unfinished pass one = absurd one
sure-closed (Change c) pass one = absurd one
sure-closed (Hold c) pass one = absurd one

-- the other is taken if it doesn't hold
when-not : (b : Bool) (x y : Recovered) → b ≡ false → (if b then x else y) ≡ y
when-not b x y closed = grind arith

-- however it stands to another, it is shown as it was read
pub sure-shown : (stands : Stands) (unit : ℕ) (seen : Seen) (both : Candidates) (reading : Reading)
    → seen.reading ≡ reading → IsSureBy reading.outcome reading.pass
    → shown_in stands unit seen both ≡ record { outcome = reading.outcome; pass = reading.pass }
sure-shown stands unit seen both reading e sure = grind (arith, sure-own, sure-closed, when-not)
