-- What the word of a completed field tells.
use Rattle.std.proofs.Common.{◌≡◌, ◌∙◌, ℕ, ◌+◌, ◌*◌, ◌/◌, ◌%◌, ◌<◌, refl, sym, ap, subst, arith, Bool, true}
use Rattle.std.specs.Prelude.{Option, Some, None, nat_le, ◌&&◌, if◌then◌else◌, List, slice_get}
use Rattle.std.proofs.lemmas.Bool.{le-leb, lt-ltb}
use Rattle.vbi_side.specs.Types.{Code, Time, System, Ntsc, Pal, Times, Shown, Sightings}
use Rattle.vbi_words.specs.Codes.{digit_of, code_of}
use Rattle.vbi_words.specs.Words.{IsWord}
use Rattle.vbi_side.specs.Lines.{rate_of, number_from, pass_weight, sighting_from, sighting_of}
use Rattle.vbi_side.specs.Sightings.{Shows}
use Rattle.vbi_side.specs.Votes.{minute_of, part_from, part_of, time_word, IsElected, IsCompletedBy, IsCompleted}
use Rattle.vbi_side.specs.Votes.{IsVotedSoundly, IsVotedRightly}
use Rattle.vbi_side.proofs.RightVotes.{sound_elected, right_elected}

-- a word of these digits is a time
timed : (word h t u : ℕ) → digit_of word 1 ≡ 15 → digit_of word 2 ≡ h → digit_of word 3 ≡ 13 → digit_of word 4 ≡ 13
    → digit_of word 5 ≡ t → digit_of word 6 ≡ u → nat_le h 15 ≡ true → nat_le h 9 ≡ true → nat_le t 9 ≡ true
    → nat_le u 9 ≡ true → nat_le 0 h ≡ true → nat_le 0 t ≡ true → nat_le 0 u ≡ true
    → code_of word ≡ Time h (10 * t + u)
unfolding code_of
timed word h t u d1 d2 d3 d4 d5 d6 a b c d e f g = simp (d1, d2, d3, d4, d5, d6, a, b, c, d, e, f, g) refl

-- the word of these hours, tens and units is one
told_by_digits : (h t u : ℕ) → h < 10 → t < 10 → u < 10
    → code_of (0xF0DD00 + h * 65536 + t * 16 + u) ≡ Time h (10 * t + u)
told_by_digits h t u hours tens units = grind (arith, le-leb, timed)

-- the word of a minute tells its hours and minutes
pub told_minute : (minute : ℕ) → minute < 600 → code_of (time_word minute) ≡ Time (minute / 60) (minute % 60)
told_minute minute early = grind (arith, told_by_digits)

pub word_of_minute : (minute : ℕ) → minute < 600 → IsWord (time_word minute)
word_of_minute minute early = (omega arith, omega arith)

-- a number by its minute and its part
whole_number : (system : System) (seconds picture m : ℕ) → m % minute_of system ≡ seconds * rate_of system + picture
    → ((m / minute_of system / 60 * 60 + m / minute_of system % 60) * 60 + seconds) * rate_of system + picture ≡ m
whole_number Ntsc seconds picture m e = omega (arith, e)
whole_number Pal seconds picture m e = omega (arith, e)

-- a number that is told where both tests hold, of which the part needs the second
both_hold : (a b : Bool) (q part n m : ℕ) → a ≡ true → (if b then Some q else None) ≡ Some part → (q ≡ part → n ≡ m)
    → (if a && b then Some n else None) ≡ Some m
both_hold a b q part n m h1 h2 h3 = grind arith

-- beside line 16 with its part, this time tells the number
number_told : (system : System) (code : Option Code) (part m : ℕ) → part_from system code ≡ Some part
    → m % minute_of system ≡ part
    → number_from system Times code (Some (Time (m / minute_of system / 60) (m / minute_of system % 60))) ≡ Some m
number_told system code part m h1 h2 = grind (arith, both_hold, lt-ltb, whole_number)

-- what a completed line tells
pub completed_told : (system : System) (line_16 : Shown) (fields : List Sightings) (i part m word : ℕ)
    → part_of system line_16 ≡ Some part
    → IsCompletedBy (record { minute = minute_of system; field = i; part = part }) fields m word
    → sighting_of system Times line_16 (record { word = Some word; pass = line_16.pass })
    ≡ record { number = m; weight = pass_weight line_16.pass }
completed_told system line_16 fields i part m word has completed = grind (arith, number_told, told_minute)

-- ---- where the disc ran on

pub completed_rightly : (recorded : ℕ → Option ℕ) (system : System) (line_16 : Shown) (fields : List Sightings)
    (i part m : ℕ) → part_of system line_16 ≡ Some part
    → IsVotedRightly recorded (record { minute = minute_of system; field = i; part = part }) fields m
    → ((n : ℕ) → Shows (slice_get fields i) n → ⊥) → m / minute_of system < 600
    → IsCompleted system line_16 fields i (time_word (m / minute_of system))
completed_rightly recorded system line_16 fields i part m has voted unseen early = (
  part,
  m,
  has,
  record {
    unseen = unseen;
    elected = right_elected recorded _ fields m voted;
    early = early;
    word_is = refl;
  },
)

same_number : (m n : ℕ) → Some m ≡ Some n → m ≡ n
same_number m n e = cc

pub completed_soundly : (recorded : ℕ → Option ℕ) (system : System) (line_16 : Shown) (fields : List Sightings)
    (i part m word : ℕ) → part_of system line_16 ≡ Some part
    → IsVotedSoundly recorded (record { minute = minute_of system; field = i; part = part }) fields m
    → IsCompleted system line_16 fields i word
    → sighting_of system Times line_16 (record { word = Some word; pass = line_16.pass })
    ≡ record { number = m; weight = pass_weight line_16.pass }
completed_soundly recorded system line_16 fields i part m word has voted (other, n, has_other, completed) =
    let same : other ≡ part = same_number other part (sym has_other ∙ has) in
    let number : n ≡ m = sound_elected recorded _ fields m n voted
    (subst (λ p. IsElected (record { minute = minute_of system; field = i; part = p }) fields n) same
    completed.elected) in
    completed_told system line_16 fields i other n word has_other completed
    ∙ ap (λ k. sighting_from (Some k) (pass_weight line_16.pass)) number

pub ruleset told = (completed_told, told_minute, word_of_minute)
