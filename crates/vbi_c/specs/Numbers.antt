-- What the numbers that C hands over stand for, and the numbers in which it is answered.
use Rattle.std.specs.Prelude.{ℕ, ◌+◌, ◌==◌, ◌^◌, ◌&&◌, nat_le, nat_lt, if◌then◌else◌, Bool, true, false, not}
use Rattle.std.specs.Prelude.{List, [], ◌∷◌, Option, Some, None, Result, Ok, Err}
use Rattle.vbi_c.specs.Types.{Code, Picture, Chapter, Time, ClvPicture, CxOn, CxOff, Users, LeadIn, LeadOut}
use Rattle.vbi_c.specs.Types.{PictureStop, ClvMark, Other, Format, Cav, Clv, Both, Neither, Ntsc, Pal, Clock, Plain}
use Rattle.vbi_c.specs.Types.{DropFrame, OneIn, Pictures, Times, Number, Video, Film, Reasons, Verdict, Yes, No}
use Rattle.vbi_c.specs.Types.{CannotTell, PlanRule, Disordered, NotThere, Twice, Misplaced, Hidden, Asked, Given, Found}
use Rattle.vbi_c.specs.Types.{LdvbiClock, LdvbiCode, Refusal, System, Counted, Pace}
use Rattle.vbi_whole.specs.NumbersOnBoth.{is_on_both}
use Rattle.vbi_plan.specs.declared.plan.Spacing as spacings
use Rattle.vbi_plan.specs.declared.plan.Spacing.TheVariants as spacing
use Rattle.vbi_c.specs.declared.status.Refusal.TheVariants.{Word}
use Rattle.vbi_c.specs.Statuses.{in_turn}

-- ---- what they stand for

-- the system of a number
abbrev pub system_of : ℕ → Option System
system_of number = if number == 1 then Some Ntsc else (if number == 2 then Some Pal else None)

-- a number of a system's geometry, or 0 if there is no system
abbrev pub of_system : (System → ℕ) → Option System → ℕ
of_system number None = 0
of_system number (Some system) = number system

-- what is counted, by its number
abbrev pub counted_of : ℕ → Option Counted
counted_of number = if number == 1 then Some Pictures else (if number == 2 then Some Times else None)

-- the pace that is asked for, by its number: one that is given, or the one that is found
abbrev pub asked_of : ℕ → Option Asked
asked_of number =
    if number == 1 then Some (Given Video)
    else (if number == 2 then Some (Given Film) else (if number == 3 then Some Found else None))

-- the pace has to be given: a few fields have none of their own
abbrev pub given_of : ℕ → Option Asked
given_of number = if number == 3 then None else asked_of number

-- the pace of this number, 1 for that of video, 2 for that of film
abbrev pub pace_given : ℕ → Option Pace
pace_given number = if number == 1 then Some Video else (if number == 2 then Some Film else None)

-- the spacing of this number: 1 for two fields, 2 for two or three, 3 for two with numbers on both, 4 for one or more
abbrev pub spacing_given : ℕ → Option spacings.Spacing
spacing_given number =
    if number == 1 then Some spacing.Video
    else (if number == 2 then Some spacing.Film
    else (if number == 3 then Some spacing.Both
    else (if number == 4 then Some spacing.Rising else None)))

-- whether the disc has its numbers on both fields of a picture: 0 says no, 3 that it is to be found, any other yes
abbrev pub both_by : ℕ → List Number → Bool
both_by both numbers = if both == 0 then false else (if both == 3 then is_on_both numbers else true)

-- whether the capture may end before the disc does
abbrev pub may_end_by : ℕ → Bool
may_end_by may_end = not (may_end == 0)

-- the clock of these numbers: 0 for none, 1 for drop-frame, 2 for one number in a period, whose phase is below it
abbrev pub clock_given : LdvbiClock → Option Clock
clock_given clock =
    if clock.kind == 0 then Some Plain
    else (if clock.kind == 1 then Some DropFrame
    else (if clock.kind == 2 && nat_lt clock.phase clock.period then Some (OneIn clock.period clock.phase) else None))

-- the word with this number, or none for 0
abbrev pub word_or_none : ℕ → Result (Option ℕ) Refusal
word_or_none number =
    if number == 0 then Ok None
    else (if nat_le (2 ^ 23) number && nat_lt number (2 ^ 24) then Ok (Some number) else Err Word)

-- the words with these three numbers, each a word or none
abbrev pub three_words : ℕ → ℕ → ℕ → Result (List (Option ℕ)) Refusal
three_words first second third =
    in_turn (word_or_none first) (λ first. in_turn (word_or_none second) (λ second.
    in_turn (word_or_none third) (λ third. Ok (first ∷ second ∷ third ∷ []))))

-- ---- what is answered

-- a pace as C sees it
abbrev pub pace_for_c : Pace → ℕ
pace_for_c Video = 1
pace_for_c Film = 2

-- the pace of a number that was sought, or 0 if none was found
abbrev pub sought_pace : Option Pace → ℕ
sought_pace None = 0
sought_pace (Some pace) = pace_for_c pace

-- what C gets of numbers that stand on both fields, or don't
abbrev pub both_for_c : List Number → ℕ
both_for_c numbers = if is_on_both numbers then 1 else 0

-- a clock in these numbers
abbrev pub clock_as : ℕ → ℕ → ℕ → LdvbiClock
clock_as kind period phase = record { kind = kind; period = period; phase = phase }

-- a clock as C sees it
abbrev pub clock_for_c : Clock → LdvbiClock
clock_for_c Plain = clock_as 0 0 0
clock_for_c DropFrame = clock_as 1 0 0
clock_for_c (OneIn period phase) = clock_as 2 period phase

-- a code's kind and its numbers, in the order in which the code has them; what it doesn't have is 0
abbrev pub code_for_c : Code → LdvbiCode
code_for_c Other = record { kind = 0; first = 0; second = 0 }
code_for_c (Picture number) = record { kind = 1; first = number; second = 0 }
code_for_c (Chapter number) = record { kind = 2; first = number; second = 0 }
code_for_c (Time hours minutes) = record { kind = 3; first = hours; second = minutes }
code_for_c (ClvPicture seconds picture) = record { kind = 4; first = seconds; second = picture }
code_for_c (CxOn number) = record { kind = 5; first = number; second = 0 }
code_for_c (CxOff number) = record { kind = 6; first = number; second = 0 }
code_for_c (Users digit number) = record { kind = 7; first = digit; second = number }
code_for_c LeadIn = record { kind = 8; first = 0; second = 0 }
code_for_c LeadOut = record { kind = 9; first = 0; second = 0 }
code_for_c PictureStop = record { kind = 10; first = 0; second = 0 }
code_for_c ClvMark = record { kind = 11; first = 0; second = 0 }

-- a format's number
abbrev pub format_for_c : Format → ℕ
format_for_c Neither = 0
format_for_c Cav = 1
format_for_c Clv = 2
format_for_c Both = 3

-- the number of a rule
abbrev pub rule_for_c : PlanRule → ℕ
rule_for_c Disordered = 1
rule_for_c NotThere = 2
rule_for_c Twice = 3
rule_for_c Misplaced = 4
rule_for_c Hidden = 5

-- the number of a verdict
abbrev pub verdict_for_c : Verdict → ℕ
verdict_for_c CannotTell = 0
verdict_for_c Yes = 1
verdict_for_c No = 2

-- the number of a reason, if it holds
abbrev pub reason : ℕ → Bool → ℕ
reason bit holds = if holds then bit else 0

-- the sum of the numbers of all reasons
abbrev pub reasons_for_c : Reasons → ℕ
reasons_for_c reasons =
    reason 1 reasons.is_lost + reason 2 reasons.is_held + reason 4 reasons.goes_back + reason 8 reasons.is_joined
    + reason 16 reasons.begins_late + reason 32 reasons.is_swapped + reason 64 reasons.is_off
    + reason 128 reasons.no_numbers + reason 256 reasons.end_unseen + reason 512 reasons.begin_unseen
    + reason 1024 reasons.many_doubtful + reason 2048 reasons.is_open + reason 4096 reasons.is_inserted
    + reason 8192 reasons.is_padded + reason 16384 reasons.is_blank
