-- Where the numbers of a capture and its fields don't go on together: what lies between two neighbouring numbers that
-- are believed, and all of it in order.
use Rattle.std.specs.Prelude.{◌≡◌, ℕ, zero, suc, ◌+◌, ◌*◌, ◌-◌, ◌/◌, ◌<◌, ◌≤◌, ◌==◌, nat_lt}
use Rattle.std.specs.Prelude.{count_by, slice_range, ◌&&◌, ◌||◌, not, ◌⊎◌, Bool, true, false, if◌then◌else◌}
use Rattle.std.specs.Prelude.{List, [], ◌∷◌, ◌++◌, Option, Some, None, slice_get}
use Rattle.vbi_whole.specs.Types.{System, Ntsc, Counted, Pictures, Times, Sightings, Numbering, Number, Gap, Place}
use Rattle.vbi_whole.specs.Types.{Pace, Video, Film, Amid, Rule, Clock}
use Rattle.vbi_side.specs.Sightings.{shows_between}
use Rattle.vbi_side.specs.Paces.{spot, fits, stays}
use Rattle.vbi_side.specs.Clocks.{by_clock, kept, nearly_by, is_plain}
use Rattle.vbi_whole.specs.declared.side.Side.{Side}
use Rattle.vbi_side.specs.Numbers.{IsMarked}
use Rattle.vbi_side.specs.Ends.{lead_out, lead_in}

-- ---- what lies between two numbers

-- what a gap is: fields are lost; too many are there; the numbers go back; the player stood still; another side begins;
-- or the disc itself may skip there. Of two neighbouring ones that are a detour each is told to be one where fields are
-- inserted, or numbers replaced
abbrev pub lost : ℕ
lost = 1

abbrev pub held : ℕ
held = 2

abbrev pub back : ℕ
back = 3

abbrev pub still : ℕ
still = 4

abbrev pub joined : ℕ
joined = 5

abbrev pub open_gap : ℕ
open_gap = 6

abbrev pub inserted : ℕ
inserted = 7

abbrev pub replaced : ℕ
replaced = 8

-- a player can stand still at a picture, and on a CLV disc nowhere
abbrev pub stands : Counted → Bool
stands Pictures = true
stands Times = false

abbrev pub has_stills : Numbering → Bool
has_stills numbering = stands numbering.counted

-- the numbers keep to a clock, whichever it is: NTSC counts 30 times to a second that has 29.97 pictures
abbrev pub keeps_time : System → Counted → Bool
keeps_time Ntsc Times = true
keeps_time _ _ = false

-- it isn't known to which
abbrev pub has_clock : Numbering → Bool
has_clock numbering = keeps_time numbering.system numbering.counted && is_plain numbering.clock

-- ---- the rule of a disc

-- numbers go on at this pace, to within this many fields
abbrev pub rule_by : Pace → ℕ → Numbering → Rule
rule_by pace slack numbering = record { pace = pace; slack = slack; numbering = numbering }

-- the numbers of two places go on
abbrev pub goes_on : Rule → Place → Place → Bool
goes_on rule a b = nearly_by rule.numbering.clock rule.pace rule.slack a b

-- this many fields at least are too few between two places: of video just this many, of film the least that leaves the
-- numbers to fit
abbrev pub lacking : Pace → Place → Place → ℕ
lacking Video a b = (a.field + 2 * b.number) - (b.field + 2 * a.number)
lacking Film a b = ((2 * a.field + 5 * b.number) - (2 * b.field + 5 * a.number) - 1) / 2

-- they are this many fields too few or too many, at least
abbrev pub off_by : Pace → Place → Place → ℕ
off_by pace a b = lacking pace a b + lacking pace b a

-- this many are too few by the clock, which counts only the numbers that the disc has
abbrev pub lacking_by : Clock → Pace → Place → Place → ℕ
lacking_by clock pace a b = lacking pace (by_clock clock a) (by_clock clock b)

-- by the clock they are this many too few or too many
abbrev pub off_by_clock : Clock → Pace → Place → Place → ℕ
off_by_clock clock pace a b = off_by pace (by_clock clock a) (by_clock clock b)

-- the disc itself may skip between them: a clock that isn't known leaves out one number or two; where film is cut over
-- a number that wasn't read, the next one stands a field off; and a disc of film may have video between them, of two
-- fields to a picture
abbrev pub is_open : Pace → Numbering → Place → Place → Bool
is_open Video numbering a b =
    has_clock numbering
    && (lacking_by numbering.clock Video a b == 2 || lacking_by numbering.clock Video a b == 4)
is_open Film numbering a b =
    fits Video a.field a.number b.field b.number
    || (nat_lt (a.number + 1) b.number && (off_by_clock numbering.clock Film a b == 1))

-- what lies between places whose numbers don't go on, of which an end of a side stands between or not. The last number
-- of a side may stay beside its end: there no other side begins
abbrev pub kind_of : Rule → Bool → Place → Place → ℕ
kind_of rule ended a b =
    if has_stills rule.numbering && stays a.field a.number b.field b.number then still
    else (if ended && not (b.number == a.number) then joined
    else (if nat_lt b.number a.number then back
    else (if is_open rule.pace rule.numbering a b then open_gap
    else (if nat_lt 0 (lacking_by rule.numbering.clock rule.pace a b) then lost
    else held))))

-- by how many fields: those too few or too many, less the one that numbers on both fields may be off, or those of the
-- still
abbrev pub fields_of : Rule → ℕ → Place → Place → ℕ
fields_of rule kind a b =
    if kind == lost then lacking rule.pace a b - rule.slack
    else (if kind == held then lacking rule.pace b a - rule.slack
    else (if kind == still then b.field - a.field
    else (if kind == open_gap then off_by rule.pace a b
    else 0)))

-- a gap between two places, of this kind, with so many fields, of which so many show a number between
abbrev pub gap_made : Place → Place → ℕ → ℕ → ℕ → Gap
gap_made a b kind fields shown = record {
  after = a.field;
  before = b.field;
  fields = fields;
  shown = shown;
  from = a.number;
  to = b.number;
  kind = kind;
}

-- the place before a gap, and the one after it
abbrev pub from_of : Gap → Place
from_of gap = spot gap.after gap.from

abbrev pub to_of : Gap → Place
to_of gap = spot gap.before gap.to

-- the gap of this kind, whose fields are counted by the clock
abbrev pub gap_as : Rule → ℕ → ℕ → Place → Place → Gap
gap_as rule kind shown a b =
    gap_made a b kind (fields_of rule kind (by_clock rule.numbering.clock a) (by_clock rule.numbering.clock b)) shown

-- what the fields between two places show: an end of a side or none, and this often a number between theirs
abbrev pub amid : Bool → ℕ → Amid
amid ended shown = record { ended = ended; shown = shown }

-- the gap between two places, or none if their numbers go on
abbrev pub gap_of : Rule → Amid → Place → Place → Option Gap
gap_of rule between a b =
    if goes_on rule a b then None
    else Some (gap_as rule (kind_of rule between.ended a b) between.shown a b)

-- ---- what the fields between show

-- this many fields between two places show, on both lines in pass 1, a number between theirs
abbrev pub shown_between : List Sightings → Place → Place → ℕ
shown_between seen a b = count_by (shows_between a.number b.number) (slice_range seen (a.field + 1) b.field)

-- ---- the ends of sides

-- lead-in or lead-out is believed of a field with this answer
abbrev pub is_end : Option ℕ → Bool
is_end (Some state) = state == lead_out || state == lead_in
is_end None = false

-- field k shows lead-in or lead-out
abbrev pub shows_end : List ℕ → ℕ → Bool
shows_end ends k = is_end (slice_get ends k)

-- this many fields stand before field k and after the last one that shows lead-in or lead-out, or from the beginning
unfoldable pub since_end : List ℕ → ℕ → ℕ
since_end ends zero = 0
since_end ends (suc k) = if shows_end ends k then 0 else suc (since_end ends k)

-- a field after field i and before field k shows lead-in or lead-out
abbrev pub ended_between : List ℕ → ℕ → ℕ → Bool
ended_between ends i k = nat_lt (i + since_end ends k + 1) k

-- ---- what is judged

-- a capture: by which rule its disc counts, what its fields show, what is answered of their numbers, and of the ends of
-- sides
pub record Judged : Type 0 where
  pub rule : Rule
  pub seen : List Sightings
  pub numbers : List Number
  pub ends : List ℕ

-- what is judged by this rule, with these answers
abbrev pub to_judge : Rule → List Sightings → List Number → List ℕ → Judged
to_judge rule seen numbers ends = record { rule = rule; seen = seen; numbers = numbers; ends = ends }

-- a capture of a disc of video with a number on one field of each picture
abbrev pub of_video : Numbering → List Sightings → List Number → List ℕ → Judged
of_video numbering seen numbers ends = to_judge (rule_by Video 0 numbering) seen numbers ends

-- the disc that is judged is of video, with a number on one field of each picture
abbrev pub IsOfVideo : Judged → Type 0
IsOfVideo judged = judged.rule ≡ rule_by Video 0 judged.rule.numbering

-- what is judged of a side
abbrev pub judged_in : Side → Judged
judged_in side = to_judge side.rule side.seen.now side.numbers.now side.ends.now

-- what its fields between two places show
abbrev pub amid_of : Judged → Place → Place → Amid
amid_of judged a b = amid (ended_between judged.ends a.field b.field) (shown_between judged.seen a b)

-- ---- all gaps

-- the numbers of two places are believed, and none of a field between
pub record AreNeighbours (answers : List Number) (a b : Place) : Type 0 where
  pub order : a.field < b.field
  pub here : IsMarked answers a.field a.number
  pub there : IsMarked answers b.field b.number
  pub between : (j l : ℕ) → a.field < j → j < b.field → IsMarked answers j l → ⊥

-- the last number that is believed before field k, if there is one
abbrev pub IsLast : List Number → ℕ → Option Place → Type 0
IsLast answers k None = (j l : ℕ) → j < k → IsMarked answers j l → ⊥
IsLast answers k (Some place) = (place.field < k) × IsMarked answers place.field place.number
    × ((j l : ℕ) → place.field < j → j < k → IsMarked answers j l → ⊥)

-- no number is believed of field k, or none of a field before it
abbrev pub IsFree : List Number → ℕ → Type 0
IsFree answers k = ((n : ℕ) → IsMarked answers k n → ⊥) ⊎ ((j l : ℕ) → j < k → IsMarked answers j l → ⊥)

-- the numbers that two fields skip which go on: they are there, unread, but for those that the clock leaves out
abbrev pub skipped : Clock → ℕ → ℕ → ℕ
skipped clock m n = kept clock n - kept clock m - 1

-- the numbers of two places, which are neighbours, go on
pub record GoesOn (rule : Rule) (numbers : List Number) (a b : Place) : Type 0 where
  pub neighbours : AreNeighbours numbers a b
  pub near : goes_on rule a b ≡ true

-- it is the gap between two neighbours
pub record IsGap (judged : Judged) (gap : Gap) : Type 0 where
  pub neighbours : AreNeighbours judged.numbers (from_of gap) (to_of gap)
  pub found : gap_of judged.rule (amid_of judged (from_of gap) (to_of gap)) (from_of gap) (to_of gap) ≡ Some gap

-- the gaps that end before field k, in order, and the unread numbers of which the fields are there. Field k ends none
-- if it has no number or is the first with one; if its number goes on from the one before it, those between are unread;
-- else it ends one more gap
unfoldable pub AreGaps : Judged → ℕ → List Gap → ℕ → Type 0
AreGaps judged zero gaps unread = (gaps ≡ []) × (unread ≡ 0)
AreGaps judged (suc k) gaps unread =
    (IsFree judged.numbers k × AreGaps judged k gaps unread)
    ⊎ ((i m n fewer : ℕ) × GoesOn judged.rule judged.numbers (spot i m) (spot k n)
    × AreGaps judged k gaps fewer × (unread ≡ fewer + skipped judged.rule.numbering.clock m n))
    ⊎ ((one : Gap) × (others : List Gap) × IsGap judged one × (one.before ≡ k)
    × AreGaps judged k others unread × (gaps ≡ others ++ one ∷ []))

-- ---- what is true of them

-- numbers m and n are believed of fields i and j and, at video's pace and by the clock, count to each other
abbrev pub CountTo : Clock → ℕ → ℕ → ℕ → ℕ → Type 0
CountTo clock i m j n = j + 2 * kept clock m ≡ i + 2 * kept clock n

-- the numbers at both ends of the gap are those that its fields have on the disc
abbrev pub HasRightEnds : (ℕ → Option ℕ) → Gap → Type 0
HasRightEnds recorded gap = (recorded gap.after ≡ Some gap.from) × (recorded gap.before ≡ Some gap.to)

-- of the fields of the disc between those of capture fields i and j this many at least are lost
abbrev pub LostAtLeast : (ℕ → ℕ) → ℕ → ℕ → ℕ → Type 0
LostAtLeast place i j lost = place i + (j - i) + lost ≤ place j

-- there are this many fields more at least from capture field i to field j than the disc has between
abbrev pub HeldAtLeast : (ℕ → ℕ) → ℕ → ℕ → ℕ → Type 0
HeldAtLeast place i j held = place j + held ≤ place i + (j - i)
