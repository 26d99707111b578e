-- A plan by which one file of a disc is made from captures of it: which of their fields stand where, what is padding,
-- and when it is done. The fields of all captures are counted through from 0. The rule is this project's own.
use Rattle.std.specs.Prelude.{◌≡◌, ◌≢◌, ℕ, zero, suc, ◌+◌, ◌*◌, ◌<◌, ◌≤◌, ◌⊎◌, List, length, Option, Some, None}
use Rattle.std.specs.Prelude.{slice_get, Bool, true, false, [], ◌∷◌, ◌++◌, ◌==◌, if◌then◌else◌, replicate}
use Rattle.vbi_side.specs.declared.number.Number.{Number}
use Rattle.vbi_plan.specs.declared.plan.Capture.{Capture}
use Rattle.vbi_plan.specs.declared.plan.Layout.{Layout}
use Rattle.vbi_plan.specs.declared.plan.Plan as code
use Rattle.vbi_plan.specs.declared.plan.PlanFault.{PlanFault}
use Rattle.vbi_plan.specs.declared.plan.PlanRule.{PlanRule}
use Rattle.vbi_plan.specs.declared.plan.PlanRule.TheVariants.{Disordered, NotThere, Twice, Misplaced, Hidden}
use Rattle.vbi_plan.specs.declared.plan.Spacing.{Spacing}
use Rattle.vbi_plan.specs.declared.plan.Spacing.TheVariants.{Video, Both, Film, Rising}
use Rattle.vbi_plan.specs.declared.plan.Stretch.{Stretch}
use Rattle.vbi_side.specs.declared.pace.Pace.TheVariants as pace
use Rattle.vbi_side.specs.Clocks.{kept, DiscCountsBy}
use Rattle.vbi_side.specs.Numbers.{IsMarked}

-- a plan with what it is made from: how its numbers are laid out, the numbers of all captures, the captures, and the
-- stretches of the file
pub record Plan : Type 0 where
  pub layout : Layout
  pub numbers : List Number
  pub captures : List Capture
  pub stretches : List Stretch

-- the plan that code has
abbrev pub plan_of : code.Plan → Plan
plan_of plan = record {
  layout = plan.layout;
  numbers = plan.numbers.now;
  captures = plan.captures.now;
  stretches = plan.stretches.now;
}

-- ---- what stands where

-- how many numbers the disc has below this one
abbrev pub rank_of : Plan → ℕ → ℕ
rank_of plan n = kept plan.layout.clock n

-- the number with which a stretch begins, or with which the plan ends
abbrev pub number_or : ℕ → Option Stretch → ℕ
number_or end None = end
number_or end (Some stretch) = stretch.number

-- the rank with which stretch i begins, or with which the plan ends
abbrev pub rank_at : Plan → ℕ → ℕ
rank_at plan i = rank_of plan (number_or plan.layout.end (slice_get plan.stretches i))

-- the fields of a stretch, if it is there
abbrev pub fields_in : Option Stretch → ℕ
fields_in None = 0
fields_in (Some stretch) = stretch.fields

-- this many fields of the file stand before stretch i
unfoldable pub out_at : List Stretch → ℕ → ℕ
out_at stretches zero = 0
out_at stretches (suc i) = out_at stretches i + fields_in (slice_get stretches i)

-- the field of the file that field j of stretch i is
abbrev pub place_of : Plan → ℕ → ℕ → ℕ
place_of plan i j = out_at plan.stretches i + j

-- field j of stretch i shows number n: it is taken from a capture, and there the number is believed of it
pub record Shows (plan : Plan) (i j n : ℕ) : Type 0 where
  pub stretch : Stretch
  pub there : slice_get plan.stretches i ≡ Some stretch
  pub taken : stretch.padding ≡ 0
  pub inside : j < stretch.fields
  pub believed : IsMarked plan.numbers (stretch.field + j) n

-- field h of stretch k stands before field j of stretch i
abbrev pub IsBefore : ℕ → ℕ → ℕ → ℕ → Type 0
IsBefore k h i j = (k < i) ⊎ ((k ≡ i) × (h < j))

-- ---- how far numbers stand apart

-- rank t in field k counts on from rank r in field i: of video just two fields for each number, with numbers on both
-- fields perhaps one more; of film two or three; else one or more
abbrev pub CountsOn : Spacing → ℕ → ℕ → ℕ → ℕ → Type 0
CountsOn Video i r k t = (i + 2 * t ≤ k + 2 * r) × (k + 2 * r ≤ i + 2 * t)
CountsOn Both i r k t = (i + 2 * t ≤ k + 2 * r) × (k + 2 * r ≤ i + 2 * t + 1)
CountsOn Film i r k t = (i + 2 * t ≤ k + 2 * r) × (k + 3 * r ≤ i + 3 * t)
CountsOn Rising i r k t = (r ≤ t) × (i + t ≤ k + r)

-- rank t in field k counts on from a number before it as it has to. With numbers on both fields each counts on from the
-- plan's first number alone, from which it may be one field off
abbrev pub GoesOn : Spacing → ℕ → ℕ → ℕ → ℕ → Type 0
GoesOn Both i r k t = Unit {0}
GoesOn spacing i r k t = CountsOn spacing i r k t

-- numbers stand on both fields
abbrev pub is_both : Spacing → Bool
is_both Both = true
is_both spacing = false

-- ---- the rules

-- stretch i stands for the numbers from its own to before that of the next stretch: that isn't lower, and the stretch
-- has a field, and one at least for each of these numbers
abbrev pub IsOrdered : Plan → ℕ → Type 0
IsOrdered plan i = (0 < fields_in (slice_get plan.stretches i))
    × (rank_at plan i ≤ rank_at plan (suc i))
    × (rank_at plan (suc i) ≤ rank_at plan i + fields_in (slice_get plan.stretches i))

-- the stretch stands for this rank
abbrev pub StandsFor : Plan → ℕ → ℕ → Type 0
StandsFor plan i r = (rank_at plan i ≤ r) × (r < rank_at plan (suc i))

-- the fields of the stretch are all of this capture, one of those that have so many fields together
abbrev pub AreOf : ℕ → Option Capture → Stretch → Type 0
AreOf count None stretch = ⊥
AreOf count (Some capture) stretch = (capture.first ≤ stretch.field)
    × (stretch.field + stretch.fields ≤ capture.first + capture.fields) × (capture.first + capture.fields ≤ count)

-- if stretch i isn't padding, its fields are all of its capture
abbrev pub IsGiven : Plan → ℕ → Type 0
IsGiven plan i = (stretch : Stretch) → slice_get plan.stretches i ≡ Some stretch → stretch.padding ≡ 0
    → AreOf (length plan.numbers) (slice_get plan.captures stretch.capture) stretch

-- the fields of one end before those of the other begin
abbrev pub AreApart : Stretch → Stretch → Type 0
AreApart one other = (one.field + one.fields ≤ other.field) ⊎ (other.field + other.fields ≤ one.field)

-- if stretch i isn't padding, no stretch before it has one of its fields
abbrev pub IsOnce : Plan → ℕ → Type 0
IsOnce plan i = (stretch : Stretch) → slice_get plan.stretches i ≡ Some stretch → stretch.padding ≡ 0
    → (k : ℕ) (other : Stretch) → k < i → slice_get plan.stretches k ≡ Some other → other.padding ≡ 0
    → AreApart stretch other

-- rank r in field f of the file counts on from the plan's first number, and from each that the file shows before field
-- j of stretch i
pub record Follows (plan : Plan) (i j f r : ℕ) : Type 0 where
  pub from_first : CountsOn plan.layout.spacing plan.layout.begin (rank_at plan 0) f r
  pub from_each : (k h m : ℕ) → IsBefore k h i j → Shows plan k h m
      → GoesOn plan.layout.spacing (place_of plan k h) (rank_of plan m) f r

-- number n in field j of stretch i is one of those for which the stretch stands, and counts on from those before it
pub record IsInPlace (plan : Plan) (i j n : ℕ) : Type 0 where
  pub own : StandsFor plan i (rank_of plan n)
  pub follows : Follows plan i j (place_of plan i j) (rank_of plan n)

-- each number that stretch i shows is in its place
abbrev pub IsPlaced : Plan → ℕ → Type 0
IsPlaced plan i = (j n : ℕ) → Shows plan i j n → IsInPlace plan i j n

-- if stretch i is padding, it stands for no number that is believed of a field
abbrev pub HidesNone : Plan → ℕ → Type 0
HidesNone plan i = (stretch : Stretch) → slice_get plan.stretches i ≡ Some stretch → stretch.padding ≢ 0
    → (f n : ℕ) → IsMarked plan.numbers f n → StandsFor plan i (rank_of plan n) → ⊥

-- stretch i is as it should be
pub record IsGood (plan : Plan) (i : ℕ) : Type 0 where
  pub ordered : IsOrdered plan i
  pub given : IsGiven plan i
  pub once : IsOnce plan i
  pub placed : IsPlaced plan i
  pub hides : HidesNone plan i

-- the plan is done: each of its stretches is as it should be
abbrev pub IsDone : Plan → Type 0
IsDone plan = (i : ℕ) → i < length plan.stretches → IsGood plan i

-- stretch i breaks this rule
abbrev pub Breaks : Plan → PlanRule → ℕ → Type 0
Breaks plan Disordered i = IsOrdered plan i → ⊥
Breaks plan NotThere i = IsGiven plan i → ⊥
Breaks plan Twice i = IsOnce plan i → ⊥
Breaks plan Misplaced i = IsPlaced plan i → ⊥
Breaks plan Hidden i = HidesNone plan i → ⊥

-- the fault is that of the first stretch that isn't as it should be
pub record IsFirstFault (plan : Plan) (fault : PlanFault) : Type 0 where
  pub inside : fault.stretch < length plan.stretches
  pub before : (k : ℕ) → k < fault.stretch → IsGood plan k
  pub breaks : Breaks plan fault.rule fault.stretch

-- ---- the file

-- what stands in so many fields that are taken from field f on
unfoldable pub taken_from : {A : Type 0} → List A → ℕ → ℕ → List (Option A)
taken_from fields f zero = []
taken_from fields f (suc count) = slice_get fields f ∷ taken_from fields (suc f) count

-- what stands in a stretch: what its capture has there, or nothing if it is padding
abbrev pub given_by : {A : Type 0} → List A → Stretch → List (Option A)
given_by fields stretch =
    if stretch.padding == 0 then taken_from fields stretch.field stretch.fields else replicate stretch.fields None

-- what stands in the file, of what the captures have in their fields
unfoldable pub shown : {A : Type 0} → List A → List Stretch → List (Option A)
shown fields [] = []
shown fields (stretch ∷ stretches) = given_by fields stretch ++ shown fields stretches

-- the field of the captures that stands in field j of stretch i, if it isn't padding, is field f
pub record Takes (stretches : List Stretch) (i j f : ℕ) : Type 0 where
  pub stretch : Stretch
  pub there : slice_get stretches i ≡ Some stretch
  pub taken : stretch.padding ≡ 0
  pub inside : j < stretch.fields
  pub is : f ≡ stretch.field + j

-- each field of the captures is a later one on the disc than the one before it, from field f to field g
abbrev pub RiseFrom : (ℕ → ℕ) → ℕ → ℕ → Type 0
RiseFrom place f g = (k : ℕ) → f ≤ k → k < g → place k < place (suc k)

-- a disc of video that counts by the clock, of which the plan's first number is in field d; the believed numbers of the
-- captures are those that their fields have there
pub record IsOfDisc (plan : Plan) (disc : ℕ → Option ℕ) (place : ℕ → ℕ) (d : ℕ) : Type 0 where
  pub spacing : plan.layout.spacing ≡ Video
  pub counts : DiscCountsBy plan.layout.clock pace.Video disc
  pub right : (f n : ℕ) → IsMarked plan.numbers f n → disc (place f) ≡ Some n
  pub first : ℕ
  pub begins : disc d ≡ Some first
  pub is_first : rank_of plan first ≡ rank_at plan 0

-- ---- as far as a check has come

-- rank r stands in field f of the file: that is the plan's first number, or, if each number counts on from the one
-- before it, one that the file shows before field j of stretch i
abbrev pub Origin : Plan → ℕ → ℕ → ℕ → ℕ → Type 0
Origin plan i j f r = ((f ≡ plan.layout.begin) × (r ≡ rank_at plan 0))
    ⊎ ((is_both plan.layout.spacing ≡ false) × ((k : ℕ) × (h : ℕ) × (m : ℕ) × IsBefore k h i j × Shows plan k h m
    × (f ≡ place_of plan k h) × (r ≡ rank_of plan m)))

-- what counts on from rank r in field f counts on from all numbers before field j of stretch i
pub record IsReached (plan : Plan) (i j f r : ℕ) : Type 0 where
  pub follows : Follows plan i j f r
  pub origin : Origin plan i j f r
