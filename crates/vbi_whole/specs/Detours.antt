-- Detours: two neighbouring gaps over which the numbers around go on. Either the numbers of the run between them were
-- read in place of others, or the player left the fields around and came back to them.
use Rattle.std.specs.Prelude.{◌≡◌, ℕ, zero, suc, ◌+◌, ◌*◌, ◌-◌, ◌/◌, ◌<◌, ◌≤◌, ◌==◌, nat_lt, ◌&&◌, ◌||◌, ◌⊎◌, Bool}
use Rattle.std.specs.Prelude.{if◌then◌else◌, List, [], ◌∷◌, slice_get, Option, Some, None}
use Rattle.vbi_whole.specs.Types.{Clock, Gap, Numbering, Pace, Video, Film, Rule}
use Rattle.vbi_side.specs.Clocks.{kept, DiscCountsBy}
use Rattle.vbi_side.specs.Side.{captured}
use Rattle.vbi_whole.specs.Gaps.{lost, held, back, still, open_gap, inserted, replaced, goes_on, from_of, to_of}
use Rattle.vbi_whole.specs.Gaps.{rule_by}

-- a gap of this kind may be one of a detour
abbrev pub may_turn : ℕ → Bool
may_turn kind = kind == lost || (kind == held || (kind == back || kind == open_gap))

-- its numbers may be replaced: on film, whose numbers fit to within a field, one that is misread may look like a still
abbrev pub may_replace : Pace → ℕ → Bool
may_replace Video kind = may_turn kind
may_replace Film kind = may_turn kind || (kind == still)

-- this many fields the numbers m and n count to: of film to within a field
abbrev pub count_to : Clock → Pace → ℕ → ℕ → ℕ
count_to clock Video m n = 2 * (kept clock n - kept clock m)
count_to clock Film m n = (5 * (kept clock n - kept clock m)) / 2

-- so many fields the numbers around two gaps count to
abbrev pub count_over : Rule → Gap → Gap → ℕ
count_over rule a b = count_to rule.numbering.clock rule.pace a.from b.to

-- the numbers go back at one of two gaps, and those around the two go on as if fields between weren't there: they count
-- to no more than stand outside of the run between the two
abbrev pub is_inserted : Rule → Gap → Gap → Bool
is_inserted rule a b =
    (a.kind == back || b.kind == back) && nat_lt 0 (count_over rule a b)
    && nat_lt (count_over rule a b + a.after + b.after) (a.before + b.before + rule.slack)

-- what the detour over two neighbouring gaps is, if they are one: the numbers around go on over the fields between, or
-- as if some weren't there
abbrev pub detour_of : Rule → Gap → Gap → Option ℕ
detour_of rule a b =
    if nat_lt a.from b.to then
    (if may_replace rule.pace a.kind && may_replace rule.pace b.kind && goes_on rule (from_of a) (to_of b)
    then Some replaced
    else (if may_turn a.kind && may_turn b.kind && is_inserted rule a b then Some inserted else None))
    else None

-- the fields that a detour inserts: those between the numbers around, less those to which these count
abbrev pub fields_by : Rule → ℕ → Gap → Gap → ℕ
fields_by rule kind a b =
    if kind == inserted then (b.before - a.after) - count_over rule a b else 0

-- a gap that is told to be of this kind, with this many fields
abbrev pub turned : ℕ → ℕ → Gap → Gap
turned kind fields gap = record gap { kind = kind; fields = fields }

-- what the gaps are told to be, after one that may begin a detour, or none: detours are taken from the first gap on, so
-- that no gap is of two. The fields that one inserts are told of its first gap
unfoldable pub detoured_from : Rule → Option Gap → List Gap → List Gap
detoured_from rule None [] = []
detoured_from rule (Some a) [] = a ∷ []
detoured_from rule None (b ∷ gaps) = detoured_from rule (Some b) gaps
detoured_from rule (Some a) (b ∷ gaps) =
    elim (detour_of rule a b) [
      | None ↦ a ∷ detoured_from rule (Some b) gaps
      | Some kind ↦ turned kind (fields_by rule kind a b) a ∷ turned kind 0 b ∷ detoured_from rule None gaps
    ]

abbrev pub detoured : Rule → List Gap → List Gap
detoured rule gaps = detoured_from rule None gaps

-- ---- what is true of them

-- gaps i and i + 1, and what the detour over them is
pub record AreDetour (rule : Rule) (gaps : List Gap) (i kind : ℕ) : Type 0 where
  pub a : Gap
  pub b : Gap
  pub first : slice_get gaps i ≡ Some a
  pub second : slice_get gaps (suc i) ≡ Some b
  pub is : detour_of rule a b ≡ Some kind

-- gap j is told to be this one: as it is, or as the first or the second one of a detour
abbrev pub IsToldAs : Rule → List Gap → ℕ → Gap → Type 0
IsToldAs rule gaps j told = (slice_get gaps j ≡ Some told)
    ⊎ ((kind : ℕ) × (are : AreDetour rule gaps j kind)
    × (told ≡ turned kind (fields_by rule kind are.a are.b) are.a))
    ⊎ ((i kind : ℕ) × (j ≡ suc i) × (are : AreDetour rule gaps i kind) × (told ≡ turned kind 0 are.b))

-- in this many steps from field i of the capture on, so many fields of the disc are skipped
unfoldable pub skips : (ℕ → ℕ) → ℕ → ℕ → ℕ
skips place i zero = 0
skips place i (suc k) = skips place i k + (place (suc (i + k)) - suc (place (i + k)))

-- and so many steps it goes back, where one that stays is one
unfoldable pub repeats : (ℕ → ℕ) → ℕ → ℕ → ℕ
repeats place i zero = 0
repeats place i (suc k) = repeats place i k + (suc (place (i + k)) - place (suc (i + k)))

-- the detour over two gaps of a disc of video, which counts on by the clock, is of this kind, and the numbers around it
-- are right
pub record IsRightDetour (disc : ℕ → Option ℕ) (place : ℕ → ℕ) (numbering : Numbering) (a b : Gap) (kind : ℕ)
    : Type 0 where
  pub counts : DiscCountsBy numbering.clock Video disc
  pub is : detour_of (rule_by Video 0 numbering) a b ≡ Some kind
  pub from : captured disc place a.after ≡ Some a.from
  pub to : captured disc place b.before ≡ Some b.to

-- the numbers around the two gaps count to fewer fields than the capture has between, to at least one, and to no more
-- than stand outside of the run between the gaps; it is inserted at least
pub record IsLeft (rule : Rule) (place : ℕ → ℕ) (a b : Gap) : Type 0 where
  pub apart : place b.before ≡ place a.after + count_over rule a b
  pub some : 0 < count_over rule a b
  pub outside : count_over rule a b < (a.before - a.after) + (b.before - b.after)
  pub inserts : count_over rule a b + fields_by rule inserted a b ≡ b.before - a.after
  pub run : suc (b.after - a.before) ≤ fields_by rule inserted a b
