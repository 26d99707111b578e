-- What is searched only if it is asked for says the same as what is always searched.
-- The functions of line_rule, pair_rule and recovery stand on it.
use Rattle.std.proofs.Common.{arith, ◌≡◌, ℕ, Bool, true, false, List, refl, sym, ap, ◌∙◌, subst}
use Rattle.std.specs.Prelude.{Option, Some, None, is_some, IsTrue, ◌&&◌, if◌then◌else◌}
use Rattle.std.specs.Option.{option_or}
use Rattle.vbi_near.proofs.Common.{Slicing, samples_of, Nears, unit_of, known_but}
use Rattle.vbi_near.proofs.OneSeen.{one_nears, open_asked}
use Rattle.vbi_near.specs.WordRule.{said_of, said_if, said_in, stand_of}
use Rattle.vbi_near.specs.LevelledLines.{levelled, is_swing}
use Rattle.vbi_near.specs.Candidates.{Candidates, Line, Lines, HasNear, HasNearIf, AreOf, has_swing, filled_samples}
use Rattle.vbi_near.specs.Candidates.{levelled_samples, are_alike_by}
use Rattle.vbi_near.specs.Silence.{HasNearUnlessSilent}
use Rattle.vbi_near.specs.Recovery.{said_by, stands_by, stands_of, alone, IsSeen, IsOwn, own_of, is_open, are_open}
use Rattle.vbi_near.specs.Recovery.{recovered_as, shown_in, Seen, Stands}
use Rattle.vbi_near.specs.{declared.margins.Margins.Margins, declared.margins.MarginSet.MarginSet}
use Rattle.vbi_near.specs.{declared.word_rule.PairNears.PairNears, declared.recovery.Recovered.Recovered}

-- ---- what is found first

-- the first says a word, and then it is that of both
pub first-says : (a b : Option ℕ) → is_some a ≡ true → a ≡ option_or a b
first-says None b some = cc
first-says (Some w) b some = refl

-- the first says none, and then that of both is the other's
pub other-says : (a b : Option ℕ) → is_some a ≡ false → b ≡ option_or a b
other-says None b none = refl
other-says (Some w) b none = cc

-- ---- lines that may be silent

-- what lines say that may be silent
pub heard-says : (margins : Margins) (count : ℕ) (lines : Lines) (found : Option Nears) (near : Nears)
    → HasNearUnlessSilent margins count lines found → HasNear lines near
    → said_if (unit_of lines.slicing) margins count found ≡ said_of (unit_of lines.slicing) margins count near
heard-says margins count lines None near silent has = sym (silent near has)
heard-says margins count lines (Some found) near is has = grind (arith, one_nears)

-- nearest words that there may be, of lines that are the same if there may be such
pub same_if : (can other : Bool) (lines others : Lines) (near : Option Nears) → can ≡ other
    → (other ≡ true → lines ≡ others) → HasNearIf lines can near → HasNearIf others other near
same_if can other lines others None e same none = sym e ∙ none
same_if can other lines others (Some near) e same (can_be, has) = grind arith

-- lines that may have no nearest words have none
pub none_if : (lines : Lines) (can : Bool) (near : Option Nears) → can ≡ false → HasNearIf lines can near → near ≡ None
none_if lines can None cannot has = refl
none_if lines can (Some near) cannot (can_be, has) = cc

-- what lines say that have some, by what others say that are the same
pub says_if : (margins : Margins) (count : ℕ) (can : Bool) (lines others : Lines) (near : Option Nears)
    (said : Option ℕ) → can ≡ true → lines ≡ others
    → ((n : Nears) → HasNear others n → said ≡ said_of (unit_of lines.slicing) margins count n)
    → HasNearIf lines can near → said ≡ said_if (unit_of lines.slicing) margins count near
says_if margins count can lines others None said is same says none = cc
says_if margins count can lines others (Some near) said is same says (can_be, has) = grind arith

-- ---- levelled rows

-- each of two that hold together holds
pub both-hold : (a b : Bool) → (a && b) ≡ true → IsTrue a × IsTrue b
both-hold true true is = (refl, refl)
both-hold true false is = cc
both-hold false b is = cc

-- bytes that have the samples of a line levelled if it swings as one with a word does
pub levelled_as : (line is : Line) (bytes : List ℕ) → is ≡ line
    → (has_swing is.system is.slicing is.row ≡ true
    → samples_of bytes ≡ levelled is.system (filled_samples is.slicing is.row))
    → has_swing line.system line.slicing line.row ≡ true
    → levelled_samples line.system line.slicing line.row ≡ known_but line.row.erased (samples_of bytes)
levelled_as line is bytes same found swings = grind arith

-- two rows that may be levelled together swing so
pub swing_each : (unit swing other : ℕ) → are_alike_by unit swing other ≡ true
    → (is_swing unit swing ≡ true) × (is_swing unit other ≡ true)
swing_each unit swing other alike = grind (arith, both-hold)

-- ---- lines that stand to each other

-- one of two lines says nothing if both together are silent, and it for itself
pub pair-silent : (margins : MarginSet) (unit : ℕ) (pair : PairNears) (near : Option Nears)
    → said_if unit margins.both 2 pair.both ≡ None → said_if unit margins.apart 1 near ≡ None
    → None ≡ said_in margins (stand_of margins unit pair) unit near pair.both
pair-silent margins unit pair near together apart = grind arith

-- ---- open lines

-- the first is taken if it holds
when-true : (b : Bool) (x y : Recovered) → IsTrue b → x ≡ (if b then x else y)
when-true true x y is = refl
when-true false x y is = cc

-- the other is taken if it doesn't hold
when-false : (b : Bool) (x y : Stands) → b ≡ false → y ≡ (if b then x else y)
when-false true x y not = cc
when-false false x y not = refl

-- two lines stand so if both are open
when-holds : (b : Bool) (x y : Stands) → b ≡ true → x ≡ (if b then x else y)
when-holds true x y is = refl
when-holds false x y is = cc

-- what a line is found to show by its own levels
module _ (line : Line) (own : Recovered) (owns : IsOwn line own) where
  -- the line is open if it is seen so
  seen-open : (seen : Seen) → IsSeen line seen → IsTrue (is_open own.outcome)
      → IsTrue (is_open (own_of (unit_of line.slicing) seen).outcome)
  seen-open seen is opened = subst (λ (o : Recovered). IsTrue (is_open o.outcome)) (owns seen is) opened

  -- an open line's nearest words are asked for
  pub open-near : (seen : Seen) → IsSeen line seen → IsTrue (is_open own.outcome)
      → AreOf line seen.near
  open-near seen is opened = grind (arith, open_asked, seen-open)

  -- an open line shows what it is found to say
  pub open-shows : (stands : Stands) (seen : Seen) (both : Candidates) (said : Option ℕ)
      → IsSeen line seen → IsTrue (is_open own.outcome)
      → said ≡ said_by stands (unit_of line.slicing) seen.near both
      → recovered_as own said ≡ shown_in stands (unit_of line.slicing) seen both
  open-shows stands seen both said is opened says = grind (arith, seen-open, when-true)

-- ---- lines 17 and 18

-- two lines of one level that are seen, as they are found by their own levels
module _ (line other : Line) (levels : other.slicing ≡ line.slicing) (own beside : Recovered) (owns : IsOwn line own)
    (has : IsOwn other beside) (second third : Seen) (is : IsSeen line second) (are : IsSeen other third) where
  -- both are open as they are found so
  both-same : (is_open own.outcome && is_open beside.outcome) ≡ are_open (unit_of line.slicing) second third
  both-same = grind arith

  -- if both are open, they stand to each other by their nearest words
  stands-open : (both : Candidates) → (is_open own.outcome && is_open beside.outcome) ≡ true
      → stands_by (unit_of line.slicing) second.near third.near both
      ≡ stands_of (unit_of line.slicing) second third both
  stands-open both opened = grind (arith, both-same, when-holds)

  -- if they aren't both open, each is alone
  pub stands-alone : (both : Candidates) → (is_open own.outcome && is_open beside.outcome) ≡ false
      → alone ≡ stands_of (unit_of line.slicing) second third both
  stands-alone both closed = grind (arith, both-same, when-false)

  -- the nearest words of both together are asked for if both are open
  pub pair-open : (is_open own.outcome && is_open beside.outcome) ≡ true
      → IsTrue (are_open (unit_of line.slicing) second third)
  pair-open opened = sym both-same ∙ opened

  -- two open lines show what they are found to say together
  pub pair-shows : (both : Candidates) (said again_said : Option ℕ)
      → (is_open own.outcome && is_open beside.outcome) ≡ true
      → ((near again : Candidates) → AreOf line near → AreOf other again
      → (said ≡ said_by (stands_by (unit_of line.slicing) near again both) (unit_of line.slicing) near both)
      × (again_said ≡ said_by (stands_by (unit_of line.slicing) near again both) (unit_of line.slicing) again both))
      → (recovered_as own said
      ≡ shown_in (stands_of (unit_of line.slicing) second third both) (unit_of line.slicing) second both)
      × (recovered_as beside again_said
      ≡ shown_in (stands_of (unit_of line.slicing) second third both) (unit_of line.slicing) third both)
  pair-shows both said again_said opened says =
      let unit = unit_of line.slicing in
      let stands = stands_of unit second third both in
      let opens = both-hold (is_open own.outcome) (is_open beside.outcome) opened in
      let found = says second.near third.near (open-near line own owns second is opens.0)
      (open-near other beside has third are opens.1) in
      let so = stands-open both opened in (
        open-shows line own owns stands second both said is opens.0
            (found.0 ∙ ap (λ (s : Stands). said_by s unit second.near both) so),
        subst (λ (s : Slicing). again_said ≡ said_by stands (unit_of s) third.near both
            → recovered_as beside again_said ≡ shown_in stands (unit_of s) third both) levels
            (open-shows other beside has stands third both again_said are opens.1)
            (found.1 ∙ ap (λ (s : Stands). said_by s unit third.near both) so),
      )
