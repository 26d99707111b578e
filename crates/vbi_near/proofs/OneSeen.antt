-- Lines have one pair of nearest words and one distance of a stretched word, and their bytes fix what they show by
-- their own levels. is_confirmed stands on it, and AskedLines, Kept and OneRecovered.
use Rattle.std.proofs.Common.{◌≡◌, ◌≢◌, ℕ, Bool, true, false, List, [], ◌∷◌, refl, sym, ap, ◌∙◌, subst, arith, ne_eqb}
use Rattle.std.specs.Prelude.{Option, IsTrue}
use Rattle.vbi_near.proofs.Common.{System, Outcome, Word, Blank, Unfinished, Change, Hold, Reading, Slicing, reading_of}
use Rattle.vbi_near.proofs.Common.{Nears, Samples, IsLeastAt, IsStretched}
use Rattle.vbi_near.proofs.OneNear.{one_near, one_near_code}
use Rattle.vbi_words.specs.Readings.{reading_from}
use Rattle.vbi_line.proofs.OneReading.{by_outcomes}
use Rattle.vbi_near.specs.Candidates.{HasNear, Row, Line, Lines, Candidates, HasNearIf, AreOf, AreOfBoth, given_samples}
use Rattle.vbi_near.specs.Candidates.{given_line, levelled_line, given_pair, levelled_pair}
use Rattle.vbi_near.specs.Recovery.{Seen, IsSeen, is_asked, is_open, is_confirmed, own_by, own_of}

-- ---- nearest words

-- lines have one nearest word, and one nearest of the codes that may stand on a line
pub one_nears : (lines : Lines) (near other : Nears) → HasNear lines near → HasNear lines other → near ≡ other
one_nears lines near other is are = grind (arith, one_near, one_near_code)

-- lines can't both have nearest words and have none
not_both : (can : Bool) → can ≡ false → can ≡ true → ⊥
not_both can cannot has = cc

-- lines that may have none have the same nearest words, or none
pub one_near_if : (lines : Lines) (can : Bool) (near other : Option Nears) → HasNearIf lines can near
    → HasNearIf lines can other → near ≡ other
one_near_if lines can near other is are = grind (arith, not_both, one_nears)

-- the candidates of a line are fixed
pub one_candidates : (line : Line) (near other : Candidates) → AreOf line near → AreOf line other → near ≡ other
one_candidates line near other is are =
    let levelled = one_near_if (levelled_line line) _ near.levelled other.levelled is.levelled are.levelled in
    let given = one_nears (given_line line) near.given other.given is.given are.given in
    λ j. record { levelled = levelled j; given = given j }

-- the candidates of two lines together are fixed
pub one_of_both : (line : Line) (other : Row) (near again : Candidates) → AreOfBoth line other near
    → AreOfBoth line other again → near ≡ again
one_of_both line other near again is are =
    let levelled = one_near_if (levelled_pair line other) _ near.levelled again.levelled is.levelled are.levelled in
    let given = one_nears (given_pair line other) near.given again.given is.given are.given in
    λ j. record { levelled = levelled j; given = given j }

-- ---- words on longer or shorter cells

-- there is one least distance at some rates and starts
pub one_least_at : (IsThere : ℕ → ℕ → Type 0) (far : ℕ → ℕ → ℕ) (a b : ℕ) → IsLeastAt IsThere far a
    → IsLeastAt IsThere far b → a ≡ b
one_least_at IsThere far a b is are = grind arith

-- lines have one distance of a word on longer or shorter cells
pub one_stretched : (system : System) (slicing : Slicing) (lines : List Samples) (word a b : ℕ)
    → IsStretched system slicing lines word a → IsStretched system slicing lines word b → a ≡ b
one_stretched system slicing lines word a b is are = one_least_at _ _ a b is are

-- ---- which lines are open

-- a reading by two outcomes that shows no word and isn't blank is of no pass
plain_pass : (o s : Outcome) → IsTrue (is_open (reading_from o s).outcome) → (reading_from o s).pass ≡ 0
plain_pass (Word w) s opened = cc
plain_pass Blank s opened = cc
plain_pass Unfinished (Word w) opened = cc
plain_pass Unfinished Blank opened = refl
plain_pass Unfinished Unfinished opened = refl
plain_pass Unfinished (Change c) opened = refl
plain_pass Unfinished (Hold c) opened = refl
plain_pass (Change d) (Word w) opened = cc
plain_pass (Change d) Blank opened = refl
plain_pass (Change d) Unfinished opened = refl
plain_pass (Change d) (Change c) opened = refl
plain_pass (Change d) (Hold c) opened = refl
plain_pass (Hold d) (Word w) opened = cc
plain_pass (Hold d) Blank opened = refl
plain_pass (Hold d) Unfinished opened = refl
plain_pass (Hold d) (Change c) opened = refl
plain_pass (Hold d) (Hold c) opened = refl

-- the reading of some levels is of no pass if it shows no word and isn't blank
pub read_pass : (system : System) (levels : List Bool) → IsTrue (is_open (reading_of system levels).outcome)
    → (reading_of system levels).pass ≡ 0
read_pass system levels = grind (arith, by_outcomes, plain_pass)

-- a word of another pass than 2 is the line's own
pub word_own : (plain : Outcome) (word pass : ℕ) (confirms : ℕ → Bool) → pass ≢ 2
    → own_by plain (Word word) pass confirms ≡ record { outcome = Word word; pass = pass }
word_own plain word pass confirms differs = grind (arith, ne_eqb)

-- the nearest words of a line with a word of pass 2 are asked for
pub asked_word : (word pass : ℕ) → pass ≡ 2 → IsTrue (is_asked (Word word) pass)
asked_word word pass e = subst (λ (k : ℕ). IsTrue (is_asked (Word word) k)) (sym e) refl

-- the nearest words of a line with such a reading are asked for if it is open
pub open_asked_by : (o : Outcome) (pass : ℕ) (plain : Outcome) (confirms : ℕ → Bool)
    → (IsTrue (is_open o) → pass ≡ 0) → IsTrue (is_open (own_by plain o pass confirms).outcome)
    → IsTrue (is_asked o pass)
open_asked_by (Word w) pass plain confirms none opened = grind (arith, asked_word, word_own)
open_asked_by Blank pass plain confirms none opened = cc
open_asked_by Unfinished pass plain confirms none opened = grind arith
open_asked_by (Change c) pass plain confirms none opened = grind arith
open_asked_by (Hold c) pass plain confirms none opened = grind arith

-- a line's reading is of no pass if it shows no word and isn't blank
pub open_pass : (line : Line) (seen : Seen) → IsSeen line seen → IsTrue (is_open seen.reading.outcome)
    → seen.reading.pass ≡ 0
open_pass line seen is = grind (arith, read_pass)

-- the nearest words of an open line are asked for
pub open_asked : (line : Line) (seen : Seen) (unit : ℕ) → IsSeen line seen
    → IsTrue (is_open (own_of unit seen).outcome) → IsTrue (is_asked seen.reading.outcome seen.reading.pass)
open_asked line seen unit is opened =
    open_asked_by seen.reading.outcome seen.reading.pass seen.plain (is_confirmed unit seen.near seen.stretched)
    (open_pass line seen is) opened

-- ---- what a line shows by its own levels

-- two lines of one reading show the same by their own levels, if a word of pass 2 is confirmed of both or of none
pub own_same : (o : Outcome) (pass : ℕ) (p q : Outcome) (confirms again : ℕ → Bool) → (pass ≡ 2 → p ≡ q)
    → ((word : ℕ) → o ≡ Word word → pass ≡ 2 → confirms word ≡ again word)
    → own_by p o pass confirms ≡ own_by q o pass again
own_same (Word w) pass p q confirms again plain same = grind (arith, word_own)
own_same Blank pass p q confirms again plain same = refl
own_same Unfinished pass p q confirms again plain same = refl
own_same (Change c) pass p q confirms again plain same = refl
own_same (Hold c) pass p q confirms again plain same = refl

-- what there is of a line, found twice
module _ (line : Line) (seen again : Seen) (unit : ℕ) (is : IsSeen line seen) (are : IsSeen line again) where
  -- its reading is the same
  one_reading : seen.reading ≡ again.reading
  one_reading = is.reading ∙ sym are.reading

  -- its nearest words are asked for each time
  asked_again : IsTrue (is_asked seen.reading.outcome seen.reading.pass)
      → IsTrue (is_asked again.reading.outcome again.reading.pass)
  asked_again asked = subst (λ (r : Reading). IsTrue (is_asked r.outcome r.pass)) one_reading asked

  -- its nearest words are the same if they are asked for
  pub one_asked_near : IsTrue (is_asked seen.reading.outcome seen.reading.pass) → seen.near ≡ again.near
  one_asked_near asked = grind (arith, asked_again, one_candidates)

  -- its word of pass 2 is confirmed each time or never
  confirms_same : (word : ℕ) → seen.reading.outcome ≡ Word word → seen.reading.pass ≡ 2
      → is_confirmed unit seen.near seen.stretched word ≡ is_confirmed unit again.near again.stretched word
  confirms_same word e two =
      let asked = subst (λ (o : Outcome). IsTrue (is_asked o seen.reading.pass)) (sym e)
      (asked_word word seen.reading.pass two) in
      let near = one_asked_near asked in
      let stretched = one_stretched line.system line.slicing (given_samples line.row ∷ []) word _ _
      (is.stretched word e two)
      (are.stretched word (ap (λ (r : Reading). r.outcome) (sym one_reading) ∙ e)
      (ap (λ (r : Reading). r.pass) (sym one_reading) ∙ two)) in
      λ j. is_confirmed unit (near j) (stretched j) word

  -- what it shows by its own levels is the same
  pub one_own : own_of unit seen ≡ own_of unit again
  one_own = grind (arith, own_same, one_reading, confirms_same)

  -- its nearest words are the same if it is open
  pub one_open_near : IsTrue (is_open (own_of unit seen).outcome) → seen.near ≡ again.near
  one_open_near opened = one_asked_near (open_asked line seen unit is opened)
