-- By how much the samples of lines are nearer to a word that they say than to what may have been recorded.
-- recovered_costs stands on it.
use Rattle.std.proofs.Common.{◌≡◌, ℕ, ◌+◌, ◌≤◌, ◌⊎◌, inl, inr, Bool, true, false, refl, ap, ◌∙◌, subst, arith}
use Rattle.std.specs.Prelude.{Option, Some, None, is_some, ◌&&◌, ◌*◌, if◌then◌else◌}
use Rattle.std.proofs.lemmas.Bool.{leb-true}
use Rattle.std.proofs.Math.Nat.{mul-le-mul_right}
use Rattle.std.specs.Option.{option_or}
use Rattle.vbi_near.proofs.Common.{Word, Near, Nears, IsPlace, unit_of, codes_of, IsCodePlace, is_beyond_79999}
use Rattle.vbi_near.proofs.Common.{IsNearestBy, far_from}
use Rattle.vbi_near.proofs.{Chosen.code-place, AskedLines.both-hold, OneSeen.open_asked, NeverBeyond.own-few}
use Rattle.vbi_words.specs.Outcomes.{word_of}
use Rattle.vbi_near.specs.declared.word_rule.Agreement.TheVariants.{Alone, Apart, Together}
use Rattle.vbi_near.specs.WordRule.{said_of, unless_beyond, recovered_by, said_in, is_ahead, is_clear}
use Rattle.vbi_near.specs.WordRule.{word_in, code_in, is_close}
use Rattle.vbi_near.specs.Candidates.{HasNear, HasNearIf, Candidates, Row, Line, Lines, AreOf, AreOfBoth, has_swing}
use Rattle.vbi_near.specs.Candidates.{are_alike, given_line, levelled_line, given_pair, levelled_pair}
use Rattle.vbi_near.specs.Recovery.{Seen, IsSeen, Stands, alone, own_of, is_open, said_by, recovered_as, shown_in}
use Rattle.vbi_near.specs.Ahead.{IsAhead, IsAheadBy, IsAheadOn, IsAheadOnBoth}
use Rattle.vbi_near.specs.{declared.margins.Margins.Margins, declared.margins.MarginSet.MarginSet}
use Rattle.vbi_near.specs.{declared.word_rule.Agreement.Agreement, declared.recovery.Recovered.Recovered}
use Rattle.vbi_near.specs.{LevelledLines.levelled_unit, Margins.levelled_margins, Margins.given_margins}

-- ---- nearest words

-- a nearest word of these is ahead of any other by as many columns as its rival is
nearest-ahead : (lines : Lines) (IsThere : Option ℕ → ℕ → Type 0) (near : Near) (columns word : ℕ)
    → IsNearestBy IsThere (far_from lines.system lines.slicing lines.samples) near → near.word ≡ Some word
    → ((start : ℕ) → IsThere (Some word) start → IsPlace lines.system (Some word) start)
    → ((other at : ℕ) → IsCodePlace (codes_of lines.system lines.number) lines.system (Some other) at
    → IsThere (Some other) at)
    → is_ahead (unit_of lines.slicing) columns near ≡ true → IsAhead lines columns word
nearest-ahead lines IsThere near columns word is e place there ahead =
    let far_to : Option ℕ → ℕ → ℕ = far_from lines.system lines.slicing lines.samples in
    let at_start : far_to (Some word) near.start ≡ near.distance
    = subst (λ (o : Option ℕ). far_to o near.start ≡ near.distance) e is.exact in (
      near.start,
      place near.start (subst (λ (o : Option ℕ). IsThere o near.start) e is.place),
      λ other at code differs.
          let far = is.rival (Some other) at (there other at code)
          (λ same. differs (ap (λ (o : Option ℕ). number_of o) (same ∙ e))) in
          omega (
            arith,
            far,
            at_start,
            leb-true (near.distance + columns * unit_of lines.slicing) near.rival ahead,
          ),
    )
  where
    number_of : Option ℕ → ℕ
    number_of None = 0
    number_of (Some w) = w

-- the nearest code is, of a word that may stand on the line
code-ahead : (lines : Lines) (near : Nears) (columns word : ℕ) → HasNear lines near → near.code.word ≡ Some word
    → is_ahead (unit_of lines.slicing) columns near.code ≡ true → IsAhead lines columns word
code-ahead lines near columns word is e ahead =
    nearest-ahead lines (IsCodePlace (codes_of lines.system lines.number) lines.system) near.code columns word is.code e
    (λ start place. code-place (codes_of lines.system lines.number) lines.system (Some word) start place)
    (λ other at place. place) ahead

-- the nearest word is ahead, whichever it is
word-ahead : (lines : Lines) (near : Nears) (columns word : ℕ) → HasNear lines near → near.word.word ≡ Some word
    → is_ahead (unit_of lines.slicing) columns near.word ≡ true → IsAhead lines columns word
word-ahead lines near columns word is e ahead =
    nearest-ahead lines (IsPlace lines.system) near.word columns word is.nearest e (λ start place. place)
    (λ other at place. code-place (codes_of lines.system lines.number) lines.system (Some other) at place) ahead

-- ---- what is said

-- one of two that are asked one after the other
one-of : (c d : Bool) (x y : Option ℕ) (word : ℕ) → (if c then x else (if d then y else None)) ≡ Some word
    → ((c ≡ true) × (x ≡ Some word)) ⊎ ((d ≡ true) × (y ≡ Some word))
one-of true d x y word e = inl (refl, e)
one-of false true x y word e = inr (refl, e)
one-of false false x y word e = cc

-- what is clear is ahead
clear-ahead : (a b c d e : Bool) → (a && b && c && d && e) ≡ true → a ≡ true
clear-ahead true b c d e is = refl
clear-ahead false b c d e is = cc

-- what some lines say is ahead by the columns of a code, or by those of another word
pub said-ahead : (lines : Lines) (margins : Margins) (count : ℕ) (near : Nears) (word : ℕ) → HasNear lines near
    → said_of (unit_of lines.slicing) margins count near ≡ Some word → IsAheadBy lines margins word
said-ahead lines margins count near word is says = go (one-of _ _ near.code.word near.word.word word says)
  where
    unit : ℕ
    unit = unit_of lines.slicing

    go : ((is_some near.code.word && is_close unit near
        && is_clear unit margins.code margins.ends count (code_in near)) ≡ true)
        × (near.code.word ≡ Some word)
        ⊎ (is_clear unit margins.other margins.ends count (word_in near) ≡ true)
        × (near.word.word ≡ Some word) → IsAheadBy lines margins word
    go (inl (clear, e)) =
        inl (code-ahead lines near margins.code.columns word is e (clear-ahead _ _ _ _ _ (both-hold _ _ clear).1))
    go (inr (clear, e)) =
        inr (word-ahead lines near margins.other.columns word is e (clear-ahead _ _ _ _ _ clear))

-- a word that is ahead by some columns is ahead by fewer, too
fewer-ahead : (lines : Lines) (columns fewer word : ℕ) → fewer ≤ columns → IsAhead lines columns word
    → IsAhead lines fewer word
fewer-ahead lines columns fewer word few (start, place, far) = (
  start,
  place,
  λ other at code differs.
      omega (arith, far other at code differs, mul-le-mul_right (unit_of lines.slicing) few),
)

-- what is ahead by the columns of a code or of another word is ahead by the fewer of both
least-ahead : (lines : Lines) (margins : Margins) (least word : ℕ) → least ≤ margins.code.columns
    → least ≤ margins.other.columns → IsAheadBy lines margins word → IsAhead lines least word
least-ahead lines margins least word few less (inl is) =
    fewer-ahead lines margins.code.columns least word few is
least-ahead lines margins least word few less (inr is) =
    fewer-ahead lines margins.other.columns least word less is

-- what is left if it is no picture number of 80,000 or more was said
left-said : (b : Bool) (w word : ℕ) → (if b then None else Some w) ≡ Some word → Some w ≡ Some word
left-said true w word e = cc
left-said false w word e = e

unless-said : (said : Option ℕ) (word : ℕ) → unless_beyond said ≡ Some word → said ≡ Some word
unless-said None word e = cc
unless-said (Some w) word e = left-said (is_beyond_79999 w) w word e

-- what is recovered of lines that may have nearest words is ahead by so many columns
recovered-ahead : (lines : Lines) (can : Bool) (margins : Margins) (count : ℕ) (near : Option Nears) (least word : ℕ)
    → least ≤ margins.code.columns → least ≤ margins.other.columns → HasNearIf lines can near
    → recovered_by (unit_of lines.slicing) margins count near ≡ Some word → IsAhead lines least word
recovered-ahead lines can margins count None least word few less has says = absurd (cc)
recovered-ahead lines can margins count (Some near) least word few less (can_be, has) says =
    least-ahead lines margins least word few less
    (said-ahead lines margins count near word has (unless-said _ word says))

-- ---- what a line says

-- one of two says what the first that says a word does
first-of : (a b : Option ℕ) (word : ℕ) → option_or a b ≡ Some word → (a ≡ Some word) ⊎ (b ≡ Some word)
first-of None b word e = inr e
first-of (Some w) b word e = inl e

-- a line that has no other beside it
alone-ahead : (line : Line) (near both : Candidates) (word : ℕ) → AreOf line near
    → said_by alone (unit_of line.slicing) near both ≡ Some word → IsAheadOn line 4 word
alone-ahead line near both word are says = go (first-of _ _ word says)
  where
    go : (recovered_by levelled_unit levelled_margins.lone 1 near.levelled ≡ Some word)
        ⊎ (recovered_by (unit_of line.slicing) given_margins.lone 1 (Some near.given) ≡ Some word)
        → IsAheadOn line 4 word
    go (inl e) =
        inl (recovered-ahead (levelled_line line) (has_swing line.system line.slicing line.row) levelled_margins.lone 1
        near.levelled 4 word (omega arith) (omega arith) are.levelled e)
    go (inr e) =
        inr (recovered-ahead (given_line line) true given_margins.lone 1 (Some near.given) 4 word (omega arith)
        (omega arith) (refl, are.given) e)

-- what one of two lines says, levelled or as they are: by its own nearest words, or by those of both together
in-ahead : (lines pair : Lines) (margins : MarginSet) (stand : Agreement) (can could : Bool) (near both : Option Nears)
    (word : ℕ) → unit_of pair.slicing ≡ unit_of lines.slicing → 4 ≤ margins.lone.code.columns
    → 4 ≤ margins.lone.other.columns → 4 ≤ margins.apart.code.columns → 4 ≤ margins.apart.other.columns
    → 5 ≤ margins.both.code.columns → 5 ≤ margins.both.other.columns
    → HasNearIf lines can near → HasNearIf pair could both
    → said_in margins stand (unit_of lines.slicing) near both ≡ Some word
    → IsAhead lines 4 word ⊎ IsAhead pair 5 word
in-ahead lines pair margins Alone can could near both word same a b d e f g has have says =
    inl (recovered-ahead lines can margins.lone 1 near 4 word a b has says)
in-ahead lines pair margins Apart can could near both word same a b d e f g has have says =
    inl (recovered-ahead lines can margins.apart 1 near 4 word d e has says)
in-ahead lines pair margins Together can could near both word same a b d e f g has have says =
    inr (recovered-ahead pair could margins.both 2 both 5 word f g have
    (ap (λ (unit : ℕ). recovered_by unit margins.both 2 both) same ∙ says))

-- one of lines 17 and 18 if both are open
by-ahead : (line first : Line) (other : Row) (stands : Stands) (near both : Candidates) (word : ℕ)
    → unit_of first.slicing ≡ unit_of line.slicing → AreOf line near → AreOfBoth first other both
    → said_by stands (unit_of line.slicing) near both ≡ Some word
    → IsAheadOn line 4 word ⊎ IsAheadOnBoth first other 5 word
by-ahead line first other stands near both word same are pair says = go (first-of _ _ word says)
  where
    levelled-to : IsAhead (levelled_line line) 4 word ⊎ IsAhead (levelled_pair first other) 5 word
        → IsAheadOn line 4 word ⊎ IsAheadOnBoth first other 5 word
    levelled-to (inl is) = inl (inl is)
    levelled-to (inr is) = inr (inl is)

    given-to : IsAhead (given_line line) 4 word ⊎ IsAhead (given_pair first other) 5 word
        → IsAheadOn line 4 word ⊎ IsAheadOnBoth first other 5 word
    given-to (inl is) = inl (inr is)
    given-to (inr is) = inr (inr is)

    go : (said_in levelled_margins stands.levelled levelled_unit near.levelled both.levelled ≡ Some word)
        ⊎ (said_in given_margins stands.given (unit_of line.slicing) (Some near.given) (Some both.given) ≡ Some word)
        → IsAheadOn line 4 word ⊎ IsAheadOnBoth first other 5 word
    go (inl e) =
        levelled-to (in-ahead (levelled_line line) (levelled_pair first other) levelled_margins stands.levelled
        (has_swing line.system line.slicing line.row) (are_alike first.system first.slicing first.row other)
        near.levelled both.levelled word refl (omega arith) (omega arith) (omega arith) (omega arith) (omega arith)
        (omega arith) are.levelled pair.levelled e)
    go (inr e) =
        given-to (in-ahead (given_line line) (given_pair first other) given_margins stands.given true true
        (Some near.given) (Some both.given) word same (omega arith) (omega arith) (omega arith) (omega arith)
        (omega arith) (omega arith) (refl, are.given) (refl, pair.given) e)

-- ---- what a line shows

-- a line that shows a word of pass 3 is open, and says it
said-shown : (opened : Bool) (own : Recovered) (said : Option ℕ) (word : ℕ) → own.pass ≤ 2
    → (if opened then recovered_as own said else own) ≡ record { outcome = Word word; pass = 3 }
    → (opened ≡ true) × (said ≡ Some word)
said-shown false own said word few e = grind arith
said-shown true own None word few e = absurd (omega (arith, few, ap (λ (r : Recovered). r.pass) e))
said-shown true own (Some w) word few e = (refl, ap (λ (r : Recovered). word_of r.outcome) e)

-- line 16
pub first-shown : (line : Line) (seen : Seen) (both : Candidates) (word : ℕ) → IsSeen line seen
    → shown_in alone (unit_of line.slicing) seen both ≡ record { outcome = Word word; pass = 3 }
    → IsAheadOn line 4 word
first-shown line seen both word is e =
    let unit = unit_of line.slicing in
    let says = said-shown (is_open (own_of unit seen).outcome) (own_of unit seen)
    (said_by alone unit seen.near both) word (own-few line seen unit is) e in
    alone-ahead line seen.near both word (is.near (open_asked line seen unit is says.0)) says.1

-- one of lines 17 and 18, whether both are open or not
pub other-shown : (line first : Line) (other : Row) (seen : Seen) (opened : Bool) (stands : Stands) (both : Candidates)
    (word : ℕ) → unit_of first.slicing ≡ unit_of line.slicing → IsSeen line seen
    → (opened ≡ true → AreOfBoth first other both)
    → shown_in (if opened then stands else alone) (unit_of line.slicing) seen both
    ≡ record { outcome = Word word; pass = 3 }
    → IsAheadOn line 4 word ⊎ IsAheadOnBoth first other 5 word
other-shown line first other seen false stands both word same is pair e =
    inl (first-shown line seen both word is e)
other-shown line first other seen true stands both word same is pair e =
    let unit = unit_of line.slicing in
    let says = said-shown (is_open (own_of unit seen).outcome) (own_of unit seen)
    (said_by stands unit seen.near both) word (own-few line seen unit is) e in
    by-ahead line first other stands seen.near both word same (is.near (open_asked line seen unit is says.0))
    (pair refl) says.1
