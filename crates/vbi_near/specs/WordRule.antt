-- What the nearest word of some lines says, if it is so far ahead of any other that noise and dropouts hardly bring it
-- about; and whether lines 17 and 18 say one word together.
--
-- All that is compared are sums of how far samples are off. A margin of this many columns is as much as white and black
-- are off from each other in this many columns: `unit` is that of one column.
use Rattle.std.specs.Prelude.{ℕ, ◌+◌, ◌*◌, ◌==◌, ◌&&◌, ◌||◌, Bool, false, not, is_some, nat_le, nat_lt, Option, Some}
use Rattle.std.specs.Prelude.{None, if◌then◌else◌}
use Rattle.vbi_near.specs.declared.word_rule.Agreement.TheVariants.{Alone, Apart, Together}
use Rattle.vbi_near.specs.{declared.near.Near.Near, declared.word_rule.Nearest.Nearest, declared.near.Nears.Nears}
use Rattle.vbi_near.specs.{declared.margins.Margin.Margin, declared.margins.Margins.Margins}
use Rattle.vbi_near.specs.{declared.margins.MarginSet.MarginSet, declared.word_rule.PairNears.PairNears}
use Rattle.vbi_near.specs.{declared.word_rule.Agreement.Agreement, LineCodes.is_beyond_79999}

-- ---- what one or two lines say

-- any other word is farther by this many columns at least
abbrev pub is_ahead : ℕ → ℕ → Near → Bool
is_ahead unit columns near = nat_le (near.distance + columns * unit) near.rival

-- any other word is farther by this many 288ths at least of how much nearer the nearest word is than none, which is
-- this far
abbrev pub is_ahead_by : ℕ → ℕ → Near → Bool
is_ahead_by share blank near =
    nat_le (288 * near.distance + share * blank) (288 * near.rival + share * near.distance)

-- the signal goes on beyond the word: with one more cell the drawn row is nearer by more than so many columns in each
-- line
abbrev pub goes_on : ℕ → ℕ → ℕ → Near → Bool
goes_on unit ends lines near = nat_lt (near.longer + ends * lines * unit) near.distance

-- the signal has fewer cells than the word: with its first or its last one or two cells black the drawn row is nearer
-- by more than so many columns in each line
abbrev pub is_cut : ℕ → ℕ → ℕ → Near → Bool
is_cut unit ends lines near = nat_lt (near.shorter + ends * lines * unit) near.distance

-- each half of the word counts: with its first or its last twelve cells black the row is farther, by a quarter at least
-- of how much farther none is. Levelled, samples lie half way between black and white where there is nothing, and are
-- as far from any word.
abbrev pub is_whole : ℕ → ℕ → Near → Bool
is_whole blank halved near = nat_le (4 * near.distance + blank) (4 * halved + near.distance)

-- any other word is farther by so much, and the signal begins and ends with this one, and is all there
abbrev pub is_clear : ℕ → Margin → ℕ → ℕ → Nearest → Bool
is_clear unit margin ends lines word =
    is_ahead unit margin.columns word.near && is_ahead_by margin.share word.blank word.near
    && not (goes_on unit ends lines word.near) && not (is_cut unit ends lines word.near)
    && is_whole word.blank word.halved word.near

-- the nearest word of some lines, and their nearest code
abbrev pub word_in : Nears → Nearest
word_in near = record { near = near.word; blank = near.blank; halved = near.word_halved }

abbrev pub code_in : Nears → Nearest
code_in near = record { near = near.code; blank = near.blank; halved = near.code_halved }

-- how far a code may be if this is the nearest word: by three columns farther
abbrev pub close_limit : ℕ → Near → ℕ
close_limit unit word = word.distance + 3 * unit

-- no word is nearer than the nearest code by more than three columns
abbrev pub is_close : ℕ → Nears → Bool
is_close unit near = nat_le near.code.distance (close_limit unit near.word)

-- the word that this many lines say: the nearest code that may stand on them, if it is so far ahead of any other code
-- and of none, and no word is much nearer; else the nearest word, if it is so far ahead of any other
abbrev pub said_of : ℕ → Margins → ℕ → Nears → Option ℕ
said_of unit margins lines near =
    if is_some near.code.word && is_close unit near
    && is_clear unit margins.code margins.ends lines (code_in near)
    then near.code.word
    else (if is_clear unit margins.other margins.ends lines (word_in near) then near.word.word else None)

-- what is said by what there may not be
abbrev pub said_if : ℕ → Margins → ℕ → Option Nears → Option ℕ
said_if unit margins lines None = None
said_if unit margins lines (Some near) = said_of unit margins lines near

-- what is said, but no picture number of 80,000 or more
abbrev pub unless_beyond : Option ℕ → Option ℕ
unless_beyond None = None
unless_beyond (Some word) = if is_beyond_79999 word then None else Some word

-- what is recovered by what there may not be
abbrev pub recovered_by : ℕ → Margins → ℕ → Option Nears → Option ℕ
recovered_by unit margins lines near = unless_beyond (said_if unit margins lines near)

-- this word is said
abbrev pub is_said : ℕ → Option ℕ → Bool
is_said word None = false
is_said word (Some said) = word == said

-- ---- lines 17 and 18

-- both are the same word
abbrev pub is_same : Option ℕ → Option ℕ → Bool
is_same None other = false
is_same (Some word) other = is_said word other

-- two lines have one word, by that of each and that of both: it is the same, or their common one is at most 30 columns
-- farther from the two than the nearest of each is from its own line
abbrev pub is_one : ℕ → Near → Near → Near → Bool
is_one unit second third both =
    is_same second.word third.word || nat_le both.distance (second.distance + third.distance + 30 * unit)

-- the common word is nearer to two lines, by 20 columns, than the word of the one is to that, and none to the other,
-- which is this far
abbrev pub is_borne : ℕ → Near → ℕ → Near → Bool
is_borne unit near blank both = nat_le (both.distance + 20 * unit) (near.distance + blank)

-- two lines have one word, and each of them bears it: by their nearest words
abbrev pub have_word : ℕ → Nears → Nears → Nears → Bool
have_word unit second third both =
    is_one unit second.word third.word both.word && is_borne unit second.word third.blank both.word
    && is_borne unit third.word second.blank both.word

-- two lines have one code, and each of them bears it: by their nearest codes
abbrev pub have_code : ℕ → Nears → Nears → Nears → Bool
have_code unit second third both =
    is_one unit second.code third.code both.code && is_borne unit second.code third.blank both.code
    && is_borne unit third.code second.blank both.code

-- two lines have one word or one code that each of them bears
abbrev pub have_one : ℕ → Nears → Nears → Nears → Bool
have_one unit second third both = have_word unit second third both || have_code unit second third both

-- two lines that have one word agree, unless each of them goes on beyond its nearest word, as two sines do
abbrev pub do_agree : ℕ → ℕ → Nears → Nears → Nears → Bool
do_agree unit ends second third both =
    have_one unit second third both && not (goes_on unit ends 1 second.word && goes_on unit ends 1 third.word)

-- two lines don't agree if the one or the other has no nearest word, or both together have none
abbrev pub may_agree : ℕ → ℕ → Option Nears → Option Nears → Option Nears → Bool
may_agree unit ends (Some second) (Some third) (Some both) = do_agree unit ends second third both
may_agree unit ends second third both = false

-- how two open lines stand to each other
abbrev pub stand_of : MarginSet → ℕ → PairNears → Agreement
stand_of margins unit near =
    if may_agree unit margins.lone.ends near.second near.third near.both then Together else Apart

-- the word that an open line says by its nearest word, or by that of lines 17 and 18 together
abbrev pub said_in : MarginSet → Agreement → ℕ → Option Nears → Option Nears → Option ℕ
said_in margins Alone unit near both = recovered_by unit margins.lone 1 near
said_in margins Apart unit near both = recovered_by unit margins.apart 1 near
said_in margins Together unit near both = recovered_by unit margins.both 2 both
