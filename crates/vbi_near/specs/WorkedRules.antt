-- Nearest words written down, with the numbers of the rule at their limits. White is 100 above black, and what is
-- written down of levelled lines is in hundredths of theirs, too.
use Rattle.std.specs.Prelude.{ℕ, ◌≡◌, ◌+◌, ◌-◌, ◌*◌, ◌/◌, Bool, [], ◌∷◌, map, Option, Some, None}
use Rattle.vbi_near.specs.Common.{Outcome, Word, Blank, Unfinished, Change}
use Rattle.vbi_near.specs.Recovery.{Seen, recovered_of}
use Rattle.vbi_near.specs.{declared.near.Near.Near, declared.near.Nears.Nears, declared.margins.Margins.Margins}
use Rattle.vbi_near.specs.{LevelledLines.levelled_unit, WordRule.said_of, Candidates.Candidates, PileRule.said_together}
use Rattle.vbi_words.specs.Outcomes.{word_of}

-- a nearest word that is a code, and one that is none beside which no code is near; no word is farther by 20,000
abbrev pub as_code : Near → Nears
as_code near = record {
  word = near;
  code = near;
  blank = near.distance + 20000;
  word_halved = 99999;
  code_halved = 99999;
}

abbrev pub as_other : Near → Nears
as_other near = record {
  word = near;
  code = record {
    word = None;
    start = 0;
    distance = 99999;
    rival = 99999;
    longer = 99999;
    shorter = 99999;
  };
  blank = near.distance + 20000;
  word_halved = 99999;
  code_halved = 99999;
}

-- a word at a distance of 10,000, with the distance of its rival, and of the row that goes on
abbrev pub near_with : ℕ → ℕ → ℕ → Near
near_with word rival longer = record {
  word = Some word;
  start = 150;
  distance = 10000;
  rival = rival;
  longer = longer;
  shorter = 10000;
}

-- a code at a distance of 10,000, with the distance of its rival, and a word that is none
abbrev pub code_with : ℕ → ℕ → Nears
code_with word rival = as_code (near_with word rival 10000)

abbrev pub other_with : ℕ → ℕ → Nears
other_with word rival = as_other (near_with word rival 10000)

-- a code far ahead of any other word, with the distance of the row that goes on, and of the row that is cut short
abbrev pub code_longer : ℕ → Nears
code_longer longer = as_code (near_with 0xF12345 20000 longer)

abbrev pub code_cut : ℕ → Nears
code_cut shorter = as_code (record (near_with 0xF12345 20000 10000) { shorter = shorter })

-- the picture number 12345 at this distance, with that of its rival
abbrev pub picture_at : ℕ → ℕ → Near
picture_at distance rival = record {
  word = Some 0xF12345;
  start = 150;
  distance = distance;
  rival = rival;
  longer = distance;
  shorter = distance;
}

-- a word that no code is, beside a code at this distance, with that of the code's rival
abbrev pub beside : ℕ → ℕ → Nears
beside distance rival = record {
  word = near_with 0xF1234A 10100 10000;
  code = picture_at distance rival;
  blank = 30000;
  word_halved = 99999;
  code_halved = 99999;
}

-- the picture number 12345 with the top bit of its first digit, at this distance, with that of its rival
abbrev pub beyond_at : ℕ → ℕ → Near
beyond_at distance rival = record (picture_at distance rival) { word = Some 0xF92345 }

-- the picture number 12345 with the top bit of its first digit, with the distance of its rival, beside the code 12345
-- at this distance, with that of the code's rival
abbrev pub beyond_beside : ℕ → ℕ → ℕ → Nears
beyond_beside other distance rival = record (beside distance rival) { word = beyond_at 10000 other }

-- a distance in hundredths of what white is above black, on levelled lines
abbrev pub hundredths : ℕ → ℕ
hundredths distance = distance * levelled_unit / 100

abbrev pub near_on_levelled : Near → Near
near_on_levelled near = record {
  word = near.word;
  start = near.start;
  distance = hundredths near.distance;
  rival = hundredths near.rival;
  longer = hundredths near.longer;
  shorter = hundredths near.shorter;
}

abbrev pub on_levelled : Nears → Nears
on_levelled near = record {
  word = near_on_levelled near.word;
  code = near_on_levelled near.code;
  blank = hundredths near.blank;
  word_halved = hundredths near.word_halved;
  code_halved = hundredths near.code_halved;
}

-- nearest words of lines as they are, which can't be levelled; and of lines that can
abbrev pub as_given : Nears → Candidates
as_given near = record { levelled = None; given = near }

abbrev pub levelled_as : Nears → Nears → Candidates
levelled_as near given = record { levelled = Some (on_levelled near); given = given }

-- a code at a distance of 10,000 on the levelled lines, with that of its rival, and another one on those as they are
abbrev pub levelled_codes : ℕ → ℕ → ℕ → ℕ → Candidates
levelled_codes word rival given given_rival = levelled_as (code_with word rival) (code_with given given_rival)

-- a line that is read as unfinished, and a line whose smoothed levels alone show a word
abbrev pub worn_by : Candidates → Seen
worn_by near = record {
  reading = record { outcome = Unfinished; pass = 0 };
  plain = Unfinished;
  near = near;
  stretched = 0;
}

abbrev pub worn : Nears → Seen
worn near = worn_by (as_given near)

abbrev pub smoothed_at : ℕ → ℕ → Candidates → Seen
smoothed_at stretched word near = record {
  reading = record { outcome = Word word; pass = 2 };
  plain = Change 34;
  near = near;
  stretched = stretched;
}

abbrev pub smoothed_by : ℕ → Candidates → Seen
smoothed_by word near = smoothed_at 99999 word near

abbrev pub smoothed : ℕ → Nears → Seen
smoothed word near = smoothed_by word (as_given near)

-- a line that is read so, whatever its nearest word is
abbrev pub read_as : Outcome → ℕ → Seen
read_as outcome pass = record {
  reading = record { outcome = outcome; pass = pass };
  plain = outcome;
  near = as_given (as_code (near_with 0xF55555 99999 99999));
  stretched = 0;
}

-- two lines at this distance together from the picture number 12345, with that of their rival
abbrev pub both_at : ℕ → ℕ → Nears
both_at distance rival = as_code (picture_at distance rival)

abbrev pub together_at : ℕ → ℕ → Candidates
together_at distance rival = as_given (both_at distance rival)

-- nearest words of lines that are this far from the row of no word
abbrev pub from_none : ℕ → Nears → Nears
from_none blank near = record near { blank = blank }

-- a code, half of which is so far
abbrev pub code_halved_at : ℕ → Nears
code_halved_at halved = record (beside 10300 12000) { code_halved = halved }

-- a word that is no code, half of which is so far
abbrev pub other_halved_at : ℕ → Nears
other_halved_at halved = record (other_with 0xF1234A 20000) { word_halved = halved }

-- a code, and a word that is none, ten columns ahead of any other, of lines that are this far from the row of no word
abbrev pub code_ten_ahead : ℕ → Nears
code_ten_ahead blank = from_none blank (beside 10300 11300)

abbrev pub other_ten_ahead : ℕ → Nears
other_ten_ahead blank = from_none blank (other_with 0xF1234A 11000)

-- a code so far ahead of any other word, and a word that is no code; of lines that are hardly farther from no word
abbrev pub code_ahead : ℕ → Nears
code_ahead ahead = from_none 12000 (code_with 0xF12345 (10000 + ahead))

abbrev pub other_ahead : ℕ → Nears
other_ahead ahead = from_none 12000 (other_with 0xF1234A (10000 + ahead))

-- nearest words of lines that are so far from no word that a share of 1 would be more than any margin here
abbrev pub far_from_none : Nears → Nears
far_from_none near = from_none 360000 near

-- a code so far ahead of any other, beside a nearest word that isn't it
abbrev pub close_code_ahead : ℕ → Nears
close_code_ahead ahead = from_none 12000 (beside 10300 (10300 + ahead))

-- by these margins this many lines say the word with the first number, and no word with the next one
abbrev pub SayUntil : Margins → ℕ → (ℕ → Nears) → ℕ → ℕ → ℕ → Type 0
SayUntil margins lines near word last next =
    map (λ n. said_of 100 margins lines (near n)) (last ∷ next ∷ []) ≡ Some word ∷ None ∷ []

-- by these margins this many lines say a code, and a word that is none, ten columns ahead of any other, if they are
-- this far from the row of no word, and say none if they are farther
abbrev pub SharesUntil : Margins → ℕ → ℕ → ℕ → Type 0
SharesUntil margins lines code other =
    SayUntil margins lines code_ten_ahead 0xF12345 code (code + 1)
    × SayUntil margins lines other_ten_ahead 0xF1234A other (other + 1)

-- by these margins one line says a code that is so far ahead of any other, and a word that is none, however far the
-- line is from the row of no word
abbrev pub HasNoShare : Margins → ℕ → ℕ → Type 0
HasNoShare margins code other =
    (said_of 100 margins 1 (far_from_none (code_ahead code)) ≡ Some 0xF12345)
    × (said_of 100 margins 1 (far_from_none (other_ahead other)) ≡ Some 0xF1234A)

-- by these margins this many lines say a code at 10,000 if the row that goes on beyond it is this far, or the row that
-- is cut short, and no word if either is nearer
abbrev pub EndsFrom : Margins → ℕ → ℕ → Type 0
EndsFrom margins lines least =
    SayUntil margins lines code_longer 0xF12345 least (least - 1)
    × SayUntil margins lines code_cut 0xF12345 least (least - 1)

-- two lines of which it is known, or isn't, which columns are erased say the word together with the first number, and
-- no word with the next one
abbrev pub PileSaysUntil : Bool → (ℕ → Nears) → ℕ → ℕ → ℕ → Type 0
PileSaysUntil known near word last next =
    map (λ n. said_together 100 known 2 (as_given (near n))) (last ∷ next ∷ []) ≡ Some word ∷ None ∷ []

-- what a field shows on its lines 16, 17 and 18: the word of each, and in which pass
abbrev pub FieldShows : Seen → Seen → Seen → Candidates → Option ℕ × ℕ → Option ℕ × ℕ → Option ℕ × ℕ → Type 0
FieldShows first second third both on_16 on_17 on_18 =
    map (λ line. (word_of line.outcome, line.pass)) (recovered_of 100 first second third both)
    ≡ on_16 ∷ on_17 ∷ on_18 ∷ []

-- what lines 17 and 18 show if line 16 is blank
abbrev pub PairShows : Seen → Seen → Candidates → Option ℕ × ℕ → Option ℕ × ℕ → Type 0
PairShows second third both on_17 on_18 = FieldShows (read_as Blank 0) second third both (None, 0) on_17 on_18

-- this word, which no code is, beside the picture number 12345, each at a distance; of the word that of the row that
-- goes on, of the code that of its rival
abbrev pub code_beside : ℕ → ℕ → ℕ → ℕ → ℕ → Nears
code_beside word near longer distance rival = record (beside distance rival) {
  word = record (near_with word 10100 longer) { distance = near; rival = near + 100; shorter = near };
}
