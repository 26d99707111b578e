-- What a document has of lines with recovered words: numbers of 64 bits. For what is said is a word, and no sample is
-- off by more than white is from black. FieldWrites stands on it.
use Rattle.vbi_meta.proofs.Common.{◌≡◌, ℕ, ◌*◌, ◌<◌, ◌≤◌, ◌^◌, ◌&&◌, Bool, true, false, List, [], ◌∷◌, length, refl}
use Rattle.vbi_meta.proofs.Common.{sym, ap, subst, arith, lit<, if◌then◌else◌, System, Outcome, Word, Blank, Unfinished}
use Rattle.vbi_meta.proofs.Common.{Change, Hold, Slicing, samples_of, row_levels, IsWord, Near, Recovered, Line}
use Rattle.vbi_meta.proofs.Common.{Candidates, unit_of, Seen, alone, said_by, word_or_zero, hundredths, reading_as}
use Rattle.std.proofs.Common.{◌-◌}
use Rattle.std.proofs.Math.Nat.{div-le_self}
use Rattle.std.specs.Prelude.{Option, Some, None, is_some}
use Rattle.std.specs.Option.{option_or}
use Rattle.vbi_line.proofs.OneReading.{is_outcome}
use Rattle.vbi_near.specs.declared.near.Nears.{Nears}
use Rattle.vbi_near.specs.declared.margins.Margins.{Margins}
use Rattle.vbi_near.specs.declared.margins.MarginSet.{MarginSet}
use Rattle.vbi_near.specs.declared.word_rule.Agreement.{Agreement}
use Rattle.vbi_near.specs.declared.word_rule.Agreement.TheVariants.{Alone, Apart, Together}
use Rattle.vbi_near.specs.Candidates.{Row, Lines, HasNear, HasNearIf, AreOf, AreOfBoth, given_samples, given_line}
use Rattle.vbi_near.specs.Candidates.{given_pair}
use Rattle.vbi_near.specs.Distances.{Samples, most_of, off_by, row_distance, distance_of, known_but}
use Rattle.vbi_near.specs.LevelledLines.{levelled_unit}
use Rattle.vbi_near.specs.LineCodes.{codes_of, is_beyond_79999}
use Rattle.vbi_near.specs.Margins.{levelled_margins, given_margins}
use Rattle.vbi_near.specs.Pictures.{IsPlace}
use Rattle.vbi_near.specs.Recovery.{Stands, IsSeen, own_of, is_open, is_confirmed, reading_stays, recovered_as}
use Rattle.vbi_near.specs.Recovery.{shown_in}
use Rattle.vbi_near.specs.WordRule.{is_clear, is_close, word_in, code_in, said_of, unless_beyond, recovered_by}
use Rattle.vbi_near.specs.WordRule.{said_in}
use Rattle.vbi_near.proofs.Chosen.{code-place}
use Rattle.vbi_near.proofs.Most.{most_of-fits}
use Rattle.vbi_near.proofs.OneSeen.{open_asked}
use Rattle.vbi_field.specs.RecoveredRows.{IsNearRow}
use Rattle.vbi_meta.proofs.ShownLines.{IsShown, IsShort, samples_below, word_shown, outcome_shown, reading_shown}
use Rattle.vbi_meta.proofs.ValueReads.{IsFew}

-- ---- how far a line is from a row

off-few : (most : ℕ) (sample : Option ℕ) (drawn : ℕ) → off_by most sample drawn ≤ most
off-few most None drawn = omega arith
off-few most (Some sample) drawn = grind arith

row-few : (most : ℕ) (line : Samples) (row : List ℕ) → most < 65536 → row_distance most line row ≤ 65536 * length line
unfolding row_distance
row-few most [] row small = omega arith
row-few most (sample ∷ line) [] small = omega arith
row-few most (sample ∷ line) (drawn ∷ row) small =
    omega (arith, off-few most sample drawn, row-few most line row small)

known-few : (erased : List Bool) (samples : List ℕ) → length (known_but erased samples) ≤ length samples
known-few [] samples = omega arith
known-few (true ∷ erased) [] = omega arith
known-few (false ∷ erased) [] = omega arith
known-few (true ∷ erased) (sample ∷ samples) = omega (arith, known-few erased samples)
known-few (false ∷ erased) (sample ∷ samples) = omega (arith, known-few erased samples)

far-few : (slicing : Slicing) (row : Row) (drawn : List ℕ) → slicing.white < 65536 → IsShort row.bytes
    → distance_of (most_of slicing) (given_samples row ∷ []) drawn ≤ 65536 * 2270
unfolding distance_of
far-few slicing row drawn small short =
    omega (
      arith,
      row-few (most_of slicing) (given_samples row) drawn (omega (arith, most_of-fits slicing (omega arith))),
      known-few row.erased (samples_of row.bytes),
      samples_below row.bytes,
    )

hundredths-few : (slicing : Slicing) (distance : ℕ) → distance ≤ 65536 * 2270 → hundredths slicing distance < 2 ^ 64
hundredths-few slicing distance few =
    omega (arith, few, div-le_self (distance * 100) (slicing.white - slicing.black))

place-few : (system : System) (word : Option ℕ) (start : ℕ) → IsPlace system word start → word_or_zero word < 2 ^ 64
place-few system None start place = lit< tt
place-few system (Some word) start (is, room) = omega (arith, is.1)

-- the numbers of a row's nearest word
pub near_few : (system : System) (slicing : Slicing) (row : Row) (near : Near) → slicing.white < 65536
    → IsShort row.bytes → IsNearRow system slicing row near → IsFew slicing near
near_few system slicing row near small short is =
    let other = is.nearest.other in
    let few : (distance : ℕ) → distance ≤ 65536 * 2270 → hundredths slicing distance < 2 ^ 64
    = hundredths-few slicing in
    record {
      word = place-few system near.word near.start is.nearest.place;
      distance = few near.distance
          (subst (λ (d : ℕ). d ≤ 65536 * 2270) is.nearest.exact (far-few slicing row _ small short));
      rival = few near.rival (subst (λ (d : ℕ). d ≤ 65536 * 2270) other.4 (far-few slicing row _ small short));
    }

-- ---- what nearest words say is a word

abbrev pub AreWords : Option ℕ → Type 0
AreWords said = (word : ℕ) → said ≡ Some word → IsWord word

none-words : AreWords None
none-words word e = cc

place-words : (system : System) (found : Option ℕ) (start : ℕ) → IsPlace system found start → AreWords found
place-words system None start place word e = cc
place-words system (Some found) start (is, room) word e = subst IsWord (ap word_or_zero e) is

if-words : (b : Bool) (x y : Option ℕ) → AreWords x → AreWords y → AreWords (if b then x else y)
if-words true x y is are = is
if-words false x y is are = are

first-words : (a b : Option ℕ) → AreWords a → AreWords b → AreWords (option_or a b)
first-words None b is are = are
first-words (Some word) b is are = is

said-words : (lines : Lines) (near : Nears) → HasNear lines near → (unit : ℕ) (margins : Margins) (count : ℕ)
    → AreWords (said_of unit margins count near)
said-words lines near has unit margins count =
    let other = is_clear unit margins.other margins.ends count (word_in near) in
    if-words (is_some near.code.word && is_close unit near
    && is_clear unit margins.code margins.ends count (code_in near)) near.code.word
    (if other then near.word.word else None)
    (place-words lines.system near.code.word near.code.start
    (code-place (codes_of lines.system lines.number) lines.system near.code.word near.code.start has.code.place))
    (if-words other near.word.word None (place-words lines.system near.word.word near.word.start has.nearest.place)
    none-words)

-- nearest words that there may not be say words, by whatever margins
abbrev pub SaysWords : ℕ → Option Nears → Type 0
SaysWords unit near = (margins : Margins) (count : ℕ) → AreWords (recovered_by unit margins count near)

unless-words : (said : Option ℕ) → AreWords said → AreWords (unless_beyond said)
unless-words None are = are
unless-words (Some word) are = if-words (is_beyond_79999 word) None (Some word) none-words are

says-words : (lines : Lines) (can : Bool) (near : Option Nears) (unit : ℕ) → HasNearIf lines can near
    → SaysWords unit near
says-words lines can None unit none margins count = none-words
says-words lines can (Some near) unit (can_be, has) margins count =
    unless-words (said_of unit margins count near) (said-words lines near has unit margins count)

in-words : (margins : MarginSet) (stand : Agreement) (unit : ℕ) (near both : Option Nears) → SaysWords unit near
    → SaysWords unit both → AreWords (said_in margins stand unit near both)
in-words margins Alone unit near both is are = is margins.lone 1
in-words margins Apart unit near both is are = is margins.apart 1
in-words margins Together unit near both is are = are margins.both 2

-- what an open line says by its nearest words and those of two lines
pub record SayWords (unit : ℕ) (near : Candidates) : Type 0 where
  pub levelled : SaysWords levelled_unit near.levelled
  pub given : SaysWords unit (Some near.given)

pub of_line : (line : Line) (near : Candidates) → AreOf line near → SayWords (unit_of line.slicing) near
of_line line near are = record {
  levelled = says-words _ _ near.levelled levelled_unit are.levelled;
  given = says-words (given_line line) true (Some near.given) (unit_of line.slicing) (refl, are.given);
}

pub of_both : (line : Line) (other : Row) (near : Candidates) → AreOfBoth line other near
    → SayWords (unit_of line.slicing) near
of_both line other near are = record {
  levelled = says-words _ _ near.levelled levelled_unit are.levelled;
  given = says-words (given_pair line other) true (Some near.given) (unit_of line.slicing) (refl, are.given);
}

pub alone_words : (unit : ℕ) (near both : Candidates) → SayWords unit near → AreWords (said_by alone unit near both)
alone_words unit near both is =
    first-words (recovered_by levelled_unit levelled_margins.lone 1 near.levelled)
    (recovered_by unit given_margins.lone 1 (Some near.given)) (is.levelled levelled_margins.lone 1)
    (is.given given_margins.lone 1)

pub by_words : (stands : Stands) (unit : ℕ) (near both : Candidates) → SayWords unit near → SayWords unit both
    → AreWords (said_by stands unit near both)
by_words stands unit near both is are =
    first-words (said_in levelled_margins stands.levelled levelled_unit near.levelled both.levelled)
    (said_in given_margins stands.given unit (Some near.given) (Some both.given))
    (in-words levelled_margins stands.levelled levelled_unit near.levelled both.levelled is.levelled are.levelled)
    (in-words given_margins stands.given unit (Some near.given) (Some both.given) is.given are.given)

-- ---- what a line shows

pub either : {A : Type 0} (P : A → Type 0) (b : Bool) (x y : A) → (b ≡ true → P x) → (b ≡ false → P y)
    → P (if b then x else y)
either P true x y is are = is refl
either P false x y is are = are refl

reading_stays-pass : (o : Outcome) (pass : ℕ) (confirms : ℕ → Bool) → reading_stays o pass confirms ≡ false → pass ≡ 2
reading_stays-pass (Word word) pass confirms e = grind arith
reading_stays-pass Blank pass confirms e = cc
reading_stays-pass Unfinished pass confirms e = cc
reading_stays-pass (Change c) pass confirms e = cc
reading_stays-pass (Hold c) pass confirms e = cc

abbrev IsLineShown : Recovered → Type 0
IsLineShown line = IsShown (reading_as line)

own-shown : (line : Line) (seen : Seen) (unit : ℕ) → length (row_levels line.slicing line.row.bytes) < 2 ^ 64
    → IsSeen line seen → IsLineShown (own_of unit seen)
own-shown line seen unit short is =
    let levels = row_levels line.slicing line.row.bytes in
    let o = seen.reading.outcome in
    let confirms : ℕ → Bool = is_confirmed unit seen.near seen.stretched in
    either IsLineShown (reading_stays o seen.reading.pass confirms)
    (record { outcome = o; pass = seen.reading.pass }) (record { outcome = seen.plain; pass = 0 })
    (λ same. subst IsShown (sym is.reading) (reading_shown line.system levels short))
    (λ falls. subst (λ (plain : Outcome). IsShown (record { outcome = plain; pass = 0 }))
    (sym (is.plain (reading_stays-pass o seen.reading.pass confirms falls)))
    (outcome_shown line.system levels short _ 0 (is_outcome line.system levels) (lit< tt)))

as-shown : (own : Recovered) (said : Option ℕ) → IsLineShown own → AreWords said
    → IsLineShown (recovered_as own said)
as-shown own None shown words = shown
as-shown own (Some word) shown words = word_shown word 3 (words word refl) (lit< tt)

-- however it stands to another
pub line_shown : (line : Line) (seen : Seen) (stands : Stands) (both : Candidates)
    → length (row_levels line.slicing line.row.bytes) < 2 ^ 64 → IsSeen line seen
    → (SayWords (unit_of line.slicing) seen.near → AreWords (said_by stands (unit_of line.slicing) seen.near both))
    → IsLineShown (shown_in stands (unit_of line.slicing) seen both)
line_shown line seen stands both short is words =
    let unit = unit_of line.slicing in
    let own : Recovered = own_of unit seen in
    let shown = own-shown line seen unit short is in
    either IsLineShown (is_open own.outcome) (recovered_as own (said_by stands unit seen.near both)) own
    (λ opened. as-shown own (said_by stands unit seen.near both) shown (words (of_line line seen.near
    (is.near (open_asked line seen unit is opened)))))
    (λ closed. shown)
