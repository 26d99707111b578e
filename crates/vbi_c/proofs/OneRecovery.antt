-- Where no column is erased, a field shows one thing with the nearest words of worn lines: what a search sees of it.
use Rattle.std.proofs.Common.{◌≡◌, ◌∙◌, ℕ, ◌<◌, List, [], ◌∷◌, length, map, get_or, ap, sym, subst, refl, arith}
use Rattle.std.proofs.lemmas.List.{length-map, get_or-map, get_or_default}
use Rattle.std.proofs.lemmas.List.FromFn.{fill_by_all}
use Rattle.std.proofs.lemmas.Option.{slice_get_read}
use Rattle.std.specs.Prelude.{◌↔◌}
use Rattle.vbi_c.specs.Types.{Outcome, Word, Blank, Unfinished, Change, Hold, Recovered, LdvbiFieldReadings, Setup}
use Rattle.vbi_c.specs.Types.{Shown}
use Rattle.vbi_near.specs.Distances.{unit_of}
use Rattle.vbi_near.specs.Recovery.{alone, shown_in, stands_of}
use Rattle.vbi_side.specs.Chapters.{chapters_of}
use Rattle.vbi_c.specs.Erased.{none_erased}
use Rattle.vbi_c.specs.FieldCodes.{chapters_in, IsStopOf}
use Rattle.vbi_c.specs.Judging.{seen_in, shown_by, lines_of}
use Rattle.vbi_c.specs.Recovering.{AreRecovered, AreAllRecovered, code_bytes, recovered_for_c, recovered_reading}
use Rattle.vbi_c.specs.Recovering.{reading_at}
use Rattle.vbi_side.specs.Misread.{Lines, numbers_in}
use Rattle.vbi_side.specs.Stops.{IsJudgedStop}
use Rattle.vbi_seek.specs.ChapterSearch.{chapters_at}
use Rattle.vbi_seek.specs.FieldLines.{Side, field_in, lines_by, recovered_at, recovery_of, shown_as}
use Rattle.vbi_seek.specs.StopSearch.{HasStop}
use Rattle.vbi_seek.proofs.OneRecovery.{is_recovered, only_recovered}
use Rattle.vbi_seek.specs.NumberSearch.{Numbers, shown_at, shown_of}

-- what is recovered of a field is this
pub only_recovery : (setup : Setup) (field : List ℕ) (readings : LdvbiFieldReadings)
    → AreRecovered setup (code_bytes setup.system field) (none_erased setup.system) readings
    → readings ≡ recovered_reading setup field
only_recovery setup field readings (lines, is, e) =
    e ∙ ap (λ (l : List Recovered). record { lines = map recovered_for_c l })
    (only_recovered setup (code_bytes setup.system field) lines is)

-- and it is recovered
pub one_recovery : (setup : Setup) (field : List ℕ) (readings : LdvbiFieldReadings)
    → AreRecovered setup (code_bytes setup.system field) (none_erased setup.system) readings
    ↔ (readings ≡ recovered_reading setup field)
one_recovery setup field readings =
    let rows = code_bytes setup.system field in
    (only_recovery setup field readings, λ e. (recovery_of setup rows, is_recovered setup rows, e))

-- ---- what a search sees

line_same : (outcome : Outcome) (pass : ℕ)
    → shown_by (recovered_for_c (record { outcome = outcome; pass = pass }))
    ≡ shown_as (record { outcome = outcome; pass = pass })
line_same (Word word) pass = refl
line_same Blank pass = refl
line_same Unfinished pass = refl
line_same (Change column) pass = refl
line_same (Hold column) pass = refl

three : (a b c d e f : Shown) → a ≡ d → b ≡ e → c ≡ f
    → (let lines : Lines = record { line_16 = a; line_17 = b; line_18 = c } in lines)
    ≡ record { line_16 = d; line_17 = e; line_18 = f }
three a b c d e f one two last = cc

-- the readings of recovered lines show what the lines do
lines_same : (lines : List Recovered) → lines_of (map recovered_for_c lines) ≡ lines_by lines
lines_same [] = refl
lines_same (a ∷ []) = refl
lines_same (a ∷ b ∷ []) = refl
lines_same (a ∷ b ∷ c ∷ []) =
    three (shown_by (recovered_for_c a)) (shown_by (recovered_for_c b)) (shown_by (recovered_for_c c)) (shown_as a)
    (shown_as b) (shown_as c) (line_same a.outcome a.pass) (line_same b.outcome b.pass) (line_same c.outcome c.pass)
lines_same (a ∷ b ∷ c ∷ d ∷ more) = refl

pub number_same : (numbers : Numbers) (i : ℕ) → seen_in numbers.judging (reading_at numbers.side i)
    ≡ shown_at numbers i
number_same numbers i = ap (λ (lines : Lines). numbers_in numbers.judging.system numbers.judging.counted lines)
    (lines_same (recovered_at numbers.side i))

pub chapters_same : (side : Side) (i : ℕ) → chapters_in (reading_at side i) ≡ chapters_at side i
chapters_same side i =
    ap (λ (lines : Lines). chapters_of lines.line_17 lines.line_18) (lines_same (recovered_at side i))

StopsAlike : List Recovered → Type 0
StopsAlike lines = IsStopOf (map recovered_for_c lines) 1
    ↔ (let shown = lines_by lines in IsJudgedStop shown.line_16 shown.line_17 1)

stops_alike : (a b c : Recovered) → StopsAlike (a ∷ b ∷ c ∷ [])
unfolding StopsAlike
stops_alike a b c =
    let first = line_same a.outcome a.pass in
    let second = line_same b.outcome b.pass in (
      λ stop. subst (λ s. IsJudgedStop s (shown_as b) 1) first
          (subst (λ s. IsJudgedStop (shown_by (recovered_for_c a)) s 1) second stop),
      λ stop. subst (λ s. IsJudgedStop s (shown_by (recovered_for_c b)) 1) (sym first)
          (subst (λ s. IsJudgedStop (shown_as a) s 1) (sym second) stop),
    )

pub stop_same : (side : Side) (i : ℕ) → IsStopOf (reading_at side i).lines 1 ↔ HasStop side i
unfolding StopsAlike
stop_same side i =
    let (first, second, last, both, seen, is) = is_recovered side.setup
    (code_bytes side.setup.system (field_in side.setup.system side.bytes i)) in
    let unit = unit_of side.setup.levels in
    let stands = stands_of unit second last both in
    subst StopsAlike (sym is)
    (stops_alike (shown_in alone unit first both) (shown_in stands unit second both) (shown_in stands unit last both))

-- what is recovered of all fields of a side shows what a search sees
pub all_recovered : (numbers : Numbers) (all : List LdvbiFieldReadings) → AreAllRecovered numbers.side.setup
    numbers.side.bytes (λ field. none_erased numbers.side.setup.system) numbers.side.count all
    → length all ≡ numbers.side.count → map (seen_in numbers.judging) all ≡ shown_of numbers
all_recovered numbers all each long =
    let nothing : LdvbiFieldReadings = record { lines = [] } in
    let see = seen_in numbers.judging in
    let count = numbers.side.count in
    fill_by_all (shown_at numbers) (map see all) count (see nothing) (length-map all see ∙ long) (λ k inside.
    let here = get_or all k nothing in
    let within : k < length all = omega (arith, long, inside) in
    let there = slice_get_read all count k here (sym long) inside (get_or_default all k nothing here within) in
    get_or-map see all k nothing (see nothing) within
    ∙ ap see (only_recovery numbers.side.setup (field_in numbers.side.setup.system numbers.side.bytes k) here
    (each k here inside there))
    ∙ number_same numbers k)
