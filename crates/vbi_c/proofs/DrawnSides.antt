-- What a search sees of a drawn side.
use Rattle.std.proofs.Common.{◌≡◌, ℕ, ◌+◌, ◌*◌, ◌-◌, ◌<◌, ◌≤◌, List, [], ◌∷◌, take, drop}
use Rattle.std.proofs.Common.{refl, arith, ap, sym, ◌∙◌, subst}
use Rattle.std.specs.Prelude.{Option, Some, None, slice_get}
use Rattle.std.proofs.lemmas.List.{drop-take, take-take, drop-drop}
use Rattle.vbi_c.specs.Types.{System, Ntsc, Pal, Recovered, WordRow}
use Rattle.vbi_words.specs.Drawn.{drawn_reading}
use Rattle.vbi_words.specs.Geometry.{line_at}
use Rattle.vbi_words.specs.Levels.{Slicing, row_levels}
use Rattle.vbi_words.specs.Readings.{IsReading}
use Rattle.vbi_line.specs.OneReading.{reading_of}
use Rattle.vbi_line.proofs.OneReading.{only_reading}
use Rattle.vbi_near.specs.Distances.{unit_of}
use Rattle.vbi_near.specs.Recovery.{alone, stands_of, shown_in, row_reading, IsSureBy}
use Rattle.vbi_near.proofs.Kept.{sure-shown}
use Rattle.vbi_field.specs.ConfigView.{ConfigView}
use Rattle.vbi_field.specs.Draws.{draw_out, AreDrawable}
use Rattle.vbi_field.proofs.DrawnReads.{drawn_field}
use Rattle.vbi_side.specs.Misread.{numbers_in}
use Rattle.vbi_seek.specs.FieldLines.{Side, code_bytes, field_in, lines_by, recovered_at}
use Rattle.vbi_seek.specs.NumberSearch.{Numbers, shown_at}
use Rattle.vbi_seek.proofs.OneRecovery.{is_recovered}

-- ---- bytes

piece : (l a n : ℕ) (bytes : List ℕ) → a + l ≤ n → take l (drop a (take n bytes)) ≡ take l (drop a bytes)
piece l a n bytes le =
    let whole : a + (n - a) ≡ n = omega (arith, le) in
    ap (λ (k : ℕ). take l (drop a (take k bytes))) (sym whole) ∙ ap (take l) (drop-take a (n - a) bytes)
    ∙ take-take l (n - a) (drop a bytes) (omega (arith, le))

-- a line of a field's three, by where they stand
of_three : (l f i at k : ℕ) (bytes : List ℕ) → k + l ≤ 3 * l → 15 * l + 3 * l ≤ f → at ≡ f * i + (15 * l + k)
    → take l (drop k (take (3 * l) (drop (15 * l) (take f (drop (f * i) bytes))))) ≡ take l (drop at bytes)
of_three l f i at k bytes three inside place =
    piece l k (3 * l) (drop (15 * l) (take f (drop (f * i) bytes))) three
    ∙ ap (take l) (drop-drop k (15 * l) (take f (drop (f * i) bytes)))
    ∙ piece l (15 * l + k) f (drop (f * i) bytes) (omega (arith, three, inside))
    ∙ ap (take l) (drop-drop (15 * l + k) (f * i) bytes) ∙ ap (λ (n : ℕ). take l (drop n bytes)) (sym place)

line_of : (system : System) (bytes : List ℕ) (i k : ℕ) → k < 3
    → line_at system (code_bytes system (field_in system bytes i)) 0 k ≡ line_at system bytes i (15 + k)
line_of Ntsc bytes i k few = of_three 1820 478660 i (i * 478660 + 1820 * (15 + k)) (0 * 478660 + 1820 * k) bytes
    (omega (arith, few)) (omega arith) (omega arith)
line_of Pal bytes i k few = of_three 2270 710510 i (i * 710510 + 2270 * (15 + k)) (0 * 710510 + 2270 * k) bytes
    (omega (arith, few)) (omega arith) (omega arith)

-- ---- one line

-- a drawn line is recovered as it is read
abbrev pub drawn_as : Option ℕ → Recovered
drawn_as word = record { outcome = (drawn_reading word).outcome; pass = (drawn_reading word).pass }

sure : (word : Option ℕ) → IsSureBy (drawn_reading word).outcome (drawn_reading word).pass
sure None = tt
sure (Some word) = refl

line_read : (system : System) (levels : Slicing) (bytes : List ℕ) (i k : ℕ) (word : Option ℕ) → k < 3
    → IsReading system (row_levels levels (line_at system bytes i (15 + k))) (drawn_reading word)
    → row_reading system levels (code_bytes system (field_in system bytes i)) k ≡ drawn_reading word
line_read system levels bytes i k word few is =
    ap (λ (line : List ℕ). reading_of system (row_levels levels line)) (line_of system bytes i k few)
    ∙ sym (only_reading system (row_levels levels (line_at system bytes i (15 + k))) (drawn_reading word) is)

-- ---- a field

three : (a b c d e f : Recovered) → a ≡ d → b ≡ e → c ≡ f → a ∷ b ∷ c ∷ [] ≡ d ∷ e ∷ f ∷ []
three a b c d e f one two last = cc

recovered : (side : Side) (rows : List WordRow) (i : ℕ) (words : WordRow)
    → side.setup.levels.black < side.setup.levels.white
    → side.bytes ≡ draw_out (record { system = side.setup.system; levels = side.setup.levels; max_fields = 5 }) rows
    → slice_get rows i ≡ Some words → AreDrawable words → recovered_at side i
    ≡ drawn_as words.first ∷ drawn_as words.second ∷ drawn_as words.third ∷ []
recovered side rows i words order drawn at are =
    let system = side.setup.system in
    let levels = side.setup.levels in
    let bytes = side.bytes in
    let c : ConfigView = record { system = system; levels = levels; max_fields = 5 } in
    let read = drawn_field c rows i words order at are in
    let code = code_bytes system (field_in system bytes i) in
    let (first, second, last, both, seen, is) = is_recovered side.setup code in
    let unit = unit_of levels in
    let first_is = line_read system levels bytes i 0 words.first (omega arith)
    (subst (λ (z : List ℕ). IsReading system (row_levels levels (line_at system z i 15)) (drawn_reading words.first))
    (sym drawn) read.first) in
    let second_is = line_read system levels bytes i 1 words.second (omega arith)
    (subst (λ (z : List ℕ). IsReading system (row_levels levels (line_at system z i 16)) (drawn_reading words.second))
    (sym drawn) read.second) in
    let third_is = line_read system levels bytes i 2 words.third (omega arith)
    (subst (λ (z : List ℕ). IsReading system (row_levels levels (line_at system z i 17)) (drawn_reading words.third))
    (sym drawn) read.third) in
    is ∙ three (shown_in alone unit first both) (shown_in (stands_of unit second last both) unit second both)
    (shown_in (stands_of unit second last both) unit last both) (drawn_as words.first) (drawn_as words.second)
    (drawn_as words.third)
    (sure-shown alone unit first both (drawn_reading words.first) (seen.line_16.reading ∙ first_is) (sure words.first))
    (sure-shown (stands_of unit second last both) unit second both (drawn_reading words.second)
    (seen.line_17.reading ∙ second_is) (sure words.second))
    (sure-shown (stands_of unit second last both) unit last both (drawn_reading words.third)
    (seen.line_18.reading ∙ third_is) (sure words.third))

-- what a search sees of it
pub drawn_shown : (numbers : Numbers) (rows : List WordRow) (i : ℕ) (words : WordRow)
    → numbers.side.setup.levels.black < numbers.side.setup.levels.white
    → numbers.side.bytes ≡ draw_out (record {
      system = numbers.side.setup.system;
      levels = numbers.side.setup.levels;
      max_fields = 5;
    }) rows
    → slice_get rows i ≡ Some words → AreDrawable words
    → shown_at numbers i ≡ numbers_in numbers.judging.system numbers.judging.counted
    (lines_by (drawn_as words.first ∷ drawn_as words.second ∷ drawn_as words.third ∷ []))
drawn_shown numbers rows i words order drawn at are =
    ap (λ (lines : List Recovered). numbers_in numbers.judging.system numbers.judging.counted
    (lines_by lines)) (recovered numbers.side rows i words order drawn at are)
