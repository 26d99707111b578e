-- C is answered no picture number of 80,000 or more that is recovered.
-- never_beyond_79999 stands on it.
use Rattle.std.proofs.Common.{◌≡◌, ℕ, Bool, List, refl, sym, ap, subst, arith, lit≤}
use Rattle.std.specs.Prelude.{Option, Some, None, unwrap_or, slice_index_or}
use Rattle.std.specs.List.{All}
use Rattle.std.proofs.lemmas.List.Elements.{All-map}
use Rattle.vbi_c.specs.Types.{Outcome, Word, Blank, Unfinished, Change, Hold, Recovered, LdvbiFieldReadings}
use Rattle.vbi_c.specs.Types.{LdvbiReading, Setup}
use Rattle.vbi_words.specs.Codes.{IsBetween}
use Rattle.vbi_near.proofs.NeverBeyond.{field-within}
use Rattle.vbi_c.specs.Readings.{outcome_for_c}
use Rattle.vbi_c.specs.Recovering.{recovered_for_c, AreRecovered}

-- the word 0, of a line that shows none, is no such number
zero-within : IsBetween 0xF80000 0xFF9999 0 → ⊥
zero-within x = omega (arith, (x 1 (lit≤ tt) (lit≤ tt)).0)

-- a line that shows this
abbrev shown : Outcome → ℕ → Recovered
shown o pass = record { outcome = o; pass = pass }

-- a line that shows none of them in pass 3 is answered with none
line-within : (o : Outcome) (pass : ℕ)
    → ((word : ℕ) → shown o pass ≡ shown (Word word) 3 → IsBetween 0xF80000 0xFF9999 word → ⊥)
    → (outcome_for_c o pass).pass ≡ 3 → IsBetween 0xF80000 0xFF9999 (outcome_for_c o pass).word → ⊥
line-within (Word w) pass within three x =
    within w (ap (λ (p : ℕ). shown (Word w) p) three) x
line-within Blank pass within three x = zero-within x
line-within Unfinished pass within three x = zero-within x
line-within (Change c) pass within three x = zero-within x
line-within (Hold c) pass within three x = zero-within x

-- no line
pub lines-within : (setup : Setup) (rows : List ℕ) (marks : List Bool) (readings : LdvbiFieldReadings)
    → AreRecovered setup rows marks readings
    → All (λ line. line.pass ≡ 3 → IsBetween 0xF80000 0xFF9999 line.word → ⊥) readings.lines
lines-within setup rows marks readings (lines, is, e) =
    let P : LdvbiReading → Type 0 = λ line. line.pass ≡ 3 → IsBetween 0xF80000 0xFF9999 line.word → ⊥ in
    let each = field-within setup.system setup.levels rows marks lines is in
    subst (λ (r : LdvbiFieldReadings). All P r.lines) (sym e)
    (All-map P recovered_for_c lines
    (λ k d less.
    let here = slice_index_or lines k d in line-within here.outcome here.pass (each k d less)))

-- what lines say together, or 0
pub said-within : (said : Option ℕ) → ((word : ℕ) → said ≡ Some word → IsBetween 0xF80000 0xFF9999 word → ⊥)
    → IsBetween 0xF80000 0xFF9999 (unwrap_or said 0) → ⊥
said-within None within x = zero-within x
said-within (Some w) within x = within w refl x
