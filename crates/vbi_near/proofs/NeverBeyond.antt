-- No word that is recovered is a picture number of 80,000 or more.
-- never_beyond_79999 stands on it.
use Rattle.std.proofs.Common.{◌≡◌, ℕ, zero, suc, ◌≤◌, inl, inr, Bool, true, false, List, [], ◌∷◌, refl, sym, ap, ◌∙◌}
use Rattle.std.specs.Prelude.{if◌then◌else◌}
use Rattle.std.proofs.Common.{subst, arith}
use Rattle.std.specs.{Prelude.Option, Prelude.Some, Prelude.None, List.All}
use Rattle.std.proofs.lemmas.Bool.{true≢false}
use Rattle.std.specs.Option.{option_or}
use Rattle.vbi_near.proofs.Common.{System, Outcome, Word, Blank, Unfinished, Change, Hold, Reading, IsBetween, Slicing}
use Rattle.vbi_near.proofs.Common.{row_levels, Nears, is_beyond_79999, unit_of}
use Rattle.vbi_near.proofs.Digits.{digits-beyond}
use Rattle.vbi_words.specs.{Outcomes.word_of, Readings.Reads}
use Rattle.vbi_line.proofs.OneReading.{is_reading}
use Rattle.vbi_near.specs.declared.word_rule.Agreement.TheVariants.{Alone, Apart, Together}
use Rattle.vbi_near.specs.WordRule.{said_if, unless_beyond, recovered_by, said_in}
use Rattle.vbi_near.specs.Candidates.{Candidates, Line}
use Rattle.vbi_near.specs.Recovery.{Seen, IsSeen, Stands, alone, own_of, is_open, is_confirmed, stands_of, said_by}
use Rattle.vbi_near.specs.Recovery.{reading_stays, recovered_as, shown_in, IsRecovered}
use Rattle.vbi_near.specs.{declared.recovery.Recovered.Recovered, declared.margins.Margins.Margins}
use Rattle.vbi_near.specs.{declared.margins.MarginSet.MarginSet, declared.word_rule.Agreement.Agreement}

-- ---- what is said

-- what is said is none of them
abbrev IsWithin : Option ℕ → Type 0
IsWithin said = (word : ℕ) → said ≡ Some word → is_beyond_79999 word ≡ false

-- a word that is left if it is none of them is none
left-within : (b : Bool) (w word : ℕ) → is_beyond_79999 w ≡ b
    → (if b then None else Some w) ≡ Some word → is_beyond_79999 word ≡ false
left-within true w word is e = cc
left-within false w word is e = grind arith

unless-within : (said : Option ℕ) → IsWithin (unless_beyond said)
unless-within None word e = cc
unless-within (Some w) word e = left-within (is_beyond_79999 w) w word refl e

-- what is recovered is none of them
recovered-within : (unit : ℕ) (margins : Margins) (lines : ℕ) (near : Option Nears)
    → IsWithin (recovered_by unit margins lines near)
recovered-within unit margins lines near = unless-within (said_if unit margins lines near)

-- what one of two says is none of them if both say none
first-within : (a b : Option ℕ) → IsWithin a → IsWithin b → IsWithin (option_or a b)
first-within None b is are = are
first-within (Some w) b is are = is

-- what an open line says
in-within : (margins : MarginSet) (stand : Agreement) (unit : ℕ) (near both : Option Nears)
    → IsWithin (said_in margins stand unit near both)
in-within margins Alone unit near both = recovered-within unit margins.lone 1 near
in-within margins Apart unit near both = recovered-within unit margins.apart 1 near
in-within margins Together unit near both = recovered-within unit margins.both 2 both

by-within : (stands : Stands) (unit : ℕ) (near both : Candidates) → IsWithin (said_by stands unit near both)
by-within stands unit near both = grind (arith, first-within, in-within)

-- ---- what a line shows

-- a reading is of pass 2 at most
read-few : (system : System) (levels : List Bool) (o : Outcome) (pass : ℕ) → Reads system levels o pass → pass ≤ 2
read-few system levels (Word w) pass (inl (e, shows)) = omega (arith, e)
read-few system levels (Word w) pass (inr (e, none, some, shows)) = omega (arith, e)
read-few system levels Blank pass (e, is, none) = omega (arith, e)
read-few system levels Unfinished pass (e, is, none) = omega (arith, e)
read-few system levels (Change c) pass (e, is, none) = omega (arith, e)
read-few system levels (Hold c) pass (e, is, none) = omega (arith, e)

-- the one or the other of two lines is of pass 2 at most if both are
either-few : (b : Bool) (x y : Recovered) → x.pass ≤ 2 → y.pass ≤ 2 → (if b then x else y).pass ≤ 2
either-few true x y few less = few
either-few false x y few less = less

-- what a line shows by its own levels is of pass 2 at most
pub own-few : (line : Line) (seen : Seen) (unit : ℕ) → IsSeen line seen → (own_of unit seen).pass ≤ 2
own-few line seen unit is =
    let levels = row_levels line.slicing line.row.bytes in
    let few : seen.reading.pass ≤ 2 =
    subst (λ (r : Reading). r.pass ≤ 2) (sym is.reading)
    (read-few line.system levels _ _ (is_reading line.system levels)) in
    either-few (reading_stays seen.reading.outcome seen.reading.pass (is_confirmed unit seen.near seen.stretched))
    (record { outcome = seen.reading.outcome; pass = seen.reading.pass })
    (record { outcome = seen.plain; pass = 0 }) few (omega arith)

-- a line shows none of them in pass 3
abbrev ShowsWithin : Recovered → Type 0
ShowsWithin line =
    (word : ℕ) → line ≡ record { outcome = Word word; pass = 3 } → IsBetween 0xF80000 0xFF9999 word → ⊥

-- a line of pass 2 at most shows none of them in pass 3
few-within : (line : Recovered) → line.pass ≤ 2 → ShowsWithin line
few-within line few word e x = let three = ap (λ (r : Recovered). r.pass) e in omega (arith, few, three)

-- a line that shows what is said shows none of them in pass 3
said-within : (own : Recovered) (said : Option ℕ) → own.pass ≤ 2 → IsWithin said → ShowsWithin (recovered_as own said)
said-within own None few within word e x = few-within own few word e x
said-within own (Some w) few within word e x =
    true≢false (sym (digits-beyond word x) ∙ within word (ap (λ (r : Recovered). word_of r.outcome) e))

shown-within : (b : Bool) (own : Recovered) (said : Option ℕ) → own.pass ≤ 2 → IsWithin said
    → ShowsWithin (if b then recovered_as own said else own)
shown-within true own said few within = said-within own said few within
shown-within false own said few within = few-within own few

-- what a line shows, however it stands to another
line-within : (line : Line) (stands : Stands) (unit : ℕ) (seen : Seen) (both : Candidates) → IsSeen line seen
    → ShowsWithin (shown_in stands unit seen both)
line-within line stands unit seen both is =
    shown-within (is_open (own_of unit seen).outcome) (own_of unit seen) (said_by stands unit seen.near both)
    (own-few line seen unit is) (by-within stands unit seen.near both)

-- ---- a field

-- what holds of three lines holds of each
all-three : (P : Recovered → Type 0) (a b c : Recovered) → P a → P b → P c → All P (a ∷ b ∷ c ∷ [])
all-three P a b c x y z zero d less = x
all-three P a b c x y z (suc zero) d less = y
all-three P a b c x y z (suc (suc zero)) d less = z
all-three P a b c x y z (suc (suc (suc k))) d less = absurd (omega arith)

-- no line of a field shows one in pass 3
pub field-within : (system : System) (slicing : Slicing) (rows : List ℕ) (erased : List Bool)
    (recovered : List Recovered) → IsRecovered system slicing rows erased recovered → All ShowsWithin recovered
field-within system slicing rows erased recovered (first, second, third, both, seen, e) =
    let unit = unit_of slicing in
    let stands = stands_of unit second third both in
    subst (All ShowsWithin) (sym e)
    (all-three ShowsWithin (shown_in alone unit first both) (shown_in stands unit second both)
    (shown_in stands unit third both)
    (line-within _ alone unit first both seen.line_16) (line-within _ stands unit second both seen.line_17)
    (line-within _ stands unit third both seen.line_18))

-- ---- lines of one word

-- lines that are asked levelled, then as they are, say none of them
pub two-within : (unit of : ℕ) (margins : Margins) (lines : ℕ) (levelled given : Option Nears) (word : ℕ)
    → Some word ≡ option_or (recovered_by unit margins lines levelled) (recovered_by of margins lines given)
    → IsBetween 0xF80000 0xFF9999 word → ⊥
two-within unit of margins lines levelled given word e x =
    let within = first-within (recovered_by unit margins lines levelled) (recovered_by of margins lines given)
    (recovered-within unit margins lines levelled) (recovered-within of margins lines given) in
    true≢false (sym (digits-beyond word x) ∙ within word (sym e))
