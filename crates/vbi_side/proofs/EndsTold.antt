-- When lead-out and lead-in are believed, and what was misread then if the disc has none.
use Rattle.std.proofs.Common.{◌≡◌, ℕ, ◌+◌, ◌≤◌, true, refl, arith, inl, inr}
use Rattle.std.specs.Prelude.{Option, Some, ◌⊎◌, option_map}
use Rattle.std.proofs.lemmas.Bool.Decides.{eqb_tells}
use Rattle.vbi_side.specs.Types.{Code, LeadIn, LeadOut, Shown}
use Rattle.vbi_words.specs.Codes.{code_of}
use Rattle.vbi_side.specs.Ends.{weight_as_out, weight_as_in, out_weight, in_weight}
use Rattle.vbi_side.specs.Lines.{code_in, pass_weight}
use Rattle.vbi_side.specs.Misread.{is_misread, line_weight}
use Rattle.vbi_side.specs.SoundEnds.{ShowsCode, IsCodeToldSurely, IsSoundCode}

-- ---- one line

-- a word weighs 2, or 1
one_or_two : (pass : ℕ) → (pass_weight pass ≡ 1) ⊎ (pass_weight pass ≡ 2)
one_or_two pass = grind arith

-- a line weighs what its word does, if it shows the code, else nothing
abbrev pub Weighs : Code → Shown → ℕ → Type 0
Weighs code line weight =
    (ShowsCode code line × (weight ≡ pass_weight line.pass)) ⊎ ((ShowsCode code line → ⊥) × (weight ≡ 0))

as_out : (code : Option Code) (weight : ℕ) → ((code ≡ Some LeadOut) × (weight_as_out code weight ≡ weight))
    ⊎ ((code ≡ Some LeadOut → ⊥) × (weight_as_out code weight ≡ 0))
as_out (Some LeadOut) weight = inl (refl, refl)
as_out other weight = inr (λ e. cc, refl)

as_in : (code : Option Code) (weight : ℕ) → ((code ≡ Some LeadIn) × (weight_as_in code weight ≡ weight))
    ⊎ ((code ≡ Some LeadIn → ⊥) × (weight_as_in code weight ≡ 0))
as_in (Some LeadIn) weight = inl (refl, refl)
as_in other weight = inr (λ e. cc, refl)

pub out_weighs : (line : Shown) → Weighs LeadOut line (out_weight line)
out_weighs line = as_out (code_in line) (pass_weight line.pass)

pub in_weighs : (line : Shown) → Weighs LeadIn line (in_weight line)
in_weighs line = as_in (code_in line) (pass_weight line.pass)

-- ---- both lines

pub two_told : (code : Code) (line_17 line_18 : Shown) (first second : ℕ) → Weighs code line_17 first
    → Weighs code line_18 second → 2 ≤ first + second → IsCodeToldSurely code line_17 line_18
two_told code line_17 line_18 first second h1 h2 h3 = grind (arith, one_or_two)

one_weighs : (code : Code) (line : Shown) (weight : ℕ) → Weighs code line weight → ShowsCode code line
    → weight ≡ pass_weight line.pass
one_weighs code line weight (inl (shown, e)) also = e
one_weighs code line weight (inr (none, e)) shown = absurd (none shown)

pub told_two : (code : Code) (line_17 line_18 : Shown) (first second : ℕ) → Weighs code line_17 first
    → Weighs code line_18 second → IsCodeToldSurely code line_17 line_18 → 2 ≤ first + second
told_two code line_17 line_18 first second h1 h2 h3 = grind (arith, one_or_two, one_weighs)

-- ---- what was misread

misread : (code : Code) (read word : Option ℕ) → option_map code_of read ≡ Some code
    → (option_map code_of word ≡ Some code → ⊥) → is_misread read word ≡ true
misread code read word h1 h2 = grind (arith, eqb_tells)

misread_weighs : (code : Code) (line : Shown) (word : Option ℕ) → ShowsCode code line
    → (option_map code_of word ≡ Some code → ⊥) → line_weight line word ≡ pass_weight line.pass
misread_weighs code line word shown never = let e = misread code line.word word shown never in rw e refl

pub told_sound : (code : Code) (line_17 line_18 : Shown) → IsCodeToldSurely code line_17 line_18
    → IsSoundCode code line_17 line_18
told_sound code line_17 line_18 h1 = grind (arith, misread_weighs, one_or_two)
