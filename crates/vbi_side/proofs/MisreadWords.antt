-- What was misread weighs in numbers no more than in words.
use Rattle.std.proofs.Common.{◌≡◌, ℕ, zero, suc, ◌+◌, ◌*◌, ◌-◌, ◌<◌, ◌≤◌, Bool, true, false, refl, arith, ap}
use Rattle.std.proofs.Common.{sym, ◌∙◌, subst, inl, inr, min}
use Rattle.std.specs.Prelude.{Option, Some, None, option_map, slice_get, ◌⊎◌, not, nat_le, if◌then◌else◌}
use Rattle.std.proofs.lemmas.Bool.Decides.{eqb_tells}
use Rattle.std.proofs.lemmas.Option.{slice_get-map}
use Rattle.vbi_side.specs.Types.{System, Code, Counted, Pictures, Times, Shown, Pace, Video}
use Rattle.vbi_words.specs.Codes.{code_of}
use Rattle.vbi_side.specs.Sightings.{Shows}
use Rattle.vbi_side.specs.Paces.{fits}
use Rattle.vbi_side.specs.Lines.{pass_weight, code_in, number_from, sighting_from, sighting_of}
use Rattle.vbi_side.specs.Beliefs.{reach, enough, field_most, sighting_weight, field_weight, weight_at}
use Rattle.vbi_side.specs.Beliefs.{weight_below, Believed}
use Rattle.vbi_side.specs.Truth.{IsNear, RunsOn, StandsStill, is_recorded, wrong_weight}
use Rattle.vbi_side.specs.Misread.{Capture, Lines, Words, numbers_in, sightings_in, is_misread, line_weight, misread_in}
use Rattle.vbi_side.specs.Misread.{misread_at, misread_below, misread_weight, number_of, AreTold, IsRead}
use Rattle.vbi_side.proofs.Recorded.{not_wrong}
use Rattle.vbi_side.proofs.Truth.{sound, on_the_disc, sound_still}

-- ---- one number

-- a word that wasn't misread is that on the disc, or none was read
not_misread : (read word : Option ℕ) → is_misread read word ≡ false → (read ≡ None) ⊎ (read ≡ word)
not_misread read word h1 = grind (arith, eqb_tells)

-- without a word there is no number
no_word : (system : System) (counted : Counted) (first : Option Code) (n : ℕ)
    → number_from system counted first None ≡ Some n → ⊥
no_word system counted first n h1 = grind arith

no_first : (system : System) (code : Option Code) (n : ℕ) → number_from system Times None code ≡ Some n → ⊥
no_first system code n h1 = grind arith

-- of pictures line 16 says nothing
pictures_alone : (system : System) (first other code : Option Code)
    → number_from system Pictures first code ≡ number_from system Pictures other code
pictures_alone system first other code = grind arith

-- the word was read that is on the disc, if a number was
word_is : (system : System) (counted : Counted) (first : Option Code) (line : Shown) (word : Option ℕ) (n : ℕ)
    → number_from system counted first (code_in line) ≡ Some n → is_misread line.word word ≡ false → line.word ≡ word
word_is system counted first line word n e right = grind (arith, no_word, not_misread)

first_is : (system : System) (line_16 : Shown) (code : Option Code) (word : Option ℕ) (n : ℕ)
    → number_from system Times (code_in line_16) code ≡ Some n → is_misread line_16.word word ≡ false
    → line_16.word ≡ word
first_is system line_16 code word n e right = grind (arith, no_first, not_misread)

-- a test that a number doesn't pass gives it no weight
weighs_none : (wrong : ℕ → Bool) (n weight : ℕ) → wrong n ≡ false
    → sighting_weight wrong (record { number = n; weight = weight }) ≡ 0
weighs_none wrong n weight e = rw e refl

weighs_less : (wrong : ℕ → Bool) (n weight : ℕ)
    → sighting_weight wrong (record { number = n; weight = weight }) ≤ weight
weighs_less wrong n weight = grind arith

-- of pictures, a number that isn't on the disc is a misread word
picture_misread : (system : System) (line_16 line : Shown) (first word : Option ℕ) (recorded : Option ℕ)
    → ((n : ℕ) → number_of system Pictures first word ≡ Some n → recorded ≡ Some n)
    → sighting_weight (λ n. not (is_recorded recorded n)) (sighting_of system Pictures line_16 line)
    ≤ line_weight line word
picture_misread system line_16 line first word recorded told =
    go (number_from system Pictures (code_in line_16) (code_in line)) refl (is_misread line.word word) refl
  where
    go : (o : Option ℕ) → number_from system Pictures (code_in line_16) (code_in line) ≡ o
        → (b : Bool) → is_misread line.word word ≡ b
        → sighting_weight (λ n. not (is_recorded recorded n)) (sighting_from o (pass_weight line.pass))
        ≤ (if b then pass_weight line.pass else 0)
    go None e b f = omega (arith, weighs_less (λ n. not (is_recorded recorded n)) 0 0)
    go (Some n) e true f = weighs_less (λ n. not (is_recorded recorded n)) n (pass_weight line.pass)
    go (Some n) e false f =
        let same = word_is system Pictures (code_in line_16) line word n e f in
        let there : number_of system Pictures first word ≡ Some n
        = pictures_alone system (option_map code_of first) (code_in line_16) (option_map code_of word)
        ∙ ap (λ (w : Option ℕ). number_from system Pictures (code_in line_16) (option_map code_of w)) (sym same) ∙ e in
        omega (
          arith,
          weighs_none (λ n. not (is_recorded recorded n)) n (pass_weight line.pass)
              (not_wrong recorded n (told n there)),
        )

-- of times, on this line or on line 16
time_misread : (system : System) (line_16 line : Shown) (first word : Option ℕ) (recorded : Option ℕ)
    → ((n : ℕ) → number_of system Times first word ≡ Some n → recorded ≡ Some n)
    → sighting_weight (λ n. not (is_recorded recorded n)) (sighting_of system Times line_16 line)
    ≤ line_weight line_16 first + line_weight line word
time_misread system line_16 line first word recorded told =
    go (number_from system Times (code_in line_16) (code_in line)) refl (is_misread line_16.word first) refl
    (is_misread line.word word) refl
  where
    go : (o : Option ℕ) → number_from system Times (code_in line_16) (code_in line) ≡ o
        → (a : Bool) → is_misread line_16.word first ≡ a → (b : Bool) → is_misread line.word word ≡ b
        → sighting_weight (λ n. not (is_recorded recorded n))
        (sighting_from o (min (pass_weight line_16.pass) (pass_weight line.pass)))
        ≤ (if a then pass_weight line_16.pass else 0) + (if b then pass_weight line.pass else 0)
    go None e a f b g = omega (arith, weighs_less (λ n. not (is_recorded recorded n)) 0 0)
    go (Some n) e true f b g = omega (
      arith,
      weighs_less (λ n. not (is_recorded recorded n)) n (min (pass_weight line_16.pass) (pass_weight line.pass)),
    )
    go (Some n) e false f true g = omega (
      arith,
      weighs_less (λ n. not (is_recorded recorded n)) n (min (pass_weight line_16.pass) (pass_weight line.pass)),
    )
    go (Some n) e false f false g =
        let same = word_is system Times (code_in line_16) line word n e g in
        let sames = first_is system line_16 (code_in line) first n e f in
        let there : number_of system Times first word ≡ Some n
        = ap (λ (w : Option ℕ). number_from system Times (option_map code_of w) (option_map code_of word)) (sym sames)
        ∙ ap (λ (w : Option ℕ). number_from system Times (code_in line_16) (option_map code_of w)) (sym same) ∙ e in
        omega (
          arith,
          weighs_none (λ n. not (is_recorded recorded n)) n
              (min (pass_weight line_16.pass) (pass_weight line.pass)) (not_wrong recorded n (told n there)),
        )

-- ---- one field, and all within reach

field_misread : (system : System) (counted : Counted) (lines : Option Lines) (words : Words) (recorded : Option ℕ)
    → ((n : ℕ) → (number_of system counted words.line_16 words.line_17 ≡ Some n)
    ⊎ (number_of system counted words.line_16 words.line_18 ≡ Some n) → recorded ≡ Some n)
    → field_weight (λ n. not (is_recorded recorded n)) (option_map (numbers_in system counted) lines)
    ≤ misread_in counted lines words
field_misread system counted None words recorded told = omega arith
field_misread system Pictures (Some lines) words recorded told = omega (
  arith,
  picture_misread system lines.line_16 lines.line_17 words.line_16 words.line_17 recorded (λ n e. told n (inl e)),
  picture_misread system lines.line_16 lines.line_18 words.line_16 words.line_18 recorded (λ n e. told n (inr e)),
)
field_misread system Times (Some lines) words recorded told = omega (
  arith,
  time_misread system lines.line_16 lines.line_17 words.line_16 words.line_17 recorded (λ n e. told n (inl e)),
  time_misread system lines.line_16 lines.line_18 words.line_16 words.line_18 recorded (λ n e. told n (inr e)),
)

at_misread : (capture : Capture) (i k : ℕ) → AreTold capture
    → weight_at (λ j n. not (is_recorded (capture.recorded j) n)) (sightings_in capture) i k
    ≤ misread_at capture.counted capture.lines capture.disc i k
at_misread capture i k told = go (nat_le reach (i + k))
  where
    open capture use {system, counted, lines, disc, recorded}

    wrong : ℕ → Bool
    wrong = λ n. not (is_recorded (recorded (i + k - reach)) n)

    field : field_weight wrong (slice_get (sightings_in capture) (i + k - reach))
        ≤ misread_in counted (slice_get lines (i + k - reach)) (disc (i + k - reach))
    field = subst
        (λ f. field_weight wrong f ≤ misread_in counted (slice_get lines (i + k - reach)) (disc (i + k - reach)))
        (sym (slice_get-map (numbers_in system counted) lines (i + k - reach)))
        (field_misread system counted (slice_get lines (i + k - reach)) (disc (i + k - reach))
        (recorded (i + k - reach))
        (told (i + k - reach)))

    go : (b : Bool) → (if b then field_weight wrong (slice_get (sightings_in capture) (i + k - reach)) else 0)
        ≤ (if b then misread_in counted (slice_get lines (i + k - reach)) (disc (i + k - reach)) else 0)
    go true = field
    go false = omega arith

below_misread : (capture : Capture) (i k : ℕ) → AreTold capture
    → weight_below (λ j n. not (is_recorded (capture.recorded j) n)) (sightings_in capture) i k
    ≤ misread_below capture.counted capture.lines capture.disc i k
unfolding weight_below misread_below
below_misread capture i zero told = omega arith
below_misread capture i (suc k) told =
    omega (arith, below_misread capture i k told, at_misread capture i k told)

pub wrong_misread : (capture : Capture) (i : ℕ) → AreTold capture
    → wrong_weight capture.recorded (sightings_in capture) i
    ≤ misread_weight capture.counted capture.lines capture.disc i
wrong_misread capture i = below_misread capture i (2 * reach + 1)

pub sound_read : (pace : Pace) (capture : Capture) (i m n : ℕ) → IsRead pace capture i m
    → Believed pace (sightings_in capture) i n → n ≡ m
sound_read pace capture i m n read b =
    sound pace capture.recorded (sightings_in capture) i m n
    (read.runs, read.has, omega (arith, read.few, wrong_misread capture i read.told)) b

-- whether the field has a number or not
pub near_read : (pace : Pace) (capture : Capture) (i n : ℕ) → AreTold capture → RunsOn pace capture.recorded i
    → misread_weight capture.counted capture.lines capture.disc i < enough → Believed pace (sightings_in capture) i n
    → (j m : ℕ) × IsNear i j × (capture.recorded j ≡ Some m) × Shows (slice_get (sightings_in capture) j) m
    × (fits pace i n j m ≡ true)
near_read pace capture i n told runs few b = grind (arith, on_the_disc, wrong_misread)

-- where the player stood still
pub still_read : (capture : Capture) (i m n : ℕ) → AreTold capture → StandsStill capture.recorded i m
    → misread_weight capture.counted capture.lines capture.disc i + field_most < enough
    → Believed Video (sightings_in capture) i n → n ≡ m
still_read capture i m n told still few b =
    sound_still capture.recorded (sightings_in capture) i m n
    (still, omega (arith, few, wrong_misread capture i told)) b
