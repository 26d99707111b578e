-- Any lines have nearest words, levelled and as they are, and a distance of a stretched word; and something is seen
-- of any line. recover_rows, AskedLines and SomeRecovered stand on it.
use Rattle.std.proofs.Common.{◌≡◌, ℕ, ◌+◌, ◌≤◌, Bool, true, false, List, [], ◌∷◌, refl, ap, subst, arith, min}
use Rattle.std.specs.Prelude.{Option, Some, None}
use Rattle.vbi_near.proofs.Common.{System, Outcome, Word, width_of, Slicing, row_levels, reading_of, outcome_of, Nears}
use Rattle.vbi_near.proofs.Common.{drawn_as, Samples, most_of, distance_of, stretched_length, stretched_picture}
use Rattle.vbi_near.proofs.Common.{IsLeastAt, IsAtRate, IsRateBefore, IsStretchedPlace, IsStretched, halved_far}
use Rattle.vbi_near.proofs.Common.{far_from}
use Rattle.vbi_near.proofs.LeastAt.{same-least, first_rate, rate-more}
use Rattle.vbi_near.proofs.{SomeNear.some_near, SomeNear.some_near_code, Least.found, Least.at_most_decided}
use Rattle.vbi_near.specs.Candidates.{HasNear, Row, Line, Lines, Candidates, HasNearIf, AreOf, AreOfBoth, given_samples}
use Rattle.vbi_near.specs.Candidates.{given_line, levelled_line, given_pair, levelled_pair, has_swing, are_alike}
use Rattle.vbi_near.specs.Recovery.{Seen, IsSeen}

-- ---- nearest words

-- any lines have a nearest word, and a nearest of the codes that may stand on a line
pub some_nears : (lines : Lines) → (near : Nears) × HasNear lines near
some_nears lines =
    let system = lines.system in
    let far : List Bool → ℕ
    = λ levels. distance_of (most_of lines.slicing) lines.samples (drawn_as lines.slicing levels) in
    let w = some_near system lines.slicing lines.samples in
    let c = some_near_code system lines.number lines.slicing lines.samples in (
      record {
        word = w.0;
        code = c.0;
        blank = far_from system lines.slicing lines.samples None 0;
        word_halved = halved_far system far w.0.word w.0;
        code_halved = halved_far system far c.0.word c.0;
      },
      record {
        nearest = w.1;
        first = w.2;
        longer = w.3;
        shorter = w.4;
        code = c.1;
        code_first = c.2;
        code_longer = c.3;
        code_shorter = c.4;
        blank = refl;
        word_halved = refl;
        code_halved = refl;
      },
    )

-- lines that may have none have nearest words, or none
pub some_near_if : (lines : Lines) (can : Bool) → (near : Option Nears) × HasNearIf lines can near
some_near_if lines true = let n = some_nears lines in (Some n.0, (refl, n.1))
some_near_if lines false = (None, refl)

-- any line has candidates
pub some_candidates : (line : Line) → (near : Candidates) × AreOf line near
some_candidates line =
    let levelled = some_near_if (levelled_line line) (has_swing line.system line.slicing line.row) in
    let given = some_nears (given_line line) in
    (record { levelled = levelled.0; given = given.0 }, record { levelled = levelled.1; given = given.1 })

-- any two lines together have candidates
pub some_of_both : (line : Line) (other : Row) → (near : Candidates) × AreOfBoth line other near
some_of_both line other =
    let levelled = some_near_if (levelled_pair line other) (are_alike line.system line.slicing line.row other) in
    let given = some_nears (given_pair line other) in
    (record { levelled = levelled.0; given = given.0 }, record { levelled = levelled.1; given = given.1 })

-- ---- words on longer or shorter cells

-- a word of each rate fits from the first column on
rate_fits : (system : System) (rate : ℕ) → rate ≤ 102 → 0 + stretched_length system rate ≤ width_of system
rate_fits system rate le = grind arith

-- there is a least distance at this rate
some_at_rate : (system : System) (far : ℕ → ℕ → ℕ) (rate : ℕ) → rate ≤ 102
    → (distance : ℕ) × IsLeastAt (IsAtRate system rate) far distance
some_at_rate system far rate le =
    let l = found (far rate) (λ s. s + stretched_length system rate ≤ width_of system)
    (λ s. at_most_decided (s + stretched_length system rate) (width_of system)) (width_of system) 0 (omega arith)
    (rate_fits system rate le) in (
      far rate l.at,
      record {
        least = λ r s there.
            let room : s + stretched_length system rate ≤ width_of system =
            subst (λ (k : ℕ). s + stretched_length system k ≤ width_of system) there.0 there.1 in
            omega (arith, l.least s (omega (arith, room)) room, ap (λ (k : ℕ). far k s) there.0);
        one = (rate, l.at, (refl, l.holds), refl);
      },
    )

-- there is a least distance at all rates
some_at : (system : System) (far : ℕ → ℕ → ℕ) → (distance : ℕ) × IsLeastAt (IsStretchedPlace system) far distance
some_at system far =
    let a = some_at_rate system far 98 (omega arith) in
    let b = some_at_rate system far 99 (omega arith) in
    let c = some_at_rate system far 100 (omega arith) in
    let d = some_at_rate system far 101 (omega arith) in
    let e = some_at_rate system far 102 (omega arith) in
    let one = first_rate system far a.0 a.1 in
    let two = rate-more system far 99 a.0 b.0 (omega arith) one b.1 in
    let three = rate-more system far 100 (min a.0 b.0) c.0 (omega arith) two c.1 in
    let four = rate-more system far 101 (min (min a.0 b.0) c.0) d.0 (omega arith) three d.1 in
    let five = rate-more system far 102 (min (min (min a.0 b.0) c.0) d.0) e.0 (omega arith) four e.1 in
    let least : ℕ = min (min (min (min a.0 b.0) c.0) d.0) e.0 in (
      least,
      same-least (IsRateBefore system 103) (IsStretchedPlace system) far least
          (λ r s there. (there.0, omega (arith, there.1), there.2))
          (λ r s there. (there.0, omega (arith, there.1), there.2)) five,
    )

-- any lines have a distance of a word on longer or shorter cells
pub some_stretched : (system : System) (slicing : Slicing) (lines : List Samples) (word : ℕ)
    → (distance : ℕ) × IsStretched system slicing lines word distance
some_stretched system slicing lines word =
    some_at system
    (λ rate start. distance_of (most_of slicing) lines (drawn_as slicing (stretched_picture system rate word start)))

-- ---- lines

-- the word that an outcome shows, and 0 if it shows none
abbrev shown_word : Outcome → ℕ
shown_word (Word word) = word
shown_word outcome = 0

-- there is a distance of the word that an outcome shows, if it shows one
stretched_if : (system : System) (slicing : Slicing) (lines : List Samples) (outcome : Outcome)
    → (distance : ℕ) × ((word : ℕ) → outcome ≡ Word word → IsStretched system slicing lines word distance)
stretched_if system slicing lines outcome =
    let s = some_stretched system slicing lines (shown_word outcome) in
    (s.0, λ word e. subst (λ (w : ℕ). IsStretched system slicing lines w s.0) (ap shown_word e) s.1)

-- there is something of each line
pub some_seen : (line : Line) → (seen : Seen) × IsSeen line seen
some_seen line =
    let levels = row_levels line.slicing line.row.bytes in
    let reading = reading_of line.system levels in
    let near = some_candidates line in
    let stretched = stretched_if line.system line.slicing (given_samples line.row ∷ []) reading.outcome in (
      record {
        reading = reading;
        plain = outcome_of line.system levels;
        near = near.0;
        stretched = stretched.0;
      },
      record {
        reading = refl;
        plain = λ two. refl;
        near = λ asked. near.1;
        stretched = λ word e two. stretched.1 word e;
      },
    )
