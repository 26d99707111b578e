use Rattle.vbi_line.proofs.Common.{arith, ◌≡◌, ℕ, Bool, inl, inr, refl, sym, ◌∙◌, ap, subst, System, Outcome, Word}
use Rattle.vbi_line.proofs.Common.{Blank, Unfinished, Change, Hold, ShowsNone, IsOutcome, smooth_of, List}
-- A list of levels has one outcome and one reading.
use Rattle.vbi_words.specs.declared.outcome.Reading.{Reading}
use Rattle.vbi_words.specs.Outcomes.{AllLow}
use Rattle.vbi_words.specs.Readings.{Reads, IsReading, reading_from}
use Rattle.vbi_words.proofs.Found.{found, one_outcome}
use Rattle.vbi_words.proofs.Lows.{blank_reads}
use Rattle.vbi_line.specs.OneReading.{outcome_of, reading_of}

pub is_outcome : (system : System) (levels : List Bool) → IsOutcome system levels (outcome_of system levels)
unfolding outcome_of
is_outcome system levels = (found system levels).1

pub same_outcome : (system : System) (levels : List Bool) (o : Outcome) → IsOutcome system levels o
    → o ≡ outcome_of system levels
same_outcome system levels o is = grind (arith, one_outcome, is_outcome)

pub by_outcomes : (system : System) (levels : List Bool)
    → reading_of system levels ≡ reading_from (outcome_of system levels) (outcome_of system (smooth_of levels))
unfolding reading_of
by_outcomes system levels = refl

-- an outcome and a pass as a reading
abbrev with_pass : Outcome → ℕ → Reading
with_pass o k = record { outcome = o; pass = k }

-- ---- the reading where neither list shows a word

-- an outcome other than a word
abbrev NoWord : Outcome → Type 0
NoWord o = (w : ℕ) → o ≡ Word w → ⊥

no_word : (system : System) (levels : List Bool) (o : Outcome) → IsOutcome system levels o → ShowsNone system levels
    → NoWord o
no_word system levels o is none w e = none w (subst (IsOutcome system levels) e is)

reads_plain : (o p : Outcome) → NoWord o → NoWord p → reading_from o p ≡ with_pass o 0
reads_plain o p free none = grind arith

module _ (system : System) (levels : List Bool) where
  -- the outcome of the levels
  abbrev plain : Outcome
  plain = outcome_of system levels

  -- the outcome of the smoothed levels
  abbrev smooth : Outcome
  smooth = outcome_of system (smooth_of levels)

  -- the reading that they give
  abbrev from_both : Reading
  from_both = reading_from plain smooth

  -- ---- the reading where the smoothed levels show a word

  reads_second : (o : Outcome) → IsOutcome system levels o → ShowsNone system levels → (AllLow levels → ⊥) → (w : ℕ)
      → reading_from o (Word w) ≡ with_pass (Word w) 2
  reads_second o is none high w = grind arith

  -- ---- there is at most one

  only_plain : (o : Outcome) (pass : ℕ) → NoWord o
      → (pass ≡ 0) × IsOutcome system levels o × ShowsNone system (smooth_of levels) → with_pass o pass ≡ from_both
  only_plain o pass free (p, is, none) = grind (arith, no_word, is_outcome, reads_plain, same_outcome)

  only : (o : Outcome) (pass : ℕ) → Reads system levels o pass → with_pass o pass ≡ from_both
  only (Word w) pass (inl (p, shows)) =
      ap (with_pass (Word w)) p
      ∙ ap (λ (x : Outcome). reading_from x smooth) (same_outcome system levels (Word w) shows)
  only (Word w) pass (inr (p, none, high, shows)) =
      ap (with_pass (Word w)) p ∙ sym (reads_second plain (is_outcome system levels) none high w)
      ∙ ap (reading_from plain) (same_outcome system (smooth_of levels) (Word w) shows)
  only Blank pass r = only_plain Blank pass (λ w e. cc) r
  only Unfinished pass r = only_plain Unfinished pass (λ w e. cc) r
  only (Change c) pass r = only_plain (Change c) pass (λ w e. cc) r
  only (Hold c) pass r = only_plain (Hold c) pass (λ w e. cc) r

  -- ---- there is one, from the outcomes of both lists

  pub from_outcomes : (o p : Outcome) → IsOutcome system levels o → IsOutcome system (smooth_of levels) p
      → IsReading system levels (reading_from o p)
  from_outcomes (Word w) p is second = inl (refl, is)
  from_outcomes Blank p is second = blank_reads system levels is
  from_outcomes Unfinished p is second = grind arith
  from_outcomes (Change c) p is second = grind arith
  from_outcomes (Hold c) p is second = grind arith

pub only_reading : (system : System) (levels : List Bool) (reading : Reading) → IsReading system levels reading
    → reading ≡ reading_of system levels
unfolding reading_of
only_reading system levels reading is = only system levels reading.outcome reading.pass is

pub is_reading : (system : System) (levels : List Bool) → IsReading system levels (reading_of system levels)
unfolding reading_of
is_reading system levels = grind (arith, from_outcomes, is_outcome)

-- a blank list is read as blank, whatever stands for its outcome
pub blank_is_read : (system : System) (levels : List Bool) (outcome : Outcome) → outcome ≡ Blank
    → IsOutcome system levels outcome → IsReading system levels (with_pass outcome 0)
blank_is_read system levels (Word w) e is = cc
blank_is_read system levels Blank e is = blank_reads system levels is
blank_is_read system levels Unfinished e is = cc
blank_is_read system levels (Change c) e is = cc
blank_is_read system levels (Hold c) e is = cc
