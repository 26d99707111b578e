use Rattle.vbi_line.proofs.Common.{arith, ◌≡◌, ℕ, ◌≤◌, Bool, true, false, length, None, sym, ap, subst, ◌∙◌, Some}
use Rattle.vbi_line.proofs.Common.{System, Word, Blank, Unfinished, IsWord, IsOutcome, State, dead, IsFit, ending_of}
use Rattle.vbi_line.proofs.Common.{state_after, state_at, fit_after, word_outcome, Decoder, state_of, List}
-- The outcome that a decoder gives at the end of a line.
use Rattle.std.proofs.lemmas.List.{take_all}
use Rattle.vbi_words.specs.Words.{lowest_bits}
use Rattle.vbi_words.proofs.Machine.{is_lead}
use Rattle.vbi_words.proofs.Outcomes.{blank_outcome, unfinished_outcome}

-- a decoder's state is never the dead one
pub alive : (decoder : Decoder) → state_of decoder ≡ dead → ⊥
alive decoder e = grind arith

module _ (system : System) (levels : List Bool) (decoder : Decoder)
    (at_end : state_of decoder ≡ state_after system levels) where
  -- how the machine ends, by the decoder's state
  ending : ending_of system (state_after system levels) ≡ ending_of system (state_of decoder)
  ending = ap (ending_of system) (sym at_end)

  pub fits : IsFit system (state_of decoder)
  fits = subst (IsFit system) (sym at_end) (fit_after system levels)

  pub shows : (w : ℕ) → IsWord w → ending_of system (state_of decoder) ≡ Some (lowest_bits 24 w)
      → IsOutcome system levels (Word w)
  shows w range e = word_outcome system levels w range (ending ∙ e)

  pub blank : is_lead (state_of decoder) ≡ true → IsOutcome system levels Blank
  blank e = blank_outcome system levels (ap is_lead (sym at_end) ∙ e)

  pub unfinished : ending_of system (state_of decoder) ≡ None → is_lead (state_of decoder) ≡ false
      → IsOutcome system levels Unfinished
  unfinished none high = unfinished_outcome system levels (λ e. alive decoder (at_end ∙ e))
      (ap is_lead (sym at_end) ∙ high) (ending ∙ none)

-- the state after all levels
pub whole : (system : System) (levels : List Bool) (column : ℕ) → length levels ≤ column → (state : State)
    → state ≡ state_at system levels column → state ≡ state_after system levels
whole system levels column past state e = e ∙ ap (state_after system) (take_all column levels past)
