-- Each list of levels has one outcome.
use Rattle.vbi_words.proofs.Common.{◌≡◌, ℕ, suc, zero, ◌≤◌, ◌+◌, Bool, true, false, eqb, leb, List, ◌⊎◌, inl, inr, refl}
use Rattle.vbi_words.proofs.Common.{ap, sym, ◌∙◌, subst, arith, add-one, take, take_all, cond_both, cases_order}
use Rattle.vbi_words.proofs.Common.{eqb-true, and_parts, System, Outcome, Word, Blank, Unfinished, Change, Hold, Viable}
use Rattle.vbi_words.proofs.Common.{level_at, FirstHopeless, Holds, IsOutcome, Option, Some, None, length}
use Rattle.vbi_words.proofs.Machine
use Rattle.vbi_words.proofs.Machine.{State, lead, first, second, tail, dead, level_of, is_lead}
use Rattle.vbi_words.proofs.SystemMachine.{IsFit, ending_of, state_after, state_at, fit_after}
use Rattle.vbi_words.proofs.Shown
use Rattle.vbi_words.proofs.Shown.{WordBits}
use Rattle.vbi_words.proofs.Outcomes
use Rattle.vbi_words.proofs.Outcomes.{DiesAt, GoesOn}

-- ---- at most one

not_hopeless : (system : System) (levels : List Bool) (c : ℕ) → Viable system levels → FirstHopeless system levels c
    → ⊥
not_hopeless system levels c v h = h.hopeless (Shown.viable_take system levels (c + 1) v)

same_column : (system : System) (levels : List Bool) (c d : ℕ) → FirstHopeless system levels c
    → FirstHopeless system levels d → c ≡ d
same_column system levels c d h k = grind (arith, cases_order)

-- one column isn't a change and a hold
not_both : (system : System) (levels : List Bool) (c d : ℕ) → IsOutcome system levels (Change c)
    → IsOutcome system levels (Hold d) → ⊥
not_both system levels c d s t = s.3 (subst (Holds levels) (same_column system levels d c t.2 s.2) t.3)

pub one_outcome : (system : System) (levels : List Bool) (o p : Outcome) → IsOutcome system levels o
    → IsOutcome system levels p → o ≡ p
one_outcome system levels (Word v) (Word w) s t = ap Word (Shown.one_word system levels v w s t)
one_outcome system levels (Word v) Blank s t = absurd (t.0 v s)
one_outcome system levels (Word v) Unfinished s t = absurd (t.0 v s)
one_outcome system levels (Word v) (Change d) s t = absurd (t.0 v s)
one_outcome system levels (Word v) (Hold d) s t = absurd (t.0 v s)
one_outcome system levels Blank (Word w) s t = absurd (s.0 w t)
one_outcome system levels Blank Blank s t = refl
one_outcome system levels Blank Unfinished s t = absurd (t.1 s.1)
one_outcome system levels Blank (Change d) s t = absurd (t.1 s.1)
one_outcome system levels Blank (Hold d) s t = absurd (t.1 s.1)
one_outcome system levels Unfinished (Word w) s t = absurd (s.0 w t)
one_outcome system levels Unfinished Blank s t = absurd (s.1 t.1)
one_outcome system levels Unfinished Unfinished s t = refl
one_outcome system levels Unfinished (Change d) s t = absurd (not_hopeless system levels d s.2 t.2)
one_outcome system levels Unfinished (Hold d) s t = absurd (not_hopeless system levels d s.2 t.2)
one_outcome system levels (Change c) (Word w) s t = absurd (s.0 w t)
one_outcome system levels (Change c) Blank s t = absurd (s.1 t.1)
one_outcome system levels (Change c) Unfinished s t = absurd (not_hopeless system levels c t.2 s.2)
one_outcome system levels (Change c) (Change d) s t = ap Change (same_column system levels c d s.2 t.2)
one_outcome system levels (Change c) (Hold d) s t = absurd (not_both system levels c d s t)
one_outcome system levels (Hold c) (Word w) s t = absurd (s.0 w t)
one_outcome system levels (Hold c) Blank s t = absurd (s.1 t.1)
one_outcome system levels (Hold c) Unfinished s t = absurd (not_hopeless system levels c t.2 s.2)
one_outcome system levels (Hold c) (Change d) s t = absurd (not_both system levels d c t s)
one_outcome system levels (Hold c) (Hold d) s t = ap Hold (same_column system levels c d s.2 t.2)

-- ---- and one

-- the bits with which the machine ends are those of a word
ended_bits : (system : System) (state : State) (bits : List Bool) → IsFit system state
    → ending_of system state ≡ Some bits → WordBits bits
ended_bits system (lead n) bits fit e = cc
ended_bits system (first v n done) bits fit e = cc
ended_bits system (second v n done) bits fit e = grind (arith, cond_both, leb, eqb-true, and_parts, eqb)
ended_bits system (tail done) bits fit e = let same : done ≡ bits = cc in subst WordBits same fit
ended_bits system dead bits fit e = cc

module _ (system : System) (levels : List Bool) where
  -- some outcome of the levels
  abbrev SomeOutcome : Type 0
  SomeOutcome = (o : Outcome) × IsOutcome system levels o

  -- the machine dies at one of the first n levels, or is alive after them
  abbrev Watched : ℕ → Type 0
  Watched n = ((c : ℕ) × DiesAt system levels c) ⊎ (state_at system levels n ≡ dead → ⊥)

  watch : (n : ℕ) → n ≤ length levels → Watched n
  watch zero l = inr (λ e. cc)
  watch (suc n) l = go (watch n (omega arith)) (Machine.is_dead (state_at system levels (n + 1)))
    where
      go : Watched n → (state_at system levels (n + 1) ≡ dead) ⊎ (state_at system levels (n + 1) ≡ dead → ⊥)
          → Watched (suc n)
      go (inl d) now = inl d
      go (inr alive) (inl dies) = inl (n, record { within = omega arith; alive = alive; dies = dies })
      go (inr alive) (inr living) = inr (λ e. living (ap (state_at system levels) (add-one n) ∙ e))

  -- where the machine dies
  at_death : (c : ℕ) → DiesAt system levels c → (a b : Bool) → level_at levels c ≡ a
      → level_of (state_at system levels c) ≡ b → SomeOutcome
  at_death c there a b e f = go a b e f
    where
      held : GoesOn system levels c → SomeOutcome
      held same = (Hold c, Outcomes.hold_outcome system levels c there same)

      changed : (GoesOn system levels c → ⊥) → SomeOutcome
      changed differs = (Change c, Outcomes.change_outcome system levels c there differs)

      go : (a b : Bool) → level_at levels c ≡ a → level_of (state_at system levels c) ≡ b → SomeOutcome
      go true true e f = held (e ∙ sym f)
      go true false e f = changed (λ s. let x : true ≡ false = sym e ∙ s ∙ f in cc)
      go false true e f = changed (λ s. let x : false ≡ true = sym e ∙ s ∙ f in cc)
      go false false e f = held (e ∙ sym f)

  -- where it is alive at the end
  at_end : (state_after system levels ≡ dead → ⊥) → (o : Option (List Bool)) (b : Bool)
      → ending_of system (state_after system levels) ≡ o → is_lead (state_after system levels) ≡ b → SomeOutcome
  at_end alive (Some bits) b e f =
      let fit = fit_after system levels in
      let w = Shown.word_of bits (ended_bits system (state_after system levels) bits fit e) in
      (Word w.0, Outcomes.word_outcome system levels w.0 w.1 (e ∙ ap Some (sym w.2)))
  at_end alive None true e f = (Blank, Outcomes.blank_outcome system levels f)
  at_end alive None false e f = (Unfinished, Outcomes.unfinished_outcome system levels alive f e)

pub found : (system : System) (levels : List Bool) → (o : Outcome) × IsOutcome system levels o
found system levels = go (watch system levels (length levels) (omega arith))
  where
    state : State
    state = state_after system levels

    all : take (length levels) levels ≡ levels
    all = take_all (length levels) levels (omega arith)

    go : Watched system levels (length levels) → (o : Outcome) × IsOutcome system levels o
    go (inl (c, there)) =
        at_death system levels c there (level_at levels c) (level_of (state_at system levels c)) refl refl
    go (inr alive) = at_end system levels (λ e. alive (ap (state_after system) all ∙ e)) (ending_of system state)
        (is_lead state) refl refl
