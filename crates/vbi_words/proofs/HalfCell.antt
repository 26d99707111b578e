-- One half cell of a row that is blurred at its changes of level: where it begins, what is inside, where it ends.
use Rattle.vbi_words.proofs.Common.{◌≡◌, ℕ, ◌≤◌, ◌<◌, ◌+◌, ◌-◌, Bool, false, List, ◌⊎◌, inl, inr, get_or, refl, sym, ap}
use Rattle.vbi_words.proofs.Common.{◌∙◌, arith, cases_order, not, IsBlurred, NoneAlone}
use Rattle.vbi_words.proofs.Runs.{same_or_not}

module _ (d l : List Bool) (blurred : IsBlurred d l) where
  -- the level drawn at a column, and the level there
  abbrev pub at_d : ℕ → Bool
  at_d c = get_or d c false

  abbrev pub at_l : ℕ → Bool
  at_l c = get_or l c false

  -- a column whose neighbours are drawn at its level
  pub away : (h : Bool) (b c e : ℕ) → b ≡ c - 1 → e ≡ c + 1 → at_d b ≡ h → at_d c ≡ h → at_d e ≡ h → at_l c ≡ h
  away h b c e eb ee hb hc he = grind arith

  -- a half cell drawn from p on begins at e, at most a column from there
  pub record Begins (p e : ℕ) (h : Bool) : Type 0 where
    pub early : p ≤ e + 1
    pub late : e ≤ p + 1
    pub has : (c : ℕ) → e ≤ c → c ≤ p → at_l c ≡ h

  -- its levels up to where it ends
  abbrev pub Plain : ℕ → ℕ → Bool → Type 0
  Plain p to h = (c : ℕ) → p + 1 ≤ c → c < to → at_l c ≡ h

  -- its last two levels are turned over, so that two columns stand alone
  pub record Spiked (p q to : ℕ) (h h' : Bool) : Type 0 where
    pub end : to ≡ q + 1
    pub other : h' ≡ not h
    pub one : at_l (q - 1) ≡ h'
    pub two : at_l q ≡ h
    pub before : Plain p (q - 1) h
    pub alone : NoneAlone l → ⊥

  -- where it ends and the next begins
  pub record Ends (p q : ℕ) (h h' : Bool) : Type 0 where
    pub at : ℕ
    pub begins : Begins q at h'
    pub inside : Plain p at h ⊎ Spiked p q at h h'

  module _ (p n : ℕ) (h h' : Bool) (three : 3 ≤ n) (run : (c : ℕ) → p ≤ c → c < p + n → at_d c ≡ h)
      (here : at_d (p + n) ≡ h') (behind : at_d (p + n + 1) ≡ h') where
    core : (c : ℕ) → p + 1 ≤ c → c + 1 < p + n → at_l c ≡ h
    core c low high = away h (c - 1) c (c + 1) refl refl (run (c - 1) (omega arith) (omega arith))
        (run c (omega arith) (omega arith)) (run (c + 1) (omega arith) (omega arith))

    -- the last column of the run, and the one after it
    abbrev last : ℕ
    last = p + n - 1

    -- up to the last column
    up_to : (c : ℕ) → at_l last ≡ h → p + 1 ≤ c → c < p + n → at_l c ≡ h
    up_to c e low high = go (cases_order c last)
      where
        go : (c ≡ last) ⊎ ((c < last) ⊎ (last < c)) → at_l c ≡ h
        go (inl same) = ap at_l same ∙ e
        go (inr (inl less)) = core c low (omega arith)
        go (inr (inr more)) = absurd (omega arith)

    ends_at : at_l last ≡ h → at_l (p + n) ≡ h' → Ends p (p + n) h h'
    ends_at e f = record {
      at = p + n;
      begins = record {
        early = omega arith;
        late = omega arith;
        has = λ c low high. let same : c ≡ p + n = omega arith in ap at_l same ∙ f;
      };
      inside = inl (λ c low high. up_to c e low high);
    }

    ends_early : at_l last ≡ h' → at_l (p + n) ≡ h' → Ends p (p + n) h h'
    ends_early e f = record {
      at = last;
      begins = record {
        early = omega arith;
        late = omega arith;
        has = λ c low high. has c low high (cases_order c last);
      };
      inside = inl (λ c low high. core c low (omega arith));
    }
      where
        has : (c : ℕ) → last ≤ c → c ≤ p + n → (c ≡ last) ⊎ ((c < last) ⊎ (last < c)) → at_l c ≡ h'
        has c low high (inl same) = ap at_l same ∙ e
        has c low high (inr (inl less)) = absurd (omega arith)
        has c low high (inr (inr more)) = let same : c ≡ p + n = omega arith in ap at_l same ∙ f

    ends_late : at_l last ≡ h → at_l (p + n) ≡ h → Ends p (p + n) h h'
    ends_late e f = record {
      at = p + n + 1;
      begins = record { early = omega arith; late = omega arith; has = λ c low high. absurd (omega arith) };
      inside = inl (λ c low high. inside c low high (cases_order c (p + n)));
    }
      where
        inside : (c : ℕ) → p + 1 ≤ c → c < p + n + 1 → (c ≡ p + n) ⊎ ((c < p + n) ⊎ (p + n < c)) → at_l c ≡ h
        inside c low high (inl same) = ap at_l same ∙ f
        inside c low high (inr (inl less)) = up_to c e low less
        inside c low high (inr (inr more)) = absurd (omega arith)

    -- the last column doesn't stand alone
    not_alone : NoneAlone l → at_l last ≡ not h → at_l (p + n) ≡ h → ⊥
    not_alone none e f = grind arith

    pub ends : Ends p (p + n) h h'
    ends = go (same_or_not h h') (same_or_not h (at_l last)) (same_or_not h (at_l (p + n)))
      where
        go : (h' ≡ h) ⊎ (h' ≡ not h) → (at_l last ≡ h) ⊎ (at_l last ≡ not h)
            → (at_l (p + n) ≡ h) ⊎ (at_l (p + n) ≡ not h) → Ends p (p + n) h h'
        go (inl same) x y = grind (arith, ends_at, away)
        go (inr other) (inl e) (inl f) = ends_late e f
        go (inr other) (inl e) (inr f) = ends_at e (f ∙ sym other)
        go (inr other) (inr e) (inl f) = record {
          at = p + n + 1;
          begins = record { early = omega arith; late = omega arith; has = λ c low high. absurd (omega arith) };
          inside = inr (record {
            end = refl;
            other = other;
            one = e ∙ sym other;
            two = f;
            before = λ c low high. core c low (omega arith);
            alone = λ none. not_alone none e f;
          });
        }
        go (inr other) (inr e) (inr f) = ends_early (e ∙ sym other) (f ∙ sym other)
