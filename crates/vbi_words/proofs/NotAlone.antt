-- No column of a list that shows a word stands alone.
use Rattle.vbi_words.proofs.Common.{rules, ◌≡◌, ℕ, suc, zero, ◌≤◌, ◌<◌, ◌+◌, ◌-◌, Bool, false, List, [], ◌∷◌, ◌++◌, ◌⊎◌}
use Rattle.vbi_words.proofs.Common.{inl, inr, get_or, subst, sym, ap, ◌∙◌, arith, append_assoc, replicate, cases_order}
use Rattle.vbi_words.proofs.Common.{replicate-append-replicate, System, Shows, Spells, NoneAlone}
use Rattle.vbi_words.proofs.HalfCells.{first, in_run, past_run, all_low, first_two}
use Rattle.vbi_words.proofs.Mended.{begins_low}
use Rattle.vbi_words.proofs.Runs.{run_joined}

-- column c stands beside one of its level
abbrev Beside : List Bool → ℕ → Type 0
Beside s c = (get_or s c false ≡ get_or s (c - 1) false) ⊎ (get_or s c false ≡ get_or s (c + 1) false)

-- a run of two columns or more before such levels, which begin with two of one level
run_beside : (n : ℕ) (h : Bool) (s : List Bool) → 2 ≤ n → get_or s 0 false ≡ get_or s 1 false
    → ((c : ℕ) → Beside s c) → (c : ℕ) → Beside (replicate n h ++ s) c
run_beside n h s two begun rest c = go (cases_order (c + 1) n)
  where
    t : List Bool
    t = replicate n h ++ s

    behind : (k : ℕ) → n + k ≡ c → Beside s k → Beside t c
    behind k place (inr same) =
        let next : n + (k + 1) ≡ c + 1 = omega arith in
        inr (ap (λ (i : ℕ). get_or t i false) (sym place) ∙ past_run n h s k ∙ same ∙ sym (past_run n h s (k + 1))
        ∙ ap (λ (i : ℕ). get_or t i false) next)
    behind zero place (inl same) =
        let next : n + 1 ≡ c + 1 = omega arith in
        inr (ap (λ (i : ℕ). get_or t i false) (sym place) ∙ past_run n h s 0 ∙ begun ∙ sym (past_run n h s 1)
        ∙ ap (λ (i : ℕ). get_or t i false) next)
    behind (suc k) place (inl same) =
        let one : suc k - 1 ≡ k = omega arith in
        let back : n + k ≡ c - 1 = omega arith in
        inl (ap (λ (i : ℕ). get_or t i false) (sym place) ∙ past_run n h s (suc k) ∙ same
        ∙ ap (λ (i : ℕ). get_or s i false) one ∙ sym (past_run n h s k) ∙ ap (λ (i : ℕ). get_or t i false) back)

    go : (c + 1 ≡ n) ⊎ ((c + 1 < n) ⊎ (n < c + 1)) → Beside t c
    go (inl last) = inl (in_run n h s c (omega arith) ∙ sym (in_run n h s (c - 1) (omega arith)))
    go (inr (inl inside)) = inr (in_run n h s c (omega arith) ∙ sym (in_run n h s (c + 1) inside))
    go (inr (inr past)) = behind (c - n) (omega arith) (rest (c - n))

-- half cells of two columns or more, and lows after them
halves_beside : (lo hi : ℕ) → 2 ≤ lo → (halves drawn : List Bool) (after : ℕ) → Spells lo hi halves drawn → (c : ℕ)
    → Beside (drawn ++ replicate after false) c
halves_beside lo hi two [] drawn after e c = grind (arith, all_low)
halves_beside lo hi two (h ∷ halves) drawn after (n, rest, low, high, e, spelled) c =
    let behind : List Bool = rest ++ replicate after false in
    let begun : get_or behind 0 false ≡ get_or behind 1 false
    = first_two lo hi two halves rest after spelled 0 (omega arith)
    ∙ sym (first_two lo hi two halves rest after spelled 1 (omega arith)) in
    subst (λ (t : List Bool). Beside t c)
    (sym (append_assoc (replicate n h) rest (replicate after false))
    ∙ ap (λ (t : List Bool). t ++ replicate after false) (sym e))
    (run_beside n h behind (omega arith) begun (λ k. halves_beside lo hi two halves rest after spelled k) c)

-- lows before them
lows_beside : (lo hi : ℕ) → 2 ≤ lo → (halves drawn : List Bool) (before after : ℕ) → first halves ≡ false
    → Spells lo hi halves drawn → (c : ℕ) → Beside (replicate before false ++ (drawn ++ replicate after false)) c
lows_beside lo hi two [] drawn before after low e c = grind (arith, replicate-append-replicate, all_low)
lows_beside lo hi two (h ∷ halves) drawn before after low (n, rest, least, most, e, spelled) c =
    let behind : List Bool = rest ++ replicate after false in
    let begun : get_or behind 0 false ≡ get_or behind 1 false
    = first_two lo hi two halves rest after spelled 0 (omega arith)
    ∙ sym (first_two lo hi two halves rest after spelled 1 (omega arith)) in
    let joined : replicate before false ++ (drawn ++ replicate after false) ≡ replicate (before + n) false ++ behind
    = ap (λ (t : List Bool). replicate before false ++ (t ++ replicate after false)) e
    ∙ ap (λ (t : List Bool). replicate before false ++ t)
    (append_assoc (replicate n h) rest (replicate after false) ∙ ap (λ (b : Bool). replicate n b ++ behind) low)
    ∙ run_joined before n false behind in
    subst (λ (t : List Bool). Beside t c) (sym joined)
    (run_beside (before + n) false behind (omega arith) begun
    (λ k. halves_beside lo hi two halves rest after spelled k) c)

pub shown_not_alone : (system : System) (levels : List Bool) (word : ℕ) → Shows system levels word → NoneAlone levels
shown_not_alone system levels word s c = search (rules, lows_beside, begins_low)
