-- The machine from the middle of a cell to the middle of the next.
use Rattle.vbi_line.proofs.Common.{◌≡◌, ℕ, ◌+◌, ◌-◌, ◌*◌, ◌^◌, ◌<◌, ◌≤◌, Bool, true, false, [], ◌∷◌, ◌++◌, Some, None}
use Rattle.vbi_line.proofs.Common.{inl, inr, length, refl, sym, ap, subst, ◌∙◌, arith, not, System, Word, half_min}
use Rattle.vbi_line.proofs.Common.{half_max, level_at, IsOutcome, IsWord, sizes_of, half_max-le, State, lead, dead}
use Rattle.vbi_line.proofs.Common.{grown, length_of, next_of, after_of, limit_of, ending_of, IsFit, state_after}
use Rattle.vbi_line.proofs.Common.{state_at, after_append, fit_after, length-lowest_bits, word_outcome, level_of_bit}
use Rattle.vbi_line.proofs.Common.{IsRun, IsBitRun, IsHalf, ReachesMiddle, IsMiddle, List}
use Rattle.std.proofs.Math.ListN.{replicate, take}
use Rattle.vbi_words.specs.Words.{lowest_bits}
use Rattle.vbi_words.proofs.Machine.{first, second, tail, pick, limit_cases}
use Rattle.vbi_words.proofs.SystemMachine.{turn_of}
use Rattle.vbi_words.proofs.Stays
use Rattle.vbi_line.proofs.Ending.{whole}
use Rattle.vbi_line.proofs.RunLoop.{run_levels}
use Rattle.vbi_line.proofs.Steps.{begun_top}

-- a level that isn't this one is the other
other : (v u : Bool) → (u ≡ v → ⊥) → u ≡ not v
other v u differs = grind arith

module _ (system : System) where
  -- ---- the limit of a run from the middle of a cell

  limit_before : (v : Bool) (n : ℕ) (bits : List Bool) → length bits < 24
      → limit_of system (second v n bits) ≡ Some (half_max system + half_max system)
  limit_before v n bits few = grind arith

  limit_high : (n : ℕ) (bits : List Bool) → length bits ≡ 24
      → limit_of system (second true n bits) ≡ Some (half_max system)
  limit_high n bits full = grind (arith, limit_cases)

  limit_low : (n : ℕ) (bits : List Bool) → length bits ≡ 24 → limit_of system (second false n bits) ≡ None
  limit_low n bits full = grind (arith, limit_cases)

  -- ---- a change of level

  changed : (v : Bool) (same turned : State) → pick (sizes_of system) v (not v) same turned ≡ turned
  changed true same turned = refl
  changed false same turned = refl

  turn_single : (v : Bool) (n : ℕ) (bits : List Bool) → IsHalf system n → length bits < 24
      → turn_of system (second v n bits) ≡ first (not v) 1 bits
  turn_single v n bits half few = grind arith

  turn_double : (v : Bool) (n : ℕ) (bits : List Bool) → 2 * half_min system ≤ n → length bits < 24
      → turn_of system (second v n bits) ≡ second (not v) 1 (bits ++ not v ∷ [])
  turn_double v n bits long few = grind arith

  turn_last : (n : ℕ) (bits : List Bool) → IsHalf system n → length bits ≡ 24
      → turn_of system (second true n bits) ≡ tail bits
  turn_last n bits half full = grind arith

  turn_first : (v : Bool) (n : ℕ) (bits : List Bool) → half_min system ≤ n
      → turn_of system (first v n bits) ≡ second (not v) 1 (bits ++ not v ∷ [])
  turn_first v n bits long = grind arith

  turn_lead : (n : ℕ) → half_min system ≤ n → turn_of system (lead n) ≡ second true 1 (true ∷ [])
  turn_lead n long = grind arith

  -- ---- a run

  module _ {levels : List Bool} {column : ℕ} {v : Bool} {n : ℕ} (run : IsRun levels column v n) (begun : State)
      (is : next_of system (state_at system levels column) v ≡ begun) (alive : begun ≡ dead → ⊥) where
    state_past : state_at system levels (column + n)
        ≡ after_of system (state_at system levels column) (replicate n v)
    state_past = ap (state_after system) (run_levels run n (omega arith))
        ∙ after_append system (take column levels) (replicate n v)

    after_within : (m : ℕ) → limit_of system begun ≡ Some m → length_of begun + (n - 1) ≤ m
        → state_at system levels (column + n) ≡ grown (n - 1) begun
    after_within m limit within = state_past
        ∙ Stays.run_within (sizes_of system) (state_at system levels column) v begun (sym is) alive n m run.some limit
        within

    after_free : limit_of system begun ≡ None → state_at system levels (column + n) ≡ grown (n - 1) begun
    after_free limit = state_past
        ∙ Stays.run_free (sizes_of system) (state_at system levels column) v begun (sym is) alive n run.some limit

  -- the length of a run whose first column is counted
  one_more : (n : ℕ) → 0 < n → 1 + (n - 1) ≡ n
  one_more n some = omega arith

  -- ---- the first middle

  module _ {levels : List Bool} {n : ℕ} (run : IsRun levels 0 false n) (long : half_min system ≤ n)
      (inside : n < length levels) where
    -- the column after the lows
    after_lows : 0 + n ≡ n
    after_lows = omega arith

    pub first_high : level_at levels n ≡ true
    first_high = grind (arith, other, after_lows)

    pub first_is : IsMiddle system levels n (true ∷ [])
    first_is =
        let lows : state_at system levels (0 + n) ≡ lead ((0 + 1) + (n - 1))
        = after_free run (lead (0 + 1)) refl (λ e. cc) refl in
        let count : (0 + 1) + (n - 1) ≡ n = one_more n run.some in
        let there : state_at system levels n ≡ lead n
        = ap (state_at system levels) (sym after_lows) ∙ lows ∙ ap lead count in
        let turned : next_of system (state_at system levels n) true ≡ second true 1 (true ∷ [])
        = ap (λ (s : State). next_of system s true) there ∙ turn_lead n long in
        record {
          inside = inside;
          turned = subst (λ (x : Bool). next_of system (state_at system levels n) x ≡ second x 1 (true ∷ []))
              (sym first_high) turned;
        }

  -- ---- from one middle to the next

  module _ {levels : List Bool} {column : ℕ} {bits : List Bool} (middle : IsMiddle system levels column bits) where
    -- the level after the middle
    abbrev level : Bool
    level = level_at levels column

    -- the state after the run that begins at the middle
    after_middle : {n : ℕ} → IsRun levels column level n → (m : ℕ) → limit_of system (second level 1 bits) ≡ Some m
        → n ≤ m → state_at system levels (column + n) ≡ second level n bits
    after_middle {n} run m limit l =
        after_within run (second level 1 bits) middle.turned (λ e. cc) m limit (omega (arith, one_more n run.some))
        ∙ ap (λ (k : ℕ). second level k bits) (one_more n run.some)

    one_run : {n : ℕ} → IsRun levels column level n → length bits < 24 → 2 * half_min system ≤ n
        → n ≤ 2 * half_max system → column + n < length levels
        → IsMiddle system levels (column + n) (bits ++ level_at levels (column + n) ∷ [])
    one_run {n} run few long short inside =
        let there = after_middle run (half_max system + half_max system) (limit_before level 1 bits few)
        (omega arith) in
        let next : level_at levels (column + n) ≡ not level
        = other level (level_at levels (column + n)) (run.ends inside) in
        let turned : next_of system (state_at system levels (column + n)) (not level)
        ≡ second (not level) 1 (bits ++ not level ∷ [])
        = ap (λ (s : State). next_of system s (not level)) there ∙ changed level _ _
        ∙ turn_double level n bits long few in
        record {
          inside = inside;
          turned = subst (λ (x : Bool). next_of system (state_at system levels (column + n)) x
              ≡ second x 1 (bits ++ x ∷ [])) (sym next) turned;
        }

    two_runs : {a b : ℕ} → IsRun levels column level a → IsRun levels (column + a) (not level) b → length bits < 24
        → IsHalf system a → IsHalf system b → (column + a) + b < length levels
        → IsMiddle system levels ((column + a) + b) (bits ++ level_at levels ((column + a) + b) ∷ [])
    two_runs {a} {b} run more few half other_half inside =
        let end : ℕ = (column + a) + b in
        let there = after_middle run (half_max system + half_max system) (limit_before level 1 bits few)
        (omega (arith, half.1)) in
        let begun : next_of system (state_at system levels (column + a)) (not level) ≡ first (not level) 1 bits
        = ap (λ (s : State). next_of system s (not level)) there ∙ changed level _ _
        ∙ turn_single level a bits half few in
        let behind : state_at system levels ((column + a) + b) ≡ first (not level) b bits
        = after_within more (first (not level) 1 bits) begun (λ e. cc) (half_max system) refl
        (omega (arith, one_more b more.some, other_half.1))
        ∙ ap (λ (k : ℕ). first (not level) k bits) (one_more b more.some) in
        let next : level_at levels ((column + a) + b) ≡ not (not level)
        = other (not level) (level_at levels ((column + a) + b)) (more.ends inside) in
        let turned : next_of system (state_at system levels ((column + a) + b)) (not (not level))
        ≡ second (not (not level)) 1 (bits ++ not (not level) ∷ [])
        = ap (λ (s : State). next_of system s (not (not level))) behind ∙ changed (not level) _ _
        ∙ turn_first (not level) b bits other_half.0 in
        record {
          inside = inside;
          turned = subst (λ (x : Bool). next_of system (state_at system levels ((column + a) + b)) x
              ≡ second x 1 (bits ++ x ∷ [])) (sym next) turned;
        }

    -- ---- after the last cell

    module _ (full : length bits ≡ 24) where
      low_end : {n : ℕ} → level ≡ false → IsRun levels column level n → column + n ≡ length levels
          → state_after system levels ≡ second false n bits
      low_end {n} low run all =
          let begun : next_of system (state_at system levels column) false ≡ second false 1 bits
          = subst (λ (x : Bool). next_of system (state_at system levels column) x ≡ second x 1 bits) low
          middle.turned in
          let lows : IsRun levels column false n = subst (λ (x : Bool). IsRun levels column x n) low run in
          let there : state_at system levels (column + n) ≡ second false n bits
          = after_free lows (second false 1 bits) begun (λ e. cc) (limit_low 1 bits full)
          ∙ ap (λ (k : ℕ). second false k bits) (one_more n run.some) in
          sym (whole system levels (column + n) (omega arith) (second false n bits) (sym there))

      high_end : {n m : ℕ} → level ≡ true → IsRun levels column level n → IsHalf system n
          → IsRun levels (column + n) false m → (column + n) + m ≡ length levels
          → state_after system levels ≡ tail bits
      high_end {n} {m} high run half lows all =
          let begun : next_of system (state_at system levels column) true ≡ second true 1 bits
          = subst (λ (x : Bool). next_of system (state_at system levels column) x ≡ second x 1 bits) high
          middle.turned in
          let highs : IsRun levels column true n = subst (λ (x : Bool). IsRun levels column x n) high run in
          let there : state_at system levels (column + n) ≡ second true n bits
          = after_within highs (second true 1 bits) begun (λ e. cc) (half_max system) (limit_high 1 bits full)
          (omega (arith, one_more n run.some, half.1))
          ∙ ap (λ (k : ℕ). second true k bits) (one_more n run.some) in
          let turned : next_of system (state_at system levels (column + n)) false ≡ tail bits
          = ap (λ (s : State). next_of system s false) there ∙ turn_last n bits half full in
          let behind : state_at system levels ((column + n) + m) ≡ tail bits
          = after_free lows (tail bits) turned (λ e. cc) refl in
          sym (whole system levels ((column + n) + m) (omega arith) (tail bits) (sym behind))

  -- ---- the word

  ends_second : (n : ℕ) (bits : List Bool) → length bits ≡ 24 → half_min system ≤ n
      → ending_of system (second false n bits) ≡ Some bits
  ends_second n bits full long = grind arith

  module _ (levels : List Bool) (w : ℕ) (few : w < 2 ^ 24) where
    word_of_tail : state_after system levels ≡ tail (lowest_bits 24 w)
        → IsWord w × IsOutcome system levels (Word w)
    word_of_tail e =
        let fit : IsFit system (tail (lowest_bits 24 w)) = subst (IsFit system) e (fit_after system levels) in
        let range : IsWord w = (begun_top w fit.1, few) in
        (range, word_outcome system levels w range (ap (ending_of system) e))

    word_of_second : (n : ℕ) → half_min system ≤ n → state_after system levels ≡ second false n (lowest_bits 24 w)
        → IsWord w × IsOutcome system levels (Word w)
    word_of_second n long e =
        let fit : IsFit system (second false n (lowest_bits 24 w))
        = subst (IsFit system) e (fit_after system levels) in
        let range : IsWord w = (begun_top w fit.3, few) in (
          range,
          word_outcome system levels w range (ap (ending_of system) e
              ∙ ends_second n (lowest_bits 24 w) (length-lowest_bits 24 w) long),
        )

  module _ {levels : List Bool} {column w : ℕ} (few : w < 2 ^ 24)
      (middle : IsMiddle system levels column (lowest_bits 24 w)) where
    full : length (lowest_bits 24 w) ≡ 24
    full = length-lowest_bits 24 w

    pub low_word : (n : ℕ) → level_at levels column ≡ false → IsRun levels column (level_at levels column) n
        → half_min system ≤ n → column + n ≡ length levels → IsWord w × IsOutcome system levels (Word w)
    low_word n low run long all = word_of_second levels w few n long (low_end middle full low run all)

    pub high_word : (n m : ℕ) → level_at levels column ≡ true → IsRun levels column (level_at levels column) n
        → IsHalf system n → IsRun levels (column + n) false m → (column + n) + m ≡ length levels
        → IsWord w × IsOutcome system levels (Word w)
    high_word n m high run half lows all = word_of_tail levels w few (high_end middle full high run half lows all)

  -- ---- by the bits of a window

  module _ (levels : List Bool) (column word : ℕ)
      (window : (i : ℕ) → i < 64 → level_of_bit word i ≡ level_at levels (column + i)) where
    -- a run of the window's bits is one of columns
    run_there : {place n : ℕ} → IsBitRun word place n → place + n < 64 → (column + place) + n < length levels
        → IsRun levels (column + place) (level_at levels (column + place)) n
    run_there {place} {n} run within inside = record {
      some = run.some;
      inside = omega arith;
      each = λ i l. at (place + i) (omega arith) i l refl;
      ends = λ _ e. run.ends (window (place + n) within ∙ ap (level_at levels) far ∙ e
          ∙ sym (window place (omega (arith, run.some))));
    }
      where
        far : column + (place + n) ≡ (column + place) + n
        far = omega arith

        at : (k : ℕ) → k < 64 → (i : ℕ) → i < n → k ≡ place + i
            → level_at levels ((column + place) + i) ≡ level_at levels (column + place)
        at k l i inside e =
            let here : (column + place) + i ≡ column + (place + i) = omega arith in
            ap (level_at levels) here ∙ sym (window (place + i) (omega arith)) ∙ run.each i inside
            ∙ window place (omega arith)

    pub reached : {bits : List Bool} (columns : ℕ) → IsMiddle system levels column bits → length bits < 24
        → ReachesMiddle system word columns → column + columns < length levels
        → IsMiddle system levels (column + columns) (bits ++ level_at levels (column + columns) ∷ [])
    reached {bits} columns middle few reaches inside = elim reaches [
      | inl one ↦
          let run = run_there one.0 (omega (arith, one.2, half_max-le system)) (omega arith) in
          let here : column + 0 ≡ column = omega arith in
          let first_run : IsRun levels column (level_at levels column) columns
          = subst (λ (k : ℕ). IsRun levels k (level_at levels k) columns) here run in
          one_run middle first_run few one.1 one.2 inside
      | inr (a, less, two) ↦
          let half = two.1 in
          let other_half = two.3 in
          let most = half_max-le system in
          let here : column + 0 ≡ column = omega arith in
          let run = run_there two.0 (omega (arith, half.1)) (omega arith) in
          let first_run : IsRun levels column (level_at levels column) a
          = subst (λ (k : ℕ). IsRun levels k (level_at levels k) a) here run in
          let second_run = run_there two.2 (omega (arith, half.1, other_half.1)) (omega arith) in
          let next : level_at levels (column + a) ≡ not (level_at levels column)
          = other (level_at levels column) (level_at levels (column + a)) (first_run.ends (omega arith)) in
          let more : IsRun levels (column + a) (not (level_at levels column)) (columns - a)
          = subst (λ (x : Bool). IsRun levels (column + a) x (columns - a)) next second_run in
          let place : (column + a) + (columns - a) ≡ column + columns = omega arith in
          subst (λ (k : ℕ). IsMiddle system levels k (bits ++ level_at levels k ∷ [])) place
          (two_runs middle first_run more few half other_half (omega arith))
    ]
