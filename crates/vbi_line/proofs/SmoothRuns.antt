-- Smoothed levels by whole runs.
use Rattle.vbi_line.proofs.Common.{◌≡◌, ℕ, suc, zero, ◌+◌, ◌-◌, ◌<◌, ◌≤◌, Bool, false, true, [], ◌∷◌, ◌++◌, ◌⊎◌, inl}
use Rattle.vbi_line.proofs.Common.{inr, length, drop, refl, sym, ap, subst, ◌∙◌, arith, append_assoc, Some, None}
use Rattle.vbi_line.proofs.Common.{append-nil, not, System, IsWord, ShowsNone, level_at, smooth_of, State, dead}
use Rattle.vbi_line.proofs.Common.{after_of, ending_of, IsFit, state_after, fit_after, after_append, IsRun, DiesAfter}
use Rattle.std.proofs.Common.{List}
use Rattle.std.proofs.Math.ListN.{replicate}
use Rattle.std.proofs.lemmas.List.{drop_all}
use Rattle.vbi_words.specs.Words.{lowest_bits}
use Rattle.vbi_words.specs.Shows.{Shows}
use Rattle.vbi_words.specs.Smooth.{level_of_four}
use Rattle.vbi_words.proofs.Runs.{run_joined, equal_from}
use Rattle.vbi_words.proofs.Shown.{viable_alive, ended_shows, ended_none}
use Rattle.vbi_words.proofs.Smoothing.{window, smooth_window}
use Rattle.vbi_words.proofs.SmoothKeeps.{steady, steady_same}

-- ---- a run in the window

-- a run of x begins after these levels: the last of them is another, or all of them are x
abbrev pub Turns : Bool → Bool → Bool → Bool → Bool → Type 0
Turns out a b c x = (c ≡ not x) ⊎ ((out ≡ x) × (a ≡ x) × (b ≡ x) × (c ≡ x))

long_turn : (out a b x : Bool) (s : List Bool)
    → window out a b (not x) (x ∷ x ∷ x ∷ x ∷ s) ≡ out ∷ out ∷ out ∷ x ∷ steady x s
unfolding window
long_turn out a b x s = grind arith

-- a run of four levels or more
pub long_run : (out a b c x : Bool) (k : ℕ) (s : List Bool) → Turns out a b c x → 4 ≤ k
    → window out a b c (replicate k x ++ s) ≡ replicate 3 out ++ (replicate (k - 3) x ++ steady x s)
long_run out a b c x zero s t l = absurd (omega arith)
long_run out a b c x (suc zero) s t l = absurd (omega arith)
long_run out a b c x (suc (suc zero)) s t l = absurd (omega arith)
long_run out a b c x (suc (suc (suc zero))) s t l = absurd (omega arith)
long_run out a b c x (suc (suc (suc (suc k)))) s (inl e) l =
    let f : suc k ≡ suc (suc (suc (suc k))) - 3 = omega arith in
    ap (λ (y : Bool). window out a b y (x ∷ x ∷ x ∷ x ∷ (replicate k x ++ s))) e
    ∙ long_turn out a b x (replicate k x ++ s)
    ∙ ap (λ (t : List Bool). out ∷ out ∷ out ∷ x ∷ t) (steady_same x k s)
    ∙ ap (λ (n : ℕ). out ∷ out ∷ out ∷ (replicate n x ++ steady x s)) f
long_run out a b c x (suc (suc (suc (suc k)))) s (inr (e, f, g, h)) l =
    let n : suc k ≡ suc (suc (suc (suc k))) - 3 = omega arith in
    rw (e, f, g, h) (steady_same x (suc (suc (suc (suc k)))) s
    ∙ ap (λ (m : ℕ). x ∷ x ∷ x ∷ (replicate m x ++ steady x s)) n)

-- after a short run the window still gives the level before it, and x is the last of its levels
abbrev pub ShortRun : Bool → Bool → Bool → Bool → Bool → ℕ → List Bool → Type 0
ShortRun out a b c x k s =
    (a' : Bool) × (b' : Bool) × (window out a b c (replicate k x ++ s) ≡ replicate k out ++ window out a' b' x s)

kept_first : (a b x out : Bool) → level_of_four a b (not x) x out ≡ out
kept_first a b x out = grind arith

kept_second : (b x out : Bool) → level_of_four b (not x) x x out ≡ out
kept_second b x out = grind arith

kept_third : (x out : Bool) → level_of_four (not x) x x x out ≡ out
kept_third true out = refl
kept_third false out = refl

one_more : (out a b c x : Bool) (s : List Bool) → level_of_four a b c x out ≡ out
    → window out a b c (x ∷ s) ≡ out ∷ window out b c x s
unfolding window
one_more out a b c x s e = ap (λ (o : Bool). o ∷ window o b c x s) e

short_turn : (out a b x : Bool) (k : ℕ) (s : List Bool) → 0 < k → k < 4 → ShortRun out a b (not x) x k s
short_turn out a b x zero s p l = absurd (omega arith)
short_turn out a b x (suc zero) s p l = (b, not x, one_more out a b (not x) x s (kept_first a b x out))
short_turn out a b x (suc (suc zero)) s p l =
    let second = one_more out b (not x) x x s (kept_second b x out) in
    (not x, x, one_more out a b (not x) x (x ∷ s) (kept_first a b x out) ∙ ap (λ t. out ∷ t) second)
short_turn out a b x (suc (suc (suc zero))) s p l =
    let third = one_more out (not x) x x x s (kept_third x out) in
    let second = one_more out b (not x) x x (x ∷ s) (kept_second b x out) ∙ ap (λ t. out ∷ t) third in
    (x, x, one_more out a b (not x) x (x ∷ x ∷ s) (kept_first a b x out) ∙ ap (λ t. out ∷ t) second)
short_turn out a b x (suc (suc (suc (suc k)))) s p l = absurd (omega arith)

pub short_run : (out a b c x : Bool) (k : ℕ) (s : List Bool) → Turns out a b c x → 0 < k → k < 4
    → ShortRun out a b c x k s
short_run out a b c x k s (inl e) p l =
    let r = short_turn out a b x k s p l in
    (r.0, r.1, ap (λ (y : Bool). window out a b y (replicate k x ++ s)) e ∙ r.2)
short_run out a b c x k s (inr (e, f, g, h)) p l = (x, x, rw (e, f, g, h) (steady_same x k s))

-- ---- the loop

-- the smoothed levels of the columns before this one, and what the window makes of the columns from this one on
pub record Halfway (system : System) (levels : List Bool) (column : ℕ) (out : Bool) (state : State) : Type 0 where
  pub front : List Bool
  pub a : Bool
  pub b : Bool
  pub c : Bool
  pub whole : smooth_of levels ≡ front ++ window out a b c (drop column levels)
  pub state_is : state ≡ state_after system front
  pub turns : column < length levels → Turns out a b c (level_at levels column)

pub begins : (system : System) (levels : List Bool) → Halfway system levels 0 false (state_after system [])
begins system levels = record {
  front = [];
  a = false;
  b = false;
  c = false;
  whole = smooth_window levels;
  state_is = refl;
  turns = λ l. first (level_at levels 0);
}
  where
    first : (x : Bool) → Turns false false false false x
    first true = inl refl
    first false = inr (refl, refl, refl, refl)

-- the state after a run of n levels v
state_on : (system : System) (front : List Bool) (v : Bool) (n : ℕ) (state new : State)
    → state ≡ state_after system front → new ≡ after_of system state (replicate n v)
    → new ≡ state_after system (front ++ replicate n v)
state_on system front v n state new is e = grind (arith, after_of, after_append)

-- no word is shown where the machine dies in a run of n levels v
run_dies : (system : System) (s front rest : List Bool) (v : Bool) (n : ℕ) (state : State)
    → s ≡ front ++ (replicate n v ++ rest) → state ≡ state_after system front
    → (lived : ℕ) → lived < n → DiesAfter system state v lived → ShowsNone system s
run_dies system s front rest v n state e is lived within dies w shows =
    let k : ℕ = lived + 1 in
    let count : n ≡ k + (n - k) = omega arith in
    let whole : s ≡ (front ++ replicate k v) ++ (replicate (n - k) v ++ rest)
    = e ∙ ap (λ (m : ℕ). front ++ (replicate m v ++ rest)) count
    ∙ ap (λ (t : List Bool). front ++ t) (sym (run_joined k (n - k) v rest))
    ∙ sym (append_assoc front (replicate k v) (replicate (n - k) v ++ rest)) in
    let gone : state_after system (front ++ replicate k v) ≡ dead
    = sym (state_on system front v k state dead is (sym dies.1)) in
    viable_alive system (front ++ replicate k v)
    (replicate (n - k) v ++ rest, w, subst (λ (t : List Bool). Shows system t w) whole shows) gone

module _ {system : System} {levels : List Bool} {column : ℕ} {out : Bool} {state : State}
    (h : Halfway system levels column out state) {x : Bool} {count : ℕ} (run : IsRun levels column x count) where
  -- the levels after the run
  abbrev rest : List Bool
  rest = drop (column + count) levels

  turning : Turns out h.a h.b h.c x
  turning = grind arith

  next_turn : (o a b : Bool) → column + count < length levels → Turns o a b x (level_at levels (column + count))
  next_turn o a b l = grind arith

  spread : (a b c : Bool) → window out a b c (drop column levels) ≡ window out a b c (replicate count x ++ rest)
  spread a b c = ap (window out a b c) (equal_from levels column count x run.inside run.each)

  pub fits : IsFit system state
  fits = subst (IsFit system) (sym h.state_is) (fit_after system h.front)

  -- ---- a run of fewer than four columns

  short_whole : count < 4
      → (a : Bool) × (b : Bool) × (smooth_of levels ≡ h.front ++ (replicate count out ++ window out a b x rest))
  short_whole l =
      let r = short_run out h.a h.b h.c x count rest turning run.some l in
      (r.0, r.1, h.whole ∙ ap (λ (t : List Bool). h.front ++ t) (spread h.a h.b h.c ∙ r.2))

  pub short_on : count < 4 → (new : State) → new ≡ after_of system state (replicate count out)
      → Halfway system levels (column + count) out new
  short_on l new e =
      let r = short_whole l in
      record {
        front = h.front ++ replicate count out;
        a = r.0;
        b = r.1;
        c = x;
        whole = r.2 ∙ sym (append_assoc h.front (replicate count out) (window out r.0 r.1 x rest));
        state_is = state_on system h.front out count state new h.state_is e;
        turns = next_turn out r.0 r.1;
      }

  pub short_dies : count < 4 → (lived : ℕ) → lived < count → DiesAfter system state out lived
      → ShowsNone system (smooth_of levels)
  short_dies l =
      let r = short_whole l in
      run_dies system (smooth_of levels) h.front (window out r.0 r.1 x rest) out count state r.2 h.state_is

  -- ---- a longer run: its first three columns have the level before it

  long_whole : 4 ≤ count
      → smooth_of levels ≡ h.front ++ (replicate 3 out ++ (replicate (count - 3) x ++ steady x rest))
  long_whole l = grind (arith, spread, long_run, turning)

  pub first_dies : 4 ≤ count → (lived : ℕ) → lived < 3 → DiesAfter system state out lived
      → ShowsNone system (smooth_of levels)
  first_dies l = run_dies system (smooth_of levels) h.front (replicate (count - 3) x ++ steady x rest) out 3 state
      (long_whole l) h.state_is

  module _ (l : 4 ≤ count) (middle : State) (e : middle ≡ after_of system state (replicate 3 out)) where
    -- the smoothed levels up to the fourth column of the run
    abbrev begun : List Bool
    begun = h.front ++ replicate 3 out

    middle_is : middle ≡ state_after system begun
    middle_is = state_on system h.front out 3 state middle h.state_is e

    pub middle_fits : IsFit system middle
    middle_fits = subst (IsFit system) (sym middle_is) (fit_after system begun)

    middle_whole : smooth_of levels ≡ begun ++ (replicate (count - 3) x ++ steady x rest)
    middle_whole = grind (arith, long_whole, append_assoc, steady)

    pub long_on : (new : State) → new ≡ after_of system middle (replicate (count - 3) x)
        → Halfway system levels (column + count) x new
    long_on new f = record {
      front = begun ++ replicate (count - 3) x;
      a = x;
      b = x;
      c = x;
      whole = middle_whole ∙ sym (append_assoc begun (replicate (count - 3) x) (steady x rest));
      state_is = state_on system begun x (count - 3) middle new middle_is f;
      turns = next_turn x x x;
    }

    pub second_dies : (lived : ℕ) → lived < count - 3 → DiesAfter system middle x lived
        → ShowsNone system (smooth_of levels)
    second_dies =
        run_dies system (smooth_of levels) begun (steady x rest) x (count - 3) middle middle_whole middle_is

-- ---- at the end

window_empty : (out a b c : Bool) → window out a b c [] ≡ []
unfolding window
window_empty out a b c = refl

module _ {system : System} {levels : List Bool} {column : ℕ} {out : Bool} {state : State}
    (h : Halfway system levels column out state) (past : length levels ≤ column) where
  all : smooth_of levels ≡ h.front
  all = grind (arith, window, drop_all, window_empty, append-nil)

  at_end : state ≡ state_after system (smooth_of levels)
  at_end = h.state_is ∙ ap (state_after system) (sym all)

  -- how the machine ends, by the state
  ending : ending_of system (state_after system (smooth_of levels)) ≡ ending_of system state
  ending = ap (ending_of system) (sym at_end)

  pub fits_end : IsFit system state
  fits_end = subst (IsFit system) (sym at_end) (fit_after system (smooth_of levels))

  pub shows : (w : ℕ) → IsWord w → ending_of system state ≡ Some (lowest_bits 24 w)
      → Shows system (smooth_of levels) w
  shows w range e = ended_shows system (smooth_of levels) w range (ending ∙ e)

  pub none : ending_of system state ≡ None → ShowsNone system (smooth_of levels)
  none e = ended_none system (smooth_of levels) (ending ∙ e)
