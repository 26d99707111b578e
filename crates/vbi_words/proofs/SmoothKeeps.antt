-- Smoothing moves a shown word's columns three to the right, and takes away short glitches.
use Rattle.vbi_words.proofs.Common.{◌≡◌, ℕ, suc, zero, ◌≤◌, ◌+◌, ◌-◌, Bool, true, false, List, [], ◌∷◌, ◌++◌, refl, ap}
use Rattle.vbi_words.proofs.Common.{sym, ◌∙◌, arith, append_assoc, replicate, append-nil, replicate-append-replicate}
use Rattle.vbi_words.proofs.Common.{not, level_of_four, Spells, length}
use Rattle.vbi_words.specs.Smooth.{smooth_of}
use Rattle.vbi_words.proofs.Runs.{run_joined}
use Rattle.vbi_words.proofs.Smoothing.{window, smooth_window}

-- the window after four equal levels
abbrev pub steady : Bool → List Bool → List Bool
steady v s = window v v v v s

-- n lows
abbrev lows : ℕ → List Bool
lows n = replicate n false

-- more of the same level
pub steady_same : (v : Bool) (k : ℕ) (s : List Bool) → steady v (replicate k v ++ s) ≡ replicate k v ++ steady v s
unfolding window
steady_same true zero s = refl
steady_same false zero s = refl
steady_same true (suc k) s = ap (λ t. true ∷ t) (steady_same true k s)
steady_same false (suc k) s = ap (λ t. false ∷ t) (steady_same false k s)

-- four or more of any level: the first three are read as the level before
steady_four : (v h : Bool) (s : List Bool) → steady v (h ∷ h ∷ h ∷ h ∷ s) ≡ v ∷ v ∷ v ∷ h ∷ steady h s
unfolding window
steady_four v h s = grind arith

pub steady_run : (v h : Bool) (k : ℕ) (s : List Bool) → 4 ≤ k
    → steady v (replicate k h ++ s) ≡ replicate 3 v ++ (replicate (k - 3) h ++ steady h s)
steady_run v h (suc (suc (suc (suc k)))) s l =
    let e : suc k ≡ suc (suc (suc (suc k))) - 3 = omega arith in
    steady_four v h (replicate k h ++ s) ∙ ap (λ t. v ∷ v ∷ v ∷ h ∷ t) (steady_same h k s)
    ∙ ap (λ (n : ℕ). v ∷ v ∷ v ∷ (replicate n h ++ steady h s)) e
steady_run v h zero s l = absurd (omega arith)
steady_run v h (suc zero) s l = absurd (omega arith)
steady_run v h (suc (suc zero)) s l = absurd (omega arith)
steady_run v h (suc (suc (suc zero))) s l = absurd (omega arith)

-- ---- a glitch

-- one to three of the other level leave no trace between four and four
glitch : (v : Bool) (m : ℕ) (s : List Bool) → m ≤ 3
    → steady v (replicate m (not v) ++ (replicate 4 v ++ s)) ≡ replicate m v ++ (replicate 4 v ++ steady v s)
unfolding window
glitch true zero s l = refl
glitch false zero s l = refl
glitch true (suc zero) s l = refl
glitch false (suc zero) s l = refl
glitch true (suc (suc zero)) s l = refl
glitch false (suc (suc zero)) s l = refl
glitch true (suc (suc (suc zero))) s l = refl
glitch false (suc (suc (suc zero))) s l = refl
glitch v (suc (suc (suc (suc m)))) s l = absurd (omega arith)

-- the window makes some front of p and four levels v, and is steady after them
abbrev Steadies : Bool → Bool → Bool → Bool → Bool → List Bool → Type 0
Steadies o a b c v p =
    (front : List Bool) × ((s : List Bool) → window o a b c (p ++ (replicate 4 v ++ s)) ≡ front ++ steady v s)

-- after four equal levels nothing is left of what was before
from_any : (o a b c v : Bool) → Steadies o a b c v []
unfolding window
from_any o a b c v =
    go one (level_of_four b c v v one) (level_of_four c v v v (level_of_four b c v v one)) refl refl refl
  where
    one : Bool
    one = level_of_four a b c v o

    last : (v o : Bool) → level_of_four v v v v o ≡ v
    last true o = refl
    last false o = refl

    go : (x y z : Bool) → level_of_four a b c v o ≡ x → level_of_four b c v v x ≡ y → level_of_four c v v v y ≡ z
        → (front : List Bool) × ((s : List Bool) → window o a b c (replicate 4 v ++ s) ≡ front ++ steady v s)
    go x y z e f g = (x ∷ y ∷ z ∷ v ∷ [], λ s. rw (e, f, g, last))

after_any : (o a b c v : Bool) (p : List Bool) → Steadies o a b c v p
unfolding window
after_any o a b c v [] = from_any o a b c v
after_any o a b c v (x ∷ p) =
    let r = after_any (level_of_four a b c x o) b c x v p in
    (level_of_four a b c x o ∷ r.0, λ s. ap (λ t. level_of_four a b c x o ∷ t) (r.1 s))

-- some levels between four and four equal ones
abbrev pub between : Bool → List Bool → List Bool → List Bool
between v middle back = replicate 4 v ++ (middle ++ (replicate 4 v ++ back))

-- levels with a glitch and without it are smoothed to the same
pub same_smooth : (front back : List Bool) (v : Bool) (m : ℕ) → m ≤ 3
    → smooth_of (front ++ between v (replicate m (not v)) back) ≡ smooth_of (front ++ between v (replicate m v) back)
same_smooth front back v m l =
    let r = after_any false false false false v front in
    let plain : steady v (replicate m v ++ (replicate 4 v ++ back)) ≡ replicate m v ++ (replicate 4 v ++ steady v back)
    = steady_same v m (replicate 4 v ++ back) ∙ ap (λ t. replicate m v ++ t) (steady_same v 4 back) in
    smooth_window (front ++ between v (replicate m (not v)) back)
    ∙ r.1 (replicate m (not v) ++ (replicate 4 v ++ back)) ∙ ap (λ t. r.0 ++ t) (glitch v m back l ∙ sym plain)
    ∙ sym (r.1 (replicate m v ++ (replicate 4 v ++ back)))
    ∙ sym (smooth_window (front ++ between v (replicate m v) back))

-- ---- a word's half cells

-- after four levels v, these come out three columns later, the last three of them not yet
pub record ComesLater (v : Bool) (drawn : List Bool) : Type 0 where
  pub out : List Bool
  pub end : Bool
  pub same : replicate 3 v ++ drawn ≡ out ++ replicate 3 end
  pub goes_on : (s : List Bool) → steady v (drawn ++ s) ≡ out ++ steady end s

-- halves of at least four levels each do
pub halves_later : (least greatest : ℕ) → 4 ≤ least → (v : Bool) (halves drawn : List Bool)
    → Spells least greatest halves drawn → ComesLater v drawn
halves_later least greatest four v [] drawn e = record {
  out = [];
  end = v;
  same = ap (λ t. replicate 3 v ++ t) e;
  goes_on = λ s. ap (λ t. steady v (t ++ s)) e;
}
halves_later least greatest four v (h ∷ halves) drawn (n, rest, low, high, e, spelled) =
    let r = halves_later least greatest four h halves rest spelled in
    let inner : List Bool = replicate (n - 3) h ++ r.out in
    let whole : n ≡ (n - 3) + 3 = omega arith in
    let behind : replicate n h ++ rest ≡ inner ++ replicate 3 r.end
    = ap (λ (k : ℕ). replicate k h ++ rest) whole ∙ sym (run_joined (n - 3) 3 h rest)
    ∙ ap (λ t. replicate (n - 3) h ++ t) r.same ∙ sym (append_assoc (replicate (n - 3) h) r.out (replicate 3 r.end)) in
    record {
      out = replicate 3 v ++ inner;
      end = r.end;
      same = ap (λ t. replicate 3 v ++ t) (e ∙ behind) ∙ sym (append_assoc (replicate 3 v) inner (replicate 3 r.end));
      goes_on = λ s. ap (λ t. steady v (t ++ s)) e ∙ ap (steady v) (append_assoc (replicate n h) rest s)
          ∙ steady_run v h n (rest ++ s) (omega arith)
          ∙ ap (λ t. replicate 3 v ++ (replicate (n - 3) h ++ t)) (r.goes_on s)
          ∙ ap (λ t. replicate 3 v ++ t) (sym (append_assoc (replicate (n - 3) h) r.out (steady r.end s)))
          ∙ sym (append_assoc (replicate 3 v) inner (steady r.end s));
    }

-- lows after a level
pub lows_after : (v : Bool) (b : ℕ) → 3 ≤ b → steady v (lows b) ≡ replicate 3 v ++ lows (b - 3)
unfolding window
lows_after v zero l = absurd (omega arith)
lows_after v (suc zero) l = absurd (omega arith)
lows_after v (suc (suc zero)) l = absurd (omega arith)
lows_after true (suc (suc (suc zero))) l = refl
lows_after false (suc (suc (suc zero))) l = refl
lows_after v (suc (suc (suc (suc b)))) l =
    ap (steady v) (sym (append-nil (lows (suc (suc (suc (suc b)))))))
    ∙ steady_run v false (suc (suc (suc (suc b)))) [] (omega arith)
    ∙ ap (λ t. replicate 3 v ++ t) (append-nil (lows (suc (suc (suc (suc b))) - 3)))

-- they come out but for the last three
pub record Kept (v : Bool) (b : ℕ) : Type 0 where
  pub out : List Bool
  pub last : List Bool
  pub same : replicate 3 v ++ lows b ≡ out ++ last
  pub three : length last ≡ 3
  pub is : steady v (lows b) ≡ out

pub lows_kept : (v : Bool) (b : ℕ) → Kept v b
unfolding window
lows_kept true zero = record { out = []; last = replicate 3 true; same = refl; three = refl; is = refl }
lows_kept false zero = record { out = []; last = lows 3; same = refl; three = refl; is = refl }
lows_kept true (suc zero) =
    record { out = true ∷ []; last = true ∷ true ∷ false ∷ []; same = refl; three = refl; is = refl }
lows_kept false (suc zero) = record { out = lows 1; last = lows 3; same = refl; three = refl; is = refl }
lows_kept true (suc (suc zero)) =
    record { out = true ∷ true ∷ []; last = true ∷ false ∷ false ∷ []; same = refl; three = refl; is = refl }
lows_kept false (suc (suc zero)) = record { out = lows 2; last = lows 3; same = refl; three = refl; is = refl }
lows_kept v (suc (suc (suc b))) =
    let n : ℕ = suc (suc (suc b)) in
    let e : n ≡ n - 3 + 3 = omega arith in
    record {
      out = replicate 3 v ++ lows (n - 3);
      last = lows 3;
      same = ap (λ (k : ℕ). replicate 3 v ++ lows k) e
          ∙ ap (λ t. replicate 3 v ++ t) (sym (replicate-append-replicate (n - 3) 3 false))
          ∙ sym (append_assoc (replicate 3 v) (lows (n - 3)) (lows 3));
      three = refl;
      is = lows_after v n (omega arith);
    }

-- ---- a shown list

module _ (least greatest : ℕ) (four : 4 ≤ least) (halves drawn : List Bool)
    (spelled : Spells least greatest halves drawn) (a b : ℕ) where
  -- the word and the lows after it
  abbrev behind : List Bool
  behind = drawn ++ lows b

  whole : smooth_of (lows a ++ behind) ≡ lows a ++ steady false behind
  whole = smooth_window (lows a ++ behind) ∙ steady_same false a behind

  -- with three lows after it, it is moved by three columns
  pub moved : 3 ≤ b → smooth_of (lows a ++ behind) ≡ lows (a + 3) ++ (drawn ++ lows (b - 3))
  moved l =
      let r = halves_later least greatest four false halves drawn spelled in
      let inner : steady false behind ≡ lows 3 ++ (drawn ++ lows (b - 3))
      = r.goes_on (lows b) ∙ ap (λ t. r.out ++ t) (lows_after r.end b l)
      ∙ sym (append_assoc r.out (replicate 3 r.end) (lows (b - 3)))
      ∙ ap (λ t. t ++ lows (b - 3)) (sym r.same) ∙ append_assoc (lows 3) drawn (lows (b - 3)) in
      whole ∙ ap (λ t. lows a ++ t) inner ∙ run_joined a 3 false (drawn ++ lows (b - 3))

  -- in any case all but its last three columns are
  pub later : (last : List Bool) × (length last ≡ 3)
      × (lows 3 ++ (lows a ++ behind) ≡ smooth_of (lows a ++ behind) ++ last)
  later =
      let r = halves_later least greatest four false halves drawn spelled in
      let k = lows_kept r.end b in
      let order : 3 + a ≡ a + 3 = omega arith in
      let kept : replicate 3 r.end ++ lows b ≡ steady r.end (lows b) ++ k.last
      = k.same ∙ ap (λ t. t ++ k.last) (sym k.is) in
      let inner : lows 3 ++ behind ≡ steady false behind ++ k.last
      = sym (append_assoc (lows 3) drawn (lows b)) ∙ ap (λ t. t ++ lows b) r.same
      ∙ append_assoc r.out (replicate 3 r.end) (lows b) ∙ ap (λ t. r.out ++ t) kept
      ∙ sym (append_assoc r.out (steady r.end (lows b)) k.last)
      ∙ ap (λ t. t ++ k.last) (sym (r.goes_on (lows b))) in (
        k.last,
        k.three,
        run_joined 3 a false behind ∙ ap (λ (n : ℕ). lows n ++ behind) order ∙ sym (run_joined a 3 false behind)
            ∙ ap (λ t. lows a ++ t) inner ∙ sym (append_assoc (lows a) (steady false behind) k.last)
            ∙ ap (λ t. t ++ k.last) (sym whole),
      )
