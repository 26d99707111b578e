-- A word's levels, read cell by cell: a list of bits in place of a number, and the lows after the last half cell.
use Rattle.vbi_words.proofs.Common.{◌≡◌, ℕ, suc, zero, ◌≤◌, ◌<◌, ◌+◌, ◌-◌, Bool, true, false, List, [], ◌∷◌, ◌++◌, ◌⊎◌}
use Rattle.vbi_words.proofs.Common.{inl, inr, refl, ap, sym, ◌∙◌, subst, arith, append_assoc, replicate, not, flat_map}
use Rattle.vbi_words.proofs.Common.{cell_of, Spells}
use Rattle.std.proofs.Common.{max}
use Rattle.std.proofs.Math.Bool.{not-not}
use Rattle.vbi_words.proofs.Sizes.{Sizes, AreApart}
use Rattle.vbi_words.proofs.Runs
use Rattle.vbi_words.proofs.Runs.{Run}

-- levels are low throughout
abbrev pub Lows : List Bool → Type 0
Lows levels = (n : ℕ) × (levels ≡ replicate n false)

-- levels are the cells of these bits, from the start of a cell, and then lows
abbrev pub Cells : Sizes → List Bool → List Bool → Type 0
Cells sizes [] = Lows
Cells sizes (b ∷ bits) = Run sizes (not b) (Run sizes b (Cells sizes bits))

-- levels are one half cell of v, then the cells of these bits, and then lows
abbrev pub Half : Sizes → Bool → List Bool → List Bool → Type 0
Half sizes v bits = Run sizes v (Cells sizes bits)

-- levels are lows, then the cells of these bits, then lows
abbrev pub Draws : Sizes → List Bool → List Bool → Type 0
Draws sizes bits levels =
    (before : ℕ) × (rest : List Bool) × (levels ≡ replicate before false ++ rest) × Cells sizes bits rest

module _ (sizes : Sizes) where
  open sizes use {least, greatest}

  -- the levels spell the half cells of these bits
  abbrev SpellsCells : List Bool → List Bool → Type 0
  SpellsCells bits = Spells least greatest (flat_map cell_of bits)

  halves_spelled : (a b : Bool) (bits : List Bool) (levels : List Bool) (after : ℕ)
      → ((rest : List Bool) → SpellsCells bits rest → Cells sizes bits (rest ++ replicate after false))
      → Spells least greatest (a ∷ b ∷ flat_map cell_of bits) levels
      → Run sizes a (Half sizes b bits) (levels ++ replicate after false)
  halves_spelled a b bits levels after ih (n, r, low, high, e, (m, q, low', high', e', s)) =
      grind (arith, append_assoc)

  pub cells_from_spelled : (bits levels : List Bool) (after : ℕ) → SpellsCells bits levels
      → Cells sizes bits (levels ++ replicate after false)
  cells_from_spelled [] levels after e = (after, rw e)
  cells_from_spelled (true ∷ bits) levels after s =
      halves_spelled false true bits levels after (λ rest t. cells_from_spelled bits rest after t) s
  cells_from_spelled (false ∷ bits) levels after s =
      halves_spelled true false bits levels after (λ rest t. cells_from_spelled bits rest after t) s

  -- the levels of these half cells, without the lows after them
  abbrev DrawnHalves : List Bool → List Bool → Type 0
  DrawnHalves halves levels =
      (drawn : List Bool) × (after : ℕ) × Spells least greatest halves drawn × (levels ≡ drawn ++ replicate after false)

  -- the same of the half cells of these bits
  abbrev pub Drawn : List Bool → List Bool → Type 0
  Drawn bits = DrawnHalves (flat_map cell_of bits)

  run_drawn : (a b : Bool) (bits levels : List Bool) → ((rest : List Bool) → Cells sizes bits rest → Drawn bits rest)
      → Run sizes a (Half sizes b bits) levels → DrawnHalves (a ∷ b ∷ flat_map cell_of bits) levels
  run_drawn a b bits levels ih r =
      let q = r.then in
      let d = ih q.rest q.then in
      let second : q.rest ≡ d.0 ++ replicate d.1 false = d.3 in
      let first : r.rest ≡ replicate q.count b ++ (d.0 ++ replicate d.1 false)
      = q.whole ∙ ap (λ (t : List Bool). replicate q.count b ++ t) second in (
        replicate r.count a ++ (replicate q.count b ++ d.0),
        d.1,
        (
          r.count,
          replicate q.count b ++ d.0,
          r.at_least,
          r.at_most,
          refl,
          (q.count, d.0, q.at_least, q.at_most, refl, d.2),
        ),
        rw (append_assoc, append_assoc) (r.whole ∙ ap (λ (t : List Bool). replicate r.count a ++ t) first),
      )

  pub drawn_from_cells : (bits levels : List Bool) → Cells sizes bits levels → Drawn bits levels
  drawn_from_cells [] levels lows = ([], lows.0, refl, lows.1)
  drawn_from_cells (true ∷ bits) levels r = run_drawn false true bits levels (λ rest t. drawn_from_cells bits rest t) r
  drawn_from_cells (false ∷ bits) levels r = run_drawn true false bits levels (λ rest t. drawn_from_cells bits rest t) r

  -- the run that begins at a cell's start ends at a change: it is the first half
  abbrev pub First : Bool → Bool → List Bool → ℕ → List Bool → Type 0
  First b v bits n s = (b ≡ not v) × (least ≤ n) × (n ≤ greatest) × Half sizes (not v) bits (not v ∷ s)

  -- the run that begins in the middle of a cell ends at a change: it is a single half
  abbrev pub Single : List Bool → Bool → ℕ → List Bool → Type 0
  Single bits v n s = (least ≤ n) × (n ≤ greatest) × Cells sizes bits (not v ∷ s)

  -- the run that begins in the middle of a cell ends at a change: it is that half and the first half of the next cell
  abbrev pub Double : List Bool → Bool → ℕ → List Bool → Type 0
  Double bits v n s = (todo : List Bool) × (bits ≡ not v ∷ todo) × (least + least ≤ n) × (n ≤ greatest + greatest)
      × Half sizes (not v) todo (not v ∷ s)

  -- the first low half joins the lows before it
  abbrev pub LowHalf : List Bool → ℕ → List Bool → Type 0
  LowHalf todo n s = (least ≤ n) × Half sizes true todo (true ∷ s)

pub lows_head : (v : Bool) (s : List Bool) → Lows (v ∷ s) → v ≡ false
lows_head v s (zero, e) = cc
lows_head v s (suc n, e) = cc

pub lows_tail : (v : Bool) (s : List Bool) → Lows (v ∷ s) → Lows s
lows_tail v s (zero, e) = cc
lows_tail v s (suc n, e) = (n, Runs.same_tail e)

-- lows have no change
lows_change : (v : Bool) (k : ℕ) (s : List Bool) → Lows (replicate k v ++ (not v ∷ s)) → 0 < k → ⊥
lows_change v zero s l some = omega arith
lows_change v (suc k) s l some =
    go k (lows_head v (replicate k v ++ (not v ∷ s)) l) (lows_tail v (replicate k v ++ (not v ∷ s)) l)
  where
    go : (k : ℕ) → v ≡ false → Lows (replicate k v ++ (not v ∷ s)) → ⊥
    go zero e l = Runs.not_same v (e ∙ sym (lows_head (not v) s l))
    go (suc k) e l = go k e (lows_tail v (replicate k v ++ (not v ∷ s)) l)

module _ {sizes : Sizes} (ok : AreApart sizes) where
  open sizes use {least, greatest}

  -- lows alone are the start of no cell
  pub cells_not_alone : (b v : Bool) (bits : List Bool) (n : ℕ) → Cells sizes (b ∷ bits) (replicate n v) → ⊥
  cells_not_alone true v bits n r = Runs.no_change ok v false n r
  cells_not_alone false v bits n r = Runs.no_change ok v true n r

  -- ---- levels that are too long

  -- no list is as long as this in one level at a cell's start
  pub cell_too_long : (b v : Bool) (bits s : List Bool) (n : ℕ) → greatest < n
      → Cells sizes (b ∷ bits) (replicate n v ++ s) → ⊥
  cell_too_long b v bits s n long r =
      let half : v ≡ not b = Runs.run_head_of ok v n s (omega arith) r in
      let first : Run sizes v (Half sizes b bits) (replicate n v ++ s)
      = subst (λ (x : Bool). Run sizes x (Half sizes b bits) (replicate n v ++ s)) (sym half) r in
      let c = Runs.run_too_long ok v n s long first in
      let next : v ≡ b = Runs.run_head_of ok v c.1 s (omega (arith, c.2, c.3)) c.4 in
      Runs.not_same b (sym next ∙ half)

  -- nor twice as long in the middle of a cell that isn't the last
  pub half_too_long : (b v : Bool) (bits s : List Bool) (n : ℕ) → greatest + greatest < n
      → Half sizes v (b ∷ bits) (replicate n v ++ s) → ⊥
  half_too_long b v bits s n long r =
      let c = Runs.run_too_long ok v n s (omega arith) r in
      cell_too_long b v bits s c.1 (omega (arith, c.2, c.3)) c.4

  -- the high half of the last cell
  pub last_too_long : (s : List Bool) (n : ℕ) → greatest < n → Half sizes true [] (replicate n true ++ s) → ⊥
  last_too_long s n long r =
      let c = Runs.run_too_long ok true n s long r in
      go c.1 (omega (arith, c.2, c.3)) c.4
    where
      go : (k : ℕ) → 0 < k → Lows (replicate k true ++ s) → ⊥
      go zero some l = omega arith
      go (suc k) some l = let e : true ≡ false = lows_head true (replicate k true ++ s) l in cc

  -- ---- a change of level

  pub cell_at_change : (b v : Bool) (bits s : List Bool) (n : ℕ) → 0 < n
      → Cells sizes (b ∷ bits) (replicate n v ++ (not v ∷ s)) → First sizes b v bits n s
  cell_at_change b v bits s n some r =
      let half : v ≡ not b = Runs.run_head_of ok v n (not v ∷ s) some r in
      let bit : b ≡ not v = sym (not-not b) ∙ ap not (sym half) in
      let levels : List Bool = replicate n v ++ (not v ∷ s) in
      let first : Run sizes v (Half sizes b bits) levels
      = subst (λ (x : Bool). Run sizes x (Half sizes b bits) levels) (sym half) r in
      let both : Run sizes v (Half sizes (not v) bits) levels
      = subst (λ (x : Bool). Run sizes v (Half sizes x bits) levels) bit first in
      let c = Runs.run_at_change ok v n s both in
      finish bit c.0 c.1 c.2 c.3 c.4 c.5
    where
      finish : b ≡ not v → (m k : ℕ) → least ≤ m → m ≤ greatest → n ≡ m + k
          → Half sizes (not v) bits (replicate k v ++ (not v ∷ s)) → First sizes b v bits n s
      finish bit m zero low high e p = (bit, omega arith, omega arith, p)
      finish bit m (suc k) low high e p = absurd (Runs.not_same v (Runs.run_head ok p))

  pub half_at_change : (v : Bool) (bits s : List Bool) (n : ℕ) → Half sizes v bits (replicate n v ++ (not v ∷ s))
      → Single sizes bits v n s ⊎ Double sizes bits v n s
  half_at_change v bits s n r =
      let c = Runs.run_at_change ok v n s r in
      go bits c.0 c.1 c.2 c.3 c.4 c.5
    where
      go : (bits : List Bool) → (m k : ℕ) → least ≤ m → m ≤ greatest → n ≡ m + k
          → Cells sizes bits (replicate k v ++ (not v ∷ s)) → Single sizes bits v n s ⊎ Double sizes bits v n s
      go bits m zero low high e p = inl (omega arith, omega arith, p)
      go [] m (suc k) low high e p = absurd (lows_change v (suc k) s p (omega arith))
      go (b ∷ todo) m (suc k) low high e p =
          let c = cell_at_change b v todo s (suc k) (omega arith) p in
          inr (todo, ap (λ (x : Bool). x ∷ todo) c.0, omega (arith, c.1), omega (arith, c.2), c.3)

  -- ---- half cells in front of levels

  pub single_half : (v : Bool) (bits s : List Bool) (n : ℕ) → least ≤ n → n ≤ greatest → Cells sizes bits s
      → Half sizes v bits (replicate n v ++ s)
  single_half v bits s n low high p = grind arith

  pub first_half : (v : Bool) (todo s : List Bool) (n : ℕ) → least ≤ n → n ≤ greatest → Half sizes (not v) todo s
      → Cells sizes (not v ∷ todo) (replicate n v ++ s)
  first_half v todo s n low high p = grind arith

  pub double_half : (v : Bool) (todo s : List Bool) (n : ℕ) → least + least ≤ n → n ≤ greatest + greatest
      → Half sizes (not v) todo s → Half sizes v (not v ∷ todo) (replicate n v ++ s)
  double_half v todo s n low high p =
      let m : ℕ = max least (n - greatest) in
      let k : ℕ = n - m in
      let e : n ≡ m + k = omega arith in
      record {
        count = m;
        rest = replicate k v ++ s;
        at_least = omega arith;
        at_most = omega arith;
        whole = ap (λ (j : ℕ). replicate j v ++ s) e ∙ sym (Runs.run_joined m k v s);
        then = first_half v todo s k (omega arith) (omega arith) p;
      }

  -- ---- lows before a word

  pub lead_at_change : (todo s : List Bool) (n : ℕ) → Draws sizes (true ∷ todo) (replicate n false ++ (true ∷ s))
      → LowHalf sizes todo n s
  lead_at_change todo s n (a, rest, e, r) =
      let whole : replicate n false ++ (true ∷ s) ≡ replicate (a + r.count) false ++ r.rest
      = e ∙ ap (λ (t : List Bool). replicate a false ++ t) r.whole ∙ Runs.run_joined a r.count false r.rest in
      let c = Runs.cut (a + r.count) n false s r.rest whole in
      go c.0 c.1 (subst (Half sizes true todo) c.2 r.then) r.at_least
    where
      go : (k : ℕ) → n ≡ a + r.count + k → Half sizes true todo (replicate k false ++ (true ∷ s)) → least ≤ r.count
          → LowHalf sizes todo n s
      go zero e p low = (omega arith, p)
      go (suc k) e p low = absurd (Runs.not_same false (Runs.run_head ok p))

  pub lead_then : (todo s : List Bool) (n : ℕ) → least ≤ n → Half sizes true todo s
      → Draws sizes (true ∷ todo) (replicate n false ++ s)
  lead_then todo s n low p =
      let e : n ≡ (n - least) + least = omega arith in (
        n - least,
        replicate least false ++ s,
        ap (λ (j : ℕ). replicate j false ++ s) e ∙ sym (Runs.run_joined (n - least) least false s),
        first_half false todo s least (omega arith) ok.order p,
      )

  -- lows alone are no word
  pub lead_not_alone : (todo : List Bool) (n : ℕ) → Draws sizes (true ∷ todo) (replicate n false) → ⊥
  lead_not_alone todo n (a, rest, e, r) = go a n e
    where
      go : (a n : ℕ) → replicate n false ≡ replicate a false ++ rest → ⊥
      go zero n e = cells_not_alone true false todo n (subst (Cells sizes (true ∷ todo)) (sym e) r)
      go (suc a) zero e = cc
      go (suc a) (suc n) e = go a n (Runs.same_tail e)
