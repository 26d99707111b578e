-- Two lists of one length that differ in few columns show the same word.
use Rattle.vbi_words.proofs.Common.{◌≡◌, ℕ, suc, zero, ◌≤◌, ◌<◌, ◌+◌, ◌-◌, Bool, true, false, List, [], ◌∷◌, ◌++◌, ◌⊎◌}
use Rattle.vbi_words.proofs.Common.{inl, inr, refl, sym, ap, subst, ◌∙◌, arith, replicate, cases_order, not, System}
use Rattle.vbi_words.proofs.Common.{Ntsc, Pal, half_min, half_max, Shows, differs, differences, least_distance, length}
use Rattle.std.proofs.lemmas.List.{length-replicate, length-append}
use Rattle.vbi_words.proofs.Bits
use Rattle.vbi_words.proofs.Shown.{word_bits, draws_from_shows}
use Rattle.vbi_words.proofs.Sizes.{Sizes, AreApart, sizes_of, apart_of}
use Rattle.vbi_words.proofs.Runs
use Rattle.vbi_words.proofs.Runs.{not_same, same_or_not, same_head, run_joined, cut}
use Rattle.vbi_words.proofs.Cutting
use Rattle.vbi_words.proofs.Cutting.{Cells, Half, Draws, First, Single, Double, LowHalf}

-- ---- differences

differs_same : (v : Bool) → differs v v ≡ 0
differs_same true = refl
differs_same false = refl

differs_not : (v : Bool) → differs v (not v) ≡ 1
differs_not true = refl
differs_not false = refl

differs_sym : (v w : Bool) → differs v w ≡ differs w v
differs_sym v w = grind arith

pub differences_sym : (x y : List Bool) → differences x y ≡ differences y x
differences_sym [] [] = refl
differences_sym [] (b ∷ y) = refl
differences_sym (a ∷ x) [] = refl
differences_sym (a ∷ x) (b ∷ y) = omega (arith, differs_sym a b, differences_sym x y)

both_same : (m : ℕ) (v : Bool) (x y : List Bool)
    → differences (replicate m v ++ x) (replicate m v ++ y) ≡ differences x y
both_same zero v x y = refl
both_same (suc m) v x y = omega (arith, differs_same v, both_same m v x y)

both_other : (m : ℕ) (v : Bool) (x y : List Bool)
    → differences (replicate m v ++ x) (replicate m (not v) ++ y) ≡ m + differences x y
both_other zero v x y = omega arith
both_other (suc m) v x y = omega (arith, differs_not v, both_other m v x y)

long : (m : ℕ) (v : Bool) (x : List Bool) → length (replicate m v ++ x) ≡ m + length x
long m v x = omega (arith, length-append (replicate m v) x, length-replicate m v)

-- ---- a change of level in both

-- where the one changes its level, and then the other, both are in a run of the new level
record Stepped (u : Bool) (x1 y1 : List Bool) (k1 k2 total : ℕ) : Type 0 where
  pub s : ℕ
  pub t : ℕ
  pub x : List Bool
  pub y : List Bool
  pub first : x1 ≡ replicate s u ++ x
  pub second : y1 ≡ replicate t u ++ y
  pub same : length x ≡ length y
  pub less : s + t + differences x y ≤ total
  pub near : k1 ≤ k2 + (s + t)
  pub near' : k2 ≤ k1 + (s + t)

-- y1 begins with a run of the new level
later : (v : Bool) (least k2 k l : ℕ) (x1 y1 r : List Bool) → y1 ≡ replicate l (not v) ++ r → least ≤ l
    → k2 + k + length x1 ≡ k2 + length y1
    → differences (replicate (k2 + k) v ++ x1) (replicate k2 v ++ y1) < least
    → Stepped (not v) x1 y1 (k2 + k) k2 (differences (replicate (k2 + k) v ++ x1) (replicate k2 v ++ y1))
later v least k2 k l x1 y1 r run low same few = go (cases_order k l)
  where
    total : ℕ
    total = differences (replicate (k2 + k) v ++ x1) (replicate k2 v ++ y1)

    peeled : total ≡ differences (replicate k v ++ x1) y1
    peeled = grind (arith, run_joined, both_same)

    within : k ≤ l → Stepped (not v) x1 y1 (k2 + k) k2 total
    within le =
        let y : List Bool = replicate (l - k) (not v) ++ r in
        let parts : k + (l - k) ≡ l = omega arith in
        let second : y1 ≡ replicate k (not v) ++ y
        = run ∙ ap (λ (i : ℕ). replicate i (not v) ++ r) (sym parts) ∙ sym (run_joined k (l - k) (not v) r) in
        let count : total ≡ k + differences x1 y
        = peeled ∙ ap (differences (replicate k v ++ x1)) second ∙ both_other k v x1 y in
        let len : length y1 ≡ k + length y = ap length second ∙ long k (not v) y in
        record {
          s = 0;
          t = k;
          x = x1;
          y = y;
          first = refl;
          second = second;
          same = omega (arith, same, len);
          less = omega (arith, count);
          near = omega arith;
          near' = omega arith;
        }

    beyond : l < k → ⊥
    beyond more =
        let parts : l + (k - l) ≡ k = omega arith in
        let count : total ≡ l + differences (replicate (k - l) v ++ x1) r
        = peeled ∙ ap (differences (replicate k v ++ x1)) run
        ∙ ap (λ (i : ℕ). differences (replicate i v ++ x1) (replicate l (not v) ++ r)) (sym parts)
        ∙ ap (λ (t : List Bool). differences t (replicate l (not v) ++ r)) (sym (run_joined l (k - l) v x1))
        ∙ both_other l v (replicate (k - l) v ++ x1) r in
        omega (arith, count, few, low)

    go : (k ≡ l) ⊎ ((k < l) ⊎ (l < k)) → Stepped (not v) x1 y1 (k2 + k) k2 total
    go (inl e) = within (omega arith)
    go (inr (inl less)) = within (omega arith)
    go (inr (inr more)) = absurd (beyond more)

-- a run of a level, of at least so many columns
abbrev RunOf : ℕ → Bool → List Bool → Type 0
RunOf least u x = (l : ℕ) × (r : List Bool) × (least ≤ l) × (x ≡ replicate l u ++ r)

step : (v : Bool) (least k1 k2 : ℕ) (x1 y1 : List Bool) → RunOf least (not v) x1 → RunOf least (not v) y1
    → k1 + length x1 ≡ k2 + length y1
    → differences (replicate k1 v ++ x1) (replicate k2 v ++ y1) < least
    → Stepped (not v) x1 y1 k1 k2 (differences (replicate k1 v ++ x1) (replicate k2 v ++ y1))
step v least k1 k2 x1 y1 (l1, r1, low1, run1) (l2, r2, low2, run2) same few = go (cases_order k1 k2)
  where
    down : k2 ≤ k1 → Stepped (not v) x1 y1 k1 k2 (differences (replicate k1 v ++ x1) (replicate k2 v ++ y1))
    down le =
        let e : k2 + (k1 - k2) ≡ k1 = omega arith in
        subst (λ (k : ℕ). k + length x1 ≡ k2 + length y1
        → differences (replicate k v ++ x1) (replicate k2 v ++ y1) < least
        → Stepped (not v) x1 y1 k k2 (differences (replicate k v ++ x1) (replicate k2 v ++ y1))) e
        (later v least k2 (k1 - k2) l2 x1 y1 r2 run2 low2) same few

    turned : Stepped (not v) y1 x1 k2 k1 (differences (replicate k2 v ++ y1) (replicate k1 v ++ x1))
        → Stepped (not v) x1 y1 k1 k2 (differences (replicate k1 v ++ x1) (replicate k2 v ++ y1))
    turned r = grind (arith, differences_sym)

    up : k1 ≤ k2 → Stepped (not v) x1 y1 k1 k2 (differences (replicate k1 v ++ x1) (replicate k2 v ++ y1))
    up le =
        let e : k1 + (k2 - k1) ≡ k2 = omega arith in
        let other : differences (replicate k2 v ++ y1) (replicate k1 v ++ x1) < least
        = omega (arith, few, differences_sym (replicate k2 v ++ y1) (replicate k1 v ++ x1)) in
        turned (subst (λ (k : ℕ). k + length y1 ≡ k1 + length x1
        → differences (replicate k v ++ y1) (replicate k1 v ++ x1) < least
        → Stepped (not v) y1 x1 k k1 (differences (replicate k v ++ y1) (replicate k1 v ++ x1))) e
        (later v least k1 (k2 - k1) l1 y1 x1 r1 run1 low1) (sym same) other)

    go : (k1 ≡ k2) ⊎ ((k1 < k2) ⊎ (k2 < k1))
        → Stepped (not v) x1 y1 k1 k2 (differences (replicate k1 v ++ x1) (replicate k2 v ++ y1))
    go (inl e) = down (omega arith)
    go (inr (inl less)) = up (omega arith)
    go (inr (inr more)) = down (omega arith)

-- ---- where a run ends

-- a list is one level throughout, or changes somewhere
abbrev Splits : Bool → List Bool → Type 0
Splits v levels =
    ((n : ℕ) × (levels ≡ replicate n v))
    ⊎ ((n : ℕ) × (s : List Bool) × (levels ≡ replicate n v ++ (not v ∷ s)))

split : (v : Bool) (levels : List Bool) → Splits v levels
split v [] = inl (0, refl)
split v (x ∷ levels) = go (same_or_not v x) (split v levels)
  where
    go : (x ≡ v) ⊎ (x ≡ not v) → Splits v levels → Splits v (x ∷ levels)
    go (inr e) rest = inr (0, levels, ap (λ (b : Bool). b ∷ levels) e)
    go (inl e) (inl (n, all)) = inl (suc n, ap (λ (b : Bool). b ∷ levels) e ∙ ap (λ (t : List Bool). v ∷ t) all)
    go (inl e) (inr (n, s, all)) = inr (suc n, s, ap (λ (b : Bool). b ∷ levels) e ∙ ap (λ (t : List Bool). v ∷ t) all)

module _ {sizes : Sizes} (ok : AreApart sizes) (d : ℕ) (gap : d + sizes.greatest ≤ sizes.least + sizes.least) where
  open sizes use {least, greatest}

  half_run : (u : Bool) (bits x : List Bool) → Half sizes u bits x → RunOf least u x
  half_run u bits x r = (r.count, r.rest, r.at_least, r.whole)

  cell_run : (b u : Bool) (bits s : List Bool) → Cells sizes (b ∷ bits) (u ∷ s) → RunOf least u (u ∷ s)
  cell_run b u bits s r = grind arith

  half_not_alone : (v b : Bool) (bits : List Bool) (n : ℕ) → Half sizes v (b ∷ bits) (replicate n v) → ⊥
  half_not_alone v b bits n r =
      let c = Runs.run_alone ok v n r in
      Cutting.cells_not_alone ok b v bits c.1 c.5

  -- two lists in a run of v that began s and t columns before, differing in few columns more
  record Near (v : Bool) (P Q : List Bool → Type 0) : Type 0 where
    pub s : ℕ
    pub t : ℕ
    pub x : List Bool
    pub y : List Bool
    pub first : P (replicate s v ++ x)
    pub second : Q (replicate t v ++ y)
    pub same : length x ≡ length y
    pub few : s + t + differences x y < d

  -- the same, with the place where each of the two runs ends
  record Ending (v : Bool) (P Q : List Bool → Type 0) : Type 0 where
    pub near : Near v P Q
    pub n1 : ℕ
    pub n2 : ℕ
    pub x1 : List Bool
    pub y1 : List Bool
    pub first : P (replicate n1 v ++ (not v ∷ x1))
    pub second : Q (replicate n2 v ++ (not v ∷ y1))
    pub is_first : replicate near.s v ++ near.x ≡ replicate n1 v ++ (not v ∷ x1)
    pub is_second : replicate near.t v ++ near.y ≡ replicate n2 v ++ (not v ∷ y1)

  ending : (v : Bool) (P Q : List Bool → Type 0) → ((n : ℕ) → P (replicate n v) → ⊥) → ((n : ℕ) → Q (replicate n v) → ⊥)
      → Near v P Q → Ending v P Q
  ending v P Q p q near = go (split v (replicate near.s v ++ near.x)) (split v (replicate near.t v ++ near.y))
    where
      go : Splits v (replicate near.s v ++ near.x) → Splits v (replicate near.t v ++ near.y) → Ending v P Q
      go (inl (n, e)) other = absurd (p n (subst P e near.first))
      go (inr a) (inl (n, e)) = absurd (q n (subst Q e near.second))
      go (inr (n1, x1, e1)) (inr (n2, y1, e2)) = record {
        near = near;
        n1 = n1;
        n2 = n2;
        x1 = x1;
        y1 = y1;
        first = subst P e1 near.first;
        second = subst Q e2 near.second;
        is_first = e1;
        is_second = e2;
      }

  -- after that place both are in runs of the other level, and the two runs that ended are about as long
  record Turned (v : Bool) (n1 n2 : ℕ) (P Q : List Bool → Type 0) : Type 0 where
    pub near : Near (not v) P Q
    pub close : n1 < n2 + d
    pub close' : n2 < n1 + d

  turn : (v : Bool) (P Q P' Q' : List Bool → Type 0) (e : Ending v P Q) → P' (not v ∷ e.x1) → Q' (not v ∷ e.y1)
      → RunOf least (not v) (not v ∷ e.x1) → RunOf least (not v) (not v ∷ e.y1) → Turned v e.n1 e.n2 P' Q'
  turn v P Q P' Q' e p q run1 run2 =
      let c1 = cut e.near.s e.n1 v e.x1 e.near.x (sym e.is_first) in
      let c2 = cut e.near.t e.n2 v e.y1 e.near.y (sym e.is_second) in
      let X : List Bool = not v ∷ e.x1 in
      let Y : List Bool = not v ∷ e.y1 in
      let total : differences e.near.x e.near.y ≡ differences (replicate c1.0 v ++ X) (replicate c2.0 v ++ Y)
      = ap (λ (t : List Bool). differences t e.near.y) c1.2 ∙ ap (differences (replicate c1.0 v ++ X)) c2.2 in
      let len1 : length e.near.x ≡ c1.0 + length X = ap length c1.2 ∙ long c1.0 v X in
      let len2 : length e.near.y ≡ c2.0 + length Y = ap length c2.2 ∙ long c2.0 v Y in
      let same : c1.0 + length X ≡ c2.0 + length Y = sym len1 ∙ e.near.same ∙ len2 in
      let small : d ≤ least = omega (arith, gap, ok.order) in
      let r = step v least c1.0 c2.0 X Y run1 run2 same (omega (arith, total, e.near.few, small)) in
      record {
        near = record {
          s = r.s;
          t = r.t;
          x = r.x;
          y = r.y;
          first = subst P' r.first p;
          second = subst Q' r.second q;
          same = r.same;
          few = omega (arith, r.less, total, e.near.few);
        };
        close = omega (arith, r.near, r.less, total, e.near.few, c1.1, c2.1);
        close' = omega (arith, r.near', r.less, total, e.near.few, c1.1, c2.1);
      }

  -- ---- bits

  -- these bits are the same where two lists are that near in the middle of a cell
  abbrev Agree : List Bool → List Bool → Type 0
  Agree bits others = (v : Bool) → Near v (Half sizes v bits) (Half sizes v others) → bits ≡ others

  first_some : (n : ℕ) (u : Bool) (s x0 : List Bool) → replicate n u ++ (not u ∷ s) ≡ u ∷ x0 → 0 < n
  first_some zero u s x0 e = absurd (not_same u (sym (same_head e)))
  first_some (suc n) u s x0 e = omega arith

  -- the cells of these bits, the first level of which is u
  abbrev CellsFrom : Bool → List Bool → List Bool → Type 0
  CellsFrom u bits levels = Cells sizes bits levels × (x0 : List Bool) × (levels ≡ u ∷ x0)

  at_cell : (b c : Bool) (bits others : List Bool) → Agree bits others → (u : Bool)
      → Near u (CellsFrom u (b ∷ bits)) (CellsFrom u (c ∷ others)) → b ∷ bits ≡ c ∷ others
  at_cell b c bits others agree u near =
      let P : List Bool → Type 0 = CellsFrom u (b ∷ bits) in
      let Q : List Bool → Type 0 = CellsFrom u (c ∷ others) in
      let e = ending u P Q (λ n r. Cutting.cells_not_alone ok b u bits n r.0)
      (λ n r. Cutting.cells_not_alone ok c u others n r.0) near in
      let f = Cutting.cell_at_change ok b u bits e.x1 e.n1 (first_some e.n1 u e.x1 e.first.1 e.first.2) e.first.0 in
      let g = Cutting.cell_at_change ok c u others e.y1 e.n2 (first_some e.n2 u e.y1 e.second.1 e.second.2)
      e.second.0 in
      let r = turn u P Q (Half sizes (not u) bits) (Half sizes (not u) others) e f.3 g.3
      (half_run (not u) bits (not u ∷ e.x1) f.3) (half_run (not u) others (not u ∷ e.y1) g.3) in
      ap (λ (t : List Bool). b ∷ t) (agree (not u) r.near) ∙ ap (λ (h : Bool). h ∷ others) (f.0 ∙ sym g.0)

  agree : (bits others : List Bool) → length bits ≡ length others → Agree bits others
  agree [] [] same v near = refl
  agree [] (c ∷ others) same v near = absurd (omega (arith, same))
  agree (b ∷ bits) [] same v near = absurd (omega (arith, same))
  agree (b ∷ bits) (c ∷ others) same v near =
      go (agree bits others (omega (arith, same))) (Cutting.half_at_change ok v (b ∷ bits) e.x1 e.n1 e.first)
      (Cutting.half_at_change ok v (c ∷ others) e.y1 e.n2 e.second)
    where
      e : Ending v (Half sizes v (b ∷ bits)) (Half sizes v (c ∷ others))
      e = ending v (Half sizes v (b ∷ bits)) (Half sizes v (c ∷ others)) (half_not_alone v b bits)
          (half_not_alone v c others) near

      turned : (P' Q' : List Bool → Type 0) → P' (not v ∷ e.x1) → Q' (not v ∷ e.y1)
          → RunOf least (not v) (not v ∷ e.x1) → RunOf least (not v) (not v ∷ e.y1) → Turned v e.n1 e.n2 P' Q'
      turned P' Q' p q = turn v (Half sizes v (b ∷ bits)) (Half sizes v (c ∷ others)) P' Q' e p q

      go : Agree bits others → Single sizes (b ∷ bits) v e.n1 e.x1 ⊎ Double sizes (b ∷ bits) v e.n1 e.x1
          → Single sizes (c ∷ others) v e.n2 e.y1 ⊎ Double sizes (c ∷ others) v e.n2 e.y1 → b ∷ bits ≡ c ∷ others
      go ih (inl (low1, high1, p)) (inl (low2, high2, q)) =
          let r = turned (CellsFrom (not v) (b ∷ bits)) (CellsFrom (not v) (c ∷ others)) (p, e.x1, refl)
          (q, e.y1, refl) (cell_run b (not v) bits e.x1 p) (cell_run c (not v) others e.y1 q) in
          at_cell b c bits others ih (not v) r.near
      go ih (inl (low1, high1, p)) (inr (todo, is, low2, high2, q)) =
          let r = turned (Cells sizes (b ∷ bits)) (Half sizes (not v) todo) p q (cell_run b (not v) bits e.x1 p)
          (half_run (not v) todo (not v ∷ e.y1) q) in
          absurd (omega (arith, r.close', gap, low2, high1))
      go ih (inr (todo, is, low1, high1, p)) (inl (low2, high2, q)) =
          let r = turned (Half sizes (not v) todo) (Cells sizes (c ∷ others)) p q
          (half_run (not v) todo (not v ∷ e.x1) p) (cell_run c (not v) others e.y1 q) in
          absurd (omega (arith, r.close, gap, low1, high2))
      go ih (inr (todo, is, low1, high1, p)) (inr (todo', is', low2, high2, q)) =
          grind (arith, e, turned, half_run, same_head)

  -- words whose first bit is 1
  pub agree_whole : (bits others x y : List Bool) → length bits ≡ length others → Draws sizes (true ∷ bits) x
      → Draws sizes (true ∷ others) y → length x ≡ length y → differences x y < d → bits ≡ others
  agree_whole bits others x y long p q same few =
      let P : List Bool → Type 0 = Draws sizes (true ∷ bits) in
      let Q : List Bool → Type 0 = Draws sizes (true ∷ others) in
      let near : Near false P Q
      = record { s = 0; t = 0; x = x; y = y; first = p; second = q; same = same; few = omega arith } in
      let e = ending false P Q (Cutting.lead_not_alone ok bits) (Cutting.lead_not_alone ok others) near in
      let f = Cutting.lead_at_change ok bits e.x1 e.n1 e.first in
      let g = Cutting.lead_at_change ok others e.y1 e.n2 e.second in
      let r = turn false P Q (Half sizes true bits) (Half sizes true others) e f.1 g.1
      (half_run true bits (true ∷ e.x1) f.1) (half_run true others (true ∷ e.y1) g.1) in
      agree bits others long true r.near

-- ---- words

gap_of : (system : System) → least_distance system + half_max system ≤ half_min system + half_min system
gap_of Ntsc = omega arith
gap_of Pal = omega arith

pub same_word : (system : System) (levels others : List Bool) (v w : ℕ) → Shows system levels v
    → Shows system others w → length levels ≡ length others → differences levels others < least_distance system
    → v ≡ w
same_word system levels others v w s t same few =
    let a = word_bits v s.is_word in
    let b = word_bits w t.is_word in
    let p = subst (λ (bits : List Bool). Draws (sizes_of system) bits levels) a.1.1
    (draws_from_shows system levels v s) in
    let q = subst (λ (bits : List Bool). Draws (sizes_of system) bits others) b.1.1
    (draws_from_shows system others w t) in
    let n : suc (length a.1.0) ≡ 24 = sym (ap length a.1.1) ∙ a.0 in
    let m : suc (length b.1.0) ≡ 24 = sym (ap length b.1.1) ∙ b.0 in
    let rest : a.1.0 ≡ b.1.0 = agree_whole (apart_of system) (least_distance system) (gap_of system) a.1.0 b.1.0 levels
    others (omega (arith, n, m)) p q same few in
    Bits.same_from_lowest 24 v w s.is_word.1 t.is_word.1
    (a.1.1 ∙ ap (λ (bits : List Bool). true ∷ bits) rest ∙ sym b.1.1)
