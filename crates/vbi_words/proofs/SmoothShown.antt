-- What smoothing does to a list that shows a word, and to one with a glitch.
use Rattle.vbi_words.proofs.Common.{◌≡◌, ℕ, suc, ◌≤◌, ◌<◌, ◌+◌, ◌-◌, Bool, false, List, ◌++◌, ◌⊎◌, inl, inr, refl, ap}
use Rattle.vbi_words.proofs.Common.{sym, ◌∙◌, subst, arith, take, drop, replicate, take-append-drop, ext_get_or}
use Rattle.vbi_words.proofs.Common.{get_or_append_left, get_or-append-add, get_or-drop, not, System, Ntsc, Pal}
use Rattle.vbi_words.proofs.Common.{half_min, half_max, halves_of, Shows, ShowsNone, level_at, AllLow, Word, IsReading}
use Rattle.std.proofs.Common.{length}
use Rattle.std.proofs.lemmas.List.{get_or-take, length-take, length-drop}
use Rattle.vbi_words.specs.Smooth.{latest, smooth_of, Glitch}
use Rattle.vbi_words.proofs.Runs.{not_same, equal_from}
use Rattle.vbi_words.proofs.Smoothing.{length-smooth_of, smooth_level, four_next}
use Rattle.vbi_words.proofs.SmoothKeeps.{between, moved, later, same_smooth}

least_four : (system : System) → 4 ≤ half_min system
least_four Ntsc = omega arith
least_four Pal = omega arith

-- ---- a shown list

pub smooth_moves : (system : System) (levels : List Bool) (word : ℕ) (s : Shows system levels word) → 3 ≤ s.after
    → smooth_of levels ≡ replicate (s.before + 3) false ++ (s.drawn ++ replicate (s.after - 3) false)
smooth_moves system levels word s l = grind (arith, moved, least_four)

pub smooth_shows : (system : System) (levels : List Bool) (word : ℕ) (s : Shows system levels word) → 3 ≤ s.after
    → Shows system (smooth_of levels) word
smooth_shows system levels word s l = record {
  is_word = s.is_word;
  before = s.before + 3;
  drawn = s.drawn;
  after = s.after - 3;
  spelled = s.spelled;
  whole = smooth_moves system levels word s l;
}

-- the smoothed levels are the levels, three columns later
smooth_later : (system : System) (levels : List Bool) (word : ℕ) → Shows system levels word
    → (last : List Bool) × (length last ≡ 3) × (replicate 3 false ++ levels ≡ smooth_of levels ++ last)
smooth_later system levels word s =
    let r = later (half_min system) (half_max system) (least_four system) (halves_of word) s.drawn s.spelled
    s.before s.after in
    (r.0, r.1, subst (λ (t : List Bool). replicate 3 false ++ t ≡ smooth_of t ++ r.0) (sym s.whole) r.2)

level_later : (system : System) (levels : List Bool) (word : ℕ) → Shows system levels word → (c : ℕ)
    → c + 3 < length levels → level_at levels c ≡ level_at (smooth_of levels) (c + 3)
level_later system levels word s c inside =
    let r = smooth_later system levels word s in
    let within : c + 3 < length (smooth_of levels) = omega (arith, length-smooth_of levels) in
    let place : 3 + c ≡ c + 3 = omega arith in
    sym (get_or-append-add (replicate 3 false) levels c false) ∙ ap (level_at (replicate 3 false ++ levels)) place
    ∙ ap (λ (t : List Bool). level_at t (c + 3)) r.2 ∙ get_or_append_left (smooth_of levels) r.0 false (c + 3) within

-- two shown lists that are smoothed to the same differ in their last three columns at most
pub shown_alike : (system : System) (s t : List Bool) (v w : ℕ) → Shows system s v → Shows system t w
    → smooth_of s ≡ smooth_of t → (c : ℕ) → c + 3 < length s → level_at s c ≡ level_at t c
shown_alike system s t v w a b same c inside =
    let long : length (smooth_of s) ≡ length (smooth_of t) = ap length same in
    let there : c + 3 < length t = omega (arith, long, length-smooth_of s, length-smooth_of t) in
    level_later system s v a c inside ∙ ap (λ (r : List Bool). level_at r (c + 3)) same
    ∙ sym (level_later system t w b c there)

-- ---- a glitch

module _ (levels turned : List Bool) (x : Glitch levels turned) where
  open x use {g, m}

  -- the level around the glitch
  abbrev v : Bool
  v = level_at levels g

  -- a list of levels that has the columns around the glitch, and w in those of the glitch
  record HasAround (s : List Bool) (w : Bool) : Type 0 where
    long : length s ≡ length levels
    others : (c : ℕ) → (c < g) ⊎ (g + m ≤ c) → level_at s c ≡ level_at levels c
    over : (c : ℕ) → g ≤ c → c < g + m → level_at s c ≡ w

  around : (s : List Bool) (w : Bool) → HasAround s w
      → s ≡ take (g - 4) s ++ between v (replicate m w) (drop (g + m + 4) s)
  around s w has =
      let p : ℕ = g - 4 in
      let before = x.before in
      let behind = x.behind in
      let one : p + 4 ≡ g = omega arith in
      let first : drop p s ≡ replicate 4 v ++ drop (p + 4) s = equal_from s p 4 v (omega (arith, has.long))
      (λ k l. has.others (p + k) (inl (omega arith)) ∙ x.equal (p + k) (omega arith) (omega arith)) in
      let second : drop g s ≡ replicate m w ++ drop (g + m) s = equal_from s g m w (omega (arith, has.long))
      (λ k l. has.over (g + k) (omega arith) (omega arith)) in
      let third : drop (g + m) s ≡ replicate 4 v ++ drop (g + m + 4) s
      = equal_from s (g + m) 4 v (omega (arith, has.long))
      (λ k l. has.others (g + m + k) (inr (omega arith)) ∙ x.equal (g + m + k) (omega arith) (omega arith)) in
      let inner : drop g s ≡ replicate m w ++ (replicate 4 v ++ drop (g + m + 4) s)
      = second ∙ ap (λ (t : List Bool). replicate m w ++ t) third in
      let outer : drop p s ≡ between v (replicate m w) (drop (g + m + 4) s)
      = first ∙ ap (λ (k : ℕ). replicate 4 v ++ drop k s) one ∙ ap (λ (t : List Bool). replicate 4 v ++ t) inner in
      sym (take-append-drop p s) ∙ ap (λ (t : List Bool). take p s ++ t) outer

  same_front : take (g - 4) turned ≡ take (g - 4) levels
  same_front = ext_get_or false (take (g - 4) turned) (take (g - 4) levels)
      (omega (arith, length-take (g - 4) turned, length-take (g - 4) levels, x.same_length))
      (λ i l. let within : i < g - 4 = omega (arith, length-take (g - 4) turned) in
      get_or-take (g - 4) turned i false within ∙ x.others i (inl (omega arith))
      ∙ sym (get_or-take (g - 4) levels i false within))

  -- the column after the glitch and the four equal columns after it
  abbrev end : ℕ
  end = g + m + 4

  same_back : drop end turned ≡ drop end levels
  same_back = ext_get_or false (drop end turned) (drop end levels)
      (omega (arith, length-drop end turned, length-drop end levels, x.same_length))
      (λ i l. get_or-drop end turned i false ∙ x.others (end + i) (inr (omega arith))
      ∙ sym (get_or-drop end levels i false))

  pub smooth_same : smooth_of turned ≡ smooth_of levels
  smooth_same =
      let plain : HasAround levels v = record {
        long = refl;
        others = λ c l. refl;
        over = λ c l k. x.equal c (omega arith) (omega arith);
      } in
      let over : HasAround turned (not v) = record {
        long = x.same_length;
        others = x.others;
        over = λ c l k. x.over c l k ∙ ap not (x.equal c (omega arith) (omega arith));
      } in
      let there : levels ≡ take (g - 4) levels ++ between v (replicate m v) (drop end levels)
      = around levels v plain in
      let here : turned ≡ take (g - 4) levels ++ between v (replicate m (not v)) (drop end levels)
      = around turned (not v) over
      ∙ ap (λ (t : List Bool). t ++ between v (replicate m (not v)) (drop end turned)) same_front
      ∙ ap (λ (t : List Bool). take (g - 4) levels ++ between v (replicate m (not v)) t) same_back in
      ap smooth_of here ∙ same_smooth (take (g - 4) levels) (drop end levels) v m x.few ∙ ap smooth_of (sym there)

  -- the smoothed level three columns after the glitch's first column is that of the columns around it
  smooth_there : level_at (smooth_of levels) (g + 3) ≡ v
  smooth_there =
      let place : g + 3 - 2 ≡ suc g = omega arith in
      smooth_level levels (g + 3) (omega (arith, x.behind, x.some)) ∙ ap (latest levels) place
      ∙ four_next levels g v (λ i l. x.equal (g + i) (omega arith) (omega (arith, x.some)))

  pub turned_none : (system : System) → ShowsNone system turned
  turned_none system w t =
      let alike : level_at turned g ≡ v
      = level_later system turned w t g (omega (arith, x.same_length, x.behind, x.some))
      ∙ ap (λ (s : List Bool). level_at s (g + 3)) smooth_same ∙ smooth_there in
      not_same v (sym alike ∙ x.over g (omega arith) (omega (arith, x.some)))

  -- one of its levels is high
  pub turned_high : AllLow turned → ⊥
  turned_high low = grind arith

-- ---- the laws

pub smooth_keeps : (system : System) (levels : List Bool) (word : ℕ) (cut : Shows system levels word) → 3 ≤ cut.after
    → (smooth_of levels ≡ replicate (cut.before + 3) false ++ (cut.drawn ++ replicate (cut.after - 3) false))
    × Shows system (smooth_of levels) word
smooth_keeps system levels word cut l =
    (smooth_moves system levels word cut l, smooth_shows system levels word cut l)

pub glitch_gone : (system : System) (levels turned : List Bool) (word : ℕ) (cut : Shows system levels word)
    → 3 ≤ cut.after → Glitch levels turned
    → (smooth_of turned ≡ smooth_of levels) × ShowsNone system turned
    × IsReading system turned (record { outcome = Word word; pass = 2 })
glitch_gone system levels turned word cut l x =
    let same : smooth_of turned ≡ smooth_of levels = smooth_same levels turned x in
    let none : ShowsNone system turned = turned_none levels turned x system in
    let shown : Shows system (smooth_of turned) word
    = subst (λ (t : List Bool). Shows system t word) (sym same) (smooth_shows system levels word cut l) in
    (same, none, inr (refl, none, turned_high levels turned x, shown))
