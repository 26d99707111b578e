-- The half cells of a row that is blurred at its changes of level, one after the other: they are smoothed as those of
-- a row that shows the word.
use Rattle.vbi_words.proofs.Common.{◌≡◌, ℕ, ◌≤◌, ◌<◌, ◌+◌, ◌-◌, Bool, true, false, List, [], ◌∷◌, ◌++◌, ◌⊎◌, inl, suc}
use Rattle.vbi_words.proofs.Common.{inr, get_or, drop, refl, sym, ap, ◌∙◌, arith, append_assoc, replicate, drop-cons}
use Rattle.vbi_words.proofs.Common.{append-nil, drop_all, get_or-drop, get_or_append_left, get_or-append-add}
use Rattle.vbi_words.proofs.Common.{cases_order, not, Spells, IsBlurred, NoneAlone, length}
use Rattle.std.proofs.Math.Seq.{drop-append_seam}
use Rattle.std.proofs.lemmas.List.{drop-drop, get_or-replicate, get_or_past, length-replicate, length-append}
use Rattle.vbi_words.proofs.HalfCell
use Rattle.vbi_words.proofs.Runs.{equal_from, run_joined}
use Rattle.vbi_words.proofs.Smoothing.{window}
use Rattle.vbi_words.proofs.SmoothKeeps.{steady, steady_run}

-- ---- levels of a run

-- two levels turned over before a change leave no trace
spike_gone : (h : Bool) (s : List Bool)
    → steady h (not h ∷ h ∷ (replicate 4 (not h) ++ s)) ≡ h ∷ h ∷ steady h (replicate 4 (not h) ++ s)
unfolding window
spike_gone true s = refl
spike_gone false s = refl

-- the level that halves begin with; lows are after them
abbrev pub first : List Bool → Bool
first [] = false
first (h ∷ halves) = h

pub in_run : (n : ℕ) (h : Bool) (t : List Bool) (k : ℕ) → k < n → get_or (replicate n h ++ t) k false ≡ h
in_run n h t k l = grind (arith, get_or_append_left, length-replicate, get_or-replicate)

pub past_run : (n : ℕ) (h : Bool) (t : List Bool) (k : ℕ) → get_or (replicate n h ++ t) (n + k) false ≡ get_or t k false
past_run n h t k = grind (arith, length-replicate, get_or-append-add)

pub all_low : (n k : ℕ) → get_or (replicate n false) k false ≡ false
all_low n k = grind (arith, cases_order, get_or_past, length-replicate, get_or-replicate)

-- halves of two columns or more begin with two columns of their first level
pub first_two : (lo hi : ℕ) → 2 ≤ lo → (halves drawn : List Bool) (after : ℕ) → Spells lo hi halves drawn → (k : ℕ)
    → k < 2 → get_or (drawn ++ replicate after false) k false ≡ first halves
first_two lo hi two [] drawn after e k l = grind (arith, all_low)
first_two lo hi two (h ∷ halves) drawn after (n, rest, low, high, e, spelled) k l =
    grind (arith, append_assoc, in_run)

module _ (d l : List Bool) (blurred : IsBlurred d l) where
  abbrev at_d : ℕ → Bool
  at_d = HalfCell.at_d d l blurred

  abbrev at_l : ℕ → Bool
  at_l = HalfCell.at_l d l blurred

  abbrev Begins : ℕ → ℕ → Bool → Type 0
  Begins = HalfCell.Begins d l blurred

  abbrev Plain : ℕ → ℕ → Bool → Type 0
  Plain = HalfCell.Plain d l blurred

  abbrev Spiked : ℕ → ℕ → ℕ → Bool → Bool → Type 0
  Spiked = HalfCell.Spiked d l blurred

  module _ (lo hi least greatest : ℕ) (six : 6 ≤ lo) (less : least + 2 ≤ lo) (more : hi + 2 ≤ greatest) where
    -- the levels from e on are smoothed as these halves and then lows are; where no column stands alone, they are that
    pub record Goes (halves : List Bool) (e : ℕ) : Type 0 where
      pub drawn : List Bool
      pub after : ℕ
      pub three : 3 ≤ after
      pub spelled : Spells least greatest halves drawn
      pub whole : NoneAlone l → drop e l ≡ drawn ++ replicate after false
      pub long : length (drop e l) ≡ length (drawn ++ replicate after false)
      pub alike : (v : Bool) → steady v (drop e l) ≡ steady v (drawn ++ replicate after false)
      pub four : (s : List Bool) × (drop e l ≡ replicate 4 (first halves) ++ s)

    -- a half cell of m columns before these
    one_more : (h : Bool) (halves : List Bool) (e m q : ℕ) → drop e l ≡ replicate m h ++ drop q l → 4 ≤ m → least ≤ m
        → m ≤ greatest → Goes halves q → Goes (h ∷ halves) e
    one_more h halves e m q mine some low high y =
        let rest : List Bool = y.drawn ++ replicate y.after false in
        let joined : (replicate m h ++ y.drawn) ++ replicate y.after false ≡ replicate m h ++ rest
        = append_assoc (replicate m h) y.drawn (replicate y.after false) in
        let parts : 4 + (m - 4) ≡ m = omega arith in
        record {
          drawn = replicate m h ++ y.drawn;
          after = y.after;
          three = y.three;
          spelled = (m, y.drawn, low, high, refl, y.spelled);
          whole = λ none. mine ∙ ap (λ (t : List Bool). replicate m h ++ t) (y.whole none) ∙ sym joined;
          long = ap length mine ∙ length-append (replicate m h) (drop q l)
              ∙ ap (λ (i : ℕ). length (replicate m h) + i) y.long ∙ sym (length-append (replicate m h) rest)
              ∙ ap length (sym joined);
          alike = λ v. ap (steady v) mine ∙ steady_run v h m (drop q l) some
              ∙ ap (λ (t : List Bool). replicate 3 v ++ (replicate (m - 3) h ++ t)) (y.alike h)
              ∙ sym (steady_run v h m rest some) ∙ ap (steady v) (sym joined);
          four = (
            replicate (m - 4) h ++ drop q l,
            mine ∙ ap (λ (i : ℕ). replicate i h ++ drop q l) (sym parts)
                ∙ sym (run_joined 4 (m - 4) h (drop q l)),
          );
        }

    -- the same where its last two columns are turned over, after m others
    one_spiked : (h : Bool) (halves : List Bool) (e m q : ℕ)
        → drop e l ≡ replicate m h ++ (not h ∷ h ∷ drop q l) → 4 ≤ m → least ≤ m + 2 → m + 2 ≤ greatest
        → first halves ≡ not h → (NoneAlone l → ⊥) → Goes halves q → Goes (h ∷ halves) e
    one_spiked h halves e m q mine some low high other alone y =
        let rest : List Bool = y.drawn ++ replicate y.after false in
        let joined : (replicate (m + 2) h ++ y.drawn) ++ replicate y.after false ≡ replicate (m + 2) h ++ rest
        = append_assoc (replicate (m + 2) h) y.drawn (replicate y.after false) in
        let parts : 4 + (m - 4) ≡ m = omega arith in
        let behind : List Bool = not h ∷ h ∷ drop q l in
        let begun : drop q l ≡ replicate 4 (not h) ++ y.four.0
        = y.four.1 ∙ ap (λ (b : Bool). replicate 4 b ++ y.four.0) other in
        let spike : steady h behind ≡ h ∷ h ∷ steady h (drop q l)
        = ap (λ (t : List Bool). steady h (not h ∷ h ∷ t)) begun ∙ spike_gone h y.four.0
        ∙ ap (λ (t : List Bool). h ∷ h ∷ steady h t) (sym begun) in
        let T : List Bool = steady h rest in
        let count : m - 3 + 2 ≡ m + 2 - 3 = omega arith in
        record {
          drawn = replicate (m + 2) h ++ y.drawn;
          after = y.after;
          three = y.three;
          spelled = (m + 2, y.drawn, low, high, refl, y.spelled);
          whole = λ none. absurd (alone none);
          long = omega (
            arith,
            ap length mine,
            length-append (replicate m h) behind,
            length-replicate m h,
            y.long,
            ap length joined,
            length-append (replicate (m + 2) h) rest,
            length-replicate (m + 2) h,
          );
          alike = λ v. ap (steady v) mine ∙ steady_run v h m behind some
              ∙ ap (λ (t : List Bool). replicate 3 v ++ (replicate (m - 3) h ++ t))
              (spike ∙ ap (λ (t : List Bool). h ∷ h ∷ t) (y.alike h))
              ∙ ap (λ (t : List Bool). replicate 3 v ++ t) (run_joined (m - 3) 2 h T
              ∙ ap (λ (i : ℕ). replicate i h ++ T) count)
              ∙ sym (steady_run v h (m + 2) rest (omega arith)) ∙ ap (steady v) (sym joined);
          four = (
            replicate (m - 4) h ++ behind,
            mine ∙ ap (λ (i : ℕ). replicate i h ++ behind) (sym parts)
                ∙ sym (run_joined 4 (m - 4) h behind),
          );
        }

    goes : (halves rest : List Bool) (after p e : ℕ) → 5 ≤ after → Spells lo hi halves rest
        → drop p d ≡ rest ++ replicate after false → p + length rest + after ≡ length d → Begins p e (first halves)
        → Goes halves e
    goes [] rest after p e some nil whole long begins = record {
      drawn = [];
      after = length l - e;
      three = omega (arith, len, begins.late);
      spelled = refl;
      whole = λ none. all;
      long = ap length all;
      alike = λ v. ap (steady v) all;
      four = (
        replicate (length l - e - 4) false,
        all ∙ ap (λ (i : ℕ). replicate i false) (sym parts)
            ∙ sym (append-nil (replicate (4 + (length l - e - 4)) false))
            ∙ sym (run_joined 4 (length l - e - 4) false []) ∙ ap (λ (t : List Bool). replicate 4 false ++ t)
            (append-nil (replicate (length l - e - 4) false)),
      );
    }
      where
        len : p + after ≡ length l
        len = omega (arith, long, ap length nil, blurred.same_length)

        parts : 4 + (length l - e - 4) ≡ length l - e
        parts = omega (arith, len, begins.late)

        low_d : (c : ℕ) → p ≤ c → at_d c ≡ false
        low_d c less =
            let place : p + (c - p) ≡ c = omega arith in
            ap at_d (sym place) ∙ sym (get_or-drop p d (c - p) false)
            ∙ ap (λ (t : List Bool). get_or t (c - p) false) whole
            ∙ ap (λ (t : List Bool). get_or (t ++ replicate after false) (c - p) false) nil
            ∙ all_low after (c - p)

        low : (c : ℕ) → e ≤ c → (c ≡ p) ⊎ ((c < p) ⊎ (p < c)) → at_l c ≡ false
        low c from (inl same) = begins.has c from (omega arith)
        low c from (inr (inl less)) = begins.has c from (omega arith)
        low c from (inr (inr more)) =
            HalfCell.away d l blurred false (c - 1) c (c + 1) refl refl (low_d (c - 1) (omega arith))
            (low_d c (omega arith)) (low_d (c + 1) (omega arith))

        all : drop e l ≡ replicate (length l - e) false
        all = equal_from l e (length l - e) false (omega (arith, len, begins.late))
            (λ k less. low (e + k) (omega arith) (cases_order (e + k) p))
            ∙ ap (λ (t : List Bool). replicate (length l - e) false ++ t)
            (drop_all (e + (length l - e)) l (omega (arith, len, begins.late)))
            ∙ append-nil (replicate (length l - e) false)
    goes (h ∷ halves) rest after p e some (n, rest', low, high, spells, spelled) whole long begins =
        let at : drop p d ≡ replicate n h ++ (rest' ++ replicate after false)
        = whole ∙ ap (λ (t : List Bool). t ++ replicate after false) spells
        ∙ append_assoc (replicate n h) rest' (replicate after false) in
        let get : (k : ℕ) → at_d (p + k) ≡ get_or (replicate n h ++ (rest' ++ replicate after false)) k false
        = λ k. sym (get_or-drop p d k false) ∙ ap (λ (t : List Bool). get_or t k false) at in
        let run : (c : ℕ) → p ≤ c → c < p + n → at_d c ≡ h
        = λ c from to. let place : p + (c - p) ≡ c = omega arith in
        ap at_d (sym place) ∙ get (c - p) ∙ in_run n h (rest' ++ replicate after false) (c - p) (omega arith) in
        let behind : (k : ℕ) → k < 2 → at_d (p + (n + k)) ≡ first halves
        = λ k two. get (n + k) ∙ past_run n h (rest' ++ replicate after false) k
        ∙ first_two lo hi (omega arith) halves rest' after spelled k two in
        let place : p + (n + 0) ≡ p + n = omega arith in
        let place' : p + (n + 1) ≡ p + n + 1 = omega arith in
        let x = HalfCell.ends d l blurred p n h (first halves) (omega arith) run
        (ap at_d (sym place) ∙ behind 0 (omega arith))
        (ap at_d (sym place') ∙ behind 1 (omega arith)) in
        let len : length rest ≡ n + length rest'
        = ap length spells ∙ length-append (replicate n h) rest'
        ∙ ap (λ (i : ℕ). i + length rest') (length-replicate n h) in
        let later : drop (p + n) d ≡ rest' ++ replicate after false
        = drop_run p n h (rest' ++ replicate after false) at in
        let y = goes halves rest' after (p + n) x.at some spelled later (omega (arith, long, len)) x.begins in
        go n low high (omega (arith, long, len, blurred.same_length)) x.at x.begins.early x.begins.late x.inside y
      where
        upto : {q : ℕ} → Plain p q h → (c : ℕ) → e ≤ c → c < q → (c ≡ p) ⊎ ((c < p) ⊎ (p < c)) → at_l c ≡ h
        upto rest c from to h = grind arith

        -- the columns from e up to q
        columns : (q : ℕ) → e ≤ q → q ≤ length l → Plain p q h → drop e l ≡ replicate (q - e) h ++ drop q l
        columns q order inside plain =
            let to : e + (q - e) ≡ q = omega arith in
            equal_from l e (q - e) h (omega arith)
            (λ k less. upto plain (e + k) (omega arith) (omega arith) (cases_order (e + k) p))
            ∙ ap (λ (i : ℕ). replicate (q - e) h ++ drop i l) to

        go : (n : ℕ) → lo ≤ n → n ≤ hi → p + n + 5 ≤ length l → (q : ℕ) → p + n ≤ q + 1 → q ≤ p + n + 1
            → Plain p q h ⊎ Spiked p (p + n) q h (first halves) → Goes halves q → Goes (h ∷ halves) e
        go n low high fits q early late (inl plain) y =
            one_more h halves e (q - e) q
            (columns q (omega (arith, begins.late)) (omega arith) plain)
            (omega (arith, begins.late)) (omega (arith, begins.late)) (omega (arith, begins.early)) y
        go n low high fits q early late (inr x) y =
            let last : ℕ = p + n - 1 in
            let here : last < length l = omega arith in
            let next : suc last ≡ p + n = omega arith in
            let next' : suc (suc last) ≡ q = omega (arith, x.end) in
            let two : drop last l ≡ not h ∷ h ∷ drop q l
            = drop-cons l last false here
            ∙ ap (λ (b : Bool). b ∷ drop (suc last) l) (x.one ∙ x.other)
            ∙ ap (λ (t : List Bool). not h ∷ t) (drop-cons l (suc last) false (omega arith)
            ∙ ap (λ (b : Bool). b ∷ drop (suc (suc last)) l) (ap at_l next ∙ x.two)
            ∙ ap (λ (i : ℕ). h ∷ drop i l) next') in
            one_spiked h halves e (last - e) q
            (columns last (omega (arith, begins.late)) (omega arith) x.before
            ∙ ap (λ (t : List Bool). replicate (last - e) h ++ t) two)
            (omega (arith, begins.late)) (omega (arith, begins.late)) (omega (arith, begins.early)) x.other x.alone y

        drop_run : (p n : ℕ) (h : Bool) (t : List Bool) → drop p d ≡ replicate n h ++ t → drop (p + n) d ≡ t
        drop_run p n h t e = sym (drop-drop n p d) ∙ ap (drop n) e
            ∙ ap (λ (k : ℕ). drop k (replicate n h ++ t)) (sym (length-replicate n h))
            ∙ drop-append_seam (replicate n h) t

    -- the whole list
    pub whole_goes : (halves drawn : List Bool) (before after : ℕ) → 5 ≤ after → first halves ≡ false
        → Spells lo hi halves drawn → d ≡ replicate before false ++ (drawn ++ replicate after false)
        → (x : Goes halves before) × (l ≡ replicate before false ++ drop before l)
    whole_goes halves drawn before after some begun spelled whole =
        (x, front)
      where
        long : before + length drawn + after ≡ length d
        long = sym (ap length whole ∙ length-append (replicate before false) (drawn ++ replicate after false)
            ∙ ap (λ (i : ℕ). i + length (drawn ++ replicate after false)) (length-replicate before false)
            ∙ ap (λ (i : ℕ). before + i) (length-append drawn (replicate after false)
            ∙ ap (λ (i : ℕ). length drawn + i) (length-replicate after false)) ∙ add-assoc)
          where
            add-assoc : before + (length drawn + after) ≡ before + length drawn + after
            add-assoc = omega arith

        low_d : (c : ℕ) → (c < before) ⊎ (before ≤ c) → c < before + 2 → at_d c ≡ false
        low_d c (inl less) near = grind (arith, in_run)
        low_d c (inr past) near =
            let place : before + (c - before) ≡ c = omega arith in
            ap (λ (t : List Bool). get_or t c false) whole
            ∙ ap (λ (i : ℕ). get_or (replicate before false ++ (drawn ++ replicate after false)) i false) (sym place)
            ∙ past_run before false (drawn ++ replicate after false) (c - before)
            ∙ first_two lo hi (omega arith) halves drawn after spelled (c - before) (omega arith) ∙ begun

        near_d : (c : ℕ) → c < before + 2 → at_d c ≡ false
        near_d c near = low_d c (side (cases_order c before)) near
          where
            side : (c ≡ before) ⊎ ((c < before) ⊎ (before < c)) → (c < before) ⊎ (before ≤ c)
            side h = grind arith

        low : (c : ℕ) → c ≤ before → at_l c ≡ false
        low c to = grind (arith, near_d)

        front : l ≡ replicate before false ++ drop before l
        front =
            let none : 0 + before ≡ before = omega arith in
            equal_from l 0 before false (omega (arith, long, blurred.same_length)) (λ k less. low (0 + k) (omega arith))
            ∙ ap (λ (i : ℕ). replicate before false ++ drop i l) none

        behind : drop before d ≡ drawn ++ replicate after false
        behind = ap (drop before) whole
            ∙ ap (λ (k : ℕ). drop k (replicate before false ++ (drawn ++ replicate after false)))
            (sym (length-replicate before false))
            ∙ drop-append_seam (replicate before false) (drawn ++ replicate after false)

        x : Goes halves before
        x = goes halves drawn after before before some spelled behind long (record {
          early = omega arith;
          late = omega arith;
          has = λ c from to. low c to ∙ sym begun;
        })
