-- What the fields of a run of chapters tell leads to the field in which each begins.
use Rattle.std.proofs.Common.{◌≡◌, ℕ, zero, suc, ◌+◌, ◌*◌, ◌-◌, ◌<◌, ◌≤◌, List, length}
use Rattle.std.proofs.Common.{refl, arith, ap, sym, ◌∙◌, inl, inr, eq-eqb}
use Rattle.std.specs.Prelude.{◌==◌, ◌&&◌, nat_le, nat_lt, slice_get}
use Rattle.std.proofs.lemmas.Bool.{leb-true, ltb-true, or_cases, and_parts}
use Rattle.std.proofs.lemmas.Bool.Decides.{leb_tells, eqb_tells}
use Rattle.std.proofs.lemmas.List.FromFn.{length-map-range_with_len}
use Rattle.vbi_c.specs.Types.{Sightings}
use Rattle.vbi_side.specs.Beliefs.{reach, enough, field_weight}
use Rattle.vbi_side.specs.Chapters.{says, opposes, said_weight, opposed_weight}
use Rattle.vbi_whole.proofs.CleanRuns.{twice_weighs, three_weigh}
use Rattle.vbi_side.proofs.Weights.{spread, weight_at-passes}
use Rattle.vbi_seek.specs.FieldLines.{Side}
use Rattle.vbi_seek.specs.ChapterLeads.{TellsChapter, chapter_spots, IsFirstOf}
use Rattle.vbi_seek.specs.Spots.{Leads}
use Rattle.vbi_c.specs.CleanSides.{AreChaptersRead, IsFirstPicture}
use Rattle.vbi_seek.specs.ChapterSearch.{chapters_at, chapters_from, said_below, TellChapter}
use Rattle.vbi_seek.specs.NumberSpots.{sum_below}
use Rattle.vbi_seek.proofs.Running.{sum_below_more}
use Rattle.vbi_c.proofs.ReadRuns.{one_read, shown_is, inside, two_in_part, part_twice, told_by}
use Rattle.vbi_seek.proofs.Tellers.{first_chapter, chapter_other}

-- ---- weights

said_grows : (seen : List Sightings) (n j d : ℕ) → said_below seen n j ≤ said_below seen n (j + d)
unfolding sum_below
said_grows seen n j zero = omega (arith, ap (said_below seen n) (let e : j + 0 ≡ j = omega arith in e))
said_grows seen n j (suc d) =
    let e : j + suc d ≡ j + d + 1 = omega arith in
    omega (arith, said_grows seen n j d, ap (said_below seen n) e, sum_below_more (λ k m. m == n) seen (j + d))

-- two fields that say a chapter on both lines
two_say : (seen : List Sightings) (n i j k : ℕ) → i < j → j < k
    → 4 ≤ field_weight (λ m. m == n) (slice_get seen i) → 4 ≤ field_weight (λ m. m == n) (slice_get seen j)
    → 8 ≤ said_below seen n k
two_say seen n i j k less inside one two =
    let before : i + 1 + (j - (i + 1)) ≡ j = omega (arith, less) in
    let after : j + 1 + (k - (j + 1)) ≡ k = omega (arith, inside) in
    omega (
      arith,
      sum_below_more (λ k m. m == n) seen i,
      said_grows seen n (i + 1) (j - (i + 1)),
      ap (said_below seen n) before,
      sum_below_more (λ k m. m == n) seen j,
      said_grows seen n (j + 1) (k - (j + 1)),
      ap (said_below seen n) after,
      one,
      two,
    )

module _ (side : Side) (chapter : ℕ → ℕ) (begin last : ℕ)
    (run : AreChaptersRead chapter (chapters_from side 0 side.count) begin last) where
  -- ---- the run

  -- its last field is one of the side
  in_count : begin + 2 * last < side.count
  in_count = inside (chapters_at side) side.count chapter begin last run.read

  two_more : 2 ≤ last
  two_more = let (q, from, to, within, one, two) = run.three 0 (omega arith) in omega (arith, within)

  -- a lower chapter is an earlier picture's
  in_order : (p r : ℕ) → p ≤ last → r ≤ last → chapter r < chapter p → r < p
  in_order p r low high less = elim (leb_tells p r) [
    | inr (f, lt) ↦ lt
    | inl (t, le) ↦ absurd (omega (arith, less, run.rise p r le high))
  ]

  -- and so is one that isn't higher, if a chapter begins with the picture
  in_order_too : (p r : ℕ) → p ≤ last → r ≤ last → IsFirstPicture chapter p → chapter p ≤ chapter r → p ≤ r
  in_order_too p r low high first less = elim (leb_tells p r) [
    | inl (t, le) ↦ le
    | inr (f, lt) ↦
        let same : chapter r ≡ chapter p = omega (arith, less, run.rise r p (omega (arith, lt)) low) in
        absurd (first r lt same)
  ]

  -- ---- two pictures tell a chapter

  -- fields that tell a chapter show it, and another one shows one, too
  told_two : (field k n : ℕ) → field + k ≤ side.count → TellChapter (chapters_from side field k) n
      → (p : ℕ) × (p ≤ last) × (chapter p ≡ n) × (field ≤ begin + 2 * p) × (begin + 2 * p < field + k)
      × (begin + 3 ≤ field + k) × (field + 2 ≤ begin + 2 * last)
  told_two field k n within (i, shown, told) =
      two_in_part (chapters_at side) side.count chapter begin last run.read field k i n within shown
      (chapter_other (chapters_from side field k) i n told)

  -- two of one chapter tell it
  pair_tells : (field k p : ℕ) → field ≤ begin + 2 * p → begin + 2 * (p + 1) < field + k → field + k ≤ side.count
      → p + 1 ≤ last → chapter (p + 1) ≡ chapter p → TellChapter (chapters_from side field k) (chapter p)
  pair_tells field k p from to within low on =
      let i = begin + 2 * p - field in
      let j = begin + 2 * (p + 1) - field in
      let here = part_twice (chapters_at side) side.count chapter begin last run.read field k p
      from (omega (arith, to)) within (omega (arith, low)) in
      let there = part_twice (chapters_at side) side.count chapter begin last run.read field k (p + 1)
      (omega (arith, from)) to within low in
      let long = length-map-range_with_len (chapters_at side) field k in
      let much : 8 ≤ said_below (chapters_from side field k) (chapter p)
      (length (chapters_from side field k))
      = two_say (chapters_from side field k) (chapter p) i j (length (chapters_from side field k))
      (omega (arith, from)) (omega (arith, long, from, to))
      (twice_weighs (λ m. m == chapter p) (chapters_from side field k) i (chapter p) here
      (eq-eqb (chapter p) (chapter p) refl))
      (twice_weighs (λ m. m == chapter p) (chapters_from side field k) j (chapter (p + 1)) there
      (eq-eqb (chapter (p + 1)) (chapter p) on)) in
      (i, here.1, omega (arith, much))

  -- from each picture but the last one on two are of one chapter: itself and the next one, or these two
  pair_from : (p : ℕ) → p + 1 ≤ last
      → (r : ℕ) × (p ≤ r) × (r ≤ p + 1) × (r + 1 ≤ last) × (chapter (r + 1) ≡ chapter r) × (p ≡ 0 → r ≡ 0)
  pair_from p low =
      let (q, from, to, room, one, two) = run.three (p + 1) low in
      elim (leb_tells q p) [
        | inl (t, le) ↦ (
          p,
          omega arith,
          omega arith,
          low,
          omega (arith, one, run.rise q p le (omega (arith, low)), run.rise p (p + 1) (omega arith) low),
          λ e. e,
        )
        | inr (f, lt) ↦
            let is : q ≡ p + 1 = omega (arith, from, lt) in
            elim (eqb_tells p 0) [
              | inl (t, none) ↦
                  let (s, early, near, fits, same, last_same) = run.three 0 (omega arith) in
                  let begins : s ≡ 0 = omega (arith, early) in
                  let next : s + 2 ≡ p + 2 = omega (arith, begins, none) in (
                    p,
                    omega arith,
                    omega arith,
                    low,
                    omega (
                      arith,
                      last_same,
                      ap chapter none,
                      ap chapter next,
                      run.rise p (p + 1) (omega arith) low,
                      run.rise (p + 1) (p + 2) (omega arith) (omega (arith, is, room)),
                    ),
                    λ e. e,
                  )
              | inr (g, some) ↦
                  let middle : q + 1 ≡ p + 2 = omega (arith, is) in (
                    p + 1,
                    omega arith,
                    omega arith,
                    omega (arith, is, room),
                    omega (
                      arith,
                      one,
                      two,
                      ap chapter is,
                      ap chapter middle,
                      run.rise q (q + 1) (omega arith) (omega (arith, room)),
                      run.rise (q + 1) (q + 2) (omega arith) room,
                      ap chapter (let e : p + 1 + 1 ≡ p + 2 = omega arith in e),
                    ),
                    λ e. absurd (some e),
                  )
            ]
      ]

  told_first : (field : ℕ) → begin - 21 ≤ field → field + 2 ≤ begin + 2 * last
      → (k n : ℕ) × TellsChapter side field k n
  told_first field late early =
      let (most, m, tells, within, near) = told_by (chapters_at side) side.count chapter begin last run.read
      (λ field k. TellChapter (chapters_from side field k))
      (λ r. chapter (r + 1) ≡ chapter r) two_more pair_from pair_tells field early in
      let (k, n, few, told, none) = first_chapter (chapters_from side field) most m tells in (
        k,
        n,
        record {
          few = elim near [
            | inl to ↦ omega (arith, few, to, late)
            | inr (after, six) ↦ omega (arith, few, six)
          ];
          inside = omega (arith, few, within);
          tells = told;
          first = none;
        },
      )

  -- ---- they lead to each chapter

  pub chapters_lead : (q : ℕ) → q ≤ last → IsFirstPicture chapter q → side.count + 16 ≤ 32 * last
      → Leads (chapter_spots side) (chapter q) (begin + 2 * q) (begin - 21) (begin + 2 * last - 2)
  chapters_lead q low first large = record {
    inside = omega (arith, in_count);
    part = omega (arith, large, two_more);
    between = (omega arith, omega (arith, low, two_more));
    told = λ field from to.
        let (k, n, tells) = told_first field from (omega (arith, to, two_more)) in (k, n, tells.few, tells);
    untold = λ field k n tells.
        let (p, high, is, from, to, after, early) = told_two field k n tells.inside tells.tells in
        (omega (arith, after, tells.few), omega (arith, early, tells.few));
    lower = λ field k n tells less.
        let (p, high, is, from, to, after, early) = told_two field k n tells.inside tells.tells in
        let before = in_order q p low high (omega (arith, is, less)) in
        omega (arith, from, before, tells.few);
    higher = λ field k n tells more.
        let (p, high, is, from, to, after, early) = told_two field k n tells.inside tells.tells in
        let before = in_order_too q p low high first (omega (arith, is, more)) in
        omega (arith, before, to, tells.few);
  }

  -- ---- and each begins with its first picture

  -- three pictures of a chapter say it
  said : (q : ℕ) → q ≤ last → IsFirstPicture chapter q
      → 12 ≤ said_weight (chapters_from side 0 side.count) (begin + 2 * q) (chapter q)
  said q low first =
      let (r, from, to, room, one, two) = run.three q low in
      let is : r ≡ q = elim (eqb_tells r q) [
        | inl (t, same) ↦ same
        | inr (f, other) ↦ absurd (first r (omega (arith, from, other)) one)
      ] in
      let room_too : q + 2 ≤ last = omega (arith, is, room) in
      let end : chapter (q + 2) ≡ chapter q
      = sym (ap (λ (x : ℕ). chapter (x + 2)) is) ∙ two in
      let middle : chapter (q + 1) ≡ chapter q = omega (
        arith,
        end,
        run.rise q (q + 1) (omega arith) (omega (arith, room_too)),
        run.rise (q + 1) (q + 2) (omega arith) room_too,
      ) in
      three_weigh (says (begin + 2 * q) (chapter q)) (chapters_from side 0 side.count) (begin + 2 * q) (begin + 2 * q)
      (begin + 2 * (q + 1)) (begin + 2 * (q + 2)) (omega arith, omega arith) (omega arith, omega arith)
      (omega arith, omega arith) (omega arith) (omega arith)
      (says_it q q low refl) (says_it q (q + 1) (omega (arith, room_too)) middle) (says_it q (q + 2) room_too end)
    where
      says_it : (q r : ℕ) → r ≤ last → chapter r ≡ chapter q
          → 4 ≤ field_weight (says (begin + 2 * q) (chapter q) (begin + 2 * r))
          (slice_get (chapters_from side 0 side.count) (begin + 2 * r))
      says_it q r high same =
          twice_weighs (says (begin + 2 * q) (chapter q) (begin + 2 * r)) (chapters_from side 0 side.count)
          (begin + 2 * r) (chapter r) (run.read.each r high) (eq-eqb (chapter r) (chapter q) same)

  -- none speaks against it
  unopposed : (q : ℕ) → q ≤ last
      → opposed_weight (chapters_from side 0 side.count) (begin + 2 * q) (chapter q) < enough
  unopposed q low = elim (spread (opposes (begin + 2 * q) (chapter q)) (chapters_from side 0 side.count)
      (begin + 2 * q) reach (2 * reach + 1)) [
        | inl (most, none) ↦ omega (arith, most)
        | inr (k, less, apart, weighs) ↦
            let (near, (m, shown, against)) = weight_at-passes (opposes (begin + 2 * q) (chapter q))
            (chapters_from side 0 side.count) (begin + 2 * q) k weighs in
            let (r, high, place, is) = shown_is (chapters_at side) side.count chapter begin last run.read
            (begin + 2 * q + k - reach) m shown in
            absurd (elim (or_cases (nat_le (begin + 2 * q + k - reach) (begin + 2 * q) && nat_lt (chapter q) m)
            (nat_le (begin + 2 * q) (begin + 2 * q + k - reach) && nat_lt m (chapter q)) against) [
              | inl later ↦
                  let p = and_parts (nat_le (begin + 2 * q + k - reach) (begin + 2 * q)) (nat_lt (chapter q) m) later in
                  let at_most = leb-true (begin + 2 * q + k - reach) (begin + 2 * q) p.0 in
                  let more = ltb-true (chapter q) m p.1 in
                  let order : r ≤ q = omega (arith, at_most, place) in
                  omega (arith, run.rise r q order low, is, more)
              | inr earlier ↦
                  let p =
                  and_parts (nat_le (begin + 2 * q) (begin + 2 * q + k - reach)) (nat_lt m (chapter q)) earlier in
                  let at_least = leb-true (begin + 2 * q) (begin + 2 * q + k - reach) p.0 in
                  let less_than = ltb-true m (chapter q) p.1 in
                  let order : q ≤ r = omega (arith, at_least, place) in
                  omega (arith, run.rise q r order high, is, less_than)
            ])
      ]

  pub first_of : (q : ℕ) → q ≤ last → IsFirstPicture chapter q
      → IsFirstOf side (chapter q) (begin + 2 * q)
  first_of q low first = record {
    has = record {
      shown = (run.read.each q low).1;
      said = omega (arith, said q low first);
      unopposed = unopposed q low;
      ahead = λ m shown apart. absurd (apart (sym (one_read (chapters_from side 0 side.count) (begin + 2 * q)
          (chapter q) m (run.read.each q low) shown)));
    };
    others = λ i less has.
        let (r, high, place, is) = shown_is (chapters_at side) side.count chapter begin last run.read i
        (chapter q) has.shown in
        first r (omega (arith, place, less)) is;
  }
