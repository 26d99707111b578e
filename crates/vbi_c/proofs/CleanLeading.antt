-- What the fields of a clean run tell leads to the field with a number.
use Rattle.std.proofs.Common.{◌≡◌, ℕ, ◌+◌, ◌*◌, ◌-◌, ◌<◌, ◌≤◌}
use Rattle.std.proofs.Common.{refl, arith, ap, sym, ◌∙◌, inl, inr, eq-eqb}
use Rattle.std.specs.Prelude.{◌⊎◌}
use Rattle.std.proofs.lemmas.Bool.Decides.{leb_tells, eqb_tells}
use Rattle.vbi_c.specs.Types.{Clock, Video}
use Rattle.vbi_side.specs.Beliefs.{window_weight}
use Rattle.vbi_whole.specs.CleanRuns.{IsCleanRun}
use Rattle.vbi_side.specs.Clocks.{kept}
use Rattle.vbi_side.specs.Paces.{fits}
use Rattle.vbi_whole.proofs.CleanRuns.{twice_weighs, two_weigh}
use Rattle.vbi_whole.proofs.ThreeInRow.{greater}
use Rattle.vbi_seek.specs.NumberLeads.{Tells, number_spots}
use Rattle.vbi_seek.specs.Spots.{Leads}
use Rattle.vbi_seek.specs.NumberSearch.{Numbers, shown_at, shown_from, shown_of}
use Rattle.vbi_seek.specs.NumberSpots.{TellsFrom}
use Rattle.vbi_c.proofs.ReadRuns.{inside, two_in_part, part_twice, told_by}
use Rattle.vbi_seek.proofs.Tellers.{told_other, first_told}

module _ (numbers : Numbers) (clock : Clock) (number : ℕ → ℕ) (begin last : ℕ)
    (run : IsCleanRun clock number (shown_of numbers) begin last) where
  -- ---- the run

  -- its last field is one of the side
  in_count : begin + 2 * last < numbers.side.count
  in_count = inside (shown_at numbers) numbers.side.count number begin last run.read

  pub two_more : 2 ≤ last
  two_more = let (q, from, to, within, one, two) = run.three 0 (omega arith) in omega (arith, within)

  steps : (p : ℕ) → p ≤ last → kept clock (number p) ≡ kept clock (number 0) + p
  steps p low = (run.keeps p low).0

  -- a greater number is a later picture's
  in_order : (p r : ℕ) → p ≤ last → r ≤ last → number p < number r → p < r
  in_order p r low high less = elim (leb_tells r p) [
    | inr (f, lt) ↦ lt
    | inl (t, le) ↦ elim (eqb_tells r p) [
      | inl (u, same) ↦ absurd (omega (arith, less, ap number same))
      | inr (u, other) ↦ absurd (omega (
        arith,
        less,
        greater clock (number r) (number p)
            (omega (arith, steps r high, steps p low, le, other)),
      ))
    ]
  ]

  in_order_too : (p r : ℕ) → p ≤ last → r ≤ last → number p ≤ number r → p ≤ r
  in_order_too p r low high less = elim (leb_tells p r) [
    | inl (t, le) ↦ le
    | inr (f, lt) ↦
        let up = greater clock (number r) (number p) (omega (arith, steps r high, steps p low, lt)) in
        let same : number r ≡ number p = omega (arith, up, less) in
        absurd (omega (arith, steps r high, steps p low, lt, ap (kept clock) same))
  ]

  -- ---- two pictures tell a number

  -- fields that tell a number show it, and that of another picture
  told_two : (field k n : ℕ) → field + k ≤ numbers.side.count → TellsFrom numbers field k n
      → (p : ℕ) × (p ≤ last) × (number p ≡ n) × (field ≤ begin + 2 * p) × (begin + 2 * p < field + k)
      × (begin + 3 ≤ field + k) × (field + 2 ≤ begin + 2 * last)
  told_two field k n within (i, shown, told) =
      two_in_part (shown_at numbers) numbers.side.count number begin last run.read field k i n within shown
      (told_other (shown_from numbers field k) i n told)

  -- two that go on tell the first one's
  pair_tells : (field k p : ℕ) → field ≤ begin + 2 * p → begin + 2 * (p + 1) < field + k
      → field + k ≤ numbers.side.count → p + 1 ≤ last → number (p + 1) ≡ number p + 1
      → TellsFrom numbers field k (number p)
  pair_tells field k p from to within low on =
      let a = begin + 2 * p - field in
      let b = begin + 2 * (p + 1) - field in
      let here = part_twice (shown_at numbers) numbers.side.count number begin last run.read field k p
      from (omega (arith, to)) within (omega (arith, low)) in
      let there = part_twice (shown_at numbers) numbers.side.count number begin last run.read field k (p + 1)
      (omega (arith, from)) to within low in
      let much : 8 ≤ window_weight (fits Video a (number p)) (shown_from numbers field k) a
      = two_weigh (fits Video a (number p)) (shown_from numbers field k) a a b (omega arith, omega arith)
      (omega (arith, from), omega (arith, from)) (omega (arith, from))
      (twice_weighs (fits Video a (number p) a) (shown_from numbers field k) a (number p) here
      (eq-eqb (a + 2 * number p) (a + 2 * number p) refl))
      (twice_weighs (fits Video a (number p) b) (shown_from numbers field k) b (number (p + 1)) there
      (eq-eqb (b + 2 * number p) (a + 2 * number (p + 1)) (omega (arith, on, from)))) in
      (a, here.1, inl (omega (arith, much)))

  -- from each picture but the last one on two go on: itself and the next one, or these two
  pair_from : (p : ℕ) → p + 1 ≤ last
      → (r : ℕ) × (p ≤ r) × (r ≤ p + 1) × (r + 1 ≤ last) × (number (r + 1) ≡ number r + 1) × (p ≡ 0 → r ≡ 0)
  pair_from p low =
      let (q, from, to, within, one, two) = run.three p (omega (arith, low)) in
      elim (eqb_tells q p) [
        | inl (t, same) ↦ itself (ap (λ (x : ℕ). number (x + 1)) (sym same) ∙ one ∙ ap (λ (x : ℕ). number x + 1) same)
        | inr (f, other) ↦ elim (eqb_tells (q + 1) p) [
          | inl (t, same) ↦ itself (middle q same one two)
          | inr (g, more) ↦
              let (h, begins, ends, room, first, second) = run.three (p + 1) low in
              elim (eqb_tells h p) [
                | inl (t, same) ↦ itself
                    (ap (λ (x : ℕ). number (x + 1)) (sym same) ∙ first ∙ ap (λ (x : ℕ). number x + 1) same)
                | inr (i, apart) ↦ elim (eqb_tells (h + 1) p) [
                  | inl (t, same) ↦ itself (middle h same first second)
                  | inr (j, after) ↦
                      let next : h ≡ p + 1 = omega (arith, begins, ends, apart, after) in (
                        h,
                        omega (arith, next),
                        omega (arith, next),
                        omega (arith, room),
                        first,
                        λ e. absurd (omega (arith, e, from, other, more, to)),
                      )
                ]
              ]
        ]
      ]
    where
      itself : number (p + 1) ≡ number p + 1
          → (r : ℕ) × (p ≤ r) × (r ≤ p + 1) × (r + 1 ≤ last) × (number (r + 1) ≡ number r + 1) × (p ≡ 0 → r ≡ 0)
      itself on = (p, omega arith, omega arith, low, on, λ e. e)

      middle : (q : ℕ) → q + 1 ≡ p → number (q + 1) ≡ number q + 1 → number (q + 2) ≡ number q + 2
          → number (p + 1) ≡ number p + 1
      middle q same one two =
          let next : q + 2 ≡ p + 1 = omega (arith, same) in
          omega (arith, one, two, ap number same, ap number next)

  -- ---- the first that tell

  first_tells : (field : ℕ) → field + 2 ≤ begin + 2 * last
      → (k n : ℕ) × TellsFrom numbers field k n
      × ((j m : ℕ) → j < k → TellsFrom numbers field j m → ⊥) × (field + k ≤ numbers.side.count)
      × ((field + k ≤ begin + 3) ⊎ ((begin < field) × (k ≤ 6)))
  first_tells field early =
      let (most, m, tells, within, near) = told_by (shown_at numbers) numbers.side.count number begin last run.read
      (TellsFrom numbers) (λ r. number (r + 1) ≡ number r + 1) two_more pair_from pair_tells field early in
      let (k, n, few, told, none) = first_told (shown_from numbers field) most m tells in (
        k,
        n,
        told,
        none,
        omega (arith, few, within),
        elim near [
          | inl to ↦ inl (omega (arith, few, to))
          | inr (after, most_six) ↦ inr (after, omega (arith, few, most_six))
        ],
      )

  -- whichever tell a number end there
  tells_near : (field k n : ℕ) → Tells numbers field k n
      → (field + k ≤ begin + 3) ⊎ ((begin < field) × (k ≤ 6))
  tells_near field k n tells =
      let (p, low, is, from, to, after, early) = told_two field k n tells.inside tells.tells in
      let (j, m, told, none, within, near) = first_tells field early in
      let least : k ≤ j = elim (leb_tells k j) [
        | inl (t, le) ↦ le
        | inr (f, lt) ↦ absurd (tells.first j m lt told)
      ] in
      elim near [ inl to ↦ inl (omega (arith, least, to)) | inr (late, six) ↦ inr (late, omega (arith, least, six)) ]

  -- ---- they lead to each number

  pub clean_leads : (q : ℕ) → q ≤ last → numbers.side.count + 16 ≤ 32 * last
      → Leads (number_spots numbers) (number q) (begin + 2 * q) (begin - 9) (begin + 2 * last - 2)
  clean_leads q low large = record {
    inside = omega (arith, in_count);
    part = omega (arith, large, two_more);
    between = (omega arith, omega (arith, low, two_more));
    told = λ field from to.
        let (k, n, told, none, within, near) = first_tells field (omega (arith, to, two_more)) in
        let few : k ≤ 12 = elim near [ inl e ↦ omega (arith, e, from) | inr e ↦ omega (arith, e.1) ] in
        (k, n, few, record { few = omega (arith, few); inside = within; tells = told; first = none });
    untold = λ field k n tells.
        let (p, at, is, from, to, after, early) = told_two field k n tells.inside tells.tells in
        elim (tells_near field k n tells) [
          | inl e ↦ (omega (arith, after), omega (arith, e, early, two_more))
          | inr e ↦ (omega (arith, after), omega (arith, e.0, e.1, early))
        ];
    lower = λ field k n tells less.
        let (p, at, is, from, to, after, early) = told_two field k n tells.inside tells.tells in
        let before = in_order p q at low (omega (arith, is, less)) in
        elim (tells_near field k n tells) [
          | inl e ↦ omega (arith, e, from, before)
          | inr e ↦ omega (arith, e.0, e.1, from, before)
        ];
    higher = λ field k n tells more.
        let (p, at, is, from, to, after, early) = told_two field k n tells.inside tells.tells in
        let before = in_order_too q p low at (omega (arith, is, more)) in
        omega (arith, before, to);
  }
