-- A search on a clean run finds each of its numbers.
use Rattle.std.proofs.Common.{◌≡◌, ◌≢◌, ℕ, ◌+◌, ◌*◌, ◌-◌, ◌/◌, ◌<◌, ◌≤◌, List, refl, arith, ap, sym}
use Rattle.std.proofs.Common.{subst, inl, inr, min}
use Rattle.std.specs.Prelude.{◌⊎◌}
use Rattle.std.proofs.lemmas.Bool.Decides.{leb_tells, eqb_tells}
use Rattle.vbi_c.specs.Types.{System, Ntsc, Pal, Clock, Plain, Counted, Times, Number, Pace, Video, Sightings, Given}
use Rattle.vbi_c.specs.Types.{Found}
use Rattle.vbi_side.specs.Beliefs.{reach, Believed}
use Rattle.vbi_whole.specs.CleanRuns.{IsReadTwice, IsCleanRun}
use Rattle.vbi_side.specs.Clocks.{kept}
use Rattle.vbi_side.specs.DueNumbers.{Due}
use Rattle.vbi_side.specs.PaceSearch.{IsFound}
use Rattle.vbi_side.specs.Numbers.{believed, doubtful_of, IsKnown}
use Rattle.vbi_whole.proofs.CleanRuns.{all_believed, finds_video}
use Rattle.vbi_side.proofs.Counting.{plain}
use Rattle.vbi_side.proofs.Filling.{unlike, not_due}
use Rattle.vbi_c.specs.Judging.{IsGiven}
use Rattle.vbi_seek.specs.NumberLeads.{IsFirstKnown}
use Rattle.vbi_seek.specs.NumberSearch.{Numbers, shown_at, shown_from, shown_of, around_most, HasOther, IsJudgedIn}
use Rattle.vbi_seek.proofs.Shown.{at as field_at}
use Rattle.vbi_c.proofs.CleanLeading.{two_more}
use Rattle.vbi_c.proofs.ReadRuns.{inside, in_part, part_twice}

-- of times the pace is that of video
of_times : (system : System) (found : Pace) (fields : List Sightings) → IsFound system Times fields found
    → found ≡ Video
of_times Ntsc found fields is = is
of_times Pal found fields is = is

-- of a run of three pictures or more a part that has 48 fields on either side of a picture, or all there are, has three
three_inside : (begin last q first many count : ℕ) → 2 ≤ last → q ≤ last → begin + 2 * last < count
    → (first ≡ 0) ⊎ (first + 48 ≤ begin + 2 * q) → (first + many ≡ count) ⊎ (begin + 2 * q + 48 < first + many)
    → 2 ≤ min last ((first + many - 1 - begin) / 2) - (first - begin + 1) / 2
three_inside begin last q first many count much low inside (inl before) (inl after) =
    omega (arith, much, low, inside, before, after)
three_inside begin last q first many count much low inside (inl before) (inr after) =
    omega (arith, much, low, inside, before, after)
three_inside begin last q first many count much low inside (inr before) (inl after) =
    omega (arith, much, low, inside, before, after)
three_inside begin last q first many count much low inside (inr before) (inr after) =
    omega (arith, much, low, inside, before, after)

module _ (numbers : Numbers) (clock : Clock) (number : ℕ → ℕ) (begin last : ℕ)
    (run : IsCleanRun clock number (shown_of numbers) begin last) where
  in_count : begin + 2 * last < numbers.side.count
  in_count = inside (shown_at numbers) numbers.side.count number begin last run.read

  much : 2 ≤ last
  much = two_more numbers clock number begin last run

  believed_at : (p : ℕ) → p ≤ last → Believed Video (shown_of numbers) (begin + 2 * p) (number p)
  believed_at p low = all_believed number (shown_of numbers) begin last run.read.each run.read.others run.three
      (begin + 2 * p) (number p) (run.read.each p low).1

  -- ---- the fields before the one with the number have others

  -- a field that is no picture's
  abbrev IsBlank : ℕ → Type 0
  IsBlank i = (p : ℕ) → i ≢ begin + 2 * p

  picture_or_not : (i : ℕ) → ((p : ℕ) × (i ≡ begin + 2 * p)) ⊎ IsBlank i
  picture_or_not i = elim (eqb_tells (begin + 2 * ((i - begin) / 2)) i) [
    | inl (t, same) ↦ inl ((i - begin) / 2, sym same)
    | inr (f, other) ↦ inr (λ p e. other (omega (arith, e)))
  ]

  never_known : (n m : ℕ) → n ≢ m → IsKnown (believed n) m → ⊥
  never_known n m apart (inl e) = apart (ap (λ (a : Number). a.number) e)
  never_known n m apart (inr e) = absurd (omega (arith, ap (λ (a : Number). a.state) e))

  blank_known : (field : Sightings) (m : ℕ) → IsKnown (doubtful_of field) m → ⊥
  blank_known field m (inl e) = unlike field m e
  blank_known field m (inr e) = not_due field m e

  blank_due : (i n : ℕ) → IsBlank i → Due Video (shown_of numbers) i n → ⊥
  blank_due i n blank d =
      let (earlier, later, leaves) = d.left in
      let b : Believed Video (shown_of numbers) earlier.field earlier.number = leaves.first in
      let on : i + 2 * earlier.number ≡ earlier.field + 2 * n = leaves.on in
      let before : earlier.field < i = leaves.before in
      let (p, low, at) = run.read.others earlier.field earlier.number b.shown in
      blank ((i - begin) / 2) (omega (arith, on, before, at))

  other_at : (q i : ℕ) → q ≤ last → i < begin + 2 * q → HasOther Video (shown_of numbers) (number q) i
  other_at q i low before = elim (picture_or_not i) [
    | inl (p, at) ↦
        let less : p < q = omega (arith, at, before) in
        let apart : number p ≢ number q = λ e. absurd (omega
        (arith, (run.keeps p (omega (arith, less, low))).0, (run.keeps q low).0, ap (kept clock) e, less)) in (
          believed (number p),
          inl (
            number p,
            subst (λ j. Believed Video (shown_of numbers) j (number p)) (sym at)
                (believed_at p (omega (arith, less, low))),
            refl,
          ),
          never_known (number p) (number q) apart,
        )
    | inr blank ↦
        let at = field_at (shown_at numbers) 0 numbers.side.count i i (omega (arith, before, low, in_count))
        (omega arith) in (
          doubtful_of (shown_at numbers i),
          inr (inr (
            λ n b. let (p, inside_run, is) = run.read.others i n b.shown in blank p is,
            λ n d. blank_due i n blank d,
            (shown_at numbers i, at, refl),
          )),
          blank_known (shown_at numbers i) (number q),
        )
  ]

  -- ---- the pace

  -- of a disc that leaves out no number, a part around a picture is a run itself
  part_paced : (q first many : ℕ) (system : System) (counted : Counted) (found : Pace) → clock ≡ Plain → q ≤ last
      → first + many ≤ numbers.side.count → (first ≡ 0) ⊎ (first + 2 * reach ≤ begin + 2 * q)
      → (first + many ≡ numbers.side.count) ⊎ (begin + 2 * q + 2 * reach < first + many)
      → IsFound system counted (shown_from numbers first many) found → found ≡ Video
  part_paced q first many system counted found none low within before after is =
      finds_video (λ p. number (from + p)) (shown_from numbers first many) (begin + 2 * from - first) (to - from)
      (λ p less. let place : begin + 2 * (from + p) - first ≡ begin + 2 * from - first + 2 * p
      = omega (arith, starts) in
      subst (λ i. IsReadTwice (shown_from numbers first many) i (number (from + p))) place
      (part_twice (shown_at numbers) numbers.side.count number begin last run.read first many (from + p)
      (omega (arith, starts)) (omega (arith, less, far.0, far.1)) within (omega (arith, less, far.0, far.1))))
      (λ i n shown. let (p, high, at, same, inside_part)
      = in_part (shown_at numbers) numbers.side.count number begin last run.read first many i n within
      shown in
      (p - from, omega (arith, at, high, inside_part), omega (arith, at)))
      (λ p less. elim (leb_tells p 2) [
        | inl (t, early) ↦ (0, omega arith, early, far.0, on 0 1 (omega (arith, far.0)), on 0 2 (omega (arith, far.0)))
        | inr (f, late) ↦ (
          p - 2,
          omega arith,
          omega (arith, late),
          omega (arith, less, late),
          on (p - 2) 1
              (omega (arith, less, late)),
          on (p - 2) 2 (omega (arith, less, late)),
        )
      ]) system counted found is
    where
      from : ℕ
      from = (first - begin + 1) / 2

      to : ℕ
      to = min last ((first + many - 1 - begin) / 2)

      starts : first ≤ begin + 2 * ((first - begin + 1) / 2)
      starts = omega arith

      far : (2 ≤ to - from) × (to ≤ last)
      far = (three_inside begin last q first many numbers.side.count much low in_count before after, omega arith)

      by_steps : (p : ℕ) → p ≤ last → number p ≡ number 0 + p
      by_steps p less =
          omega (arith, (run.keeps p less).0, plain clock (number p) none, plain clock (number 0) none)

      on : (p d : ℕ) → p + d ≤ to - from → number (from + (p + d)) ≡ number (from + p) + d
      on p d less = omega (
        arith,
        by_steps (from + (p + d)) (omega (arith, less, far.0, far.1)),
        by_steps (from + p) (omega (arith, less, far.0, far.1)),
      )

  -- ---- it is found first

  -- the pace of video is asked for, or what is found can only be that
  abbrev Asks : Type 0
  Asks = (numbers.judging.asked ≡ Given Video)
      ⊎ ((numbers.judging.asked ≡ Found)
      × ((clock ≡ Plain) ⊎ (numbers.judging.counted ≡ Times) ⊎ (numbers.judging.system ≡ Pal)))

  pub first_known : (q : ℕ) → q ≤ last → Asks
      → IsFirstKnown numbers (number q) (begin + 2 * q) Video
  first_known q low asks = record {
    inside = omega (arith, low, in_count);
    known = (believed (number q), inl (number q, believed_at q low, refl), inl refl);
    others = λ i before. other_at q i low before;
    asked = asked;
  }
    where
      asked : (first many : ℕ) (found : Pace) → many ≤ around_most
          → IsJudgedIn numbers (begin + 2 * q) first many found → found ≡ Video
      asked first many found few is = elim asks [
        | inl given ↦ subst (λ a. IsGiven a found) given is.asked.0
        | inr (sought, inl none) ↦ part_paced q first many numbers.judging.system numbers.judging.counted found none low
            is.inside is.before is.after (is.asked.1 sought)
        | inr (sought, inr (inl times)) ↦ of_times numbers.judging.system found (shown_from numbers first many)
            (subst (λ (c : Counted). IsFound numbers.judging.system c (shown_from numbers first many) found) times
            (is.asked.1 sought))
        | inr (sought, inr (inr pal)) ↦
            subst (λ (s : System). IsFound s numbers.judging.counted (shown_from numbers first many) found) pal
            (is.asked.1 sought)
      ]
