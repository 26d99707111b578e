-- What the gaps of a capture say of it.
use Rattle.vbi_side.proofs.Truth.{near_same, video_fits, film_fits}
use Rattle.std.proofs.Common.{◌-◌, ◌≡◌, ◌≢◌, ℕ, zero, suc, ◌+◌, ◌*◌, ◌<◌, ◌≤◌, Bool, true, false, List, [], ◌∷◌, ◌++◌}
use Rattle.std.proofs.Common.{arith, ap, sym, ◌∙◌, subst, inl, inr, length}
use Rattle.std.specs.Prelude.{Option, Some, None, ◌⊎◌, if◌then◌else◌}
use Rattle.std.proofs.lemmas.Bool.Decides.{leb_tells, eqb_tells}
use Rattle.std.proofs.lemmas.List.{length_push}
use Rattle.std.proofs.Math.Dec.{eqb}
use Rattle.vbi_whole.specs.Types.{Number, Gap, Pace, Video, Film, Sightings, Numbering, Rule, Place}
use Rattle.vbi_side.specs.Paces.{nearly, fits, spot}
use Rattle.vbi_side.specs.Clocks.{kept, DiscCountsBy, by_clock}
use Rattle.vbi_side.specs.Numbers.{believed, IsMarked}
use Rattle.vbi_side.specs.Side.{captured, AreLost}
use Rattle.vbi_whole.specs.Gaps.{lost, held, lacking_by, gap_as}
use Rattle.vbi_whole.specs.Gaps.{kind_of, fields_of, ended_between, shown_between, AreNeighbours, IsGap, AreGaps}
use Rattle.vbi_whole.specs.Gaps.{CountTo, HasRightEnds, LostAtLeast, HeldAtLeast, lacking, Judged, amid_of, from_of}
use Rattle.vbi_whole.specs.Gaps.{to_of, goes_on, of_video, to_judge, IsOfVideo}
use Rattle.std.proofs.lemmas.Bool.{and_parts}
use Rattle.vbi_whole.proofs.Telling.{gap_is, some_is}

-- ---- one gap

-- it is what lies between its ends
is_made : (judged : Judged) (gap : Gap) → IsGap judged gap
    → gap ≡ gap_as judged.rule (kind_of judged.rule (ended_between judged.ends gap.after gap.before) (from_of gap)
    (to_of gap)) (shown_between judged.seen (from_of gap) (to_of gap)) (from_of gap) (to_of gap)
is_made judged gap is =
    gap_is judged.rule (amid_of judged (from_of gap) (to_of gap)) (from_of gap) (to_of gap) gap is.found

-- the fields of a gap of this kind between its ends
abbrev fields_as : Judged → Gap → ℕ → ℕ
fields_as judged gap kind =
    fields_of judged.rule kind (by_clock judged.rule.numbering.clock (from_of gap))
    (by_clock judged.rule.numbering.clock (to_of gap))

-- its fields are those of its kind
gap_fields : (judged : Judged) (gap : Gap) → IsGap judged gap → gap.fields ≡ fields_as judged gap gap.kind
gap_fields judged gap is = grind (arith, is_made)

-- between numbers that are told to lack fields some are too few, and none is where too many are told
kind_tells : (rule : Rule) (ended : Bool) (a b : Place)
    → (kind_of rule ended a b ≡ lost → 0 < lacking_by rule.numbering.clock rule.pace a b)
    × (kind_of rule ended a b ≡ held → lacking_by rule.numbering.clock rule.pace a b ≡ 0)
kind_tells rule ended x y = grind (arith, leb_tells)

-- of a gap with lost fields so many are too few between its numbers, and some are
lost_lacks : (judged : Judged) (gap : Gap) → IsGap judged gap → gap.kind ≡ lost
    → (gap.fields ≡ lacking_by judged.rule.numbering.clock judged.rule.pace (from_of gap) (to_of gap)
    - judged.rule.slack) × (0 < lacking_by judged.rule.numbering.clock judged.rule.pace (from_of gap) (to_of gap))
lost_lacks judged gap is kind = (
  gap_fields judged gap is ∙ ap (fields_as judged gap) kind,
  (kind_tells judged.rule (ended_between judged.ends gap.after gap.before) (from_of gap) (to_of gap)).0
      (sym (ap (λ (g : Gap). g.kind) (is_made judged gap is)) ∙ kind),
)

-- of video just so many are lost
pub gap_exact : (disc : ℕ → Option ℕ) (place : ℕ → ℕ) (numbering : Numbering) (seen : List Sightings)
    (answers : List Number)
    (ends : List ℕ) (gap : Gap)
    → DiscCountsBy numbering.clock Video disc → IsGap (of_video numbering seen answers ends) gap
    → gap.kind ≡ lost
    → HasRightEnds (captured disc place) gap → AreLost place gap.after gap.before gap.fields
gap_exact disc place numbering seen answers ends gap runs is kind (first, last) =
    let p = lost_lacks (of_video numbering seen answers ends) gap is kind in
    let on = video_fits (place gap.after) (kept numbering.clock gap.from) (place gap.before)
    (kept numbering.clock gap.to)
    (runs (place gap.after) (place gap.before) gap.from gap.to first last) in
    let order : gap.after < gap.before = is.neighbours.order in
    omega (arith, p.0, p.1, on, order)

-- so many at least are lost between two places, at either pace
least_by : (pace : Pace) (slack lost : ℕ) (place : ℕ → ℕ) (i m j n : ℕ) → i < j
    → (lost ≡ lacking pace (spot i m) (spot j n) - slack) × (0 < lacking pace (spot i m) (spot j n))
    → fits pace (place i) m (place j) n ≡ true → LostAtLeast place i j lost
least_by pace slack lost place i m j n h1 h2 h3 = grind (arith, film_fits, video_fits)

pub gap_least : (judged : Judged) (disc : ℕ → Option ℕ) (place : ℕ → ℕ) (gap : Gap)
    → DiscCountsBy judged.rule.numbering.clock judged.rule.pace disc → IsGap judged gap → gap.kind ≡ lost
    → HasRightEnds (captured disc place) gap → LostAtLeast place gap.after gap.before gap.fields
gap_least judged disc place gap runs is kind (first, last) =
    least_by judged.rule.pace judged.rule.slack gap.fields place gap.after
    (kept judged.rule.numbering.clock gap.from) gap.before (kept judged.rule.numbering.clock gap.to)
    is.neighbours.order (lost_lacks judged gap is kind)
    (runs (place gap.after) (place gap.before) gap.from gap.to first last)

-- numbers that go on leave no gap
pub none_found : (b : Bool) (one gap : Gap) → b ≡ true → (if b then None else Some one) ≡ Some gap → ⊥
none_found true one gap e found = absurd cc
none_found false one gap e found = absurd (let h : false ≡ true = e in cc)

-- the numbers of a gap don't go on
pub not_on : (judged : Judged) (gap : Gap) → IsGap judged gap → goes_on judged.rule (from_of gap) (to_of gap) ≡ true → ⊥
not_on judged gap is near = grind (arith, none_found)

-- of a gap with too many fields so many are too many between its numbers, and none is too few
held_holds : (judged : Judged) (gap : Gap) → IsGap judged gap → gap.kind ≡ held
    → (gap.fields ≡ lacking_by judged.rule.numbering.clock judged.rule.pace (to_of gap) (from_of gap)
    - judged.rule.slack) × (lacking_by judged.rule.numbering.clock judged.rule.pace (from_of gap) (to_of gap) ≡ 0)
held_holds judged gap is kind = (
  gap_fields judged gap is ∙ ap (fields_as judged gap) kind,
  (kind_tells judged.rule (ended_between judged.ends gap.after gap.before) (from_of gap) (to_of gap)).1
      (sym (ap (λ (g : Gap). g.kind) (is_made judged gap is)) ∙ kind),
)

-- numbers of film that don't fit and don't lack a field have one too many
film_apart : (i m k n : ℕ) → (fits Film i m k n ≡ true → ⊥) → lacking Film (spot i m) (spot k n) ≡ 0
    → 2 * i + 5 * n + 2 < 2 * k + 5 * m
film_apart i m k n apart none = grind (arith, leb_tells)

-- so many at least are there in place of the disc's
more_by : (pace : Pace) (slack held : ℕ) (place : ℕ → ℕ) (i m j n : ℕ) → i < j
    → (nearly pace slack (spot i m) (spot j n) ≡ true → ⊥)
    → (held ≡ lacking pace (spot j n) (spot i m) - slack) × (lacking pace (spot i m) (spot j n) ≡ 0)
    → fits pace (place i) m (place j) n ≡ true → HeldAtLeast place i j held
more_by pace slack held place i m j n h1 h2 h3 h4 = grind (arith, film_apart, film_fits, video_fits)

pub gap_more : (judged : Judged) (disc : ℕ → Option ℕ) (place : ℕ → ℕ) (gap : Gap)
    → DiscCountsBy judged.rule.numbering.clock judged.rule.pace disc → IsGap judged gap → gap.kind ≡ held
    → HasRightEnds (captured disc place) gap → HeldAtLeast place gap.after gap.before gap.fields
gap_more judged disc place gap runs is kind (first, last) =
    more_by judged.rule.pace judged.rule.slack gap.fields place gap.after
    (kept judged.rule.numbering.clock gap.from) gap.before (kept judged.rule.numbering.clock gap.to)
    is.neighbours.order (not_on judged gap is) (held_holds judged gap is kind)
    (runs (place gap.after) (place gap.before) gap.from gap.to first last)

-- ---- neighbours

number_is : (m n : ℕ) → believed m ≡ believed n → m ≡ n
number_is m n e = ap (λ (x : Number). x.number) e

pub same_number : (answers : List Number) (i m n : ℕ) → IsMarked answers i m → IsMarked answers i n → m ≡ n
same_number answers i m n one other =
    number_is m n (some_is (believed m) (believed n) (sym one ∙ other))

-- the one before a field is one alone
pub same_before : (answers : List Number) (i m k n h l o : ℕ) → AreNeighbours answers (spot i m) (spot k n)
    → AreNeighbours answers (spot h l) (spot k o)
    → i ≡ h
same_before answers i m k n h l o one other = grind (arith, leb_tells)

-- ---- all numbers count to each other where there is no gap

no_push : (xs : List Gap) (y : Gap) → [] ≡ xs ++ y ∷ [] → ⊥
no_push xs y e = absurd (omega (arith, ap (λ (zs : List Gap). length zs) e, length_push xs y))

pub on_video : (i m k n : ℕ) → nearly Video 0 (spot i m) (spot k n) ≡ true → k + 2 * m ≡ i + 2 * n
on_video i m k n is = grind (arith, and_parts, leb_tells)

pub all_count : (numbering : Numbering) (seen : List Sightings) (answers : List Number) (ends : List ℕ) (k unread : ℕ)
    → AreGaps (of_video numbering seen answers ends) k [] unread
    → (i m j n : ℕ) → IsMarked answers i m → IsMarked answers j n → i ≤ j → j < k
    → CountTo numbering.clock i m j n
unfolding AreGaps
all_count numbering seen answers ends zero unread all i m j n here there order inside = absurd (omega (arith, inside))
all_count numbering seen answers ends (suc k) unread all i m j n here there order inside =
    go (λ other fewer. all_count numbering seen answers ends k other fewer) all (eqb_tells j k) (eqb_tells i k)
  where
    go : ((other : ℕ) → AreGaps (of_video numbering seen answers ends) k [] other → (a b c d : ℕ)
        → IsMarked answers a b
        → IsMarked answers c d
        → a ≤ c → c < k → CountTo numbering.clock a b c d)
        → AreGaps (of_video numbering seen answers ends) (suc k) [] unread
        → ((eqb j k ≡ true) × (j ≡ k)) ⊎ ((eqb j k ≡ false) × (j ≢ k))
        → ((eqb i k ≡ true) × (i ≡ k)) ⊎ ((eqb i k ≡ false) × (i ≢ k)) → CountTo numbering.clock i m j n
    go ih (inl (free, fewer)) (inr (f, differ)) _ =
        ih unread fewer i m j n here there order (omega (arith, inside, differ))
    go ih (inr (inl (h, l, o, other, on, fewer, e))) (inr (f, differ)) _ =
        ih other fewer i m j n here there order (omega (arith, inside, differ))
    go ih (inr (inr (one, others, is, last, fewer, e))) _ _ = absurd (no_push others one e)
    go ih (inl (free, fewer)) (inl (t, same)) (inl (u, first)) =
        let e : i ≡ j = omega (arith, same, first) in
        omega (
          arith,
          e,
          ap (kept numbering.clock) (same_number answers j m n (subst (λ x. IsMarked answers x m) e here) there),
        )
    go ih (inr (inl (h, l, o, other, on, fewer, e))) (inl (t, same)) (inl (u, first)) =
        let e : i ≡ j = omega (arith, same, first) in
        omega (
          arith,
          e,
          ap (kept numbering.clock) (same_number answers j m n (subst (λ x. IsMarked answers x m) e here) there),
        )
    go ih (inl (inl never, fewer)) (inl (t, same)) (inr (u, differ)) =
        absurd (never n (subst (λ x. IsMarked answers x n) same there))
    go ih (inl (inr never, fewer)) (inl (t, same)) (inr (u, differ)) =
        absurd (never i m (omega (arith, order, same, differ)) here)
    go ih (inr (inl (h, l, o, other, on, fewer, e))) (inl (t, same)) (inr (u, differ)) =
        let number = ap (kept numbering.clock)
        (same_number answers k n o (subst (λ x. IsMarked answers x n) same there) on.neighbours.there) in
        elim (leb_tells i h) [
          | inl (v, le) ↦ omega (
            arith,
            same,
            number,
            on_video h (kept numbering.clock l) k (kept numbering.clock o) on.near,
            ih other fewer i m h l here on.neighbours.here le on.neighbours.order,
          )
          | inr (v, lt) ↦ absurd (on.neighbours.between i m lt (omega (arith, order, same, differ)) here)
        ]

-- ---- a gap is a cut

-- with right numbers at both ends, of a disc that counts on, the capture isn't one run of the disc there
pub gap_is_cut : (disc : ℕ → Option ℕ) (place : ℕ → ℕ) (numbering : Numbering) (seen : List Sightings)
    (answers : List Number)
    (ends : List ℕ) (gap : Gap)
    → DiscCountsBy numbering.clock Video disc → IsGap (of_video numbering seen answers ends) gap
    → HasRightEnds (captured disc place) gap
    → place gap.before ≢ place gap.after + (gap.before - gap.after)
gap_is_cut disc place numbering seen answers ends gap runs is (first, last) same =
    let on = video_fits (place gap.after) (kept numbering.clock gap.from) (place gap.before)
    (kept numbering.clock gap.to)
    (runs (place gap.after) (place gap.before) gap.from gap.to first last) in
    let order : gap.after < gap.before = is.neighbours.order in
    let from = kept numbering.clock gap.from in
    let to = kept numbering.clock gap.to in
    let counts : gap.before + 2 * from ≡ gap.after + 2 * to = omega (arith, on, order, same) in
    not_on (of_video numbering seen answers ends) gap is
    (near_same (gap.before + 2 * from) (gap.after + 2 * to) counts)

-- what holds of a capture of video holds of it by the rule of video
pub as_video : (P : Judged → Type 0) (judged : Judged) → IsOfVideo judged → P judged
    → P (of_video judged.rule.numbering judged.seen judged.numbers judged.ends)
as_video P judged video holds = subst (λ rule. P (to_judge rule judged.seen judged.numbers judged.ends)) video holds
