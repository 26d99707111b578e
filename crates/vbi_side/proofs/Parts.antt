-- A field is answered the same from a part of its capture.
use Rattle.std.proofs.Common.{◌≡◌, ℕ, zero, suc, ◌+◌, ◌*◌, ◌-◌, ◌≤◌, Bool, true, List, refl}
use Rattle.std.proofs.Common.{arith, ap, sym, ◌∙◌, subst, inl, inr}
use Rattle.std.specs.Prelude.{Option, slice_get, ◌⊎◌, ◌↔◌}
use Rattle.std.proofs.lemmas.Bool.{leb-true, le-leb, and_from}
use Rattle.std.proofs.lemmas.Bool.Decides.{leb_tells}
use Rattle.vbi_side.specs.Types.{Number, Pace, Video, Film, Sightings}
use Rattle.vbi_side.specs.Paces.{spot, fits, stays, Count, nearly}
use Rattle.vbi_side.specs.Beliefs.{reach, field_weight, weight_at, weight_below, support_of, Believed}
use Rattle.vbi_side.specs.DueNumbers.{slack_of, Leaves, IsLeft, Due}
use Rattle.vbi_side.specs.Numbers.{due, IsAnswer}
use Rattle.vbi_side.specs.Parts.{IsPart}
use Rattle.vbi_side.specs.Truth.{IsNear}
use Rattle.vbi_side.proofs.DueLemmas.{video_nearly, left_alike}
use Rattle.vbi_side.proofs.Weights.{field_narrower}
use Rattle.vbi_side.proofs.Truth.{video_fits, film_fits, stays_is, believed_alike}

-- ---- what fits, so many fields later

pub same_truth : (a b : Bool) → (a ≡ true → b ≡ true) → (b ≡ true → a ≡ true) → a ≡ b
same_truth a b h1 h2 = grind arith

fits_later : (pace : Pace) (first i m j n : ℕ) → fits pace i m j n ≡ fits pace (first + i) m (first + j) n
fits_later pace first i m j n = grind (arith, and_from, film_fits, le-leb, same_truth, video_fits)

stays_later : (first i m j n : ℕ) → stays i m j n ≡ stays (first + i) m (first + j) n
stays_later first i m j n = grind (arith, and_from, same_truth, stays_is)

-- ---- what is read around a field

field_later : (test later : ℕ → Bool) (field : Option Sightings) → ((n : ℕ) → test n ≡ later n)
    → field_weight test field ≡ field_weight later field
field_later test later field same = grind (arith, field_narrower)

weight_at-later : (test later : ℕ → ℕ → Bool) (part whole : List Sightings) (first i k : ℕ) → k ≤ 2 * reach
    → (first ≡ 0) ⊎ (reach ≤ i) → ((j : ℕ) → IsNear i j → slice_get part j ≡ slice_get whole (first + j))
    → ((j n : ℕ) → test j n ≡ later (first + j) n)
    → weight_at test part i k ≡ weight_at later whole (first + i) k
weight_at-later test later part whole first i k within before agree same = grind (arith, field_later, leb_tells)

pub weight_below-later : (test later : ℕ → ℕ → Bool) (part whole : List Sightings) (first i n : ℕ) → n ≤ 2 * reach + 1
    → (first ≡ 0) ⊎ (reach ≤ i) → ((j : ℕ) → IsNear i j → slice_get part j ≡ slice_get whole (first + j))
    → ((j n : ℕ) → test j n ≡ later (first + j) n)
    → weight_below test part i n ≡ weight_below later whole (first + i) n
unfolding weight_below
weight_below-later test later part whole first i zero within before agree same = refl
weight_below-later test later part whole first i (suc n) within before agree same =
    omega (
      arith,
      weight_below-later test later part whole first i n (omega (arith, within)) before agree same,
      weight_at-later test later part whole first i n (omega (arith, within)) before agree same,
    )

-- ---- what is believed

-- the part agrees with the whole on the fields within reach of field i, and begins with it or as far before
record IsSeen (part whole : List Sightings) (first i : ℕ) : Type 0 where
  before : (first ≡ 0) ⊎ (reach ≤ i)
  agree : (j : ℕ) → IsNear i j → slice_get part j ≡ slice_get whole (first + j)

support_later : (pace : Pace) (part whole : List Sightings) (first i m : ℕ) → IsSeen part whole first i
    → support_of pace part i m ≡ support_of pace whole (first + i) m
support_later pace part whole first i m seen =
    omega (
      arith,
      weight_below-later (fits pace i m) (fits pace (first + i) m) part whole first i (2 * reach + 1) (omega arith)
          seen.before seen.agree (fits_later pace first i m),
      weight_below-later (stays i m) (stays (first + i) m) part whole first i (2 * reach + 1) (omega arith)
          seen.before seen.agree (stays_later first i m),
    )

believed_later : (pace : Pace) (part whole : List Sightings) (first i n : ℕ) → IsSeen part whole first i
    → Believed pace part i n ↔ Believed pace whole (first + i) n
believed_later pace part whole first i n seen = (
  believed_alike pace part whole i (first + i) n here same,
  believed_alike pace whole part (first + i) i n (sym here) (λ m. sym (same m)),
)
  where
    here : slice_get part i ≡ slice_get whole (first + i)
    here = seen.agree i (omega arith, omega arith)

    same : (m : ℕ) → support_of pace part i m ≡ support_of pace whole (first + i) m
    same m = support_later pace part whole first i m seen

-- ---- what is due

count_later : (pace : Pace) (first i m j n : ℕ) → Count pace i m j n ↔ Count pace (first + i) m (first + j) n
count_later Video first i m j n = (λ e. omega (arith, e), λ e. omega (arith, e))
count_later Film first i m j n = (λ e. omega (arith, e), λ e. omega (arith, e))

nearly_later : (pace : Pace) (slack first i m j n : ℕ)
    → nearly pace slack (spot i m) (spot j n) ≡ nearly pace slack (spot (first + i) m) (spot (first + j) n)
nearly_later pace slack first i m j n = grind (arith, and_from, fits_later, le-leb, same_truth, video_nearly)

slack_later : (first j k : ℕ) → slack_of j k ≡ slack_of (first + j) (first + k)
slack_later first j k = grind (arith, le-leb, leb-true, same_truth)

-- a field within reach of field i is seen from a part that field i can be judged from
seen_near : (whole part : List Sightings) (first i j : ℕ) → IsPart Sightings whole part first i → IsNear i j
    → IsSeen part whole first j
seen_near whole part first i j is near = record {
  before = elim is.before [ inl none ↦ inl none | inr far ↦ inr (omega (arith, far, near.0)) ];
  agree = λ k by. is.same k (omega (arith, near.1, by.1));
}

-- a field of the whole that is within reach of field i lies in the part
within_part : (whole part : List Sightings) (first i j : ℕ) → IsPart Sightings whole part first i
    → first + i ≤ j + reach
    → first ≤ j
within_part whole part first i j is near = elim is.before [
  | inl none ↦ omega (arith, none)
  | inr far ↦ omega (arith, far, near)
]

-- numbers that lie so many fields later leave the same
left_later : (P : ℕ → ℕ → Type 0) (pace : Pace) (first i n : ℕ) → IsLeft (λ j. P (first + j)) pace i n
    → IsLeft P pace (first + i) n
left_later P pace first i n (earlier, later, leaves) = (
  spot (first + j) earlier.number,
  spot (first + k) later.number,
  record {
    before = omega (arith, leaves.before);
    near = omega (arith, leaves.near);
    after = omega (arith, leaves.after);
    far = omega (arith, leaves.far);
    first = leaves.first;
    last = leaves.last;
    on = (count_later pace first j earlier.number i n).0 leaves.on;
    back = (count_later pace first i n k later.number).0 leaves.back;
    between = λ h x more less has.
        let at : first + (h - first) ≡ h = omega (arith, more) in
        subst (λ f. nearly pace (slack_of (first + j) (first + k)) (spot (first + i) n) (spot f x) ≡ true) at
        (sym (nearly_later pace (slack_of (first + j) (first + k)) first i n (h - first) x)
        ∙ ap (λ s. nearly pace s (spot i n) (spot (h - first) x)) (sym (slack_later first j k))
        ∙ leaves.between (h - first) x (omega (arith, more)) (omega (arith, less))
        (subst (λ f. P f x) (sym at) has));
  },
)
  where
    j : ℕ
    j = earlier.field

    k : ℕ
    k = later.field

-- and so many fields earlier, if they are there
left_back : (P : ℕ → ℕ → Type 0) (pace : Pace) (first i n : ℕ) → ((j : ℕ) → first + i ≤ j + reach → first ≤ j)
    → IsLeft P pace (first + i) n → IsLeft (λ j. P (first + j)) pace i n
left_back P pace first i n within (earlier, later, leaves) =
    let at : earlier.field ≡ first + (earlier.field - first) = omega (arith, within earlier.field leaves.near) in
    let to : later.field ≡ first + (later.field - first) = omega (arith, leaves.after) in
    go (earlier.field - first) (later.field - first)
    (subst (λ f. Leaves P pace (spot (first + (earlier.field - first)) earlier.number) (spot f later.number)
    (spot (first + i) n)) to
    (subst (λ f. Leaves P pace (spot f earlier.number) later (spot (first + i) n)) at leaves))
  where
    go : (j k : ℕ)
        → Leaves P pace (spot (first + j) earlier.number) (spot (first + k) later.number) (spot (first + i) n)
        → IsLeft (λ f. P (first + f)) pace i n
    go j k leaves = (
      spot j earlier.number,
      spot k later.number,
      record {
        before = omega (arith, leaves.before);
        near = omega (arith, leaves.near);
        after = omega (arith, leaves.after);
        far = omega (arith, leaves.far);
        first = leaves.first;
        last = leaves.last;
        on = (count_later pace first j earlier.number i n).1 leaves.on;
        back = (count_later pace first i n k later.number).1 leaves.back;
        between = λ f x more less has. nearly_later pace (slack_of j k) first i n f x
            ∙ ap (λ s. nearly pace s (spot (first + i) n) (spot (first + f) x)) (slack_later first j k)
            ∙ leaves.between (first + f) x (omega (arith, more)) (omega (arith, less)) has;
      },
    )

due_later : (pace : Pace) (whole part : List Sightings) (first i n : ℕ) → IsPart Sightings whole part first i
    → Due pace part i n ↔ Due pace whole (first + i) n
due_later pace whole part first i n is = (on, back)
  where
    here : slice_get part i ≡ slice_get whole (first + i)
    here = is.same i (omega arith)

    near : (j m : ℕ) → IsNear i j → Believed pace part j m ↔ Believed pace whole (first + j) m
    near j m by = believed_later pace part whole first j m (seen_near whole part first i j is by)

    own : (m : ℕ) → Believed pace part i m ↔ Believed pace whole (first + i) m
    own m = near i m (omega arith, omega arith)

    on : Due pace part i n → Due pace whole (first + i) n
    on due = record {
      unbelieved = λ m b. due.unbelieved m ((own m).1 b);
      vacant = λ shows. due.vacant (shows.0, here ∙ shows.1, shows.2);
      unread = λ shows. due.unread (shows.0, here ∙ shows.1, shows.2, shows.3, shows.4);
      left = left_later (Believed pace whole) pace first i n (left_alike (Believed pace part)
          (λ j. Believed pace whole (first + j)) pace i n near due.left);
    }

    back : Due pace whole (first + i) n → Due pace part i n
    back due = record {
      unbelieved = λ m b. due.unbelieved m ((own m).0 b);
      vacant = λ shows. due.vacant (shows.0, sym here ∙ shows.1, shows.2);
      unread = λ shows. due.unread (shows.0, sym here ∙ shows.1, shows.2, shows.3, shows.4);
      left = left_alike (λ j. Believed pace whole (first + j)) (Believed pace part) pace i n
          (λ j m by. ((near j m by).1, (near j m by).0))
          (left_back (Believed pace whole) pace first i n (λ j. within_part whole part first i j is) due.left);
    }

-- ---- what is answered

pub same_in_part : (pace : Pace) (whole part : List Sightings) (first i : ℕ) (answer : Number)
    → IsPart Sightings whole part first i → IsAnswer pace part i answer ↔ IsAnswer pace whole (first + i) answer
same_in_part pace whole part first i answer is = (on, back)
  where
    here : slice_get part i ≡ slice_get whole (first + i)
    here = is.same i (omega arith)

    own : (m : ℕ) → Believed pace part i m ↔ Believed pace whole (first + i) m
    own m = believed_later pace part whole first i m (seen_near whole part first i i is (omega arith, omega arith))

    dues : (m : ℕ) → Due pace part i m ↔ Due pace whole (first + i) m
    dues m = due_later pace whole part first i m is

    on : IsAnswer pace part i answer → IsAnswer pace whole (first + i) answer
    on (inl (n, b, e)) = inl (n, (own n).0 b, e)
    on (inr (inl (n, d, e))) = inr (inl (n, (dues n).0 d, e))
    on (inr (inr (none, nor, shows))) =
        inr (inr (λ n b. none n ((own n).1 b), λ n d. nor n ((dues n).1 d), (shows.0, sym here ∙ shows.1, shows.2)))

    back : IsAnswer pace whole (first + i) answer → IsAnswer pace part i answer
    back (inl (n, b, e)) = inl (n, (own n).1 b, e)
    back (inr (inl (n, d, e))) = inr (inl (n, (dues n).1 d, e))
    back (inr (inr (none, nor, shows))) =
        inr (inr (λ n b. none n ((own n).0 b), λ n d. nor n ((dues n).0 d), (shows.0, here ∙ shows.1, shows.2)))
