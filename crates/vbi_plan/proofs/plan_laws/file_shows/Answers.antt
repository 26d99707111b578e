use Rattle.std.proofs.Common.{◌≡◌, ◌≢◌, ◌∙◌, ℕ, zero, suc, ◌+◌, ◌<◌, refl, ap, arith}
use Rattle.std.proofs.Common.{inl, inr, length, List, [], ◌∷◌, ◌++◌, length-append}
use Rattle.std.specs.Prelude.{Some, None, slice_get, replicate}
use Rattle.std.proofs.lemmas.Bool.Decides.{eqb_tells}
use Rattle.std.proofs.lemmas.List.{length-replicate}
use Rattle.vbi_plan.specs.declared.plan.Stretch.{Stretch}
use Rattle.vbi_plan.specs.Plans.{Takes, given_by, out_at, shown, taken_from}
use Rattle.vbi_plan.proofs.Checking.{some_is}
use Rattle.vbi_plan.proofs.plan_laws.file_shows.Goals as goal

later : {A : Type 0} (xs ys : List A) (k n : ℕ) → n ≡ length xs + k → slice_get (xs ++ ys) n ≡ slice_get ys k
later [] ys k n e = ap (slice_get ys) (omega (arith, e))
later (x ∷ xs) ys k zero e = absurd (omega (arith, e))
later (x ∷ xs) ys k (suc n) e = later xs ys k n (omega (arith, e))

earlier : {A : Type 0} (xs ys : List A) (k : ℕ) → k < length xs → slice_get (xs ++ ys) k ≡ slice_get xs k
earlier [] ys k less = absurd (omega (arith, less))
earlier (x ∷ xs) ys zero less = refl
earlier (x ∷ xs) ys (suc k) less = earlier xs ys k (omega (arith, less))

repeated : {A : Type 0} (n k : ℕ) (x : A) → k < n → slice_get (replicate n x) k ≡ Some x
repeated zero k x less = absurd (omega (arith, less))
repeated (suc n) zero x less = refl
repeated (suc n) (suc k) x less = repeated n k x (omega (arith, less))

length_taken : {A : Type 0} (fields : List A) (f n : ℕ) → length (taken_from fields f n) ≡ n
unfolding taken_from
length_taken fields f zero = refl
length_taken fields f (suc n) = ap suc (length_taken fields (suc f) n)

taken_at : {A : Type 0} (fields : List A) (f n k g : ℕ) → k < n → g ≡ f + k
    → slice_get (taken_from fields f n) k ≡ Some (slice_get fields g)
unfolding taken_from
taken_at fields f zero k g less e = absurd (omega (arith, less))
taken_at fields f (suc n) zero g less e = ap (λ i. Some (slice_get fields i)) (omega (arith, e))
taken_at fields f (suc n) (suc k) g less e = taken_at fields (suc f) n k g (omega (arith, less)) (omega (arith, e))

of_capture : {A : Type 0} (fields : List A) (stretch : Stretch) → stretch.padding ≡ 0
    → given_by fields stretch ≡ taken_from fields stretch.field stretch.fields
of_capture fields stretch taken = elim (eqb_tells stretch.padding 0) [
  | inl t ↦ rw t.0 refl
  | inr f ↦ absurd (f.1 taken)
]

of_padding : {A : Type 0} (fields : List A) (stretch : Stretch) → stretch.padding ≢ 0
    → given_by fields stretch ≡ replicate stretch.fields None
of_padding fields stretch padding = elim (eqb_tells stretch.padding 0) [
  | inl t ↦ absurd (padding t.1)
  | inr f ↦ rw f.0 refl
]

length_given : {A : Type 0} (fields : List A) (stretch : Stretch) → length (given_by fields stretch) ≡ stretch.fields
length_given fields stretch = elim (eqb_tells stretch.padding 0) [
  | inl t ↦ ap length (of_capture fields stretch t.1) ∙ length_taken fields stretch.field stretch.fields
  | inr f ↦ ap length (of_padding fields stretch f.1) ∙ length-replicate stretch.fields None
]

out_cons : (stretch : Stretch) (plan : List Stretch) (i : ℕ)
    → out_at (stretch ∷ plan) (suc i) ≡ stretch.fields + out_at plan i
unfolding out_at
out_cons stretch plan zero = omega arith
out_cons stretch plan (suc i) = omega (arith, out_cons stretch plan i)

length_shown : {A : Type 0} (fields : List A) (plan : List Stretch)
    → length (shown fields plan) ≡ out_at plan (length plan)
unfolding out_at shown
length_shown fields [] = refl
length_shown fields (stretch ∷ plan) =
    length-append (given_by fields stretch) (shown fields plan)
    ∙ omega (arith, length_given fields stretch, length_shown fields plan, out_cons stretch plan (length plan))

in_stretch : {A : Type 0} (fields : List A) (plan : List Stretch) (i j n : ℕ) (stretch : Stretch)
    → slice_get plan i ≡ Some stretch → j < stretch.fields → n ≡ out_at plan i + j
    → slice_get (shown fields plan) n ≡ slice_get (given_by fields stretch) j
unfolding out_at shown
in_stretch fields [] i j n stretch there less e = absurd (let no : None ≡ Some stretch → ⊥ = λ h. cc in no there)
in_stretch fields (first ∷ plan) zero j n stretch there less e =
    let same = some_is first stretch there in
    let short : n < length (given_by fields first)
    = omega (arith, e, less, length_given fields first, ap (λ one. one.fields) same) in
    earlier (given_by fields first) (shown fields plan) n short
    ∙ ap (λ one. slice_get (given_by fields one) n) same
    ∙ ap (slice_get (given_by fields stretch)) (omega (arith, e))
in_stretch fields (first ∷ plan) (suc i) j n stretch there less e =
    later (given_by fields first) (shown fields plan) (out_at plan i + j) n
    (omega (arith, e, length_given fields first, out_cons first plan i))
    ∙ in_stretch fields plan i j (out_at plan i + j) stretch there less refl

shows_taken : {A : Type 0} (fields : List A) (plan : List Stretch) (i j f : ℕ) → Takes plan i j f
    → slice_get (shown fields plan) (out_at plan i + j) ≡ Some (slice_get fields f)
shows_taken fields plan i j f takes =
    let stretch = takes.stretch in
    in_stretch fields plan i j (out_at plan i + j) stretch takes.there takes.inside refl
    ∙ ap (λ ones. slice_get ones j) (of_capture fields stretch takes.taken)
    ∙ taken_at fields stretch.field stretch.fields j f takes.inside takes.is

shows_padding : {A : Type 0} (fields : List A) (plan : List Stretch) (i j : ℕ) (stretch : Stretch)
    → slice_get plan i ≡ Some stretch → stretch.padding ≢ 0 → j < stretch.fields
    → slice_get (shown fields plan) (out_at plan i + j) ≡ Some None
shows_padding fields plan i j stretch there padding less =
    in_stretch fields plan i j (out_at plan i + j) stretch there less refl
    ∙ ap (λ ones. slice_get ones j) (of_padding fields stretch padding)
    ∙ repeated stretch.fields j None less

pub returns : goal.returns
returns c = record { fields = length_shown; taken = shows_taken; padding = shows_padding }
