-- What follows from what a run says.
use Rattle.vbi_field.proofs.Common.{◌≡◌, ℕ, ◌+◌, ◌*◌, ◌/◌, ◌≤◌, inl, inr, [], ◌++◌, length, take, sym, ap, subst, ◌∙◌}
use Rattle.vbi_field.proofs.Common.{arith, Consumes, IsAtEnd, EndsInside, length-append, take_at, width_of, line_bytes}
use Rattle.vbi_field.proofs.Common.{field_bytes, ConfigView, EndsWithin, fields_of, rest_of, looks_of, whole_text, Kind}
use Rattle.std.proofs.Common.{◌⊎◌, List, Option, Some, None, append-nil}
use Rattle.vbi_field.specs.Ran.{IsFirstOf}
use Rattle.std.proofs.Math.Nat.{zero-mod}
use Rattle.vbi_field.specs.Texts.{text_before_tail}
use Rattle.vbi_field.proofs.Counts.{rest-next, few_looks}

pub first : (all z : List ℕ) (input : Option (List ℕ)) → Consumes (Some all) input z
    → (length z ≤ length all) × (z ≡ take (length z) all)
first all z None came = absurd came
first all z (Some left) came = grind (arith, length-append, take_at)

pub whole : (all z : List ℕ) (input : Option (List ℕ)) → Consumes (Some all) input z → IsAtEnd input → z ≡ all
whole all z None came end = absurd came
whole all z (Some left) came end = sym (came ∙ ap (λ l. z ++ l) end ∙ append-nil z)

pub few : (c : ConfigView) (z : List ℕ) → looks_of c z ≤ 3 * width_of c.system * (fields_of c z + 1)
few c z = few_looks c.system (fields_of c z) (rest_of c z / line_bytes c.system)

first_inside : (before due text : List ℕ) → EndsInside before due text → IsFirstOf text due
first_inside before due text ends = grind (arith, length-append, take_at)

pub first_of_text : (t : Kind) (c : ConfigView) (input : Option (List ℕ)) (z text : List ℕ)
    → EndsWithin t c input z text
    → IsFirstOf text (text_before_tail t c z) ⊎ (IsAtEnd input × IsFirstOf text (whole_text t c z))
first_of_text t c input z text (inl (none, ends)) =
    let P : List ℕ → Type 0 = λ z. IsFirstOf text (text_before_tail t c z) in
    inl (subst P (sym none) (first_inside [] (text_before_tail t c []) text ends))
first_of_text t c input z text (inr (inl (before, last, both, fields, field, ends))) =
    inl (first_inside (text_before_tail t c before) (text_before_tail t c z) text ends)
first_of_text t c input z text (inr (inr (ended, ends))) =
    inr (ended, first_inside (text_before_tail t c z) (whole_text t c z) text ends)

pub prompt : (t : Kind) (c : ConfigView) (input : Option (List ℕ)) (z text : List ℕ) → EndsWithin t c input z text
    → (rest_of c z ≡ 0) ⊎ (IsAtEnd input × (length (text_before_tail t c z) ≤ length text))
prompt t c input z text (inl (none, ends)) = inl (ap (rest_of c) none ∙ zero-mod (field_bytes c.system))
prompt t c input z text (inr (inl (before, last, both, fields, field, ends))) =
    grind (arith, length-append, rest-next)
prompt t c input z text (inr (inr (ended, ends))) = grind (arith, length-append)
