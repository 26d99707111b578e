-- What the devices of a run did: what a writer took, whole or in part, and that one failed for good.
use Rattle.vbi_field.proofs.Common.{◌≡◌, ℕ, ◌+◌, ◌<◌, List, [], ◌++◌, length, take, drop, sym, ap, ◌∙◌, arith}
use Rattle.vbi_field.proofs.Common.{append_assoc, add-zero, Option, Appends-nil, Appends-trans}
use Rattle.std.proofs.lemmas.List.{length-append, length-drop, length-take-le, take_all, take-append-drop}
use Rattle.vbi_field.specs.Outlet.{written_of, Puts, Wrote, WrotePart, Outlet, failures_of, HasCause, Counted}
use Rattle.vbi_field.specs.Outlet as outlets
use Rattle.vbi_field.specs.Ran.{EndsInside, HasFailed}

-- nothing was written
pub wrote_none : {W : Type 0} (contents : W → Option (List ℕ)) (o : Outlet W) → Wrote contents o o []
wrote_none contents o = record { appended = Appends-nil _; written = sym (add-zero _) }

-- one text after the other was
pub wrote_twice : {W : Type 0} (contents : W → Option (List ℕ)) (a b c : Outlet W) (xs ys : List ℕ)
    → Wrote contents a b xs
    → Wrote contents b c ys → Wrote contents a c (xs ++ ys)
wrote_twice contents a b c xs ys first second = record {
  appended = Appends-trans _ _ _ xs ys first.appended second.appended;
  written = omega (arith, first.written, second.written, length-append xs ys);
}

-- the first of a text is the first of a longer one
pub longer_part : {W : Type 0} (contents : W → Option (List ℕ)) (o o' : Outlet W) (xs ys : List ℕ)
    → WrotePart contents o o' xs
    → WrotePart contents o o' (xs ++ ys)
longer_part contents o o' xs ys w = grind (arith, append_assoc, length-append)

-- a text and the first of another are the first of both
pub later_part : {W : Type 0} (contents : W → Option (List ℕ)) (a b c : Outlet W) (xs ys : List ℕ)
    → Wrote contents a b xs
    → WrotePart contents b c ys → WrotePart contents a c (xs ++ ys)
later_part contents a b c xs ys first w = record {
  part = xs ++ w.part;
  rest = w.rest;
  parts = append_assoc xs w.part w.rest ∙ ap (λ l. xs ++ l) w.parts;
  short = w.short;
  wrote = wrote_twice contents a b c xs w.part first w.wrote;
}

module _ {W : Type 0} (contents : W → Option (List ℕ)) (o o' : Outlet W) where
  -- all of the bytes were put
  pub wrote_whole : (bytes : List ℕ) → Puts contents o o' bytes → written_of o' ≡ written_of o + length bytes
      → Wrote contents o o' bytes
  wrote_whole bytes p e = grind (arith, take_all)

  -- the first of them were, and not all
  pub put_in_part : (bytes : List ℕ) → Puts contents o o' bytes → written_of o' < written_of o + length bytes
      → WrotePart contents o o' bytes
  put_in_part bytes p less = record {
    part = take p.count bytes;
    rest = drop p.count bytes;
    parts = take-append-drop p.count bytes;
    short = omega (arith, length-drop p.count bytes, p.written);
    wrote =
        record {
          appended = p.appended;
          written = p.written
              ∙ ap (λ n. written_of o + n) (sym (length-take-le p.count bytes p.within));
        };
  }

-- a device that hadn't given an error before has failed for good
pub has_failed : {D : Type 0} (old new : Counted D) → (failures_of old).errors ≡ 0 → HasCause old new
    → HasFailed (failures_of new)
has_failed old new none h = grind arith

-- the first of a text, and not all of it
pub inside_of : {W : Type 0} (contents : W → Option (List ℕ)) (o o' : Outlet W) (before text due : List ℕ)
    (w : outlets.WrotePart contents o o' text) → before ++ text ≡ due → EndsInside before due (before ++ w.part)
inside_of contents o o' before text due w is = grind (arith, append_assoc)
