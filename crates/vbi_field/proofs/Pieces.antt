-- What pieces do, one after the other, is what they do joined.
use Rattle.vbi_field.proofs.Common.{◌≡◌, ℕ, ◌-◌, inl, inr, List, [], ◌∷◌, ◌++◌, length, take, sym, ap, ◌∙◌, arith}
use Rattle.vbi_field.proofs.Common.{subst, append_assoc, append-nil, Option, Result, Err, Ok, zero-div, eq-zero-or-pos}
use Rattle.std.specs.List.{concat}
use Rattle.std.proofs.lemmas.List.{length-append, take-append-le, take_all}
use Rattle.vbi_field.specs.ConfigView.{field_bytes, ConfigView, allowed_bytes}
use Rattle.vbi_field.specs.Extracts.{ExtractsAll}
use Rattle.vbi_field.specs.Feed.{IsFed, IsFinished, StandsAt, Feeds, FeedsAll, Pushes, Feeding}
use Rattle.vbi_field.specs.Texts.{document, IsTextBetween, text_before_tail, whole_text, Wrote, Outlet}
use Rattle.vbi_field.specs.Stream.{Position}
use Rattle.vbi_field.specs.Ran.{RunFault, Read, Write, TooManyFields, Failed, Summary}
use Rattle.vbi_field.proofs.Devices.{wrote_twice, longer_part}
use Rattle.vbi_field.proofs.Entries.{stood-none, text_before_tail-stood}
use Rattle.vbi_field.proofs.FeedLoop.{fed_none, fed_more, fed_fault}
use Rattle.vbi_field.proofs.FeedTexts.{begun_grows, cut_longer}

-- the allowed bytes of a longer stream are no fewer
allowed-grows : (z b : List ℕ) (m : ℕ) → (more : List ℕ) × (take m z ++ more ≡ take m (z ++ b))
allowed-grows z b m =
    elim (eq-zero-or-pos (m - length z)) [
      | inl short ↦ ([], append-nil (take m z) ∙ sym (take-append-le m z b (omega arith)))
      | inr long ↦
          let cut = cut_longer z b m (omega arith) in
          (cut.0, ap (λ l. l ++ cut.0) (take_all m z (omega arith)) ∙ cut.1)
    ]

module _ {W : Type 0} (contents : W → Option (List ℕ)) where
  -- what comes after a piece that failed changes nothing
  fault_stays : (c : ConfigView) (o o' : Outlet W) (z piece more : List ℕ) (now : Position) (fault : RunFault)
      → IsFed contents c o o' z piece now (Err fault) → IsFed contents c o o' z (piece ++ more) now (Err fault)
  fault_stays c o o' z piece more now (Read field offset) fed = fed
  fault_stays c o o' z piece more now Failed fed = fed
  fault_stays c o o' z piece more now TooManyFields fed =
      let all = append_assoc z piece more in
      let longer = length-append (z ++ piece) more in
      let same : take (allowed_bytes c) ((z ++ piece) ++ more) ≡ take (allowed_bytes c) (z ++ piece) =
      take-append-le (allowed_bytes c) (z ++ piece) more (omega (arith, fed.0)) in
      let P : List ℕ → Type 0 = λ l. IsTextBetween document c z l fed.1.text in (
        omega (arith, fed.0, ap length all, longer),
        record {
          text = fed.1.text;
          due = subst P (sym same ∙ ap (take (allowed_bytes c)) all) fed.1.due;
          wrote = fed.1.wrote;
        },
      )
  fault_stays c o o' z piece more now (Write written) fed =
      let grown = allowed-grows (z ++ piece) more (allowed_bytes c) in
      let longer = begun_grows document c (take (allowed_bytes c) (z ++ piece)) grown.0 in
      let all = grown.1 ∙ ap (take (allowed_bytes c)) (append_assoc z piece more) in
      record {
        text = fed.text ++ longer.0;
        due = sym (append_assoc (text_before_tail document c z) fed.text longer.0)
            ∙ ap (λ l. l ++ longer.0) fed.due ∙ longer.1 ∙ ap (text_before_tail document c) all;
        wrote = longer_part contents o o' fed.text longer.0 fed.wrote;
      }

  -- a piece that was fed whole and what came after it
  then_fed : (c : ConfigView) (o0 o o' : Outlet W) (z first bytes : List ℕ) (was now : Position)
      (result : Result (Unit {0}) RunFault) → IsFed contents c o0 o z first was (Ok tt)
      → IsFed contents c o o' (z ++ first) bytes now result
      → IsFed contents c o0 o' z (first ++ bytes) now result
  then_fed c o0 o o' z first bytes was now (Ok u) before after =
      fed_more contents c o0 o o' z first bytes was now before after
  then_fed c o0 o o' z first bytes was now (Err fault) before after =
      fed_fault contents c o0 o o' z first bytes was now before fault after

  -- a feeder whose call was Ok stands after the piece
  stands_next : (f f' : Feeding) (o o' : Outlet W) (z piece : List ℕ) → Feeds contents f f' o o' piece (Ok tt)
      → StandsAt f z → StandsAt f' (z ++ piece)
  stands_next f f' o o' z piece fed stands = grind arith

  pub pieces_join : (f f' : Feeding) (o o' : Outlet W) (z : List ℕ) (pieces : List (List ℕ))
      (result : Result (Unit {0}) RunFault) → StandsAt f z → FeedsAll contents f f' o o' pieces result
      → IsFed contents f.config o o' z (concat pieces) f'.position result
  pieces_join f f' o o' z [] result stands (same, outlet, ok) =
      let P : Result (Unit {0}) RunFault → Type 0 = IsFed contents f.config o o' z [] f'.position in
      let Q : Outlet W → Type 0 = λ o'. IsFed contents f.config o o' z [] f'.position (Ok tt) in
      let R : Feeding → Type 0 = λ f'. IsFed contents f.config o o z [] f'.position (Ok tt) in
      let none = fed_none contents f.config o z [] f.position stands.at in
      subst P (sym ok) (subst Q (sym outlet) (subst R (sym same) none))
  pieces_join f f' o o' z (piece ∷ pieces) (Ok u) stands (inl (fails, fed)) = absurd (cc)
  pieces_join f f' o o' z (piece ∷ pieces) (Err fault) stands (inl (fails, fed)) =
      fault_stays f.config o o' z piece (concat pieces) f'.position fault (fed.fed z stands)
  pieces_join f f' o o' z (piece ∷ pieces) result stands (inr (next, outlet, fed, rest)) =
      let stood = stands_next f next o outlet z piece fed stands in
      let P : ConfigView → Type 0 = λ c. IsFed contents c outlet o' (z ++ piece) (concat pieces) f'.position result in
      let after = subst P fed.config (pieces_join next f' outlet o' (z ++ piece) pieces result stood rest) in
      then_fed f.config o outlet o' z piece (concat pieces) next.position f'.position result (fed.fed z stands) after

  -- a feeder that took all pieces has kept its config, and stands after them
  stands_after : (f f' : Feeding) (o o' : Outlet W) (z : List ℕ) (pieces : List (List ℕ)) → StandsAt f z
      → FeedsAll contents f f' o o' pieces (Ok tt)
      → (f'.config ≡ f.config) × StandsAt f' (z ++ concat pieces)
  stands_after f f' o o' z [] stands (same, outlet, ok) = grind (arith, append-nil)
  stands_after f f' o o' z (piece ∷ pieces) stands (inl (fails, fed)) = absurd (cc)
  stands_after f f' o o' z (piece ∷ pieces) stands (inr (next, outlet, fed, rest)) =
      let after = stands_after next f' outlet o' (z ++ piece) pieces (stands_next f next o outlet z piece fed stands)
      rest in
      let P : List ℕ → Type 0 = StandsAt f' in
      (after.0 ∙ fed.config, subst P (append_assoc z piece (concat pieces)) after.1)

  module _ (c : ConfigView) (o o' : Outlet W) (pieces : List (List ℕ)) (s : Summary)
      (pushes : Pushes contents c o o' pieces s) where
    abbrev pub z : List ℕ
    z = concat pieces

    behind : (pushes.last.config ≡ pushes.first.config) × StandsAt pushes.last z
    behind = stands_after _ _ _ _ [] pieces pushes.begins.stands pushes.feeds

    fed : IsFed contents c pushes.begun pushes.fed [] z pushes.last.position (Ok tt)
    fed =
        let P : ConfigView → Type 0 = λ c. IsFed contents c pushes.begun pushes.fed [] z pushes.last.position (Ok tt) in
        subst P pushes.begins.config (pieces_join _ _ _ _ [] pieces (Ok tt) pushes.begins.stands pushes.feeds)

    finished : IsFinished contents c pushes.fed o' z (Ok s)
    finished = grind (arith, fed, behind)

    -- the head, the records and the tail are the whole text
    pub text : Wrote contents o o' (whole_text document c z)
    text =
        let nothing = text_before_tail-stood document c [] 0 (zero-div (field_bytes c.system)) in
        let begun = nothing ∙ stood-none document c [] in
        let front : document.head c ++ fed.1.text ≡ text_before_tail document c z =
        ap (λ l. l ++ fed.1.text) (sym begun) ∙ fed.1.due in
        let P : List ℕ → Type 0 = Wrote contents o pushes.fed in
        let joined = wrote_twice contents o pushes.begun pushes.fed _ _ pushes.begins.head fed.1.wrote in
        wrote_twice contents o pushes.fed o' _ _ (subst P front joined) finished.0

    -- so it is the text that a run over the same bytes writes, and the summary is the run's
    pub pulled : (s' : Summary) (input : Option (List ℕ)) (written : List ℕ)
        → ExtractsAll document c input z written s' → Wrote contents o o' written × (s ≡ s')
    pulled s' input written all = grind (arith, finished, text)
