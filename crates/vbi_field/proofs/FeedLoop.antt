-- What a piece keeps from row to row, and how it ends.
use Rattle.vbi_field.proofs.Common.{◌≡◌, ℕ, ◌+◌, ◌-◌, ◌≤◌, ◌++◌, length, take, drop, refl, sym, ap, ◌∙◌, arith, subst}
use Rattle.vbi_field.proofs.Common.{append_assoc, Result, Err, Ok, length-drop, take_all, take-append-drop, le_refl}
use Rattle.vbi_field.proofs.Common.{le_of_eq, take-add, document, IsAt, IsFed, StandsAt, Feeding, IsFeederState, IsStep}
use Rattle.vbi_field.proofs.Common.{position_in, NoError, IsSameDevice, Outlet, Position, ConfigView, allowed_bytes}
use Rattle.vbi_field.proofs.Common.{Line, Progress, RunFault, Read, Write, TooManyFields, false, List, append-nil}
use Rattle.vbi_field.proofs.Common.{Option}
use Rattle.vbi_field.specs.Texts.{text_before_tail}
use Rattle.vbi_field.specs.Feed.{IsFeedFault, feeding_of}
use Rattle.vbi_field.specs.Outlet.{counted_of, Rises}
use Rattle.vbi_field.specs.declared.feeder.Feeder.TheInside.{Inside}
use Rattle.vbi_line.proofs.Causes.{cause_later}
use Rattle.vbi_field.specs.Ran.{Failed}
use Rattle.vbi_field.proofs.FeedTexts.{completes_twice}
use Rattle.vbi_field.proofs.Devices.{wrote_none, wrote_twice, later_part}

module _ {W : Type 0} (contents : W → Option (List ℕ)) (c : ConfigView) where
  -- no byte was pushed
  pub fed_none : (o : Outlet W) (z piece : List ℕ) (now : Position) → IsAt c z now
      → IsFed contents c o o z (take 0 piece) now (Ok tt)
  fed_none o z piece now at = grind (arith, append-nil, wrote_none)

  module _ (o0 o o' : Outlet W) (z first bytes : List ℕ) (was now : Position)
      (before : IsFed contents c o0 o z first was (Ok tt)) where
    -- the rest of a piece was fed whole
    pub fed_more : IsFed contents c o o' (z ++ first) bytes now (Ok tt)
        → IsFed contents c o0 o' z (first ++ bytes) now (Ok tt)
    fed_more after =
        let all = append_assoc z first bytes in
        let P : List ℕ → Type 0 = λ l. IsAt c l now in (
          subst P all after.0,
          record {
            text = before.1.text ++ after.1.text;
            due =
                completes_twice document c z (z ++ first) ((z ++ first) ++ bytes) before.1.text after.1.text
                before.1.due after.1.due
                ∙ ap (text_before_tail document c) all;
            wrote = wrote_twice contents o0 o o' before.1.text after.1.text before.1.wrote after.1.wrote;
          },
        )

    -- the rest of a piece was fed up to a fault
    pub fed_fault : (fault : RunFault) → IsFed contents c o o' (z ++ first) bytes now (Err fault)
        → IsFed contents c o0 o' z (first ++ bytes) now (Err fault)
    fed_fault (Read field offset) after = after
    fed_fault Failed after = after
    fed_fault TooManyFields after =
        let all = append_assoc z first bytes in
        let long = ap length all in (
          omega (arith, after.0),
          record {
            text = before.1.text ++ after.1.text;
            due =
                completes_twice document c z (z ++ first) (take (allowed_bytes c) ((z ++ first) ++ bytes))
                before.1.text after.1.text before.1.due after.1.due
                ∙ ap (λ l. text_before_tail document c (take (allowed_bytes c) l)) all;
            wrote = wrote_twice contents o0 o o' before.1.text after.1.text before.1.wrote after.1.wrote;
          },
        )
    fed_fault (Write written) after =
        let all = append_assoc z first bytes in
        record {
          text = before.1.text ++ after.text;
          due =
              completes_twice document c z (z ++ first) (take (allowed_bytes c) ((z ++ first) ++ bytes)) before.1.text
              after.text before.1.due after.due
              ∙ ap (λ l. text_before_tail document c (take (allowed_bytes c) l)) all;
          wrote = later_part contents o0 o o' before.1.text after.text before.1.wrote after.wrote;
        }

-- so much of a piece was taken
pub record Taken {W : Type 0} (contents : W → Option (List ℕ)) (old : Feeding) (now : Inside) (o0 o : Outlet W)
    (piece : List ℕ)
    (at : ℕ) : Type 0 where
  pub config : now.config ≡ old.config
  pub unfailed : now.has_failed ≡ false
  pub started : old.has_failed ≡ false
  pub stand : IsFeederState now.config now.line now.progress
  pub within : at ≤ length piece
  pub same : IsSameDevice (counted_of o0) (counted_of o)
  pub errors : NoError (counted_of o0) (counted_of o)
  pub rises : Rises o0 o old.position.fields now.progress.fields
  pub fed : (z : List ℕ) → StandsAt old z
      → IsFed contents old.config o0 o z (take at piece) (position_in now.config now.line now.progress) (Ok tt)

-- before the first row
pub taken_none : {W : Type 0} (contents : W → Option (List ℕ)) (old : Feeding) (now : Inside) (o : Outlet W)
    (piece : List ℕ)
    → feeding_of now ≡ old → now.has_failed ≡ false → IsFeederState now.config now.line now.progress
    → Taken contents old now o o piece 0
taken_none contents old now o piece is unfailed stand =
    let position : old.position ≡ position_in now.config now.line now.progress = ap (λ f. f.position) (sym is) in
    let same : old.position.fields ≡ now.progress.fields = ap (λ q. q.fields) position in
    let failed : old.has_failed ≡ now.has_failed = ap (λ f. f.has_failed) (sym is) in
    record {
      config = ap (λ f. f.config) is;
      unfailed = unfailed;
      started = failed ∙ unfailed;
      stand = stand;
      within = omega arith;
      same = refl;
      errors = refl;
      rises = record {
        texts = le_of_eq same;
        few = stand.most;
        written = omega arith;
        failures = omega arith;
        least = le_refl _;
      };
      fed = λ z s.
          let at = s.at in
          let P : Position → Type 0 = λ q. IsAt old.config z q in
          fed_none contents old.config o z piece _ (subst P position at);
    }

-- a fault in the next row has the same cause
pub fault_since : {W : Type 0} {contents : W → Option (List ℕ)} {old : Feeding} {was : Inside} {o0 o : Outlet W}
    {piece : List ℕ} {at : ℕ} → Taken contents old was o0 o piece at → (o' : Outlet W) (fault : RunFault)
    → IsFeedFault o o' fault
    → IsFeedFault o0 o' fault
fault_since {o0 = o0} {o = o} t o' (Write written) f = grind (arith, cause_later)
fault_since t o' TooManyFields f = f ∙ t.errors
fault_since t o' Failed f = tt
fault_since t o' (Read field offset) f = f

-- what a slice from a byte on is
rest_of_piece : (piece : List ℕ) (at : ℕ) → take (length piece - at) (drop at piece) ≡ drop at piece
rest_of_piece piece at = let l = length-drop at piece in take_all (length piece - at) (drop at piece) (omega arith)

module _ {W : Type 0} {contents : W → Option (List ℕ)} {old : Feeding} {was : Inside} {o0 o : Outlet W}
    {piece bytes : List ℕ} {at : ℕ} (t : Taken contents old was o0 o piece at)
    (is : bytes ≡ take (length piece - at) (drop at piece)) (o' : Outlet W) (l : Line) (p : Progress)
    (result : Result ℕ RunFault)
    (step : (z : List ℕ) → IsAt was.config z (position_in was.config was.line was.progress)
    → IsStep contents was.config o o' z bytes (position_in was.config l p) result) where
  -- the piece so far
  so_far : (z : List ℕ) → StandsAt old z
      → IsFed contents was.config o0 o z (take at piece) (position_in was.config was.line was.progress) (Ok tt)
  so_far z s = grind arith

  -- the bytes of one row more
  pub taken_more : (n : ℕ) → result ≡ Ok n → at ≤ length piece → n ≤ length bytes
      → IsSameDevice (counted_of o) (counted_of o')
      → IsFeederState was.config l p
      → Rises o o' was.progress.fields p.fields → NoError (counted_of o) (counted_of o')
      → Taken contents old (record { config = was.config; line = l; progress = p; has_failed = was.has_failed }) o0 o'
      piece (at + n)
  taken_more n took le few same stand rises no_error =
      let long = ap length (is ∙ rest_of_piece piece at) in
      let dropped = length-drop at piece in
      let all : take at piece ++ take n bytes ≡ take (at + n) piece =
      ap (λ x. take at piece ++ take n x) (is ∙ rest_of_piece piece at) ∙ sym (take-add at n piece) in
      record {
        config = t.config;
        unfailed = t.unfailed;
        started = t.started;
        stand = stand;
        within = omega arith;
        same = same ∙ t.same;
        errors = no_error ∙ t.errors;
        rises =
            let before = t.rises in
            record {
              texts = omega arith;
              few = rises.few;
              written = omega arith;
              failures = omega arith;
              least = omega arith;
            };
        fed = λ z s.
            let far = so_far z s in
            let R : Result ℕ RunFault
            → Type 0 =
            λ r. IsStep contents was.config o o' (z ++ take at piece) bytes (position_in was.config l p) r in
            let next = subst R took (step (z ++ take at piece) far.0) in
            let P : ConfigView
            → Type 0 = λ k. IsFed contents k o0 o' z (take (at + n) piece) (position_in was.config l p) (Ok tt) in
            let Q : List ℕ → Type 0 = λ x. IsFed contents was.config o0 o' z x (position_in was.config l p) (Ok tt) in
            subst P t.config (subst Q all
            (fed_more contents was.config o0 o o' z (take at piece) (take n bytes)
            (position_in was.config was.line was.progress)
            (position_in was.config l p) far next));
      }

  -- a fault in the next row
  pub taken_fault : (fault : RunFault) → result ≡ Err fault → (z : List ℕ) → StandsAt old z
      → IsFed contents old.config o0 o' z piece (position_in was.config l p) (Err fault)
  taken_fault fault fails z s =
      let far = so_far z s in
      let all : take at piece ++ bytes ≡ piece =
      ap (λ x. take at piece ++ x) (is ∙ rest_of_piece piece at) ∙ take-append-drop at piece in
      let R : Result ℕ RunFault
      → Type 0 = λ r. IsStep contents was.config o o' (z ++ take at piece) bytes (position_in was.config l p) r in
      let next = subst R fails (step (z ++ take at piece) far.0) in
      let P : ConfigView → Type 0 = λ k. IsFed contents k o0 o' z piece (position_in was.config l p) (Err fault) in
      let Q : List ℕ → Type 0 = λ x. IsFed contents was.config o0 o' z x (position_in was.config l p) (Err fault) in
      subst P t.config (subst Q all
      (fed_fault contents was.config o0 o o' z (take at piece) bytes (position_in was.config was.line was.progress)
      (position_in was.config l p) far fault next))

-- the whole piece was taken
pub taken_whole : {W : Type 0} {contents : W → Option (List ℕ)} {old : Feeding} {now : Inside} {o0 o : Outlet W}
    {piece : List ℕ} {at : ℕ} → Taken contents old now o0 o piece at → length piece ≤ at → (z : List ℕ) → StandsAt old z
    → IsFed contents old.config o0 o z piece (position_in now.config now.line now.progress) (Ok tt)
taken_whole {contents = contents} {old} {now} {o0} {o} {piece} {at} t done z s =
    let P : List ℕ
    → Type 0 = λ x. IsFed contents old.config o0 o z x (position_in now.config now.line now.progress) (Ok tt) in
    subst P (take_all at piece done) (t.fed z s)
