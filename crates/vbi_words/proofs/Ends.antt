-- Each state but `dead` can still become a word, and what a state shows where nothing more comes.
use Rattle.std.proofs.Common.{rules, ◌≡◌, ℕ, ◌≤◌, ◌<◌, ◌+◌, ◌-◌, Bool, true, false, leb, eqb, ◌&&◌, List, [], ◌∷◌, ◌++◌}
use Rattle.std.proofs.Common.{◌↔◌, Some, None, inl, inr, refl, ap, sym, ◌∙◌, subst, arith, add_comm, length-append}
use Rattle.std.proofs.Math.ListN.{replicate, length, length-replicate}
use Rattle.std.proofs.lemmas.List.{append-nil, replicate-append-replicate}
use Rattle.std.proofs.lemmas.Bool.{cond_both, cases_lt, leb-true, leb-false, eqb-true, eqb-false, and_parts, and_cases}
use Rattle.std.specs.Prelude.{not}
use Rattle.vbi_words.proofs.Sizes.{Sizes, AreApart}
use Rattle.vbi_words.proofs.Runs
use Rattle.vbi_words.proofs.Cutting
use Rattle.vbi_words.proofs.Cutting.{Lows, Cells, Half, Draws}
use Rattle.vbi_words.proofs.Machine
use Rattle.vbi_words.proofs.Machine.{State, lead, first, second, tail, dead, Begun, ending, Fit}
use Rattle.vbi_words.proofs.Awaits.{Whole, Awaits, next_bit, no_bit}

-- ---- a word that can still come

-- the cells of these bits, with half cells of the greatest length
abbrev typical : Sizes → List Bool → List Bool
typical sizes [] = []
typical sizes (b ∷ bits) =
    replicate sizes.greatest (not b) ++ (replicate sizes.greatest b ++ typical sizes bits)

-- what a state awaits for some word
abbrev pub Live : Sizes → State → Type 0
Live sizes state = (bits more : List Bool) × Whole sizes bits × Awaits sizes state bits more

-- as many bits as a word still lacks, but for one
abbrev rest_of : Sizes → List Bool → Bool → List Bool
rest_of sizes done b = replicate (sizes.cells - length done - 1) b

module _ {sizes : Sizes} (ok : AreApart sizes) where
  open sizes use {least, greatest, cells}

  typical_half : (b : Bool) (bits : List Bool) → Cells sizes bits (typical sizes bits)
      → Half sizes b bits (replicate greatest b ++ typical sizes bits)
  typical_half b bits p = Cutting.single_half ok b bits (typical sizes bits) greatest ok.order (omega arith) p

  typical_cells : (bits : List Bool) → Cells sizes bits (typical sizes bits)
  typical_cells [] = (0, refl)
  typical_cells (b ∷ bits) = record {
    count = greatest;
    rest = replicate greatest b ++ typical sizes bits;
    at_least = ok.order;
    at_most = omega arith;
    whole = refl;
    then = typical_half b bits (typical_cells bits);
  }

  -- the second half of a cell of b, and the typical cells after it
  half_then : (b : Bool) (bits : List Bool) → Half sizes b bits (replicate greatest b ++ typical sizes bits)
  half_then b bits = typical_half b bits (typical_cells bits)

  whole_from : (done : List Bool) (b : Bool) → Begun done → length done < cells
      → Whole sizes (done ++ (b ∷ rest_of sizes done b))
  whole_from done b (rest, e) few = (
    omega (arith, length-append done (b ∷ rest_of sizes done b), length-replicate (cells - length done - 1) b),
    (rest ++ (b ∷ rest_of sizes done b), ap (λ (t : List Bool). t ++ (b ∷ rest_of sizes done b)) e),
  )

  live_last : (v : Bool) (n : ℕ) (done : List Bool) → Begun done → length done ≡ cells → (v ≡ true → n ≤ greatest)
      → Live sizes (second v n done)
  live_last true n done begun all bound =
      let within : n + (greatest - n) ≤ greatest = omega (arith, bound refl) in (
        done,
        replicate (greatest - n) true ++ [],
        (all, begun),
        (
          [],
          sym (append-nil done),
          rw Runs.run_joined
              (Cutting.single_half ok true [] [] (n + (greatest - n)) (omega (arith, bound refl)) within (0, refl)),
        ),
      )
  live_last false n done begun all bound =
      let lows : ℕ → List Bool = λ k. replicate k false in
      let turned : lows n ++ lows least ≡ lows least ++ lows n
      = replicate-append-replicate n least false ∙ ap lows (add_comm n least)
      ∙ sym (replicate-append-replicate least n false) in (
        done,
        lows least,
        (all, begun),
        (
          [],
          sym (append-nil done),
          subst (Half sizes false []) (sym turned)
              (Cutting.single_half ok false [] (lows n) least (omega arith) ok.order (n, refl)),
        ),
      )

  pub live : (state : State) → Fit sizes state → (state ≡ dead → ⊥) → Live sizes state
  live (lead n) fit alive =
      let todo : List Bool = replicate (cells - 1) true in (
        true ∷ todo,
        typical sizes (true ∷ todo),
        (omega (arith, length-replicate (cells - 1) true), (todo, refl)),
        (n, typical sizes (true ∷ todo), refl, typical_cells (true ∷ todo)),
      )
  live (first v n done) fit alive =
      let todo : List Bool = rest_of sizes done (not v) in
      let more : List Bool = replicate greatest (not v) ++ typical sizes todo in (
        done ++ (not v ∷ todo),
        replicate (greatest - n) v ++ more,
        whole_from done (not v) fit.3 fit.2,
        (
          not v ∷ todo,
          refl,
          rw Runs.run_joined (Cutting.first_half ok v todo more (n + (greatest - n)) (omega (arith, fit.1))
              (omega (arith, fit.1)) (half_then (not v) todo)),
        ),
      )
  live (second v n done) fit alive = elim (cases_lt (length done) cells) [
    | inl few ↦
        let todo : List Bool = rest_of sizes done (not v) in
        let more : List Bool = replicate greatest (not v) ++ typical sizes todo in
        let short : n ≤ greatest + greatest = Machine.fit_few sizes v n done few fit.1 in (
          done ++ (not v ∷ todo),
          replicate (greatest + greatest - n) v ++ more,
          whole_from done (not v) fit.3 few,
          (
            not v ∷ todo,
            refl,
            rw Runs.run_joined (Cutting.double_half ok v todo more (n + (greatest + greatest - n)) (omega arith)
                (omega arith) (half_then (not v) todo)),
          ),
        )
    | inr full ↦
        let all : length done ≡ cells = omega (arith, fit.2) in
        live_last v n done fit.3 all (λ high. Machine.fit_last sizes v n done all high fit.1)
  ]
  live (tail done) fit alive = (done, [], fit, (refl, (0, refl)))
  live dead fit alive = absurd (alive refl)

  -- ---- where nothing more comes

  alone : (v : Bool) (n : ℕ) (P : List Bool → Type 0) → P (replicate n v ++ []) → P (replicate n v)
  alone v n P p = subst P (append-nil (replicate n v)) p

  last_alone : (v : Bool) (n : ℕ) → least ≤ n → (v ≡ true → n ≤ greatest) → Half sizes v [] (replicate n v ++ [])
  last_alone true n enough short = Cutting.single_half ok true [] [] n enough (short refl) (0, refl)
  last_alone false n enough short =
      let lows : ℕ → List Bool = λ k. replicate k false in
      let sum : n ≡ least + (n - least) = omega arith in
      record {
        count = least;
        rest = lows (n - least);
        at_least = omega arith;
        at_most = ok.order;
        whole = append-nil (lows n) ∙ ap lows sum ∙ sym (replicate-append-replicate least (n - least) false);
        then = (n - least, refl);
      }

  -- no levels show these bits
  unfinished : (done bits : List Bool) (v : Bool) (n : ℕ) → Whole sizes bits → length done < cells
      → (todo : List Bool) → bits ≡ done ++ todo → Cells sizes todo (replicate n v) → ⊥
  unfinished done bits v n whole few todo split p =
      let c = next_bit (λ t. Cells sizes t (replicate n v)) done bits todo split p (omega (arith, whole.0)) in
      Cutting.cells_not_alone ok c.bit v c.rest n c.then

  ended_second : (v : Bool) (n : ℕ) (done bits : List Bool) → Fit sizes (second v n done) → Whole sizes bits
      → Awaits sizes (second v n done) bits [] ↔ (ending sizes (second v n done) ≡ Some bits)
  ended_second v n done bits fit whole =
      cond_both (full && enough) (Some done) None (λ o. Awaits sizes (second v n done) bits [] ↔ (o ≡ Some bits))
      (λ e. let parts = and_parts full enough e in
      shown (eqb-true (length done) cells parts.0) (leb-true least n parts.1))
      (λ e. (
        λ p. absurd (elim (and_cases full enough e) [
          | inl few ↦ not_full (eqb-false (length done) cells few) p
          | inr short ↦ too_short (leb-false least n short) p
        ]),
        λ same. cc,
      ))
    where
      full : Bool
      full = eqb (length done) cells

      enough : Bool
      enough = leb least n

      shown : length done ≡ cells → least ≤ n → Awaits sizes (second v n done) bits [] ↔ (Some done ≡ Some bits)
      shown all long = (
        λ (todo, split, p).
            let at : List Bool → Type 0 = λ t. Half sizes v t (replicate n v ++ []) in
            ap Some (sym (no_bit at done bits todo split p (omega (arith, whole.0))).0),
        λ same. let e : bits ≡ done = cc in (
          [],
          e ∙ sym (append-nil done),
          last_alone v n long (λ high. Machine.fit_last sizes v n done all high fit.1),
        ),
      )

      not_full : (length done ≡ cells → ⊥) → Awaits sizes (second v n done) bits [] → ⊥
      not_full ne (todo, split, p) =
          let c = Runs.run_alone ok v n (alone v n (Half sizes v todo) p) in
          unfinished done bits v c.1 whole (omega (arith, fit.2)) todo split c.5

      too_short : n < least → Awaits sizes (second v n done) bits [] → ⊥
      too_short short (todo, split, p) =
          let c = Runs.run_alone ok v n (alone v n (Half sizes v todo) p) in
          omega (arith, c.2, c.4)

  pub ended : (state : State) (bits : List Bool) → Fit sizes state → Whole sizes bits
      → Awaits sizes state bits [] ↔ (ending sizes state ≡ Some bits)
  ended (lead n) bits fit (whole, (rest, begun)) = (
    λ p. absurd (Cutting.lead_not_alone ok rest n
        (subst (λ (t : List Bool). Draws sizes t (replicate n false)) begun (alone false n (Draws sizes bits) p))),
    λ e. cc,
  )
  ended (first v n done) bits fit whole = search (rules, unfinished, alone)
  ended (second v n done) bits fit whole = ended_second v n done bits fit whole
  ended (tail done) bits fit whole = (λ (e, lows). ap Some (sym e), λ e. (cc, (0, refl)))
  ended dead bits fit whole = (λ h. absurd h, λ e. cc)
