-- Lines that say nothing, whatever the search of all codes would find. may_say_code, nearest_within and
-- nears_if stand on it.
use Rattle.std.proofs.Common.{◌≡◌, ◌≢◌, ℕ, ◌≤◌, ◌<◌, ◌+◌, ◌^◌, ◌⊎◌, inl, inr, false, List, [], refl, sym, ap, subst}
use Rattle.std.proofs.Common.{◌∙◌, arith}
use Rattle.std.proofs.lemmas.Bool.{cases_eq, cases_lt}
use Rattle.std.specs.Prelude.{Option, Some, None, is_some, IsTrue}
use Rattle.vbi_near.proofs.Common.{Slicing, IsWord, Found, Near, Nears, Sums, starts, Samples, Shades, unit_of}
use Rattle.vbi_near.proofs.Common.{Precedes, far_from, Range, codes_of, IsOneOf, IsCodePlace, IsSeen, with_ranges}
use Rattle.vbi_near.proofs.Common.{all_codes, IsLead, IsClose, IsCodeChosen, shades_of, word_cost_by, code_cost_by}
use Rattle.vbi_near.proofs.Common.{IsRowOf, IsNearCode}
use Rattle.vbi_near.proofs.Chosen.{number, code-is_word, code-place, code-places, placed, cost-at}
use Rattle.vbi_near.proofs.{Columns.word-fits, Looks.to-ranges, Looks.from-ranges, Priced.code-word, OneNear.one_near}
use Rattle.vbi_near.specs.Candidates.{HasNear, Lines, some_lines}
use Rattle.vbi_near.specs.LineSearch.{HasWord, IsSought}
use Rattle.vbi_near.specs.Silence.{says_word, may_say, IsLeadWithin, StandsFor, IsUnsaid, AreSilent}
use Rattle.vbi_near.specs.{declared.word_rule.Nearest.Nearest, declared.margins.Margins.Margins}
use Rattle.vbi_near.specs.{declared.line_search.LineSearch.LineSearch, WordRule.close_limit, WordRule.said_of}

-- ---- what was looked at

-- the first start
pub lead_first : (sums : Sums) (line limit first : ℕ) (lead : Found) → first < starts sums.system
    → IsLead (code_cost_by sums) (IsSeen (with_ranges [] first (codes_of sums.system line))) lead → IsClose lead
    → IsLeadWithin sums line limit 0 lead
lead_first sums line limit first lead inside leads close = record {
  looks = with_ranges [] first ranges;
  is = leads;
  are = λ s w there. from s w (to-ranges [] first ranges s w there);
  rest = λ s w before one. absurd (omega (arith, before));
  close = close;
}
  where
    ranges : List Range
    ranges = codes_of sums.system line

    from : (s w : ℕ) → IsSeen [] s w ⊎ ((s ≡ first) × IsOneOf ranges w) → all_codes ranges sums.system s w
    from s w (inl none) = inl none
    from s w (inr (e, one)) = inr (omega (arith, e, inside), one)

-- a start more that was passed
pub lead_passing : (sums : Sums) (line limit n : ℕ) (lead : Found)
    → ((w : ℕ) → IsWord w → limit < word_cost_by sums n w) → IsLeadWithin sums line limit n lead
    → IsLeadWithin sums line limit (n + 1) lead
lead_passing sums line limit n lead far is = record {
  looks = is.looks;
  is = is.is;
  are = is.are;
  rest = λ s w before one. go s w one (cases_lt s n) before;
  close = is.close;
}
  where
    go : (s w : ℕ) → IsOneOf (codes_of sums.system line) w → (s < n) ⊎ (n ≤ s) → s < n + 1
        → IsSeen is.looks s w ⊎ (limit < word_cost_by sums s w)
    go s w one (inl less) before = is.rest s w less one
    go s w one (inr most) before =
        let e : n ≡ s = omega arith in
        inr (subst (λ (k : ℕ). limit < word_cost_by sums k w) e
        (far w (code-is_word (codes_of sums.system line) w one)))

-- a start more that was looked at
pub lead_looking : (sums : Sums) (line limit n : ℕ) (lead more : Found) (is : IsLeadWithin sums line limit n lead)
    → n < starts sums.system
    → IsLead (code_cost_by sums) (IsSeen (with_ranges is.looks n (codes_of sums.system line))) more → IsClose more
    → IsLeadWithin sums line limit (n + 1) more
lead_looking sums line limit n lead more is inside leads close = record {
  looks = with_ranges is.looks n ranges;
  is = leads;
  are = λ s w there. from s w (to-ranges is.looks n ranges s w there);
  rest = λ s w before one. go s w one (cases_lt s n) before;
  close = close;
}
  where
    ranges : List Range
    ranges = codes_of sums.system line

    from : (s w : ℕ) → IsSeen is.looks s w ⊎ ((s ≡ n) × IsOneOf ranges w) → all_codes ranges sums.system s w
    from s w (inl there) = is.are s w there
    from s w (inr (e, one)) = inr (omega (arith, e, inside), one)

    kept : (s w : ℕ) → IsSeen is.looks s w ⊎ (limit < word_cost_by sums s w)
        → IsSeen (with_ranges is.looks n ranges) s w ⊎ (limit < word_cost_by sums s w)
    kept s w (inl there) = inl (from-ranges is.looks n ranges s w (inl there))
    kept s w (inr far) = inr far

    go : (s w : ℕ) → IsOneOf ranges w → (s < n) ⊎ (n ≤ s) → s < n + 1
        → IsSeen (with_ranges is.looks n ranges) s w ⊎ (limit < word_cost_by sums s w)
    go s w one (inl less) before = kept s w (is.rest s w less one)
    go s w one (inr most) before =
        let e : s ≡ n = omega arith in
        inl (from-ranges is.looks n ranges s w (inr (e, one)))

-- ---- the nearest code

module _ (sums : Sums) (line limit : ℕ) (lead : Found) (is : IsLeadWithin sums line limit (starts sums.system) lead)
    (slicing : Slicing) (lines : List Samples) (costs : Shades) (near : Near)
    (row : IsRowOf sums slicing lines costs) (are : IsNearCode sums.system line slicing lines near) where
  abbrev Code : ℕ → ℕ → Type 0
  Code s w = all_codes (codes_of sums.system line) sums.system s w

  abbrev cost : ℕ → ℕ → ℕ
  cost = code_cost_by sums

  -- what may stand there, or none, is as far as it costs
  Drawn : ℕ → ℕ → Type 0
  Drawn s w = (word : Option ℕ) × IsCodePlace (codes_of sums.system line) sums.system word s × (number word ≡ w)
      × (far_from sums.system slicing lines word s ≡ cost s w)

  drawn : (s w : ℕ) → Code s w → Drawn s w
  unfolding Drawn
  drawn s w code =
      let p = placed sums.system (IsOneOf (codes_of sums.system line))
      (IsCodePlace (codes_of sums.system line) sums.system) (code-places (codes_of sums.system line) sums.system) s
      w code in (
        p.0,
        p.1,
        p.2,
        cost-at sums slicing lines costs row p.0 s
            (code-place (codes_of sums.system line) sums.system p.0 s p.1) ∙ ap (cost s) p.2,
      )

  least : (s w : ℕ) → Code s w → near.distance ≤ cost s w
  unfolding Drawn
  least s w code = let d = drawn s w code in omega (arith, are.nearest.least d.0 s d.1, d.3)

  rival : (s w : ℕ) → Code s w → w ≢ number near.word → near.rival ≤ cost s w
  unfolding Drawn
  rival s w code differs =
      let d = drawn s w code in
      omega (arith, are.nearest.rival d.0 s d.1 (λ e. differs (sym d.2 ∙ ap number e)), d.3)

  there : Code lead.start lead.word
  there = is.are lead.start lead.word is.is.there

  -- the nearest code costs as much as it is far
  seen : (w : ℕ) → near.word ≡ Some w → near.distance ≤ limit → IsSeen is.looks near.start w
      × (cost near.start w ≡ near.distance)
  seen w e within =
      let place : IsCodePlace (codes_of sums.system line) sums.system (Some w) near.start
      = subst (λ (o : Option ℕ). IsCodePlace (codes_of sums.system line) sums.system o near.start) e
      are.nearest.place in
      let word : IsWord w = code-is_word (codes_of sums.system line) w place.0 in
      let exact : cost near.start w ≡ near.distance
      = sym (cost-at sums slicing lines costs row (Some w) near.start
      (code-place (codes_of sums.system line) sums.system (Some w) near.start place))
      ∙ ap (λ (o : Option ℕ). far_from sums.system slicing lines o near.start) (sym e) ∙ are.nearest.exact in
      go word exact (is.rest near.start w (omega (arith, place.1, word-fits sums.system)) place.0)
    where
      go : IsWord w → cost near.start w ≡ near.distance
          → IsSeen is.looks near.start w ⊎ (limit < word_cost_by sums near.start w)
          → IsSeen is.looks near.start w × (cost near.start w ≡ near.distance)
      go word exact (inl there) = (there, exact)
      go word exact (inr far) =
          absurd (omega (arith, far, exact, within, code-word (shades_of sums) sums.system near.start w word))

  -- what leads is as near, and it is no less far ahead of any other
  module _ (w : ℕ) (e : near.word ≡ Some w) (within : near.distance ≤ limit) where
    equal : lead.distance ≡ near.distance
    equal =
        let s = seen w e within in
        omega (
          arith,
          is.is.least near.start w s.0,
          s.1,
          least lead.start lead.word there,
          is.is.exact,
        )

    -- none would come first
    some_leads : lead.word ≢ 0
    some_leads none =
        let blank : far_from sums.system slicing lines None 0 ≡ near.distance
        = cost-at sums slicing lines costs row None 0 refl ∙ ap (cost lead.start) (sym none) ∙ is.is.exact ∙ equal in
        subst (λ (o : Option ℕ). Precedes o near.start None 0) e (are.first.first None 0 refl blank)

    farther : near.rival ≤ lead.rival
    farther = go is.is.other (cases_eq lead.word w)
      where
        go : (2 ^ 31 ≤ lead.rival) ⊎ ((s : ℕ) × (v : ℕ) × IsSeen is.looks s v × (v ≢ lead.word)
            × (cost s v ≡ lead.rival)) → (lead.word ≡ w) ⊎ (lead.word ≡ w → ⊥) → near.rival ≤ lead.rival
        go (inl wide) either = absurd (omega (arith, wide, is.close))
        go (inr (s, v, there, differs, costs)) (inl one) =
            omega (arith, rival s v (is.are s v there) (λ f. differs (f ∙ ap number e ∙ sym one)), costs)
        go (inr other) (inr differs) =
            omega (
              arith,
              rival lead.start lead.word there (λ f. differs (f ∙ ap number e)),
              is.is.exact,
              is.is.order,
            )

  pub stands_for : (code : Near) → IsCodeChosen lead 0 0 code → StandsFor limit near code
  stands_for code chosen some within = go near.word refl chosen
    where
      go : (word : Option ℕ) → near.word ≡ word → IsCodeChosen lead 0 0 code
          → IsTrue (is_some code.word) × (code.distance ≡ near.distance) × (near.rival ≤ code.rival)
      go None e chosen = absurd (cc)
      go (Some w) e (inl (none, _)) = absurd (some_leads w e within none)
      go (Some w) e (inr (_, same)) =
          subst (λ (c : Near). IsTrue (is_some c.word) × (c.distance ≡ near.distance) × (near.rival ≤ c.rival))
          (sym same) (refl, equal w e within, farther w e within)

-- ---- what isn't said

-- a code that isn't said, nor is the nearest one for which it stands
unsaid : (unit columns limit : ℕ) (near code : Near) → StandsFor limit near code
    → may_say unit columns limit code ≡ false → may_say unit columns limit near ≡ false
unsaid unit columns limit near code stands not = grind (arith)

-- what leads of the codes that may be within a limit isn't said, nor is the nearest code
pub lead_unsaid : (sums : Sums) (line limit : ℕ) (lead : Found) (code : Near) (unit columns : ℕ)
    → IsLeadWithin sums line limit (starts sums.system) lead → IsCodeChosen lead 0 0 code
    → may_say unit columns limit code ≡ false → IsUnsaid sums line unit columns limit
lead_unsaid sums line limit lead code unit columns is chosen not slicing lines costs near row are =
    let stands = stands_for sums line limit lead is slicing lines costs near row are code chosen in
    unsaid unit columns limit near code stands not

-- the same where the limit is computed
pub lead_unsaid_by : (sums : Sums) (line limit close : ℕ) (lead : Found) (code : Near) (unit columns : ℕ)
    → limit ≡ close → IsLeadWithin sums line limit (starts sums.system) lead → IsCodeChosen lead 0 0 code
    → may_say unit columns limit code ≡ false → IsUnsaid sums line unit columns close
lead_unsaid_by sums line limit close lead code unit columns same is chosen not =
    subst (IsUnsaid sums line unit columns) same (lead_unsaid sums line limit lead code unit columns is chosen not)

module _ (lines : Lines) (margins : Margins) (count : ℕ) (word : Nearest)
    (has : HasWord lines.system lines.slicing lines.samples word) (near : Nears) (is : HasNear lines near) where
  same : near.word ≡ word.near
  same = grind (arith, one_near)

  pub silent_by : says_word (unit_of lines.slicing) margins count word ≡ false
      → may_say (unit_of lines.slicing) margins.code.columns (close_limit (unit_of lines.slicing) word.near) near.code
      ≡ false
      → said_of (unit_of lines.slicing) margins count near ≡ None
  silent_by not unsaid = grind (arith, same)

-- lines whose nearest word isn't said, nor a code
pub silent : (sought : LineSearch) (number unit count : ℕ) (margins : Margins) (slicing : Slicing)
    (lines : List Samples) (costs : Shades) → IsSought sought → unit ≡ unit_of slicing
    → IsRowOf sought.sums slicing lines costs → says_word unit margins count sought.word ≡ false
    → IsUnsaid sought.sums number unit margins.code.columns (close_limit unit sought.word.near)
    → AreSilent margins count (some_lines sought.sums.system number slicing lines)
silent sought number unit count margins slicing lines costs is same row not unsaid near has =
    silent_by (some_lines sought.sums.system number slicing lines) margins count sought.word
    (is.word slicing lines costs row) near has
    (subst (λ (u : ℕ). says_word u margins count sought.word ≡ false) same not)
    (subst (λ (u : ℕ). may_say u margins.code.columns (close_limit u sought.word.near) near.code ≡ false) same
    (unsaid slicing lines costs near.code row (record {
      nearest = has.code;
      first = has.code_first;
      longer = has.code_longer;
      shorter = has.code_shorter;
    })))
