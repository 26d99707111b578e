-- What the machine says of the words that a list of levels shows, and of the lists that begin with it.
use Rattle.vbi_words.proofs.Common.{arith, ◌≡◌, ℕ, ◌<◌, ◌^◌, Bool, true, false, List, [], ◌++◌, ◌↔◌, ap, sym, ◌∙◌}
use Rattle.vbi_words.proofs.Common.{subst, append_assoc, take, drop, replicate, take-append-drop, append-nil}
use Rattle.vbi_words.proofs.Common.{recursion_from_All, System, IsWord, Shows, ShowsNone, Viable, AllLow}
use Rattle.std.proofs.Common.{Some, None, length}
use Rattle.std.proofs.lemmas.List.Elements.{All-from_recursion}
use Rattle.vbi_words.specs.Words.{lowest_bits}
use Rattle.vbi_words.proofs.Sizes.{sizes_of, apart_of}
use Rattle.vbi_words.proofs.Cutting
use Rattle.vbi_words.proofs.Awaits
use Rattle.vbi_words.proofs.Ends
use Rattle.vbi_words.proofs.Machine
use Rattle.vbi_words.proofs.Machine.{State, lead, dead}
use Rattle.vbi_words.proofs.SystemMachine.{state_after, ending_of, fit_after}
use Rattle.vbi_words.proofs.Bits

-- ---- a word and its bits

-- the bits of a word
abbrev pub WordBits : List Bool → Type 0
WordBits bits = (length bits ≡ 24) × Machine.Begun bits

-- the bits of a number
abbrev bits_of : ℕ → List Bool
bits_of w = lowest_bits 24 w

pub word_bits : (w : ℕ) → IsWord w → WordBits (bits_of w)
word_bits w (low, high) = (Bits.length-lowest_bits 24 w, (lowest_bits 23 w, Bits.top_bit_set 23 w low high))

pub word_of : (bits : List Bool) → WordBits bits → (w : ℕ) × IsWord w × (bits_of w ≡ bits)
word_of bits (whole, (rest, begun)) =
    let n = Bits.number_of bits in
    let below : n.0 < 2 ^ 24 = subst (λ (k : ℕ). n.0 < 2 ^ k) whole n.1 in
    let same : bits_of n.0 ≡ bits = subst (λ (k : ℕ). lowest_bits k n.0 ≡ bits) whole n.2 in
    (n.0, (Bits.top_bit_then 23 n.0 rest (same ∙ begun), below), same)

-- ---- the levels of a word's bits

-- the levels draw these bits
abbrev pub Draws : System → List Bool → List Bool → Type 0
Draws system = Cutting.Draws (sizes_of system)

-- the levels that a state still awaits for these bits
abbrev AwaitsBits : System → State → List Bool → List Bool → Type 0
AwaitsBits system = Awaits.Awaits (sizes_of system)

pub draws_from_shows : (system : System) (levels : List Bool) (w : ℕ) → Shows system levels w
    → Draws system (bits_of w) levels
draws_from_shows system levels w s = (
  s.before,
  s.drawn ++ replicate s.after false,
  s.whole,
  Cutting.cells_from_spelled (sizes_of system) (bits_of w) s.drawn s.after s.spelled,
)

pub shows_from_draws : (system : System) (levels : List Bool) (w : ℕ) → IsWord w → Draws system (bits_of w) levels
    → Shows system levels w
shows_from_draws system levels w (low, high) (a, rest, e, cells) =
    let d = Cutting.drawn_from_cells (sizes_of system) (bits_of w) rest cells in
    record {
      is_word = (low, high);
      before = a;
      drawn = d.0;
      after = d.1;
      spelled = d.2;
      whole = e ∙ ap (λ (t : List Bool). replicate a false ++ t) d.3;
    }

pub awaits_after : (system : System) (levels more bits : List Bool) → WordBits bits
    → Draws system bits (levels ++ more) ↔ AwaitsBits system (state_after system levels) bits more
awaits_after system levels more bits whole = Awaits.after_step (apart_of system) (lead 0) levels bits more tt whole

pub draws_ended : (system : System) (levels bits : List Bool) → WordBits bits
    → Draws system bits levels ↔ (ending_of system (state_after system levels) ≡ Some bits)
draws_ended system levels bits whole =
    let there = awaits_after system levels [] bits whole in
    let here = Ends.ended (apart_of system) (state_after system levels) bits (fit_after system levels) whole in (
      λ d. here.0 (there.0 (subst (Draws system bits) (sym (append-nil levels)) d)),
      λ e. subst (Draws system bits) (append-nil levels) (there.1 (here.1 e)),
    )

-- ---- the word that a list shows

-- the machine ends with the bits of this word
abbrev pub EndsWith : System → List Bool → ℕ → Type 0
EndsWith system levels w = ending_of system (state_after system levels) ≡ Some (bits_of w)

-- a word is shown exactly where the machine ends with its bits
pub shows_ended : (system : System) (levels : List Bool) (w : ℕ) → Shows system levels w → EndsWith system levels w
shows_ended system levels w s =
    (draws_ended system levels (bits_of w) (word_bits w s.is_word)).0 (draws_from_shows system levels w s)

pub ended_shows : (system : System) (levels : List Bool) (w : ℕ) → IsWord w → EndsWith system levels w
    → Shows system levels w
ended_shows system levels w range e =
    shows_from_draws system levels w range ((draws_ended system levels (bits_of w) (word_bits w range)).1 e)

pub ended_none : (system : System) (levels : List Bool) → ending_of system (state_after system levels) ≡ None
    → ShowsNone system levels
ended_none system levels e w s = let f : Some (bits_of w) ≡ None = sym (shows_ended system levels w s) ∙ e in cc

-- a list of levels shows at most one word
pub one_word : (system : System) (levels : List Bool) (v w : ℕ) → Shows system levels v → Shows system levels w → v ≡ w
one_word system levels v w s t =
    let same : Some (bits_of v) ≡ Some (bits_of w)
    = sym (shows_ended system levels v s) ∙ shows_ended system levels w t in
    Bits.same_from_lowest 24 v w s.is_word.1 t.is_word.1 cc

-- ---- viable lists

-- a list is viable exactly where the machine isn't dead
pub viable_alive : (system : System) (levels : List Bool) → Viable system levels → state_after system levels ≡ dead → ⊥
viable_alive system levels (more, w, s) e =
    let drawn : Draws system (bits_of w) (levels ++ more) = draws_from_shows system (levels ++ more) w s in
    subst (λ (x : State). AwaitsBits system x (bits_of w) more) e
    ((awaits_after system levels more (bits_of w) (word_bits w s.is_word)).0 drawn)

pub alive_viable : (system : System) (levels : List Bool) → (state_after system levels ≡ dead → ⊥)
    → Viable system levels
alive_viable system levels alive =
    let l = Ends.live (apart_of system) (state_after system levels) (fit_after system levels) alive in
    let w = word_of l.0 l.2 in
    let drawn : Draws system l.0 (levels ++ l.1) = (awaits_after system levels l.1 l.0 l.2).1 l.3 in (
      l.1,
      w.0,
      shows_from_draws system (levels ++ l.1) w.0 w.1
          (subst (λ (t : List Bool). Draws system t (levels ++ l.1)) (sym w.2) drawn),
    )

-- each front of a viable list is viable
pub viable_front : (system : System) (front rest : List Bool) → Viable system (front ++ rest) → Viable system front
viable_front system front rest (more, w, s) = grind (arith, append_assoc)

pub viable_take : (system : System) (levels : List Bool) (n : ℕ) → Viable system levels → Viable system (take n levels)
viable_take system levels n v =
    viable_front system (take n levels) (drop n levels) (subst (Viable system) (sym (take-append-drop n levels)) v)

-- ---- lows alone leave the machine in its first state, and nothing else does

pub low_lead : (system : System) (levels : List Bool) → AllLow levels
    → Machine.is_lead (state_after system levels) ≡ true
low_lead system levels low =
    Machine.lead_lows (sizes_of system) 0 levels (recursion_from_All (λ l. l ≡ false) levels low)

pub lead_low : (system : System) (levels : List Bool) → Machine.is_lead (state_after system levels) ≡ true
    → AllLow levels
lead_low system levels e =
    All-from_recursion (λ l. l ≡ false) levels (Machine.lows_lead (sizes_of system) (lead 0) levels e).1
