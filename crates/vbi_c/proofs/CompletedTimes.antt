-- What completed fields tell.
use Rattle.std.proofs.Common.{◌≡◌, ◌∙◌, ℕ, ◌<◌, ◌/◌, ◌^◌, List, [], ◌∷◌, length, true, sym, ap, subst, inl, inr}
use Rattle.std.specs.Prelude.{Option, Some, None, slice_get, ◌⊎◌, nat_le, nat_lt, if◌then◌else◌}
use Rattle.std.proofs.lemmas.Bool.{le-leb, lt-ltb, and_from}
use Rattle.vbi_words.specs.Words.{IsWord}
use Rattle.vbi_c.specs.Types.{Times, Shown, Sightings, LdvbiFieldReadings, LdvbiReading, System}
use Rattle.vbi_side.specs.Sightings.{Shows}
use Rattle.vbi_side.specs.Votes.{minute_of, part_of, time_word, IsCompleted, IsVotedSoundly, IsVotedRightly}
use Rattle.vbi_side.specs.Lines.{sighting_of}
use Rattle.vbi_side.proofs.RightVotes.{rightly_soundly}
use Rattle.vbi_side.proofs.ToldTimes.{completed_rightly, completed_soundly, word_of_minute}
use Rattle.vbi_c.specs.Completing.{read_as, with_time, IsCompletedField, TellsTime, AreCompleted}
use Rattle.vbi_c.specs.Judging.{shown_by, lines_of, lines_in}

-- a word that is read as one
shown_word : (word pass : ℕ) → IsWord word → shown_by (read_as word pass) ≡ record { word = Some word; pass = pass }
shown_word word pass (low, high) =
    let least : nat_le (2 ^ 23) word ≡ true = le-leb (2 ^ 23) word low in
    let most : nat_lt word (2 ^ 24) ≡ true = lt-ltb word (2 ^ 24) high in
    ap (λ b. record { word = if b then Some word else None; pass = pass }) (and_from _ _ least most)

-- the word that completes a field is one
completed_word : (system : System) (line_16 : Shown) (seen : List Sightings) (i word : ℕ)
    → IsCompleted system line_16 seen i word → IsWord word
completed_word system line_16 seen i word (part, m, has, completed) =
    subst IsWord (sym completed.word_is) (word_of_minute (m / minute_of system) completed.early)

-- where votes are sound the lines of a completed field tell the number of the disc
told_lines : (system : System) (recorded : ℕ → Option ℕ) (seen : List Sightings) (lines : List LdvbiReading)
    (i part m word : ℕ) → part_of system (lines_of lines).line_16 ≡ Some part
    → IsVotedSoundly recorded (record { minute = minute_of system; field = i; part = part }) seen m
    → IsCompleted system (lines_of lines).line_16 seen i word
    → TellsTime system m (record { lines = with_time word lines })
told_lines system recorded seen (line_16 ∷ line_17 ∷ line_18 ∷ []) i part m word has voted completed =
    ap (sighting_of system Times (shown_by line_16))
    (shown_word word line_16.pass (completed_word system (shown_by line_16) seen i word completed))
    ∙ completed_soundly recorded system (shown_by line_16) seen i part m word has voted completed
told_lines system recorded seen other i part m word has voted completed =
    absurd (let clash : None ≡ Some part → ⊥ = λ h. cc in clash has)

-- a field is as it was then, or tells that number
pub told_field : (system : System) (recorded : ℕ → Option ℕ) (seen : List Sightings) (i part m : ℕ)
    (before after : LdvbiFieldReadings) → part_of system (lines_in before).line_16 ≡ Some part
    → IsVotedSoundly recorded (record { minute = minute_of system; field = i; part = part }) seen m
    → IsCompletedField system seen i before after → (after ≡ before) ⊎ TellsTime system m after
told_field system recorded seen i part m before after has voted (inl (word, completed, is)) =
    inr (subst (TellsTime system m) (sym is)
    (told_lines system recorded seen before.lines i part m word has voted completed))
told_field system recorded seen i part m before after has voted (inr (none, is)) = inl is

-- where they are right it tells it if it shows no time
pub told_unseen : (system : System) (recorded : ℕ → Option ℕ) (seen : List Sightings) (i part m : ℕ)
    (before after : LdvbiFieldReadings) → part_of system (lines_in before).line_16 ≡ Some part
    → IsVotedRightly recorded (record { minute = minute_of system; field = i; part = part }) seen m
    → ((n : ℕ) → Shows (slice_get seen i) n → ⊥) → m / minute_of system < 600
    → IsCompletedField system seen i before after → TellsTime system m after
told_unseen system recorded seen i part m before after has voted unseen early (inl (word, completed, is)) =
    subst (TellsTime system m) (sym is)
    (told_lines system recorded seen before.lines i part m word has
    (rightly_soundly recorded _ seen m voted) completed)
told_unseen system recorded seen i part m before after has voted unseen early (inr (none, is)) =
    absurd (none (time_word (m / minute_of system))
    (completed_rightly recorded system (lines_in before).line_16 seen i part m has voted unseen early))

-- ---- field by field

-- where each field is completed
pub are_completed : (system : System) (readings : List LdvbiFieldReadings) (seen : List Sightings)
    (completed : List LdvbiFieldReadings) → length completed ≡ length readings
    → ((i : ℕ) (before after : LdvbiFieldReadings) → slice_get readings i ≡ Some before
    → slice_get completed i ≡ Some after → IsCompletedField system seen i before after)
    → AreCompleted system readings seen completed
are_completed system readings seen completed count each = record {
  count = count;
  each = each;
  right = λ recorded i part m before after here there has voted.
      told_field system recorded seen i part m before after has voted (each i before after here there);
  whole = λ recorded i part m before after here there has voted unseen early.
      told_unseen system recorded seen i part m before after has voted unseen early (each i before after here there);
}
