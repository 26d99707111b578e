-- The names that more than one proof cites, each passed on from the module that defines it.
pub use Rattle.std.proofs.Common.{[], ◌%◌, ◌*◌, ◌++◌, ◌+◌, ◌-◌, ◌/◌, ◌<◌, ◌^◌, ◌∙◌, ◌∷◌, ◌≡◌, ◌≤◌, ◌⊎◌, Bool, List}
pub use Rattle.std.proofs.Common.{None, Option, Some, add-zero, ap, append_assoc, arith, bit_or, cond, drop, false}
pub use Rattle.std.proofs.Common.{get_or, inl, inr, length, length-append, lit<, map, max, nat_eq, nat_lt, refl, rules}
pub use Rattle.std.proofs.Common.{slice_index, subst, suc, sym, take, true, zero, ℕ}
pub use Rattle.std.proofs.Math.Nat.{max-zero, mod-eq_of_lt, mul-lt-mul_of_pos_right, pow-le-pow_right, zero-max}
pub use Rattle.std.proofs.lemmas.Bool.{cases_eq, cases_lt}
pub use Rattle.std.proofs.lemmas.List.{append-nil, drop-drop, get_or-map, length-take-le, take_at}
pub use Rattle.std.proofs.lemmas.List.FromFn.{get_or-map-range_with_len, length-map-range_with_len}
pub use Rattle.std.proofs.lemmas.Nat.{pow-add, pow_pos}
pub use Rattle.std.proofs.lemmas.Nat.Bits.{bit_at-lt, bit_at-zero, bit_at_above, bit_at_cat_high, bit_at_cat_low}
pub use Rattle.std.proofs.lemmas.Nat.Bits.{bit_at_or}
pub use Rattle.std.specs.Int.{bit_at, trailing_zeros}
pub use Rattle.std.specs.Prelude.{not}
pub use Rattle.vbi_words.proofs.Bits.{length-lowest_bits}
pub use Rattle.vbi_words.proofs.Machine.{State, dead, grown, lead, length_of, level_of}
pub use Rattle.vbi_words.proofs.Outcomes.{word_outcome}
pub use Rattle.vbi_words.proofs.Sizes.{half_max-le, line_bytes-le, line_bytes-twice, sizes_of}
pub use Rattle.vbi_words.proofs.SystemMachine.{IsFit, after_append, after_of, ending_of, fit_after, limit_of, next_of}
pub use Rattle.vbi_words.proofs.SystemMachine.{state_after, state_at}
pub use Rattle.vbi_words.specs.Geometry.{half_max, half_min, line_bytes, width_of}
pub use Rattle.vbi_words.specs.Levels.{Slicing, is_high_of, level_at}
pub use Rattle.vbi_words.specs.Outcomes.{IsOutcome}
pub use Rattle.vbi_words.specs.Shows.{ShowsNone}
pub use Rattle.vbi_words.specs.Smooth.{smooth_of}
pub use Rattle.vbi_words.specs.Words.{IsWord}
pub use Rattle.vbi_words.specs.declared.outcome.Outcome.{Outcome}
pub use Rattle.vbi_words.specs.declared.outcome.Outcome.TheVariants.{Blank, Change, Hold, Unfinished, Word}
pub use Rattle.vbi_words.specs.declared.system.System.{System}
pub use base.Fml.{Fml, ftrue}
pub use base.Logic.{SProp, ent, sep}
pub use denote.Array.{Array}
pub use denote.Builtin.{u8}
pub use denote.Memory.{mem}
pub use denote.Steps.{nothing}
pub use seplogic.Ra.Ura.{Ura}
pub use types.Kit.{ !, ‵, ◌$◌, ◌∵◌, ◌⊛◌, done, fjoin, fsplit, move, qed, raw, rewrite, split, use1, use2}
pub use types.Logic.{Logic, sem}
pub use types.SemTy.{cells}
pub use Rattle.vbi_line.specs.Counted.{IsSameDevice, NoError, device_of, failures_of}
pub use Rattle.vbi_line.specs.Decoder.{DiesAfter, IsSound, run_of, state_of}
pub use Rattle.vbi_line.specs.Line.{KeepsBytes, sample_at}
pub use Rattle.vbi_line.specs.Packing.{EqualBits, IsRun, TellsAbove, level_of_bit, levels_in, packed_level, unpacked}
pub use Rattle.vbi_line.specs.StoreLends.{with_part}
pub use Rattle.vbi_line.specs.Straight.{IsBitRun, IsHalf, IsMiddle, ReachesMiddle}
pub use Rattle.vbi_line.specs.declared.counted.Counted.{Counted}
pub use Rattle.vbi_line.specs.declared.decoder.Decoder.{Decoder}
pub use Rattle.vbi_line.specs.declared.store.LineBytes.{LineBytes}
