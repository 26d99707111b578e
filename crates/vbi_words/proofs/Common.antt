-- The names that more than one proof cites, each passed on from the module that defines it.
pub use Rattle.std.proofs.Common.{[], ◌%◌, ◌&&◌, ◌*◌, ◌++◌, ◌+◌, ◌-◌, ◌/◌, ◌<◌, ◌^◌, ◌↔◌, ◌∙◌, ◌∷◌, ◌≡◌, ◌≤◌, ◌⊎◌, Any}
pub use Rattle.std.proofs.Common.{Bool, List, None, Option, Some, add-one, add-zero, ap, append_assoc, arith, cond}
pub use Rattle.std.proofs.Common.{drop, eqb, false, get_or, inl, inr, leb, length, length-append, lit<, lit≤, ltb, refl}
pub use Rattle.std.proofs.Common.{rules, subst, suc, sym, take, true, zero, zero-add, ℕ}
pub use Rattle.std.proofs.Math.ListN.{replicate, take-append-drop}
pub use Rattle.std.proofs.Math.Seq.{drop-cons}
pub use Rattle.std.proofs.lemmas.Bool.{and_parts, cases_lt, cases_order, cond_both, eqb-true, le-leb, leb-true, lt-ltb}
pub use Rattle.std.proofs.lemmas.Bool.{ltb-true}
pub use Rattle.std.proofs.lemmas.List.{append-nil, drop_all, ext_get_or, get_or-append-add, get_or-drop}
pub use Rattle.std.proofs.lemmas.List.{get_or_append_left, replicate-append-replicate, take_all}
pub use Rattle.std.proofs.lemmas.List.Elements.{recursion_from_All}
pub use Rattle.std.proofs.lemmas.List.Folds.{Any-from_list_any, list_any_at}
pub use Rattle.std.proofs.lemmas.List.FromFn.{get_or-map-range_with_len, length-map-range_with_len}
pub use Rattle.std.specs.List.{AllByRecursion, flat_map, list_any, range_with_len}
pub use Rattle.std.specs.Prelude.{not}
pub use Rattle.vbi_words.specs.Codes.{digit_of}
pub use Rattle.vbi_words.specs.Drawn.{IsDrawnHigh, IsDrawnRow, boundary}
pub use Rattle.vbi_words.specs.Geometry.{half_max, half_min, line_bytes, width_of}
pub use Rattle.vbi_words.specs.Jitter.{HasGlitches, IsBlurred, IsJittered, NoneAlone, ReadsWord, ShowsAmply}
pub use Rattle.vbi_words.specs.Jitter.{differences, differs, least_distance}
pub use Rattle.vbi_words.specs.Levels.{Slicing, level_at, levels_of}
pub use Rattle.vbi_words.specs.Outcomes.{AllLow, FirstHopeless, Holds, IsOutcome}
pub use Rattle.vbi_words.specs.Readings.{IsReading}
pub use Rattle.vbi_words.specs.Shows.{Shows, ShowsNone, Spells, Viable}
pub use Rattle.vbi_words.specs.Smooth.{level_of_four}
pub use Rattle.vbi_words.specs.Words.{IsWord, cell_of, halves_of}
pub use Rattle.vbi_words.specs.declared.code.Code.{Code}
pub use Rattle.vbi_words.specs.declared.outcome.Outcome.{Outcome}
pub use Rattle.vbi_words.specs.declared.outcome.Outcome.TheVariants.{Blank, Change, Hold, Unfinished, Word}
pub use Rattle.vbi_words.specs.declared.system.System.{System}
pub use Rattle.vbi_words.specs.declared.system.System.TheVariants.{Ntsc, Pal}
