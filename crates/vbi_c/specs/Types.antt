-- The types of which definitions and proofs of this crate speak, with their variants. Those of `Refusal` aren't among
-- them: some have the name of a type.
pub use Rattle.vbi_words.specs.declared.{code.Code.Code, format.Format.Format, outcome.Outcome.Outcome}
pub use Rattle.vbi_words.specs.declared.outcome.Reading.{Reading}
pub use Rattle.vbi_words.specs.declared.code.Code.TheVariants.{Picture, Chapter, Time, ClvPicture, CxOn, CxOff, Users}
pub use Rattle.vbi_words.specs.declared.code.Code.TheVariants.{LeadIn, LeadOut, PictureStop, ClvMark, Other}
pub use Rattle.vbi_words.specs.declared.format.Format.TheVariants.{Cav, Clv, Both, Neither}
pub use Rattle.vbi_words.specs.declared.outcome.Outcome.TheVariants.{Word, Blank, Unfinished, Change, Hold}
pub use Rattle.vbi_near.specs.declared.{near.Near.Near, recovery.Recovered.Recovered}
pub use Rattle.vbi_field.specs.declared.{readings.FieldReadings.FieldReadings, word_row.WordRow.WordRow}
pub use Rattle.vbi_whole.specs.Types.{System, Ntsc, Pal, Clock, Plain, DropFrame, OneIn, Counted, Pictures, Times}
pub use Rattle.vbi_whole.specs.Types.{Shown, Number, Pace, Video, Film, Sightings}
pub use Rattle.vbi_whole.specs.declared.{gap.Gap.Gap, gap.Numbering.Numbering, verdict.Finding.Finding}
pub use Rattle.vbi_whole.specs.declared.{verdict.Reasons.Reasons, verdict.Verdict.Verdict}
pub use Rattle.vbi_whole.specs.declared.verdict.Verdict.TheVariants.{Yes, No, CannotTell}
pub use Rattle.vbi_plan.specs.declared.plan.{Layout.Layout, PlanFault.PlanFault, PlanRule.PlanRule}
pub use Rattle.vbi_plan.specs.declared.plan.PlanRule.TheVariants.{Disordered, NotThere, Twice, Misplaced, Hidden}
pub use Rattle.vbi_seek.specs.declared.{asked.Asked.Asked, asked.Judging.Judging, number_search.Sought.Sought}
pub use Rattle.vbi_seek.specs.declared.{search.Seek.Seek, side_bytes.FoundField.FoundField, side_bytes.Setup.Setup}
pub use Rattle.vbi_seek.specs.declared.asked.Asked.TheVariants.{Given, Found}
pub use Rattle.vbi_c.specs.declared.{erased.LdvbiErased.LdvbiErased, numbers.LdvbiClock.LdvbiClock}
pub use Rattle.vbi_c.specs.declared.{numbers.LdvbiCode.LdvbiCode, piling.LdvbiNear.LdvbiNear}
pub use Rattle.vbi_c.specs.declared.{plan.LdvbiChecked.LdvbiChecked, reading.LdvbiFieldReadings.LdvbiFieldReadings}
pub use Rattle.vbi_c.specs.declared.{reading.LdvbiReading.LdvbiReading, recovering.LdvbiRecord.LdvbiRecord}
pub use Rattle.vbi_c.specs.declared.{seeking.LdvbiSought.LdvbiSought, status.Refusal.Refusal}
pub use Rattle.vbi_c.specs.declared.{whole_side.LdvbiSide.LdvbiSide, whole_side.LdvbiSideRule.LdvbiSideRule}
pub use Rattle.vbi_c.specs.declared.{whole_side.Siding.Siding, words.Drawing.Drawing}
