-- The types of which definitions and proofs of this crate speak, with their variants.
pub use Rattle.vbi_words.specs.declared.system.System.{System}
pub use Rattle.vbi_words.specs.declared.system.System.TheVariants.{Ntsc, Pal}
pub use Rattle.vbi_side.specs.declared.clock.Clock.{Clock}
pub use Rattle.vbi_side.specs.declared.clock.Clock.TheVariants.{Plain, DropFrame, OneIn}
pub use Rattle.vbi_side.specs.declared.lines.Counted.{Counted}
pub use Rattle.vbi_side.specs.declared.lines.Counted.TheVariants.{Pictures, Times}
pub use Rattle.vbi_side.specs.declared.lines.Shown.{Shown}
pub use Rattle.vbi_side.specs.declared.number.Number.{Number}
pub use Rattle.vbi_side.specs.declared.pace.Pace.{Pace}
pub use Rattle.vbi_side.specs.declared.pace.Pace.TheVariants.{Video, Film}
pub use Rattle.vbi_side.specs.declared.place.Place.{Place}
pub use Rattle.vbi_side.specs.declared.sighting.Sighting.{Sighting}
pub use Rattle.vbi_side.specs.declared.sighting.Sightings.{Sightings}
pub use Rattle.vbi_whole.specs.declared.gap.Amid.{Amid}
pub use Rattle.vbi_whole.specs.declared.gap.Gap.{Gap}
pub use Rattle.vbi_whole.specs.declared.gap.Numbering.{Numbering}
pub use Rattle.vbi_whole.specs.declared.gap.Rule.{Rule}
pub use Rattle.vbi_whole.specs.declared.tally.Tally.{Tally}
pub use Rattle.vbi_whole.specs.declared.verdict.Finding.{Finding}
pub use Rattle.vbi_whole.specs.declared.verdict.Findings.{Findings}
pub use Rattle.vbi_whole.specs.declared.verdict.Reasons.{Reasons}
pub use Rattle.vbi_whole.specs.declared.verdict.Verdict.{Verdict}
pub use Rattle.vbi_whole.specs.declared.verdict.Verdict.TheVariants.{Yes, No, CannotTell}
