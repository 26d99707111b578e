-- What a run did, for any command: some bytes were fetched, some text was written, and its answer says how the two
-- belong together. The reader is seen by the bytes that it has yet to give and the writer by those that it has taken,
-- if they tell them.
use Rattle.std.specs.Prelude.{◌≡◌, ℕ, ◌<◌, ◌≤◌, ◌⊎◌, List, ◌++◌, length, take, Option}
pub use Rattle.std.specs.Io.KnownBytes.{Consumes, Appends, IsAtEnd}
use Rattle.vbi_line.specs.Counted.{tries}
use Rattle.vbi_line.specs.declared.counted.Failures.{Failures}
pub use Rattle.vbi_field.specs.declared.summary.Summary.{Summary}
pub use Rattle.vbi_field.specs.declared.summary.RunFault.{RunFault}
pub use Rattle.vbi_field.specs.declared.summary.RunFault.TheVariants.{Read, Write, TooManyFields, Failed}

-- a device as a call uses it: how its bytes are told, and what holds it before the call and after
pub record Use (D H : Type 0) : Type 0 where
  pub told : D → Option (List ℕ)
  pub before : H
  pub after : H

-- the use of a device that tells its bytes so
abbrev pub over : {D H : Type 0} → (D → Option (List ℕ)) → H → H → Use D H
over told before after = record { told = told; before = before; after = after }

-- a device that failed for good: its one error was its last answer, or its last seventeen answers or more were
-- interruptions
pub record HasFailed (f : Failures) : Type 0 where
  pub rose : 0 < f.all
  pub cause : ((f.errors ≡ 1) × (f.streak ≡ 0)) ⊎ ((f.errors ≡ 0) × (tries ≤ f.streak))

-- what a run counted: the bytes fetched and written, the samples looked at, and the failures of its two devices
pub record Counts : Type 0 where
  pub fetched : ℕ
  pub written : ℕ
  pub looked : ℕ
  pub reader : Failures
  pub writer : Failures

-- neither device gave an error; interruptions were tried again
abbrev pub IsCalm : Counts → Type 0
IsCalm n = (n.reader.errors ≡ 0) × (n.writer.errors ≡ 0)

-- a run that fetched z and wrote text, of which this holds
pub record Ran (input0 input output0 output : Option (List ℕ)) (n : Counts) (Says : List ℕ → List ℕ → Type 0) : Type 0
  where
    pub z : List ℕ
    pub text : List ℕ
    pub consumed : Consumes input0 input z
    pub appended : Appends output0 output text
    pub fetched : n.fetched ≡ length z
    pub written : n.written ≡ length text
    pub says : Says z text

-- the text has all that was due before its last part, and not all of what is due with that part
pub record EndsInside (before due text : List ℕ) : Type 0 where
  pub part : List ℕ
  pub rest : List ℕ
  pub begun : before ++ part ≡ text
  pub more : text ++ rest ≡ due
  pub short : 0 < length rest

-- the text is the first of the other, and not all of it
abbrev pub IsFirstOf : List ℕ → List ℕ → Type 0
IsFirstOf text due = (text ≡ take (length text) due) × (length text < length due)
