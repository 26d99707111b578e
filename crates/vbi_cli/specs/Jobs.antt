-- What a job does: what metadata and options settle, what each command does with it, and the job's answer; and the
-- statuses that the program ends with.
use Rattle.std.specs.Prelude.{◌≡◌, ◌⊎◌, ℕ, List, Option, Some, None, Result, Ok, Err, IfOk, ⊤, is_some, if◌then◌else◌}
use Rattle.std.specs.Prelude.{codes, Bool, true, false, not, ◌&&◌}
use Rattle.vbi_field.specs.ConfigView.{line_bytes, System, ConfigView}
use Rattle.vbi_words.specs.declared.outcome.Outcome.{Outcome}
use Rattle.vbi_field.specs.Texts.{Kind, document, recovered_document, report, recovered_report}
use Rattle.vbi_field.specs.Ran.{Counts, Ran, Use}
use Rattle.vbi_field.specs.declared.summary.Summary.{Summary}
use Rattle.vbi_field.specs.declared.summary.RunFault.{RunFault}
use Rattle.vbi_field.specs.declared.summary.RunFault.TheVariants as run
use Rattle.vbi_meta.specs.Settings.{IsMetadata, IsUnread, IsSettled, IsRefused, Data}
use Rattle.vbi_meta.specs.declared.overrides.Overrides.{Overrides}
use Rattle.vbi_meta.specs.declared.fault.MetaFault.{MetaFault}
use Rattle.vbi_meta.specs.ReadBack.{ReadsBack, RecoversBack}
use Rattle.vbi_cli.specs.OneLine as line
use Rattle.vbi_cli.specs.declared.fault.AppFault.{AppFault}
use Rattle.vbi_cli.specs.declared.fault.AppFault.TheVariants as app
use Rattle.vbi_cli.specs.declared.job.Ended.{Ended}
use Rattle.vbi_cli.specs.declared.job.Ended.TheVariants.{Whole, CutField}
use Rattle.vbi_cli.specs.declared.job.Text.{Text}
use Rattle.vbi_cli.specs.declared.job.Text.TheVariants.{Document, RecoveredDocument, Report, RecoveredReport}
use Rattle.vbi_cli.specs.declared.command_line.Job.{Job}
use Rattle.vbi_cli.specs.declared.command_line.Verb.{Verb}
use Rattle.vbi_cli.specs.declared.command_line.Verb.TheVariants.{Line, Extract, Show, Draw}
use Rattle.vbi_line.specs.Intake as lines
use Rattle.vbi_line.specs.declared.intake.Intake.{Intake}
use Rattle.vbi_field.specs.Draws as draws
use Rattle.vbi_field.specs.declared.drawing.DrawFault.{DrawFault}
use Rattle.vbi_field.specs.declared.drawing.DrawFault.TheVariants as draw
use Rattle.vbi_field.specs.Extracts as extracts
use Rattle.vbi_field.specs.Outlet as outlets
use Rattle.vbi_field.specs.declared.outlet.Outlet.{Outlet}
use Rattle.vbi_field.specs.RowIntake as rows
use Rattle.vbi_cli.specs.declared.source.Source.{Source}
use Rattle.vbi_cli.specs.declared.source.Source.TheVariants as source
use Rattle.vbi_cli.specs.declared.input.Input.{Input}
use Rattle.vbi_cli.specs.declared.input.Input.TheVariants.{File, Standard}
use Rattle.vbi_cli.specs.declared.command_line.WordsFault.{WordsFault}
use Rattle.vbi_cli.specs.declared.command_line.WordsFault.TheVariants.{Refused, Help, OutOfMemory}

-- ---- the settings

-- metadata, if it is given, is a JSON document, and it and the options settle this config
abbrev pub Settles : Option (List ℕ) → Overrides → ConfigView → Type 0
Settles None given config = IsSettled None given config
Settles (Some bytes) given config =
    (value : Data) × IsMetadata bytes value × IsSettled (Some value) given config

-- metadata, if it is given, isn't read for this reason; or it is a JSON document, and it and the options are refused
-- for this reason
abbrev pub Refuses : Option (List ℕ) → Overrides → MetaFault → Type 0
Refuses None given fault = IsRefused None given fault
Refuses (Some bytes) given fault =
    IsUnread bytes fault ⊎ ((value : Data) × IsMetadata bytes value × IsRefused (Some value) given fault)

-- metadata and options settle a config, and P holds of it
abbrev pub Under : Option (List ℕ) → Overrides → (ConfigView → Type 0) → Type 0
Under meta given P = (c : ConfigView) × (Settles meta given c × P c)

-- P holds of some counts
abbrev pub Counting : (Counts → Type 0) → Type 0
Counting P = (n : Counts) × P n

-- ---- the commands

-- the job's answer to a run over a stream; a run doesn't answer `Failed`
abbrev pub IsEndedBy : Result Summary RunFault → Result Ended AppFault → Type 0
IsEndedBy (Ok summary) answer = answer ≡ Ok (if is_some summary.cut then CutField else Whole)
IsEndedBy (Err (run.Read field offset)) answer = answer ≡ Err (app.ReadField field offset)
IsEndedBy (Err (run.Write written)) answer = answer ≡ Err (app.Write written)
IsEndedBy (Err run.TooManyFields) answer = answer ≡ Err app.TooManyFields
IsEndedBy (Err run.Failed) answer = ⊥

-- the job's answer to a run over one line of a system
abbrev pub IsAnsweredBy : System → Result Outcome line.LineFault → Result Ended AppFault → Type 0
IsAnsweredBy system (Ok outcome) answer = answer ≡ Ok Whole
IsAnsweredBy system (Err (line.Short bytes)) answer = answer ≡ Err (app.Short bytes (line_bytes system))
IsAnsweredBy system (Err (line.Read offset)) answer = answer ≡ Err (app.ReadLine offset)
IsAnsweredBy system (Err (line.Write written)) answer = answer ≡ Err (app.Write written)

-- the job's answer to a run of drawing
abbrev pub IsDrawnBy : Result ℕ DrawFault → Result Ended AppFault → Type 0
IsDrawnBy (Ok fields) answer = answer ≡ Ok Whole
IsDrawnBy (Err (draw.Row number)) answer = answer ≡ Err (app.Row number)
IsDrawnBy (Err (draw.Read number)) answer = answer ≡ Err (app.ReadRow number)
IsDrawnBy (Err (draw.Write written)) answer = answer ≡ Err (app.Write written)
IsDrawnBy (Err draw.TooManyFields) answer = answer ≡ Err app.TooManyFields

-- a command ran over the input and the output and gave some result, what it fetched and wrote and what the two counted
-- is what it says of that result, and the job's answer is the one that belongs to it
pub record DidRun {A : Type 0} (input0 input output0 output : Option (List ℕ)) (n : Counts)
    (Says : Counts → A → List ℕ → List ℕ → Type 0) (IsFor : A → Result Ended AppFault → Type 0)
    (answer : Result Ended AppFault) : Type 0 where
  pub result : A
  pub ran : Ran input0 input output0 output n (Says n result)
  pub answered : IsFor result answer

-- what `extract` says of its result, for one of its documents; and if that is Ok, what is found in the text by a reader
-- of JSON are the words that the lines in the bytes fetched show
pub record ExtractsWords (t : Kind) (Back : ConfigView → List ℕ → List ℕ → Type 0) (c : ConfigView)
    (input : Option (List ℕ)) (n : Counts) (result : Result Summary RunFault) (z text : List ℕ) : Type 0 where
  pub says : extracts.Extracts t c input n result z text
  pub read_back : IfOk result (λ summary. Back c z text)

module _ (c : ConfigView) (input0 input output0 output : Option (List ℕ)) (n : Counts) where
  -- what a command did that recovers words or doesn't, over devices that counted n since
  abbrev pub Did : Verb → Bool → Result Ended AppFault → Type 0
  Did Line recover answer = DidRun input0 input output0 output n (line.Answers c input) (IsAnsweredBy c.system) answer
  Did Extract false answer =
      DidRun input0 input output0 output n (ExtractsWords document ReadsBack c input) IsEndedBy answer
  Did Extract true answer =
      DidRun input0 input output0 output n (ExtractsWords recovered_document RecoversBack c input) IsEndedBy answer
  Did Show false answer = DidRun input0 input output0 output n (extracts.Extracts report c input) IsEndedBy answer
  Did Show true answer =
      DidRun input0 input output0 output n (extracts.Extracts recovered_report c input) IsEndedBy answer
  Did Draw recover answer = DidRun input0 input output0 output n (draws.Draws c input) IsDrawnBy answer

-- ---- the job

-- if the answer is a fault of metadata or settings, P holds of it
abbrev pub IfMeta : Result Ended AppFault → (MetaFault → Type 0) → Type 0
IfMeta (Err (app.Meta fault)) P = P fault
IfMeta _ P = ⊤

-- P holds, unless the answer is a fault of metadata or settings
abbrev pub UnlessMeta : Result Ended AppFault → Type 0 → Type 0
UnlessMeta (Err (app.Meta fault)) P = ⊤
UnlessMeta _ P = P

-- ---- what a contract sees of a command's source, and of the input

module _ {R : Type 0} where
  -- the reader with the counts of its failed calls
  abbrev pub counted_of : Source R → outlets.Counted R
  counted_of (source.Line i) = lines.counted_of i
  counted_of (source.Extract i recover) = lines.counted_of i
  counted_of (source.Show i recover) = lines.counted_of i
  counted_of (source.Draw i) = rows.counted_of i

  -- the command
  abbrev pub verb_of : Source R → Verb
  verb_of (source.Line i) = Line
  verb_of (source.Extract i recover) = Extract
  verb_of (source.Show i recover) = Show
  verb_of (source.Draw i) = Draw

  -- the command recovers words
  abbrev pub recover_of : Source R → Bool
  recover_of (source.Line i) = false
  recover_of (source.Extract i recover) = recover
  recover_of (source.Show i recover) = recover
  recover_of (source.Draw i) = false

  -- what is read for a text of a stream
  abbrev pub source_of : Text → Intake R → Source R
  source_of Document i = source.Extract i false
  source_of RecoveredDocument i = source.Extract i true
  source_of Report i = source.Show i false
  source_of RecoveredReport i = source.Show i true

  -- the reader has not been called; what is read by lines is read by those of this system
  abbrev pub IsFresh : Source R → System → Type 0
  IsFresh (source.Line i) system = lines.IsFresh i system
  IsFresh (source.Extract i recover) system = lines.IsFresh i system
  IsFresh (source.Show i recover) system = lines.IsFresh i system
  IsFresh (source.Draw i) system = rows.IsFresh i

-- what a fresh source and a fresh outlet counted since
abbrev pub counts_of : {R W : Type 0} → Source R → Outlet W → Counts
counts_of (source.Line i) o = extracts.counts_of i o
counts_of (source.Extract i recover) o = extracts.counts_of i o
counts_of (source.Show i recover) o = extracts.counts_of i o
counts_of (source.Draw i) o = draws.counts_of i o

module _ {R W : Type 0} where
  -- what a command did with its fresh source and a fresh outlet, by its answer
  abbrev pub Does : ConfigView → Use R (Source R) → Use W (Outlet W) → Result Ended AppFault → Type 0
  Does c s o answer =
      Did c (s.told (outlets.device_of (counted_of s.before))) (s.told (outlets.device_of (counted_of s.after)))
      (o.told (outlets.device_of (outlets.counted_of o.before)))
      (o.told (outlets.device_of (outlets.counted_of o.after)))
      (counts_of s.after o.after) (verb_of s.before) (recover_of s.before) answer

-- the bytes that the program's input has yet to give, if they are told: those of the file or of standard input
abbrev pub input_remaining : {F S : Type 0} → (F → Option (List ℕ)) → (S → Option (List ℕ)) → Input F S
    → Option (List ℕ)
input_remaining file standard (File f) = file f
input_remaining file standard (Standard s) = standard s

-- ---- the commands by their names, and the statuses

-- the word that asks for a command
abbrev pub word_of : Verb → List ℕ
word_of Line = codes "line"
word_of Extract = codes "extract"
word_of Show = codes "show"
word_of Draw = codes "draw"

-- a command recovers words if it can and this is asked for
abbrev pub recovers : Verb → Bool → Bool
recovers Line asked = false
recovers Extract asked = asked
recovers Show asked = asked
recovers Draw asked = false

-- the metadata that lies beside the input is to be read, if there is some
abbrev pub looks_beside : Job → Bool
looks_beside job =
    let given = job.overrides in
    is_some job.input && not (is_some job.meta)
    && not (is_some given.system && is_some given.black && is_some given.white)

-- if the command line gives no job: 2 if it is refused, 0 if help is asked for, 1 if memory runs out
abbrev pub words_status : WordsFault → ℕ
words_status (Refused text) = 2
words_status (Help text) = 0
words_status OutOfMemory = 1

-- of a job: 0 if it is done, 3 if it is done and the last field was cut, 1 for every fault
abbrev pub app_status : Result Ended AppFault → ℕ
app_status (Ok Whole) = 0
app_status (Ok CutField) = 3
app_status (Err fault) = 1
