-- What a run's clause says with the words that are read back, and a job's clause by its command's.
use Rattle.std.proofs.Common.{◌≡◌, subst, ℕ, Bool, true, false, List, Option, Result, Ok, Err, IfOk}
use Rattle.vbi_field.specs.ConfigView.{ConfigView}
use Rattle.vbi_field.specs.Extracts.{Extracts}
use Rattle.vbi_field.specs.Texts.{Kind, document, recovered_document, whole_text}
use Rattle.vbi_field.specs.Ran.{Counts, Ran}
use Rattle.vbi_field.specs.declared.summary.RunFault.{RunFault}
use Rattle.vbi_field.specs.declared.summary.Summary.{Summary}
use Rattle.vbi_meta.proofs.DocumentReadings.{extracted, extracted_recovered}
use Rattle.vbi_meta.specs.DocumentValue.{IsConfig, IsOfRun}
use Rattle.vbi_meta.specs.ReadBack.{ReadsBack, RecoversBack}
use Rattle.vbi_meta.specs.declared.overrides.Overrides.{Overrides}
use Rattle.vbi_cli.specs.Jobs.{Counting, Did, ExtractsWords, IsEndedBy, Settles, Under, UnlessMeta, recovers}
use Rattle.vbi_cli.specs.declared.command_line.Verb.{Verb}
use Rattle.vbi_cli.specs.declared.command_line.Verb.TheVariants.{Line, Extract, Show, Draw}
use Rattle.vbi_cli.specs.declared.fault.AppFault.{AppFault}
use Rattle.vbi_cli.specs.declared.fault.AppFault.TheVariants.{Meta}
use Rattle.vbi_cli.specs.declared.job.Ended.{Ended}

-- the whole text of a run is read back
abbrev IsReadBack : Kind → (ConfigView → List ℕ → List ℕ → Type 0) → Type 0
IsReadBack t Back =
    (c : ConfigView) (z text : List ℕ) → IsOfRun c z → text ≡ whole_text t c z → Back c z text

-- where a run of `extract` ended Ok, what a reader of JSON finds in its text are the words that the lines show
read_back : (t : Kind) (Back : ConfigView → List ℕ → List ℕ → Type 0) → IsReadBack t Back → (c : ConfigView)
    (input : Option (List ℕ)) (n : Counts) (result : Result Summary RunFault) (z text : List ℕ) → IsConfig c
    → Extracts t c input n result z text → IfOk result (λ summary. Back c z text)
read_back t Back reads c input n (Ok summary) z text numbers says =
    let all = says.came in reads c z text (record { config = numbers; within = all.within }) all.document
read_back t Back reads c input n (Err fault) z text numbers says = tt

-- what a run of `extract` did, with the words that a reader of JSON finds
with_read : (t : Kind) (Back : ConfigView → List ℕ → List ℕ → Type 0) → IsReadBack t Back
    → {c : ConfigView} {input0 input output0 output : Option (List ℕ)} {n : Counts}
    {result : Result Summary RunFault} → IsConfig c
    → Ran input0 input output0 output n (Extracts t c input n result)
    → Ran input0 input output0 output n (ExtractsWords t Back c input n result)
with_read t Back reads {c = c} {input = input} {n = n} {result = result} numbers ran = record {
  z = ran.z;
  text = ran.text;
  consumed = ran.consumed;
  appended = ran.appended;
  fetched = ran.fetched;
  written = ran.written;
  says = record {
    says = ran.says;
    read_back = read_back t Back reads c input n result ran.z ran.text numbers ran.says;
  };
}

-- what a run of `extract` did, with its answer, by whether it recovers words
module _ {c : ConfigView} {input0 input output0 output : Option (List ℕ)} {n : Counts}
    {result : Result Summary RunFault} {answer : Result Ended AppFault} (numbers : IsConfig c) where
  pub did_document : Ran input0 input output0 output n (Extracts document c input n result)
      → IsEndedBy result answer → Did c input0 input output0 output n Extract false answer
  did_document ran is =
      record { result = result; ran = with_read document ReadsBack extracted numbers ran; answered = is }

  pub did_recovered : Ran input0 input output0 output n (Extracts recovered_document c input n result)
      → IsEndedBy result answer → Did c input0 input output0 output n Extract true answer
  did_recovered ran is =
      let read = with_read recovered_document RecoversBack extracted_recovered numbers ran in
      record { result = result; ran = read; answered = is }

-- what a command did that recovers words if it can and is asked to
does_verb : (c : ConfigView) (input0 input output0 output : Option (List ℕ)) (n : Counts) (verb : Verb) (asked : Bool)
    (answer : Result Ended AppFault) → Did c input0 input output0 output n verb (recovers verb asked) answer
    → Did c input0 input output0 output n verb asked answer
does_verb c input0 input output0 output n Line asked answer did = did
does_verb c input0 input output0 output n Extract asked answer did = did
does_verb c input0 input output0 output n Show asked answer did = did
does_verb c input0 input output0 output n Draw asked answer did = did

-- what a command did under settings that were settled is what the job did
pub did_under : (meta : Option (List ℕ)) (given : Overrides) (c : ConfigView)
    (input0 input output0 output : Option (List ℕ)) (n : Counts) (before verb : Verb) (recover asked : Bool)
    (answer : Result Ended AppFault) → Settles meta given c → before ≡ verb → recover ≡ recovers verb asked
    → Did c input0 input output0 output n before recover answer
    → UnlessMeta answer (Under meta given (λ c. Counting (λ n. Did c input0 input output0 output n verb asked answer)))
did_under meta given c input0 input output0 output n before verb recover asked answer settled same so did =
    let Here : Result Ended AppFault → Type 0 = λ a. UnlessMeta a
    (Under meta given (λ c. Counting (λ n. Did c input0 input output0 output n verb asked answer))) in
    let same_verb : Did c input0 input output0 output n verb recover answer
    = subst (λ (v : Verb). Did c input0 input output0 output n v recover answer) same did in
    let did_so = does_verb c input0 input output0 output n verb asked answer
    (subst (λ (r : Bool). Did c input0 input output0 output n verb r answer) so same_verb) in
    let holds : Under meta given (λ c. Counting (λ n. Did c input0 input output0 output n verb asked answer))
    = (c, (settled, (n, did_so))) in
    elim answer as Here [ Ok ended ↦ holds | Err fault ↦ elim fault as (λ f. Here (Err f)) [ Meta f ↦ tt | _ ↦ holds ] ]
