-- What `extract` and `show` do, by their answer, for a kind t of text: z are the bytes fetched, text is what was
-- written, and n what was counted.
use Rattle.std.specs.Prelude.{◌≡◌, ℕ, ◌+◌, ◌^◌, ◌<◌, ◌≤◌, ◌⊎◌, List, [], ◌++◌, length, take, Option, Result, Ok}
use Rattle.std.specs.Prelude.{Err, OnOk, IfOk, OnErr, IfErr}
use Rattle.vbi_field.specs.Ran.{IsAtEnd, Counts, HasFailed, IsCalm, Ran, EndsInside, Summary, RunFault, Read, Write}
use Rattle.vbi_field.specs.Ran.{TooManyFields, Failed, Use}
use Rattle.vbi_field.specs.ConfigView.{line_bytes, field_bytes, ConfigView, System, allowed_bytes}
use Rattle.vbi_field.specs.Outlet.{device_of, failures_of, NoError, HasCause, IsSameDevice, Outlet}
use Rattle.vbi_line.specs.declared.intake.Intake.{Intake}
use Rattle.vbi_field.specs.Outlet as outlets
use Rattle.vbi_field.specs.Stream.{fields_of, rest_of, cut_of, looks_of}
use Rattle.vbi_field.specs.Texts.{text_before_tail, whole_text, Kind}
use Rattle.vbi_line.specs.Intake.{counted_of, fetched_of, held_of, line_of, FetchesBytes}
use Rattle.vbi_line.specs.declared.intake.Filled.{Filled}
use Rattle.vbi_line.specs.declared.intake.Filled.TheVariants.{Full, Ended}

module _ (t : Kind) (c : ConfigView) (input : Option (List ℕ)) (z text : List ℕ) where
  -- the text ends inside one of three parts: the head, which is due before the first read; the entry of a field, which
  -- is due as soon as the field's last byte was fetched; or the tail, which is due as soon as the reader has ended
  abbrev pub EndsWithin : Type 0
  EndsWithin = ((z ≡ []) × EndsInside [] (text_before_tail t c []) text)
      ⊎ (((before : List ℕ) × (last : List ℕ) × (before ++ last ≡ z) × (rest_of c before ≡ 0)
      × (length last ≡ field_bytes c.system) × EndsInside (text_before_tail t c before) (text_before_tail t c z) text)
      ⊎ (IsAtEnd input × EndsInside (text_before_tail t c z) (whole_text t c z) text))

  -- Ok: the reader ended within the limit, the whole text was written, and the summary has the fields, the cut and the
  -- looks
  pub record ExtractsAll (s : Summary) : Type 0 where
    pub document : text ≡ whole_text t c z
    pub at_end : IsAtEnd input
    pub within : length z ≤ allowed_bytes c
    pub summary : s ≡ record { fields = fields_of c z; cut = cut_of (rest_of c z); looked = looks_of c z }

  -- `Read`: the reader failed where the next byte would have been this one of this field, less than a line past the
  -- limit at most, and the text of the whole fields was written, without the tail
  pub record StopsAtRead (field offset : ℕ) : Type 0 where
    pub field_of : field ≡ fields_of c z + 1
    pub offset_of : offset ≡ rest_of c z
    pub within : length z < allowed_bytes c + line_bytes c.system
    pub begun : text ≡ text_before_tail t c z

  -- `Write`: the writer failed after this many bytes, inside the head, inside the entry of the last field, or inside
  -- the tail
  pub record StopsAtWrite (written : ℕ) : Type 0 where
    pub count : written ≡ length text
    pub within : length z ≤ allowed_bytes c
    pub inside : EndsWithin

  -- `TooManyFields`: the reader gave more bytes than the fields that are allowed have, by a line at most, and the text
  -- of these fields was written, without the tail
  pub record StopsAtLimit : Type 0 where
    pub more : allowed_bytes c < length z
    pub within : length z ≤ allowed_bytes c + line_bytes c.system
    pub begun : text ≡ text_before_tail t c (take (allowed_bytes c) z)

  -- how far the run came, by the answer; `Failed` isn't one
  abbrev pub EndsBy : Result Summary RunFault → Type 0
  EndsBy (Ok s) = ExtractsAll s
  EndsBy (Err (Read field offset)) = StopsAtRead field offset
  EndsBy (Err (Write written)) = StopsAtWrite written
  EndsBy (Err TooManyFields) = StopsAtLimit
  EndsBy (Err Failed) = ⊥

-- the device that a fault names failed for good, and no other gave an error; interruptions were tried again
abbrev pub FailsBy : Result Summary RunFault → Counts → Type 0
FailsBy (Err (Read field offset)) n = HasFailed n.reader × (n.writer.errors ≡ 0)
FailsBy (Err (Write written)) n = HasFailed n.writer × (n.reader.errors ≡ 0)
FailsBy _ n = IsCalm n

-- what was done, by the answer: the samples looked at, which device failed, and how far the run came
pub record Extracts (t : Kind) (c : ConfigView) (input : Option (List ℕ)) (n : Counts)
    (result : Result Summary RunFault) (z text : List ℕ) : Type 0 where
  pub looks : n.looked ≡ looks_of c z
  pub devices : FailsBy result n
  pub came : EndsBy t c input z text result

module _ {R W : Type 0} where
  -- the intake has the reader that it had, and the outlet the writer
  pub record AreSameDevices (i i' : Intake R) (o o' : Outlet W) : Type 0 where
    pub reader : IsSameDevice (counted_of i) (counted_of i')
    pub writer : IsSameDevice (outlets.counted_of o) (outlets.counted_of o')

-- what a fresh intake and a fresh outlet counted since
abbrev pub counts_of : {R W : Type 0} → Intake R → Outlet W → Counts
counts_of i o = record {
  fetched = fetched_of i;
  written = outlets.written_of o;
  looked = (line_of i).looked;
  reader = failures_of (counted_of i);
  writer = failures_of (outlets.counted_of o);
}

module _ {R W : Type 0} where
  -- the run of a fresh intake and a fresh outlet that gave this answer
  abbrev pub Runs : Kind → ConfigView → Use R (Intake R) → Use W (Outlet W) → Result Summary RunFault → Type 0
  Runs t c i o result =
      let input = i.told (device_of (counted_of i.after)) in
      let n = counts_of i.after o.after in
      Ran (i.told (device_of (counted_of i.before))) input
      (o.told (device_of (outlets.counted_of o.before))) (o.told (device_of (outlets.counted_of o.after)))
      n (Extracts t c input n result)

-- ---- what a run does with the next line of a reader

-- the intake holds nothing of the next line, which is one of this system, and what it has counted leaves room for more
pub record IsAtLineStart {R : Type 0} (system : System) (i : Intake R) : Type 0 where
  pub of_system : (line_of i).system ≡ system
  pub empty : held_of i ≡ []
  pub fetched : fetched_of i ≤ 2 ^ 62
  pub failures : (failures_of (counted_of i)).all ≤ 2 ^ 62

module _ {R : Type 0} (remaining : R → Option (List ℕ)) (old new : Intake R) where
  -- the rest of the stream, less than a line
  pub record GotRest (bytes : List ℕ) (count : ℕ) : Type 0 where
    pub count_of : count ≡ length bytes
    pub short : length bytes < line_bytes (line_of old).system
    pub at_end : IsAtEnd (remaining (device_of (counted_of new)))
    pub no_error : NoError (counted_of old) (counted_of new)

  -- what bytes were got, by the answer: a whole line, the rest, or less than a line before a fault of the reader
  abbrev pub Got : List ℕ → Result Filled RunFault → Type 0
  Got bytes (Ok Full) = (length bytes ≡ line_bytes (line_of old).system) × NoError (counted_of old) (counted_of new)
  Got bytes (Ok (Ended count)) = GotRest bytes count
  Got bytes (Err fault) =
      (length bytes < line_bytes (line_of old).system) × HasCause (counted_of old) (counted_of new)

  -- some bytes of the reader were got
  pub record TakesLine (result : Result Filled RunFault) : Type 0 where
    pub bytes : List ℕ
    pub fetches : FetchesBytes remaining old new bytes
    pub got : Got bytes result

-- ---- what a run does at its end

module _ (t : Kind) {W : Type 0} (contents : W → Option (List ℕ)) (old new : Outlet W) where
  -- the tail after these fields and bytes was put, and the answer says so; or the writer failed inside it
  pub record PutsTail (fields rest looked : ℕ) (result : Result Summary RunFault) : Type 0 where
    pub puts : outlets.Puts contents old new (t.tail fields rest)
    pub written : OnOk result (outlets.written_of new ≡ outlets.written_of old + length (t.tail fields rest))
    pub no_error : OnOk result (NoError (outlets.counted_of old) (outlets.counted_of new))
    pub ok : IfOk result (λ s. s ≡ record { fields = fields; cut = cut_of rest; looked = looked })
    pub failed : OnErr result (HasCause (outlets.counted_of old) (outlets.counted_of new))
    pub short : OnErr result (outlets.written_of new < outlets.written_of old + length (t.tail fields rest))
    pub fault : IfErr result (λ e. e ≡ Write (outlets.written_of new))

  -- the answer to what was got after all fields that are allowed: nothing may come any more
  abbrev pub AnswersAtLimit : ℕ → ℕ → Result Filled RunFault → Result Summary RunFault → Type 0
  AnswersAtLimit fields looked (Ok (Ended count)) result =
      ((count ≡ 0) × PutsTail fields 0 looked result) ⊎ ((0 < count) × (new ≡ old) × (result ≡ Err TooManyFields))
  AnswersAtLimit fields looked (Ok Full) result = (new ≡ old) × (result ≡ Err TooManyFields)
  AnswersAtLimit fields looked (Err fault) result = (new ≡ old) × (result ≡ Err fault)

-- one line more was asked for after all fields that are allowed, and this is the answer
pub record EndsAtLimit (t : Kind) {R W : Type 0} (remaining : R → Option (List ℕ)) (contents : W → Option (List ℕ))
    (fields offset : ℕ) (i i' : Intake R) (o o' : Outlet W) (result : Result Summary RunFault) : Type 0 where
  pub got : Result Filled RunFault
  pub takes : TakesLine remaining i i' got
  pub fault : IfErr got (λ e. e ≡ Read (fields + 1) (offset + length (held_of i')))
  pub answers : AnswersAtLimit t contents o o' fields (line_of i').looked got result
