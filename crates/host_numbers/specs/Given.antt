-- What a host gives as plain numbers, and the entry of a desk that they make. A number that stands for nothing is refused with 2, before anything else is looked at.
use Rattle.std.specs.Prelude.{ℕ, Bool, List, eqb, leb, None, Err, Result}
use Rattle.lists.specs.Choice.{pick}
use Rattle.lists.specs.Lists.{both}
use Rattle.message.specs.declared.refusal.Refusal.{Refusal}
use Rattle.message.specs.declared.refusal.Refusal.TheVariants.{OutOfRange}
use Rattle.terms.specs.Codes.{kind_of}
use Rattle.terms.specs.declared.request.Name.{Name}
use Rattle.clerk_table.specs.declared.inputs.Act.TheVariants as ClerkAct
use Rattle.clerk_table.specs.declared.table.Timer.TheVariants.{T1, T2, T3}
use Rattle.line_table.specs.declared.inputs.Act.TheVariants as LineAct
use Rattle.clerk.specs.Entry as ClerkEntry
use Rattle.clerk.specs.declared.entry.Asking.{Asking}
use Rattle.clerk_table.specs.declared.inputs.Input as ClerkInput
use Rattle.desk.specs.declared.entry.BytesEntry.{BytesEntry}
use Rattle.line.specs.Entry as LineEntry
use Rattle.line_table.specs.declared.inputs.Input as LineInput
use Rattle.host_numbers.specs.Identifiers.{is_identifier, is_given, bytes_given, name_given}
use Rattle.host_numbers.specs.Messages.{least}

-- ---- acts and reports: by an identifier, whose length is 16, or by none and a place
-- acts at the clerk's end: User A's 1 accept, 2 resume, 3 go on to recall, 4 cancel; 5 the connection fell
unfoldable pub clerk_act_named : Name → ℕ → Result ClerkInput.Input Refusal
clerk_act_named name number =
    pick (eqb number 1) (ClerkEntry.act_entry name ClerkAct.Accept)
    (pick (eqb number 2) (ClerkEntry.act_entry name ClerkAct.Resume)
    (pick (eqb number 3) (ClerkEntry.act_entry name ClerkAct.GoOn)
    (pick (eqb number 4) (ClerkEntry.act_entry name ClerkAct.Cancel)
    (pick (eqb number 5) (ClerkEntry.act_entry name ClerkAct.Fell)
    (Err OutOfRange)))))

unfoldable pub clerk_act_given : List ℕ → ℕ → ℕ → Result ClerkInput.Input Refusal
clerk_act_given identifier place number = pick (is_identifier identifier) (clerk_act_named (name_given identifier place) number) (Err OutOfRange)

-- timers that run out at the clerk's end: 1 T1, 2 T2, 3 T3
unfoldable pub timer_named : Name → ℕ → Result ClerkInput.Input Refusal
timer_named name number =
    pick (eqb number 1) (ClerkEntry.timer_entry name T1)
    (pick (eqb number 2) (ClerkEntry.timer_entry name T2)
    (pick (eqb number 3) (ClerkEntry.timer_entry name T3)
    (Err OutOfRange)))

unfoldable pub timer_given : List ℕ → ℕ → ℕ → Result ClerkInput.Input Refusal
timer_given identifier place number = pick (is_identifier identifier) (timer_named (name_given identifier place) number) (Err OutOfRange)

-- acts at the line's end: 1 alerted, 2 call failed, 3 cancel, 4 the connection fell
unfoldable pub line_act_named : Name → ℕ → Result LineInput.Input Refusal
line_act_named name number =
    pick (eqb number 1) (LineEntry.act_entry name LineAct.Alerted)
    (pick (eqb number 2) (LineEntry.act_entry name LineAct.CallFailed)
    (pick (eqb number 3) (LineEntry.act_entry name LineAct.Cancel)
    (pick (eqb number 4) (LineEntry.act_entry name LineAct.Fell)
    (Err OutOfRange))))

unfoldable pub line_act_given : List ℕ → ℕ → ℕ → Result LineInput.Input Refusal
line_act_given identifier place number = pick (is_identifier identifier) (line_act_named (name_given identifier place) number) (Err OutOfRange)

-- a guard that ran out at the line's end
unfoldable pub guard_given : List ℕ → ℕ → Result LineInput.Input Refusal
guard_given identifier place = pick (is_identifier identifier) (LineEntry.guard_entry (name_given identifier place)) (Err OutOfRange)

-- ---- what else is given
-- a word, 0 no or 1 yes
abbrev pub is_word : ℕ → Bool
is_word number = leb number 1

abbrev pub yes : ℕ → Bool
yes number = eqb number 1

-- a line report: 0 free, 1 busy
unfoldable pub report_given : List ℕ → ℕ → Result LineInput.Input Refusal
report_given digits busy = pick (is_word busy) (LineEntry.report_entry digits (yes busy)) (Err OutOfRange)

-- an ask: kind 1 CCBS or 2 CCNR, can-keep a word, an identifier or none; a service or a preference (0 none, 1 retain, 2 release) that is out of range stays so, and the ask refuses it
unfoldable pub ask_words : List ℕ → ℕ → ℕ → Bool
ask_words identifier kind canKeep = both (both (leb 1 kind) (leb kind 2)) (both (is_word canKeep) (is_identifier identifier))

abbrev pub asking_of : List ℕ → ℕ → List ℕ → List ℕ → ℕ → ℕ → ℕ → Asking
asking_of identifier kind numberA numberB service canKeep preference =
    record {
      identified = is_given identifier;
      identifier = bytes_given identifier;
      kind = kind_of kind;
      numberA = numberA;
      numberB = numberB;
      service = least 16384 service;
      canKeep = yes canKeep;
      preference = least 255 preference;
    }

unfoldable pub ask_given : List ℕ → ℕ → List ℕ → List ℕ → ℕ → ℕ → ℕ → Result ClerkInput.Input Refusal
ask_given identifier kind numberA numberB service canKeep preference =
    pick (ask_words identifier kind canKeep)
    (ClerkEntry.ask_entry (asking_of identifier kind numberA numberB service canKeep preference))
    (Err OutOfRange)

-- bytes at the clerk's end, with the host's word on User A, 0 not busy, 1 busy, and the place that it names
unfoldable pub clerk_bytes_given : List ℕ → ℕ → ℕ → BytesEntry (Result ClerkInput.Input Refusal)
clerk_bytes_given bytes busy place =
    pick (is_word busy) (ClerkEntry.bytes_entry bytes (yes busy) place) (record { entry = Err OutOfRange; next = 0; fault = None })
