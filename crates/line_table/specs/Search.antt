-- Which records a search is for (document 01, "Request", "Line report" and "Look at a line").
use Rattle.std.specs.Prelude.{Bool, true, false, not}
use Rattle.lists.specs.Choice.{pick}
use Rattle.lists.specs.Lists.{both}
use Rattle.lists.specs.Words.{same_words}
use Rattle.lists.specs.declared.words.Words.{Words}
use Rattle.message.specs.declared.Kind.{Kind}
use Rattle.message.specs.declared.Kind.TheVariants.{Ccbs, Ccnr}
use Rattle.desk.specs.Letter.{same_identifier}
use Rattle.terms.specs.Means.{given}
use Rattle.terms.specs.declared.request.Names.{Names}
use Rattle.line_table.specs.Table.{in_use}
use Rattle.line_table.specs.declared.table.State.{State}
use Rattle.line_table.specs.declared.table.State.TheVariants.{Free, Invoked, Await, Alert}
use Rattle.line_table.specs.declared.record.Record.{Record}
use Rattle.line_table.specs.declared.search.Sought.{Sought}
use Rattle.line_table.specs.declared.search.Sought.TheVariants.{Blocking, Fitting, Duplicate}

abbrev pub used : Record → Bool
used r = in_use r.state

abbrev pub invoked : State → Bool
invoked Free = false
invoked Invoked = true
invoked Await = false
invoked Alert = false

-- the records of a line
abbrev pub of_line : Words → Record → Bool
of_line number r = both (used r) (same_words r.terms.numberB number)

-- the line's Invoked records
abbrev pub invoked_on : Words → Record → Bool
invoked_on number r = both (invoked r.state) (same_words r.terms.numberB number)

-- ---- a busy report sets the activity mark of that line's Invoked records
abbrev pub marks : Words → Record → Bool
marks number r = invoked_on number r

-- ---- nothing to offer if one of the line's records is in Alert, or in Await without suspended mark
abbrev pub waits : State → Bool → Bool
waits Free suspended = false
waits Invoked suspended = false
waits Await suspended = not suspended
waits Alert suspended = true

abbrev pub blocks : Words → Record → Bool
blocks number r = both (waits r.state r.suspended) (same_words r.terms.numberB number)

-- ---- a record fits if Invoked and CCBS, or Invoked, CCNR and marked active (8.2.1.1, 8.2.1.2, 8.2.1.4)
abbrev pub fits_kind : Kind → Bool → Bool
fits_kind Ccbs active = true
fits_kind Ccnr active = active

abbrev pub fits : Words → Record → Bool
fits number r = both (invoked_on number r) (fits_kind r.terms.kind r.active)

-- ---- a duplicate has the identifier of a live record, where both have one, or both numberA are given and equal and numberB is equal, either kind
abbrev pub same_numbers : Words → Words → Record → Bool
same_numbers numberA numberB r = both (given r.terms.numberA) (both (same_words r.terms.numberA numberA) (same_words r.terms.numberB numberB))

abbrev pub duplicates : Names → Record → Bool
duplicates names r =
    both (used r) (pick (same_identifier r.terms.identifier names.identifier) true (same_numbers names.numberA names.numberB r))

-- ---- what is looked for
abbrev pub passes : Sought → Record → Bool
passes (Blocking number) r = blocks number r
passes (Fitting number) r = fits number r
passes (Duplicate names) r = duplicates names r
