-- What a desk holds, as a host is shown it. A place without a record, or without a line, leaves the host's memory as it was.
use Rattle.std.specs.Prelude.{ℕ, List, [], ◌∷◌, get_or, eqb}
use Rattle.lists.specs.Choice.{pick}
use Rattle.lists.specs.Words.{bytes_of, same_words}
use Rattle.terms.specs.Codes.{flag_code}
use Rattle.clerk_table.specs.declared.record.Record as ClerkRecord
use Rattle.clerk_records.specs.Codes as ClerkCodes
use Rattle.clerk_records.specs.Records as ClerkRecords
use Rattle.clerk_records.specs.Deadlines as ClerkDeadlines
use Rattle.clerk_records.specs.declared.deadlines.Deadlines.{Deadlines}
use Rattle.line_table.specs.declared.record.Record as LineRecord
use Rattle.line_table.specs.declared.line.Line.{Line}
use Rattle.line_records.specs.Codes as LineCodes
use Rattle.line_records.specs.Records as LineRecords
use Rattle.line_records.specs.Deadlines.{guards}
use Rattle.line_records.specs.Lines.{lines, no_line}
use Rattle.desk.specs.Sends.{no_number}
use Rattle.host_numbers.specs.Identifiers.{identifier_shown}
use Rattle.host_numbers.specs.Shown.{clerk_numbers, line_numbers, kinds_number}

-- identifier, a length and sixteen bytes, numberA, numberB, the fourteen numbers, and the answer
pub record Shown : Type 0 where
  pub identifier : List ℕ
  pub numberA : List ℕ
  pub numberB : List ℕ
  pub numbers : List ℕ
  pub answer : ℕ

abbrev pub shown : List ℕ → List ℕ → List ℕ → List ℕ → ℕ → Shown
shown identifier numberA numberB numbers answer = record { identifier = identifier; numberA = numberA; numberB = numberB; numbers = numbers; answer = answer }

-- ---- the record at a place; a place whose record has no state has none
abbrev pub clerk_record_shown : ClerkRecord.Record → Deadlines → Shown → Shown
clerk_record_shown r deadlines none =
    pick (eqb (ClerkCodes.state_code r.state) 0) none (shown (identifier_shown r.terms.identifier) (bytes_of r.terms.numberA) (bytes_of r.terms.numberB) (clerk_numbers r deadlines) 0)

unfoldable pub clerk_shown : List ℕ → ℕ → List ℕ → List ℕ → List ℕ → List ℕ → Shown
clerk_shown words place identifier numberA numberB numbers =
    clerk_record_shown (get_or (ClerkRecords.records words) place ClerkRecords.blank) (get_or (ClerkDeadlines.deadlines words) place ClerkDeadlines.no_deadlines)
    (shown identifier numberA numberB numbers 6)

abbrev pub line_record_shown : LineRecord.Record → ℕ → Shown → Shown
line_record_shown r guard none =
    pick (eqb (LineCodes.state_code r.state) 0) none (shown (identifier_shown r.terms.identifier) (bytes_of r.terms.numberA) (bytes_of r.terms.numberB) (line_numbers r guard) 0)

unfoldable pub line_shown : List ℕ → ℕ → List ℕ → List ℕ → List ℕ → List ℕ → Shown
line_shown words place identifier numberA numberB numbers =
    line_record_shown (get_or (LineRecords.records words) place LineRecords.blank) (get_or (guards words) place 0) (shown identifier numberA numberB numbers 6)

-- ---- the line at a place: its number, kinds (1 CCBS + 2 CCNR) and status; a place without a number has none
pub record ShownLine : Type 0 where
  pub number : List ℕ
  pub status : List ℕ
  pub answer : ℕ

abbrev pub shown_line : List ℕ → List ℕ → ℕ → ShownLine
shown_line number status answer = record { number = number; status = status; answer = answer }

abbrev pub line_or_none : Line → ShownLine → ShownLine
line_or_none line none = pick (same_words line.number no_number) none (shown_line (bytes_of line.number) (kinds_number line ∷ flag_code line.busy ∷ []) 0)

unfoldable pub line_at_shown : List ℕ → ℕ → List ℕ → List ℕ → ShownLine
line_at_shown words place number status = line_or_none (get_or (lines words) place no_line) (shown_line number status 10)
