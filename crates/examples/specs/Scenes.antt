-- What comes before each of document 01's examples 6 to 12: the desks are started, and every step is taken by the operations themselves. No example waits for a timer: every step is at
-- one count of seconds, and the clerk's desk has the lengths that a replay begins with.
use Rattle.std.specs.Prelude.{ℕ, zero, suc, ◌+◌, ◌/◌, ◌%◌, Bool, true, false, List, [], ◌∷◌, ◌++◌, replicate, None}
use Rattle.message.specs.Number.{sixteen}
use Rattle.message.specs.Format.{request_body}
use Rattle.message.specs.declared.Carrier.{Carrier}
use Rattle.message.specs.declared.Carrier.TheVariants.{Setup, Connect, Facility, ReleaseComplete}
use Rattle.message.specs.declared.Kind.{Kind}
use Rattle.message.specs.declared.Kind.TheVariants.{Ccbs, Ccnr}
use Rattle.message.specs.declared.Body.{Body}
use Rattle.message.specs.declared.Body.TheVariants.{RequestResult, CcExecPossible, RingoutError}
use Rattle.message.specs.declared.Message.{Message}
use Rattle.desk.specs.Letter.{identifier_of}
use Rattle.desk.specs.declared.outcome.Stepped.{Stepped}
use Rattle.terms.specs.declared.request.Name.{Name}
use Rattle.clerk_table.specs.declared.table.Timer.TheVariants.{T3}
use Rattle.clerk_table.specs.declared.inputs.Act.TheVariants.{Accept}
use Rattle.clerk.specs.Start as ClerkStart
use Rattle.clerk.specs.Steps as Clerk
use Rattle.clerk.specs.declared.Desk as ClerkDesk
use Rattle.clerk.specs.declared.entry.Asking.{Asking}
use Rattle.clerk.specs.declared.start.Lengths.{Lengths}
use Rattle.line.specs.Start as LineStart
use Rattle.line.specs.Steps as Line
use Rattle.line.specs.declared.Desk as LineDesk

-- ---- the count of seconds, and the lengths of the clerk's timers
abbrev pub count : ℕ
count = 0

abbrev pub lengths : Lengths
lengths = record { t1 = 20; t2Ccbs = 900; t2Ccnr = 3600; t3 = 20 }

-- ---- identifiers, numbers and messages
abbrev pub identifier : ℕ → List ℕ
identifier k = k ∷ replicate 15 0

-- the number of one digit, and that of two
abbrev pub one_digit : ℕ → List ℕ
one_digit digit = sixteen (1 ∷ digit ∷ [])

abbrev pub two_digits : ℕ → List ℕ
two_digits digits = sixteen (2 ∷ digits / 10 ∷ digits % 10 ∷ [])

abbrev pub request : Kind → ℕ → List ℕ → List ℕ → ℕ → Message
request kind k numberA numberB flags =
    record {
      carrier = Setup;
      identified = true;
      identifier = identifier k;
      numberA = numberA;
      numberB = numberB;
      service = None;
      body = request_body kind 0 flags;
    }

abbrev pub plain : Carrier → ℕ → Body → Message
plain carrier k body =
    record {
      carrier = carrier;
      identified = true;
      identifier = identifier k;
      numberA = replicate 16 0;
      numberB = replicate 16 0;
      service = None;
      body = body;
    }

-- a request by its identifier; the place is not looked at
abbrev pub named : ℕ → Name
named k = record { identifier = identifier_of true (identifier k); place = 0 }

-- ---- the line desk: it keeps and defaults to release; its lines allow both kinds
abbrev pub line_given : ℕ → List ℕ
line_given digit = one_digit digit ++ (3 ∷ [])

abbrev pub one_line : LineDesk.Desk
one_line = (LineStart.started (line_given 1) true false).desk

-- 6: line 1 is reported busy; then a CCBS request, can-keep (1) and no preference (0): flags 1
abbrev pub busy_line : LineDesk.Desk
busy_line = (Line.line_reported one_line count (one_digit 1) true).desk

abbrev pub accepted : Stepped LineDesk.Desk
accepted = Line.received busy_line count (request Ccbs 1 (two_digits 20) (one_digit 1) 1) 0

-- 7: the same two numbers with the identifier 2
abbrev pub again : Stepped LineDesk.Desk
again = Line.received accepted.desk count (request Ccbs 2 (two_digits 20) (one_digit 1) 1) 0

-- 8: seven lines; so many requests, one after the other, five for each line: identifier and numberA of each are its own
abbrev pub seven_lines : LineDesk.Desk
seven_lines =
    (LineStart.started (line_given 1 ++ (line_given 2 ++ (line_given 3 ++ (line_given 4 ++ (line_given 5 ++ (line_given 6 ++ line_given 7)))))) true false).desk

abbrev pub filled : ℕ → LineDesk.Desk
filled zero = seven_lines
filled (suc n) = (Line.received (filled n) count (request Ccbs n (two_digits n) (one_digit (1 + n / 5)) 1) 0).desk

-- line 9 is not there
abbrev pub unknown : Stepped LineDesk.Desk
unknown = Line.received (filled 32) count (request Ccbs 32 (two_digits 32) (one_digit 9) 1) 0

-- 9: a CCNR request on the free line 1, and a Look; then busy, free, and a Look
abbrev pub no_reply : LineDesk.Desk
no_reply = (Line.received one_line count (request Ccnr 1 (two_digits 20) (one_digit 1) 1) 0).desk

abbrev pub looked_before : Stepped LineDesk.Desk
looked_before = Line.looked no_reply count (one_digit 1)

abbrev pub busy_then_free : LineDesk.Desk
busy_then_free = (Line.line_reported (Line.line_reported looked_before.desk count (one_digit 1) true).desk count (one_digit 1) false).desk

abbrev pub looked_after : Stepped LineDesk.Desk
looked_after = Line.looked busy_then_free count (one_digit 1)

-- ---- the clerk's desk: an ask with can-keep and no preference, its result in Connect: RET, with keep 1 or 0
abbrev pub asking : Asking
asking =
    record {
      identified = true;
      identifier = identifier 1;
      kind = Ccbs;
      numberA = two_digits 20;
      numberB = one_digit 1;
      service = 0;
      canKeep = true;
      preference = 0;
    }

abbrev pub invoked : ℕ → ClerkDesk.Desk
invoked keep = (Clerk.received (Clerk.asked (ClerkStart.started lengths).desk count asking).desk count (plain Connect 1 (RequestResult keep)) false 0).desk

-- ccExecPossible in Facility, with the host's word on User A
abbrev pub possible : ℕ → Bool → Stepped ClerkDesk.Desk
possible keep busy = Clerk.received (invoked keep) count (plain Facility 1 CcExecPossible) busy 0

-- 11: not busy, and accepted: Ringout; then remoteUserBusyAgain
abbrev pub ringout : ℕ → ClerkDesk.Desk
ringout keep = (Clerk.acted (possible keep false).desk count (named 1) Accept).desk

abbrev pub busy_again : ℕ → Stepped ClerkDesk.Desk
busy_again keep = Clerk.received (ringout keep) count (plain ReleaseComplete 1 (RingoutError 1)) false 0

-- 12: User A was busy: Suspended; then T3 is reported
abbrev pub timer_three : Stepped ClerkDesk.Desk
timer_three = Clerk.reported (possible 1 true).desk count (named 1) T3
