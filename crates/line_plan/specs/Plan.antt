-- What each decision makes of the line desk and of the outcome, which tells the place of the record that the step was about; and what each input plans.
use Rattle.std.specs.Prelude.{ℕ, Bool, false, List, get_or, Option, Some, None}
use Rattle.lists.specs.declared.words.Words.{Words}
use Rattle.message.specs.declared.Body.TheVariants.{RequestResult, RequestError}
use Rattle.desk.specs.Outcome.{no_timers, done_with}
use Rattle.desk.specs.Sends.{sent, replied, answered}
use Rattle.terms.specs.Request.{request_terms}
use Rattle.terms.specs.Terms.{elements_of}
use Rattle.terms.specs.declared.request.Names.{Names}
use Rattle.terms.specs.declared.request.Request.{Request}
use Rattle.line_table.specs.Record.{refused_plan}
use Rattle.line_table.specs.Step.{guard, row_taken}
use Rattle.line_table.specs.Inputs.{names_of, keep_chosen, connection_chosen, keep_sent}
use Rattle.line_table.specs.declared.table.State.TheVariants.{Invoked}
use Rattle.line_table.specs.declared.record.Record.{Record}
use Rattle.line_table.specs.declared.record.Decision.{Decision}
use Rattle.line_table.specs.declared.record.Change.TheVariants.{Stay, Put, Report}
use Rattle.desk.specs.declared.plan.Plan.{Plan}
use Rattle.line_table.specs.declared.inputs.Input.{Input}
use Rattle.line_records.specs.Records.{blank, records}
use Rattle.line_records.specs.Lines.{keeps, retains}
use Rattle.line_plan.specs.Decide.{decided}
use Rattle.line_table.specs.declared.record.Change.{Change}

-- ---- a request that is denied, 1 short or 2 long: a completed step that stores nothing
abbrev pub denied_plan : Option Words → ℕ → Plan Change
denied_plan identifier error = record { change = Stay; outcome = done_with (replied identifier (RequestError error)) no_timers no_timers None }

-- ---- a request that is accepted
-- Invoked; the activity mark starts set if the line is busy
abbrev pub new_record : List ℕ → Names → Request → Bool → Record
new_record ws names q busy =
    record {
      terms = request_terms names q (keep_chosen q.flags (keeps ws)) (connection_chosen q.flags (retains ws));
      state = Invoked;
      active = busy;
      suspended = false;
      down = false;
    }

-- the record is put, the result is sent, the guard starts
abbrev pub stored_plan : ℕ → Record → Plan Change
stored_plan i r =
    record {
      change = Put i r;
      outcome = done_with (sent (Some (RequestResult (keep_sent r.terms.keep))) (elements_of r.terms) r.terms.connection) guard no_timers (Some i);
    }

-- ---- a line report: its status is stored, and the marks that busy sets
abbrev pub reported_plan : ℕ → Words → Bool → Plan Change
reported_plan k number busy = record { change = Report k number busy; outcome = done_with None no_timers no_timers None }

-- ---- every decision; a reply has the identifier that the input names, or none
unfoldable pub plan_of : List ℕ → Input → Decision → Plan Change
plan_of ws input (Decision.Refuse refusal reply) = refused_plan refusal (answered (names_of input).identifier reply)
plan_of ws input (Decision.Deny error) = denied_plan (names_of input).identifier error
plan_of ws input (Decision.Take i row) = row_taken i (get_or (records ws) i blank) row
plan_of ws input (Decision.Store i q busy) = stored_plan i (new_record ws (names_of input) q busy)
plan_of ws input (Decision.Report k busy) = reported_plan k (names_of input).numberB busy

-- ---- every input
unfoldable pub plan_for : List ℕ → Input → Plan Change
plan_for ws input = plan_of ws input (decided ws input)
