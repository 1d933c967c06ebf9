-- Every used record of a reached desk can be read: its choices are empty or made, and its marks stand as its state and its connection say.
use Prim.Native.Nat.{ℕ}
use mathlib.Core.Path.{◌≡◌, refl, sym, ap, ◌∙◌}
use mathlib.Core.Bool.{Bool, true, false}
use mathlib.Core.List.{List}
use native.Mathlib.Omega.{arith}
use Rattle.lists.proofs.Choice.{no_true}
use Rattle.desk.specs.declared.Connection.{Connection}
use Rattle.desk.specs.declared.Keep.{Keep}
use Rattle.terms.specs.Terms.{elements_of}
use Rattle.places.specs.Places.{one}
use Rattle.clerk_table.specs.declared.table.State as ClerkStates
use Rattle.clerk_table.specs.declared.table.State.TheVariants as ClerkState
use Rattle.clerk_table.specs.declared.record.Record as ClerkRecord
use Rattle.clerk_table.specs.Table as ClerkTable
use Rattle.clerk_records.specs.Records as ClerkRecords
use Rattle.clerk_sound.specs.Sound as ClerkSound
use Rattle.line_table.specs.Search as LineSearch
use Rattle.line_table.specs.Table as LineTable
use Rattle.line_table.specs.declared.line.Line.{Line}
use Rattle.line_table.specs.declared.table.State as LineStates
use Rattle.line_table.specs.declared.table.State.TheVariants as LineState
use Rattle.line_table.specs.declared.record.Record as LineRecord
use Rattle.line_sound.specs.Sound as LineSound
use Rattle.pair_request.specs.Reading as R
use Rattle.pair.proofs.Ends.{keep_read, conn_read, clerk_state_read, line_state_read, suspended_read, clerk_read, line_read}

-- ---- choices that are made
keep-told : (k : Keep) → (k ≡ Keep.Empty → ⊥) → (b : Bool) × (k ≡ keep_read b)
keep-told Keep.Empty d = absurd (d refl)
keep-told Keep.Ends d = (false, refl)
keep-told Keep.Keeps d = (true, refl)

conn-told : (c : Connection) → (c ≡ Connection.Empty → ⊥) → (n : R.Conn) × (c ≡ conn_read n)
conn-told Connection.Empty d = absurd (d refl)
conn-told Connection.Ret d = (R.ret, refl)
conn-told Connection.Rls d = (R.rls, refl)

not_set : (b : Bool) → (b ≡ true → ⊥) → b ≡ false
not_set true d = absurd (d refl)
not_set false d = refl

-- ---- the clerk's records
module _ (r : ClerkRecord.Record) (whole : ClerkSound.Whole r) where
  abbrev ClerkReads : Type 0
  ClerkReads = (c : R.Clerk) × (one r ≡ clerk_read (elements_of r.terms) c)

  abbrev clerk_data : R.Data
  clerk_data = record { canKeep = r.canKeep }

  clerk-waits : r.state ≡ ClerkState.WaitAck → ClerkReads
  clerk-waits s =
      let empty = whole.before s in
      let up : r.down ≡ false = not_set r.down (λ e. absurd (let q : Connection.Ret ≡ Connection.Empty = sym (whole.fell e) ∙ empty.1 in let z : ◌≡◌ {A = ℕ} 0 1 = cc in omega (arith, z))) in
      let k : r.terms.keep ≡ Keep.Empty = empty.0 in
      let n : r.terms.connection ≡ Connection.Empty = empty.1 in (
        R.waiting clerk_data r.terms.kind,
        λ i. one
            (record {
              terms = record {
                identifier = r.terms.identifier;
                numberA = r.terms.numberA;
                numberB = r.terms.numberB;
                service = r.terms.service;
                kind = r.terms.kind;
                keep = k i;
                connection = n i;
              };
              state = s i;
              canKeep = r.canKeep;
              down = up i;
            }),
      )

  clerk_lives : (x : R.CState) → r.state ≡ clerk_state_read x → (r.state ≡ ClerkState.WaitAck → ⊥) → ClerkReads
  clerk_lives x s d =
      let k = keep-told r.terms.keep (whole.behind d).0 in
      let n = conn-told r.terms.connection (whole.behind d).1 in
      let kept = k.1 in
      let chosen = n.1 in (
        R.live (R.chosen clerk_data k.0 n.0) (R.has r.terms.kind r.down) x,
        λ i. one
            (record {
              terms = record {
                identifier = r.terms.identifier;
                numberA = r.terms.numberA;
                numberB = r.terms.numberB;
                service = r.terms.service;
                kind = r.terms.kind;
                keep = kept i;
                connection = chosen i;
              };
              state = s i;
              canKeep = r.canKeep;
              down = r.down;
            }),
      )

  pub clerk-reads : ClerkRecords.used r ≡ true → ClerkReads
  clerk-reads u = by r.state refl
    where
      by : (s : ClerkStates.State) → r.state ≡ s → ClerkReads
      by ClerkState.Free e = absurd (no_true (ap ClerkTable.in_use (sym e) ∙ u))
      by ClerkState.WaitAck e = clerk-waits e
      by ClerkState.Invoked e = clerk_lives R.invoked e (λ q. let z : ClerkState.Invoked ≡ ClerkState.WaitAck = sym e ∙ q in let y : ◌≡◌ {A = ℕ} 0 1 = cc in omega (arith, y))
      by ClerkState.WaitAnswer e = clerk_lives R.wait_answer e (λ q. let z : ClerkState.WaitAnswer ≡ ClerkState.WaitAck = sym e ∙ q in let y : ◌≡◌ {A = ℕ} 0 1 = cc in omega (arith, y))
      by ClerkState.Ringout e = clerk_lives R.ringing e (λ q. let z : ClerkState.Ringout ≡ ClerkState.WaitAck = sym e ∙ q in let y : ◌≡◌ {A = ℕ} 0 1 = cc in omega (arith, y))
      by ClerkState.Suspended e = clerk_lives R.suspended e (λ q. let z : ClerkState.Suspended ≡ ClerkState.WaitAck = sym e ∙ q in let y : ◌≡◌ {A = ℕ} 0 1 = cc in omega (arith, y))

-- ---- the line's records
module _ (ls : List Line) (r : LineRecord.Record) (whole : LineSound.Whole ls r) where
  abbrev LineReads : Type 0
  LineReads = (l : R.Line) × (one r ≡ line_read (elements_of r.terms) r.active l)

  line-holds : (x : R.LState) → r.state ≡ line_state_read x → r.suspended ≡ suspended_read x → LineReads
  line-holds x s m =
      let k = keep-told r.terms.keep whole.agreed.keep in
      let n = conn-told r.terms.connection whole.agreed.connection in
      let kept = k.1 in
      let chosen = n.1 in
      -- can-keep is no part of a line's record
      let d : R.Data = record { canKeep = true } in (
        R.holds (R.chosen d k.0 n.0) (R.has r.terms.kind r.down) x,
        λ i. one
            (record {
              terms = record {
                identifier = r.terms.identifier;
                numberA = r.terms.numberA;
                numberB = r.terms.numberB;
                service = r.terms.service;
                kind = r.terms.kind;
                keep = kept i;
                connection = chosen i;
              };
              state = s i;
              active = r.active;
              suspended = m i;
              down = r.down;
            }),
      )

  pub line_reads : LineSearch.used r ≡ true → LineReads
  line_reads u = by r.state refl
    where
      by : (s : LineStates.State) → r.state ≡ s → LineReads
      by LineState.Free e = absurd (no_true (ap LineTable.in_use (sym e) ∙ u))
      by LineState.Invoked e =
          line-holds R.idle e (not_set r.suspended (λ t. let z : LineState.Invoked ≡ LineState.Await = sym e ∙ whole.suspension t in let y : ◌≡◌ {A = ℕ} 0 1 = cc in omega (arith, y)))
      by LineState.Await e = line-holds (R.await r.suspended) e refl
      by LineState.Alert e =
          line-holds R.alert e (not_set r.suspended (λ t. let z : LineState.Alert ≡ LineState.Await = sym e ∙ whole.suspension t in let y : ◌≡◌ {A = ℕ} 0 1 = cc in omega (arith, y)))
