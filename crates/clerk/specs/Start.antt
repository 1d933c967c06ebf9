-- The clerk's desk started with the lengths of its timers, in seconds (document 02, Ask 6).
use Rattle.std.specs.Prelude.{ℕ, Bool, [], ◌∷◌, ◌++◌, replicate, leb, None}
use Rattle.lists.specs.Choice.{pick}
use Rattle.lists.specs.Lists.{both}
use Rattle.message.specs.declared.refusal.Refusal.TheVariants.{OutOfRange}
use Rattle.desk.specs.Outcome.{no_timers, done_with, refused_with}
use Rattle.clerk_records.specs.Layout as Layout
use Rattle.clerk.specs.declared.Desk.{Desk}
use Rattle.clerk.specs.declared.start.Lengths.{Lengths}
use Rattle.desk.specs.declared.outcome.Stepped.{Stepped}

abbrev pub from : ℕ → ℕ → ℕ → Bool
from least most seconds = both (leb least seconds) (leb seconds most)

-- T2 by the kind
unfoldable pub good_lengths : Lengths → Bool
good_lengths l = both (from 1 3600 l.t1) (both (from 60 3600 l.t2Ccbs) (both (from 60 86400 l.t2Ccnr) (from 10 30 l.t3)))

-- no record at all, and the lengths behind
abbrev pub started_desk : Lengths → Desk
started_desk l = record { words = replicate Layout.lengths_at 0 ++ (l.t1 ∷ l.t2Ccbs ∷ l.t2Ccnr ∷ l.t3 ∷ []) }

-- 2 for a length out of range: no desk is made, and the answer has one without lengths
unfoldable pub started : Lengths → Stepped Desk
started l =
    pick (good_lengths l)
    (record { desk = started_desk l; outcome = done_with None no_timers no_timers None })
    (record { desk = record { words = replicate Layout.words 0 }; outcome = refused_with OutOfRange None })
