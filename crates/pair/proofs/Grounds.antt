-- What the laws of each desk give to a world: a reached desk has its records placed and all its words, a step leaves the requests that it does not name, and a started desk holds nothing.
use mathlib.Core.Path.{◌≡◌}
use lib.ListN.{length}
use Rattle.places.specs.Places as P
use Rattle.clerk_records.specs.Layout as ClerkLayout
use Rattle.clerk_records.specs.Records as ClerkRecords
use Rattle.clerk.specs.declared.Desk as ClerkDesk
use Rattle.clerk_sound.specs.Sound as ClerkSound
use Rattle.clerk_sound.proofs.Reaching as ClerkReaching
use Rattle.line_records.specs.Layout as LineLayout
use Rattle.line_records.specs.Records as LineRecords
use Rattle.line.specs.declared.Desk as LineDesk
use Rattle.line_sound.specs.Sound as LineSound
use Rattle.line_sound.proofs.Reaching as LineReaching

pub clerk-placed : {d : ClerkDesk.Desk} → ClerkSound.Reached d → P.Placed ClerkSound.clerk_view (ClerkRecords.records d.words)
clerk-placed {d} r = (ClerkReaching.reached-sound d r).placed

pub clerk-full : {d : ClerkDesk.Desk} → ClerkSound.Reached d → length d.words ≡ ClerkLayout.words
clerk-full {d} r = ClerkReaching.reached-full d r

pub line-placed : {d : LineDesk.Desk} → LineSound.Reached d → P.Placed LineSound.line_view (LineRecords.records d.words)
line-placed {d} r = (LineReaching.reached-sound d r).placed

pub line-full : {d : LineDesk.Desk} → LineSound.Reached d → length d.words ≡ LineLayout.words
line-full {d} r = (LineReaching.reached-sound d r).full
