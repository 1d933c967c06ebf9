-- Pages: what stands on one when something has been put there.
use Rattle.std.specs.Prelude.{ℕ, ◌+◌, ◌-◌, min, List, [], leb, length, take, drop, replicate}
use Rattle.std.proofs.Math.Seq.{paste}
use Rattle.lists.specs.Choice.{pick}
use Rattle.printing.specs.declared.Page.{Page}

-- how many bytes a page has
abbrev pub size : ℕ
size = 1040

unfoldable pub blank_page : Page
blank_page = record { bytes = replicate size 32; at = 0 }

unfoldable pub placed_at : Page → ℕ → Page
placed_at page at = record { bytes = page.bytes; at = at }

-- how many of so many bytes have room from a place on
abbrev pub room_for : ℕ → ℕ → ℕ
room_for at length = min length (size - at)

-- the bytes that have room, at the page's place; the next place is behind them
unfoldable pub text_put : Page → List ℕ → Page
text_put page text = record { bytes = paste page.bytes page.at text (room_for page.at (length text)); at = page.at + room_for page.at (length text) }

-- the bytes from a place up to another; none, where the places are out of order or past the end
unfoldable pub part_of : List ℕ → ℕ → ℕ → List ℕ
part_of bytes start behind = pick (leb behind (length bytes)) (pick (leb start behind) (take (behind - start) (drop start bytes)) []) []
