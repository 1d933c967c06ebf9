-- The records of a desk at rest: rows of words, `width` words a row, `count` rows at the front of a list of words.
use Rattle.std.specs.Prelude.{ℕ, zero, suc, ◌+◌, ◌-◌, ◌*◌, Bool, true, false, not, List, [], ◌∷◌, ◌++◌, leb, ltb, eqb, length, get_or, take, drop, replicate, Option, None}
use Rattle.lists.specs.Choice.{pick}
use Rattle.lists.specs.Lists.{both, first}
use Rattle.lists.specs.Parts.{over}
use Rattle.lists.specs.declared.words.Words.{Words}
use Rattle.terms.specs.Means.{fits, oldest}
use Rattle.terms.specs.Terms as Terms
use Rattle.terms.specs.declared.means.Means.{Means}
use Rattle.terms.specs.declared.request.Names.{Names}
use Rattle.store.specs.declared.For.{For}
use Rattle.store.specs.declared.For.TheVariants.{Every, State}

-- the word of a row's state stands behind its terms
abbrev pub state_word : List ℕ → ℕ
state_word row = get_or row Terms.width 0

-- a row is live exactly if its state is from 1 to top
unfoldable pub live : ℕ → List ℕ → Bool
live top row = both (ltb 0 (state_word row)) (leb (state_word row) top)

-- otherwise its place is free
unfoldable pub free : ℕ → List ℕ → Bool
free top row = not (live top row)

-- words 1 and 2 are the identifier's, word 0 says that there is one, and the row is live
unfoldable pub has_identifier : ℕ → Words → List ℕ → Bool
has_identifier top identifier row =
    both (eqb (get_or row 1 0) identifier.low) (both (eqb (get_or row 2 0) identifier.high) (both (eqb (get_or row 0 0) 1) (live top row)))

-- the row is live, and its terms fit whom a message names
unfoldable pub fits_row : ℕ → Names → List ℕ → Bool
fits_row top names row = both (live top row) (fits names (Terms.terms_of row))

-- its state is one that a message is for
unfoldable pub is_for : For → List ℕ → Bool
is_for Every row = true
is_for (State word) row = eqb (state_word row) word

-- the rows at the front of the words
unfoldable pub rows : ℕ → ℕ → List ℕ → List (List ℕ)
rows width zero ws = []
rows width (suc count) ws = take width ws ∷ rows width count (drop width ws)

-- the row at place i
abbrev pub row_at : ℕ → List ℕ → ℕ → List ℕ
row_at width ws i = take width (drop (i * width) ws)

-- the words with a row at place i
unfoldable pub put_row : ℕ → List ℕ → ℕ → List ℕ → List ℕ
put_row width ws i row = take (i * width) ws ++ over row (drop (i * width) ws)

-- the words with some of the row at place i put anew, from one of its words on: all others stay
unfoldable pub turn_row : ℕ → List ℕ → ℕ → ℕ → List ℕ → List ℕ
turn_row width ws i from words = take (i * width + from) ws ++ over words (drop (i * width + from) ws)

-- all zeros: the row of every place at the start, and of the last one after a removal
abbrev pub blank_row : ℕ → List ℕ
blank_row width = replicate width 0

-- row i taken out of count rows: the rows before it, the later ones, a blank row; what stands behind the rows stays
unfoldable pub drop_row : ℕ → ℕ → List ℕ → ℕ → List ℕ
drop_row width count ws i =
    take (i * width) ws
    ++ take ((count - (i + 1)) * width) (drop ((i + 1) * width) ws)
    ++ blank_row width
    ++ drop (count * width) ws

-- ---- whether so many rows stand at the front of so many words, each with terms and a state
abbrev pub most : ℕ
most = 65536

unfoldable pub rows_fit : ℕ → ℕ → ℕ → Bool
rows_fit width count words = both (ltb Terms.width width) (both (leb width most) (both (leb count most) (leb (count * width) words)))

-- the first row that passes a test, and a row taken out; where the rows don't fit, none, and nothing changes
unfoldable pub found : (List ℕ → Bool) → ℕ → ℕ → List ℕ → Option ℕ
found test width count ws = pick (rows_fit width count (length ws)) (first test (rows width count ws)) None

-- the oldest row that fits whom a message names and is in a state that it is for
unfoldable pub found_fitting : For → ℕ → Names → ℕ → ℕ → List ℕ → Means
found_fitting states top names width count ws =
    pick (rows_fit width count (length ws)) (oldest (fits_row top names) (is_for states) (rows width count ws)) Means.Nothing

-- whether the row at a place is live; past the last place there is none
unfoldable pub live_at : ℕ → ℕ → ℕ → List ℕ → ℕ → Bool
live_at top width count ws i = pick (rows_fit width count (length ws)) (live top (get_or (rows width count ws) i [])) false

unfoldable pub removed_row : ℕ → ℕ → List ℕ → ℕ → List ℕ
removed_row width count ws i = pick (rows_fit width count (length ws)) (pick (ltb i count) (drop_row width count ws i) ws) ws
