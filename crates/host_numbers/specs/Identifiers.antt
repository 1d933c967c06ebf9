-- An identifier as a host gives it and is shown it, seventeen bytes: how long it is, 16 or 0, and sixteen bytes, which don't count where it is 0.
use Rattle.lists.specs.declared.words.Words.{Words}
use Rattle.std.specs.Prelude.{ℕ, Bool, true, List, ◌∷◌, get_or, drop, replicate, eqb, Option}
use Rattle.lists.specs.Choice.{pick}
use Rattle.lists.specs.Words.{bytes_of}
use Rattle.desk.specs.Letter.{identifier_of, identifier_words, is_identified}
use Rattle.terms.specs.declared.request.Name.{Name}

-- a length that an identifier can have
unfoldable pub is_identifier : List ℕ → Bool
is_identifier given = pick (eqb (get_or given 0 0) 16) true (eqb (get_or given 0 0) 0)

-- there is one
abbrev pub is_given : List ℕ → Bool
is_given given = eqb (get_or given 0 0) 16

-- what stands behind the length
abbrev pub bytes_given : List ℕ → List ℕ
bytes_given given = drop 1 given

-- a request as a host names it: by its identifier, or where it has none by its record's place
abbrev pub name_given : List ℕ → ℕ → Name
name_given given place = record { identifier = identifier_of (is_given given) (bytes_given given); place = place }

-- the length and the bytes; zeros where there is none
unfoldable pub identifier_told : Bool → List ℕ → List ℕ
identifier_told identified bytes = pick identified (16 ∷ bytes) (replicate 17 0)

-- the same of a record's
unfoldable pub identifier_shown : Option Words → List ℕ
identifier_shown identifier = identifier_told (is_identified identifier) (bytes_of (identifier_words identifier))
