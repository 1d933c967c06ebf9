-- What is put is read back: each word stands at its place, and each code stands for what was stored. Where words are put anew from one on, those before it are read as they were.
use Rattle.lists.specs.declared.words.Words.{Words}
use Rattle.std.specs.Prelude.{Option, Some, None}
use Prim.Native.Nat.{ℕ, ◌+◌, ◌≤◌, ◌<◌}
use mathlib.Core.Path.{◌≡◌, refl, sym, ◌∙◌, ap}
use mathlib.Core.List.{List, ◌∷◌, ◌++◌}
use lib.ListN.{length, get_or, take, get_or-append}
use lib.Seq.{get_or-take, get_or-append-add, length-take-le}
use native.Mathlib.Omega.{arith}
use borrow.Author.Tests.{le-leb}
use lib.Dec.{eqb}
use Rattle.lists.specs.Choice.{pick}
use Rattle.lists.specs.Parts.{over}
use Rattle.message.specs.declared.Kind.{Kind}
use Rattle.desk.specs.Letter.{is_identified, identifier_words}
use Rattle.desk.specs.declared.Connection.{Connection}
use Rattle.desk.specs.declared.Keep.{Keep}
use Rattle.terms.specs.Codes.{kind_code, flag_code}
use Rattle.terms.specs.Terms.{width, choices_at, kind_at, terms_of, choice_words, terms_words, terms_at, terms_put, with_choices, with_kind}
use Rattle.terms.specs.declared.Terms.{Terms}
use Rattle.terms.proofs.CodesLaws.{kind-back, keep-back, connection-back}

-- an identifier by its flag and its words
pub identifier-back :
    (k : Option Words) → pick (eqb (flag_code (is_identified k)) 1) (Some (record { low = (identifier_words k).low; high = (identifier_words k).high })) None ≡ k
identifier-back None = refl
identifier-back (Some words) = refl

-- terms and whatever stands behind them
pub terms-back : (t : Terms) (rest : List ℕ) → terms_of (terms_words t ++ rest) ≡ t
unfolding terms_of
terms-back t rest = rw (identifier-back t.identifier, kind-back t.kind, keep-back t.keep, connection-back t.connection)

-- terms read their own words alone
pub terms-front : (n : ℕ) (row : List ℕ) → width ≤ n → terms_of (take n row) ≡ terms_of row
unfolding terms_of
terms-front n row h =
    let same : (k : ℕ) → k < width → get_or (take n row) k 0 ≡ get_or row k 0 = λ k below. get_or-take n row k 0 (omega arith) in
    rw (same 0 (omega arith), same 1 (omega arith), same 2 (omega arith), same 3 (omega arith), same 4 (omega arith), same 5 (omega arith), same 6 (omega arith), same 7 (omega arith), same 8 (omega arith), same 9 (omega arith), same 10 (omega arith))

-- ---- words put anew from one on
module _ (from : ℕ) (row last : List ℕ) (long : from ≤ length row) where
  before : length (take from row) ≡ from
  before = length-take-le from row long

  word-before : (k : ℕ) → k < from → get_or (take from row ++ last) k 0 ≡ get_or row k 0
  word-before k h = get_or-append (take from row) last 0 k (omega (arith, before)) ∙ get_or-take from row k 0 h

  pub word-from : (k : ℕ) → get_or (take from row ++ last) (from + k) 0 ≡ get_or last k 0
  word-from k = ap (λ (n : ℕ). get_or (take from row ++ last) (n + k) 0) (sym before) ∙ get_or-append-add (take from row) last k 0

-- from the choices on, and from the kind on: all else is read as it was
pub terms-chosen :
    (row rest : List ℕ) (keep : Keep) (connection : Connection) (kind : Kind) → choices_at ≤ length row →
    terms_of (take choices_at row ++ (choice_words keep connection kind ++ rest)) ≡ with_kind (with_choices (terms_of row) keep connection) kind
unfolding terms_of
terms-chosen row rest keep connection kind long =
    let last = choice_words keep connection kind ++ rest in
    let same = word-before choices_at row last long in
    let new = word-from choices_at row last long in
    rw (same 0 (omega arith), same 1 (omega arith), same 2 (omega arith), same 3 (omega arith), same 4 (omega arith), same 5 (omega arith), same 6 (omega arith), same 7 (omega arith), new 0, new 1, new 2, keep-back keep, connection-back connection, kind-back kind)

pub terms-kind :
    (row rest : List ℕ) (kind : Kind) → kind_at ≤ length row → terms_of (take kind_at row ++ (kind_code kind ∷ rest)) ≡ with_kind (terms_of row) kind
unfolding terms_of
terms-kind row rest kind long =
    let last = kind_code kind ∷ rest in
    let same = word-before kind_at row last long in
    rw (same 0 (omega arith), same 1 (omega arith), same 2 (omega arith), same 3 (omega arith), same 4 (omega arith), same 5 (omega arith), same 6 (omega arith), same 7 (omega arith), same 8 (omega arith), same 9 (omega arith), word-from kind_at row last long 0, kind-back kind)

-- in words that are long enough
pub terms-at : (row : List ℕ) → width ≤ length row → terms_at row ≡ terms_of row
unfolding terms_at
terms-at row h = rw (le-leb width (length row) h)

pub terms-put : (t : Terms) (row : List ℕ) → width ≤ length row → terms_put t row ≡ over (terms_words t) row
unfolding terms_put
terms-put t row h = rw (le-leb width (length row) h)

-- what is put is read back
pub put_back : (t : Terms) (row : List ℕ) → width ≤ length row → terms_of (terms_put t row) ≡ t
put_back t row h = rw (terms-put t row h) (terms-back t _)
