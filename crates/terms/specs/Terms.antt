-- The terms of a request (document 01, "A record has: .."): what both ends agree on, and its words at rest.
use Rattle.lists.specs.declared.words.Words.{Words}
use Rattle.std.specs.Prelude.{ℕ, List, [], ◌∷◌, length, get_or, leb, eqb, Option, Some, None}
use Rattle.lists.specs.Choice.{pick}
use Rattle.lists.specs.Parts.{over}
use Rattle.message.specs.declared.Kind.{Kind}
use Rattle.desk.specs.Letter.{is_identified, identifier_words}
use Rattle.desk.specs.declared.Connection.{Connection}
use Rattle.desk.specs.declared.Keep.{Keep}
use Rattle.desk.specs.declared.sends.Elements.{Elements}
use Rattle.terms.specs.Codes.{kind_of, kind_code, keep_of, keep_code, connection_of, connection_code, flag_code}
use Rattle.terms.specs.declared.Terms.{Terms}

-- how many words the terms take; in a record's words the state stands behind them
abbrev pub width : ℕ
width = 11

-- the first word of the two choices: no step changes what stands before it
abbrev pub choices_at : ℕ
choices_at = 8

-- the word of the kind: at the line's end no step changes what stands before it
abbrev pub kind_at : ℕ
kind_at = 10

-- words as terms; there is an identifier exactly if the first word is 1
abbrev pub identifier_in : List ℕ → Option Words
identifier_in row = pick (eqb (get_or row 0 0) 1) (Some (record { low = get_or row 1 0; high = get_or row 2 0 })) None

unfoldable pub terms_of : List ℕ → Terms
terms_of row =
    record {
      identifier = identifier_in row;
      numberA = record { low = get_or row 3 0; high = get_or row 4 0 };
      numberB = record { low = get_or row 5 0; high = get_or row 6 0 };
      service = get_or row 7 0;
      kind = kind_of (get_or row 10 0);
      keep = keep_of (get_or row 8 0);
      connection = connection_of (get_or row 9 0);
    }

-- terms as words; what steps change, the two choices and the kind, stands last
abbrev pub choice_words : Keep → Connection → Kind → List ℕ
choice_words keep connection kind = keep_code keep ∷ connection_code connection ∷ kind_code kind ∷ []

abbrev pub terms_words : Terms → List ℕ
terms_words t =
    flag_code (is_identified t.identifier) ∷ (identifier_words t.identifier).low ∷ (identifier_words t.identifier).high ∷
    t.numberA.low ∷ t.numberA.high ∷ t.numberB.low ∷ t.numberB.high ∷
    t.service ∷ choice_words t.keep t.connection t.kind

-- what a free place has
abbrev pub no_terms : Terms
no_terms = terms_of []

-- the terms at the front of some words, and terms put there; too few words have none, and stay as they are
unfoldable pub terms_at : List ℕ → Terms
terms_at row = pick (leb width (length row)) (terms_of row) no_terms

unfoldable pub terms_put : Terms → List ℕ → List ℕ
terms_put t row = pick (leb width (length row)) (over (terms_words t) row) row

-- with the two choices
abbrev pub with_choices : Terms → Keep → Connection → Terms
with_choices t keep connection =
    record {
      identifier = t.identifier;
      numberA = t.numberA;
      numberB = t.numberB;
      service = t.service;
      kind = t.kind;
      keep = keep;
      connection = connection;
    }

-- with the kind
abbrev pub with_kind : Terms → Kind → Terms
with_kind t kind =
    record {
      identifier = t.identifier;
      numberA = t.numberA;
      numberB = t.numberB;
      service = t.service;
      kind = kind;
      keep = t.keep;
      connection = t.connection;
    }

-- the kind as a row of a table leaves it
abbrev pub kind_after : Option Kind → Kind → Kind
kind_after None kind = kind
kind_after (Some new) kind = new

-- what a record with these terms gives the messages that it sends
abbrev pub elements_of : Terms → Elements
elements_of t = record { identifier = t.identifier; numberA = t.numberA; numberB = t.numberB; service = t.service }
