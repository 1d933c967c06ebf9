-- Wires for one request: its messages among those of all.
use Rattle.lists.specs.declared.words.Words.{Words}
use Rattle.desk.specs.declared.letter.Letter.{Letter}
use Rattle.std.specs.Prelude.{Option}
use Prim.Native.Nat.{ℕ, zero, suc}
use mathlib.Core.Path.{◌≡◌, refl, sym, ◌∙◌, ap, subst}
use mathlib.Core.Logic.{◌⊎◌, inl, inr}
use mathlib.Core.List.{List, [], ◌∷◌, ◌++◌, map}
use lib.ListN.{take, drop}
use native.Mathlib.Omega.{arith}
use Rattle.desk.specs.declared.sends.Elements.{Elements}
use Rattle.message.specs.declared.Message.{Message}
use Rattle.pair_request.specs.Reading.{Msg, left_out}
use Rattle.pair_request.specs.Listed.{NoReq}
use Rattle.pair.specs.World.{Of, from, Naming, dropped, label_of, messages_of, sent_by, lost_at}
use Rattle.pair.specs.Demand3.{Heads}
use Rattle.pair.proofs.Keys.{Tells, key?, key-same, key_differs}
use Rattle.pair.proofs.Sits.{label}
use Rattle.pair.proofs.Ends.{message_read, Clear, KeptName, Kept}
use Rattle.pair.proofs.Letters.{clear-name, clear-plain, sent-name}

-- ---- lists
map-append : {A B : Type 0} (f : A → B) (xs ys : List A) → map f (xs ++ ys) ≡ map f xs ++ map f ys
map-append f [] ys = refl
map-append f (x ∷ xs) ys = ap (λ zs. f x ∷ zs) (map-append f xs ys)

pub append_none : {A : Type 0} (xs : List A) → xs ++ [] ≡ xs
append_none [] = refl
append_none (x ∷ xs) = ap (λ zs. x ∷ zs) (append_none xs)

-- ---- a message of a request, as it is sent
abbrev pub worded : Of Elements → Msg → Of Message
worded l m = from l.origin (message_read l.it m)

pub worded-label : (l : Of Elements) (m : Msg) → KeptName l.it.identifier → label_of (worded l m) ≡ label l
worded-label l m kept = ap (from l.origin) (sent-name l.it m kept)

-- what a step sends, with an origin
pub sent-worded :
    (l : Of Elements) (sending : Option Letter) (ms : List Msg) → sent_by sending ≡ map (message_read l.it) ms → map (from l.origin) (sent_by sending) ≡ map (worded l) ms
sent-worded l sending ms e = ap (map (from l.origin)) e ∙ again ms
  where
    again : (xs : List Msg) → map (from l.origin) (map (message_read l.it) xs) ≡ map (worded l) xs
    again [] = refl
    again (x ∷ xs) = ap (λ zs. worded l x ∷ zs) (again xs)

-- ---- messages as they were sent
pub data AllClear (j : Elements) : List Msg → Type 0 where
  no-message : AllClear j []
  one_more : {m : Msg} {ms : List Msg} → Clear j m → AllClear j ms → AllClear j (m ∷ ms)

pub clear_append : {j : Elements} {ms ns : List Msg} → AllClear j ms → AllClear j ns → AllClear j (ms ++ ns)
clear_append no-message k = k
clear_append (one_more c h) k = one_more c (clear_append h k)

pub plain-clear : (j : Elements) (ms : List Msg) → NoReq ms → Kept j → AllClear j ms
plain-clear j [] h k = no-message
plain-clear j (m ∷ ms) h k = one_more (clear-plain j m h.0 k) (plain-clear j ms h.1 k)

-- the head of a wire is the head of its request's net
pub record Headed {K : Type 0} (n : Naming K) (k : K) (j : Elements) (x : Of Message) (rest : List (Of Message)) (ms : List Msg) : Type 0 where
  pub code : Msg
  pub left : List Msg
  pub whole : ms ≡ code ∷ left
  pub same : x.it ≡ message_read j code
  pub tail : messages_of n k rest ≡ map (message_read j) left
  pub clear : Clear j code
  pub others : AllClear j left

abbrev first : {A : Type 0} → A → List A → A
first a [] = a
first a (x ∷ xs) = x

abbrev later : {A : Type 0} → List A → List A
later [] = []
later (x ∷ xs) = xs

-- a wire on which every message is as some desk sent it, and every label is of a kind
pub data Worded (P : Of Elements → Type 0) : List (Of Message) → Type 0 where
  quiet : Worded P []
  word : (l : Of Elements) (m : Msg) {xs : List (Of Message)} → P l → Clear l.it m → Worded P xs → Worded P (worded l m ∷ xs)

pub worded_append : {P : Of Elements → Type 0} {xs ys : List (Of Message)} → Worded P xs → Worded P ys → Worded P (xs ++ ys)
worded_append quiet k = k
worded_append (word l m p c h) k = word l m p c (worded_append h k)

pub worded-sent : {P : Of Elements → Type 0} (l : Of Elements) {ms : List Msg} → P l → AllClear l.it ms → Worded P (map (worded l) ms)
worded-sent l p no-message = quiet
worded-sent l p (one_more {m} c h) = word l m p c (worded-sent l p h)

pub worded-more : {P Q : Of Elements → Type 0} {xs : List (Of Message)} → ((l : Of Elements) → P l → Q l) → Worded P xs → Worded Q xs
worded-more f quiet = quiet
worded-more f (word l m p c h) = word l m (f l p) c (worded-more f h)

abbrev pub without : ℕ → List (Of Message) → List (Of Message)
without i xs = take i xs ++ drop (suc i) xs

pub worded-without : {P : Of Elements → Type 0} (i : ℕ) {xs : List (Of Message)} → Worded P xs → Worded P (without i xs)
worded-without zero quiet = quiet
worded-without (suc i) quiet = quiet
worded-without zero (word l m p c h) = h
worded-without (suc i) (word l m p c h) = word l m p c (worded-without i h)

-- ---- the messages of a request
module _ {K : Type 0} {n : Naming K} (tells : Tells n) (k : K) where
  pub messages_hit : (x : Of Message) (xs : List (Of Message)) → n.key (label_of x) ≡ k → messages_of n k (x ∷ xs) ≡ x.it ∷ messages_of n k xs
  unfolding messages_of
  messages_hit x xs e = rw (key-same tells (n.key (label_of x)) k e)

  pub messages_miss : (x : Of Message) (xs : List (Of Message)) → (n.key (label_of x) ≡ k → ⊥) → messages_of n k (x ∷ xs) ≡ messages_of n k xs
  unfolding messages_of
  messages_miss x xs h = rw (key_differs tells (n.key (label_of x)) k h)

  -- a message in front, whose request it is or is not
  under : (x : Of Message) (left xs : List (Of Message)) → messages_of n k left ≡ messages_of n k xs → messages_of n k (x ∷ left) ≡ messages_of n k (x ∷ xs)
  under x left xs e = go (key? tells (n.key (label_of x)) k)
    where
      go : (n.key (label_of x) ≡ k) ⊎ (n.key (label_of x) ≡ k → ⊥) → messages_of n k (x ∷ left) ≡ messages_of n k (x ∷ xs)
      go (inl h) = messages_hit x left h ∙ ap (λ zs. x.it ∷ zs) e ∙ sym (messages_hit x xs h)
      go (inr h) = messages_miss x left h ∙ e ∙ sym (messages_miss x xs h)

  pub messages_append : (xs ys : List (Of Message)) → messages_of n k (xs ++ ys) ≡ messages_of n k xs ++ messages_of n k ys
  unfolding messages_of
  messages_append [] ys = refl
  messages_append (x ∷ xs) ys = go (key? tells (n.key (label_of x)) k) (messages_append xs ys)
    where
      go :
          (n.key (label_of x) ≡ k) ⊎ (n.key (label_of x) ≡ k → ⊥) → messages_of n k (xs ++ ys) ≡ messages_of n k xs ++ messages_of n k ys →
          messages_of n k (x ∷ (xs ++ ys)) ≡ messages_of n k (x ∷ xs) ++ messages_of n k ys
      go (inl e) rest = rw (messages_hit x (xs ++ ys) e, messages_hit x xs e, rest)
      go (inr h) rest = rw (messages_miss x (xs ++ ys) h, messages_miss x xs h, rest)

  messages-own : (l : Of Elements) (ms : List Msg) → n.key (label l) ≡ k → AllClear l.it ms → messages_of n k (map (worded l) ms) ≡ map (message_read l.it) ms
  unfolding messages_of
  messages-own l [] e no-message = refl
  messages-own l (m ∷ ms) e (one_more c h) =
      messages_hit (worded l m) (map (worded l) ms) (ap n.key (worded-label l m (clear-name l.it m c)) ∙ e)
      ∙ ap (λ x. message_read l.it m ∷ x) (messages-own l ms e h)

  messages-other : (l : Of Elements) (ms : List Msg) → (n.key (label l) ≡ k → ⊥) → AllClear l.it ms → messages_of n k (map (worded l) ms) ≡ []
  unfolding messages_of
  messages-other l [] d no-message = refl
  messages-other l (m ∷ ms) d (one_more c h) =
      messages_miss (worded l m) (map (worded l) ms) (λ e. d (sym (ap n.key (worded-label l m (clear-name l.it m c))) ∙ e)) ∙ messages-other l ms d h

  -- a wire to which the request's own messages were added, and one to which another's were
  pub wire-own :
      (l : Of Elements) (xs sent : List (Of Message)) (before added : List Msg) → n.key (label l) ≡ k → messages_of n k xs ≡ map (message_read l.it) before →
      sent ≡ map (worded l) added → AllClear l.it added → messages_of n k (xs ++ sent) ≡ map (message_read l.it) (before ++ added)
  wire-own l xs sent before added own e s c =
      messages_append xs sent
      ∙ ap (λ x. x ++ messages_of n k sent) e
      ∙ ap (λ x. map (message_read l.it) before ++ x) (ap (messages_of n k) s ∙ messages-own l added own c)
      ∙ sym (map-append (message_read l.it) before added)

  pub wire-other :
      (l : Of Elements) (xs sent : List (Of Message)) (added : List Msg) → (n.key (label l) ≡ k → ⊥) → sent ≡ map (worded l) added → AllClear l.it added →
      messages_of n k (xs ++ sent) ≡ messages_of n k xs
  wire-other l xs sent added d s c =
      messages_append xs sent ∙ ap (λ x. messages_of n k xs ++ x) (ap (messages_of n k) s ∙ messages-other l added d c) ∙ append_none (messages_of n k xs)

  -- ---- the head of a wire
  headed : (j : Elements) (x : Of Message) (rest : List (Of Message)) (ms : List Msg) → AllClear j ms → x.it ∷ messages_of n k rest ≡ map (message_read j) ms → Headed n k j x rest ms
  headed j x rest [] no-message e = let z : ◌≡◌ {A = ℕ} 0 1 = cc in absurd (omega (arith, z))
  headed j x rest (c ∷ cs) (one_more h s) e =
      record { code = c; left = cs; whole = refl; same = ap (first x.it) e; tail = ap later e; clear = h; others = s }

  pub head-own :
      {j : Elements} {x : Of Message} {rest wire : List (Of Message)} {ms : List Msg} → wire ≡ x ∷ rest → n.key (label_of x) ≡ k → AllClear j ms →
      messages_of n k wire ≡ map (message_read j) ms → Headed n k j x rest ms
  head-own {j} {x} {rest} {wire} {ms} e own c h = headed j x rest ms c (sym (messages_hit x rest own) ∙ ap (messages_of n k) (sym e) ∙ h)

  -- the messages of every other request are behind it
  pub head-other : {x : Of Message} {rest wire : List (Of Message)} → wire ≡ x ∷ rest → (n.key (label_of x) ≡ k → ⊥) → messages_of n k rest ≡ messages_of n k wire
  head-other {x} {rest} {wire} e d = sym (messages_miss x rest d) ∙ ap (messages_of n k) (sym e)

  -- ---- a message left out of a wire: of its request's messages one is, of every other's none; or there was no message at that place
  abbrev pub Lost : Elements → List (Of Message) → List Msg → Type 0
  Lost j xs cs = (i : ℕ) × ((messages_of n k xs ≡ map (message_read j) (left_out i cs)) × AllClear j (left_out i cs))

  pub data LeftOut (i : ℕ) (xs : List (Of Message)) : Type 0 where
    nothing-lost : without i xs ≡ xs → lost_at i xs ≡ [] → LeftOut i xs
    other-lost : (l : Of (Option Words)) → lost_at i xs ≡ dropped l ∷ [] → (n.key l ≡ k → ⊥) → messages_of n k (without i xs) ≡ messages_of n k xs → LeftOut i xs
    one-lost :
        (l : Of (Option Words)) → lost_at i xs ≡ dropped l ∷ [] → n.key l ≡ k → Heads n (drop i xs) k →
        ((j : Elements) (cs : List Msg) → AllClear j cs → messages_of n k xs ≡ map (message_read j) cs → Lost j (without i xs) cs) → LeftOut i xs

  first-lost : {j : Elements} {x : Of Message} {rest : List (Of Message)} {cs : List Msg} → Headed n k j x rest cs → Lost j rest cs
  unfolding left_out
  first-lost {j} {rest = rest} h = subst (Lost j rest) (sym h.whole) (0, (h.tail, h.others))

  later-lost :
      {j : Elements} {x : Of Message} {rest : List (Of Message)} {cs : List Msg} (left : List (Of Message)) (h : Headed n k j x rest cs) → n.key (label_of x) ≡ k →
      Lost j left h.left → Lost j (x ∷ left) cs
  unfolding left_out
  later-lost {j} {x} left h own lost =
      subst (Lost j (x ∷ left)) (sym h.whole)
      (suc lost.0, (messages_hit x left own ∙ ap (λ y. y ∷ messages_of n k left) h.same ∙ ap (λ ys. message_read j h.code ∷ ys) lost.1.0, one_more h.clear lost.1.1))

  pub left_out_lem : (i : ℕ) (xs : List (Of Message)) → LeftOut i xs
  left_out_lem zero [] = nothing-lost refl refl
  left_out_lem (suc i) [] = nothing-lost refl refl
  left_out_lem zero (x ∷ xs) = go (key? tells (n.key (label_of x)) k)
    where
      go : (n.key (label_of x) ≡ k) ⊎ (n.key (label_of x) ≡ k → ⊥) → LeftOut zero (x ∷ xs)
      go (inl e) = one-lost (label_of x) refl e e (λ j cs own h. first-lost (head-own refl e own h))
      go (inr d) = other-lost (label_of x) refl d (sym (messages_miss x xs d))
  left_out_lem (suc i) (x ∷ xs) = go (left_out_lem i xs)
    where
      go : LeftOut i xs → LeftOut (suc i) (x ∷ xs)
      go (nothing-lost e s) = nothing-lost (ap (λ zs. x ∷ zs) e) s
      go (other-lost l s d e) = other-lost l s d (under x (without i xs) xs e)
      go (one-lost l s own head lost) = one-lost l s own head (λ j cs all e. by j cs all e (key? tells (n.key (label_of x)) k))
        where
          by :
              (j : Elements) (cs : List Msg) → AllClear j cs → messages_of n k (x ∷ xs) ≡ map (message_read j) cs →
              (n.key (label_of x) ≡ k) ⊎ (n.key (label_of x) ≡ k → ⊥) → Lost j (x ∷ without i xs) cs
          by j cs all e (inl its) = let h = head-own refl its all e in later-lost (without i xs) h its (lost j h.left h.others h.tail)
          by j cs all e (inr d) =
              let m = lost j cs all (sym (messages_miss x xs d) ∙ e) in
              (m.0, (messages_miss x (without i xs) d ∙ m.1.0, m.1.1))
