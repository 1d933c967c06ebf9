-- Why a promise of an export allows one content of the host's memory and one answer: each is read off the one record that the promise is about.
use mathlib.Core.Path.{◌≡◌, sym, ◌∙◌, ap}
use mathlib.Core.List.{List}
use Prim.Native.Nat.{ℕ}
use Rattle.host_numbers.specs.Messages.{WriteFace, write_face}
use Rattle.told.specs.Face.{Face, face}
use Rattle.tollherring.specs.Shown.{Shown, shown, ShownLine, shown_line}
use Rattle.tollherring.specs.Messages.{ReadFace, read_face}

-- a step: the desk's words, the buffer, the outcome's numbers, the answer
pub one-face :
    (words words' out out' told told' : List ℕ) (answer answer' : ℕ) {definition : Face} → face words out told answer ≡ definition → face words' out' told' answer' ≡ definition →
    ((words ≡ words') × (out ≡ out')) × ((told ≡ told') × (answer ≡ answer'))
one-face words words' out out' told told' answer answer' p q =
    let same = p ∙ sym q in
    ((ap (λ (f : Face). f.words) same, ap (λ (f : Face). f.out) same), (ap (λ (f : Face). f.told) same, ap (λ (f : Face). f.answer) same))

-- a record that is shown: identifier, the two numbers, the nine numbers, the answer
pub one-shown :
    (i i' a a' b b' n n' : List ℕ) (answer answer' : ℕ) {definition : Shown} → shown i a b n answer ≡ definition → shown i' a' b' n' answer' ≡ definition →
    ((i ≡ i') × (a ≡ a')) × ((b ≡ b') × ((n ≡ n') × (answer ≡ answer')))
one-shown i i' a a' b b' n n' answer answer' p q =
    let same = p ∙ sym q in (
      (ap (λ (s : Shown). s.identifier) same, ap (λ (s : Shown). s.numberA) same),
      (ap (λ (s : Shown). s.numberB) same, (ap (λ (s : Shown). s.numbers) same, ap (λ (s : Shown). s.answer) same)),
    )

-- a line that is shown: its number, its kinds and status, the answer
pub one-shown-line :
    (number number' status status' : List ℕ) (answer answer' : ℕ) {definition : ShownLine} → shown_line number status answer ≡ definition → shown_line number' status' answer' ≡ definition →
    (number ≡ number') × ((status ≡ status') × (answer ≡ answer'))
one-shown-line number number' status status' answer answer' p q =
    let same = p ∙ sym q in
    (ap (λ (s : ShownLine). s.number) same, (ap (λ (s : ShownLine). s.status) same, ap (λ (s : ShownLine). s.answer) same))

-- a message that is read: identifier, the two numbers, the four numbers, how many bytes, the place of a fault, the answer
pub one-read :
    (i i' a a' b b' n n' : List ℕ) (taken taken' fault fault' answer answer' : ℕ) {definition : ReadFace} → read_face i a b n taken fault answer ≡ definition →
    read_face i' a' b' n' taken' fault' answer' ≡ definition →
    ((i ≡ i') × ((a ≡ a') × (b ≡ b'))) × ((n ≡ n') × ((taken ≡ taken') × ((fault ≡ fault') × (answer ≡ answer'))))
one-read i i' a a' b b' n n' taken taken' fault fault' answer answer' p q =
    let same = p ∙ sym q in (
      (ap (λ (r : ReadFace). r.identifier) same, (ap (λ (r : ReadFace). r.numberA) same, ap (λ (r : ReadFace). r.numberB) same)),
      (ap (λ (r : ReadFace). r.numbers) same, (ap (λ (r : ReadFace). r.taken) same, (ap (λ (r : ReadFace). r.fault) same, ap (λ (r : ReadFace). r.answer) same))),
    )

-- a message that is written: the buffer, how many bytes, the answer
pub one_written :
    (out out' : List ℕ) (written written' answer answer' : ℕ) {definition : WriteFace} → write_face out written answer ≡ definition → write_face out' written' answer' ≡ definition →
    (out ≡ out') × ((written ≡ written') × (answer ≡ answer'))
one_written out out' written written' answer answer' p q =
    let same = p ∙ sym q in
    (ap (λ (w : WriteFace). w.out) same, (ap (λ (w : WriteFace). w.written) same, ap (λ (w : WriteFace). w.answer) same))
