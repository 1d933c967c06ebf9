-- What the reader's answer tells of the reading behind it: by the two cases of a reading.
use Rattle.std.specs.Prelude.{Result, Ok, Err}
use Prim.Native.Nat.{ℕ}
use mathlib.Core.Path.{◌≡◌, sym, ◌∙◌, ap}
use Rattle.message.specs.Reading.{Read, took, refused}
use Rattle.message.specs.declared.Fault.{Fault}
use Rattle.message.specs.declared.Message.{Message}
use Rattle.reader.specs.Answers.{read_answer}
use Rattle.reader.specs.declared.Answer.{Answer}

pub answer-taken : (a : Answer) (r : Read Message) (n : ℕ) → a ≡ read_answer r → a.verdict ≡ Ok n → r ≡ took a.message n
answer-taken a (Ok (m, k)) n e h =
    let v : ◌≡◌ {A = Result ℕ Fault} (Ok k) (Ok n) = sym (ap (λ (x : Answer). x.verdict) e) ∙ h in
    let q : k ≡ n = cc in
    rw (q, e)
answer-taken a (Err x) n e h =
    let v : ◌≡◌ {A = Result ℕ Fault} (Err x) (Ok n) = sym (ap (λ (y : Answer). y.verdict) e) ∙ h in
    absurd cc

pub answer-refused : (a : Answer) (r : Read Message) (x : Fault) → a ≡ read_answer r → a.verdict ≡ Err x → r ≡ refused x
answer-refused a (Ok (m, k)) x e h =
    let v : ◌≡◌ {A = Result ℕ Fault} (Ok k) (Err x) = sym (ap (λ (y : Answer). y.verdict) e) ∙ h in
    absurd cc
answer-refused a (Err y) x e h =
    let v : ◌≡◌ {A = Result ℕ Fault} (Err y) (Err x) = sym (ap (λ (z : Answer). z.verdict) e) ∙ h in
    cc
