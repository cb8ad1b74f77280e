-- What is handed over of the input is answered as the whole input would be.
use Rattle.std.specs.Prelude.{◌≡◌, List, ℕ, take, IfSome, OnOk, MatchResult, IsErrAnd, None, Some, Ok, Err}
use Rattle.std.proofs.Common.{sym, subst}
use Rattle.std.specs.Io.KnownBytes.{Appends}
use Rattle.std.specs.declared.option.Option.{Option}
use Rattle.std.specs.declared.result.Result.{Result}
use Rattle.spec_calls.specs.Printing.{program_text}
use Rattle.host_input.specs.Held.{Handed, HandsOver}
use Rattle.host_input.specs.HeldLaws.{handed-text}
use Rattle.plan_check.specs.declared.CheckError.{CheckError}
use Rattle.plan_check.specs.declared.CheckError.TheVariants.{Unwritten}
use Rattle.plan_check.specs.Answering.{Answers}

-- n bytes, as what was read says
pub handed : {E : Type 0} (known : Option (List ℕ)) (r : Result ℕ E) (n : ℕ) (buffer : List ℕ)
    → MatchResult r (λ m. ◌≡◌ {A = Result ℕ CheckError} (Ok n) (Ok m)) (λ _. ⊥) → HandsOver known r buffer → IfSome known (λ whole. Handed whole (take n buffer))
handed {E} known (Ok m) n buffer e h = subst (λ (k : ℕ). IfSome known (λ whole. Handed whole (take k buffer))) (cc) h
handed {E} known (Err d) n buffer e h = absurd e

-- the text of them is that of the whole
whole : (known old new : Option (List ℕ)) (n : ℕ) (buffer : List ℕ) → IfSome known (λ bytes. Handed bytes (take n buffer))
    → Appends old new (program_text (take n buffer)) → IfSome known (λ bytes. Appends old new (program_text bytes))
whole None old new n buffer h a = tt
whole (Some bytes) old new n buffer h a = subst (λ (text : List ℕ). Appends old new text) (handed-text bytes (take n buffer) h) a

-- the answer for them, written or not
pub answers : {T E : Type 0} (P : E → CheckError → Type 0) → ((d : E) (e : CheckError) → P d e → e ≡ Unwritten) → (known old new : Option (List ℕ)) (n : ℕ) (buffer : List ℕ)
    (r : Result T E) (out : Result T CheckError)
    → MatchResult r (λ x. out ≡ Ok x) (λ d. IsErrAnd out (P d)) → IfSome known (λ whole. Handed whole (take n buffer))
    → OnOk r (Appends old new (program_text (take n buffer))) → Answers known old new out
answers {T} {E} P u known old new n buffer (Ok x) out e h a =
    subst (λ (o : Result T CheckError). Answers known old new o) (sym e) (whole known old new n buffer h a)
answers {T} {E} P u known old new n buffer (Err d) (Ok x) e h a = absurd e
answers {T} {E} P u known old new n buffer (Err d) (Err f) e h a = subst (λ (g : CheckError). Answers {T = T} known old new (Err g)) (sym (u d f e)) tt
