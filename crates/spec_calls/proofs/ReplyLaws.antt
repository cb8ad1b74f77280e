-- A call that answers was not refused; and its refusals are one, the first of them. Assumes nothing.
use Rattle.std.specs.Prelude.{◌≡◌, refl, List, [], ◌∷◌, ℕ, zero, suc}
use Rattle.std.proofs.Common.{sym, ap, ◌∙◌, arith}
use Rattle.spec_file.specs.Refusals.{Refusal, by_number, or_next, first_of}
use Rattle.spec_file.proofs.RefusalLaws.{NoneRefuses}
use Rattle.spec_calls.specs.Replies.{Reply, refused, answered, unless, reply}

module _ {A : Type 0} where
  -- an answer was not refused
  pub unless-answers : (r : Refusal) (x : Reply A) (a : A) → unless r x ≡ answered a → (r.number ≡ 0) × (x ≡ answered a)
  unless-answers r x a e = by r.number refl e
    where
      by : (f : ℕ) → r.number ≡ f → by_number f (refused r) x ≡ answered a → (r.number ≡ 0) × (x ≡ answered a)
      by zero p q = (p, q)
      by (suc f) p q = absurd (let z : ◌≡◌ {A = ℕ} 0 1 = cc in let y : ⊥ = omega arith in y)

  pub answered-same : (a b : A) → answered a ≡ answered b → a ≡ b
  answered-same a b e = cc

  -- two refusals are the first of them
  pub one-refusal : (r s : Refusal) (a : Reply A) → unless r (unless s a) ≡ unless (or_next r s) a
  one-refusal r s a = by r.number refl
    where
      by : (k : ℕ) → r.number ≡ k → by_number k (refused r) (unless s a) ≡ unless (by_number k r s) a
      by zero e = refl
      by (suc k) e = sym (ap (λ (n : ℕ). by_number n (refused r) a) e)

  -- a reply is the answer exactly where none of them refuses
  pub reply-answers : (rs : List Refusal) (a b : A) → reply rs a ≡ answered b → NoneRefuses rs × (a ≡ b)
  reply-answers [] a b e = (tt, answered-same a b e)
  reply-answers (r ∷ rs) a b e =
      let p = unless-answers r (reply rs a) b e in
      let q = reply-answers rs a b p.1 in
      ((p.0, q.0), q.1)

  pub reply-none : (rs : List Refusal) (a : A) → NoneRefuses rs → reply rs a ≡ answered a
  reply-none [] a n = refl
  reply-none (r ∷ rs) a n = ap (λ (k : ℕ). by_number k (refused r) (reply rs a)) n.0 ∙ reply-none rs a n.1

  -- and else the refusal is the first of them
  pub reply-first : (rs : List Refusal) (a : A) → reply rs a ≡ unless (first_of rs) (answered a)
  reply-first [] a = refl
  reply-first (r ∷ rs) a = ap (unless r) (reply-first rs a) ∙ one-refusal r (first_of rs) (answered a)
