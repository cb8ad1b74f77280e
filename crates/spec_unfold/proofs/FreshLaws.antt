-- The first chain procedure is above each procedure in use; the bytes of rules, and their symbols. Assumes nothing.
use Rattle.std.specs.Prelude.{◌≡◌, refl, Bool, true, false, cond, ℕ, suc, ◌+◌, ◌-◌, ◌≤◌, ◌<◌, max, ltb}
use Rattle.std.proofs.Common.{sym, ap₂, ◌∙◌, subst, inl, inr, le-ltb}
use Rattle.std.proofs.Math.Path.{ap}
use mathlib.Core.List.{List, [], ◌∷◌, ◌++◌, map, map-append}
use native.Mathlib.Omega.{arith}
use Rattle.std.proofs.lemmas.List.{length-map}
use Rattle.spec_basics.specs.Elements.{In}
use Rattle.spec_basics.specs.Lists.{map-in}
use Rattle.spec_language.specs.Grammar.{Symbol, nonterminal, Production}
use Rattle.spec_file.specs.Limits.{terminals}
use Rattle.spec_file.specs.Views.{symbol_by, symbol_of}
use Rattle.spec_unfold.specs.Chains.{RuleOver, chains_for, chain, unfolded, above_body, first_free}
use Rattle.spec_unfold.proofs.ChainLaws.{Fresh, as_productions}
use Rattle.spec_unfold.specs.Unfolding.{spelled, call_byte, above_byte, first_chain}

-- ---- the first free number

module _ {S : Type 0} (above : S → ℕ) where
  body-le : (m : ℕ) (ss : List S) → m ≤ above_body above m ss
  unfolding above_body
  body-le m [] = omega arith
  body-le m (s ∷ ss) = let z = body-le (max m (above s)) ss in omega arith

  body-above : (m : ℕ) (ss : List S) (s : S) → In s ss → above s ≤ above_body above m ss
  unfolding above_body
  body-above m [] s h = absurd h
  body-above m (t ∷ ss) s (inl e) = let z = body-le (max m (above t)) ss in let w = ap above e in omega arith
  body-above m (t ∷ ss) s (inr h) = body-above (max m (above t)) ss s h

  pub free-le : (m : ℕ) (ps : List (RuleOver S)) → m ≤ first_free above m ps
  unfolding first_free
  free-le m [] = omega arith
  free-le m (p ∷ ps) = let z = free-le (above_body above (max m (suc p.head)) p.body) ps in let w = body-le (max m (suc p.head)) p.body in omega arith

  pub free-above : (m : ℕ) (ps : List (RuleOver S)) (p : RuleOver S) → In p ps → (p.head < first_free above m ps) × ((s : S) → In s p.body → above s ≤ first_free above m ps)
  unfolding first_free
  free-above m [] p h = absurd h
  free-above m (q ∷ ps) p (inl e) =
      let n = above_body above (max m (suc q.head)) q.body in
      let z = free-le n ps in
      let w = body-le (max m (suc q.head)) q.body in (
        let v = ap (λ (r : RuleOver S). r.head) e in omega arith,
        λ s k. let v = body-above (max m (suc q.head)) q.body s (subst (λ (r : RuleOver S). In s r.body) e k) in omega arith,
      )
  free-above m (q ∷ ps) p (inr h) = free-above (above_body above (max m (suc q.head)) q.body) ps p h

  -- nothing else raises it
  pub free-most : (top m : ℕ) (ps : List (RuleOver S)) → m ≤ top → ((p : RuleOver S) → In p ps → (p.head < top) × ((s : S) → In s p.body → above s ≤ top)) → first_free above m ps ≤ top
  unfolding first_free above_body
  free-most top m [] h a = h
  free-most top m (p ∷ ps) h a =
      free-most top (above_body above (max m (suc p.head)) p.body) ps (body-most (max m (suc p.head)) p.body (let z = (a p (inl refl)).0 in omega arith) (a p (inl refl)).1) (λ q k. a q (inr k))
    where
      body-most : (m : ℕ) (ss : List S) → m ≤ top → ((s : S) → In s ss → above s ≤ top) → above_body above m ss ≤ top
      body-most m [] h a = h
      body-most m (s ∷ ss) h a = body-most (max m (above s)) ss (let z = a s (inl refl) in omega arith) (λ t k. a t (inr k))

-- ---- symbols and their bytes

pub symbol-call : (x : ℕ) → symbol_of (call_byte x) ≡ nonterminal x
symbol-call x =
    let z : terminals + x - terminals ≡ x = omega arith in
    ap (λ (b : Bool). symbol_by b (terminals + x)) (le-ltb (terminals + x) terminals (omega arith)) ∙ ap nonterminal z

-- the byte of a procedure
pub call-symbol : (b x : ℕ) → nonterminal x ≡ symbol_of b → above_byte b ≡ suc x
call-symbol b x e = by (ltb b terminals) e
  where
    by : (t : Bool) → nonterminal x ≡ symbol_by t b → cond t 0 (suc (b - terminals)) ≡ suc x
    by true e = absurd (let z : ◌≡◌ {A = ℕ} 0 1 = cc in let w : ⊥ = omega arith in w)
    by false e = let z : x ≡ b - terminals = cc in ap suc (sym z)

above-call : (x : ℕ) → above_byte (call_byte x) ≡ suc x
above-call x = call-symbol (call_byte x) x (sym (symbol-call x))

pub call-different : (a b : ℕ) → call_byte a ≡ call_byte b → a ≡ b
call-different a b e = omega arith

-- a rule of bytes, over symbols
abbrev pub symbolic : RuleOver ℕ → RuleOver Symbol
symbolic p = record { head = p.head; body = map symbol_of p.body }

pub spelled-symbolic : (ps : List (RuleOver ℕ)) → map spelled ps ≡ as_productions (map symbolic ps)
spelled-symbolic [] = refl
spelled-symbolic (p ∷ ps) = ap (λ (l : List Production). spelled p ∷ l) (spelled-symbolic ps)

-- every number from the first chain procedure on is free
pub fresh-bytes : (least : ℕ) (ps : List (RuleOver ℕ)) → Fresh call_byte (first_chain least ps) ps
fresh-bytes least ps = record {
  heads = λ p h. (free-above above_byte least ps p h).0;
  symbols = λ p h x k. let z = (free-above above_byte least ps p h).1 (call_byte x) k in let w = above-call x in omega arith;
}

pub fresh-symbols : (least : ℕ) (ps : List (RuleOver ℕ)) → Fresh nonterminal (first_chain least ps) (map symbolic ps)
fresh-symbols least ps = record {
  heads = λ p h. let t = map-in symbolic p ps h in let z = (free-above above_byte least ps t.0 t.1).0 in let w = ap (λ (r : RuleOver Symbol). r.head) t.2 in omega arith;
  symbols = λ p h x k.
      let t = map-in symbolic p ps h in
      let u = map-in symbol_of (nonterminal x) t.0.body (subst (λ (r : RuleOver Symbol). In (nonterminal x) r.body) t.2 k) in
      let z = (free-above above_byte least ps t.0 t.1).1 u.0 u.1 in
      let w = call-symbol u.0 x u.2 in omega arith;
}

-- ---- unfolding goes by bytes as it goes by symbols

chain-symbolic : (x n : ℕ) (body : List ℕ) → map symbolic (chain call_byte x n body) ≡ chain nonterminal x n (map symbol_of body)
unfolding chain
chain-symbolic x n [] = refl
chain-symbolic x n (s ∷ []) = refl
chain-symbolic x n (s ∷ t ∷ []) = refl
chain-symbolic x n (s ∷ t ∷ u ∷ rest) =
    ap₂ (λ (c : Symbol) (l : List (RuleOver Symbol)). record { head = x; body = symbol_of s ∷ c ∷ [] } ∷ l) (symbol-call n) (chain-symbolic n (suc n) (t ∷ u ∷ rest))

pub unfolded-symbolic : (n : ℕ) (ps : List (RuleOver ℕ)) → map symbolic (unfolded call_byte n ps) ≡ unfolded nonterminal n (map symbolic ps)
unfolding unfolded
unfolded-symbolic n [] = refl
unfolded-symbolic n (p ∷ ps) =
    let e : n + chains_for p ≡ n + chains_for (symbolic p) = ap (λ (l : ℕ). n + (l - 2)) (sym (length-map p.body symbol_of)) in
    map-append symbolic (chain call_byte p.head n p.body) (unfolded call_byte (n + chains_for p) ps)
    ∙ ap₂ (λ (a b : List (RuleOver Symbol)). a ++ b) (chain-symbolic p.head n p.body) (unfolded-symbolic (n + chains_for p) ps ∙ ap (λ (m : ℕ). unfolded nonterminal m (map symbolic ps)) e)
