-- Recognizing agrees with the other calls on the same file: a run that the plan derives is accepted where the check says "holds", and the run
-- that a broken check shows is derived. Assumes nothing.
use Rattle.std.specs.Prelude.{◌≡◌, Bool, false, ◌||◌, List, [], ◌∷◌, ℕ, zero, suc, ◌≤◌, ◌<◌, eqb, leb, ltb, length, get_or}
use Rattle.std.proofs.Math.Path.{refl, ap, subst}
use Rattle.std.proofs.Common.{sym, ap₂, ◌∙◌, inl, inr, arith, le-ltb, ltb-true}
use Rattle.std.proofs.Math.Bool.{true}
use Rattle.std.proofs.lemmas.Bool.{lt-leb}
use Rattle.spec_basics.specs.Elements.{In}
use Rattle.spec_basics.specs.Lists.{in-getD, any_append}
use Rattle.relation.specs.Relation.{states}
use Rattle.relation.specs.Digits.{bit}
use Rattle.spec_language.specs.Grammar.{Symbol, terminal, nonterminal, symbols, Rule, no_rule, initial}
use Rattle.spec_language.specs.Rewriting.{Language}
use Rattle.spec_language.specs.Spelling.{SpellsSymbol, Spells, DerivesWithin}
use Rattle.spec_language.specs.Rewriting.{Language}
use Rattle.spec_language.proofs.Agreement.{language}
use Rattle.spec_language.proofs.RuleLaws.{by-rule}
use Rattle.spec_language.specs.Automaton.{Accepts}
use Rattle.spec_language.specs.WordRelation.{rejected}
use Rattle.spec_file.specs.Limits.{terminals}
use Rattle.spec_file.specs.Entries.{rule_at}
use Rattle.spec_file.specs.Refusals.{fault}
use Rattle.spec_file.specs.Views.{symbol_by, symbol_of, body_by, rules_of, productions_of, automaton_of}
use Rattle.spec_file.proofs.EntryLaws.{rules-length, rule-read}
use Rattle.spec_order.specs.Order.{Answer, holds, broken}
use Rattle.spec_calls.specs.Replies.{answered}
use Rattle.spec_calls.proofs.ReplyLaws.{reply-answers, reply-none}
use Rattle.spec_calls.specs.Checking.{Settings, check_of, shown, shown_head}
use Rattle.spec_calls.specs.DemandThree.{Member}
use Rattle.spec_calls.proofs.Promising.{from-order, promises}
use Rattle.spec_calls.specs.Judging.{Judgement, accepted, turned_away, judgement_by, word_limit, word_fault, judge_refusals, judge_of, JudgementMeans}
use Rattle.spec_calls.proofs.JudgingTruth.{judge-means}
use Rattle.spec_calls.specs.Recognizing.{run_limit, cell, stretch_cells, recognize_refusals, recognize_of, RecognizeMeans}
use Rattle.call_judge.specs.Letters.{strays}
use Rattle.call_member.specs.RecognizeLaws.{short-enough, that-size}

-- ---- what a file derives has step codes alone

-- the terminals of the list are step codes
abbrev Low : List Symbol → Type 0
Low ss = (c : ℕ) → In (terminal c) ss → c < terminals

low-symbol : (b c : ℕ) → terminal c ≡ symbol_of b → c < terminals
low-symbol b c e = by (ltb b terminals) refl e
  where
    number : Symbol → ℕ
    number (terminal x) = x
    number (nonterminal x) = terminals

    is-terminal : Symbol → ℕ
    is-terminal (terminal x) = 1
    is-terminal (nonterminal x) = 0

    by : (t : Bool) → ltb b terminals ≡ t → terminal c ≡ symbol_by t b → c < terminals
    by true p q = subst (λ (x : ℕ). x < terminals) (sym (ap number q)) (ltb-true b terminals p)
    by false p q = absurd (let z : 1 ≡ 0 = ap is-terminal q in let y : ⊥ = omega (arith, z) in y)

low-body : (s t : Bool) (a b : ℕ) → Low (symbols (body_by s t a b))
low-body true t a b c m = absurd m
low-body false true a b c (inl e) = low-symbol a c e
low-body false true a b c (inr m) = absurd m
low-body false false a b c (inl e) = low-symbol a c e
low-body false false a b c (inr (inl e)) = low-symbol b c e
low-body false false a b c (inr (inr m)) = absurd m

-- so a word that is spelled has them alone
low-spells : (E : ℕ → List ℕ → Type 0) → ((x : ℕ) (u : List ℕ) → E x u → strays u ≡ false) → (ss : List Symbol) → Low ss → (u : List ℕ) → Spells E ss u → strays u ≡ false
low-spells E ih [] l u e = ap strays e
low-spells E ih (s ∷ ss) l u r =
    ap strays r.2 ∙ any_append (λ c. leb terminals c) r.0 r.1
    ∙ ap₂ (λ (x y : Bool). x || y) (first s (λ c e. l c (inl e)) r.3) (low-spells E ih ss (λ c m. l c (inr m)) r.1 r.4)
  where
    first : (s : Symbol) → ((c : ℕ) → terminal c ≡ s → c < terminals) → SpellsSymbol E s r.0 → strays r.0 ≡ false
    first (terminal c) l d = ap strays d ∙ ap (λ (b : Bool). b || false) (lt-leb terminals c (l c refl))
    first (nonterminal x) l d = ih x r.0 d

module _ (bs : List ℕ) (v : (fault bs).number ≡ 0) where
  low-rule : (r : Rule) → In r (rules_of bs) → Low (symbols r.body)
  low-rule r m =
      let k = in-getD r no_rule (rules_of bs) m in
      let h = subst (λ (n : ℕ). k.0 < n) (rules-length bs v) k.1 in
      let x = rule_at bs k.0 in
      subst (λ (y : Rule). Low (symbols y.body)) (sym (rule-read bs v k.0 h) ∙ k.2) (low-body (eqb x.size 0) (eqb x.size 1) x.first x.second)

  low-within : (h p : ℕ) (w : List ℕ) → DerivesWithin (productions_of bs) h p w → strays w ≡ false
  low-within zero p w d = absurd d
  low-within (suc h) p w d =
      let r = by-rule (rules_of bs) h p w d in
      low-spells (DerivesWithin (productions_of bs) h) (low-within h) (symbols r.0.body) (low-rule r.0 r.1) w r.3

  -- 11 does not refuse a run of the plan that is not too long
  derived-judged : (p : ℕ) (w : List ℕ) → Language (productions_of bs) p w → length w ≤ word_limit → word_fault w ≡ 0
  unfolding word_fault
  derived-judged p w d h =
      let e = (language (productions_of bs) p w).0 d in
      rw (le-ltb word_limit (length w) h, low-within e.0 p w e.1)

  -- a run that has an accepting path is judged so
  accepted-judged : (w : List ℕ) → word_fault w ≡ 0 → Accepts (automaton_of bs) w → judge_of bs w ≡ answered accepted
  unfolding judge_of
  accepted-judged w e p = by (judgement_by (rejected states (automaton_of bs) w)) refl
    where
      judged : (j : Judgement) → judgement_by (rejected states (automaton_of bs) w) ≡ j → judge_of bs w ≡ answered j
      judged j q = reply-none (judge_refusals bs w) (judgement_by (rejected states (automaton_of bs) w)) (v, (e, tt)) ∙ ap answered q

      by : (j : Judgement) → judgement_by (rejected states (automaton_of bs) w) ≡ j → judge_of bs w ≡ answered accepted
      by accepted q = judged accepted q
      by turned_away q = absurd (subst (JudgementMeans bs w) (judged turned_away q) (judge-means bs w) p)

-- ---- with a check that answers

module _ (bs : List ℕ) (g : Settings) (a : Answer ℕ) (e : check_of bs g ≡ answered a) (before after : List ℕ) where
  -- a run that is recognized is accepted, where a check with procedure 0 among its members says "holds"
  pub recognized-accepted : Member g initial → a.verdict ≡ holds → (w : List ℕ) → recognize_of bs w (length before) after ≡ answered true
      → RecognizeMeans bs w before after (answered true) → judge_of bs w ≡ answered accepted
  unfolding recognize_of
  recognized-accepted i h w r m =
      let n = (reply-answers (recognize_refusals bs w (length before)) (bit (get_or after (cell 0 (length w)) 0) initial) true r).0 in
      accepted-judged bs n.0 w n.1.0 ((promises bs g a e).one-verdict.holds-for-all h initial i w (m.0.0 refl))

  -- the run that a broken check shows of procedure 0 is recognized, where it has at most 64 steps and the table is of that size
  pub shown-recognized : a.verdict ≡ broken → shown_head a ≡ initial → length (shown bs a) ≤ run_limit → length before ≡ stretch_cells
      → RecognizeMeans bs (shown bs a) before after (recognize_of bs (shown bs a) (length before) after)
      → recognize_of bs (shown bs a) (length before) after ≡ answered true
  unfolding recognize_of
  shown-recognized h i l s m =
      let w = shown bs a in
      let d = subst (λ (p : ℕ). Language (productions_of bs) p w) i ((promises bs g a e).one-verdict.broken-shows h).1 in
      let v = (from-order bs g a e).0 in
      let b = bit (get_or after (cell 0 (length w)) 0) initial in
      let r : recognize_of bs w (length before) after ≡ answered b =
      reply-none (recognize_refusals bs w (length before)) b
      (v, (derived-judged bs v initial w d (omega (arith, l)), (short-enough w l, (that-size (length before) s, tt)))) in
      r ∙ ap answered ((subst (RecognizeMeans bs w before after) r m).0.1 d)
