-- What `check` gives, from how it started and how the search ended. Assumes nothing.
use mathlib.Core.Path.{◌≡◌, refl, sym, ap, ap₂, ◌∙◌, subst, subst₂}
use mathlib.Core.Bool.{Bool, true, false, not}
use mathlib.Core.List.{List, ◌++◌, map, map-append}
use Prim.Native.Nat.{ℕ}
use lib.Dec.{T}
use lib.ListN.{length, take, drop, take-append-drop}
use Rattle.spec_basics.specs.Lists.{drop-map}
use Rattle.spec_file.specs.Refusals as refusals
use Rattle.spec_file.specs.Refusals.{first_of}
use Rattle.spec_order.specs.Order as order
use Rattle.spec_order.specs.Journal.{Row}
use Rattle.spec_calls.specs.Checking.{Settings, check_refusals, order_on, check_of, kept_by, journal_after}
use Rattle.spec_calls.proofs.Promising.{promises}
use Rattle.spec_calls.specs.declared.Options.{Options}
use Rattle.spec_calls.proofs.ReplyLaws.{reply-first}
use Rattle.spec_file.proofs.RefusalLaws.{number-some, fault-some}
use Rattle.spec_calls.specs.Replies.{Reply, refused, answered, unless}
use Rattle.spec_calls.specs.Rows.{row_of, Journal}
use Rattle.spec_calls.specs.declared.Row.{Row as LentRow}
use Rattle.search_state.specs.Phases.{is_going}
use Rattle.search_state.specs.declared.State.{State}
use Rattle.search_state.specs.declared.Terms.{Terms}
use Rattle.search_links.specs.Rows.{rows_read}
use Rattle.search_laws.specs.Clauses as search
use Rattle.search_laws.specs.Clauses.{order_of}
use Rattle.search_laws.specs.OnRelations.{Letters, problem_in, Ran}
use Rattle.search_laws.specs.Problems.{RuleBytes, Problem}
use Rattle.search_laws.specs.Meanings.{answer_in, answer_of, totals_in}
use Rattle.search_laws.specs.declared.Answer.{Answer}
use Rattle.search_laws.specs.declared.Answer.TheVariants.{Ended, Broken}
use Rattle.std.specs.Prelude.{Ok, Err}
use Rattle.std.specs.declared.result.Result.{Result}
use Rattle.spec_file.specs.Answers.{refusal_of}
use Rattle.spec_file.specs.declared.Refusal.{Refusal}
use Rattle.call_check.specs.Answers.{checked_of, used_in}
use Rattle.call_check.specs.Clauses.{settings_over, Checks}
use Rattle.call_check.specs.OrderLaws.{order_same}
use Rattle.call_check_start.specs.Starting.{problem_of, Starts}
use Rattle.call_refusals.proofs.Refusals.{none-refused}

-- ---- what an answer says of the journal

answer-used : (a : Answer) (j : Journal) → (answer_of row_of a j).used ≡ (totals_in a).used
answer-used (Ended v n) j = refl
answer-used (Broken i n) j = refl

answer-journal : (a : Answer) (j : Journal) → (answer_of row_of a j).journal ≡ rows_read row_of (totals_in a).used j
answer-journal (Ended v n) j = refl
answer-journal (Broken i n) j = refl

-- rows used, and then those that are as they were
front_rest : (u : ℕ) (old new : Journal) → drop u new ≡ drop u old → map row_of new ≡ rows_read row_of u new ++ drop u (map row_of old)
unfolding rows_read
front_rest u old new e =
    ap (map row_of) (sym (take-append-drop u new)) ∙ map-append row_of (take u new) (drop u new)
    ∙ ap (λ (l : List (Row ℕ)). rows_read row_of u new ++ l) (ap (map row_of) e ∙ sym (drop-map row_of u old))

module _ (bs : List ℕ) (o : Options) (old : Journal) where
  abbrev g : Settings
  g = settings_over o old

  -- ---- the reply

  -- the first of what may refuse it
  abbrev refusal : refusals.Refusal
  refusal = first_of (check_refusals bs g.rows)

  reply : check_of bs g ≡ unless refusal (answered (order_on bs g))
  unfolding check_of
  reply = reply-first (check_refusals bs g.rows) (order_on bs g)

  -- whatever it is
  checks : (x : Reply (order.Answer ℕ)) → check_of bs g ≡ x → (new : Journal) (c : Result Answer Refusal) → checked_of c new ≡ x → map row_of new ≡ kept_by (map row_of old) x
      → drop (used_in x) new ≡ drop (used_in x) old → Checks bs o old new c
  unfolding journal_after
  checks x e new c a j u =
      record {
        answer = a ∙ sym e;
        journal = j ∙ ap (kept_by (map row_of old)) (sym e);
        untouched = subst (λ (x : Reply (order.Answer ℕ)). drop (used_in x) new ≡ drop (used_in x) old) (sym e) u;
        promises = promises bs g;
      }

  -- the answer, where the passes gave it
  answers : (a : Answer) (new : Journal) → search.Checked row_of (order_on bs g) old new a → check_of bs g ≡ answered (order_on bs g) → Checks bs o old new (Ok a)
  answers a new x e =
      checks (answered (answer_of row_of a new)) (e ∙ ap answered (sym x.answer)) new (Ok a) refl
      (front_rest (totals_in a).used old new x.beyond ∙ sym (ap₂ (λ (l : List (Row ℕ)) (u : ℕ). l ++ drop u (map row_of old)) (answer-journal a new) (answer-used a new)))
      (subst (λ (u : ℕ). drop u new ≡ drop u old) (sym (answer-used a new)) x.beyond)

  -- ---- something refused: the journal is as it was
  pub refuses : (r : Refusal) → refusal_of r ≡ refusal → Checks bs o old old (Err r)
  refuses r e =
      let some : refusal.number ≡ 0 → ⊥ = λ q. fault-some r.fault (ap (λ (x : refusals.Refusal). x.number) e ∙ q) in
      checks (refused refusal) (reply ∙ number-some (refused refusal) (answered (order_on bs g)) refusal.number some) old (Err r) (ap refused e) refl refl

  -- ---- nothing refused
  module _ (letters : Letters) (rules : RuleBytes) (t near t' : List ℕ) (s : State) (h : Starts bs g letters rules t near (Ok s)) (new : Journal) (last : State) (ran : Ran letters rules s old new t' last) where
    abbrev P : Problem ℕ LentRow
    P = problem_of bs g letters (take s.rules rules)

    -- it ended, or it did not begin
    ended : search.Checked row_of (order_of P g.rows g.budget) old new (answer_in last)
    ended = by (is_going s.phase) refl
      where
        by : (b : Bool) → is_going s.phase ≡ b → search.Checked row_of (order_of P g.rows g.budget) old new (answer_in last)
        by true e =
            let on : T (is_going s.phase) = subst T (sym e) tt in
            let stood = h.1.stands old refl in
            subst (λ (x : Terms). search.Checked row_of (order_of (problem_in x.starts x.finals letters (take s.rules rules)) g.rows x.budget) old new (answer_in last)) (stood.goes on).begun.terms ((ran.1.search.stands on).ends ran.0)
        by false e =
            let off : T (not (is_going s.phase)) = subst (λ (b : Bool). T (not b)) (sym e) tt in
            let i = ran.1.search.idle off in
            subst₂ (λ (x : State) (j : Journal). search.Checked row_of (order_of P g.rows g.budget) old j (answer_in x)) (sym i.0) (sym i.1) ((h.1.stands old refl).ends off)

    on-file : order_of P g.rows g.budget ≡ order_on bs g
    on-file =
        ap (λ (l : Letters). order_of (problem_of bs g l (take s.rules rules)) g.rows g.budget) h.1.relations
        ∙ order_same bs (none-refused bs (length old) h.0).0 (take s.rules rules) h.1.entries g

    pub answered-so : Checks bs o old new (Ok (answer_in last))
    answered-so =
        answers (answer_in last) new (subst (λ (a : order.Answer ℕ). search.Checked row_of a old new (answer_in last)) on-file ended)
        (reply ∙ ap (λ (r : refusals.Refusal). unless r (answered (order_on bs g))) (sym h.0))
