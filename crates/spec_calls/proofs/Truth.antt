-- Demand 3, the counts, what the rows are and stability, on the bytes of a file that is not refused, for all settings.
-- Assumes nothing.
use Rattle.std.specs.Prelude.{◌≡◌, true, List, ℕ, suc, ◌+◌, ◌*◌, ◌^◌, ◌≤◌, ◌<◌, eqb, length}
use Rattle.std.proofs.Math.Path.{refl, sym, subst}
use Rattle.std.proofs.Common.{ap, ◌∙◌, true≢false, le_of_eq, mul_comm, mul_assoc, mul-one, add-one, arith, eq-eqb}
use Rattle.std.proofs.Math.Nat.{le_refl, le_trans}
use Rattle.spec_basics.specs.Tests.{and_intro}
use Rattle.relation.specs.Relation.{states, has}
use Rattle.relation.specs.RelationLaws.{has-contained}
use Rattle.spec_language.proofs.Agreement.{language}
use Rattle.spec_language.specs.Automaton.{Automaton}
use Rattle.spec_language.proofs.Paths.{word_relation-lt, path-of, of-path}
use Rattle.spec_file.specs.Refusals.{fault}
use Rattle.spec_file.specs.Views.{rules_of, productions_of, automaton_of}
use Rattle.spec_file.proofs.Valid.{automaton-within}
use Rattle.spec_order.specs.Order.{Verdict, holds, broken, full, spent, empty, check}
use Rattle.spec_order.specs.Journal.{Row, absent, live, live_of}
use Rattle.spec_order.specs.Stopping.{Stops, Ends}
use Rattle.spec_order.proofs.Exactly.{stops_so, ends_so}
use Rattle.spec_order.proofs.Counting.{Exact, ExactBy, StopsBy, check-exact, never-spent}
use Rattle.spec_order.proofs.Stability.{Firm, check-mono}
use Rattle.spec_calls.specs.Base.{members_of, base}
use Rattle.spec_calls.specs.Checking.{Settings, algebra_over, order_on, shown, shown_head}
use Rattle.spec_calls.specs.DemandThree.{Counterexample, OneVerdict, Counts, LeastHeight, RowMeans, LiveAntichain, Extends}
use Rattle.spec_calls.proofs.JournalTruth.{row_at, word_at, row-true, incomparable}
use Rattle.spec_calls.proofs.VerdictTruth.{VerdictMeans, meaning, shows, found, underivable, accepted}
use Rattle.spec_calls.specs.Writing.{word_of}

-- a live row of the nonterminal x
alive : (x : ℕ) (r : Row ℕ) → r.head ≡ x → r.retired ≡ 0 → live_of x r ≡ true
unfolding live_of live
alive x r h z = and_intro (eqb r.head x) (eqb r.retired 0) (eq-eqb r.head x h) (eq-eqb r.retired 0 z)

module _ (bs : List ℕ) (v : (fault bs).number ≡ 0) (g : Settings) where
  abbrev J : ℕ
  J = g.rows

  abbrev B : ℕ
  B = g.budget

  abbrev A : Automaton
  A = automaton_of bs

  -- what the verdict means, on the states of today
  says : (x : Verdict) → (order_on bs g).verdict ≡ x → VerdictMeans states bs (automaton-within bs v) g x (order_on bs g)
  unfolding order_on
  says x e = meaning states bs (automaton-within bs v) g x e

  breaks : (order_on bs g).verdict ≡ broken → Counterexample bs g (shown_head (order_on bs g)) (shown bs (order_on bs g))
  unfolding order_on
  breaks e = shows states bs (automaton-within bs v) g e

  pub least-height : LeastHeight bs g (order_on bs g)
  least-height = record { shown-within = λ e. (says broken e).1; none-lower = λ e. (says broken e).3 }

  module _ (pos : 1 ≤ J) where
    abbrev counts : Exact (algebra_over states bs g) 1 (λ x y. le_refl 1) (le_refl 1) (rules_of bs) J B pos (check (algebra_over states bs g) (rules_of bs) J B)
    counts = check-exact (algebra_over states bs g) 1 (λ x y. le_refl 1) (le_refl 1) (rules_of bs) J B pos

    stops : (x : Verdict) → (order_on bs g).verdict ≡ x → StopsBy (algebra_over states bs g) 1 (λ x y. le_refl 1) (le_refl 1) (rules_of bs) J B pos x (order_on bs g)
    unfolding order_on
    stops x e = subst (λ (y : Verdict). StopsBy (algebra_over states bs g) 1 (λ x y. le_refl 1) (le_refl 1) (rules_of bs) J B pos y (order_on bs g)) e counts.stops

    so : (x : Verdict) → Stops (algebra_over states bs g) (rules_of bs) J B x (order_on bs g) → (order_on bs g).verdict ≡ x
    unfolding order_on
    so x h = stops_so (algebra_over states bs g) (rules_of bs) J B x (order_on bs g) h

    ends : (x : Verdict) → Ends (algebra_over states bs g) (rules_of bs) J B x (order_on bs g) → (order_on bs g).verdict ≡ x
    unfolding order_on
    ends x h = ends_so (algebra_over states bs g) (rules_of bs) J B x (order_on bs g) h

    exact : (x : Verdict) → (order_on bs g).verdict ≡ x → ExactBy (algebra_over states bs g) 1 (λ x y. le_refl 1) (le_refl 1) (rules_of bs) J B pos x (order_on bs g)
    unfolding order_on
    exact x e = subst (λ (y : Verdict). ExactBy (algebra_over states bs g) 1 (λ x y. le_refl 1) (le_refl 1) (rules_of bs) J B pos y (order_on bs g)) e counts.by-verdict

    -- no row unless broken
    rowless : (x : Verdict) → (order_on bs g).verdict ≡ x → (x ≡ broken → ⊥) → (order_on bs g).row ≡ absent
    rowless holds e n = exact holds e
    rowless empty e n = exact empty e
    rowless broken e n = absurd (n refl)
    rowless full e n = (exact full e).1
    rowless spent e n = (exact spent e).1

    -- demand 3
    pub one-verdict : OneVerdict bs g (order_on bs g)
    unfolding order_on
    one-verdict =
        record {
          holds-for-all = λ e. (says holds e).0;
          holds-for-some = λ e. (says holds e).1;
          empty-for-none = λ e. (says empty e).1;
          broken-shows = breaks;
          broken-exactly = λ f s. (λ e. (shown_head (order_on bs g), shown bs (order_on bs g), breaks e), λ c. found states bs (automaton-within bs v) g (order_on bs g).verdict refl f s c);
          empty-exactly = λ f s. (says empty, λ d. underivable states bs (automaton-within bs v) g (order_on bs g).verdict refl f s d);
          holds-exactly = λ f s. (says holds, λ y. accepted states bs (automaton-within bs v) g (order_on bs g).verdict refl f s y);
          stops-full = (stops full, so full);
          stops-spent = (stops spent, so spent);
          stops-broken = (stops broken, so broken);
          ends-holds = (stops holds, ends holds);
          ends-empty = (stops empty, ends empty);
        }

    -- the bound as the counting has it, and as document 01 writes it
    bound : suc J * (length (rules_of bs) * (J * (J * 1))) ≡ length (rules_of bs) * J * J * (J + 1)
    bound =
        mul_comm (suc J) (length (rules_of bs) * (J * (J * 1)))
        ∙ ap (λ (x : ℕ). length (rules_of bs) * (J * x) * suc J) (mul-one J)
        ∙ ap (λ (x : ℕ). x * suc J) (sym (mul_assoc (length (rules_of bs)) J J))
        ∙ ap (λ (x : ℕ). length (rules_of bs) * J * J * x) (sym (add-one J))

    pub counted : Counts bs g (order_on bs g)
    unfolding order_on
    counted =
        record {
          no_row = rowless (order_on bs g).verdict refl;
          last_row = exact broken;
          all-rows = λ e. (exact full e).0;
          all-joins = λ e. (exact spent e).0;
          used-rows = counts.used-is;
          rows_bound = counts.rows_bound;
          pass-bound = omega (arith, counts.pass-bound);
          joins-bound = le_trans counts.joins-bound (le_of_eq bound);
          never-spent = λ h e. never-spent (algebra_over states bs g) 1 (λ x y. le_refl 1) (le_refl 1) (rules_of bs) J B pos (le_trans (le_of_eq bound) h) e;
        }

    -- ---- the rows

    there : (i : ℕ) → i < (order_on bs g).used → i < length (order_on bs g).journal
    unfolding order_on
    there i l = subst (λ (n : ℕ). i < n) counts.used-is l

    pub rows-mean : (i : ℕ) → i < (order_on bs g).used → RowMeans bs (order_on bs g) i
    unfolding word_of
    rows-mean i l =
        let t = row-true bs g i (there i l) in
        let w = word_at bs g i in
        let within = (automaton-within bs v).targets in
        record {
          derived = (language (productions_of bs) (row_at bs g i).head w).1 ((row_at bs g i).birth, t.derived);
          pairs-exactly = λ p q hp hq. (
            λ h. path-of states A.transitions within w p q hp hq (ap (λ (e : ℕ). has states e p q) t.relation-is ∙ h),
            λ h. sym (ap (λ (e : ℕ). has states e p q) t.relation-is) ∙ of-path states A.transitions within w p q hp hq h,
          );
          length-is = t.length-is;
          fits = t.fits;
        }

    pub antichain : LiveAntichain bs (order_on bs g)
    antichain i j li lj ne head-same live-i live-j sub =
        let x = row_at bs g i in
        let y = row_at bs g j in
        let z = incomparable bs g i j (there i li) (there j lj) ne x.head (alive x.head x refl live-i) (alive x.head y (sym head-same) live-j) in
        true≢false (sym (has-contained states x.effect y.effect (subst (λ (e : ℕ). e < 2 ^ (states * states)) (row-true bs g i (there i li)).relation-is (word_relation-lt states A.transitions (word_at bs g i))) sub) ∙ z)

-- once a verdict is neither "full" nor "spent", a longer journal or a larger budget leaves the whole answer as it is: verdict, joins,
-- used rows, pass, row and the rows themselves
pub same_answer : (bs : List ℕ) (g g' : Settings) → Extends g g' → ((order_on bs g).verdict ≡ full → ⊥) → ((order_on bs g).verdict ≡ spent → ⊥) → order_on bs g' ≡ order_on bs g
unfolding order_on
same_answer bs g g' x f s =
    ap (λ (set : ℕ). check (base states (members_of set) (automaton_of bs)) (rules_of bs) g'.rows g'.budget) x.same-starts
    ∙ check-mono (algebra_over states bs g) (rules_of bs) g.rows g.budget g'.rows g'.budget x.more_rows x.more-joins (firm (order_on bs g).verdict f s)
  where
    firm : (x : Verdict) → (x ≡ full → ⊥) → (x ≡ spent → ⊥) → Firm x
    firm holds f s = tt
    firm empty f s = tt
    firm broken f s = tt
    firm full f s = f refl
    firm spent f s = s refl
