-- What a host may conclude from what a call gave it (Hosts.antt), by the call's contract alone. Assumes nothing.
use Rattle.std.specs.Prelude.{◌≡◌, refl, ◌↔◌, ◌⊎◌, List, [], ◌∷◌, ◌++◌, ℕ, suc, ◌+◌, ◌≤◌, ◌<◌, length, take}
use Rattle.std.proofs.Common.{sym, ap, ap₂, ◌∙◌, subst, inl, inr, zero-le, arith, length-append}
use Rattle.std.proofs.lemmas.List.{get_or_at}
use Rattle.spec_basics.specs.Elements.{In}
use Rattle.spec_basics.specs.Lists.{in_one}
use Rattle.relation.specs.Relation.{states}
use Rattle.spec_language.specs.Grammar.{initial}
use Rattle.spec_file.specs.Refusals.{Refusal, file_numbers, fault}
use Rattle.spec_file.specs.Views.{rules_of}
use Rattle.spec_order.specs.Stopping.{Stops}
use Rattle.spec_order.specs.Order.{Answer, Verdict, holds, broken, full, spent, empty}
use Rattle.spec_calls.specs.Base.{initial_alone}
use Rattle.spec_calls.specs.Checking.{Settings, journal_fault, algebra_over, check_of, shown, shown_head}
use Rattle.spec_calls.specs.DemandThree.{Member, SomeFrom, NoneFrom, Counterexample, AllAccepted, joins_bound, Extends, Promises}
use Rattle.spec_calls.proofs.MemberLaws.{member-bit, bit-member, only-initial}
use Rattle.spec_calls.proofs.Promising.{from-order}
use Rattle.spec_calls.specs.Replies.{Reply, refused, answered}
use Rattle.spec_calls.specs.Codes.{first_answer_code, holds_code, broken_code, full_code, spent_code, empty_code, verdict_code}
use Rattle.host_check.specs.Details.{if_broken, last_three, head_of}
use Rattle.bolfrega.specs.BrokenLaws.{if-not-broken}
use Rattle.bolfrega.specs.Clauses.{Refuses, ChecksZeros, ChecksFrom, of_initial}
use Rattle.bolfrega.specs.Hosts.{FilePasses, FileRefused, RowsRefused, FileTells, told_record, told_joins, told_used, told_pass, told_row, told_pairs, told_length, told_refused, Decided, Refusing, RunsOut, Verdicts, Details, Shows, Stays, CheckTells, told_procedure, FromTells}
use Rattle.bolfrega.specs.HostReplies.{same-verdict, verdict-high, Why, broken_row, writing, rows-refused, refused-rows, why-refused, ToldRefusal, ToldAnswer, told-refusal, told-answer}
use Rattle.host_result.specs.LowNumbers.{file-refusal, file-number, record-none, low-high}
use Rattle.bolfrega.proofs.HostJudging.{judge-tells}
use Rattle.bolfrega.specs.HostShows.{run-shown}
use Rattle.bolfrega.specs.HostStays.{tells_alike}

-- ---- a check that was refused

module _ (bs : List ℕ) (g : Settings) (d old new : List ℕ) (r : ℕ) where
  module _ (y : Refusal) (t : ToldRefusal bs g d old new r y) where
    -- no verdict has such a number
    not-verdict : (v : Verdict) → r ≡ verdict_code v → ⊥
    not-verdict v e = low-high t.low (subst (λ (n : ℕ). first_answer_code ≤ n) (sym e) (verdict-high v))

    record_is : told_record d ≡ y.place
    record_is = ap told_record t.details

    zeros : d ≡ told_record d ∷ 0 ∷ 0 ∷ 0 ∷ 0 ∷ 0 ∷ 0 ∷ 0 ∷ []
    zeros = t.details ∙ ap (λ (k : ℕ). k ∷ 0 ∷ 0 ∷ 0 ∷ 0 ∷ 0 ∷ 0 ∷ 0 ∷ []) (sym record_is)

    refusing-by : Why (fault bs) (journal_fault g.rows) y → Refusing bs g d old new r
    refusing-by (inl (n, q)) =
        let number_is = t.number ∙ ap (λ (x : Refusal). x.number) q in
        let place_is = record_is ∙ ap (λ (x : Refusal). x.place) q in
        record {
          refused-exactly = (λ l. inl n, λ x. t.low);
          file-refused = λ m. (number_is, place_is);
          file-numbers = λ m. file-number bs r number_is n;
          rows-number = λ z. absurd (n z);
          no_record = record-none bs r (told_record d) number_is place_is;
          rest-zero = λ l. zeros;
        }
    refusing-by (inr (z, (n, q))) =
        let e = rows-refused g.rows n in
        record {
          refused-exactly = (λ l. inr e.0, λ x. t.low);
          file-refused = λ m. absurd (m z);
          file-numbers = λ m. absurd (m z);
          rows-number = λ k l. t.number ∙ ap (λ (x : Refusal). x.number) q ∙ e.1;
          no_record = λ k. record_is ∙ ap (λ (x : Refusal). x.place) q;
          rest-zero = λ l. zeros;
        }

    -- it is no answer
    runs-not : (v : Verdict) → RunsOut bs g d old new r v → ⊥
    runs-not v o = let z : ◌≡◌ {A = ℕ} 0 1 = cc (t.reply, o.answers) in omega (arith, z)

    refusal-tells : Why (fault bs) (journal_fault g.rows) y → CheckTells bs g d old new r
    refusal-tells w =
        record {
          refusing = refusing-by w;
          verdicts = record {
            one-of-five = λ h. absurd (low-high t.low h);
            holds-exactly = λ x. absurd (low-high t.low x.answers);
            broken-exactly = λ x. absurd (low-high t.low x.answers);
            empty-exactly = λ x. absurd (low-high t.low x.answers);
            full-exactly = (λ e. absurd (not-verdict full e), λ o. absurd (runs-not full o));
            full-used = λ e. absurd (not-verdict full e);
            spent-exactly = (λ e. absurd (not-verdict spent e), λ o. absurd (runs-not spent o));
            spent-joins = λ e. absurd (not-verdict spent e);
            never-spent = λ l e. not-verdict spent e;
          };
          details = record {
            eight = ap length t.details;
            used-bound = subst (λ (n : ℕ). n ≤ g.rows) (sym (ap told_used t.details)) zero-le;
            pass-bound = subst (λ (n : ℕ). n ≤ g.rows + 1) (sym (ap told_pass t.details)) zero-le;
            joins-bound = subst (λ (n : ℕ). n ≤ joins_bound bs g) (sym (ap told_joins t.details)) zero-le;
            no_row = λ h. absurd (low-high t.low h);
            no_run = λ n. (ap told_pairs t.details, ap told_length t.details, ap told_refused t.details);
            last_row = λ e. absurd (not-verdict broken e);
            buffer-kept = λ n. t.buffer;
          };
          shows = λ e. absurd (not-verdict broken e);
          stays = record { larger = λ x. absurd (low-high t.low x.answers); same-details = λ x. absurd (low-high t.low x.answers) };
        }

-- ---- a check that answers

module _ (bs : List ℕ) (g : Settings) (d old new : List ℕ) (r : ℕ) (h : ChecksZeros bs g d old new r) where
  module _ (a : Answer ℕ) (reply : check_of bs g ≡ answered a) where
    abbrev t : ToldAnswer bs g d old new r a
    t = told-answer bs g d old new r h a reply

    abbrev p : Promises bs g a
    p = h.promises a reply

    -- the number is that of the verdict
    is : (v : Verdict) → r ≡ verdict_code v → a.verdict ≡ v
    is v e = same-verdict a.verdict v (sym t.number ∙ e)

    code : (v : Verdict) → a.verdict ≡ v → r ≡ verdict_code v
    code v e = t.number ∙ ap verdict_code e

    high : first_answer_code ≤ r
    high = subst (λ (n : ℕ). first_answer_code ≤ n) (sym t.number) (verdict-high a.verdict)

    refusing : Refusing bs g d old new r
    refusing =
        let o = from-order bs g a reply in
        record {
          refused-exactly = (λ l. absurd (low-high l high), λ x. absurd (none o.0 o.1 x));
          file-refused = λ n. absurd (n o.0);
          file-numbers = λ n. absurd (n o.0);
          rows-number = λ z l. absurd (low-high l high);
          no_record = λ z. ap told_record t.details;
          rest-zero = λ l. absurd (low-high l high);
        }
      where
        none : FilePasses bs → journal_fault g.rows ≡ 0 → FileRefused bs ⊎ RowsRefused g.rows → ⊥
        none z k (inl n) = n z
        none z k (inr x) = refused-rows g.rows x k

    -- the counts, as the details have them
    runs-out : (v : Verdict) → Stops (algebra_over states bs g) (rules_of bs) g.rows g.budget v a → RunsOut bs g d old new r v
    runs-out v s =
        record {
          answer = a;
          answers = reply;
          stops = s;
          joins-told = ap told_joins t.details;
          used-told = ap told_used t.details;
          pass-told = ap told_pass t.details;
        }

    -- and back
    ran_out : (v : Verdict) (o : RunsOut bs g d old new r v) → o.answer.verdict ≡ v → r ≡ verdict_code v
    ran_out v o e = (told-answer bs g d old new r h o.answer o.answers).number ∙ ap verdict_code e

    not_full : Decided r → a.verdict ≡ full → ⊥
    not_full x e = x.not_full (code full e)

    not-spent : Decided r → a.verdict ≡ spent → ⊥
    not-spent x e = x.not-spent (code spent e)

    verdicts : Verdicts bs g d old new r
    verdicts =
        record {
          one-of-five = λ l. five a.verdict refl;
          holds-exactly = λ x. exactly holds (p.one-verdict.holds-exactly (not_full x) (not-spent x));
          broken-exactly = λ x. exactly broken (p.one-verdict.broken-exactly (not_full x) (not-spent x));
          empty-exactly = λ x. exactly empty (p.one-verdict.empty-exactly (not_full x) (not-spent x));
          full-exactly = (
            λ e. runs-out full (p.one-verdict.stops-full.0 (is full e)),
            λ o. ran_out full o ((h.promises o.answer o.answers).one-verdict.stops-full.1 o.stops),
          );
          full-used = λ e. ap told_used t.details ∙ p.counts.all-rows (is full e);
          spent-exactly = (
            λ e. runs-out spent (p.one-verdict.stops-spent.0 (is spent e)),
            λ o. ran_out spent o ((h.promises o.answer o.answers).one-verdict.stops-spent.1 o.stops),
          );
          spent-joins = λ e. ap told_joins t.details ∙ p.counts.all-joins (is spent e);
          never-spent = λ l e. p.counts.never-spent l (is spent e);
        }
      where
        five : (v : Verdict) → a.verdict ≡ v → (r ≡ holds_code) ⊎ ((r ≡ broken_code) ⊎ ((r ≡ full_code) ⊎ ((r ≡ spent_code) ⊎ (r ≡ empty_code))))
        five holds e = inl (code holds e)
        five broken e = inr (inl (code broken e))
        five full e = inr (inr (inl (code full e)))
        five spent e = inr (inr (inr (inl (code spent e))))
        five empty e = inr (inr (inr (inr (code empty e))))

        -- what is said of the verdict, said of its number
        exactly : {X : Type 0} (v : Verdict) → (a.verdict ≡ v) ↔ X → (r ≡ verdict_code v) ↔ X
        exactly v x = (λ e. x.0 (is v e), λ y. code v (x.1 y))

    details : Details bs g d old new r
    details =
        record {
          eight = ap length t.details ∙ long a.verdict;
          used-bound = subst (λ (n : ℕ). n ≤ g.rows) (sym (ap told_used t.details)) p.counts.rows_bound;
          pass-bound = subst (λ (n : ℕ). n ≤ g.rows + 1) (sym (ap told_pass t.details)) p.counts.pass-bound;
          joins-bound = subst (λ (n : ℕ). n ≤ joins_bound bs g) (sym (ap told_joins t.details)) p.counts.joins-bound;
          no_row = λ l n. ap told_row t.details ∙ p.counts.no_row (λ e. n (code broken e));
          no_run = λ n.
              let e = t.details ∙ ap (λ (xs : List ℕ). 0 ∷ a.joins ∷ a.used ∷ a.pass ∷ a.row ∷ xs) (if-not-broken a.verdict _ (0 ∷ 0 ∷ 0 ∷ []) (λ e. n (code broken e))) in
              (ap told_pairs e, ap told_length e, ap told_refused e);
          last_row = λ e. ap (λ (xs : List ℕ). suc (told_row xs)) t.details ∙ p.counts.last_row (is broken e) ∙ sym (ap told_used t.details);
          buffer-kept = λ n. t.buffer ∙ if-not-broken a.verdict _ old (λ e. n (code broken e));
        }
      where
        long : (v : Verdict) → length (0 ∷ a.joins ∷ a.used ∷ a.pass ∷ a.row ∷ last_three v (broken_row a) (writing bs old a)) ≡ 8
        long holds = refl
        long broken = refl
        long full = refl
        long spent = refl
        long empty = refl

    stays : Stays bs g d old new r
    stays =
        record {
          larger = λ x g' y d' new' r' h'.
              let s = p.stable (not_full x) (not-spent x) g' y in
              tells_alike bs g g' d d' old new new' r r' a s.0 p (h'.promises s.0 s.1) t (told-answer bs g' d' old new' r' h' s.0 s.1) s.2;
          same-details = λ x g' y d' new' r' h'.
              let e = p.same_answer (not_full x) (not-spent x) g' y in
              (told-answer bs g' d' old new' r' h' a e).details ∙ sym t.details;
        }

    answer-tells : CheckTells bs g d old new r
    answer-tells =
        record {
          refusing = refusing;
          verdicts = verdicts;
          details = details;
          shows = λ e. (shown_head a, shown bs a, run-shown bs g a reply (is broken e) p d old new r t);
          stays = stays;
        }

  -- every check that met its contract
  pub check-tells : CheckTells bs g d old new r
  check-tells = by (check_of bs g) refl
    where
      by : (x : Reply (Answer ℕ)) → check_of bs g ≡ x → CheckTells bs g d old new r
      by (refused y) e = refusal-tells bs g d old new r y (told-refusal bs g d old new r h y e) (why-refused bs g y e)
      by (answered a) e = answer-tells a e

  -- ---- some of it in short, for the reader; nothing cites these

  pub holds-means : r ≡ holds_code → AllAccepted bs g × ((p : ℕ) → Member g p → SomeFrom bs p)
  holds-means e =
      let sure : Decided r = record { answers = omega (arith, e); not_full = λ z. omega (arith, e, z); not-spent = λ z. omega (arith, e, z) } in
      (check-tells.verdicts.holds-exactly sure).0 e

  pub empty-means : r ≡ empty_code → AllAccepted bs g × ((p : ℕ) × Member g p × NoneFrom bs p)
  empty-means e =
      let sure : Decided r = record { answers = omega (arith, e); not_full = λ z. omega (arith, e, z); not-spent = λ z. omega (arith, e, z) } in
      (check-tells.verdicts.empty-exactly sure).0 e

  pub broken-means : r ≡ broken_code → (p : ℕ) × (w : List ℕ) × Counterexample bs g p w
  broken-means e = let s = check-tells.shows e in (s.0, s.1, s.2.counterexample)

  -- where nothing refused to write it, the first bytes of the buffer, as many as the detail `length` says, are a run of a member that the
  -- sheet turns away
  pub run-means : r ≡ broken_code → told_refused d ≡ 0 → (p : ℕ) × Counterexample bs g p (take (told_length d) new)
  run-means e z = let s = check-tells.shows e in (s.0, subst (Counterexample bs g s.0) (sym (s.2.in_buffer.first-bytes z)) s.2.counterexample)

-- the only member where a call has no set is procedure 0: bolfrega_check speaks of its runs
pub initial-only : (J B p : ℕ) → Member (of_initial J B) p ↔ (p ≡ initial)
initial-only J B p = (
  λ m. in_one p initial (subst (λ (ps : List ℕ). In p ps) only-initial (bit-member initial_alone p m)),
  λ e. member-bit initial_alone p (subst (λ (ps : List ℕ). In p ps) (sym only-initial) (inl e)),
)

-- ---- nine details

module _ (bs : List ℕ) (g : Settings) (d old new : List ℕ) (r : ℕ) (h : ChecksFrom bs g d old new r) where
  told : CheckTells bs g (take 8 d) old new r
  told = check-tells bs g (take 8 d) old new r h.eight

  eight-long : length (take 8 d) ≡ 8
  eight-long = told.details.eight

  procedure-is : told_procedure d ≡ head_of (check_of bs g)
  procedure-is = ap told_procedure h.ninth ∙ get_or_at (take 8 d) (head_of (check_of bs g)) [] 0 8 eight-long

  -- every check that met its contract
  pub from-tells : FromTells bs g d old new r
  from-tells = by (check_of bs g) refl
    where
      nine : length d ≡ 9
      nine = ap length h.ninth ∙ length-append (take 8 d) (head_of (check_of bs g) ∷ []) ∙ ap (λ (n : ℕ). n + 1) eight-long

      same : Decided r → (g' : Settings) → Extends g g' → check_of bs g' ≡ check_of bs g → (d' new' : List ℕ) (r' : ℕ) → ChecksFrom bs g' d' old new' r' → d' ≡ d
      same x g' y e d' new' r' h' =
          h'.ninth ∙ ap₂ (λ (xs : List ℕ) (z : Reply (Answer ℕ)). xs ++ (head_of z ∷ [])) (told.stays.same-details x g' y (take 8 d') new' r' h'.eight) e ∙ sym h.ninth

      by : (x : Reply (Answer ℕ)) → check_of bs g ≡ x → FromTells bs g d old new r
      by (refused y) e =
          let low : r < first_answer_code = (told-refusal bs g (take 8 d) old new r h.eight y e).low in
          record {
            nine = nine;
            eight = told;
            shows-its = λ b. absurd (low-high low (subst (λ (n : ℕ). first_answer_code ≤ n) (sym b) (verdict-high broken)));
            no-procedure = λ n. procedure-is ∙ ap head_of e;
            stays = λ x. absurd (low-high low x.answers);
          }
      by (answered a) e =
          let t = told-answer bs g (take 8 d) old new r h.eight a e in
          let p = h.eight.promises a e in
          record {
            nine = nine;
            eight = told;
            shows-its = λ b.
                let v = same-verdict a.verdict broken (sym t.number ∙ b) in
                let head : shown_head a ≡ told_procedure d = sym (procedure-is ∙ ap head_of e ∙ ap (λ (x : Verdict). if_broken x (shown_head a) 0) v) in
                (shown bs a, subst (λ (q : ℕ). Shows bs g (take 8 d) old new r q (shown bs a)) head (run-shown bs g a e v p (take 8 d) old new r t));
            no-procedure = λ n. procedure-is ∙ ap head_of e ∙ if-not-broken a.verdict (shown_head a) 0 (λ v. n (t.number ∙ ap verdict_code v));
            stays = λ x g' y. same x g' y
                (p.same_answer (λ v. x.not_full (t.number ∙ ap verdict_code v)) (λ v. x.not-spent (t.number ∙ ap verdict_code v)) g' y ∙ sym e);
          }

-- ---- reading

pub file-tells : (bs : List ℕ) (r i : ℕ) → Refuses bs r i → FileTells bs r i
file-tells bs r i h =
    let x = file-refusal bs in
    record {
      numbers = subst (λ (n : ℕ). (n ≡ 0) ⊎ In n file_numbers) (sym h.number) x.number;
      no_record = record-none bs r i h.number h.place;
      judging-same = λ n w r' i' j. let y = (judge-tells bs w r' i' j).file-refused (λ z. n (h.number ∙ z)) in (y.0 ∙ sym h.number, y.1 ∙ sym h.place);
      checking-same = λ n g d old new r' c.
          let y = (check-tells bs g d old new r' c).refusing.file-refused (λ z. n (h.number ∙ z)) in
          (y.0 ∙ sym h.number, y.1 ∙ sym h.place);
    }
