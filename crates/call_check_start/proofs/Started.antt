-- What a check has at each end of `prepare`, and that the search may then run. Assumes nothing.
use mathlib.Core.Path.{◌≡◌, refl, sym, ap, ◌∙◌, subst}
use mathlib.Core.Bool.{Bool, ◌||◌}
use mathlib.Core.List.{List, [], map}
use Prim.Native.Nat.{ℕ, ◌≤◌, ◌<◌}
use native.Mathlib.Omega.{arith}
use lib.Dec.{T, eqb, ltb}
use lib.ListN.{length, take, set, replicate, length-replicate}
use lib.Seq.{length-take-le}
use borrow.Author.Tests.{eqb-false, ltb-false}
use Rattle.spec_basics.specs.Tests.{or-neither}
use Rattle.relation.specs.Digits.{number}
use Rattle.relation.specs.Relation.{states}
use Rattle.spec_language.specs.WordRelation.{is_final}
use Rattle.spec_file.specs.Refusals.{refuse, fault, first_of}
use Rattle.spec_file.proofs.RefusalLaws.{not-held}
use Rattle.spec_file.specs.Views.{rules_of, transitions_of, automaton_of}
use Rattle.spec_calls.specs.Checking.{Settings, journal_limit, journal_fault, check_refusals}
use Rattle.spec_file.specs.Entries.{entry_of}
use Rattle.spec_calls.specs.Rows.{row_of, blank, Journal}
use Rattle.search_rows.specs.Base.{Row}
use Rattle.spec_calls.specs.declared.Row.{Row as LentRow}
use Rattle.search_links.specs.CoverLaws.{covering-none}
use Rattle.search_links.specs.Covers.{Covering, Unlinked}
use Rattle.search_links.specs.RowLaws.{rows_none}
use Rattle.search_links.specs.Rows.{rows_read}
use Rattle.search_cover.specs.Near.{near_words, Beside}
use Rattle.search_state.specs.Phases.{is_going}
use Rattle.search_state.specs.declared.State.{State}
use Rattle.search_state.specs.declared.Terms.{Terms}
use Rattle.search_laws.specs.Passes.{pass-first}
use Rattle.search_laws.specs.Nearing.{near_first}
use Rattle.search_laws.specs.OnRelations.{Letters, problem_in, NearIn, Running, OpensPass}
use Rattle.search_laws.specs.ProblemLaws.{problem-laws}
use Rattle.search_laws.specs.Problems.{RuleBytes, Problem}
use Rattle.search_laws.specs.Steps.{MayOpen}
use Rattle.search_laws.specs.Running.{SearchAt, Onward}
use Rattle.search_laws.specs.States.{all_linked, opening}
use Rattle.search_laws.specs.declared.Reached.{Reached}
use Rattle.file_tables.specs.Tables.{letter_table, RuleTable}
use Rattle.file_tables.specs.LetterLaws.{letters-length}
use Rattle.call_refusals.specs.RuleLaws.{rules-fit, rules-in}
use Rattle.call_refusals.proofs.Refusals.{none-refused}
use Rattle.std.specs.Prelude.{Ok}
use Rattle.call_check_start.specs.Starting.{waiting, problem_of, Starts}

-- a journal that 8 does not refuse
journal-size : (J : ℕ) → journal_fault J ≡ 0 → (0 < J) × (J ≤ journal_limit)
unfolding journal_fault
journal-size J e =
    let o = or-neither (eqb J 0) (ltb journal_limit J) (not-held (eqb J 0 || ltb journal_limit J) 7 e) in
    let some : J ≡ 0 → ⊥ = eqb-false J 0 o.0 in
    (omega arith, ltb-false journal_limit J o.1)

module _ (bs : List ℕ) (g : Settings) where
  abbrev J : ℕ
  J = g.rows

  abbrev B : ℕ
  B = g.budget

  -- ---- where nothing refuses
  pub may-open : (finals : ℕ) (before rules : RuleBytes) (n : ℕ) → RuleTable bs before rules n → (t : List ℕ) → Unlinked t → (w : State) → w ≡ waiting g n finals → MayOpen rules n w.terms w.counts t
  may-open finals before rules n en t et w ew =
      subst (λ (x : State). MayOpen rules n x.terms x.counts t) (sym ew)
      (record { table = et.size; count = rules-fit bs before rules n en; old = omega arith; used = omega arith; links = record { rows = []; size = refl; covering = covering-none t et } })

  module _ (letters : Letters) (el : letters ≡ letter_table states (transitions_of bs)) (finals : ℕ) (ef : finals ≡ number states (is_final (automaton_of bs))) (before rules : RuleBytes) (n : ℕ) (en : RuleTable bs before rules n) (t t' : List ℕ)
      (et : Unlinked t) (near near' : List ℕ) (size : length near ≡ near_words) (forgot : near' ≡ set near 0 0) (w : State) (ew : w ≡ waiting g n finals) (x : Reached) (o : OpensPass rules t n w.terms w.counts t' x) (nonempty : Bool) (em : nonempty ≡ all_linked w.terms.starts t') (s : State) (es : s ≡ opening w w.terms x nonempty) (e : refuse 0 0 ≡ first_of (check_refusals bs J)) where
    abbrev P : Problem ℕ LentRow
    P = problem_in g.starts finals letters (take n rules)

    quiet : ((fault bs).number ≡ 0) × (journal_fault J ≡ 0)
    quiet = none-refused bs J e

    opened : (j : Journal) → length j ≡ J → Onward P B j (record { used = 0; joins = 0; added = 0 }) s j t'
    opened j l =
        let k = journal-size J quiet.1 in
        subst (λ (y : State). Onward P B j (record { used = 0; joins = 0; added = 0 }) y j t') (sym (es ∙ ap (opening w w.terms x) em ∙ ap (λ (y : State). opening y y.terms x (all_linked y.terms.starts t')) ew))
        (subst (λ (y : State). OpensPass rules t n y.terms y.counts t' x) ew o P (problem-laws g.starts finals letters (take n rules)) B j j 1 _ (waiting g n finals) refl (record { some = omega (arith, l, k.0); limit = omega (arith, l, k.1) }) (sym l) (pass-first P B j) refl (λ q. absurd (omega (arith, q)))
        (subst (λ (rows : List Row). Covering rows t) (sym (rows_none row_of j)) (covering-none t et)))

    fit : n ≤ length rules
    fit = rules-fit bs before rules n en

    count : n ≡ s.rules
    count = sym ((opened (replicate J blank) (length-replicate J blank)).stands.count ∙ length-take-le n rules fit)

    pub starts : Starts bs g letters rules t' near' (Ok s)
    starts = (
      e,
      record {
        relations = el;
        whole = subst (λ (k : ℕ). k ≤ length rules) count fit;
        entries = subst (λ (k : ℕ). map entry_of (take k rules) ≡ rules_of bs) count (rules-in bs quiet.0 before rules n en);
        none-used = (opened (replicate J blank) (length-replicate J blank)).used;
        none-near = subst (Beside []) (sym forgot) (near_first near size);
        stands = λ j l. subst (λ (k : ℕ). SearchAt (problem_of bs g letters (take k rules)) B j s j t') count (subst (λ (f : ℕ). SearchAt (problem_in g.starts f letters (take n rules)) B j s j t') ef (opened j l).stands);
      },
    )

  -- ---- then the search may run, over every journal of J rows
  module _ (letters : Letters) (rules : RuleBytes) (t near : List ℕ) (s : State) (h : Starts bs g letters rules t near (Ok s)) (j : Journal) (l : length j ≡ J) where
    pub may-run : Running letters rules s j s j t
    may-run =
        let b = h.1 in
        let k = journal-size J (none-refused bs J h.0).1 in
        record {
          all = λ _. omega (arith, ap length b.relations, letters-length states (transitions_of bs));
          search = record {
            idle = λ _. (refl, refl);
            sized = λ _. record { some = omega (arith, l, k.0); limit = omega (arith, l, k.1) };
            whole = λ _. b.whole;
            stands = λ g. subst (λ (x : Terms). SearchAt (problem_in x.starts x.finals letters (take s.rules rules)) x.budget j s j t) (sym ((b.stands j l).goes g).begun.terms) (b.stands j l);
          };
        }

    -- and no effect stands in the words yet
    pub may-look : T (is_going s.phase) → NearIn s j near
    may-look g = subst (λ (rows : List Row). Beside rows near) (sym (ap (λ (u : ℕ). rows_read row_of u j) h.1.none-used ∙ rows_none row_of j)) h.1.none-near
