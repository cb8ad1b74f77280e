-- The replies of moving over and back, and the output after them, mean what document 02 says; every old file moves over. Assumes nothing.
use Rattle.std.specs.Prelude.{◌≡◌, refl, false, ℕ, ◌*◌, ◌/◌, ◌≤◌, drop}
use Rattle.std.proofs.Math.Path.{sym, ap}
use Rattle.std.proofs.Common.{ap₂, ◌∙◌, inl, inr, take_at, drop_at}
use mathlib.Core.List.{List, [], ◌∷◌, map}
use native.Mathlib.Omega.{arith}
use Rattle.std.proofs.Math.ListN.{length, length-map}
use Rattle.spec_basics.specs.Elements.{In}
use Rattle.spec_language.specs.Grammar.{Production, production_of}
use Rattle.spec_file.specs.Forms.{sixteen}
use Rattle.spec_file.specs.Records.{byte, rule_kind}
use Rattle.spec_file.specs.Refusals.{Refusal, fault, fault_in}
use Rattle.spec_file.specs.Views.{rule_of, rules_of, productions_of, automaton_of}
use Rattle.spec_calls.specs.Replies.{Reply, refused, answered}
use Rattle.spec_calls.specs.Writing.{written_by}
use Rattle.spec_records.specs.Blocks.{records_of}
use Rattle.spec_records.specs.BlockLaws.{length-bytes, length-blocks}
use Rattle.spec_records.specs.RecordLaws.{rule-bytes}
use Rattle.spec_unfold.specs.Moving.{wider, widened, narrowed, has_long}
use Rattle.spec_unfold.proofs.MovingLaws.{old, wide, wide', widened-passes, widened-short, moved_back, narrowed-passes, moved-again}
use Rattle.spec_unfold.specs.Unfolding.{keep, has_kind, byte_rule, spelled, wide_productions_of, wide_automaton_of, unfolded_file}
use Rattle.spec_unfold.proofs.RuleRecords.{rule-again, body-length}
use Rattle.spec_unfold.proofs.ViewLaws.{kept, rule-read}
use Rattle.spec_unfold.proofs.SameRuns.{same-automaton}
use Rattle.spec_unfold.proofs.ShortLaws.{alone, rule-in, widened-rules, unfolded-widened, short-fits}
use Rattle.spec_unfold.specs.Calls.{widen_of, narrow_of, widen_after, narrow_after, unfold_of, unfold_after}
use Rattle.spec_unfold.proofs.CallLaws.{Gives, after-length, widen-gives, narrow_gives, unfold-gives, widen-answers, narrow-answers}
use Rattle.spec_unfold.specs.MovingMeans.{WidenMeans, NarrowMeans}

-- ---- what an old file says, in the new form

module _ (bs : List ℕ) (v : (fault bs).number ≡ 0) where
  -- a rule of at most two symbols reads the same in both
  rule-same : (r : List ℕ) → In r (keep (has_kind rule_kind) (records_of 8 bs)) → production_of (rule_of r) ≡ spelled (byte_rule r)
  rule-same r h =
      let k = rule-in bs v r h in
      let a = alone bs v r k.0 in
      let l = wide bs v r k.0 in
      let size = body-length 5 2 (omega arith) r l a k.1 in
      let n = (rule-bytes 2 r a.range k.1).size in
      ap (λ (x : List ℕ). production_of (rule_of x)) (sym (rule-again r l a k.1)) ∙ rule-read (byte r 1) (byte_rule r).body (omega arith)

  rules-same : (l : List (List ℕ)) → ((r : List ℕ) → In r l → production_of (rule_of r) ≡ spelled (byte_rule r)) → map production_of (map rule_of l) ≡ map spelled (map byte_rule l)
  rules-same [] h = refl
  rules-same (r ∷ l) h = ap₂ (λ (x : Production) (xs : List Production). x ∷ xs) (h r (inl refl)) (rules-same l (λ s m. h s (inr m)))

  over-rules : wide_productions_of (widened bs) ≡ productions_of bs
  unfolding wide_productions_of rules_of
  over-rules =
      ap (map spelled) (widened-rules bs v)
      ∙ sym (ap (map production_of) (kept rule_kind rule_of bs) ∙ rules-same (keep (has_kind rule_kind) (records_of 8 bs)) rule-same)

  over-number : (fault_in sixteen (widened bs)).number ≡ 0
  over-number = ap (λ (x : Refusal). x.number) (widened-passes bs v)

  over-sheet : wide_automaton_of (widened bs) ≡ automaton_of bs
  over-sheet =
      sym (same-automaton 0 (widened bs) over-number (short-fits (widened bs) over-number (widened-short bs v) 0 (omega arith))) ∙ ap automaton_of (unfolded-widened bs v 0)

  -- the new file is twice as long
  over-length : length (widened bs) ≡ length bs * 2
  unfolding widened
  over-length =
      let a = length-bytes 16 (map wider (records_of 8 bs)) (wide' bs v) in
      let b = length-map (records_of 8 bs) wider in
      let c = length-blocks 8 (length bs / 8) bs in
      let d = (old bs v).whole in omega arith

  -- "Every old file moves over"
  pub every-file-moves : (room : List ℕ) → length bs * 2 ≤ length room → widen_of bs (length room) ≡ answered (length bs * 2)
  every-file-moves room h = (widen-gives bs room v (let z = over-length in omega arith)).0 ∙ ap answered over-length

  back-gives : (out : List ℕ) → length bs ≤ length out → Gives bs out (narrow_of (widened bs) (length out)) (narrow_after (widened bs) out)
  back-gives out h =
      let e = moved_back bs v in
      let z : length (narrowed (widened bs)) ≤ length out = rw e h in
      rw e at (narrow_gives (widened bs) out over-number (widened-short bs v) z)

  unfold-back-gives : (least : ℕ) → least ≤ 64 → (out : List ℕ) → length bs ≤ length out → Gives bs out (unfold_of least (widened bs) (length out)) (unfold_after least (widened bs) out)
  unfold-back-gives least l out h =
      let e = unfolded-widened bs v least in
      let z : length (unfolded_file least (widened bs)) ≤ length out = rw e h in
      rw e at (unfold-gives least (widened bs) out over-number (short-fits (widened bs) over-number (widened-short bs v) least l) z)

-- ---- moving over

pub widen-means : (bs out : List ℕ) → WidenMeans bs out (widen_after bs out) (widen_of bs (length out))
unfolding widen_after
widen-means bs out = by (widen_of bs (length out)) refl
  where
    by : (x : Reply ℕ) → widen_of bs (length out) ≡ x → WidenMeans bs out (written_by (widened bs) out x) x
    by (refused r) e = refl
    by (answered n) e =
        let a = widen-answers bs (length out) n e in
        let v = a.0 in
        let file = take_at (widened bs) (drop n out) n a.2 in
        record {
          size = sym a.2 ∙ over-length bs v;
          fits = omega (arith, a.1, a.2);
          same_length = after-length (widened bs) out n a.1 a.2;
          other-bytes = drop_at (widened bs) (drop n out) n a.2;
          passes = ap (fault_in sixteen) file ∙ widened-passes bs v;
          same-rules = ap wide_productions_of file ∙ over-rules bs v;
          same-sheet = ap wide_automaton_of file ∙ over-sheet bs v;
          moves-back = λ o h. rw file (back-gives bs v o h);
          unfolds-back = λ least l o h. rw file (unfold-back-gives bs v least l o h);
        }

-- ---- moving back

module _ (bs : List ℕ) (v : (fault_in sixteen bs).number ≡ 0) (short : has_long bs ≡ false) where
  back-number : (fault (narrowed bs)).number ≡ 0
  back-number = ap (λ (x : Refusal). x.number) (narrowed-passes bs v short)

  over-again-gives : (out : List ℕ) → length bs ≤ length out → Gives bs out (widen_of (narrowed bs) (length out)) (widen_after (narrowed bs) out)
  over-again-gives out h =
      let e = moved-again bs v short in
      let z : length (widened (narrowed bs)) ≤ length out = rw e h in
      rw e at (widen-gives (narrowed bs) out back-number z)

pub narrow-means : (bs out : List ℕ) → NarrowMeans bs out (narrow_after bs out) (narrow_of bs (length out))
unfolding narrow_after
narrow-means bs out = by (narrow_of bs (length out)) refl
  where
    by : (x : Reply ℕ) → narrow_of bs (length out) ≡ x → NarrowMeans bs out (written_by (narrowed bs) out x) x
    by (refused r) e = refl
    by (answered n) e =
        let a = narrow-answers bs (length out) n e in
        let v = a.0 in
        let s = a.1 in
        let u = back-number bs v s in
        let again = moved-again bs v s in
        let file = take_at (narrowed bs) (drop n out) n a.3 in
        record {
          size = let z = over-length (narrowed bs) u in let y = ap length again in omega (arith, a.3);
          fits = omega (arith, a.2, a.3);
          same_length = after-length (narrowed bs) out n a.2 a.3;
          other-bytes = drop_at (narrowed bs) (drop n out) n a.3;
          passes = ap fault file ∙ narrowed-passes bs v s;
          same-rules = ap productions_of file ∙ sym (over-rules (narrowed bs) u) ∙ ap wide_productions_of again;
          same-sheet = ap automaton_of file ∙ sym (over-sheet (narrowed bs) u) ∙ ap wide_automaton_of again;
          moves-over = λ o h. rw file (over-again-gives bs v s o h);
        }
