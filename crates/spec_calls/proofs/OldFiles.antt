-- What stays of a file from before request C-14, whose states are all below 8 (document 02: an old file's "holds" or "broken" stays unless the
-- new order ends full or spent; and so does "empty", C-15). Both orders have the same rows and budget. Nothing is said of their joins, rows and passes: the empty word's
-- relation has the pairs of the new states too, so it compares otherwise. Assumes nothing.
use Rattle.std.specs.Prelude.{◌≡◌, refl, List, ℕ}
use Rattle.std.proofs.Common.{ap, ◌∙◌}
use Rattle.relation.specs.Relation.{states}
use Rattle.spec_language.specs.Automaton.{Within}
use Rattle.spec_file.proofs.Valid.{automaton-within}
use Rattle.spec_file.specs.Views.{automaton_of}
use Rattle.spec_order.specs.Order.{Answer, Verdict, holds, broken, full, spent, empty}
use Rattle.spec_order.proofs.Stability.{Firm}
use Rattle.spec_calls.specs.Checking.{Settings, order_over, order_on, check_of, shown, shown_head}
use Rattle.spec_calls.proofs.Promising.{from-order}
use Rattle.spec_calls.specs.Replies.{answered}
use Rattle.spec_calls.proofs.VerdictTruth.{meaning, shows, found, underivable, accepted}

-- how many states an automaton had
abbrev pub old_states : ℕ
old_states = 8

-- "holds", "broken" and "empty" do not hang on the count of states, where the file's automaton keeps to both counts
pub verdict-stays : (n m : ℕ) (bs : List ℕ) → Within n (automaton_of bs) → Within m (automaton_of bs) → (g : Settings) (x : Verdict) → Firm x
    → (order_over n bs g).verdict ≡ x → ((order_over m bs g).verdict ≡ full → ⊥) → ((order_over m bs g).verdict ≡ spent → ⊥) → (order_over m bs g).verdict ≡ x
verdict-stays n m bs hn hm g full firm e f s = absurd firm
verdict-stays n m bs hn hm g spent firm e f s = absurd firm
verdict-stays n m bs hn hm g broken firm e f s = found m bs hm g (order_over m bs g).verdict refl f s (shown_head (order_over n bs g), shown bs (order_over n bs g), shows n bs hn g e)
verdict-stays n m bs hn hm g holds firm e f s = accepted m bs hm g (order_over m bs g).verdict refl f s (meaning n bs hn g holds e)
verdict-stays n m bs hn hm g empty firm e f s = underivable m bs hm g (order_over m bs g).verdict refl f s (meaning n bs hn g empty e)

-- the answer to a check of an old file has the verdict that eight states give
pub old-verdict-stays : (bs : List ℕ) → Within old_states (automaton_of bs) → (g : Settings) (a : Answer ℕ) → check_of bs g ≡ answered a
    → (a.verdict ≡ full → ⊥) → (a.verdict ≡ spent → ⊥) → Firm (order_over old_states bs g).verdict → a.verdict ≡ (order_over old_states bs g).verdict
unfolding order_on
old-verdict-stays bs old g a e f s firm =
    let o = from-order bs g a e in
    let same : a.verdict ≡ (order_over states bs g).verdict = ap (λ (x : Answer ℕ). x.verdict) o.2 in
    same ∙ verdict-stays old_states states bs old (automaton-within bs o.0) g (order_over old_states bs g).verdict firm refl (λ p. f (same ∙ p)) (λ p. s (same ∙ p))
