-- What unfolding a file needs, counted record by record. Definitions only. Assumes nothing.
use Rattle.std.specs.Prelude.{cond, List, [], ◌∷◌, ℕ, suc, ◌+◌, max}
use Rattle.spec_file.specs.Records.{byte, rule_kind}
use Rattle.spec_records.specs.OnRecords.{body_in}
use Rattle.spec_unfold.specs.Chains.{chains_for, above_body}
use Rattle.spec_unfold.specs.Unfolding.{has_kind, byte_rule, above_byte}
use Rattle.unfold_count.specs.declared.Needed.{Needed}

-- before the first record
abbrev pub none_yet : ℕ → Needed
none_yet least = record { first = least; chains = 0; rules = 0 }

-- one rule more
abbrev pub with_rule : Needed → List ℕ → Needed
with_rule t r =
    record { first = above_body above_byte (max t.first (suc (byte r 1))) (body_in r); chains = t.chains + chains_for (byte_rule r); rules = t.rules + 1 }

-- one record more
unfoldable pub with_record : Needed → List ℕ → Needed
with_record t r = cond (has_kind rule_kind r) (with_rule t r) t

-- and all that follow
unfoldable pub with_records : Needed → List (List ℕ) → Needed
with_records t [] = t
with_records t (r ∷ rs) = with_records (with_record t r) rs
