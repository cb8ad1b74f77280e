-- Numbers 16, 17, 18 and 10 at their edges, the checks of a 16-byte record, and unfolded files to their bytes, computed. They settle what no
-- theorem says. Assumes nothing.
use Rattle.std.specs.Prelude.{◌≡◌, Bool, true, false, List, [], ◌∷◌, ◌++◌, ℕ, ◌-◌, length, replicate}
use Rattle.std.proofs.Math.Path.{refl}
use Rattle.spec_language.specs.Grammar.{terminal, nonterminal}
use Rattle.spec_file.specs.Forms.{sixteen}
use Rattle.spec_file.specs.Records.{count_in}
use Rattle.spec_file.specs.Refusals.{Refusal, refuse, kind_known, on_remark, rises_from, over_limit, above_range_in, stray_byte_in, exceeds_in, fault_by_in, fault_at_in, fault_from_in, length_fault_in, fault_in}
use Rattle.spec_calls.specs.Replies.{Reply, refused, answered}
use Rattle.spec_unfold.specs.Moving.{widened, narrowed, has_long}
use Rattle.spec_unfold.specs.Chains.{chains_in, chain, unfolded, above_body, first_free}
use Rattle.spec_unfold.specs.Sorting.{insert, insert_all}
use Rattle.spec_unfold.specs.Unfolding.{wide_productions_of, wide_automaton_of, unfolded_file, too_many}
use Rattle.spec_unfold.specs.Calls.{output_fault, long_fault, chain_fault, widen_of, narrow_of, unfold_of, widen_after, narrow_after, unfold_after}

-- the bytes of a record of w bytes, zeros after those that are given, and then the rest of the file
abbrev pub padded : ℕ → List ℕ → List ℕ → List ℕ
padded w r rest = r ++ replicate (w - length r) 0 ++ rest

abbrev pub wide : List ℕ → List ℕ → List ℕ
wide r rest = padded 16 r rest

abbrev pub short : List ℕ → List ℕ → List ℕ
short r rest = padded 8 r rest

-- the symbols 1 to 12
abbrev pub twelve : List ℕ
twelve = 1 ∷ 2 ∷ 3 ∷ 4 ∷ 5 ∷ 6 ∷ 7 ∷ 8 ∷ 9 ∷ 10 ∷ 11 ∷ 12 ∷ []

-- ---- the file checks of the new form

pub wide_refusal : List ℕ → Refusal
unfolding fault_in length_fault_in fault_from_in fault_at_in fault_by_in kind_known above_range_in stray_byte_in on_remark rises_from exceeds_in over_limit count_in
wide_refusal bs = fault_in sixteen bs

-- 16, in 1's place
pub torn :
    (wide_refusal (replicate 8 1) ≡ refuse 16 0)
    × (wide_refusal (wide (1 ∷ []) (1 ∷ [])) ≡ refuse 16 0)
    -- 1,297 records and a byte: 16 before 2
    × (wide_refusal (replicate 20753 0) ≡ refuse 16 0)
    -- 1,297 records, and 1,296
    × (wide_refusal (replicate 20752 0) ≡ refuse 2 0)
    × (wide_refusal (replicate 20736 0) ≡ refuse 3 0)
unfolding wide_refusal
torn = (refl, refl, refl, refl, refl)

-- 4: "twelve symbols in bytes 3 to 14"
pub bodies :
    (wide_refusal (wide (1 ∷ 0 ∷ 12 ∷ twelve) []) ≡ refuse 0 0)
    × (wide_refusal (wide (1 ∷ 0 ∷ 13 ∷ twelve) []) ≡ refuse 4 0)
    -- the last symbol has its range
    × (wide_refusal (wide (1 ∷ 0 ∷ 12 ∷ replicate 11 0 ++ 191 ∷ []) []) ≡ refuse 0 0)
    × (wide_refusal (wide (1 ∷ 0 ∷ 12 ∷ replicate 11 0 ++ 192 ∷ []) []) ≡ refuse 4 0)
    -- and one that is not used has none
    × (wide_refusal (wide (1 ∷ 0 ∷ 11 ∷ replicate 11 0 ++ 192 ∷ []) []) ≡ refuse 5 0)
unfolding wide_refusal
bodies = (refl, refl, refl, refl, refl)

-- 5: "byte 15 and all unused bytes are 0"
pub unused :
    (wide_refusal (wide (1 ∷ 0 ∷ 12 ∷ twelve ++ 1 ∷ []) []) ≡ refuse 5 0)
    × (wide_refusal (wide (1 ∷ 0 ∷ 3 ∷ 1 ∷ 2 ∷ 3 ∷ 4 ∷ []) []) ≡ refuse 5 0)
    × (wide_refusal (wide (2 ∷ 0 ∷ 1 ∷ 1 ∷ 9 ∷ []) []) ≡ refuse 5 0)
    × (wide_refusal (wide (3 ∷ 0 ∷ 0 ∷ replicate 12 0 ++ 1 ∷ []) []) ≡ refuse 5 0)
unfolding wide_refusal
unused = (refl, refl, refl, refl)

-- "kinds and order are as before": 12 before 6, and 6 compares all sixteen bytes
pub as_before :
    (wide_refusal (wide (2 ∷ 1 ∷ 1 ∷ 1 ∷ []) (wide (2 ∷ 0 ∷ 120 ∷ 1 ∷ []) [])) ≡ refuse 12 1)
    × (wide_refusal (wide (1 ∷ 0 ∷ 12 ∷ twelve) (wide (1 ∷ 0 ∷ 12 ∷ replicate 11 1 ++ 9 ∷ []) [])) ≡ refuse 6 1)
    × (wide_refusal (wide (1 ∷ 0 ∷ 12 ∷ replicate 11 1 ++ 9 ∷ []) (wide (1 ∷ 0 ∷ 12 ∷ replicate 11 1 ++ 9 ∷ []) [])) ≡ refuse 6 1)
    × (wide_refusal (wide (1 ∷ 0 ∷ 12 ∷ replicate 11 1 ++ 8 ∷ []) (wide (1 ∷ 0 ∷ 12 ∷ replicate 11 1 ++ 9 ∷ []) [])) ≡ refuse 0 0)
unfolding wide_refusal
as_before = (refl, refl, refl, refl)

-- ---- what a 16-byte file says

-- 0 gives 5, procedure 5, 7; a move from 0 on 9 to 15; finishing 15
abbrev pub sample : List ℕ
sample = wide (1 ∷ 0 ∷ 3 ∷ 5 ∷ 133 ∷ 7 ∷ []) (wide (2 ∷ 0 ∷ 9 ∷ 15 ∷ []) (wide (3 ∷ 15 ∷ []) []))

pub says :
    (wide_productions_of sample ≡ record { head = 0; symbols = terminal 5 ∷ nonterminal 5 ∷ terminal 7 ∷ [] } ∷ [])
    × (wide_automaton_of sample ≡ record { transitions = record { source = 0; letter = 9; target = 15 } ∷ []; finals = 15 ∷ [] })
unfolding wide_productions_of wide_automaton_of
says = (refl, refl)

-- ---- unfolding; least is 0 before C-18

pub unfold_now : ℕ → List ℕ → ℕ → Reply ℕ
unfolding unfold_of output_fault chain_fault too_many unfolded_file chains_in chain unfolded above_body first_free insert insert_all wide_refusal
unfold_now least bs room = unfold_of least bs room

pub unfold_into : ℕ → List ℕ → List ℕ → List ℕ
unfolding unfold_after unfold_now
unfold_into least bs old = unfold_after least bs old

-- a body of three: 0 gives 5 6 7. The byte past the result stays
pub three-symbols :
    unfold_into 0 (wide (1 ∷ 0 ∷ 3 ∷ 5 ∷ 6 ∷ 7 ∷ []) []) (replicate 17 9)
    ≡ short (1 ∷ 0 ∷ 2 ∷ 5 ∷ 129 ∷ []) (short (1 ∷ 1 ∷ 2 ∷ 6 ∷ 7 ∷ []) (9 ∷ []))
unfolding unfold_into
three-symbols = refl

-- a body of three and one of four; procedure 5 is in use as a symbol only, so the chain procedures are 6, 7 and 8: "in file order and left to
-- right". "The resulting rules are put in file order", and the move and the finishing stage follow
pub four-symbols :
    unfold_into 0
    (wide (1 ∷ 0 ∷ 3 ∷ 133 ∷ 1 ∷ 2 ∷ []) (wide (1 ∷ 0 ∷ 4 ∷ 1 ∷ 2 ∷ 3 ∷ 4 ∷ []) (wide (2 ∷ 0 ∷ 1 ∷ 15 ∷ []) (wide (3 ∷ 15 ∷ []) []))))
    (replicate 56 9)
    ≡ short (1 ∷ 0 ∷ 2 ∷ 1 ∷ 135 ∷ [])
    (short (1 ∷ 0 ∷ 2 ∷ 133 ∷ 134 ∷ [])
    (short (1 ∷ 6 ∷ 2 ∷ 1 ∷ 2 ∷ [])
    (short (1 ∷ 7 ∷ 2 ∷ 2 ∷ 136 ∷ [])
    (short (1 ∷ 8 ∷ 2 ∷ 3 ∷ 4 ∷ [])
    (short (2 ∷ 0 ∷ 1 ∷ 15 ∷ [])
    (short (3 ∷ 15 ∷ []) []))))))
unfolding unfold_into
four-symbols = refl

-- equal rests have a chain procedure each; procedure 4 is in use as a head only
pub equal-rests :
    unfold_into 0 (wide (1 ∷ 0 ∷ 3 ∷ 1 ∷ 2 ∷ 3 ∷ []) (wide (1 ∷ 4 ∷ 3 ∷ 9 ∷ 2 ∷ 3 ∷ []) [])) (replicate 32 0)
    ≡ short (1 ∷ 0 ∷ 2 ∷ 1 ∷ 133 ∷ []) (short (1 ∷ 4 ∷ 2 ∷ 9 ∷ 134 ∷ []) (short (1 ∷ 5 ∷ 2 ∷ 2 ∷ 3 ∷ []) (short (1 ∷ 6 ∷ 2 ∷ 2 ∷ 3 ∷ []) [])))
unfolding unfold_into
equal-rests = refl

-- C-18: the chain procedures are not below `least`
pub above-least :
    unfold_into 40 (wide (1 ∷ 0 ∷ 3 ∷ 5 ∷ 6 ∷ 7 ∷ []) []) (replicate 16 0) ≡ short (1 ∷ 0 ∷ 2 ∷ 5 ∷ 168 ∷ []) (short (1 ∷ 40 ∷ 2 ∷ 6 ∷ 7 ∷ []) [])
unfolding unfold_into
above-least = refl

-- 18 at procedure 64
pub procedures :
    -- 62 is in use: a body of three takes 63, and one of four would take 64
    (unfold_now 0 (wide (1 ∷ 62 ∷ 3 ∷ 1 ∷ 2 ∷ 3 ∷ []) []) 16 ≡ answered 16)
    × (unfold_now 0 (wide (1 ∷ 62 ∷ 4 ∷ 1 ∷ 2 ∷ 3 ∷ 4 ∷ []) []) 24 ≡ refused (refuse 18 0))
    -- 63 is in use: as a symbol, and in a file that needs no chain procedure
    × (unfold_now 0 (wide (1 ∷ 0 ∷ 3 ∷ 191 ∷ 2 ∷ 3 ∷ []) []) 16 ≡ refused (refuse 18 0))
    × (unfold_now 0 (wide (1 ∷ 63 ∷ 2 ∷ 1 ∷ 2 ∷ []) []) 8 ≡ answered 8)
unfolding unfold_now
procedures = (refl, refl, refl, refl)

-- 18 at rule 257: n rules of procedure 0 with an empty body, and one with a body of three
pub rules : ℕ → Bool
unfolding too_many chains_in above_body first_free
rules n = too_many 0 (replicate n (record { head = 0; body = [] }) ++ (record { head = 0; body = 1 ∷ 2 ∷ 3 ∷ [] } ∷ []))

pub rule-limit : (rules 254 ≡ false) × (rules 255 ≡ true)
unfolding rules
rule-limit = (refl, refl)

-- 16, then 18, then 10; a refused call leaves the output
pub unfold-order :
    (unfold_now 0 (1 ∷ []) 0 ≡ refused (refuse 16 0))
    × (unfold_now 0 (wide (1 ∷ 63 ∷ 3 ∷ 1 ∷ 2 ∷ 3 ∷ []) []) 0 ≡ refused (refuse 18 0))
    × (unfold_now 0 (wide (1 ∷ 0 ∷ 3 ∷ 1 ∷ 2 ∷ 3 ∷ []) []) 15 ≡ refused (refuse 10 0))
    × (unfold_now 0 (wide (1 ∷ 0 ∷ 3 ∷ 1 ∷ 2 ∷ 3 ∷ []) []) 16 ≡ answered 16)
    × (unfold_into 0 (wide (1 ∷ 0 ∷ 3 ∷ 1 ∷ 2 ∷ 3 ∷ []) []) (7 ∷ 8 ∷ []) ≡ 7 ∷ 8 ∷ [])
unfolding unfold_now unfold_into
unfold-order = (refl, refl, refl, refl, refl)

-- ---- moving

pub widen_now : List ℕ → ℕ → Reply ℕ
unfolding widen_of output_fault widened wide_refusal
widen_now bs room = widen_of bs room

pub widen_into : List ℕ → List ℕ → List ℕ
unfolding widen_after widen_now
widen_into bs old = widen_after bs old

pub narrow_now : List ℕ → ℕ → Reply ℕ
unfolding narrow_of output_fault long_fault has_long narrowed wide_refusal
narrow_now bs room = narrow_of bs room

pub narrow_into : List ℕ → List ℕ → List ℕ
unfolding narrow_after narrow_now
narrow_into bs old = narrow_after bs old

pub over :
    (widen_into (short (1 ∷ 0 ∷ 2 ∷ 1 ∷ 2 ∷ []) (short (3 ∷ 1 ∷ []) [])) (replicate 33 9) ≡ wide (1 ∷ 0 ∷ 2 ∷ 1 ∷ 2 ∷ []) (wide (3 ∷ 1 ∷ []) (9 ∷ [])))
    -- the file before 10
    × (widen_now (1 ∷ []) 0 ≡ refused (refuse 1 0))
    × (widen_now (short (3 ∷ 1 ∷ []) []) 15 ≡ refused (refuse 10 0))
    × (widen_now (short (3 ∷ 1 ∷ []) []) 16 ≡ answered 16)
unfolding widen_into widen_now
over = (refl, refl, refl, refl)

-- 17 of a body of three and not of two
pub back :
    (narrow_into (wide (1 ∷ 0 ∷ 2 ∷ 1 ∷ 2 ∷ []) (wide (3 ∷ 1 ∷ []) [])) (replicate 17 9) ≡ short (1 ∷ 0 ∷ 2 ∷ 1 ∷ 2 ∷ []) (short (3 ∷ 1 ∷ []) (9 ∷ [])))
    × (narrow_now (wide (1 ∷ 0 ∷ 3 ∷ 1 ∷ 2 ∷ 3 ∷ []) []) 8 ≡ refused (refuse 17 0))
    × (narrow_now (wide (1 ∷ 0 ∷ 2 ∷ 1 ∷ 2 ∷ []) []) 8 ≡ answered 8)
    -- 16, then 17, then 10
    × (narrow_now (wide (1 ∷ 0 ∷ 3 ∷ 1 ∷ 2 ∷ 3 ∷ []) (1 ∷ [])) 0 ≡ refused (refuse 16 0))
    × (narrow_now (wide (1 ∷ 0 ∷ 3 ∷ 1 ∷ 2 ∷ 3 ∷ []) []) 0 ≡ refused (refuse 17 0))
    × (narrow_now (wide (1 ∷ 0 ∷ 2 ∷ 1 ∷ 2 ∷ []) []) 7 ≡ refused (refuse 10 0))
unfolding narrow_into narrow_now
back = (refl, refl, refl, refl, refl, refl)
