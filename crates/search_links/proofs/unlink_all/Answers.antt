-- The cells of the nonterminals are filled, and the others are as they were. Assumes nothing.
use Rattle.std.proofs.Common.{◌≡◌, ℕ, ◌+◌, ◌<◌, ◌≤◌, List, ◌++◌, length, get_or, take, drop, ◌∙◌, arith, rules, length-drop}
use Rattle.std.proofs.lemmas.List.{places, get_or-append-add, get_or_append_left, get_or-replicate, length-take-le, length-replicate}
use lib.ListN.{replicate}
use Rattle.search_links.proofs.unlink_all.Goals as goal

-- cell x of n that are filled with v, behind a
filled : (p q ys : List ℕ) (a n v x : ℕ) → length p ≡ a → ys ≡ replicate n v → x < n → get_or (p ++ (ys ++ q)) (a + x) 0 ≡ v
filled p q ys a n v x l e h =
    rw (← l, e)
    (get_or-append-add p (replicate n v ++ q) x 0
    ∙ get_or_append_left (replicate n v) q 0 x (omega (arith, length-replicate n v, h))
    ∙ get_or-replicate n x v 0 h)

pub returns : goal.returns
returns c =
    let t = c.args.table.now in
    let behind : 256 ≤ length (drop 4096 t) = omega (arith, length-drop 4096 t) in
    let all : length (take 256 (drop 4096 t)) ≡ 256 = length-take-le 256 (drop 4096 t) behind in
    record {
      size = search (rules, places);
      firsts = λ x h. filled _ _ c.fill.new.self 4096 _ 65536 x (length-take-le 4096 t (omega arith)) (c.fill.ensures.after (λ y e. e)) (omega (arith, all, h));
    }
