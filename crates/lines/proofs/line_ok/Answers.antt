-- What is left passes the test of pairs where the line passes its own. In the end a pair is left, or fewer characters, which are none.
use lib.ListN.{length, get_or, take, drop, length-drop}
use Rattle.std.proofs.Common.{◌≡◌, sym, ◌∙◌, Bool, true, false, ◌&&◌, List, ℕ, ◌-◌, ◌≤◌, arith}
use lib.Dec.{eqb}
use lib.Seq.{take_all}
use Rattle.digits.specs.Hex.{pair_ok}
use Rattle.lines.specs.Lines.{pairs_ok}
use Rattle.lines.proofs.Laws.{pairs_more, pairs_last, pairs_short}
use Rattle.lines.proofs.line_ok.Goals as goal

-- the first pair and its space are good or not, and what is behind them
turn : (rest : List ℕ) (r t : Bool) → 3 ≤ length rest → r ≡ pair_ok (get_or rest 0 0) (get_or rest 1 0) → (r && eqb (get_or rest 2 0) 0x20) ≡ t → (t && pairs_ok (take (length rest - 3) (drop 3 rest))) ≡ pairs_ok rest
turn rest r t h e q =
    let all : take (length rest - 3) (drop 3 rest) ≡ drop 3 rest = take_all (length rest - 3) (drop 3 rest) (omega (arith, length-drop 3 rest)) in
    rw (all, pairs_more rest h, ← e, q)

pub loop-rest-preserved : goal.loop-rest-preserved
loop-rest-preserved c = turn c.loop-rest.rest.now c.pair_ok.result true c.in-len3-up.len_at_least c.pair_ok.ensures c.if-pair_ok-space.true ∙ c.loop-rest.invariant

pub returns-else-pair_ok-space : goal.returns-else-pair_ok-space
returns-else-pair_ok-space c = turn c.loop-rest.rest.now c.pair_ok.result false c.in-len3-up.len_at_least c.pair_ok.ensures c.if-pair_ok-space.false ∙ c.loop-rest.invariant

pub returns-in-len2 : goal.returns-in-len2
returns-in-len2 c = c.pair_ok-in-len2.ensures ∙ sym (pairs_last c.loop-rest.rest.now (omega arith)) ∙ c.loop-rest.invariant

pub returns-in_default-rest : goal.returns-in_default-rest
returns-in_default-rest c = sym (pairs_short c.loop-rest.rest.now (omega arith)) ∙ c.loop-rest.invariant
