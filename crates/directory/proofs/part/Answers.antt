-- From 4 × first on there are 4 × count numbers to the end.
use lib.ListN.{take, drop}
use Rattle.std.proofs.Common.{◌≡◌, ap, ℕ, ◌+◌, ◌-◌, ◌*◌, arith}
use Rattle.directory.proofs.part.Goals as goal

pub returns : goal.returns
returns c =
    let a = c.args in
    let long : 4 * a.first + 4 * a.count - 4 * a.first ≡ 4 * a.count = omega arith in
    ap (λ (n : ℕ). take n (drop (4 * a.first) a.table.now)) long
