-- The value of words of bytes fits them.
use Rattle.std.proofs.Common.{◌≡◌, ◌∙◌, ap, ℕ, arith}
use Rattle.words.specs.Words.{value_at}
use Rattle.words.proofs.Laws.{value_fits}
use Rattle.collector.proofs.data.value.Goals as goal

pub returns : goal.returns
returns c =
    let a = c.args in
    let e : c.value_at.result ≡ value_at a.order a.it.words a.reply.now a.at = c.value_at.ensures ∙ ap (λ (n : ℕ). value_at a.order n a.reply.now a.at) c.from.ensures in
    record { value = e; fits = rw e (value_fits a.reply.now (λ i. omega (arith, c.type_inv.reply i)) a.order a.it.words a.at) }
