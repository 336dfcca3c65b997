-- Two words stored one behind the other are one run of stores.
use Rattle.std.proofs.Common.{ap, ◌∙◌, List, ℕ, ◌+◌}
use lib.Seq.{sets}
use Rattle.words.specs.Words.{word}
use Rattle.words.proofs.Laws.{sets_append}
use Rattle.words.proofs.put_two.Goals as goal

pub returns : goal.returns
returns c =
    let a = c.args in
    rw sets_append
    (c.put_word-2.ensures ∙ ap (λ (l : List ℕ). sets l (a.at + 2) (word a.second)) c.put_word.ensures)
