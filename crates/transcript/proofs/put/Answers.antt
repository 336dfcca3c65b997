-- What is copied stands in front of what was behind it.
use Rattle.std.proofs.Common.{sym, ap, ◌∙◌, List, ◌++◌, ℕ, length}
use lib.ListN.{drop}
use Rattle.modbus.proofs.Stores.{sets_front}
use Rattle.transcript.proofs.put.Goals as goal

pub returns-clause-text_after : goal.returns-clause-text_after
returns-clause-text_after c =
    ap (λ (l : List ℕ). l ++ drop (length c.args.characters.now) c.args.text.now) c.copy_from_slice.ensures.after
    ∙ sym (sets_front c.args.text.now c.args.characters.now c.requires)
