-- Three stores are the reply without its CRC, and the CRC behind them seals it.
use lib.ListN.{length, length-set}
use Rattle.std.proofs.Common.{refl, ap, ◌∙◌, [], ◌∷◌, ◌+◌, arith}
use lib.Seq.{length-sets}
use Rattle.refusal.specs.Numbers.{error_number}
use Rattle.modbus.specs.Frame.{address_of, function_of}
use Rattle.modbus.specs.Replies.{error_reply}
use Rattle.modbus.proofs.Stores.{seals}
use Rattle.modbus.proofs.put_error.Goals as goal

pub bounds-buffer-1 : goal.bounds-buffer-1
bounds-buffer-1 c = simp length-set (omega arith)

pub bounds-buffer-2 : goal.bounds-buffer-2
bounds-buffer-2 c = simp length-set (omega arith)

pub returns : goal.returns
returns c = let a = c.args in
    record { value = refl; buffer_after = seals a.buffer.now (address_of a.frame.now ∷ (function_of a.frame.now + 0x80) ∷ error_number a.code ∷ []) 3 _ _ _ refl (omega arith) c.put.ensures (rw c.number.ensures refl) }

pub shape_of-buffer : goal.shape_of-buffer
shape_of-buffer c =
    let a = c.args in
    ap length (returns c).buffer_after ∙ length-sets a.buffer.now 0 (error_reply a.frame.now a.code)
