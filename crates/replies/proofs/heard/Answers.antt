-- The length is tested for the two bytes that are looked at; the rest is the definition's.
use lib.ListN.{length}
use Rattle.std.proofs.Common.{refl, sym, ◌∙◌, arith}
use Rattle.std.proofs.Math.Bool.{and-false}
use borrow.Author.Tests.{lt-ltb}
use Rattle.modbus.specs.Frame.{address_of}
use Rattle.modbus.proofs.Frames.{by_length}
use Rattle.replies.proofs.Requests.{heard_by}
use Rattle.replies.proofs.heard.Goals as goal

pub returns-then-request-lt-FRAME_LEAST : goal.returns-then-request-lt-FRAME_LEAST
returns-then-request-lt-FRAME_LEAST c =
    let f = c.args.request.now in
    sym (heard_by f refl (sym (by_length (address_of f) f (simp (lt-ltb (length f) 4 (omega arith))))) ∙ simp and-false)

pub returns-then-address-request : goal.returns-then-address-request
returns-then-address-request c = sym (heard_by c.args.request.now c.if-address-request.true refl)

pub returns : goal.returns
returns c = rw c.silence.ensures (sym (heard_by c.args.request.now c.if-address-request.false refl))
