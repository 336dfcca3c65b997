-- The tests are the definition's own, in its order.
use lib.ListN.{length}
use Rattle.std.proofs.Common.{◌≡◌, Err, ap, sym, ◌∙◌, arith, List, true, false, ◌||◌, ℕ, ◌≤◌}
use lib.Dec.{ltb}
use borrow.Author.Tests.{eq-eqb, ne_eqb, ltb-false}
use Rattle.crc.specs.Crc.{intact}
use Rattle.modbus.proofs.Frames.{neither, outside}
use Rattle.replies.specs.Judged.{length_wrong}
use Rattle.replies.proofs.Judged.{length_refused, crc_refused, foreign_refused, error_given, misfit_refused, data_given, misfit_read}
use Rattle.replies.proofs.replied.Goals as goal

-- the bytes that are looked at are there
long : (reply : List ℕ) → (ltb (length reply) 5 || ltb 256 (length reply)) ≡ false → 5 ≤ length reply
long reply h = ltb-false (length reply) 5 (neither (ltb (length reply) 5) (ltb 256 (length reply)) h).0

pub returns-then-not-contains : goal.returns-then-not-contains
returns-then-not-contains c =
    let a = c.args in
    ap Err c.into.ensures
    ∙ length_refused a.request.now a.reply.now tt
    (outside 5 (length a.reply.now) 256 (rw (c.new.ensures.start, c.new.ensures.end, c.new.ensures.exhausted) at c.if-not-contains.ensures.value))

pub returns-then-not-intact : goal.returns-then-not-intact
returns-then-not-intact c =
    let a = c.args in
    ap Err c.into-then-not-intact.ensures
    ∙ crc_refused a.request.now a.reply.now tt
    (outside 5 (length c.args.reply.now) 256 (rw (c.new.ensures.start, c.new.ensures.end, c.new.ensures.exhausted) at c.if-not-contains.ensures.value)) (sym c.intact.ensures ∙ c.if-not-intact.true)

pub bounds-reply-1 : goal.bounds-reply-1
bounds-reply-1 c = omega (arith, long c.args.reply.now (outside 5 (length c.args.reply.now) 256 (rw (c.new.ensures.start, c.new.ensures.end, c.new.ensures.exhausted) at c.if-not-contains.ensures.value)))

pub bounds-reply-0 : goal.bounds-reply-0
bounds-reply-0 c = omega (arith, long c.args.reply.now (outside 5 (length c.args.reply.now) 256 (rw (c.new.ensures.start, c.new.ensures.end, c.new.ensures.exhausted) at c.if-not-contains.ensures.value)))

pub bounds-request-0 : goal.bounds-request-0
bounds-request-0 c = omega (arith, c.requires)

pub returns-then-reply-request : goal.returns-then-reply-request
returns-then-reply-request c =
    let right_length : length_wrong c.args.reply.now ≡ false = (outside 5 (length c.args.reply.now) 256 (rw (c.new.ensures.start, c.new.ensures.end, c.new.ensures.exhausted) at c.if-not-contains.ensures.value)) in
    let whole : intact c.args.reply.now ≡ true = sym c.intact.ensures ∙ c.if-not-intact.false in
    let a = c.args in
    ap Err c.into-then-reply-request.ensures
    ∙ foreign_refused a.request.now a.reply.now tt right_length whole c.if-reply-request.true

pub error-requires : goal.error-requires
error-requires c = long c.args.reply.now (outside 5 (length c.args.reply.now) 256 (rw (c.new.ensures.start, c.new.ensures.end, c.new.ensures.exhausted) at c.if-not-contains.ensures.value))

pub returns-then-function : goal.returns-then-function
returns-then-function c =
    let right_length : length_wrong c.args.reply.now ≡ false = (outside 5 (length c.args.reply.now) 256 (rw (c.new.ensures.start, c.new.ensures.end, c.new.ensures.exhausted) at c.if-not-contains.ensures.value)) in
    let whole : intact c.args.reply.now ≡ true = sym c.intact.ensures ∙ c.if-not-intact.false in
    let a = c.args in
    ap Err c.error.ensures
    ∙ error_given a.request.now a.reply.now tt
    right_length whole c.if-reply-request.false (eq-eqb _ _ c.if-function.true)

pub bounds-reply-2 : goal.bounds-reply-2
bounds-reply-2 c = omega (arith, long c.args.reply.now (outside 5 (length c.args.reply.now) 256 (rw (c.new.ensures.start, c.new.ensures.end, c.new.ensures.exhausted) at c.if-not-contains.ensures.value)))

pub word_at-requires : goal.word_at-requires
word_at-requires c = omega (arith, c.requires)

pub overflow_add-bytes : goal.overflow_add-bytes
overflow_add-bytes c = omega (arith, c.from-bytes.ensures, c.type_inv.reply 2)

pub returns-then-bytes-from : goal.returns-then-bytes-from
returns-then-bytes-from c =
    let right_length : length_wrong c.args.reply.now ≡ false = (outside 5 (length c.args.reply.now) 256 (rw (c.new.ensures.start, c.new.ensures.end, c.new.ensures.exhausted) at c.if-not-contains.ensures.value)) in
    let whole : intact c.args.reply.now ≡ true = sym c.intact.ensures ∙ c.if-not-intact.false in
    let a = c.args in
    ap Err c.into-then-bytes-from.ensures
    ∙ misfit_refused a.request.now a.reply.now tt
    right_length whole c.if-reply-request.false (ne_eqb _ _ c.if-function.false)
    (misfit_read a.request.now a.reply.now _ true (c.from.ensures ∙ c.word_at.ensures) (rw c.from-bytes.ensures at c.if-bytes-from.true))

pub returns : goal.returns
returns c =
    let right_length : length_wrong c.args.reply.now ≡ false = (outside 5 (length c.args.reply.now) 256 (rw (c.new.ensures.start, c.new.ensures.end, c.new.ensures.exhausted) at c.if-not-contains.ensures.value)) in
    let whole : intact c.args.reply.now ≡ true = sym c.intact.ensures ∙ c.if-not-intact.false in
    let a = c.args in
    data_given a.request.now a.reply.now tt
    right_length whole c.if-reply-request.false (ne_eqb _ _ c.if-function.false)
    (misfit_read a.request.now a.reply.now _ false (c.from.ensures ∙ c.word_at.ensures) (rw c.from-bytes.ensures at c.if-bytes-from.false))
