-- A reply has fewer than three characters a byte, so that there is room for three.
use lib.ListN.{length, take}
use Rattle.std.proofs.Common.{rules, ◌≡◌, refl, ap, true, ◌*◌, Some, Ok, arith}
use borrow.Author.Tests.{le-leb}
use Rattle.lines.specs.Lines.{text_of, text_fits}
use Rattle.lines.proofs.Texts.{text_length_lem}
use Rattle.transcript.specs.Transcript.{reply_text}
use Rattle.transcript.proofs.tell.Goals as goal

pub unwrap-requires : goal.unwrap-requires
unwrap-requires c =
    let bytes = take c.in-Ok-Some.n c.args.bytes.now in
    let is : c.args.reply ≡ Ok (Some c.in-Ok-Some.n) = search rules in
    let long = ap (λ d. length (reply_text d c.args.bytes.now)) is in
    let fits : text_fits bytes (length c.args.text.now) ≡ true =
    le-leb (3 * length bytes) (length c.args.text.now) (omega (arith, c.requires.room, long, text_length_lem bytes)) in
    let put : c.text.result ≡ Some (length (text_of bytes)) = rw fits at c.text.ensures.told in
    rw put refl
