-- What is asked for stands among the items seen, and a reply has room for it.
use lib.Dec.{T}
use Rattle.std.proofs.Common.{◌≡◌, sym, ap, ◌∙◌, Ok}
use Rattle.directory.specs.Run.{words_of}
use Rattle.directory.specs.Views.{passes}
use Rattle.modbus.specs.Read.{read_in}
use Rattle.modbus.proofs.Judged.{asked_items}
use Rattle.board.specs.Askers.{is_tenant}
use Rattle.board.proofs.Lengths.{view_passes}
use Rattle.board.proofs.reads.read.Goals as goal

pub part-requires : goal.part-requires
part-requires c =
    let found : read_in c.directory-directory.result c.args.frame.now ≡ Ok c.in-Ok.span = sym c.read_in.ensures ∙ c.in-Ok.is in
    let good : T (passes c.directory-directory.result) = rw c.directory-directory.ensures (view_passes (is_tenant c.args.asker)) in
    (asked_items c.directory-directory.result good found).inside

pub put_data-requires-clause-words_as_asked : goal.put_data-requires-clause-words_as_asked
put_data-requires-clause-words_as_asked c =
    let found : read_in c.directory-directory.result c.args.frame.now ≡ Ok c.in-Ok.span = sym c.read_in.ensures ∙ c.in-Ok.is in
    let good : T (passes c.directory-directory.result) = rw c.directory-directory.ensures (view_passes (is_tenant c.args.asker)) in
    let asked = asked_items c.directory-directory.result good found in
    (asked.long, ap words_of c.part.ensures ∙ asked.sends)

pub put_data-requires-clause-room : goal.put_data-requires-clause-room
put_data-requires-clause-room c =
    let found : read_in c.directory-directory.result c.args.frame.now ≡ Ok c.in-Ok.span = sym c.read_in.ensures ∙ c.in-Ok.is in
    let good : T (passes c.directory-directory.result) = rw c.directory-directory.ensures (view_passes (is_tenant c.args.asker)) in
    (asked_items c.directory-directory.result good found).room
