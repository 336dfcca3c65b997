-- `intact_by` is the written test: a frame below two bytes fails it, and a longer one is held to the CRC of what stands before its last
-- two bytes.
use Rattle.std.proofs.Common.{rules, refl, ap, ◌∙◌}
use Rattle.std.specs.Fn.{FnReturnsAt}
use Rattle.crc.specs.Crc.{crc_of}
use Rattle.crc.proofs.Laws.{short_broken, ends_intact}
use Rattle.crc.proofs.intact_by.Goals as goal

pub returns-in_default : goal.returns-in_default
returns-in_default g c = short_broken _ (search rules)

pub returns : goal.returns
returns g c =
    let body = c.in-Some.body in
    let says : FnReturnsAt g.F.Fn c.args.of body.now c.of.result = record { shown = body; shows = refl; says = record { met = c.of.ensures } } in
    c.ends_in.ensures
    ∙ ends_intact _ c.of.result (c.requires.takes_the_crc body.now c.of.result says ∙ ap crc_of c.in-Some.ensures.cases.0)
