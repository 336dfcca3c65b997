-- A write that is not shaped, or goes to no group, is wrong; the others are judged by the words and the ranges of their group.
use Rattle.std.proofs.Common.{rules, ◌≡◌, refl, sym, ap, ◌∙◌, true, ℕ, List, arith, Ok, Err}
use borrow.Author.Tests.{ne_eqb}
use Rattle.modbus.specs.Frame.{start_of, write_values, write_shaped}
use Rattle.modbus.proofs.Frames.{shaped_length}
use Rattle.meter.specs.declared.groups.Setup.{Setup}
use Rattle.meter.specs.Groups.{with_standard, with_output}
use Rattle.meter.specs.Meters.{set_up_of}
use Rattle.store.specs.Writes.{to_group, group_words, replaced_in}
use Rattle.store.proofs.Stored.{misshaped, nowhere, misfit, fits, bad, good}
use Rattle.store.proofs.write.Goals.{in-8192+in_ok-standard-in-8192+else-not-standard_ok, in-8704+in_ok-output-in-8704+else-not-output_ok}
use Rattle.store.proofs.write.Goals as goal

-- the group that a start names, how many words it has, and the setup with it replaced
module _ (frame : List ℕ) where
  standard : start_of frame ≡ 0x2000 → (to_group frame ≡ true) × (group_words frame ≡ 16)
  standard a = rw a (refl, refl)

  output : start_of frame ≡ 0x2200 → (to_group frame ≡ true) × (group_words frame ≡ 24)
  output a = rw a (refl, refl)

  with_new_standard : (s : Setup) (group : List ℕ) → start_of frame ≡ 0x2000 → group ≡ write_values frame → with_standard s group ≡ replaced_in s frame
  with_new_standard s group a e = rw (a, e) refl

  with_new_output : (s : Setup) (group : List ℕ) → start_of frame ≡ 0x2200 → group ≡ write_values frame → with_output s group ≡ replaced_in s frame
  with_new_output s group a e = rw (a, e) refl

pub returns-then-not-write_shaped : goal.returns-then-not-write_shaped
returns-then-not-write_shaped c = misshaped c.args.m c.args.frame.now (sym c.write_shaped.ensures ∙ c.if-not-write_shaped.true)

pub word_at-requires : goal.word_at-requires
word_at-requires c =
    let shaped : write_shaped c.args.frame.now ≡ true = sym c.write_shaped.ensures ∙ c.if-not-write_shaped.false in
    omega (arith, (shaped_length c.args.frame.now shaped).0)

pub returns-in_err-standard-in-8192 : goal.returns-in_err-standard-in-8192
returns-in_err-standard-in-8192 c =
    let shaped : write_shaped c.args.frame.now ≡ true = sym c.write_shaped.ensures ∙ c.if-not-write_shaped.false in
    let start : start_of c.args.frame.now ≡ 0x2000 = sym c.word_at.ensures ∙ c.in-8192.is in
    let same : c.from_residual.result ≡ Err c.in_err-standard-in-8192.field-0.0 = search rules in
    let (t, n) = standard c.args.frame.now start in
    same ∙ misfit c.args.m c.args.frame.now 16 0x2000 shaped t n start _ c.in_err-standard-in-8192.ensures

pub returns-then-not-standard_ok : goal.returns-then-not-standard_ok
returns-then-not-standard_ok c =
    let shaped : write_shaped c.args.frame.now ≡ true = sym c.write_shaped.ensures ∙ c.if-not-write_shaped.false in
    let start : start_of c.args.frame.now ≡ 0x2000 = sym c.word_at.ensures ∙ c.in-8192.is in
    let (t, n) = standard c.args.frame.now start in
    bad c.args.m c.args.frame.now 16 0x2000 shaped t n start _ c.in_ok-standard-in-8192.ensures (sym c.standard_ok.ensures ∙ c.if-not-standard_ok.true)

pub returns-in_err-output-in-8704 : goal.returns-in_err-output-in-8704
returns-in_err-output-in-8704 c =
    let shaped : write_shaped c.args.frame.now ≡ true = sym c.write_shaped.ensures ∙ c.if-not-write_shaped.false in
    let start : start_of c.args.frame.now ≡ 0x2200 = sym c.word_at.ensures ∙ c.in-8704.is in
    let same : c.from_residual-in_err-output-in-8704.result ≡ Err c.in_err-output-in-8704.field-0.0 = search rules in
    let (t, n) = output c.args.frame.now start in
    same ∙ misfit c.args.m c.args.frame.now 24 0x2200 shaped t n start _ c.in_err-output-in-8704.ensures

pub returns-then-not-output_ok : goal.returns-then-not-output_ok
returns-then-not-output_ok c =
    let shaped : write_shaped c.args.frame.now ≡ true = sym c.write_shaped.ensures ∙ c.if-not-write_shaped.false in
    let start : start_of c.args.frame.now ≡ 0x2200 = sym c.word_at.ensures ∙ c.in-8704.is in
    let (t, n) = output c.args.frame.now start in
    bad c.args.m c.args.frame.now 24 0x2200 shaped t n start _ c.in_ok-output-in-8704.ensures (sym c.output_ok.ensures ∙ c.if-not-output_ok.true)

pub returns-in_default : goal.returns-in_default
returns-in_default c =
    let shaped : write_shaped c.args.frame.now ≡ true = sym c.write_shaped.ensures ∙ c.if-not-write_shaped.false in
    let w = c.word_at.ensures in
    nowhere c.args.m c.args.frame.now shaped (ne_eqb _ _ (λ e. omega (arith, w, e))) (ne_eqb _ _ (λ e. omega (arith, w, e)))

pub returns : goal.returns
returns c =
    let shaped : write_shaped c.args.frame.now ≡ true = sym c.write_shaped.ensures ∙ c.if-not-write_shaped.false in
    elim c.match-word_at.branch [
      | in-8192+in_ok-standard-in-8192+else-not-standard_ok w ↦
          let start : start_of c.args.frame.now ≡ 0x2000 = sym c.word_at.ensures ∙ w.in-8192.is in
          let (t, n) = standard c.args.frame.now start in
          let group = w.in_ok-standard-in-8192 in
          let taken = fits c.args.m c.args.frame.now 16 0x2000 shaped t n start group.standard group.ensures in
          let changed = w.changed-is ∙ with_new_standard c.args.frame.now c.args.m.setup group.standard start taken.1 in
          ap Ok (c.set_up.ensures ∙ ap (set_up_of c.args.m) changed)
          ∙ good c.args.m c.args.frame.now 16 0x2000 shaped t n start group.standard group.ensures (sym w.standard_ok.ensures ∙ w.if-not-standard_ok.false)
      | in-8704+in_ok-output-in-8704+else-not-output_ok w ↦
          let start : start_of c.args.frame.now ≡ 0x2200 = sym c.word_at.ensures ∙ w.in-8704.is in
          let (t, n) = output c.args.frame.now start in
          let group = w.in_ok-output-in-8704 in
          let taken = fits c.args.m c.args.frame.now 24 0x2200 shaped t n start group.output group.ensures in
          let changed = w.changed-is ∙ with_new_output c.args.frame.now c.args.m.setup group.output start taken.1 in
          ap Ok (c.set_up.ensures ∙ ap (set_up_of c.args.m) changed)
          ∙ good c.args.m c.args.frame.now 24 0x2200 shaped t n start group.output group.ensures (sym w.output_ok.ensures ∙ w.if-not-output_ok.false)
    ]
