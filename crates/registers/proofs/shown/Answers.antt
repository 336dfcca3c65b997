-- By kind: what a kind's function gives is what stands in its list.
use Rattle.std.proofs.Common.{sym, ap, ◌∙◌, ◌%◌, arith, ℕ, get_or, [], ◌∷◌}
use Rattle.counts.proofs.Joins.{counts_fit}
use Rattle.meter.specs.Meters.{meter_t, energy_at}
use Rattle.registers.proofs.Values.{energy_most, count_at, low_at, high_at, wrap_at, sign_at, shown_kind, shown_none}
use Rattle.registers.proofs.shown.Goals as goal

-- up to the top High fits its words, and the wrap its word
pub overflow_cast-result : goal.overflow_cast-result
overflow_cast-result c =
    let m = c.args.sound.meter in
    let most = counts_fit.high (energy_at (c.args.quantity % 64) m).wh (energy_most m (c.args.quantity % 64) c.args.sound.within) in
    rw (c.high.ensures, c.energy_at-in-448.ensures) (record { fits = omega (arith, most) })

pub overflow_cast-result-in-512 : goal.overflow_cast-result-in-512
overflow_cast-result-in-512 c =
    let m = c.args.sound.meter in
    let most = counts_fit.wrap (meter_t m) (energy_at (c.args.quantity % 64) m).wh (energy_most m (c.args.quantity % 64) c.args.sound.within) in
    rw (c.wrap.ensures, c.tenths-in-512.ensures, c.energy_at-in-512.ensures) (record { fits = omega (arith, most) })

pub returns-in-64 : goal.returns-in-64
returns-in-64 c = c.value_at.ensures ∙ sym (shown_kind c.args.sound.meter c.args.quantity 1 c.in-64.is)

pub returns-in-128 : goal.returns-in-128
returns-in-128 c = c.value_at-in-128.ensures ∙ sym (shown_kind c.args.sound.meter c.args.quantity 2 c.in-128.is)

pub returns-in-192 : goal.returns-in-192
returns-in-192 c = c.power.ensures ∙ sym (shown_kind c.args.sound.meter c.args.quantity 3 c.in-192.is)

pub returns-in-256 : goal.returns-in-256
returns-in-256 c = c.signed_power.ensures ∙ sym (shown_kind c.args.sound.meter c.args.quantity 4 c.in-256.is)

pub returns-in-320 : goal.returns-in-320
returns-in-320 c =
    rw (c.register.ensures, c.tenths.ensures, c.energy_at.ensures)
    (sym (shown_kind c.args.sound.meter c.args.quantity 5 c.in-320.is ∙ count_at c.args.sound.meter (c.args.quantity % 64)))

pub returns-in-384 : goal.returns-in-384
returns-in-384 c =
    rw (c.low.ensures, c.energy_at-in-384.ensures)
    (sym (shown_kind c.args.sound.meter c.args.quantity 6 c.in-384.is ∙ low_at c.args.sound.meter (c.args.quantity % 64)))

pub returns-in-448 : goal.returns-in-448
returns-in-448 c =
    rw (c.high.ensures, c.energy_at-in-448.ensures)
    (sym (shown_kind c.args.sound.meter c.args.quantity 7 c.in-448.is ∙ high_at c.args.sound.meter (c.args.quantity % 64)))

pub returns-in-512 : goal.returns-in-512
returns-in-512 c =
    rw (c.wrap.ensures, c.tenths-in-512.ensures, c.energy_at-in-512.ensures)
    (sym (shown_kind c.args.sound.meter c.args.quantity 8 c.in-512.is ∙ wrap_at c.args.sound.meter (c.args.quantity % 64)))

pub returns-in-576 : goal.returns-in-576
returns-in-576 c = c.factor.ensures ∙ sym (shown_kind c.args.sound.meter c.args.quantity 9 c.in-576.is)

pub returns-in-640 : goal.returns-in-640
returns-in-640 c =
    rw (c.sign_word.ensures, c.power_at.ensures)
    (sym (shown_kind c.args.sound.meter c.args.quantity 10 c.in-640.is ∙ sign_at c.args.sound.meter (c.args.quantity % 64)))

pub returns-in-704 : goal.returns-in-704
returns-in-704 c = c.value_at-in-704.ensures ∙ ap (λ (v : ℕ). get_or (v ∷ []) (c.args.quantity % 64) 0) c.from.ensures ∙ sym (shown_kind c.args.sound.meter c.args.quantity 11 c.in-704.is)

pub returns-in-768 : goal.returns-in-768
returns-in-768 c = c.value_at-in-768.ensures ∙ ap (λ (v : ℕ). get_or (v ∷ []) (c.args.quantity % 64) 0) c.from-in-768.ensures ∙ sym (shown_kind c.args.sound.meter c.args.quantity 12 c.in-768.is)

pub returns-in-832 : goal.returns-in-832
returns-in-832 c = c.value_at-in-832.ensures ∙ ap (λ (v : ℕ). get_or (v ∷ []) (c.args.quantity % 64) 0) c.from-in-832.ensures ∙ sym (shown_kind c.args.sound.meter c.args.quantity 13 c.in-832.is)

pub returns-in-896 : goal.returns-in-896
returns-in-896 c = c.value_at-in-896.ensures ∙ ap (λ (v : ℕ). get_or (v ∷ []) (c.args.quantity % 64) 0) c.from-in-896.ensures ∙ sym (shown_kind c.args.sound.meter c.args.quantity 14 c.in-896.is)

pub returns-in-960 : goal.returns-in-960
returns-in-960 c = c.value_at-in-960.ensures ∙ ap (λ (v : ℕ). get_or (v ∷ []) (c.args.quantity % 64) 0) c.from-in-960.ensures ∙ sym (shown_kind c.args.sound.meter c.args.quantity 15 c.in-960.is)

pub returns-in-1024 : goal.returns-in-1024
returns-in-1024 c = c.plain.ensures ∙ sym (shown_kind c.args.sound.meter c.args.quantity 16 c.in-1024.is)

pub returns-in_default : goal.returns-in_default
returns-in_default c =
    let q = c.args.quantity in
    sym (shown_none c.args.sound.meter q (λ from. omega arith))
