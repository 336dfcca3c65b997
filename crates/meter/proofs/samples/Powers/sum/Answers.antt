-- Three phases of at most the larger power limit add up far below 2 ^ 63.
use Rattle.std.proofs.Common.{◌≡◌, ap, ◌∙◌, ◌<◌, ◌^◌, arith}
use lib.IntN.{ℤ, ◌+ℤ◌}
use lib.Signed.{mag}
use mir.Syntax.{w64}
use mir.Val.{SFits, to_z, of_z}
use mir.Facts.{to_z-of_z}
use Rattle.signed.specs.Signs.{signed_of}
use Rattle.signed.proofs.Halves.{back}
use Rattle.signed.proofs.Sums.{magnitude_sum, magnitude_fits}
use Rattle.meter.specs.declared.samples.Powers.{Powers}
use Rattle.meter.specs.Fits.{Held}
use Rattle.meter.proofs.samples.Powers.sum.Goals as goal

two_fit : (p : Powers) → Held p → SFits w64 (p.l1 +ℤ p.l2)
two_fit p h = magnitude_fits _ (omega (arith, h.one, h.two, magnitude_sum p.l1 p.l2))

three_fit : (p : Powers) → Held p → SFits w64 ((p.l1 +ℤ p.l2) +ℤ p.l3)
three_fit p h =
    magnitude_fits _ (omega (arith, h.one, h.two, h.three, magnitude_sum p.l1 p.l2, magnitude_sum (p.l1 +ℤ p.l2) p.l3))

-- the fields are read back from their bits
read_two : (p : Powers) → mag p.l1 < 2 ^ 63 → mag p.l2 < 2 ^ 63 → to_z w64 (of_z w64 p.l1) +ℤ to_z w64 (of_z w64 p.l2) ≡ p.l1 +ℤ p.l2
read_two p h k = λ i. back {z = p.l1} h i +ℤ back {z = p.l2} k i

read_three : (p : Powers) → Held p → mag p.l1 < 2 ^ 63 → mag p.l2 < 2 ^ 63 → mag p.l3 < 2 ^ 63 → to_z w64 (of_z w64 (to_z w64 (of_z w64 p.l1) +ℤ to_z w64 (of_z w64 p.l2))) +ℤ to_z w64 (of_z w64 p.l3) ≡ (p.l1 +ℤ p.l2) +ℤ p.l3
read_three p held h k l =
    let two = ap (λ (z : ℤ). to_z w64 (of_z w64 z)) (read_two p h k) ∙ to_z-of_z (two_fit p held) in
    λ i. two i +ℤ back {z = p.l3} l i

pub overflow_add-self : goal.overflow_add-self
overflow_add-self c =
    let g = c.struct_told-1.given in
    rw (read_two c.args.self g.0.1 g.1.0.1) (two_fit c.args.self c.requires)

pub overflow_add-self-2 : goal.overflow_add-self-2
overflow_add-self-2 c =
    let g = c.struct_told-2-1.given in
    rw (read_three c.args.self c.requires g.0.1 g.1.0.1 g.1.1.0.1) (three_fit c.args.self c.requires)

pub returns : goal.returns
returns c =
    let g = c.struct_told-2-1.given in
    let read = read_three c.args.self c.requires g.0.1 g.1.0.1 g.1.1.0.1 in
    c.from.ensures ∙ ap signed_of (ap (λ (z : ℤ). to_z w64 (of_z w64 z)) read ∙ to_z-of_z (three_fit c.args.self c.requires))
