-- `shift` is the written right shift: masking by 1 is the remainder by 2, which the branch tests.
use Rattle.std.proofs.Common.{◌≡◌, sym, ◌∙◌, ℕ, ◌/◌, ◌%◌}
use lib.Bits.{bit_and, bit_xor, and_mask}
use borrow.Author.Tests.{eq-eqb, ne_eqb}
use Rattle.crc.specs.Crc.{shift}
use Rattle.crc.proofs.shift.Goals as goal

odd : (c : ℕ) → bit_and c 1 ≡ 1 → bit_xor (c / 2) 0xA001 ≡ shift c
unfolding shift
odd c h = simp (eq-eqb (c % 2) 1 (sym (and_mask c 1) ∙ h))

even : (c : ℕ) → (bit_and c 1 ≡ 1 → ⊥) → c / 2 ≡ shift c
unfolding shift
even c h = simp (ne_eqb (c % 2) 1 (λ e. h (and_mask c 1 ∙ e)))

pub returns-then-c-eq1 : goal.returns-then-c-eq1
returns-then-c-eq1 c = odd c.args.c c.if-c-eq1.true

pub returns-else-c-eq1 : goal.returns-else-c-eq1
returns-else-c-eq1 c = even c.args.c c.if-c-eq1.false
