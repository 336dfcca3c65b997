-- The upper byte of a B first; then by kind: what each arm gives is what the row and the list say of its kind.
use Rattle.std.proofs.Common.{◌≡◌, refl, sym, ap, ◌∙◌, true, false, ◌&&◌, cond, Bool, ℕ, ◌-◌, ◌*◌, ◌%◌, ◌/◌, ◌^◌, ◌≤◌, ◌<◌, arith, rules}
use native.Mathlib.Nat.{mul-le-mul}
use lib.Dec.{leb, ltb}
use borrow.Author.Tests.{eq-eqb, ne_eqb}
use Rattle.words.specs.Signed.{magnitude_in}
use Rattle.refusal.specs.declared.Refusal.TheVariants.{ValueImpossible}
use Rattle.signed.specs.declared.Signed.{Signed}
use Rattle.counts.specs.Counting.{top_count}
use Rattle.directory.specs.declared.Item.{Item}
use Rattle.directory.specs.Item.{is_b}
use Rattle.directory.specs.Order.{shaped, meant}
use Rattle.directory.proofs.ByKind.{kind_is}
use Rattle.directory.proofs.Shapes.{shape}
use Rattle.reading.specs.declared.Quantity.{Quantity}
use Rattle.reading.specs.declared.Quantity.TheVariants.{Power, SignedPower, Factor}
use Rattle.reading.specs.declared.Answer.{Answer}
use Rattle.reading.specs.declared.Answer.TheVariants.{Reading, Refused}
use Rattle.reading.specs.Readings.{reading_of, signed_in, times}
use Rattle.reading.proofs.ByKind.{answer_at, upper_refused, by_kind, unit_most}
use Rattle.reading.proofs.Wide.{words_for, Wide, wide}
use Rattle.reading.proofs.of.Goals as goal

-- of an item of a directory and a value that it has room for
module _ (t : ℕ) (it : Item) (v : ℕ) (ruled : (shaped it ≡ true) × (meant it ≡ true)) (room : v < 65536 ^ it.words) where
  abbrev q : ℕ
  q = it.quantity

  fits : Wide it
  fits = wide it ruled.0 ruled.1

  -- a value of one word
  short : it.words ≡ 1 → v < 65536
  short one = omega (arith, room, ap (λ (n : ℕ). 65536 ^ n) one)

  -- of a kind that stands in one word
  word : (k : ℕ) → q - q % 64 ≡ 64 * k → words_for k (q % 64) ≡ 1 → v < 65536
  word k e one = short (fits.words ∙ ap (λ (i : ℕ). words_for i (q % 64)) (kind_is q k e) ∙ one)

  -- what is read at a kind
  arm : (k : ℕ) {b : Bool} {r : Answer} → b ≡ is_b it → (b && leb 256 v) ≡ false → q - q % 64 ≡ 64 * k → r ≡ answer_at t it v k → r ≡ reading_of t it v
  arm k s u e h =
      let clear : (is_b it && leb 256 v) ≡ false = rw s at u in
      h ∙ ap (answer_at t it v) (sym (kind_is q k e)) ∙ sym (by_kind t it v fits.most clear)

pub returns-then-is_b-value : goal.returns-then-is_b-value
returns-then-is_b-value c = sym (upper_refused c.args.t c.args.it c.args.value (rw c.is_b.ensures at c.if-is_b-value.true))

pub overflow_mul-result : goal.overflow_mul-result
overflow_mul-result c =
    let a = c.args in
    let value : c.from.result ≤ 4294967295 = rw c.from.ensures (search rules) in
    let most = mul-le-mul {n₁ = c.from.result} {m₁ = c.unit.result} {n₂ = 4294967295} {m₂ = 100} value (omega (arith, c.unit.ensures, unit_most a.t (a.it.quantity % 64))) in
    record { fits = omega (arith, most) }

pub overflow_cast-result : goal.overflow_cast-result
overflow_cast-result c = omega (arith, word c.args.t c.args.it c.args.value c.requires.item_ruled c.requires.value_fits 8 c.in-512.is refl)

pub overflow_cast-value : goal.overflow_cast-value
overflow_cast-value c = omega (arith, word c.args.t c.args.it c.args.value c.requires.item_ruled c.requires.value_fits 10 c.in-640.is refl)

pub overflow_cast-value-in-704 : goal.overflow_cast-value-in-704
overflow_cast-value-in-704 c = omega (arith, word c.args.t c.args.it c.args.value c.requires.item_ruled c.requires.value_fits 11 c.in-704.is refl)

pub overflow_cast-result-in-768 : goal.overflow_cast-result-in-768
overflow_cast-result-in-768 c = omega (arith, word c.args.t c.args.it c.args.value c.requires.item_ruled c.requires.value_fits 12 c.in-768.is refl)

pub overflow_cast-value-in-832 : goal.overflow_cast-value-in-832
overflow_cast-value-in-832 c = omega (arith, word c.args.t c.args.it c.args.value c.requires.item_ruled c.requires.value_fits 13 c.in-832.is refl)

pub overflow_cast-value-in-896 : goal.overflow_cast-value-in-896
overflow_cast-value-in-896 c = omega (arith, word c.args.t c.args.it c.args.value c.requires.item_ruled c.requires.value_fits 14 c.in-896.is refl)

pub overflow_cast-value-in-960 : goal.overflow_cast-value-in-960
overflow_cast-value-in-960 c = omega (arith, word c.args.t c.args.it c.args.value c.requires.item_ruled c.requires.value_fits 15 c.in-960.is refl)

-- the kinds before it are matched, so it is the last
sixteen : (d : ℕ) → 1 ≤ d → d < 17 → (1 ≤ d → d < 16 → ⊥) → d ≡ 16
sixteen d least most none = grind (arith, none)

plain : (n : ℕ) → 1 ≤ n / 64 → n / 64 < 17 → ((i : ℕ) → 1 ≤ i → i < 16 → n - n % 64 ≡ 64 * i → ⊥) → n - n % 64 ≡ 64 * 16
plain n least most none = omega (arith, sixteen (n / 64) least most (λ a b. none (n / 64) a b (omega arith)))

pub overflow_cast-result-in_default : goal.overflow_cast-result-in_default
overflow_cast-result-in_default c =
    let w = wide c.args.it c.requires.item_ruled.0 c.requires.item_ruled.1 in
    let last = plain c.args.it.quantity w.least w.most (λ i a b e. omega (arith, a, b, e)) in
    omega (arith, word c.args.t c.args.it c.args.value c.requires.item_ruled c.requires.value_fits 16 last refl)

pub returns-in-64 : goal.returns-in-64
returns-in-64 c = arm c.args.t c.args.it c.args.value c.requires.item_ruled c.requires.value_fits 1 c.is_b.ensures c.if-is_b-value.false c.in-64.is refl

pub returns-in-128 : goal.returns-in-128
returns-in-128 c = arm c.args.t c.args.it c.args.value c.requires.item_ruled c.requires.value_fits 2 c.is_b.ensures c.if-is_b-value.false c.in-128.is refl

pub returns-in-192 : goal.returns-in-192
returns-in-192 c = arm c.args.t c.args.it c.args.value c.requires.item_ruled c.requires.value_fits 3 c.is_b.ensures c.if-is_b-value.false c.in-192.is (rw c.from.ensures (ap (λ (u : ℕ). Reading (Power (c.args.value * u))) c.unit.ensures))

pub returns-in-256 : goal.returns-in-256
returns-in-256 c = arm c.args.t c.args.it c.args.value c.requires.item_ruled c.requires.value_fits 4 c.is_b.ensures c.if-is_b-value.false c.in-256.is (ap (λ (x : Signed). Reading (SignedPower x)) c.signed_in.ensures)

pub returns-in-320 : goal.returns-in-320
returns-in-320 c = arm c.args.t c.args.it c.args.value c.requires.item_ruled c.requires.value_fits 5 c.is_b.ensures c.if-is_b-value.false c.in-320.is (c.unless.ensures ∙ ap (λ (x : Quantity). cond (ltb top_count c.args.value) (Refused ValueImpossible) (Reading x)) c.energy.ensures)

pub returns-in-384 : goal.returns-in-384
returns-in-384 c = arm c.args.t c.args.it c.args.value c.requires.item_ruled c.requires.value_fits 6 c.is_b.ensures c.if-is_b-value.false c.in-384.is c.unless-in-384.ensures

pub returns-in-448 : goal.returns-in-448
returns-in-448 c = arm c.args.t c.args.it c.args.value c.requires.item_ruled c.requires.value_fits 7 c.is_b.ensures c.if-is_b-value.false c.in-448.is c.unless-in-448.ensures

pub returns-in-512 : goal.returns-in-512
returns-in-512 c = arm c.args.t c.args.it c.args.value c.requires.item_ruled c.requires.value_fits 8 c.is_b.ensures c.if-is_b-value.false c.in-512.is refl

-- a factor by whether it has two words
abbrev factor_of : ℕ → Bool → Answer
factor_of v long = cond (cond long (ltb 1000 (magnitude_in 2 v)) (ltb 100 (magnitude_in 1 v))) (Refused ValueImpossible) (Reading (Factor (cond long (signed_in 2 v) (times 10 (signed_in 1 v)))))

pub returns-in-576 : goal.returns-in-576
returns-in-576 c =
    arm c.args.t c.args.it c.args.value c.requires.item_ruled c.requires.value_fits 9 c.is_b.ensures c.if-is_b-value.false c.in-576.is
    (c.thousandths.ensures ∙ ap (factor_of c.args.value) (sym (eq-eqb c.args.it.words 2 c.if-it-eq2.true)))

pub returns-in-576-2 : goal.returns-in-576-2
returns-in-576-2 c =
    arm c.args.t c.args.it c.args.value c.requires.item_ruled c.requires.value_fits 9 c.is_b.ensures c.if-is_b-value.false c.in-576.is
    (c.hundredths.ensures ∙ ap (factor_of c.args.value) (sym (ne_eqb c.args.it.words 2 c.if-it-eq2.false)))

pub hundredths-requires : goal.hundredths-requires
hundredths-requires c =
    short c.args.t c.args.it c.args.value c.requires.item_ruled c.requires.value_fits ((shape c.args.it c.requires.item_ruled.0).short (ne_eqb c.args.it.words 2 c.if-it-eq2.false)).0

pub returns-in-640 : goal.returns-in-640
returns-in-640 c = arm c.args.t c.args.it c.args.value c.requires.item_ruled c.requires.value_fits 10 c.is_b.ensures c.if-is_b-value.false c.in-640.is c.unless-in-640.ensures

pub returns-in-704 : goal.returns-in-704
returns-in-704 c = arm c.args.t c.args.it c.args.value c.requires.item_ruled c.requires.value_fits 11 c.is_b.ensures c.if-is_b-value.false c.in-704.is c.unless-in-704.ensures

pub returns-in-768 : goal.returns-in-768
returns-in-768 c = arm c.args.t c.args.it c.args.value c.requires.item_ruled c.requires.value_fits 12 c.is_b.ensures c.if-is_b-value.false c.in-768.is refl

pub returns-in-832 : goal.returns-in-832
returns-in-832 c = arm c.args.t c.args.it c.args.value c.requires.item_ruled c.requires.value_fits 13 c.is_b.ensures c.if-is_b-value.false c.in-832.is c.kta.ensures

pub returns-in-896 : goal.returns-in-896
returns-in-896 c = arm c.args.t c.args.it c.args.value c.requires.item_ruled c.requires.value_fits 14 c.is_b.ensures c.if-is_b-value.false c.in-896.is c.ktv.ensures

pub returns-in-960 : goal.returns-in-960
returns-in-960 c = arm c.args.t c.args.it c.args.value c.requires.item_ruled c.requires.value_fits 15 c.is_b.ensures c.if-is_b-value.false c.in-960.is c.unless-in-960.ensures

pub returns-in_default : goal.returns-in_default
returns-in_default c =
    let w = wide c.args.it c.requires.item_ruled.0 c.requires.item_ruled.1 in
    let last = plain c.args.it.quantity w.least w.most (λ i a b e. omega (arith, a, b, e)) in
    arm c.args.t c.args.it c.args.value c.requires.item_ruled c.requires.value_fits 16 c.is_b.ensures c.if-is_b-value.false last refl
