-- What a meter shows of an item is read as what it means: an argument for each kind, and the items of a directory come under them by its
-- tests.
use mathlib.Core.Path.{◌≡◌, refl, sym, ap, ◌∙◌}
use mathlib.Core.Bool.{Bool, true, false, ◌&&◌, not, cond}
use mathlib.Core.List.{List, [], ◌∷◌, map}
use Prim.Native.Nat.{ℕ, zero, suc, ◌*◌, ◌/◌, ◌%◌, ◌^◌, ◌≤◌, ◌<◌, zero-le}
use native.Mathlib.Nat.{lt_of_le_of_lt}
use native.Mathlib.Omega.{arith}
use lib.Dec.{T, leb, ltb, eqb}
use lib.ListN.{length, get_or}
use borrow.Author.Tests.{eqb-true, lt-leb, lt-ltb, le-ltb}
use lib.IntN.{ℤ, pos, negsuc, nat_abs}
use Rattle.refusal.specs.declared.Refusal.TheVariants.{ValueImpossible}
use Rattle.signed.specs.Signs.{negative, signed_of}
use Rattle.signed.specs.declared.Signed.{Signed}
use Rattle.signed.proofs.Signs.{sign_most}
use Rattle.words.specs.Signed.{twos}
use Rattle.words.proofs.Signs.{signed_back}
use Rattle.ratio.proofs.Powers.{powers_fit}
use Rattle.counts.proofs.Joins.{counts_fit}
use Rattle.directory.specs.declared.Item.{Item}
use Rattle.directory.specs.Item.{item, none, in_bytes, is_b}
use Rattle.directory.specs.Order.{room_of, tested}
use Rattle.meter.specs.declared.Meter.{Meter}
use Rattle.meter.specs.Samples.{factor_of}
use Rattle.meter.specs.Meters.{meter_t, meter_ok, energy_at}
use Rattle.meter.proofs.Parts.{SampleParts, sample_parts, meter_parts, ratio_parts}
use Rattle.registers.specs.Shown.{powers_of, power_at, power_values, signed_word_values, sign_values, count_values, low_values, high_values, wrap_values, factor_values, plain_values, kinds_shown, shown_of}
use Rattle.registers.proofs.Values.{count_at, low_at, high_at, energy_most, signed_at, sign_at, power_most}
use Rattle.registers.proofs.Widths.{Shows, in_room}
use Rattle.reading.specs.declared.Quantity.{Quantity}
use Rattle.reading.specs.declared.Quantity.TheVariants as read
use Rattle.reading.specs.declared.Answer.{Answer}
use Rattle.reading.specs.declared.Answer.TheVariants.{Reading, Refused}
use Rattle.reading.specs.Readings.{times, signed_in, counted, reading_of}
use Rattle.reading.proofs.ByKind.{Each, each_at, answer_at, by_kind}
use Rattle.reading.proofs.Wide.{words_for, wide_at}
use Rattle.demands.specs.Meaning.{cut, power_meanings, signed_meanings, count_meanings, low_meanings, high_meanings, wrap_meanings, factor_meanings, sign_meanings, meanings, meaning_of}

-- ---- a B

-- what has room in a B leaves the upper byte clear
upper_clear : (it : Item) (v : ℕ) → v < 256 ^ room_of it → (is_b it && leb 256 v) ≡ false
upper_clear it v h = by (in_bytes it) (eqb it.fills 1) refl h
  where
    by : (a b : Bool) → eqb it.fills 1 ≡ b → v < 256 ^ cond a it.fills (2 * it.words) → ((a && b) && leb 256 v) ≡ false
    by true true e h = lt-leb 256 v (rw (eqb-true it.fills 1 e) at h)
    by true false e h = refl
    by false b e h = refl

-- ---- values and their readings

-- what a value of a quantity reads as, in as many words as the quantity asks
abbrev answer_of : ℕ → ℕ → ℕ → ℕ → Answer
answer_of t kind which v = answer_at t (item 0 0 (words_for kind which) which) v kind

possible : {x : Bool} {q : Quantity} → x ≡ false → cond x (Refused ValueImpossible) (Reading q) ≡ Reading q
possible {x} {q} h = ap (λ (b : Bool). cond b (Refused ValueImpossible) (Reading q)) h

-- what is mapped over a list, within it
pub mapped : {A B : Type 0} (f : A → B) (l : List A) (d : A) (e : B) (i : ℕ) → i < length l → get_or (map f l) i e ≡ f (get_or l i d)
mapped f [] d e i h = absurd (omega arith)
mapped f (x ∷ l) d e zero h = refl
mapped f (x ∷ l) d e (suc i) h = mapped f l d e i (omega arith)

-- values that are read as they are, and those with a limit
alike : (f : ℕ → Quantity) (vs : List ℕ) (w : ℕ) {a : Answer} → w < length vs → a ≡ Reading (f (get_or vs w 0)) → a ≡ Reading (get_or (map f vs) w (read.Plain 0))
alike f vs w b one = one ∙ ap Reading (sym (mapped f vs 0 (read.Plain 0) w b))

limited : (f : ℕ → Quantity) (vs : List ℕ) (w top : ℕ) → w < length vs → get_or vs w 0 ≤ top → cond (ltb top (get_or vs w 0)) (Refused ValueImpossible) (Reading (f (get_or vs w 0))) ≡ Reading (get_or (map f vs) w (read.Plain 0))
limited f vs w top b within = alike f vs w b (possible (le-ltb _ _ within))

-- signed values are read back, a zero without a sign
abbrev unsigned_zero : Bool → ℕ → Signed
unsigned_zero negative x = record { negative = negative && ltb 0 x; magnitude = x }

read_signed : (n : ℕ) (negative : Bool) (x : ℕ) → x < 65536 ^ n / 2 → signed_in n (twos n negative x) ≡ unsigned_zero negative x
read_signed n negative x h i = record { negative = signed_back.sign n negative x h i; magnitude = signed_back.magnitude n negative x h i }

signed_limited : (f : Signed → Quantity) (n top : ℕ) (negative : Bool) (x : ℕ) → top < 65536 ^ n / 2 → x ≤ top → (let s = signed_in n (twos n negative x) in cond (ltb top s.magnitude) (Refused ValueImpossible) (Reading (f s)) ≡ Reading (f (unsigned_zero negative x)))
signed_limited f n top negative x small within =
    ap (λ (s : Signed). cond (ltb top s.magnitude) (Refused ValueImpossible) (Reading (f s))) (read_signed n negative x (lt_of_le_of_lt within small)) ∙ possible (le-ltb top x within)

unsigned_zero_lem : (z : ℤ) → unsigned_zero (negative z) (nat_abs z) ≡ signed_of z
unsigned_zero_lem (pos n) = refl
unsigned_zero_lem (negsuc n) = ap (λ (t : Bool). record { negative = t; magnitude = suc n }) (lt-ltb 0 (suc n) (omega arith))

-- ---- kind by kind

module _ (m : Meter) where
  abbrev ReadAt : ℕ → ℕ → Type 0
  ReadAt k w = answer_of (meter_t m) k w (get_or (get_or (kinds_shown m) k []) w 0) ≡ Reading (get_or (get_or (meanings m) k []) w (read.Plain 0))

  abbrev ReadKind : ℕ → Type 0
  ReadKind k = (w : ℕ) → w < length (get_or (kinds_shown m) k []) → ReadAt k w

  -- a kind of n quantities, one by one
  few : (k n : ℕ) → Each (ReadAt k) 0 n → (w : ℕ) → w < n → ReadAt k w
  few k n each w b = each_at (ReadAt k) 0 n w each zero-le (omega arith)

module _ (m : Meter) (h : meter_ok m ≡ true) where
  abbrev t : ℕ
  t = meter_t m

  abbrev parts : SampleParts t m.latest
  parts = sample_parts t m.latest (meter_parts m h).latest

  voltages_read : ReadKind m 1
  voltages_read w b = alike read.Voltage m.latest.voltages w b refl

  currents_read : ReadKind m 2
  currents_read w b = alike read.Current m.latest.currents w b refl

  powers_read : ReadKind m 3
  unfolding power_values power_meanings
  powers_read = few m 3 12 (refl, (refl, (refl, (refl, (refl, (refl, (refl, (refl, (refl, (refl, (refl, (refl, tt))))))))))))

  signed_read : ReadKind m 4
  unfolding signed_word_values signed_meanings power_at
  signed_read w b =
      let p = power_at m w in
      ap (λ (v : ℕ). Reading (read.SignedPower (signed_in 2 v))) (signed_at m w)
      ∙ ap (λ (s : Signed). Reading (read.SignedPower s)) (read_signed 2 p.negative (p.magnitude / 100) (powers_fit.signed t p.magnitude (power_most m w h)))
      ∙ ap Reading (sym (mapped (λ (p : Signed). read.SignedPower (cut 100 p)) (powers_of m) _ (read.Plain 0) w b))

  counts_read : ReadKind m 5
  unfolding count_values count_meanings
  counts_read w b = limited (counted t) (count_values m) w _ b (rw (count_at m w) (counts_fit.register t (energy_at w m).wh))

  lows_read : ReadKind m 6
  unfolding low_values low_meanings
  lows_read w b = limited read.Low (low_values m) w _ b (rw (low_at m w) (counts_fit.low (energy_at w m).wh))

  highs_read : ReadKind m 7
  unfolding high_values high_meanings
  highs_read w b = limited read.High (high_values m) w _ b (rw (high_at m w) (counts_fit.high (energy_at w m).wh (energy_most m w h)))

  wraps_read : ReadKind m 8
  unfolding wrap_values wrap_meanings
  wraps_read w b = alike read.Wrap (wrap_values m) w b refl

  factors_read : ReadKind m 9
  unfolding factor_values factor_meanings
  factors_read =
      let f = factor_of m.latest.factor in
      let most = parts.factor in
      few m 9 2 (
        signed_limited (λ (s : Signed). read.Factor (times 10 s)) 1 100 f.negative (f.magnitude / 10) (omega arith) (omega arith),
        (signed_limited read.Factor 2 1000 f.negative f.magnitude (omega arith) most ∙ ap (λ (s : Signed). Reading (read.Factor s)) (unsigned_zero_lem m.latest.factor.0), tt),
      )

  signs_read : ReadKind m 10
  unfolding sign_values sign_meanings
  signs_read w b = limited read.Sign (sign_values m) w _ b (rw (sign_at m w) (sign_most (power_at m w).negative))

  sector_read : ReadKind m 11
  sector_read = few m 11 1 (possible (le-ltb _ _ parts.sector), tt)

  frequency_read : ReadKind m 12
  frequency_read = few m 12 1 (refl, tt)

  kta_read : ReadKind m 13
  kta_read = few m 13 1 (possible (ap not (ratio_parts m h).0), tt)

  ktv_read : ReadKind m 14
  ktv_read = few m 14 1 (possible (ap not (ratio_parts m h).1), tt)

  sequence_read : ReadKind m 15
  sequence_read = few m 15 1 (possible (ap not parts.sequence), tt)

  plains_read : ReadKind m 16
  plains_read w b = alike read.Plain (plain_values m) w b refl

  kinds_read : Each (ReadKind m) 0 17
  kinds_read = (few m 0 0 tt, (voltages_read, (currents_read, (powers_read, (signed_read, (counts_read, (lows_read, (highs_read, (wraps_read, (factors_read, (signs_read, (sector_read, (frequency_read, (kta_read, (ktv_read, (sequence_read, (plains_read, tt)))))))))))))))))

-- ---- and so for the items of a directory that passes the tests

module _ (dir : List Item) (tests : T (tested dir)) (m : Meter) (ok : meter_ok m ≡ true) (i : ℕ) (l : i < length dir) where
  abbrev it : Item
  it = get_or dir i none

  pub item_read : Shows m it.quantity → reading_of (meter_t m) it (shown_of m it.quantity) ≡ Reading (meaning_of m it.quantity)
  unfolding shown_of meaning_of
  item_read shows =
      let q = it.quantity in
      let v = shown_of m q in
      let w = wide_at dir tests i l in
      let once : q % 64 % 64 ≡ q % 64 = omega arith in
      let same : answer_at (meter_t m) it v (q / 64) ≡ answer_of (meter_t m) (q / 64) (q % 64) v = rw (w.words, once) refl in
      by_kind (meter_t m) it v w.most (upper_clear it v (in_room dir tests i l shows.fits))
      ∙ same
      ∙ each_at (ReadKind m) 0 17 (q / 64) (kinds_read m ok) zero-le w.most (q % 64) shows.case
