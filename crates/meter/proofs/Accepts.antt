-- The answers of a new meter and of a sample as picks by tests; and what is within limits stays so.
use Rattle.std.specs.Prelude.{Ok, Err}
use mathlib.Core.Path.{◌≡◌, refl, sym, ap, ◌∙◌}
use mathlib.Core.Logic.{◌↔◌, ◌⊎◌, inl, inr}
use mathlib.Core.Bool.{Bool, true, false, ◌&&◌, cond, and-true, not, and-eq-true_iff}
use Prim.Native.Nat.{ℕ, ◌+◌, ◌%◌, zero, suc, zero-le}
use native.Mathlib.Omega.{arith}
use lib.Dec.{leb, eqb}
use borrow.Author.Tests.{le-leb, eq-eqb, ne_eqb, eqb-true, eqb-false, not-true, not-false}
use Rattle.refusal.specs.declared.Refusal.{Refusal}
use Rattle.refusal.specs.declared.Refusal.TheVariants.{MeterOutOfLimits, RatioOutOfLimits, OwnAddressZero, SampleOutOfLimits, EnergyPastTop}
use Rattle.refusal.specs.Numbers.{refused_by}
use Rattle.signed.specs.declared.Signed.{Signed}
use Rattle.signed.specs.Signs.{above_of, below_of}
use Rattle.ratio.specs.Ratios.{ratios_ok, t_of}
use Rattle.ratio.specs.Powers.{power_limit}
use Rattle.counts.specs.Counting.{top_wh}
use Rattle.setup.specs.Ranges.{group_ok, word_ok}
use Rattle.average.specs.declared.Average.{Average}
use Rattle.average.specs.Windows.{coded_minutes, after_second, average_ok}
use Rattle.average.proofs.Limits.{blank_average, recoded_within, second_within}
use Rattle.meter.specs.declared.samples.Sample.{Sample}
use Rattle.meter.specs.declared.energies.Energy.{Energy}
use Rattle.meter.specs.declared.energies.Energies.{Energies}
use Rattle.meter.specs.declared.energies.Counters.{Counters}
use Rattle.meter.specs.declared.given.Given.{Given}
use Rattle.meter.specs.declared.groups.Setup.{Setup}
use Rattle.meter.specs.declared.Answered.{Answered}
use Rattle.meter.specs.declared.Meter.{Meter}
use Rattle.meter.specs.Samples.{in_force, sample_ok, no_sample}
use Rattle.meter.specs.Energies.{energy_ok, energies_ok, counters_ok, plus_of, with_power, with_powers, within_top, counters_within_top}
use Rattle.meter.specs.Groups.{setup_ok, code_of}
use Rattle.meter.specs.Meters.{meter_t, given_ok, meter_ok, blank_of, answer_with, answer_told, new_of, with_average, with_setup, set_up_of}
use Rattle.meter.specs.After.{next_of, meter_within_top, after_of}
use Rattle.meter.specs.Accepts.{NewAnswers, AddressLimits, SampleAnswers, other, SetupIdle, CodeCounts}
use Rattle.meter.proofs.Parts.{meter_parts, groups_within, own_address, other_address, p_most}
use Rattle.meter.proofs.Cases.{chosen, after_accepted}
use Rattle.meter.proofs.Outcomes.{by_number, first_of, first_fails, second_fails, third_fails, none_fails, only_these, not_accepted}

-- ---- a sample

-- the answer and the meter, by the three tests
picked : (a b c : Bool) (m n : Meter) → (chosen a b c m n).answer ≡ first_of MeterOutOfLimits SampleOutOfLimits EnergyPastTop a b c
picked true true true m n = refl
picked true true false m n = refl
picked true false c m n = refl
picked false b c m n = refl

module _ (m : Meter) (s : Sample) where
  answer : (after_of m s).answer ≡ first_of MeterOutOfLimits SampleOutOfLimits EnergyPastTop (meter_ok m) (sample_ok (meter_t m) s) (meter_within_top (next_of m s))
  unfolding after_of
  answer = picked (meter_ok m) (sample_ok (meter_t m) s) (meter_within_top (next_of m s)) m (next_of m s)

unchanged : (a b c : Bool) (m n : Meter) (reason : Refusal) → (chosen a b c m n).answer ≡ Err reason → (chosen a b c m n).meter ≡ m
unchanged true true true m n reason h = not_accepted (sym h)
unchanged true true false m n reason h = refl
unchanged true false c m n reason h = refl
unchanged false b c m n reason h = refl

refused : (m : Meter) (s : Sample) (reason : Refusal) → (after_of m s).answer ≡ Err reason → (after_of m s).meter ≡ m
unfolding after_of
refused m s = unchanged (meter_ok m) (sample_ok (meter_t m) s) (meter_within_top (next_of m s)) m (next_of m s)

accepted : (m : Meter) (s : Sample) → ((after_of m s).answer ≡ Ok tt) ↔ ((meter_ok m ≡ true) × (sample_ok (meter_t m) s ≡ true) × (meter_within_top (next_of m s) ≡ true))
accepted m s = rw (answer m s) (none_fails _ _ _ (meter_ok m) (sample_ok (meter_t m) s) (meter_within_top (next_of m s)))

sample_only : (m : Meter) (s : Sample) (n : ℕ) → answer_told (after_of m s).answer ≡ refused_by n → (n ≡ 1) ⊎ (n ≡ 5) ⊎ (n ≡ 6)
sample_only m s n h = by (only_these _ _ _ (meter_ok m) (sample_ok (meter_t m) s) (meter_within_top (next_of m s)) n (rw (answer m s) at h))
  where
    by : {c : Bool} → (n ≡ 1) ⊎ (n ≡ 5) ⊎ ((c ≡ false) × (n ≡ 6)) → (n ≡ 1) ⊎ (n ≡ 5) ⊎ (n ≡ 6)
    by (inl e) = inl e
    by (inr (inl e)) = inr (inl e)
    by (inr (inr e)) = inr (inr e.1)

pub sample_answers : (m : Meter) (s : Sample) → SampleAnswers m s
sample_answers m s = record {
  row_1 = by_number (after_of m s).answer MeterOutOfLimits (rw (answer m s) (first_fails _ _ _ refl refl refl (meter_ok m) (sample_ok (meter_t m) s) (meter_within_top (next_of m s))));
  row_5 = by_number (after_of m s).answer SampleOutOfLimits (rw (answer m s) (second_fails _ _ _ refl refl refl (meter_ok m) (sample_ok (meter_t m) s) (meter_within_top (next_of m s))));
  row_6 = by_number (after_of m s).answer EnergyPastTop (rw (answer m s) (third_fails _ _ _ refl refl refl (meter_ok m) (sample_ok (meter_t m) s) (meter_within_top (next_of m s))));
  only = sample_only m s;
  accepted = accepted m s;
  refused = refused m s;
  counted = λ h. let t = (accepted m s).0 h in ap (λ (r : Answered). r.meter) (after_accepted m s t.0 t.1 t.2);
}

-- ---- within limits

-- what was added to is within limits where it is not past its top
plus_within : (e : Energy) (x : ℕ) → energy_ok (plus_of e x) ≡ leb (plus_of e x).wh.0 top_wh
plus_within e x = rw (le-leb ((e.remainder + x) % 360000) 359999 (omega arith)) (and-true (leb (plus_of e x).wh.0 top_wh))

powered_within : (es : Energies) (power : Signed) → energies_ok (with_power es power) ≡ within_top (with_power es power)
powered_within es power = λ i. plus_within es.positive (above_of power) i && plus_within es.negative (below_of power) i

counted_within : (c : Counters) (p q : Signed) → counters_ok (with_powers c p q) ≡ counters_within_top (with_powers c p q)
counted_within c p q = λ i. powered_within c.active p i && powered_within c.reactive q i

next_within : (m : Meter) (s : Sample) → meter_ok m ≡ true → sample_ok (meter_t m) s ≡ true → meter_within_top (next_of m s) ≡ true → meter_ok (next_of m s) ≡ true
next_within m s hm hs ht =
    let k = meter_parts m hm in
    groups_within (next_of m s)
    (record {
      given = k.given;
      counters = counted_within m.counters (in_force s.p) (in_force s.q) ∙ ht;
      latest = hs;
      average = second_within (meter_t m) (code_of m.setup) m.average (in_force s.p) k.average (p_most m s hm hs);
      setup = k.setup;
    })

kept : (a b c : Bool) (m n : Meter) → meter_ok m ≡ true → (a ≡ true → b ≡ true → c ≡ true → meter_ok n ≡ true) → meter_ok (chosen a b c m n).meter ≡ true
kept true true true m n h k = k refl refl refl
kept true true false m n h k = h
kept true false c m n h k = h
kept false b c m n h k = h

-- a sample keeps a record within limits
pub sample_within : (m : Meter) (s : Sample) → meter_ok m ≡ true → meter_ok (after_of m s).meter ≡ true
unfolding after_of
sample_within m s h = kept (meter_ok m) (sample_ok (meter_t m) s) (meter_within_top (next_of m s)) m (next_of m s) h (next_within m s)

-- ---- a new meter

blank_sample : (t : ℕ) → sample_ok t no_sample ≡ true
unfolding sample_ok
blank_sample t = rw (le-leb 0 (power_limit t) zero-le) refl

trues : (b : Bool) → (b && true && true && true && true) ≡ b
trues true = refl
trues false = refl

blank_within : (g : Given) → meter_ok (blank_of g) ≡ given_ok g
unfolding meter_ok group_ok word_ok
blank_within g = rw (blank_sample (t_of g.ratios), blank_average (t_of g.ratios) 0) (trues (given_ok g))

-- what follows from the three tests of a new meter, in their order
abbrev made : Bool → Bool → Bool → Meter → Answered
made x y z m =
    cond (not x) (answer_with (Err RatioOutOfLimits) m)
    (cond y (answer_with (Err OwnAddressZero) m)
    (cond z (answer_with (Err MeterOutOfLimits) m)
    (answer_with (Ok tt) m)))

new_picked : (x y z : Bool) (m : Meter) → (made x y z m).answer ≡ first_of RatioOutOfLimits OwnAddressZero MeterOutOfLimits x (not y) (not z)
new_picked true true z m = refl
new_picked true false true m = refl
new_picked true false false m = refl
new_picked false y z m = refl

new_same : (x y z : Bool) (m : Meter) → (made x y z m).meter ≡ m
new_same true true z m = refl
new_same true false true m = refl
new_same true false false m = refl
new_same false y z m = refl

-- an address is 0, or at least 1
zero_no : (a : ℕ) → not (eqb a 0) ≡ leb 1 a
zero_no zero = refl
zero_no (suc n) = rw (ne_eqb (suc n) 0 (omega arith), le-leb 1 (suc n) (omega arith)) refl

-- two numbers that a test finds equal, and that it does not
same_is : (a b : ℕ) → (not (eqb a b) ≡ false) ↔ (a ≡ b)
same_is a b = (λ h. eqb-true a b (not-false _ h), λ h. ap not (eq-eqb a b h))

same_no : (a b : ℕ) → (not (eqb a b) ≡ true) ↔ (a ≡ b → ⊥)
same_no a b = (λ h. eqb-false a b (not-true _ h), λ h. ap not (ne_eqb a b h))

module _ (g : Given) where
  -- the three tests, passed
  abbrev ratios : Bool
  ratios = ratios_ok g.ratios

  abbrev some : Bool
  some = not (eqb g.address 0)

  abbrev other_one : Bool
  other_one = not (eqb g.second g.address)

  new_answer : (new_of g).answer ≡ first_of RatioOutOfLimits OwnAddressZero MeterOutOfLimits ratios some other_one
  unfolding new_of
  new_answer = new_picked ratios (eqb g.address 0) (eqb g.second g.address) (blank_of g)

  pub new_blank : (new_of g).meter ≡ blank_of g
  unfolding new_of
  new_blank = new_same ratios (eqb g.address 0) (eqb g.second g.address) (blank_of g)

  four : ((new_of g).answer ≡ Err OwnAddressZero) ↔ ((ratios ≡ true) × (g.address ≡ 0))
  four =
      let f = second_fails _ _ _ refl refl refl ratios some other_one in
      let z = same_is g.address 0 in
      rw new_answer (λ h. ((f.0 h).0, z.0 (f.0 h).1), λ h. f.1 (h.0, z.1 h.1))

  one : ((new_of g).answer ≡ Err MeterOutOfLimits) ↔ ((ratios ≡ true) × (g.address ≡ 0 → ⊥) × (g.second ≡ g.address))
  one =
      let f = third_fails _ _ _ refl refl refl ratios some other_one in
      let z = same_no g.address 0 in
      let e = same_is g.second g.address in
      rw new_answer (λ h. ((f.0 h).0, z.0 (f.0 h).1, e.0 (f.0 h).2), λ h. f.1 (h.0, z.1 h.1, e.1 h.2))

  new_only : (n : ℕ) → answer_told (new_of g).answer ≡ refused_by n → (n ≡ 3) ⊎ (n ≡ 4) ⊎ (n ≡ 1)
  new_only n h = by (only_these _ _ _ ratios some other_one n (rw new_answer at h))
    where
      by : {c : Bool} → (n ≡ 3) ⊎ (n ≡ 4) ⊎ ((c ≡ false) × (n ≡ 1)) → (n ≡ 3) ⊎ (n ≡ 4) ⊎ (n ≡ 1)
      by (inl e) = inl e
      by (inr (inl e)) = inr (inl e)
      by (inr (inr e)) = inr (inr e.1)

  -- no test fails
  new_made : ((new_of g).answer ≡ Ok tt) ↔ ((ratios ≡ true) × (some ≡ true) × (other_one ≡ true))
  new_made = rw new_answer (none_fails RatioOutOfLimits OwnAddressZero MeterOutOfLimits ratios some other_one)

  new_accepted : ((new_of g).answer ≡ Ok tt) ↔ ((ratios ≡ true) × (g.address ≡ 0 → ⊥) × (g.second ≡ g.address → ⊥))
  new_accepted =
      let z = same_no g.address 0 in
      let e = same_no g.second g.address in
      (λ h. let t = new_made.0 h in (t.0, z.0 t.1, e.0 t.2), λ h. new_made.1 (h.0, z.1 h.1, e.1 h.2))

  new_within : ((new_of g).answer ≡ Ok tt) ↔ (meter_ok (blank_of g) ≡ true)
  new_within =
      rw (blank_within g) (
        λ h. let t = new_made.0 h in (λ i. (sym (zero_no g.address) ∙ t.1) i && t.2 i && t.0 i),
        λ h.
            let t = (and-eq-true_iff (leb 1 g.address && other_one) ratios).0 h in
            let u = (and-eq-true_iff (leb 1 g.address) other_one).0 t.0 in
            new_made.1 (t.1, zero_no g.address ∙ u.0, u.1),
      )

  -- an accepted meter is within limits
  pub made_within : (new_of g).answer ≡ Ok tt → meter_ok (new_of g).meter ≡ true
  made_within made = ap meter_ok new_blank ∙ new_within.0 made

  pub new_answers : NewAnswers g
  new_answers = record {
    row_3 = by_number (new_of g).answer RatioOutOfLimits (rw new_answer (first_fails _ _ _ refl refl refl ratios some other_one));
    row_4 = by_number (new_of g).answer OwnAddressZero four;
    row_1 = by_number (new_of g).answer MeterOutOfLimits one;
    only = new_only;
    accepted = new_accepted;
    blank = new_blank;
    within = new_within;
  }

-- ---- the addresses of a record

pub address_limits : (m : Meter) → AddressLimits m
address_limits m = record { none = λ z. refuted (λ h. omega (arith, z, own_address m h)); equal = λ e. refuted (λ h. other_address m h e) }
  where
    refuted : (meter_ok m ≡ true → ⊥) → meter_ok m ≡ false
    refuted never = by (meter_ok m) refl
      where
        by : (b : Bool) → meter_ok m ≡ b → meter_ok m ≡ false
        by true h = absurd (never h)
        by false h = h

-- ---- setup words

-- a setup in range that is stored keeps a record within limits
pub set_up_within : (m : Meter) (setup : Setup) → meter_ok m ≡ true → setup_ok setup ≡ true → meter_ok (set_up_of m setup) ≡ true
set_up_within m setup hm hs =
    let k = meter_parts m hm in
    groups_within (set_up_of m setup)
    (record {
      given = k.given;
      counters = k.counters;
      latest = k.latest;
      average = recoded_within (meter_t m) (code_of m.setup) (code_of setup) m.average k.average;
      setup = hs;
    })

module _ (m : Meter) (s : Sample) (setup : Setup) where
  -- with any code and figures: the tests are the same, and the next meters alike but for the figures
  module _ (a : Average) where
    abbrev left : Answered → Answered → Answered
    left mine theirs = answer_with mine.answer (other mine.meter setup theirs.meter.average)

    alike : (b c : Bool) → chosen true b c (other m setup a) (next_of (other m setup a) s) ≡ left (chosen true b c m (next_of m s)) (chosen true b c (other m setup a) (next_of (other m setup a) s))
    alike true true = refl
    alike true false = refl
    alike false c = refl

    any_code : meter_ok m ≡ true → meter_ok (other m setup a) ≡ true → after_of (other m setup a) s ≡ left (after_of m s) (after_of (other m setup a) s)
    unfolding after_of
    any_code hm ho = rw (hm, ho) (alike (sample_ok (meter_t m) s) (meter_within_top (next_of m s)))

  -- with the same code the figures are the same too
  module _ (same : code_of setup ≡ code_of m.setup) where
    same_within : meter_ok m ≡ true → setup_ok setup ≡ true → meter_ok (with_setup m setup) ≡ true
    same_within hm hs =
        let k = meter_parts m hm in
        let averages = ap (λ (code : ℕ). average_ok (meter_t m) code m.average) same ∙ k.average in
        groups_within (with_setup m setup) (record { given = k.given; counters = k.counters; latest = k.latest; average = averages; setup = hs })

    same_next : next_of (with_setup m setup) s ≡ with_setup (next_of m s) setup
    same_next = ap (λ (code : ℕ). with_setup (with_average (next_of m s) (after_second code m.average (in_force s.p))) setup) same

    abbrev changed : Answered → Answered
    changed r = answer_with r.answer (with_setup r.meter setup)

    moved : (b c : Bool) → chosen true b c (with_setup m setup) (with_setup (next_of m s) setup) ≡ changed (chosen true b c m (next_of m s))
    moved true true = refl
    moved true false = refl
    moved false c = refl

    same_code : meter_ok m ≡ true → setup_ok setup ≡ true → after_of (with_setup m setup) s ≡ changed (after_of m s)
    unfolding after_of
    same_code hm hs =
        rw (hm, same_within hm hs)
        (ap (chosen true (sample_ok (meter_t m) s) (meter_within_top (next_of m s)) (with_setup m setup)) same_next
        ∙ moved (sample_ok (meter_t m) s) (meter_within_top (next_of m s)))

pub setup_idle : (m : Meter) (s : Sample) (setup : Setup) (a : Average) → SetupIdle m s setup a
setup_idle m s setup a = record { words = λ hm hs same. same_code m s setup same hm hs; code = any_code m s setup a }

pub code_counts : CodeCounts
unfolding after_of meter_ok sample_ok average_ok group_ok word_ok coded_minutes after_second in_force power_limit
code_counts = record { within = (refl, refl); closes = refl; goes_on = refl }
