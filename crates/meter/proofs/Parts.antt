-- What is known of a sample, an energy and a record that are within limits.
use mathlib.Core.Path.{◌≡◌, refl}
use mathlib.Core.Bool.{Bool, true, false, ◌&&◌, ◌||◌, not, false≢true, and-eq-true_iff}
use Prim.Native.Nat.{ℕ, ◌+◌, ◌/◌, ◌%◌, ◌≤◌}
use native.Mathlib.Nat.{le_trans}
use native.Mathlib.Omega.{arith}
use lib.Dec.{leb, eqb}
use lib.IntN.{nat_abs}
use borrow.Author.Tests.{leb-true, eqb-true, eqb-false, not-true}
use Rattle.ratio.specs.Ratios.{kta_ok, ktv_ok, ratios_ok}
use Rattle.ratio.specs.Powers.{power_limit}
use Rattle.ratio.proofs.Powers.{power_laws}
use Rattle.counts.specs.Counting.{top_wh}
use Rattle.average.specs.Windows.{average_ok, minutes_of, AverageWithin}
use Rattle.average.proofs.Limits.{average_parts, coded_fits}
use Rattle.meter.specs.declared.samples.Powers.{Powers}
use Rattle.meter.specs.declared.samples.Sample.{Sample}
use Rattle.meter.specs.declared.energies.Energy.{Energy}
use Rattle.meter.specs.declared.energies.Energies.{Energies}
use Rattle.meter.specs.declared.energies.Counters.{Counters}
use Rattle.meter.specs.declared.Meter.{Meter}
use Rattle.meter.specs.Samples.{sum_of, in_force, factor_of, phases_ok, powers_ok, sample_ok}
use Rattle.meter.specs.Energies.{energy_ok, energies_ok, counters_ok, ZeroToNeither}
use Rattle.meter.specs.Groups.{setup_ok, code_of}
use Rattle.meter.specs.Meters.{meter_t, given_ok, meter_ok}
use Rattle.meter.specs.Fits.{Held, Room}

-- a number that is 1 or 2
pub two_at_most : (n : ℕ) → (eqb n 1 || eqb n 2) ≡ true → n ≤ 2
two_at_most n h = by (eqb n 1) (eqb n 2) refl refl h
  where
    by : (a b : Bool) → eqb n 1 ≡ a → eqb n 2 ≡ b → (a || b) ≡ true → n ≤ 2
    by true b e f t = omega (arith, eqb-true n 1 e)
    by false true e f t = omega (arith, eqb-true n 2 f)
    by false false e f t = absurd (false≢true t)

-- phases within a limit, one by one
pub phases_most : (limit : ℕ) (p : Powers) → phases_ok limit p ≡ true → (nat_abs p.l1 ≤ limit) × (nat_abs p.l2 ≤ limit) × (nat_abs p.l3 ≤ limit)
phases_most limit p h =
    let c = (and-eq-true_iff (leb (nat_abs p.l1) limit && leb (nat_abs p.l2) limit) (leb (nat_abs p.l3) limit)).0 h in
    let d = (and-eq-true_iff (leb (nat_abs p.l1) limit) (leb (nat_abs p.l2) limit)).0 c.0 in
    (leb-true _ _ d.0, leb-true _ _ d.1, leb-true _ _ c.1)

-- and so they can be added
pub phases_held : (t : ℕ) (p : Powers) → phases_ok (power_limit t) p ≡ true → Held p
phases_held t p h =
    let l = phases_most (power_limit t) p h in
    let limit = power_laws.limit t in
    record { one = le_trans l.0 limit; two = le_trans l.1 limit; three = le_trans l.2 limit }

-- phases of powers within the limit are within it
module _ (t : ℕ) (p : Powers) (h : powers_ok t p ≡ true) where
  pub powers_phases : phases_ok (power_limit t) p ≡ true
  powers_phases = ((and-eq-true_iff (phases_ok (power_limit t) p) (leb (sum_of p).magnitude (power_limit t))).0 h).0

  -- and so is the sum in force
  pub in_force_most : (in_force p).magnitude ≤ power_limit t
  unfolding in_force
  in_force_most = leb-true _ _ ((and-eq-true_iff (phases_ok (power_limit t) p) (leb (sum_of p).magnitude (power_limit t))).0 h).1

pub record SampleParts (t : ℕ) (s : Sample) : Type 0 where
  pub p : powers_ok t s.p ≡ true
  pub q : powers_ok t s.q ≡ true
  pub apparent : s.s ≤ power_limit t
  pub factor : (factor_of s.factor).magnitude ≤ 1000
  pub sector : s.sector ≤ 2
  pub sequence : (eqb s.sequence 1 || eqb s.sequence 2) ≡ true

pub sample_parts : (t : ℕ) (s : Sample) → sample_ok t s ≡ true → SampleParts t s
unfolding sample_ok
sample_parts t s h =
    let p = powers_ok t s.p in
    let q = powers_ok t s.q in
    let a = leb s.s (power_limit t) in
    let f = leb (factor_of s.factor).magnitude 1000 in
    let n = leb s.sector 2 in
    let h5 = (and-eq-true_iff (p && q && a && f && n) (eqb s.sequence 1 || eqb s.sequence 2)).0 h in
    let h4 = (and-eq-true_iff (p && q && a && f) n).0 h5.0 in
    let h3 = (and-eq-true_iff (p && q && a) f).0 h4.0 in
    let h2 = (and-eq-true_iff (p && q) a).0 h3.0 in
    let h1 = (and-eq-true_iff p q).0 h2.0 in
    record {
      p = h1.0;
      q = h1.1;
      apparent = leb-true _ _ h2.1;
      factor = leb-true _ _ h3.1;
      sector = leb-true _ _ h4.1;
      sequence = h5.1;
    }

-- a record within limits, group by group
pub record MeterParts (m : Meter) : Type 0 where
  pub given : given_ok m.given ≡ true
  pub counters : counters_ok m.counters ≡ true
  pub latest : sample_ok (meter_t m) m.latest ≡ true
  pub average : average_ok (meter_t m) (code_of m.setup) m.average ≡ true
  pub setup : setup_ok m.setup ≡ true

pub meter_parts : (m : Meter) → meter_ok m ≡ true → MeterParts m
unfolding meter_ok
meter_parts m h =
    let g = given_ok m.given in
    let k = counters_ok m.counters in
    let s = sample_ok (meter_t m) m.latest in
    let a = average_ok (meter_t m) (code_of m.setup) m.average in
    let h4 = (and-eq-true_iff (g && k && s && a) (setup_ok m.setup)).0 h in
    let h3 = (and-eq-true_iff (g && k && s) a).0 h4.0 in
    let h2 = (and-eq-true_iff (g && k) s).0 h3.0 in
    let h1 = (and-eq-true_iff g k).0 h2.0 in
    record { given = h1.0; counters = h1.1; latest = h2.1; average = h3.1; setup = h4.1 }

-- and back: a record whose groups are within limits is
pub groups_within : (m : Meter) → MeterParts m → meter_ok m ≡ true
unfolding meter_ok
groups_within m k = λ i. k.given i && k.counters i && k.latest i && k.average i && k.setup i

-- its figures of request 1, limit by limit; both averages are at most the power limit
module _ (m : Meter) (h : meter_ok m ≡ true) where
  pub figures : AverageWithin (meter_t m) (code_of m.setup) m.average
  figures = average_parts (meter_t m) (code_of m.setup) m.average (meter_parts m h).average

  pub last_most : m.average.last ≤ power_limit (meter_t m)
  last_most = le_trans figures.last figures.peak

  pub minutes_most : minutes_of m.average ≤ 59
  minutes_most = omega (arith, figures.seconds, coded_fits (code_of m.setup))

-- what it was given
module _ (m : Meter) (h : meter_ok m ≡ true) where
  named : (leb 1 m.given.address ≡ true) × (not (eqb m.given.second m.given.address) ≡ true)
  named =
      (and-eq-true_iff (leb 1 m.given.address) (not (eqb m.given.second m.given.address))).0
      ((and-eq-true_iff (leb 1 m.given.address && not (eqb m.given.second m.given.address)) (ratios_ok m.given.ratios)).0 (meter_parts m h).given).0

  pub own_address : 1 ≤ m.given.address
  own_address = leb-true _ _ named.0

  pub own_ratios : ratios_ok m.given.ratios ≡ true
  own_ratios = ((and-eq-true_iff (leb 1 m.given.address && not (eqb m.given.second m.given.address)) (ratios_ok m.given.ratios)).0 (meter_parts m h).given).1

  pub other_address : m.given.second ≡ m.given.address → ⊥
  other_address = eqb-false _ _ (not-true _ named.1)

  pub ratio_parts : (kta_ok m.given.ratios.kta ≡ true) × (ktv_ok m.given.ratios.ktv ≡ true)
  ratio_parts = (and-eq-true_iff (kta_ok m.given.ratios.kta) (ktv_ok m.given.ratios.ktv)).0 own_ratios

-- its energies
pub counter_parts : (c : Counters) → counters_ok c ≡ true → (energies_ok c.active ≡ true) × (energies_ok c.reactive ≡ true)
counter_parts c = (and-eq-true_iff (energies_ok c.active) (energies_ok c.reactive)).0

-- an energy within limits is at most its top
pub energy_top : (e : Energy) → energy_ok e ≡ true → e.wh.0 ≤ top_wh
energy_top e h = leb-true _ _ ((and-eq-true_iff (leb e.wh.0 top_wh) (leb e.remainder 359999)).0 h).0

pub energy_rest : (e : Energy) → energy_ok e ≡ true → e.remainder ≤ 359999
energy_rest e h = leb-true _ _ ((and-eq-true_iff (leb e.wh.0 top_wh) (leb e.remainder 359999)).0 h).1

pub zero_to_neither : ZeroToNeither
zero_to_neither = record {
  same = λ e h.
      let r = energy_rest e h in
      let wh : e.wh.0 + (e.remainder + 0) / 360000 ≡ e.wh.0 = omega (arith, r) in
      let rest : (e.remainder + 0) % 360000 ≡ e.remainder = omega (arith, r) in
      λ i. record { wh = record { 0 = wh i }; remainder = rest i };
}

-- a power within the limit has room in energies within limits
pub energies_room : (es : Energies) (t : ℕ) (p : Powers) → energies_ok es ≡ true → powers_ok t p ≡ true → Room es (in_force p)
energies_room es t p he hp =
    let e = (and-eq-true_iff (energy_ok es.positive) (energy_ok es.negative)).0 he in
    record {
      positive = energy_top es.positive e.0;
      negative = energy_top es.negative e.1;
      most = le_trans (in_force_most t p hp) (power_laws.limit t);
    }

-- a record and a sample within limits can be counted
module _ (m : Meter) (s : Sample) (hm : meter_ok m ≡ true) (hs : sample_ok (meter_t m) s ≡ true) where
  pub held_p : Held s.p
  held_p = phases_held (meter_t m) s.p (powers_phases (meter_t m) s.p (sample_parts (meter_t m) s hs).p)

  pub held_q : Held s.q
  held_q = phases_held (meter_t m) s.q (powers_phases (meter_t m) s.q (sample_parts (meter_t m) s hs).q)

  -- what joins the open window
  pub p_most : (in_force s.p).magnitude ≤ power_limit (meter_t m)
  p_most = in_force_most (meter_t m) s.p (sample_parts (meter_t m) s hs).p

  pub room : Room m.counters.active (in_force s.p) × Room m.counters.reactive (in_force s.q)
  room =
      let k = counter_parts m.counters (meter_parts m hm).counters in
      let x = sample_parts (meter_t m) s hs in
      (energies_room m.counters.active (meter_t m) s.p k.0 x.p, energies_room m.counters.reactive (meter_t m) s.q k.1 x.q)
