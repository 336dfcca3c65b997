-- The lists of values, taken at an index: what is mapped over a list is the function of the list's element there.
use mathlib.Core.Path.{◌≡◌, refl, sym, ap, ◌∙◌}
use mathlib.Core.Bool.{Bool, true, false, and-eq-true_iff}
use mathlib.Core.List.{List, [], ◌∷◌, ◌++◌, map}
use Prim.Native.Nat.{ℕ, zero, suc, ◌-◌, ◌*◌, ◌/◌, ◌%◌, ◌≤◌, zero-le}
use native.Mathlib.Nat.{zero-div}
use lib.Dec.{ltb}
use borrow.Author.Tests.{ltb-true, ltb-false}
use lib.ListN.{get_or, drop, get_or-map, get_or-append, get_or-eq_default}
use Rattle.signed.specs.declared.Signed.{Signed}
use Rattle.signed.specs.Signs.{sign_word}
use Rattle.words.proofs.Signs.{twos_plain}
use Rattle.ratio.specs.Powers.{power_limit, power_register}
use Rattle.counts.specs.Counting.{top_wh, register_of, wrap_of, low_of, high_of}
use Rattle.directory.proofs.ByKind.{kind_is, none_at}
use Rattle.meter.specs.declared.energies.Energy.{Energy}
use Rattle.meter.specs.declared.energies.Counters.{Counters}
use Rattle.meter.specs.declared.Meter.{Meter}
use Rattle.meter.specs.Energies.{energy_ok, counters_ok}
use Rattle.meter.specs.Meters.{meter_t, meter_ok, energies_of, energy_at}
use Rattle.meter.proofs.Parts.{meter_parts, counter_parts, sample_parts, phases_most, powers_phases, in_force_most, energy_top}
use Rattle.registers.specs.SignedWords.{signed_word}
use Rattle.registers.specs.Shown.{powers_of, power_at, power_values, signed_word_values, sign_values, count_values, low_values, high_values, wrap_values, kinds_shown, shown_of}

each : {A : Type 0} (f : A → ℕ) (l : List A) (i : ℕ) (d : A) → f d ≡ 0 → get_or (map f l) i 0 ≡ f (get_or l i d)
each f l i d z = ap (λ (n : ℕ). get_or (map f l) i n) (sym z) ∙ get_or-map f l i d

-- ---- energies

module _ (m : Meter) (which : ℕ) where
  pub count_at : get_or (count_values m) which 0 ≡ (register_of (meter_t m) (energy_at which m).wh).0
  unfolding count_values
  count_at = each (λ (e : Energy). (register_of (meter_t m) e.wh).0) (energies_of m) which _ (ap (λ (n : ℕ). n % 100000000) (zero-div _))

  pub low_at : get_or (low_values m) which 0 ≡ low_of (energy_at which m).wh
  unfolding low_values
  low_at = each (λ (e : Energy). low_of e.wh) (energies_of m) which _ refl

  pub high_at : get_or (high_values m) which 0 ≡ high_of (energy_at which m).wh
  unfolding high_values
  high_at = each (λ (e : Energy). high_of e.wh) (energies_of m) which _ refl

  pub wrap_at : get_or (wrap_values m) which 0 ≡ wrap_of (meter_t m) (energy_at which m).wh
  unfolding wrap_values
  wrap_at = each (λ (e : Energy). wrap_of (meter_t m) e.wh) (energies_of m) which _ (ap (λ (n : ℕ). n / 100000000) (zero-div _))

-- each of the four, of counters within limits
four_within : (c : Counters) → counters_ok c ≡ true → ((energy_ok c.active.positive ≡ true) × (energy_ok c.active.negative ≡ true)) × ((energy_ok c.reactive.positive ≡ true) × (energy_ok c.reactive.negative ≡ true))
four_within c h =
    let k = counter_parts c h in
    ((and-eq-true_iff (energy_ok c.active.positive) (energy_ok c.active.negative)).0 k.0, (and-eq-true_iff (energy_ok c.reactive.positive) (energy_ok c.reactive.negative)).0 k.1)

-- an energy of a meter within limits is within its own, and at most its top
pub energy_within : (m : Meter) (which : ℕ) → meter_ok m ≡ true → energy_ok (energy_at which m) ≡ true
energy_within m zero h = (four_within m.counters (meter_parts m h).counters).0.0
energy_within m (suc zero) h = (four_within m.counters (meter_parts m h).counters).0.1
energy_within m (suc (suc zero)) h = (four_within m.counters (meter_parts m h).counters).1.0
energy_within m (suc (suc (suc zero))) h = (four_within m.counters (meter_parts m h).counters).1.1
energy_within m (suc (suc (suc (suc which)))) h = refl

pub energy_most : (m : Meter) (which : ℕ) → meter_ok m ≡ true → (energy_at which m).wh.0 ≤ top_wh
energy_most m which h = energy_top (energy_at which m) (energy_within m which h)

-- ---- powers

module _ (m : Meter) (which : ℕ) where
  pub signed_at : get_or (signed_word_values m) which 0 ≡ signed_word (power_at m which).negative (power_at m which).magnitude
  unfolding signed_word_values power_at
  signed_at = each (λ (p : Signed). signed_word p.negative p.magnitude) (powers_of m) which _ (twos_plain 2 0)

  pub sign_at : get_or (sign_values m) which 0 ≡ sign_word (power_at m which).negative
  unfolding sign_values power_at
  sign_at = each (λ (p : Signed). sign_word p.negative) (powers_of m) which _ refl

pub power_s : (m : Meter) → get_or (power_values m) 8 0 ≡ power_register (meter_t m) m.latest.s
unfolding power_values
power_s m = refl

pub power_whole : (m : Meter) → get_or (power_values m) 9 0 ≡ m.latest.s / 100
unfolding power_values
power_whole m = refl

pub power_average : (m : Meter) → get_or (power_values m) 10 0 ≡ power_register (meter_t m) m.average.last
unfolding power_values
power_average m = refl

pub power_peak : (m : Meter) → get_or (power_values m) 11 0 ≡ power_register (meter_t m) m.average.peak
unfolding power_values
power_peak m = refl

-- the signed powers: before the four others, or past them
pub power_at_lem : (m : Meter) (which : ℕ) → (8 ≤ which → 12 ≤ which) → get_or (power_values m) which 0 ≡ power_register (meter_t m) (power_at m which).magnitude
unfolding power_values power_at
power_at_lem m which apart = by (ltb which 8) refl
  where
    f : Signed → ℕ
    f p = power_register (meter_t m) p.magnitude

    none : Signed
    none = record { negative = false; magnitude = 0 }

    rest : List ℕ
    rest = power_register (meter_t m) m.latest.s ∷ m.latest.s / 100 ∷ power_register (meter_t m) m.average.last ∷ power_register (meter_t m) m.average.peak ∷ []

    by : (t : Bool) → ltb which 8 ≡ t → get_or (map f (powers_of m) ++ rest) which 0 ≡ f (get_or (powers_of m) which none)
    by true h =
        get_or-append (map f (powers_of m)) rest 0 which (ltb-true which 8 h)
        ∙ each f (powers_of m) which none (zero-div _)
    by false h =
        get_or-eq_default (map f (powers_of m) ++ rest) 0 {n = which} (apart (ltb-false which 8 h))
        ∙ sym (ap f (get_or-eq_default (powers_of m) none (ltb-false which 8 h)) ∙ zero-div _)

-- the powers of a meter within limits are within the power limit
abbrev Most : ℕ → List Signed → Type 0
Most limit [] = Unit
Most limit (p ∷ ps) = (p.magnitude ≤ limit) × Most limit ps

most_at : (limit : ℕ) (ps : List Signed) → Most limit ps → (i : ℕ) → (get_or ps i (record { negative = false; magnitude = 0 })).magnitude ≤ limit
most_at limit [] h i = zero-le
most_at limit (p ∷ ps) h zero = h.0
most_at limit (p ∷ ps) h (suc i) = most_at limit ps h.1 i

pub power_most : (m : Meter) (which : ℕ) → meter_ok m ≡ true → (power_at m which).magnitude ≤ power_limit (meter_t m)
unfolding power_at
power_most m which h =
    let t = meter_t m in
    let s = sample_parts t m.latest (meter_parts m h).latest in
    let p = phases_most (power_limit t) m.latest.p (powers_phases t m.latest.p s.p) in
    let q = phases_most (power_limit t) m.latest.q (powers_phases t m.latest.q s.q) in
    most_at (power_limit t) (powers_of m)
    (in_force_most t m.latest.p s.p, (in_force_most t m.latest.q s.q, (p.0, (p.1, (p.2, (q.0, (q.1, (q.2, tt))))))))
    which

-- ---- kinds

module _ (m : Meter) (q : ℕ) where
  pub shown_kind : (k : ℕ) → q - q % 64 ≡ 64 * k → shown_of m q ≡ get_or (get_or (kinds_shown m) k []) (q % 64) 0
  unfolding shown_of
  shown_kind k h = ap (λ (i : ℕ). get_or (get_or (kinds_shown m) i []) (q % 64) 0) (kind_is q k h)

  pub shown_none : (1 ≤ q / 64 → 17 ≤ q / 64) → shown_of m q ≡ 0
  unfolding shown_of
  shown_none beyond = ap (λ (l : List ℕ). get_or l (q % 64) 0) (none_at [] 1 (drop 1 (kinds_shown m)) (q / 64) beyond)
