-- Paper 01, "The meter's record": the latest sample and its limits.
use Rattle.std.specs.Prelude.{ℕ, Bool, ◌&&◌, ◌||◌, leb, eqb, pos, nat_abs, ◌+ℤ◌, replicate}
use Rattle.signed.specs.declared.Signed.{Signed}
use Rattle.signed.specs.Signs.{signed_of}
use Rattle.ratio.specs.Powers.{power_limit}
use Rattle.meter.specs.declared.samples.Powers.{Powers}
use Rattle.meter.specs.declared.samples.Factor.{Factor}
use Rattle.meter.specs.declared.samples.Sample.{Sample}

-- 3-phase P and Q are the sums of the phases; the power limit is for this sum
abbrev pub sum_of : Powers → Signed
sum_of p = signed_of ((p.l1 +ℤ p.l2) +ℤ p.l3)

-- the 3-phase power that is shown and counted: the sum of all three phases
unfoldable pub in_force : Powers → Signed
in_force p = sum_of p

-- power factor, signed thousandths
abbrev pub factor_of : Factor → Signed
factor_of f = signed_of f.0

-- each phase is within a power limit, in magnitude
abbrev pub phases_ok : ℕ → Powers → Bool
phases_ok limit p = leb (nat_abs p.l1) limit && leb (nat_abs p.l2) limit && leb (nat_abs p.l3) limit

-- power limit for each phase, each sum (in magnitude)
abbrev pub powers_ok : ℕ → Powers → Bool
powers_ok t p = phases_ok (power_limit t) p && leb (sum_of p).magnitude (power_limit t)

-- a sample at a ratio of t tenths: power limit for P, Q and S; power factor -1,000 to 1,000; sector 0 to 2; sequence 1 or 2;
-- voltages, currents and frequency any number of their width
unfoldable pub sample_ok : ℕ → Sample → Bool
sample_ok t s =
    powers_ok t s.p &&
    powers_ok t s.q &&
    leb s.s (power_limit t) &&
    leb (factor_of s.factor).magnitude 1000 &&
    leb s.sector 2 &&
    (eqb s.sequence 1 || eqb s.sequence 2)

-- no power in any phase
abbrev no_powers : Powers
no_powers = record { l1 = pos 0; l2 = pos 0; l3 = pos 0 }

-- a sample of nothing but P, with sequence 1
abbrev pub sample_of : Powers → Sample
sample_of p =
    record {
      voltages = replicate 6 0;
      currents = replicate 4 0;
      p = p;
      q = no_powers;
      s = 0;
      factor = record { 0 = pos 0 };
      sector = 0;
      sequence = 1;
      frequency = 0;
    }

-- the sample of a new meter: 0 except sequence 1
abbrev pub no_sample : Sample
no_sample = sample_of no_powers
