-- A window has 300 to 3,600 seconds; the limits one by one; what is within limits stays so.
use mathlib.Core.Path.{◌≡◌, refl}
use mathlib.Core.Bool.{Bool, true, false, ◌&&◌, cond, and-eq-true_iff}
use Prim.Native.Nat.{ℕ, zero, suc, ◌+◌, ◌*◌, ◌/◌, ◌≤◌, ◌<◌, zero-le}
use native.Mathlib.Nat.{div-lt_iff_lt-mul, mul-le-mul_left, mul_comm, add-mul, le_trans}
use native.Mathlib.Omega.{arith}
use lib.Dec.{leb, ltb, eqb}
use borrow.Author.Tests.{le-leb, lt-ltb, leb-true, ltb-true, ltb-false, eqb-true}
use Rattle.signed.specs.declared.Signed.{Signed}
use Rattle.signed.proofs.Sums.{above_le}
use Rattle.ratio.specs.Powers.{power_limit}
use Rattle.ratio.proofs.Powers.{power_laws}
use Rattle.average.specs.declared.Window.{Window}
use Rattle.average.specs.declared.Average.{Average}
use Rattle.average.specs.Windows.{coded_minutes, window_seconds, no_average, joined_by, mean_of, larger, closed_by, with_window, after_second, opened_of, recoded_by, average_ok, AverageWithin, AverageLimits, WindowLengths, LimitsBite}
use Rattle.average.specs.Fits.{Joins}

-- ---- the seconds of a window

pub coded_fits : (code : ℕ) → (5 ≤ coded_minutes code) × (coded_minutes code ≤ 60)
unfolding coded_minutes
coded_fits zero = (omega arith, omega arith)
coded_fits (suc zero) = (omega arith, omega arith)
coded_fits (suc (suc zero)) = (omega arith, omega arith)
coded_fits (suc (suc (suc zero))) = (omega arith, omega arith)
coded_fits (suc (suc (suc (suc zero)))) = (omega arith, omega arith)
coded_fits (suc (suc (suc (suc (suc zero))))) = (omega arith, omega arith)
coded_fits (suc (suc (suc (suc (suc (suc zero)))))) = (omega arith, omega arith)
coded_fits (suc (suc (suc (suc (suc (suc (suc code))))))) = (omega arith, omega arith)

pub window_lengths : WindowLengths
unfolding coded_minutes
window_lengths = record { seconds = refl }

-- ---- the limits

module _ (t code : ℕ) (a : Average) where
  pub average_parts : average_ok t code a ≡ true → AverageWithin t code a
  unfolding average_ok
  average_parts h =
      let f = (and-eq-true_iff (ltb a.window.seconds (window_seconds code) && leb a.window.sum (a.window.seconds * power_limit t) && leb a.last a.peak) _).0 h in
      let e = (and-eq-true_iff (ltb a.window.seconds (window_seconds code) && leb a.window.sum (a.window.seconds * power_limit t)) _).0 f.0 in
      let d = (and-eq-true_iff (ltb a.window.seconds (window_seconds code)) _).0 e.0 in
      record {
        seconds = ltb-true _ _ d.0;
        sum = leb-true _ _ d.1;
        last = leb-true _ _ e.1;
        peak = leb-true _ _ f.1;
      }

  pub average_within : AverageWithin t code a → average_ok t code a ≡ true
  unfolding average_ok
  average_within w = rw (lt-ltb _ _ w.seconds, le-leb _ _ w.sum, le-leb _ _ w.last, le-leb _ _ w.peak) refl

  pub average_limits : AverageLimits t code a
  average_limits = record { when = (average_parts, average_within) }

pub limits_bite : LimitsBite
unfolding average_ok coded_minutes power_limit
limits_bite = record { most = refl; seconds = refl; sum = refl; last = refl; peak = refl }

-- ---- what keeps them

pub blank_average : (t code : ℕ) → average_ok t code no_average ≡ true
blank_average t code =
    average_within t code no_average (record { seconds = omega (arith, coded_fits code); sum = zero-le; last = omega arith; peak = zero-le })

-- a new window is within the limits of any code
pub opened_within : (t code other : ℕ) (a : Average) → average_ok t code a ≡ true → average_ok t other (opened_of a) ≡ true
opened_within t code other a h =
    let w = average_parts t code a h in
    average_within t other (opened_of a) (record { seconds = omega (arith, coded_fits other); sum = zero-le; last = w.last; peak = w.peak })

picked_within : (t before after : ℕ) (a : Average) (same : Bool) → eqb before after ≡ same → average_ok t before a ≡ true → average_ok t after (cond same a (opened_of a)) ≡ true
picked_within t before after a true e h = rw (eqb-true before after e) at h
picked_within t before after a false e h = opened_within t before after a h

-- a code that is stored keeps the figures within limits
pub recoded_within : (t before after : ℕ) (a : Average) → average_ok t before a ≡ true → average_ok t after (recoded_by before after a) ≡ true
recoded_within t before after a h = picked_within t before after a (eqb before after) refl h

-- the sum of n seconds at most a limit each, over n, is at most the limit
mean_most : (limit sum n : ℕ) → 1 ≤ n → sum ≤ n * limit → sum / n ≤ limit
mean_most limit sum n some h =
    let l : sum / n < limit + 1 = (div-lt_iff_lt-mul {k = n} some).1 (omega (arith, h, some, mul_comm n limit)) in
    omega arith

larger_most : (a b top : ℕ) → a ≤ top → b ≤ top → larger a b ≤ top
larger_most a b top h k = by (ltb a b)
  where
    by : (t : Bool) → cond t b a ≤ top
    by true = k
    by false = h

larger_least : (a b : ℕ) → b ≤ larger a b
larger_least a b = by (ltb a b) refl
  where
    by : (t : Bool) → ltb a b ≡ t → b ≤ cond t b a
    by true e = omega arith
    by false e = omega (arith, ltb-false a b e)

module _ (t code : ℕ) (a : Average) (p : Signed) (h : average_ok t code a ≡ true) (most : p.magnitude ≤ power_limit t) where
  abbrev next : Window
  next = joined_by a.window p

  -- one second more of a power within the limit
  next_sum : next.sum ≤ next.seconds * power_limit t
  next_sum = rw add-mul (omega (arith, (average_parts t code a h).sum, above_le p most))

  stepped_within : (more : Bool) → ltb next.seconds (window_seconds code) ≡ more → average_ok t code (cond more (with_window a next) (closed_by a next)) ≡ true
  stepped_within true e =
      let w = average_parts t code a h in
      average_within t code _ (record { seconds = ltb-true _ _ e; sum = next_sum; last = w.last; peak = w.peak })
  stepped_within false e =
      let w = average_parts t code a h in
      let mean = mean_most (power_limit t) next.sum next.seconds (omega arith) next_sum in
      average_within t code (closed_by a next)
      (record {
        seconds = omega (arith, coded_fits code);
        sum = zero-le;
        last = larger_least a.peak (mean_of next);
        peak = larger_most a.peak (mean_of next) (power_limit t) w.peak mean;
      })

  -- a second of a power within the limit keeps the figures within limits
  pub second_within : average_ok t code (after_second code a p) ≡ true
  unfolding after_second
  second_within = stepped_within (ltb next.seconds (window_seconds code)) refl

  -- and it has room
  pub joins : Joins a.window p
  joins =
      let w = average_parts t code a h in
      record {
        seconds = omega (arith, w.seconds, coded_fits code);
        sum = le_trans w.sum (mul-le-mul_left a.window.seconds (power_laws.limit t));
        most = le_trans most (power_laws.limit t);
      }
