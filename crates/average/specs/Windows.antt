-- Paper 02, request 1: average power and its peak. Powers are in hundredths of W.
use Rattle.std.specs.Prelude.{◌≡◌, ◌↔◌, ℕ, ◌+◌, ◌*◌, ◌/◌, ◌≤◌, ◌<◌, Bool, true, false, ◌&&◌, cond, [], ◌∷◌, map, leb, ltb, eqb, get_or}
use Rattle.signed.specs.declared.Signed.{Signed}
use Rattle.signed.specs.Signs.{above_of}
use Rattle.ratio.specs.Powers.{power_limit}
use Rattle.average.specs.declared.Window.{Window}
use Rattle.average.specs.declared.Average.{Average}

-- the minutes coded at 0x200a (0 to 6: 5, 8, 10, 15, 20, 30, 60); a code beyond, which no record within limits has, is read as 6
unfoldable pub coded_minutes : ℕ → ℕ
coded_minutes code = get_or (5 ∷ 8 ∷ 10 ∷ 15 ∷ 20 ∷ 30 ∷ 60 ∷ []) code 60

-- a window is these minutes times 60 accepted samples
abbrev pub window_seconds : ℕ → ℕ
window_seconds code = coded_minutes code * 60

-- STATEMENT: the seconds of each code's window: those of 5, 8, 10, 15, 20, 30 and 60 minutes
pub record WindowLengths : Type 0 where
  pub seconds : map window_seconds (0 ∷ 1 ∷ 2 ∷ 3 ∷ 4 ∷ 5 ∷ 6 ∷ []) ≡ 300 ∷ 480 ∷ 600 ∷ 900 ∷ 1200 ∷ 1800 ∷ 3600 ∷ []

-- a window that is just opened
abbrev pub no_window : Window
no_window = record { seconds = 0; sum = 0 }

-- one second more, of a 3-phase P: positive it joins the sum, negative it adds 0; the second is counted
abbrev pub joined_by : Window → Signed → Window
joined_by w p = record { seconds = w.seconds + 1; sum = w.sum + above_of p }

-- the average: the sum over its seconds, rounded down
abbrev pub mean_of : Window → ℕ
mean_of w = w.sum / w.seconds

-- the larger of two
abbrev pub larger : ℕ → ℕ → ℕ
larger a b = cond (ltb a b) b a

-- a full window sets the average, raises the peak if that is larger, and the next is opened
abbrev pub closed_by : Average → Window → Average
closed_by a full = record { window = no_window; last = mean_of full; peak = larger a.peak (mean_of full) }

-- the figures with another window
abbrev pub with_window : Average → Window → Average
with_window a w = record { window = w; last = a.last; peak = a.peak }

-- the figures after a second: it joins the open window, and closes it where it fills it
unfoldable pub after_second : ℕ → Average → Signed → Average
after_second code a p =
    cond (ltb (joined_by a.window p).seconds (window_seconds code))
    (with_window a (joined_by a.window p))
    (closed_by a (joined_by a.window p))

-- minutes are whole ones of the open window
abbrev pub minutes_of : Average → ℕ
minutes_of a = a.window.seconds / 60

-- a new window is opened, keeping average and peak
abbrev pub opened_of : Average → Average
opened_of a = with_window a no_window

-- a code is stored: one that is changed also opens a new window
abbrev pub recoded_by : ℕ → ℕ → Average → Average
recoded_by before after a = cond (eqb before after) a (opened_of a)

-- on a new meter all are 0
abbrev pub no_average : Average
no_average = record { window = no_window; last = 0; peak = 0 }

-- the figures are within limits at a ratio of t tenths, in windows of a code: open seconds below the window's, an open sum at most open
-- seconds times the power limit, an average at most the peak, and a peak at most the power limit
unfoldable pub average_ok : ℕ → ℕ → Average → Bool
average_ok t code a =
    ltb a.window.seconds (window_seconds code) &&
    leb a.window.sum (a.window.seconds * power_limit t) &&
    leb a.last a.peak &&
    leb a.peak (power_limit t)

-- the same, limit by limit
pub record AverageWithin (t code : ℕ) (a : Average) : Type 0 where
  pub seconds : a.window.seconds < window_seconds code
  pub sum : a.window.sum ≤ a.window.seconds * power_limit t
  pub last : a.last ≤ a.peak
  pub peak : a.peak ≤ power_limit t

-- STATEMENT: the figures are within limits exactly when none of request 1's four rows of refusal 1 is true of them
pub record AverageLimits (t code : ℕ) (a : Average) : Type 0 where
  pub when : (average_ok t code a ≡ true) ↔ AverageWithin t code a

-- open seconds, open sum, average and peak
abbrev figures : ℕ → ℕ → ℕ → ℕ → Average
figures seconds sum last peak = record { window = record { seconds = seconds; sum = sum }; last = last; peak = peak }

-- STATEMENT: what the limits reject, by one too much each: without transformers (a power limit of 4,294,967,295) and at code 0 (300
-- seconds) figures at all their limits are within them, and no others of these are
pub record LimitsBite : Type 0 where
  pub most : average_ok 10 0 (figures 299 (299 * 4294967295) 4294967295 4294967295) ≡ true
  pub seconds : average_ok 10 0 (figures 300 0 0 0) ≡ false
  pub sum : average_ok 10 0 (figures 299 (299 * 4294967295 + 1) 0 0) ≡ false
  pub last : average_ok 10 0 (figures 0 0 1 0) ≡ false
  pub peak : average_ok 10 0 (figures 0 0 0 4294967296) ≡ false
