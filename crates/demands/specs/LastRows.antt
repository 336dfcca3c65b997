-- Paper 02, requests 2 and 6, over histories and through the bytes: the steps in which registers count, row by row of the table. All is
-- said of the exact energy, in numbers: the table itself is not looked at.
use Rattle.std.specs.Prelude.{◌≡◌, ℕ, ◌*◌, ◌/◌, ◌%◌, ◌≤◌, ◌<◌, Ok}
use Rattle.ratio.specs.Ratios.{t_of}
use Rattle.counts.specs.Counting.{join_of}
use Rattle.directory.specs.Quantity.{quantity, energy_count, wrap}
use Rattle.directory.specs.Views.{View}
use Rattle.reading.specs.declared.Quantity.TheVariants as read
use Rattle.reading.specs.declared.Answer.TheVariants.{Reading}
use Rattle.demands.specs.Demand3.{History, sooner, exact_at, Poll, collected}

-- ---- over a view: the directory and the most words that reads go by

module _ (v : View) where
  -- the whole steps of so many Wh in the exact energy of the samples accepted so far
  abbrev pub steps_at : ℕ → ℕ → History v → ℕ
  steps_at step e h = exact_at v e h / (360000 * step)

  -- an energy is counted in such steps: wherever its register stands, it is read as the steps since it last went back to 0, and the wrap as
  -- how often it did; and the two join to all of these steps
  pub record CountedIn (step : ℕ) (h : History v) (e : ℕ) : Type 0 where
    pub register_read :
        (p : Poll v h.given (quantity energy_count e)) →
        collected v (sooner v h) p
        ≡ Reading (read.Energy (record { 0 = steps_at step e h % 100000000 }) step (record { 0 = steps_at step e h % 100000000 * step }))
    pub wrap_read :
        (p : Poll v h.given (quantity wrap e)) →
        collected v (sooner v h) p ≡ Reading (read.Wrap (steps_at step e h / 100000000))
    pub joins :
        join_of h.given.ratios (record { 0 = steps_at step e h % 100000000 }) (steps_at step e h / 100000000)
        ≡ Ok (record { 0 = steps_at step e h * step })

  -- STATEMENT: from T = 1,000,000 up every energy is counted in steps of 1,000,000 Wh, and its wrap is always read as 0; from 100,000
  -- to 999,999 in steps of 100,000 Wh
  pub record LastRows : Type 0 where
    pub megawatt_hours : (h : History v) (e : ℕ) → e < 4 → 1000000 ≤ t_of h.given.ratios → CountedIn 1000000 h e
    pub no_turn :
        (h : History v) (e : ℕ) → e < 4 → 1000000 ≤ t_of h.given.ratios → (p : Poll v h.given (quantity wrap e)) →
        collected v (sooner v h) p ≡ Reading (read.Wrap 0)
    pub hundred_kilowatt_hours :
        (h : History v) (e : ℕ) → e < 4 → 100000 ≤ t_of h.given.ratios → t_of h.given.ratios < 1000000 → CountedIn 100000 h e

  -- every energy of every meter with such ratios is counted in steps of so many Wh
  abbrev pub CountsBy : ℕ → ℕ → ℕ → Type 0
  CountsBy kta ktv step = (h : History v) (e : ℕ) → e < 4 → h.given.ratios ≡ record { kta = kta; ktv = ktv } → CountedIn step h e

  -- STATEMENT: the rows by the ratios themselves: the last before 1,000,000, the first from there up, a ratio of 120,000, and the largest
  pub record LastRatios : Type 0 where
    pub t_999_999 : CountsBy 2079 481 100000
    pub t_1_000_000 : CountsBy 1000 1000 1000000
    pub t_1_200_000 : CountsBy 1200 1000 1000000
    pub t_99_980_001 : CountsBy 9999 9999 1000000

  -- every energy of every meter whose T is one from the first to the last is counted in steps of so many Wh
  abbrev pub CountsFrom : ℕ → ℕ → ℕ → Type 0
  CountsFrom first last step =
      (h : History v) (e : ℕ) → e < 4 → first ≤ t_of h.given.ratios → t_of h.given.ratios ≤ last → CountedIn step h e

  -- STATEMENT: the rows before the last two: in each, every energy is counted in the step that paper 01 prints there
  pub record FirstRows : Type 0 where
    pub ten_watt_hours : CountsFrom 0 99 10
    pub hundred_watt_hours : CountsFrom 100 999 100
    pub kilowatt_hours : CountsFrom 1000 9999 1000
    pub ten_kilowatt_hours : CountsFrom 10000 99999 10000
