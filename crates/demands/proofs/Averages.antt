-- The figures that a record keeps are those of the layout: a second joins both, a full window closes in both, and a frame that changes the code
-- opens a new window in both. What is read shows these figures.
use Rattle.std.specs.Prelude.{Ok}
use mathlib.Core.Path.{◌≡◌, refl, sym, ap, subst, ◌∙◌}
use mathlib.Core.Logic.{inl, inr}
use mathlib.Core.Bool.{Bool, true, false, cond}
use mathlib.Core.List.{List, [], ◌∷◌}
use Prim.Native.Nat.{ℕ, ◌+◌, ◌/◌, ◌<◌}
use native.Mathlib.Omega.{arith}
use lib.Dec.{T, leb, eqb, ltb}
use lib.ListN.{length}
use borrow.Author.Tests.{eq-eqb, ne_eqb, le-leb, lt-leb, ltb-true, ltb-false}
use Rattle.signed.specs.declared.Signed.{Signed}
use Rattle.signed.specs.Signs.{above_of}
use Rattle.ratio.specs.Ratios.{t_of}
use Rattle.average.specs.declared.Average.{Average}
use Rattle.average.specs.Windows.{window_seconds, no_average, joined_by, larger, closed_by, with_window, after_second, opened_of, recoded_by}
use Rattle.directory.specs.Quantity.{quantity, power, plain, average, peak, minutes}
use Rattle.directory.specs.Views.{View, passes}
use Rattle.reading.specs.declared.Quantity.TheVariants as read
use Rattle.reading.specs.declared.Answer.TheVariants.{Reading}
use Rattle.meter.specs.declared.samples.Sample.{Sample}
use Rattle.meter.specs.declared.given.Given.{Given}
use Rattle.meter.specs.declared.Meter.{Meter}
use Rattle.meter.specs.Samples.{in_force, sample_ok}
use Rattle.meter.specs.Groups.{code_of}
use Rattle.meter.specs.Meters.{meter_t, meter_ok, new_of}
use Rattle.meter.specs.After.{next_of, meter_within_top, after_of}
use Rattle.meter.specs.Carried.{is_accepted}
use Rattle.meter.proofs.Parts.{figures}
use Rattle.meter.proofs.Cases.{chosen}
use Rattle.meter.proofs.Accepts.{made_within, new_blank}
use Rattle.registers.specs.Shown.{plain_values}
use Rattle.registers.proofs.Widths.{average_shows, peak_shows, minutes_shows}
use Rattle.board.specs.Board.{board_in}
use Rattle.demands.specs.Meaning.{rounded_power, power_meanings, meaning_of}
use Rattle.demands.specs.Histories.{Event, after_event, after_all}
use Rattle.demands.specs.Averages.{Layout, no_layout, laid_in, dropped_of, total, average_of, largest, last_in, peak_in, laid_by, laid_all, layout_of, AveragesRead}
use Rattle.demands.proofs.Frames.{Kept, kept}
use Rattle.demands.proofs.Polls.{poll_reads}
use Rattle.demands.proofs.Histories.{after_events}

-- the figures are those of the layout
record Figured (a : Average) (l : Layout) : Type 0 where
  pub seconds : a.window.seconds ≡ length l.begun
  pub sum : a.window.sum ≡ total l.begun
  pub last : a.last ≡ last_in l
  pub peak : a.peak ≡ peak_in l

none_figured : Figured no_average no_layout
unfolding total largest
none_figured = record { seconds = refl; sum = refl; last = refl; peak = refl }

-- the larger of two, by the other test
larger_is : (a b : ℕ) → larger a b ≡ cond (leb b a) a b
larger_is a b = by (ltb a b) refl
  where
    by : (t : Bool) → ltb a b ≡ t → cond t b a ≡ cond (leb b a) a b
    by true e = sym (ap (λ (x : Bool). cond x a b) (lt-leb b a (ltb-true a b e)))
    by false e = sym (ap (λ (x : Bool). cond x a b) (le-leb b a (ltb-false a b e)))

-- ---- a second

module _ (code : ℕ) (watts : Signed) (a : Average) (l : Layout) (fewer : a.window.seconds < window_seconds code) (f : Figured a l) where
  abbrev p : ℕ
  p = above_of watts

  -- its window's sum and seconds, with it
  joined_sum : a.window.sum + p ≡ total (p ∷ l.begun)
  unfolding total
  joined_sum = omega (arith, f.sum)

  joined_seconds : a.window.seconds + 1 ≡ length (p ∷ l.begun)
  joined_seconds = omega (arith, f.seconds)

  mean : (a.window.sum + p) / (a.window.seconds + 1) ≡ total (p ∷ l.begun) / length (p ∷ l.begun)
  mean = λ i. joined_sum i / joined_seconds i

  picked : (more : Bool) → ltb (a.window.seconds + 1) (window_seconds code) ≡ more → Figured (cond more (with_window a (joined_by a.window watts)) (closed_by a (joined_by a.window watts))) (laid_in (window_seconds code) p l)
  unfolding total largest
  picked true e =
      let short : eqb (length (p ∷ l.begun)) (window_seconds code) ≡ false = ne_eqb (length (p ∷ l.begun)) (window_seconds code) (λ same. omega (arith, joined_seconds, same, ltb-true (a.window.seconds + 1) (window_seconds code) e)) in
      rw short (record { seconds = joined_seconds; sum = joined_sum; last = f.last; peak = f.peak })
  picked false e =
      let whole : eqb (length (p ∷ l.begun)) (window_seconds code) ≡ true = eq-eqb (length (p ∷ l.begun)) (window_seconds code) (omega (arith, joined_seconds, fewer, ltb-false (a.window.seconds + 1) (window_seconds code) e)) in
      rw whole (record { seconds = refl; sum = refl; last = mean; peak = (λ i. larger (f.peak i) (mean i)) ∙ larger_is (peak_in l) (average_of (p ∷ l.begun)) })

  second_figured : Figured (after_second code a watts) (laid_in (window_seconds code) p l)
  unfolding after_second
  second_figured = picked (ltb (a.window.seconds + 1) (window_seconds code)) refl

-- ---- a code that is stored

recoded_figured : (before after : ℕ) (a : Average) (l : Layout) → Figured a l → Figured (recoded_by before after a) (cond (eqb before after) l (dropped_of l))
unfolding total
recoded_figured before after a l f = by (eqb before after)
  where
    by : (same : Bool) → Figured (cond same a (opened_of a)) (cond same l (dropped_of l))
    by true = f
    by false = record { seconds = refl; sum = refl; last = f.last; peak = f.peak }

-- ---- any event

-- a sample, by its tests
chosen_figured : (a b c : Bool) (m n : Meter) (l k : Layout) → Figured m.average l → (a ≡ true → Figured n.average k) → Figured (chosen a b c m n).meter.average (cond (is_accepted (chosen a b c m n).answer) k l)
chosen_figured true true true m n l k f g = g refl
chosen_figured true true false m n l k f g = f
chosen_figured true false c m n l k f g = f
chosen_figured false b c m n l k f g = f

sample_figured : (m : Meter) (s : Sample) (l : Layout) → Figured m.average l → Figured (after_of m s).meter.average (cond (is_accepted (after_of m s).answer) (laid_in (window_seconds (code_of m.setup)) (above_of (in_force s.p)) l) l)
unfolding after_of
sample_figured m s l f =
    chosen_figured (meter_ok m) (sample_ok (meter_t m) s) (meter_within_top (next_of m s)) m (next_of m s) l _ f
    (λ within. second_figured (code_of m.setup) (in_force s.p) m.average l (figures m within).seconds f)

module _ (v : View) (good : T (passes v)) where
  -- whatever a frame does, the figures are recoded from the code before it to the one after
  kept_recodes : (m : Meter) (frame b : List ℕ) (n : Meter) → Kept m frame b n → n.average ≡ recoded_by (code_of m.setup) (code_of n.setup) m.average
  kept_recodes m frame b n (inl e) =
      ap (λ (x : Meter). x.average) e
      ∙ sym (ap (λ (t : Bool). cond t m.average (opened_of m.average)) (eq-eqb (code_of m.setup) (code_of n.setup) (sym (ap (λ (x : Meter). code_of x.setup) e))))
  kept_recodes m frame b n (inr s) =
      ap (λ (x : Meter). x.average) s.2
      ∙ ap (λ (x : Meter). recoded_by (code_of m.setup) (code_of x.setup) m.average) (sym s.2)

  event_figured : (m : Meter) (x : Event) (l : Layout) → Figured m.average l → Figured (after_event v m x).average (laid_by v m x l)
  event_figured m (Event.sample s) l f = sample_figured m s l f
  event_figured m (Event.frame bytes b) l f =
      let n = (board_in v m bytes b).handled.meter in
      subst (λ (a : Average). Figured a (laid_by v m (Event.frame bytes b) l)) (sym (kept_recodes m bytes b n (kept v good m bytes b)))
      (recoded_figured (code_of m.setup) (code_of n.setup) m.average l f)

  all_figured : (m : Meter) (xs : List Event) (l : Layout) → Figured m.average l → Figured (after_all v m xs).average (laid_all v m xs l)
  unfolding after_all laid_all
  all_figured m [] l f = f
  all_figured m (x ∷ xs) l f = all_figured (after_event v m x) xs (laid_by v m x l) (event_figured m x l f)

  -- ---- what is read

  module _ (g : Given) (xs : List Event) (made : (new_of g).answer ≡ Ok tt) where
    abbrev first : Meter
    first = (new_of g).meter

    abbrev m : Meter
    m = after_all v first xs

    abbrev laid : Layout
    laid = layout_of v g xs

    figured : Figured m.average laid
    figured = all_figured first xs no_layout (subst (λ (x : Meter). Figured x.average no_layout) (sym (new_blank g)) none_figured)

    within : meter_ok m ≡ true
    within = (after_events v good).within first xs (made_within g made)

    given : m.given ≡ g
    given = (after_events v good).given first xs ∙ ap (λ (x : Meter). x.given) (new_blank g)

    same_t : meter_t m ≡ t_of g.ratios
    same_t = ap (λ (x : Given). t_of x.ratios) given

    average_means : meaning_of m (quantity power average) ≡ read.Power (rounded_power (meter_t m) m.average.last)
    unfolding meaning_of power_meanings
    average_means = refl

    peak_means : meaning_of m (quantity power peak) ≡ read.Power (rounded_power (meter_t m) m.average.peak)
    unfolding meaning_of power_meanings
    peak_means = refl

    minutes_means : meaning_of m (quantity plain minutes) ≡ read.Plain (m.average.window.seconds / 60)
    unfolding meaning_of plain_values
    minutes_means = refl

    pub averages_read : AveragesRead v g xs
    averages_read = record {
      average_read = λ p. poll_reads v good m within given p (average_shows m within) ∙ ap Reading average_means ∙ (λ i. Reading (read.Power (rounded_power (same_t i) (figured.last i))));
      peak_read = λ p. poll_reads v good m within given p (peak_shows m within) ∙ ap Reading peak_means ∙ (λ i. Reading (read.Power (rounded_power (same_t i) (figured.peak i))));
      minutes_read = λ p. poll_reads v good m within given p (minutes_shows m within) ∙ ap Reading minutes_means ∙ (λ i. Reading (read.Plain (figured.seconds i / 60)));
      begun_fewer = rw (sym figured.seconds) (figures m within).seconds;
    }
