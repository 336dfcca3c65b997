-- The values beside the widths of their quantities: the lists are as long as each other, and each value fits its bytes.
use mathlib.Core.Path.{◌≡◌, refl, sym, ap, ◌∙◌}
use mathlib.Core.Bool.{Bool, true, false, ◌&&◌, and-eq-true_iff}
use mathlib.Core.List.{List, [], ◌∷◌, ◌++◌}
use Prim.Native.Nat.{ℕ, zero, suc, ◌+◌, ◌/◌, ◌%◌, ◌^◌, ◌≤◌, ◌<◌}
use native.Mathlib.Nat.{lt_of_lt_of_le, pow-le-pow_right}
use native.Mathlib.Omega.{arith}
use lib.Dec.{T, eqb, leb, ltb}
use borrow.Author.Tests.{eqb-true, eqb-false, leb-true, ltb-true, ltb-false}
use lib.ListN.{length, get_or, take, replicate, get_or-replicate, length-append, get_or-append}
use Rattle.words.proofs.Signs.{twos_fits}
use Rattle.signed.proofs.Signs.{sign_most}
use Rattle.ratio.proofs.Powers.{powers_fit}
use Rattle.counts.proofs.Joins.{counts_fit}
use Rattle.directory.specs.Quantity.{quantity, power, energy_count, low, high, wrap, plain, average, peak, minutes, setup2000, widths, width_of}
use Rattle.directory.specs.declared.Item.{Item}
use Rattle.directory.specs.Item.{none}
use Rattle.directory.specs.Order.{room_of, tested}
use Rattle.directory.proofs.ByKind.{◌also◌}
use Rattle.directory.proofs.Rules.{directory_rules}
use Rattle.meter.specs.declared.groups.Setup.{Setup}
use Rattle.meter.specs.declared.Meter.{Meter}
use Rattle.meter.specs.Samples.{factor_of}
use Rattle.meter.specs.Groups.{code_of}
use Rattle.meter.specs.Meters.{meter_t, meter_ok, with_setup, energy_at}
use Rattle.meter.proofs.Parts.{two_at_most, SampleParts, sample_parts, meter_parts, figures, last_most, minutes_most, ratio_parts}
use Rattle.registers.specs.Shown.{power_at, power_values, signed_word_values, sign_values, count_values, low_values, high_values, wrap_values, factor_values, plain_values, kinds_shown, shown_of}
use Rattle.registers.specs.Typed.{Typed, EveryCase, SetupUnseen}
use Rattle.registers.proofs.Values.{count_at, low_at, high_at, wrap_at, energy_most, signed_at, sign_at, power_s, power_whole, power_average, power_peak, power_at_lem, power_most}

-- values that fit their widths, one by one
abbrev Fit : List ℕ → List ℕ → Type 0
Fit [] [] = Unit
Fit [] (w ∷ ws) = ⊥
Fit (v ∷ vs) [] = ⊥
Fit (v ∷ vs) (w ∷ ws) = (v < 256 ^ w) × Fit vs ws

abbrev Fits : List (List ℕ) → List (List ℕ) → Type 0
Fits [] [] = Unit
Fits [] (w ∷ ws) = ⊥
Fits (v ∷ vs) [] = ⊥
Fits (v ∷ vs) (w ∷ ws) = Fit v w × Fits vs ws

fit_at : (vs ws : List ℕ) → Fit vs ws → (i : ℕ) → get_or vs i 0 < 256 ^ get_or ws i 0
fit_at [] [] f i = omega arith
fit_at [] (w ∷ ws) f i = absurd f
fit_at (v ∷ vs) [] f i = absurd f
fit_at (v ∷ vs) (w ∷ ws) f zero = f.0
fit_at (v ∷ vs) (w ∷ ws) f (suc i) = fit_at vs ws f.1 i

fit_case : (vs ws : List ℕ) → Fit vs ws → (i : ℕ) → 1 ≤ get_or ws i 0 → i < length vs
fit_case [] [] f i h = absurd (omega arith)
fit_case [] (w ∷ ws) f i h = absurd f
fit_case (v ∷ vs) [] f i h = absurd f
fit_case (v ∷ vs) (w ∷ ws) f zero h = omega arith
fit_case (v ∷ vs) (w ∷ ws) f (suc i) h = omega (arith, fit_case vs ws f.1 i h)

fits_at : (vs ws : List (List ℕ)) → Fits vs ws → (k : ℕ) → Fit (get_or vs k []) (get_or ws k [])
fits_at [] [] f k = tt
fits_at [] (w ∷ ws) f k = absurd f
fits_at (v ∷ vs) [] f k = absurd f
fits_at (v ∷ vs) (w ∷ ws) f zero = f.0
fits_at (v ∷ vs) (w ∷ ws) f (suc k) = fits_at vs ws f.1 k

-- as many values as there are quantities of one width
all_fit : (w n : ℕ) (l : List ℕ) → length l ≡ n → ((i : ℕ) → get_or l i 0 < 256 ^ w) → Fit l (replicate n w)
all_fit w zero [] h each = tt
all_fit w zero (v ∷ l) h each = absurd (omega (arith, h))
all_fit w (suc n) [] h each = absurd (omega (arith, h))
all_fit w (suc n) (v ∷ l) h each = (each 0, all_fit w n l (omega (arith, h)) (λ i. each (suc i)))

append_fits : (w : ℕ) (a b : List ℕ) → ((i : ℕ) → get_or a i 0 < 256 ^ w) → ((i : ℕ) → get_or b i 0 < 256 ^ w) → (i : ℕ) → get_or (a ++ b) i 0 < 256 ^ w
append_fits w [] b f g i = g i
append_fits w (v ∷ a) b f g zero = f 0
append_fits w (v ∷ a) b f g (suc i) = append_fits w a b (λ i. f (suc i)) g i

-- ---- kind by kind

-- a value shown of a quantity stands among its kind's, and fits its bytes
pub record Shows (m : Meter) (q : ℕ) : Type 0 where
  pub case : q % 64 < length (get_or (kinds_shown m) (q / 64) [])
  pub fits : shown_of m q < 256 ^ width_of q

-- energies: of any record within limits
module _ (m : Meter) (h : meter_ok m ≡ true) where
  count_fits : (i : ℕ) → get_or (count_values m) i 0 < 256 ^ 4
  count_fits i = rw (count_at m i) (omega (arith, counts_fit.register (meter_t m) (energy_at i m).wh))

  low_fits : (i : ℕ) → get_or (low_values m) i 0 < 256 ^ 4
  low_fits i = rw (low_at m i) (omega (arith, counts_fit.low (energy_at i m).wh))

  high_fits : (i : ℕ) → get_or (high_values m) i 0 < 256 ^ 4
  high_fits i = rw (high_at m i) (omega (arith, counts_fit.high (energy_at i m).wh (energy_most m i h)))

  wrap_fits : (i : ℕ) → get_or (wrap_values m) i 0 < 256 ^ 2
  wrap_fits i = rw (wrap_at m i) (omega (arith, counts_fit.wrap (meter_t m) (energy_at i m).wh (energy_most m i h)))

  -- one of the four, of a kind whose values fit
  one_shows : (k w e : ℕ) → e < 4 → Fit (get_or (kinds_shown m) k []) (replicate 4 w) → get_or widths k [] ≡ replicate 4 w → 1 ≤ w → Shows m (quantity k e)
  unfolding shown_of
  one_shows k w e l fit same some =
      let kind : quantity k e / 64 ≡ k = omega (arith, l) in
      let which : quantity k e % 64 ≡ e = omega (arith, l) in
      let wide : get_or (replicate 4 w) e 0 ≡ w = get_or-replicate 4 e w 0 l in
      record {
        case = rw (kind, which) (fit_case (get_or (kinds_shown m) k []) (replicate 4 w) fit e (rw wide some));
        fits = rw (kind, which, same) (fit_at (get_or (kinds_shown m) k []) (replicate 4 w) fit e);
      }

  -- an energy's register, Low, High and wrap
  module _ (e : ℕ) (four : e < 4) where
    pub count_shows : Shows m (quantity energy_count e)
    unfolding count_values
    count_shows = one_shows 5 4 e four (all_fit 4 4 (count_values m) refl count_fits) refl (omega arith)

    pub low_shows : Shows m (quantity low e)
    unfolding low_values
    low_shows = one_shows 6 4 e four (all_fit 4 4 (low_values m) refl low_fits) refl (omega arith)

    pub high_shows : Shows m (quantity high e)
    unfolding high_values
    high_shows = one_shows 7 4 e four (all_fit 4 4 (high_values m) refl high_fits) refl (omega arith)

    pub wrap_shows : Shows m (quantity wrap e)
    unfolding wrap_values
    wrap_shows = one_shows 8 2 e four (all_fit 2 4 (wrap_values m) refl wrap_fits) refl (omega arith)

-- average, peak and minutes: of any record within limits too
module _ (m : Meter) (h : meter_ok m ≡ true) where
  average_fits : get_or (power_values m) average 0 < 256 ^ 4
  average_fits = rw (power_average m) (powers_fit.register (meter_t m) m.average.last (last_most m h))

  peak_fits : get_or (power_values m) peak 0 < 256 ^ 4
  peak_fits = rw (power_peak m) (powers_fit.register (meter_t m) m.average.peak (figures m h).peak)

  pub average_shows : Shows m (quantity power average)
  unfolding shown_of power_values
  average_shows = record { case = omega arith; fits = average_fits }

  pub peak_shows : Shows m (quantity power peak)
  unfolding shown_of power_values
  peak_shows = record { case = omega arith; fits = peak_fits }

  pub minutes_shows : Shows m (quantity plain minutes)
  unfolding shown_of plain_values
  minutes_shows = record { case = omega arith; fits = omega (arith, minutes_most m h) }

-- the others: of a record as a program holds it
module _ (m : Meter) (typed : Typed m) (h : meter_ok m ≡ true) where
  abbrev parts : SampleParts (meter_t m) m.latest
  parts = sample_parts (meter_t m) m.latest (meter_parts m h).latest

  -- registers of powers: by their case
  power_fits : (i : ℕ) → get_or (power_values m) i 0 < 256 ^ 4
  power_fits i = by (eqb i 8) (eqb i 9) (eqb i 10) (eqb i 11) refl refl refl refl
    where
      by : (a b c d : Bool) → eqb i 8 ≡ a → eqb i 9 ≡ b → eqb i 10 ≡ c → eqb i 11 ≡ d → get_or (power_values m) i 0 < 256 ^ 4
      by true b c d e f g k = rw (eqb-true i 8 e, power_s m) (powers_fit.register (meter_t m) m.latest.s parts.apparent)
      by false true c d e f g k = rw (eqb-true i 9 f, power_whole m) (omega (arith, powers_fit.signed (meter_t m) m.latest.s parts.apparent))
      by false false true d e f g k = rw (eqb-true i 10 g) (average_fits m h)
      by false false false true e f g k = rw (eqb-true i 11 k) (peak_fits m h)
      by false false false false e f g k =
          let apart : 8 ≤ i → 12 ≤ i = λ from. omega (arith, from, eqb-false i 8 e, eqb-false i 9 f, eqb-false i 10 g, eqb-false i 11 k) in
          rw (power_at_lem m i apart) (powers_fit.register (meter_t m) (power_at m i).magnitude (power_most m i h))

  signed_fits : (i : ℕ) → get_or (signed_word_values m) i 0 < 256 ^ 4
  signed_fits i =
      rw (signed_at m i)
      (twos_fits 2 (power_at m i).negative ((power_at m i).magnitude / 100)
      (omega (arith, powers_fit.signed (meter_t m) (power_at m i).magnitude (power_most m i h))))

  sign_fits : (i : ℕ) → get_or (sign_values m) i 0 < 256 ^ 1
  sign_fits i = rw (sign_at m i) (omega (arith, sign_most (power_at m i).negative))

  factor_fits : Fit (factor_values (factor_of m.latest.factor)) (2 ∷ 4 ∷ [])
  unfolding factor_values
  factor_fits =
      let f = factor_of m.latest.factor in
      (twos_fits 1 f.negative (f.magnitude / 10) (omega (arith, parts.factor)), (twos_fits 2 f.negative f.magnitude (omega (arith, parts.factor)), tt))

  plain_fits : Fit (plain_values m) (1 ∷ 1 ∷ 2 ∷ 1 ∷ replicate (16 + 24) 2)
  unfolding plain_values
  plain_fits =
      let s = m.setup in
      let t = typed.setup in
      let long : length (s.standard ++ s.output) ≡ 40 = rw (length-append, t.standard.long, t.output.long) refl in
      (omega arith, (omega arith, (omega arith, (omega (arith, minutes_most m h), all_fit 2 40 (s.standard ++ s.output) long (append_fits 2 s.standard s.output t.standard.word t.output.word)))))

  ratio_tops : (m.given.ratios.kta ≤ 9999) × (m.given.ratios.ktv ≤ 9999)
  ratio_tops =
      let r = m.given.ratios in
      let t = ratio_parts m h in
      (leb-true _ _ ((and-eq-true_iff (leb 1 r.kta) (leb r.kta 9999)).0 t.0).1, leb-true _ _ ((and-eq-true_iff (leb 10 r.ktv) (leb r.ktv 9999)).0 t.1).1)

  values_fit : Fits (kinds_shown m) widths
  unfolding power_values signed_word_values sign_values count_values low_values high_values wrap_values
  values_fit =
      tt also
      all_fit 4 6 m.latest.voltages typed.latest.voltages typed.latest.voltage also
      all_fit 4 4 m.latest.currents typed.latest.currents typed.latest.current also
      all_fit 4 12 (power_values m) refl power_fits also
      all_fit 4 8 (signed_word_values m) refl signed_fits also
      all_fit 4 4 (count_values m) refl (count_fits m h) also
      all_fit 4 4 (low_values m) refl (low_fits m h) also
      all_fit 4 4 (high_values m) refl (high_fits m h) also
      all_fit 2 4 (wrap_values m) refl (wrap_fits m h) also
      factor_fits also
      all_fit 1 8 (sign_values m) refl sign_fits also
      (omega (arith, parts.sector), tt) also
      (typed.latest.frequency, tt) also
      (omega (arith, ratio_tops), tt) also
      (omega (arith, ratio_tops), tt) also
      (omega (arith, two_at_most m.latest.sequence parts.sequence), tt) also
      plain_fits also
      tt

  case : (q : ℕ) → 1 ≤ width_of q → q % 64 < length (get_or (kinds_shown m) (q / 64) [])
  case q w = fit_case (get_or (kinds_shown m) (q / 64) []) (get_or widths (q / 64) []) (fits_at (kinds_shown m) widths values_fit (q / 64)) (q % 64) w

  fits : (q : ℕ) → shown_of m q < 256 ^ width_of q
  unfolding shown_of
  fits q = fit_at (get_or (kinds_shown m) (q / 64) []) (get_or widths (q / 64) []) (fits_at (kinds_shown m) widths values_fit (q / 64)) (q % 64)

-- ---- and so for the items of a directory that passes the tests

module _ (dir : List Item) (tests : T (tested dir)) (i : ℕ) (inside : i < length dir) where
  abbrev it : Item
  it = get_or dir i none

  known : (1 ≤ width_of it.quantity) × (width_of it.quantity ≤ room_of it)
  known =
      let m = (and-eq-true_iff (leb 1 (width_of it.quantity) && leb (width_of it.quantity) (room_of it)) _).0 ((directory_rules dir tests).meanings i inside) in
      let t = (and-eq-true_iff (leb 1 (width_of it.quantity)) (leb (width_of it.quantity) (room_of it))).0 m.0 in
      (leb-true _ _ t.0, leb-true _ _ t.1)

  -- what fits its bytes has room in its item
  pub in_room : {v : ℕ} → v < 256 ^ width_of it.quantity → v < 256 ^ room_of it
  in_room fit = lt_of_lt_of_le fit (pow-le-pow_right (omega arith) known.1)

  pub typed_shows : (m : Meter) → Typed m → meter_ok m ≡ true → Shows m it.quantity
  typed_shows m typed h = record { case = case m typed h it.quantity known.0; fits = fits m typed h it.quantity }

code_shown : (m : Meter) → Typed m → shown_of m (quantity plain (setup2000 0x0a)) ≡ code_of m.setup
unfolding shown_of plain_values
code_shown m typed = get_or-append m.setup.standard m.setup.output 0 0x0a (omega (arith, typed.setup.standard.long))

pub every_case : (m : Meter) → Typed m → meter_ok m ≡ true → EveryCase m
every_case m typed h = record {
  case = case m typed h;
  fits = fits m typed h;
  room = λ dir tests i l. in_room dir tests i l (fits m typed h (get_or dir i none).quantity);
  code = code_shown m typed;
}

-- the kinds before plain words have no setup word among their values, nor have the first four plain words
module _ (m : Meter) (setup : Setup) where
  abbrev other : Meter
  other = with_setup m setup

  kinds_unseen : (k : ℕ) → k < 16 → get_or (kinds_shown other) k [] ≡ get_or (kinds_shown m) k []
  unfolding power_values signed_word_values sign_values count_values low_values high_values wrap_values
  kinds_unseen k h =
      get_or-append (take 16 (kinds_shown other)) (plain_values other ∷ []) [] k h
      ∙ sym (get_or-append (take 16 (kinds_shown m)) (plain_values m ∷ []) [] k h)

  plain_unseen : (which : ℕ) → which < 4 → get_or (plain_values other) which 0 ≡ get_or (plain_values m) which 0
  unfolding plain_values
  plain_unseen which h =
      get_or-append (take 4 (plain_values other)) (setup.standard ++ setup.output) 0 which h
      ∙ sym (get_or-append (take 4 (plain_values m)) (m.setup.standard ++ m.setup.output) 0 which h)

  unseen : (q : ℕ) (k : Bool) → ltb (q / 64) 16 ≡ k → q < quantity plain (setup2000 0) → shown_of other q ≡ shown_of m q
  unfolding shown_of
  unseen q true e h = ap (λ (l : List ℕ). get_or l (q % 64) 0) (kinds_unseen (q / 64) (ltb-true _ _ e))
  unseen q false e h =
      let kind : q / 64 ≡ 16 = omega (arith, h, ltb-false (q / 64) 16 e) in
      rw kind (plain_unseen (q % 64) (omega (arith, h, kind)))

pub setup_unseen : (m : Meter) (setup : Setup) → SetupUnseen m setup
setup_unseen m setup = record { others = λ q h. unseen m setup q (ltb (q / 64) 16) refl h }
