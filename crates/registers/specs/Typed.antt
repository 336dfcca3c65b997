-- Paper 01, "The directory" (L, W, B; no setup word alters a measurement, which of what a record shows still holds): every quantity has
-- its case, and what is shown has room where it is sent.
use Rattle.std.specs.Prelude.{◌≡◌, ℕ, ◌/◌, ◌%◌, ◌^◌, ◌≤◌, ◌<◌, List, [], T, length, get_or}
use Rattle.directory.specs.declared.Item.{Item}
use Rattle.directory.specs.Item.{none}
use Rattle.directory.specs.Quantity.{quantity, plain, setup2000, width_of}
use Rattle.directory.specs.Order.{room_of, tested}
use Rattle.meter.specs.declared.samples.Sample.{Sample}
use Rattle.meter.specs.declared.groups.Setup.{Setup}
use Rattle.meter.specs.declared.Meter.{Meter}
use Rattle.meter.specs.Groups.{code_of}
use Rattle.meter.specs.Meters.{with_setup}
use Rattle.registers.specs.Shown.{kinds_shown, shown_of}

-- a sample as a program holds it: its arrays have the lengths of their types, and its numbers their widths
pub record SampleTyped (s : Sample) : Type 0 where
  pub voltages : length s.voltages ≡ 6
  pub currents : length s.currents ≡ 4
  pub voltage : (i : ℕ) → get_or s.voltages i 0 < 256 ^ 4
  pub current : (i : ℕ) → get_or s.currents i 0 < 256 ^ 4
  pub frequency : s.frequency < 256 ^ 2

-- setup words as a program holds them: n of them, each of two bytes
pub record WordsTyped (n : ℕ) (words : List ℕ) : Type 0 where
  pub long : length words ≡ n
  pub word : (i : ℕ) → get_or words i 0 < 256 ^ 2

-- both groups of a setup
pub record SetupTyped (s : Setup) : Type 0 where
  pub standard : WordsTyped 16 s.standard
  pub output : WordsTyped 24 s.output

-- a record as a program holds it
pub record Typed (m : Meter) : Type 0 where
  pub latest : SampleTyped m.latest
  pub setup : SetupTyped m.setup

-- STATEMENT: of a record as a program holds it, and within limits: a quantity is one of its kind's values, what is shown of it fits its
-- bytes, and each item of a directory that passes the tests has room for what it shows; what is shown at 0x200a is the code that
-- request 1's windows go by
pub record EveryCase (m : Meter) : Type 0 where
  pub case : (q : ℕ) → 1 ≤ width_of q → q % 64 < length (get_or (kinds_shown m) (q / 64) [])
  pub fits : (q : ℕ) → shown_of m q < 256 ^ width_of q
  pub room :
      (dir : List Item) → T (tested dir) → (i : ℕ) → i < length dir →
      shown_of m (get_or dir i none).quantity < 256 ^ room_of (get_or dir i none)
  pub code : shown_of m (quantity plain (setup2000 0x0a)) ≡ code_of m.setup

-- STATEMENT: setup words alter nothing that a record shows, 0x200a nothing either: what is shown of every quantity but these words
-- themselves, which are numbered last, is the same with others
pub record SetupUnseen (m : Meter) (setup : Setup) : Type 0 where
  pub others : (q : ℕ) → q < quantity plain (setup2000 0) → shown_of (with_setup m setup) q ≡ shown_of m q
