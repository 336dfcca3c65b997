-- Paper 01, "What the meter does with a frame", step 5: how a write is judged, and what it stores (with paper 02, request 1: a new window).
use Rattle.std.specs.Prelude.{◌≡◌, ℕ, ◌↔◌, ◌⊎◌, Bool, true, false, ◌&&◌, ◌||◌, not, cond, List, [], ◌∷◌, eqb, Option, Some, None, Result, Ok, Err}
use Rattle.refusal.specs.declared.ErrorCode.{ErrorCode}
use Rattle.refusal.specs.declared.ErrorCode.TheVariants.{Address, Data}
use Rattle.refusal.specs.Numbers.{error_number, error_by}
use Rattle.setup.specs.Ranges.{group_ok}
use Rattle.modbus.specs.Frame.{start_of, word_number, write_values, write_shaped}
use Rattle.meter.specs.declared.groups.Setup.{Setup}
use Rattle.meter.specs.declared.Meter.{Meter}
use Rattle.meter.specs.Groups.{with_standard, with_output}
use Rattle.meter.specs.Meters.{set_up_of}

-- what is wrong with a write: nothing, or an error
abbrev pub fault_of : Result Meter ErrorCode → Option ErrorCode
fault_of (Ok next) = None
fault_of (Err code) = Some code

-- a verdict in numbers: 0; the error code
abbrev pub verdict_told : Option ErrorCode → List ℕ
verdict_told None = 0 ∷ []
verdict_told (Some code) = error_by (error_number code)

-- the record that a write leaves: the one that it stores; after an error, the one that was there
abbrev pub left_by : Meter → Result Meter ErrorCode → Meter
left_by m (Ok next) = next
left_by m (Err code) = m

-- a write to the group of 16 words (0x2000)
abbrev pub to_standard : List ℕ → Bool
to_standard frame = eqb (start_of frame) 0x2000

-- a write to the group of 24 words (0x2200)
abbrev pub to_output : List ℕ → Bool
to_output frame = eqb (start_of frame) 0x2200

-- a write to one of the groups
abbrev pub to_group : List ℕ → Bool
to_group frame = to_standard frame || to_output frame

-- the words of the group that a write goes to
abbrev pub group_words : List ℕ → ℕ
group_words frame = cond (to_standard frame) 16 24

-- the setup with the group replaced whole
abbrev pub replaced_in : Setup → List ℕ → Setup
replaced_in s frame = cond (to_standard frame) (with_standard s (write_values frame)) (with_output s (write_values frame))

-- the meter with that group stored and, where this changes the code at 0x200a, a new window opened; nothing else is changed
abbrev pub stored_of : Meter → List ℕ → Meter
stored_of m frame = set_up_of m (replaced_in m.setup frame)

-- step 5: how a write is judged, and the record after it
unfoldable pub written_of : Meter → List ℕ → Result Meter ErrorCode
written_of m frame =
    -- word number 0, byte number not twice the word number, or length not 9 plus byte number: error 03
    cond (not (write_shaped frame)) (Err Data)
    -- start neither 0x2000 nor 0x2200: error 02
    (cond (not (to_group frame)) (Err Address)
    -- word number not 16, or 24, for that group: error 03
    (cond (not (eqb (word_number frame) (group_words frame))) (Err Data)
    -- a value out of range: error 03
    (cond (not (group_ok (start_of frame) (write_values frame))) (Err Data)
    -- else the group is stored
    (Ok (stored_of m frame)))))

-- its words are that group's, and each value is in range
abbrev pub group_fits : List ℕ → Bool
group_fits frame = eqb (word_number frame) (group_words frame) && group_ok (start_of frame) (write_values frame)

module _ (m : Meter) (frame : List ℕ) where
  -- how it is judged, in numbers
  abbrev Judged : List ℕ → Type 0
  Judged numbers = verdict_told (fault_of (written_of m frame)) ≡ numbers

  -- STATEMENT: when a write is answered with error 02 and when with error 03, and no other; else it is legal and stored
  pub record WriteWhen : Type 0 where
    pub error_02 : Judged (error_by 2) ↔ ((write_shaped frame ≡ true) × (to_group frame ≡ false))
    pub error_03 : Judged (error_by 3) ↔ ((write_shaped frame ≡ false) ⊎ ((to_group frame ≡ true) × (group_fits frame ≡ false)))
    pub legal : (fault_of (written_of m frame) ≡ None) ↔ ((write_shaped frame ≡ true) × (to_group frame ≡ true) × (group_fits frame ≡ true))
    pub only : (n : ℕ) → Judged (error_by n) → (n ≡ 2) ⊎ (n ≡ 3)
    pub kept : (code : ErrorCode) → fault_of (written_of m frame) ≡ Some code → left_by m (written_of m frame) ≡ m
    pub stored : fault_of (written_of m frame) ≡ None → left_by m (written_of m frame) ≡ stored_of m frame
