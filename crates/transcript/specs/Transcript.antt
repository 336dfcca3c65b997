-- Paper 01, the program `bench`: the text that it writes, of the whole of its input.
use Rattle.std.specs.Prelude.{◌≡◌, ℕ, ◌*◌, ◌≤◌, Bool, true, cond, List, [], ◌∷◌, ◌++◌, leb, eqb, length, take, replicate, Option, Some, None, Result, Ok, Err}
use Rattle.std.proofs.lemmas.List.Edits.{sets}
use Rattle.refusal.specs.declared.Refusal.{Refusal}
use Rattle.words.specs.declared.Order.TheVariants.{UpperFirst}
use Rattle.lines.specs.Lines.{line_ok, bytes_of, text_of}
use Rattle.meter.specs.declared.given.Given.{Given}
use Rattle.meter.specs.declared.Meter.{Meter}
use Rattle.meter.specs.Meters.{meter_ok, new_of}
use Rattle.board.specs.Board.{Outcome, board_of}

-- a line with a byte more in front, and the lines behind it
unfoldable pub begun_by : ℕ → List (List ℕ) → List (List ℕ)
begun_by c [] = (c ∷ []) ∷ []
begun_by c (line ∷ lines) = (c ∷ line) ∷ lines

-- each line feed ends a line, as does the end of input after other bytes
unfoldable pub lines_of : List ℕ → List (List ℕ)
lines_of [] = []
lines_of (c ∷ cs) = cond (eqb c 0x0A) ([] ∷ lines_of cs) (begun_by c (lines_of cs))

-- `silent`
abbrev pub silent_text : List ℕ
silent_text = 0x73 ∷ 0x69 ∷ 0x6C ∷ 0x65 ∷ 0x6E ∷ 0x74 ∷ []

-- `bad line`
abbrev pub bad_text : List ℕ
bad_text = 0x62 ∷ 0x61 ∷ 0x64 ∷ 0x20 ∷ 0x6C ∷ 0x69 ∷ 0x6E ∷ 0x65 ∷ []

-- writes the reply so in capitals, or `silent`: a meter that refuses sends nothing, and this one never does
abbrev pub reply_text : Result (Option ℕ) Refusal → List ℕ → List ℕ
reply_text (Ok None) buffer = silent_text
reply_text (Ok (Some n)) buffer = text_of (take n buffer)
reply_text (Err reason) buffer = silent_text

-- what the meter does with the frame of a line, the whole of it however long; its reply has a buffer of 256 bytes
unfoldable pub outcome_of : Meter → List ℕ → Outcome
outcome_of m line = board_of m (bytes_of line) (replicate 256 0)

-- the text that a line is answered with: what the meter does, or `bad line` if it is not such pairs
unfoldable pub line_text : Meter → List ℕ → List ℕ
line_text m line = cond (line_ok line) (reply_text (outcome_of m line).handled.reply (outcome_of m line).buffer) bad_text

-- the meter that follows from it
unfoldable pub meter_after : Meter → List ℕ → Meter
meter_after m line = cond (line_ok line) (outcome_of m line).handled.meter m

-- one meter for all lines, and each answer a line
unfoldable pub transcript_of : Meter → List (List ℕ) → List ℕ
transcript_of m [] = []
transcript_of m (line ∷ lines) = line_text m line ++ (0x0A ∷ transcript_of (meter_after m line) lines)

-- address 1, KTA 1, KTV 10; no second address (request 3); upper word first (request 5)
abbrev pub bench_given : Given
bench_given = record { address = 1; second = 0; ratios = record { kta = 1; ktv = 10 }; order = UpperFirst }

-- new
unfoldable pub bench_meter : Meter
bench_meter = (new_of bench_given).meter

-- the text of the whole input; no header
unfoldable pub bench_text : List ℕ → List ℕ
bench_text input = transcript_of bench_meter (lines_of input)

-- there is room: 32 characters for each byte of the input
abbrev pub room_for : List ℕ → ℕ → Bool
room_for input room = leb (32 * length input) room

-- all that the contract of `of` allows: its answer, and every byte of the text
pub record Transcribed (input before : List ℕ) (answer : Option ℕ) (after : List ℕ) : Type 0 where
  pub told : answer ≡ cond (room_for input (length before)) (Some (length (bench_text input))) None
  pub bytes : after ≡ cond (room_for input (length before)) (sets before 0 (bench_text input)) before

-- STATEMENT: the text fits its room, and stands there whole; a meter within limits refuses nothing and stays so, as bench's is, which has
-- no second address (request 3) and sends the upper word first (request 5)
pub record TextWritten : Type 0 where
  pub fits : (input : List ℕ) → length (bench_text input) ≤ 32 * length input
  pub whole :
      (input before : List ℕ) (answer : ℕ) (after : List ℕ) → 32 * length input ≤ length before →
      Transcribed input before (Some answer) after → take answer after ≡ bench_text input
  pub answers : (input before after : List ℕ) → 32 * length input ≤ length before → Transcribed input before None after → ⊥
  pub answered :
      (m : Meter) (line : List ℕ) (reason : Refusal) → meter_ok m ≡ true → (outcome_of m line).handled.reply ≡ Err reason → ⊥
  pub within : (m : Meter) (line : List ℕ) → meter_ok m ≡ true → meter_ok (meter_after m line) ≡ true
  pub new : meter_ok bench_meter ≡ true
  pub alone : bench_meter.given.second ≡ 0
  pub upper : bench_meter.given.order ≡ UpperFirst
