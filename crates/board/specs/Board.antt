-- Paper 01, "What the meter does with a frame": its five steps in their order, first that applies, and address 0. Reads go by a view, a
-- directory and the most words of a read. Paper 02, request 3: frames to the second address, by the same rule; request 5: in the record's
-- order, at both.
use Rattle.std.specs.Prelude.{◌≡◌, ℕ, Bool, true, false, ◌&&◌, not, cond, List, [], ◌∷◌, ltb, eqb, length, Option, Some, None, Result, Ok, Err}
use Rattle.std.proofs.lemmas.List.Edits.{sets}
use Rattle.refusal.specs.declared.Refusal.{Refusal}
use Rattle.refusal.specs.declared.Refusal.TheVariants.{MeterOutOfLimits, BufferShort}
use Rattle.refusal.specs.declared.ErrorCode.{ErrorCode}
use Rattle.refusal.specs.declared.ErrorCode.TheVariants.{Function}
use Rattle.refusal.specs.Numbers.{refusal_number, refused_by}
use Rattle.directory.specs.Views.{View}
use Rattle.directory.specs.Tenant.{tenant_of}
use Rattle.own.specs.Own.{own}
use Rattle.modbus.specs.Frame.{address_of, silence, is_read, is_write}
use Rattle.modbus.specs.Replies.{error_reply, echo_reply}
use Rattle.meter.specs.declared.given.Given.{Given}
use Rattle.meter.specs.declared.Meter.{Meter}
use Rattle.meter.specs.Meters.{meter_ok}
use Rattle.registers.specs.Shown.{shown_of}
use Rattle.board.specs.declared.Handled.{Handled}
use Rattle.board.specs.Reads.{read_reply}
use Rattle.store.specs.Writes.{fault_of, left_by, written_of}

-- a reply in numbers: 0 for silence; 1 and the bytes sent; the number of the refusal
abbrev pub reply_told : Result (Option ℕ) Refusal → List ℕ
reply_told (Ok None) = 0 ∷ []
reply_told (Ok (Some n)) = 1 ∷ n ∷ []
reply_told (Err reason) = refused_by (refusal_number reason)

-- what a frame leads to: the answer with the meter's record, and the reply buffer
pub record Outcome : Type 0 where
  pub handled : Handled
  pub buffer : List ℕ

-- all that a contract allows: the answer, the record in it and the buffer are those of the definition
pub record Allowed (defined : Outcome) (x : Handled) (buffer : List ℕ) : Type 0 where
  pub handled : x ≡ defined.handled
  pub bytes : buffer ≡ defined.buffer

-- a refusal returns its number; every record and buffer is as before
abbrev pub refused_of : Refusal → Meter → List ℕ → Outcome
refused_of reason m buffer = record { handled = record { reply = Err reason; meter = m }; buffer = buffer }

-- on silence all reply bytes stay as they were
abbrev pub silent_of : Meter → List ℕ → Outcome
silent_of m buffer = record { handled = record { reply = Ok None; meter = m }; buffer = buffer }

-- a reply stands at the start of the buffer; the bytes beyond its length stay as they were
abbrev pub sent_of : List ℕ → Meter → List ℕ → Outcome
sent_of bytes m buffer = record { handled = record { reply = Ok (Some (length bytes)); meter = m }; buffer = sets buffer 0 bytes }

-- address 0: silence is kept always
abbrev pub sent_or_silent : List ℕ → List ℕ → Meter → List ℕ → Outcome
sent_or_silent frame bytes m buffer = cond (eqb (address_of frame) 0) (silent_of m buffer) (sent_of bytes m buffer)

-- 5. as the write is judged: its error, or address, function, start and word number are echoed
abbrev pub write_reply : List ℕ → Option ErrorCode → List ℕ
write_reply frame (Some code) = error_reply frame code
write_reply frame None = echo_reply frame

-- what is done with a frame that the meter heeds, by a view and whether it may write: steps 3 to 5
abbrev pub obeyed_in : View → Bool → Meter → List ℕ → List ℕ → Outcome
obeyed_in v writes m frame buffer =
    -- 3. Function neither 0x03 nor, where it may write, 0x10: error 01
    cond (not (is_read frame) && not (writes && is_write frame)) (sent_or_silent frame (error_reply frame Function) m buffer)
    -- 4. 0x03: error 03 or 02, else data
    (cond (is_read frame) (sent_or_silent frame (read_reply v m.given.order (shown_of m) frame) m buffer)
    -- 5. 0x10: error 03 or 02, else the group is stored and echoed. Only a stored write alters the record
    (sent_or_silent frame (write_reply frame (fault_of (written_of m frame))) (left_by m (written_of m frame)) buffer))

-- steps 2 to 5, by an address, a view and whether it may write
abbrev pub heard_as : ℕ → View → Bool → Meter → List ℕ → List ℕ → Outcome
heard_as address v writes m frame buffer =
    -- 2. Silence
    cond (silence address frame) (silent_of m buffer)
    -- 3. to 5.
    (obeyed_in v writes m frame buffer)

-- a frame to the second address (request 3): there is one, and the frame names it
abbrev pub to_second : Given → List ℕ → Bool
to_second g frame = not (eqb g.second 0) && eqb (address_of frame) g.second

-- the address that it is judged by, a tenant's or not
abbrev pub address_for : Given → Bool → ℕ
address_for g tenant = cond tenant g.second g.address

-- and the view
abbrev pub view_for : View → Bool → View
view_for v tenant = cond tenant (tenant_of v) v

-- what the meter does with a frame, over a view: the first that applies
unfoldable pub board_in : View → Meter → List ℕ → List ℕ → Outcome
board_in v m frame buffer =
    -- 1. Record out of limits: refusal 1. Reply buffer under 256 bytes: refusal 2
    cond (not (meter_ok m)) (refused_of MeterOutOfLimits m buffer)
    (cond (ltb (length buffer) 256) (refused_of BufferShort m buffer)
    -- 2. to 5. To the second address: with that address, over a tenant's view, and it may not write
    (cond (to_second m.given frame) (heard_as m.given.second (tenant_of v) false m frame buffer)
    -- else with the own address, over the whole view, and it may write
    (heard_as m.given.address v true m frame buffer)))

-- what a meter with paper 01's own directory does with it
abbrev pub board_of : Meter → List ℕ → List ℕ → Outcome
board_of m frame buffer = board_in own m frame buffer
