-- Paper 01, "What the meter does with a frame": when each answer is given, and what stays as it was, at the own address and at the second
-- (paper 02, request 3) alike. Request 1: when a frame opens a new window.
use Rattle.std.specs.Prelude.{◌≡◌, ◌↔◌, ◌⊎◌, ℕ, ◌≤◌, ◌<◌, Bool, true, false, ◌&&◌, not, List, length, take, drop, Err, None, Ok, Some}
use Rattle.refusal.specs.declared.Refusal.{Refusal}
use Rattle.refusal.specs.declared.ErrorCode.{ErrorCode}
use Rattle.refusal.specs.declared.ErrorCode.TheVariants.{Address, Data}
use Rattle.refusal.specs.Numbers.{refused_by}
use Rattle.crc.specs.Crc.{intact}
use Rattle.directory.specs.Run.{run_items, span}
use Rattle.directory.specs.Views.{View}
use Rattle.modbus.specs.Frame.{address_of, silence, is_read, is_write}
use Rattle.modbus.specs.Read.{read_in}
use Rattle.modbus.specs.Replies.{error_bytes, echo_reply}
use Rattle.average.specs.declared.Average.{Average}
use Rattle.average.specs.Windows.{recoded_by}
use Rattle.meter.specs.declared.Meter.{Meter}
use Rattle.meter.specs.Groups.{code_of}
use Rattle.meter.specs.Meters.{meter_ok}
use Rattle.board.specs.Reads.{items_sent, data_reply}
use Rattle.registers.specs.Shown.{shown_of}
use Rattle.store.specs.Writes.{to_standard, replaced_in, stored_of, fault_of, written_of}
use Rattle.board.specs.Board.{Outcome, reply_told, silent_of, sent_of, to_second, address_for, view_for, board_in}

-- 2. silence: fewer than 4 or more than 256 bytes; wrong CRC; address neither 0 nor the one that the frame is judged by; function 0x80
-- or above
abbrev pub unheard : Meter → List ℕ → Bool
unheard m frame = silence (address_for m.given (to_second m.given frame)) frame

-- the items that the frame may ask for: at the second address those for a tenant, else all
abbrev pub seen_by : View → Meter → List ℕ → View
seen_by v m frame = view_for v (to_second m.given frame)

-- a frame that is a write: to the second address there is none
abbrev pub writes : Meter → List ℕ → Bool
writes m frame = not (to_second m.given frame) && is_write frame

-- the meter heeds a frame: steps 1 and 2 are passed
pub record Heeds (m : Meter) (frame buffer : List ℕ) : Type 0 where
  pub within : meter_ok m ≡ true
  pub room : 256 ≤ length buffer
  pub heard : unheard m frame ≡ false

-- the meter heeds a frame that is for this meter alone, whichever of its addresses it names
pub record Answers (m : Meter) (frame buffer : List ℕ) : Type 0 where
  pub heeds : Heeds m frame buffer
  pub own : address_of frame ≡ 0 → ⊥

-- a write that an error code is due to
abbrev pub WriteErrs : ErrorCode → Meter → List ℕ → Type 0
WriteErrs code m frame = (writes m frame ≡ true) × (fault_of (written_of m frame) ≡ Some code)

-- 2. silence; to address 0 it is kept always
abbrev pub Quiet : Meter → List ℕ → Type 0
Quiet m frame = (unheard m frame ≡ true) ⊎ (address_of frame ≡ 0)

-- a legal write
abbrev pub Stores : Meter → List ℕ → Type 0
Stores m frame = (writes m frame ≡ true) × (fault_of (written_of m frame) ≡ None)

-- a read that an error code is due to
abbrev pub ReadErrs : View → ErrorCode → List ℕ → Type 0
ReadErrs v code frame = (is_read frame ≡ true) × (read_in v frame ≡ Err code)

-- all that a legal write alters: its group is stored and, where this changes the code at 0x200a, a new window is opened (request 1)
pub record Altered (m : Meter) (frame b : List ℕ) (n : Meter) : Type 0 where
  pub heeds : Heeds m frame b
  pub stores : Stores m frame
  pub group : n.setup ≡ replaced_in m.setup frame
  pub window : n.average ≡ recoded_by (code_of m.setup) (code_of n.setup) m.average
  pub given : n.given ≡ m.given
  pub counters : n.counters ≡ m.counters
  pub latest : n.latest ≡ m.latest

-- a new window is opened, and average and peak are kept
pub record Opened (before after : Average) : Type 0 where
  pub seconds : after.window.seconds ≡ 0
  pub sum : after.window.sum ≡ 0
  pub last : after.last ≡ before.last
  pub peak : after.peak ≡ before.peak

-- ---- a frame and a reply buffer, handed to a meter; reads go by a view, the directory and the most words

module _ (v : View) (m : Meter) (frame b : List ℕ) where
  -- what the meter does with it
  abbrev done : Outcome
  done = board_in v m frame b

  -- its answer in numbers
  abbrev pub FrameGives : List ℕ → Type 0
  FrameGives numbers = reply_told done.handled.reply ≡ numbers

  -- it answers with the error reply of a code, its record as it was
  abbrev pub SendsError : ℕ → Type 0
  SendsError code = done ≡ sent_of (error_bytes frame code) m b

  -- STATEMENT: when refusals 1 and 2 are given, and no other; when the meter is silent; when it sends error codes 01, 02 and 03
  pub record FramesWhen : Type 0 where
    pub row_1 : FrameGives (refused_by 1) ↔ (meter_ok m ≡ false)
    pub row_2 : FrameGives (refused_by 2) ↔ ((meter_ok m ≡ true) × (length b < 256))
    pub only : (n : ℕ) → FrameGives (refused_by n) → (n ≡ 1) ⊎ (n ≡ 2)
    pub silent : (done.handled.reply ≡ Ok None) ↔ ((meter_ok m ≡ true) × (256 ≤ length b) × Quiet m frame)
    pub error_01 : SendsError 1 ↔ (Answers m frame b × (is_read frame ≡ false) × (writes m frame ≡ false))
    pub error_02 : SendsError 2 ↔ (Answers m frame b × (ReadErrs (seen_by v m frame) Address frame ⊎ WriteErrs Address m frame))
    pub error_03 : SendsError 3 ↔ (Answers m frame b × (ReadErrs (seen_by v m frame) Data frame ⊎ WriteErrs Data m frame))

  -- STATEMENT: a read that is not wrong is answered with its items' words, and a legal write is stored and echoed; address 0: stored,
  -- and silence
  pub record Obeys : Type 0 where
    pub reads :
        (first count : ℕ) → Answers m frame b → is_read frame ≡ true → read_in (seen_by v m frame) frame ≡ Ok (span first count) →
        done ≡ sent_of (data_reply frame (items_sent m.given.order (shown_of m) (run_items (seen_by v m frame).seen first count))) m b
    pub writes : Answers m frame b → Stores m frame → done ≡ sent_of (echo_reply frame) (stored_of m frame) b
    pub for_all : Heeds m frame b → address_of frame ≡ 0 → Stores m frame → done ≡ silent_of (stored_of m frame) b

  -- record and buffer are as they were
  abbrev Same : Type 0
  Same = (done.handled.meter ≡ m) × (done.buffer ≡ b)

  -- STATEMENT: a refusal changes nothing, nor does a frame that is damaged or foreign; silence leaves the buffer; bytes beyond a
  -- reply stay; only a legal write that the meter heeds alters the record, and just so; address 0 never has a reply
  pub record Untouched : Type 0 where
    pub refused : (reason : Refusal) → done.handled.reply ≡ Err reason → Same
    pub unheard : unheard m frame ≡ true → Same
    pub silent : done.handled.reply ≡ Ok None → done.buffer ≡ b
    pub beyond : (n : ℕ) → done.handled.reply ≡ Ok (Some n) → drop n done.buffer ≡ drop n b
    pub altered : (done.handled.meter ≡ m) ⊎ Altered m frame b done.handled.meter
    pub for_all : (n : ℕ) → address_of frame ≡ 0 → done.handled.reply ≡ Ok (Some n) → ⊥

  -- the code of the window is another after the frame
  abbrev Recoded : Type 0
  Recoded = code_of done.handled.meter.setup ≡ code_of m.setup → ⊥

  -- STATEMENT: whatever the frame, a new window is opened exactly when the code at 0x200a is another after it, average and peak being
  -- kept, and else no figure is altered; that is done by a legal write to 0x2000 alone
  pub record WindowOpened : Type 0 where
    pub opened : Recoded → Opened m.average done.handled.meter.average
    pub kept : code_of done.handled.meter.setup ≡ code_of m.setup → done.handled.meter.average ≡ m.average
    pub only : Recoded → Heeds m frame b × Stores m frame × (to_standard frame ≡ true)

  -- STATEMENT: every reply's CRC is right, and its length at most 256
  pub record RepliesSealed : Type 0 where
    pub long : (n : ℕ) → done.handled.reply ≡ Ok (Some n) → n ≤ 256
    pub whole : (n : ℕ) → done.handled.reply ≡ Ok (Some n) → intact (take n done.buffer) ≡ true

  -- STATEMENT: what stood in the buffer is never seen: with room, answer, record and reply bytes are the same for any other
  pub record BufferUnseen : Type 0 where
    pub same : (a : List ℕ) → 256 ≤ length a → 256 ≤ length b → (board_in v m frame a).handled ≡ done.handled
    pub bytes :
        (a : List ℕ) (n : ℕ) → 256 ≤ length a → 256 ≤ length b → (board_in v m frame a).handled.reply ≡ Ok (Some n) →
        take n (board_in v m frame a).buffer ≡ take n done.buffer
