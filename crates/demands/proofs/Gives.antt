-- Every outcome is one of five, and what a heeded frame gives is one of five: all that is said of outcomes goes by these.
use Rattle.std.specs.Prelude.{Option, Some, None, Err, Ok, Result}
use mathlib.Core.Path.{◌≡◌, refl, sym, ap, ◌∙◌}
use mathlib.Core.Bool.{Bool, true, false, not}
use mathlib.Core.List.{List}
use Prim.Native.Nat.{ℕ, ◌≤◌, ◌<◌}
use lib.Dec.{ltb, eqb}
use lib.ListN.{length}
use borrow.Author.Tests.{ltb-true, ltb-false, eqb-true, eqb-false}
use Rattle.refusal.specs.declared.Refusal.TheVariants.{MeterOutOfLimits, BufferShort}
use Rattle.refusal.specs.declared.ErrorCode.{ErrorCode}
use Rattle.refusal.specs.declared.ErrorCode.TheVariants.{Function}
use Rattle.directory.specs.declared.Span.{Span}
use Rattle.directory.specs.Run.{run_items, span}
use Rattle.directory.specs.Views.{View}
use Rattle.modbus.specs.Frame.{address_of, is_read}
use Rattle.modbus.specs.Read.{read_in}
use Rattle.modbus.specs.Replies.{error_reply, echo_reply}
use Rattle.meter.specs.declared.Meter.{Meter}
use Rattle.meter.specs.Meters.{meter_ok}
use Rattle.registers.specs.Shown.{shown_of}
use Rattle.board.specs.Reads.{items_sent, data_reply, read_bytes, read_reply}
use Rattle.store.specs.Writes.{stored_of, fault_of, left_by, written_of}
use Rattle.board.specs.Board.{refused_of, silent_of, sent_of, sent_or_silent, write_reply, obeyed_in, to_second, board_in}
use Rattle.demands.specs.Frames.{unheard, seen_by, writes, Heeds, Answers}
use Rattle.board.proofs.Cases.{board_1, board_2, board_silent, board_obeys, obeys_other, obeys_read, obeys_write}
use Rattle.store.proofs.Verdicts.{write_when}

module _ (v : View) where
  -- what a heeded frame gives: the bytes of a reply, and the next meter
  pub data Gives (m : Meter) (frame : List ℕ) (bytes : List ℕ) (n : Meter) : Type 0 where
    other : is_read frame ≡ false → writes m frame ≡ false → bytes ≡ error_reply frame Function → n ≡ m → Gives m frame bytes n
    misread : (code : ErrorCode) → is_read frame ≡ true → read_in (seen_by v m frame) frame ≡ Err code → bytes ≡ error_reply frame code → n ≡ m → Gives m frame bytes n
    shows : (first count : ℕ) → is_read frame ≡ true → read_in (seen_by v m frame) frame ≡ Ok (span first count) → bytes ≡ data_reply frame (items_sent m.given.order (shown_of m) (run_items (seen_by v m frame).seen first count)) → n ≡ m → Gives m frame bytes n
    miswritten : (code : ErrorCode) → writes m frame ≡ true → fault_of (written_of m frame) ≡ Some code → bytes ≡ error_reply frame code → n ≡ m → Gives m frame bytes n
    stores : writes m frame ≡ true → fault_of (written_of m frame) ≡ None → bytes ≡ echo_reply frame → n ≡ stored_of m frame → Gives m frame bytes n

  -- the same with what the definition makes of it
  record Given (m : Meter) (frame b : List ℕ) : Type 0 where
    bytes : List ℕ
    next : Meter
    gives : Gives m frame bytes next
    obeyed : sent_or_silent frame bytes next b ≡ obeyed_in (seen_by v m frame) (not (to_second m.given frame)) m frame b

  module _ (m : Meter) (frame b : List ℕ) where
    given_read : is_read frame ≡ true → (span : Result Span ErrorCode) → read_in (seen_by v m frame) frame ≡ span → Given m frame b
    given_read r (Err code) e =
        let same : read_reply (seen_by v m frame) m.given.order (shown_of m) frame ≡ error_reply frame code = ap (read_bytes (seen_by v m frame) m.given.order (shown_of m) frame) e in
        record { bytes = read_reply (seen_by v m frame) m.given.order (shown_of m) frame; next = m; gives = misread code r e same refl; obeyed = obeys_read (seen_by v m frame) (not (to_second m.given frame)) m frame b r }
    given_read r (Ok asked) e =
        let same : read_reply (seen_by v m frame) m.given.order (shown_of m) frame ≡ data_reply frame (items_sent m.given.order (shown_of m) (run_items (seen_by v m frame).seen asked.first asked.count)) = ap (read_bytes (seen_by v m frame) m.given.order (shown_of m) frame) e in
        record { bytes = read_reply (seen_by v m frame) m.given.order (shown_of m) frame; next = m; gives = shows asked.first asked.count r e same refl; obeyed = obeys_read (seen_by v m frame) (not (to_second m.given frame)) m frame b r }

    given_write : writes m frame ≡ true → (said : Option ErrorCode) → fault_of (written_of m frame) ≡ said → Given m frame b
    given_write w (Some code) e =
        record {
          bytes = write_reply frame (fault_of (written_of m frame));
          next = left_by m (written_of m frame);
          gives = miswritten code w e (ap (write_reply frame) e) ((write_when m frame).kept code e);
          obeyed = obeys_write (seen_by v m frame) (not (to_second m.given frame)) m frame b w;
        }
    given_write w None e =
        record {
          bytes = write_reply frame (fault_of (written_of m frame));
          next = left_by m (written_of m frame);
          gives = stores w e (ap (write_reply frame) e) ((write_when m frame).stored e);
          obeyed = obeys_write (seen_by v m frame) (not (to_second m.given frame)) m frame b w;
        }

    given : Given m frame b
    given = by_read (is_read frame) (writes m frame) refl refl
      where
        by_read : (r w : Bool) → is_read frame ≡ r → writes m frame ≡ w → Given m frame b
        by_read true w r e = given_read r (read_in (seen_by v m frame) frame) refl
        by_read false true r e = given_write e (fault_of (written_of m frame)) refl
        by_read false false r e = record { bytes = error_reply frame Function; next = m; gives = other r e refl refl; obeyed = obeys_other (seen_by v m frame) (not (to_second m.given frame)) m frame b r e }

  -- every outcome
  pub data Case (m : Meter) (frame b : List ℕ) : Type 0 where
    out : meter_ok m ≡ false → board_in v m frame b ≡ refused_of MeterOutOfLimits m b → Case m frame b
    short : meter_ok m ≡ true → length b < 256 → board_in v m frame b ≡ refused_of BufferShort m b → Case m frame b
    unheeded : meter_ok m ≡ true → 256 ≤ length b → unheard m frame ≡ true → board_in v m frame b ≡ silent_of m b → Case m frame b
    for_all : (bytes : List ℕ) (n : Meter) → Heeds m frame b → address_of frame ≡ 0 → Gives m frame bytes n → board_in v m frame b ≡ silent_of n b → Case m frame b
    for_one : (bytes : List ℕ) (n : Meter) → Answers m frame b → Gives m frame bytes n → board_in v m frame b ≡ sent_of bytes n b → Case m frame b

  pub case : (m : Meter) (frame b : List ℕ) → Case m frame b
  case m frame b = by_tests (meter_ok m) (ltb (length b) 256) (unheard m frame) (eqb (address_of frame) 0) refl refl refl refl
    where
      g : Given m frame b
      g = given m frame b

      by_tests : (a s q z : Bool) → meter_ok m ≡ a → ltb (length b) 256 ≡ s → unheard m frame ≡ q → eqb (address_of frame) 0 ≡ z → Case m frame b
      by_tests false s q z h k i j = out h (sym (board_1 v m frame b h))
      by_tests true true q z h k i j = short h (ltb-true _ _ k) (sym (board_2 v m frame b h k))
      by_tests true false true z h k i j = unheeded h (ltb-false _ _ k) i (sym (board_silent v m frame b h k i))
      by_tests true false false true h k i j =
          let heeds : Heeds m frame b = record { within = h; room = ltb-false _ _ k; heard = i } in
          let quiet : silent_of g.next b ≡ sent_or_silent frame g.bytes g.next b = rw j refl in
          for_all g.bytes g.next heeds (eqb-true _ _ j) g.gives (sym (quiet ∙ g.obeyed ∙ board_obeys v m frame b h k i))
      by_tests true false false false h k i j =
          let heeds : Heeds m frame b = record { within = h; room = ltb-false _ _ k; heard = i } in
          let said : sent_of g.bytes g.next b ≡ sent_or_silent frame g.bytes g.next b = rw j refl in
          for_one g.bytes g.next (record { heeds = heeds; own = eqb-false _ _ j }) g.gives (sym (said ∙ g.obeyed ∙ board_obeys v m frame b h k i))
