-- Each outcome of the definition, by the tests that lead to it.
use mathlib.Core.Path.{◌≡◌, refl, sym, ap, ◌∙◌}
use mathlib.Core.Bool.{Bool, true, false, ◌&&◌, not, cond, and-eq-true_iff}
use mathlib.Core.List.{List, [], ◌∷◌}
use Prim.Native.Nat.{ℕ}
use native.Mathlib.Omega.{arith}
use lib.Dec.{ltb, eqb}
use lib.ListN.{length}
use lib.Seq.{sets}
use Rattle.std.proofs.Common.{Some, Result, Ok}
use borrow.Author.Tests.{eq-eqb, ne_eqb, eqb-true, eqb-false}
use Rattle.refusal.specs.declared.Refusal.TheVariants.{MeterOutOfLimits, BufferShort}
use Rattle.refusal.specs.declared.ErrorCode.{ErrorCode}
use Rattle.refusal.specs.declared.ErrorCode.TheVariants.{Function}
use Rattle.directory.specs.Views.{View}
use Rattle.directory.specs.Tenant.{tenant_of}
use Rattle.modbus.specs.Frame.{address_of, function_of, silence, is_read, is_write}
use Rattle.modbus.specs.Replies.{error_reply}
use Rattle.meter.specs.declared.given.Given.{Given}
use Rattle.meter.specs.declared.Meter.{Meter}
use Rattle.meter.specs.Meters.{meter_ok}
use Rattle.registers.specs.Shown.{shown_of}
use Rattle.board.specs.Reads.{read_reply}
use Rattle.store.specs.Writes.{fault_of, left_by, written_of}
use Rattle.board.specs.Board.{Outcome, Allowed, refused_of, silent_of, sent_or_silent, write_reply, obeyed_in, heard_as, to_second, address_for, view_for, board_in}

-- what is defined is allowed
pub allowed : {x y : Outcome} → x ≡ y → Allowed y x.handled x.buffer
allowed e = record { handled = ap (λ (o : Outcome). o.handled) e; bytes = ap (λ (o : Outcome). o.buffer) e }

-- a frame of no bytes is for no second address
pub second_none : (g : Given) (frame : List ℕ) → length frame ≡ 0 → to_second g frame ≡ false
second_none g [] e = by (eqb g.second 0) refl
  where
    by : (b : Bool) → eqb g.second 0 ≡ b → (not b && eqb 0 g.second) ≡ false
    by true h = refl
    by false h = ne_eqb 0 g.second (λ z. eqb-false g.second 0 h (sym z))
second_none g (a ∷ frame) e = absurd (omega (arith, e))

module _ (v : View) (m : Meter) (frame buffer : List ℕ) where
  pub board_1 : meter_ok m ≡ false → refused_of MeterOutOfLimits m buffer ≡ board_in v m frame buffer
  unfolding board_in
  board_1 h = rw h refl

  pub board_2 : meter_ok m ≡ true → ltb (length buffer) 256 ≡ true → refused_of BufferShort m buffer ≡ board_in v m frame buffer
  unfolding board_in
  board_2 h b = rw (h, b) refl

  -- whose the frame is
  abbrev tenant : Bool
  tenant = to_second m.given frame

  pub board_silent : meter_ok m ≡ true → ltb (length buffer) 256 ≡ false → silence (address_for m.given tenant) frame ≡ true → silent_of m buffer ≡ board_in v m frame buffer
  unfolding board_in
  board_silent h b s = rw (h, b) (by tenant s)
    where
      by : (t : Bool) → silence (address_for m.given t) frame ≡ true → silent_of m buffer ≡ cond t (heard_as m.given.second (tenant_of v) false m frame buffer) (heard_as m.given.address v true m frame buffer)
      by true s = rw s refl
      by false s = rw s refl

  pub board_obeys : meter_ok m ≡ true → ltb (length buffer) 256 ≡ false → silence (address_for m.given tenant) frame ≡ false → obeyed_in (view_for v tenant) (not tenant) m frame buffer ≡ board_in v m frame buffer
  unfolding board_in
  board_obeys h b s = rw (h, b) (by tenant s)
    where
      by : (t : Bool) → silence (address_for m.given t) frame ≡ false → obeyed_in (view_for v t) (not t) m frame buffer ≡ cond t (heard_as m.given.second (tenant_of v) false m frame buffer) (heard_as m.given.address v true m frame buffer)
      by true s = rw s refl
      by false s = rw s refl

module _ (v : View) (writes : Bool) (m : Meter) (frame buffer : List ℕ) where
  -- a write is no read
  pub write_only : is_write frame ≡ true → is_read frame ≡ false
  write_only w = ap (λ (f : ℕ). eqb f 0x03) (eqb-true (function_of frame) 0x10 w)

  -- one that may be
  pub write_is : (writes && is_write frame) ≡ true → is_write frame ≡ true
  write_is w = ((and-eq-true_iff writes (is_write frame)).0 w).1

  pub obeys_other : is_read frame ≡ false → (writes && is_write frame) ≡ false → sent_or_silent frame (error_reply frame Function) m buffer ≡ obeyed_in v writes m frame buffer
  obeys_other r w = rw (r, w) refl

  pub obeys_read : is_read frame ≡ true → sent_or_silent frame (read_reply v m.given.order (shown_of m) frame) m buffer ≡ obeyed_in v writes m frame buffer
  obeys_read r = rw r refl

  pub obeys_write : (writes && is_write frame) ≡ true → sent_or_silent frame (write_reply frame (fault_of (written_of m frame))) (left_by m (written_of m frame)) buffer ≡ obeyed_in v writes m frame buffer
  obeys_write w = rw (write_only (write_is w), w) refl

  -- for all meters, and for this one
  to_all : (bytes : List ℕ) (n : Meter) → address_of frame ≡ 0 → silent_of n buffer ≡ sent_or_silent frame bytes n buffer
  to_all bytes n z = rw (eq-eqb (address_of frame) 0 z) refl

  to_one : (bytes : List ℕ) (n : Meter) → (address_of frame ≡ 0 → ⊥) → (k : ℕ) (after : List ℕ) → k ≡ length bytes → after ≡ sets buffer 0 bytes → record { handled = record { reply = Ok (Some k); meter = n }; buffer = after } ≡ sent_or_silent frame bytes n buffer
  to_one bytes n z k after l s = rw (ne_eqb (address_of frame) 0 z, l, s) refl

  pub read_sent : is_read frame ≡ true → (address_of frame ≡ 0 → ⊥) → (k : ℕ) (after : List ℕ) → k ≡ length (read_reply v m.given.order (shown_of m) frame) → after ≡ sets buffer 0 (read_reply v m.given.order (shown_of m) frame) → record { handled = record { reply = Ok (Some k); meter = m }; buffer = after } ≡ obeyed_in v writes m frame buffer
  read_sent r z k after l s = to_one (read_reply v m.given.order (shown_of m) frame) m z k after l s ∙ obeys_read r

  pub other_sent : is_read frame ≡ false → (writes && is_write frame) ≡ false → (address_of frame ≡ 0 → ⊥) → (k : ℕ) (after : List ℕ) → k ≡ length (error_reply frame Function) → after ≡ sets buffer 0 (error_reply frame Function) → record { handled = record { reply = Ok (Some k); meter = m }; buffer = after } ≡ obeyed_in v writes m frame buffer
  other_sent r w z k after l s = to_one (error_reply frame Function) m z k after l s ∙ obeys_other r w

  pub unwritten : (writes && is_write frame) ≡ false → address_of frame ≡ 0 → silent_of m buffer ≡ obeyed_in v writes m frame buffer
  unwritten w z = by (is_read frame) refl
    where
      by : (b : Bool) → is_read frame ≡ b → silent_of m buffer ≡ obeyed_in v writes m frame buffer
      by true r = to_all (read_reply v m.given.order (shown_of m) frame) m z ∙ obeys_read r
      by false r = to_all (error_reply frame Function) m z ∙ obeys_other r w

  module _ (h : (writes && is_write frame) ≡ true) (w : Result Meter ErrorCode) (e : w ≡ written_of m frame) where
    pub write_silent : address_of frame ≡ 0 → silent_of (left_by m w) buffer ≡ obeyed_in v writes m frame buffer
    write_silent z = rw e (to_all (write_reply frame (fault_of (written_of m frame))) (left_by m (written_of m frame)) z ∙ obeys_write h)

    pub write_sent : (address_of frame ≡ 0 → ⊥) → (k : ℕ) (after : List ℕ) → k ≡ length (write_reply frame (fault_of w)) → after ≡ sets buffer 0 (write_reply frame (fault_of w)) → record { handled = record { reply = Ok (Some k); meter = left_by m w }; buffer = after } ≡ obeyed_in v writes m frame buffer
    write_sent z k after l s =
        let l' = l ∙ ap (λ (x : Result Meter ErrorCode). length (write_reply frame (fault_of x))) e in
        let s' = s ∙ ap (λ (x : Result Meter ErrorCode). sets buffer 0 (write_reply frame (fault_of x))) e in
        rw e (to_one (write_reply frame (fault_of (written_of m frame))) (left_by m (written_of m frame)) z k after l' s' ∙ obeys_write h)
