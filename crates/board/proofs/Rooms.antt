-- A reply is put into the 256 bytes at the start of the buffer; with the bytes behind these that is the buffer with the reply at its start.
use mathlib.Core.Path.{◌≡◌, sym, ap, ◌∙◌}
use mathlib.Core.Bool.{Bool, true, false, cond}
use mathlib.Core.List.{List, ◌++◌}
use Prim.Native.Nat.{ℕ, ◌≤◌}
use native.Mathlib.Omega.{arith}
use lib.Dec.{eqb}
use lib.ListN.{length, take, drop}
use lib.Seq.{sets, length-take-le}
use Rattle.std.proofs.Common.{append_assoc}
use Rattle.std.proofs.lemmas.List.{take-append-drop, drop-append-le}
use Rattle.modbus.specs.Frame.{address_of}
use Rattle.modbus.proofs.Stores.{sets_front}
use Rattle.meter.specs.declared.Meter.{Meter}
use Rattle.board.specs.declared.Handled.{Handled}
use Rattle.board.specs.Board.{Outcome, Allowed, silent_of, sent_of, sent_or_silent}

-- what is allowed of an outcome is allowed of the same one
pub along : {x y : Outcome} {h : Handled} {b : List ℕ} → x ≡ y → Allowed x h b → Allowed y h b
along e a = record { handled = a.handled ∙ ap (λ (o : Outcome). o.handled) e; bytes = a.bytes ∙ ap (λ (o : Outcome). o.buffer) e }

module _ (buffer room : List ℕ) (long : 256 ≤ length buffer) (first : room ≡ take 256 buffer) where
  pub kept : room ++ drop 256 buffer ≡ buffer
  kept = rw first (take-append-drop 256 buffer)

  fits : length room ≡ 256
  fits = ap length first ∙ length-take-le 256 buffer long

  pub put : (bytes : List ℕ) → length bytes ≤ 256 → sets room 0 bytes ++ drop 256 buffer ≡ sets buffer 0 bytes
  put bytes short =
      let within : length bytes ≤ length room = omega (arith, fits) in
      ap (λ (l : List ℕ). l ++ drop 256 buffer) (sets_front room bytes within)
      ∙ append_assoc bytes (drop (length bytes) room) (drop 256 buffer)
      ∙ ap (λ (l : List ℕ). bytes ++ l) (sym (drop-append-le (length bytes) room (drop 256 buffer) within) ∙ ap (drop (length bytes)) kept)
      ∙ sym (sets_front buffer bytes (omega arith))

  -- a reply, unless the frame is for all meters
  pub over : (frame bytes : List ℕ) (m : Meter) {x : Handled} {after : List ℕ} → length bytes ≤ 256 → Allowed (sent_or_silent frame bytes m room) x after → Allowed (sent_or_silent frame bytes m buffer) x (after ++ drop 256 buffer)
  over frame bytes m {x = x} {after = after} short a = by (eqb (address_of frame) 0) a
    where
      by : (b : Bool) → Allowed (cond b (silent_of m room) (sent_of bytes m room)) x after → Allowed (cond b (silent_of m buffer) (sent_of bytes m buffer)) x (after ++ drop 256 buffer)
      by true h = record { handled = h.handled; bytes = ap (λ (l : List ℕ). l ++ drop 256 buffer) h.bytes ∙ kept }
      by false h = record { handled = h.handled; bytes = ap (λ (l : List ℕ). l ++ drop 256 buffer) h.bytes ∙ put bytes short }
