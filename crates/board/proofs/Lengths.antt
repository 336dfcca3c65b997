-- A reply has 256 bytes at the most: an error reply has five, an echo eight, and data as many as a view's most words have room for.
use mathlib.Core.Path.{◌≡◌, refl, sym, ap, ◌∙◌}
use mathlib.Core.Bool.{Bool, true, false, ◌&&◌, not, cond}
use mathlib.Core.List.{List, ◌∷◌}
use Prim.Native.Nat.{ℕ, ◌*◌, ◌≤◌}
use native.Mathlib.Nat.{min-le_left}
use native.Mathlib.Omega.{arith}
use lib.Dec.{T, ltb, eqb}
use lib.ListN.{length, take, length-take}
use Rattle.std.proofs.Common.{Option, Some, None, Result, Ok, Err}
use Rattle.refusal.specs.declared.Refusal.{Refusal}
use Rattle.refusal.specs.declared.Refusal.TheVariants.{MeterOutOfLimits, BufferShort}
use Rattle.refusal.specs.declared.ErrorCode.{ErrorCode}
use Rattle.refusal.specs.declared.ErrorCode.TheVariants.{Function}
use Rattle.crc.proofs.Laws.{length_sealed}
use Rattle.words.specs.declared.Order.{Order}
use Rattle.directory.specs.declared.Span.{Span}
use Rattle.directory.specs.Run.{span, run_items}
use Rattle.directory.specs.Views.{View, passes}
use Rattle.own.specs.Own.{own}
use Rattle.own.proofs.Rules.{own_passes}
use Rattle.directory.specs.Tenant.{tenant_of}
use Rattle.directory.proofs.Views.{passes_room}
use Rattle.directory.proofs.Tenant.{tenant_passes}
use Rattle.modbus.specs.Frame.{address_of, function_of, word_number, silence, is_read, is_write}
use Rattle.modbus.specs.Read.{read_in}
use Rattle.modbus.specs.Replies.{error_reply, echo_reply}
use Rattle.modbus.proofs.Judged.{legal_read}
use Rattle.meter.specs.declared.Meter.{Meter}
use Rattle.meter.specs.Meters.{meter_ok}
use Rattle.registers.specs.Shown.{shown_of}
use Rattle.store.specs.Writes.{fault_of, left_by, written_of}
use Rattle.board.specs.declared.Handled.{Handled}
use Rattle.board.specs.Reads.{items_sent, data_reply, read_bytes, read_reply}
use Rattle.board.specs.Board.{Outcome, refused_of, silent_of, sent_of, sent_or_silent, write_reply, obeyed_in, heard_as, to_second, view_for, board_in, board_of}
use Rattle.board.proofs.Sent.{length_items}

-- ---- the bytes of a reply

pub echo_long : (frame : List ℕ) → length (echo_reply frame) ≤ 256
echo_long frame =
    let six : length (take 6 frame) ≤ 6 = rw (length-take 6 frame) (min-le_left 6 (length frame)) in
    omega (arith, length_sealed (take 6 frame), six)

pub write_long : (frame : List ℕ) (fault : Option ErrorCode) → length (write_reply frame fault) ≤ 256
write_long frame (Some code) = omega arith
write_long frame None = echo_long frame

module _ (v : View) (good : T (passes v)) (o : Order) (shown : ℕ → ℕ) (frame : List ℕ) where
  pub data_long : (first count : ℕ) → read_in v frame ≡ Ok (span first count) → length (data_reply frame (items_sent o shown (run_items v.seen first count))) ≤ 256
  data_long first count e =
      let a = legal_read v good e in
      let its = run_items v.seen first count in
      let bs = address_of frame ∷ function_of frame ∷ 2 * word_number frame ∷ items_sent o shown its in
      omega (arith, length_sealed bs, length_items o shown its, a.sends, a.most, passes_room v good)

  pub read_long : length (read_reply v o shown frame) ≤ 256
  read_long = by (read_in v frame) refl
    where
      by : (judged : Result Span ErrorCode) → read_in v frame ≡ judged → length (read_bytes v o shown frame judged) ≤ 256
      by (Err code) e = omega arith
      by (Ok asked) e = data_long asked.first asked.count e

-- each view has room for its replies
pub view_passes : (tenant : Bool) → T (passes (view_for own tenant))
view_passes true = tenant_passes own own_passes.passed
view_passes false = own_passes.passed

-- ---- and so of what the board answers

-- whatever is sent is short enough
abbrev Short : Outcome → Type 0
Short o = (n : ℕ) → o.handled.reply ≡ Ok (Some n) → n ≤ 256

short_either : (t : Bool) (x y : Outcome) → Short x → Short y → Short (cond t x y)
short_either true x y h k = h
short_either false x y h k = k

short_refused : (reason : Refusal) (m : Meter) (b : List ℕ) → Short (refused_of reason m b)
short_refused reason m b n e = let z : ◌≡◌ {A = ℕ} 0 1 = cc in let y : ⊥ = omega arith in absurd y

short_silent : (m : Meter) (b : List ℕ) → Short (silent_of m b)
short_silent m b n e = let z : ◌≡◌ {A = ℕ} 0 1 = cc in let y : ⊥ = omega arith in absurd y

short_reply : (frame bytes : List ℕ) (m : Meter) (b : List ℕ) → length bytes ≤ 256 → Short (sent_or_silent frame bytes m b)
short_reply frame bytes m b h =
    short_either (eqb (address_of frame) 0) (silent_of m b) (sent_of bytes m b) (short_silent m b)
    (λ n e. let same : length bytes ≡ n = cc in omega (arith, h, same))

module _ (v : View) (good : T (passes v)) (m : Meter) (frame b : List ℕ) where
  short_obeyed : (writes : Bool) → Short (obeyed_in v writes m frame b)
  short_obeyed writes =
      short_either (not (is_read frame) && not (writes && is_write frame)) _ _ (short_reply frame (error_reply frame Function) m b (omega arith))
      (short_either (is_read frame) _ _ (short_reply frame (read_reply v m.given.order (shown_of m) frame) m b (read_long v good m.given.order (shown_of m) frame))
      (short_reply frame (write_reply frame (fault_of (written_of m frame))) (left_by m (written_of m frame)) b (write_long frame (fault_of (written_of m frame)))))

  short_heard : (address : ℕ) (writes : Bool) → Short (heard_as address v writes m frame b)
  short_heard address writes = short_either (silence address frame) _ _ (short_silent m b) (short_obeyed writes)

module _ (v : View) (good : T (passes v)) (m : Meter) (frame b : List ℕ) where
  pub board_short : Short (board_in v m frame b)
  unfolding board_in
  board_short =
      short_either (not (meter_ok m)) _ _ (short_refused MeterOutOfLimits m b)
      (short_either (ltb (length b) 256) _ _ (short_refused BufferShort m b)
      (short_either (to_second m.given frame) _ _
      (short_heard (tenant_of v) (tenant_passes v good) m frame b m.given.second false)
      (short_heard v good m frame b m.given.address true)))

-- a program's buffer has room for the reply that `board::handle` answers with
pub reply_long : (m : Meter) (frame b : List ℕ) {h : Handled} {n : ℕ} → h ≡ (board_of m frame b).handled → h.reply ≡ Ok (Some n) → n ≤ 256
reply_long m frame b is e = board_short own own_passes.passed m frame b _ (ap (λ (x : Handled). x.reply) (sym is) ∙ e)
