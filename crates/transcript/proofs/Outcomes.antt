-- What holds of each outcome that a frame may have holds of the one that it has; so a meter within limits stays so and refuses
-- nothing, a frame that is cut where it is too long already is answered as it was, and a reply is short beside the line that asks
-- for it.
use mathlib.Core.Path.{◌≡◌, refl, sym, ap, ◌∙◌}
use mathlib.Core.Bool.{Bool, true, false, ◌&&◌, not, cond, false≢true}
use mathlib.Core.List.{List, ◌∷◌}
use Prim.Native.Nat.{ℕ, ◌-◌, ◌*◌, ◌≤◌, ◌<◌}
use native.Mathlib.Nat.{min-le_left}
use native.Mathlib.Omega.{arith}
use lib.Dec.{T, leb, ltb, eqb}
use lib.ListN.{length, take, length-take}
use Rattle.std.proofs.Common.{Option, Some, None, Result, Ok, Err}
use lib.Seq.{take_all, length-take-le}
use borrow.Author.Tests.{not-true, ltb-true, lt-ltb, le-ltb, leb-true, leb-false}
use Rattle.refusal.specs.declared.Refusal.{Refusal}
use Rattle.refusal.specs.declared.Refusal.TheVariants.{MeterOutOfLimits, BufferShort}
use Rattle.refusal.specs.declared.ErrorCode.{ErrorCode}
use Rattle.refusal.specs.declared.ErrorCode.TheVariants.{Function}
use Rattle.crc.proofs.Laws.{length_sealed}
use Rattle.directory.specs.declared.Span.{Span}
use Rattle.directory.specs.Run.{run_items}
use Rattle.directory.specs.Views.{View, passes}
use Rattle.directory.specs.Tenant.{tenant_of}
use Rattle.directory.proofs.Tenant.{tenant_passes}
use Rattle.own.specs.Own.{own}
use Rattle.own.proofs.Rules.{own_passes}
use Rattle.modbus.specs.Frame.{address_of, function_of, word_number, silence, is_read, is_write}
use Rattle.modbus.specs.Read.{read_in}
use Rattle.modbus.specs.Replies.{error_reply}
use Rattle.modbus.proofs.Frames.{by_length, heeded}
use Rattle.modbus.proofs.Judged.{legal_read}
use Rattle.meter.specs.declared.Meter.{Meter}
use Rattle.meter.specs.Meters.{meter_ok}
use Rattle.registers.specs.Shown.{shown_of}
use Rattle.store.specs.Writes.{fault_of, left_by, written_of}
use Rattle.store.proofs.Verdicts.{write_within}
use Rattle.board.specs.Reads.{items_sent, read_bytes, read_reply}
use Rattle.board.specs.Board.{Outcome, refused_of, silent_of, sent_of, sent_or_silent, write_reply, heard_as, to_second, view_for, board_in, board_of}
use Rattle.board.proofs.Sent.{length_items}

either : (P : Outcome → Type 0) (t : Bool) (x y : Outcome) → (t ≡ true → P x) → (t ≡ false → P y) → P (cond t x y)
either P true x y h k = h refl
either P false x y h k = k refl

module _ (P : Outcome → Type 0) (m : Meter) (frame b : List ℕ) where
  -- each outcome that the frame may have
  record Each : Type 0 where
    out : meter_ok m ≡ false → P (refused_of MeterOutOfLimits m b)
    short : length b < 256 → P (refused_of BufferShort m b)
    quiet : P (silent_of m b)
    stored : P (silent_of (left_by m (written_of m frame)) b)
    other : 4 ≤ length frame → P (sent_of (error_reply frame Function) m b)
    read : (tenant : Bool) → 4 ≤ length frame → P (sent_of (read_reply (view_for own tenant) m.given.order (shown_of m) frame) m b)
    written : 4 ≤ length frame → P (sent_of (write_reply frame (fault_of (written_of m frame))) (left_by m (written_of m frame)) b)

  -- address 0 has silence
  replied : (bytes : List ℕ) (n : Meter) → P (silent_of n b) → P (sent_of bytes n b) → P (sent_or_silent frame bytes n b)
  replied bytes n h k = either P (eqb (address_of frame) 0) _ _ (λ e. h) (λ e. k)

  -- as a tenant's frame, or as any other
  heard : Each → (tenant writes : Bool) (address : ℕ) → P (heard_as address (view_for own tenant) writes m frame b)
  heard o tenant writes address =
      either P (silence address frame) _ _ (λ _. o.quiet) (λ s.
      let four = (heeded address frame s).least in
      either P (not (is_read frame) && not (writes && is_write frame)) _ _ (λ _. replied (error_reply frame Function) m o.quiet (o.other four)) (λ _.
      either P (is_read frame) _ _ (λ _. replied (read_reply (view_for own tenant) m.given.order (shown_of m) frame) m o.quiet (o.read tenant four)) (λ _.
      replied (write_reply frame (fault_of (written_of m frame))) (left_by m (written_of m frame)) o.stored (o.written four))))

  each : Each → P (board_of m frame b)
  unfolding board_in
  each o =
      either P (not (meter_ok m)) _ _ (λ e. o.out (not-true _ e)) (λ _.
      either P (ltb (length b) 256) _ _ (λ e. o.short (ltb-true _ _ e)) (λ _.
      either P (to_second m.given frame) _ _ (λ _. heard o true false m.given.second) (λ _. heard o false true m.given.address)))

-- ---- within limits

module _ (m : Meter) (frame b : List ℕ) (good : meter_ok m ≡ true) where
  pub stays_within : meter_ok (board_of m frame b).handled.meter ≡ true
  stays_within =
      let next = write_within m frame good in
      each (λ o. meter_ok o.handled.meter ≡ true) m frame b
      (record { out = λ _. good; short = λ _. good; quiet = good; stored = next; other = λ _. good; read = λ _ _. good; written = λ _. next })

  pub never_refuses : 256 ≤ length b → (reason : Refusal) → (board_of m frame b).handled.reply ≡ Err reason → ⊥
  never_refuses room reason =
      each (λ o. o.handled.reply ≡ Err reason → ⊥) m frame b
      (record {
        out = λ e. absurd (false≢true (sym e ∙ good));
        short = λ h. absurd (omega arith);
        quiet = silent_not;
        stored = silent_not;
        other = λ _. sent_not _;
        read = λ _ _. sent_not _;
        written = λ _. sent_not _;
      })
    where
      silent_not : ◌≡◌ {A = Result (Option ℕ) Refusal} (Ok None) (Err reason) → ⊥
      silent_not e = let z : ◌≡◌ {A = ℕ} 0 1 = cc in omega arith

      sent_not : (n : ℕ) → ◌≡◌ {A = Result (Option ℕ) Refusal} (Ok (Some n)) (Err reason) → ⊥
      sent_not n e = let z : ◌≡◌ {A = ℕ} 0 1 = cc in omega arith

-- ---- a frame that is cut

-- both are too long, and the meter keeps silent on both
too_long : (address : ℕ) (frame : List ℕ) → 256 < length frame → silence address frame ≡ true
too_long address frame h =
    sym (by_length address frame (rw (le-ltb (length frame) 4 (omega arith), lt-ltb 256 (length frame) h) refl))

long_silent : (m : Meter) (frame b : List ℕ) → 256 < length frame → board_of m frame b ≡ cond (not (meter_ok m)) (refused_of MeterOutOfLimits m b) (cond (ltb (length b) 256) (refused_of BufferShort m b) (silent_of m b))
unfolding board_in
long_silent m frame b long =
    ap (λ (o : Outcome). cond (not (meter_ok m)) (refused_of MeterOutOfLimits m b) (cond (ltb (length b) 256) (refused_of BufferShort m b) o)) (by (to_second m.given frame))
  where
    by : (t : Bool) → cond t (heard_as m.given.second (tenant_of own) false m frame b) (heard_as m.given.address own true m frame b) ≡ silent_of m b
    by true = rw (too_long m.given.second frame long) refl
    by false = rw (too_long m.given.address frame long) refl

pub cut : (m : Meter) (frame b : List ℕ) → board_of m (take 257 frame) b ≡ board_of m frame b
cut m frame b = by (leb (length frame) 257) refl
  where
    by : (t : Bool) → leb (length frame) 257 ≡ t → board_of m (take 257 frame) b ≡ board_of m frame b
    by true e = rw (take_all 257 frame (leb-true _ _ e)) refl
    by false e =
        let long : 257 < length frame = leb-false _ _ e in
        let front : length (take 257 frame) ≡ 257 = length-take-le 257 frame (omega arith) in
        long_silent m (take 257 frame) b (omega arith) ∙ sym (long_silent m frame b (omega arith))

-- ---- a short reply

-- three characters a byte sent, 32 for each of the line's
abbrev Brief : List ℕ → Outcome → Type 0
Brief frame o = (n : ℕ) → o.handled.reply ≡ Ok (Some n) → 3 * n ≤ 32 * (3 * length frame - 1)

module _ (m : Meter) (frame b : List ℕ) where
  silent_brief : (n : Meter) → Brief frame (silent_of n b)
  silent_brief n k e = let z : ◌≡◌ {A = ℕ} 0 1 = cc in let y : ⊥ = omega arith in absurd y

  refused_brief : (reason : Refusal) → Brief frame (refused_of reason m b)
  refused_brief reason k e = let z : ◌≡◌ {A = ℕ} 0 1 = cc in let y : ⊥ = omega arith in absurd y

  sent_brief : (bytes : List ℕ) (n : Meter) → 3 * length bytes ≤ 32 * (3 * length frame - 1) → Brief frame (sent_of bytes n b)
  sent_brief bytes n h k e = let same : length bytes ≡ k = cc in omega (arith, h, same)

  -- an error is five bytes, and an echo eight
  write_brief : 4 ≤ length frame → (fault : Option ErrorCode) → 3 * length (write_reply frame fault) ≤ 32 * (3 * length frame - 1)
  write_brief h (Some code) = omega arith
  write_brief h None =
      let six : length (take 6 frame) ≤ 6 = rw (length-take 6 frame) (min-le_left 6 (length frame)) in
      omega (arith, length_sealed (take 6 frame), six)

  -- data is 245 bytes at the most, for a frame of eight
  read_brief : (v : View) → T (passes v) → v.most ≤ 120 → 4 ≤ length frame → 3 * length (read_reply v m.given.order (shown_of m) frame) ≤ 32 * (3 * length frame - 1)
  read_brief v good most h = by (read_in v frame) refl
    where
      by : (judged : Result Span ErrorCode) → read_in v frame ≡ judged → 3 * length (read_bytes v m.given.order (shown_of m) frame judged) ≤ 32 * (3 * length frame - 1)
      by (Err code) e = omega arith
      by (Ok asked) e =
          let a = legal_read v good e in
          let its = run_items v.seen asked.first asked.count in
          let bs = address_of frame ∷ function_of frame ∷ 2 * word_number frame ∷ items_sent m.given.order (shown_of m) its in
          omega (arith, length_sealed bs, length_items m.given.order (shown_of m) its, a.sends, a.most, a.long, most)

  part_brief : (tenant : Bool) → 4 ≤ length frame → 3 * length (read_reply (view_for own tenant) m.given.order (shown_of m) frame) ≤ 32 * (3 * length frame - 1)
  part_brief true = read_brief (tenant_of own) (tenant_passes own own_passes.passed) (omega arith)
  part_brief false = read_brief own own_passes.passed (omega arith)

  pub brief : Brief frame (board_of m frame b)
  brief =
      let next = (left_by m (written_of m frame)) in
      each (Brief frame) m frame b
      (record {
        out = λ _. refused_brief MeterOutOfLimits;
        short = λ _. refused_brief BufferShort;
        quiet = silent_brief m;
        stored = silent_brief next;
        other = λ h. sent_brief (error_reply frame Function) m (omega arith);
        read = λ tenant h. sent_brief (read_reply (view_for own tenant) m.given.order (shown_of m) frame) m (part_brief tenant h);
        written = λ h. sent_brief (write_reply frame (fault_of (written_of m frame))) next (write_brief h (fault_of (written_of m frame)));
      })
