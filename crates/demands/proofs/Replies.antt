-- What a heeded frame gives is what the board sends: whatever the buffer, sealed, 256 bytes at the most; and an error reply
-- tells its code, and that nothing else was sent.
use Rattle.std.specs.Prelude.{Err, Ok, Option, Result, Some}
use mathlib.Core.Path.{◌≡◌, refl, sym, ap, ap₂, ◌∙◌}
use mathlib.Core.Bool.{true, false, not}
use mathlib.Core.List.{List, [], ◌∷◌}
use Prim.Native.Nat.{ℕ, ◌+◌, ◌*◌, ◌≤◌}
use native.Mathlib.Omega.{arith}
use lib.Dec.{T}
use lib.ListN.{length, get_or, take, drop, get_or-append}
use lib.Seq.{sets, drop_at, get_or-take, length-take-le}
use borrow.Author.Tests.{eq-eqb, ne_eqb, le-ltb}
use Rattle.refusal.specs.declared.Refusal.{Refusal}
use Rattle.refusal.specs.declared.ErrorCode.{ErrorCode}
use Rattle.refusal.specs.declared.ErrorCode.TheVariants.{Function}
use Rattle.refusal.specs.Numbers.{error_number}
use Rattle.refusal.proofs.Distinct.{one_reason_each}
use Rattle.crc.specs.Crc.{crc_of, on_line, sealed, intact}
use Rattle.crc.proofs.Laws.{intact_is_sealed}
use Rattle.directory.specs.Run.{run_items}
use Rattle.directory.specs.Views.{View, passes}
use Rattle.modbus.specs.Frame.{address_of, function_of, word_number, is_read}
use Rattle.modbus.specs.Replies.{error_reply, echo_reply}
use Rattle.modbus.proofs.Frames.{shaped_length}
use Rattle.modbus.proofs.Stores.{sets_front, sets_taken}
use Rattle.meter.specs.declared.Meter.{Meter}
use Rattle.registers.specs.Shown.{shown_of}
use Rattle.board.specs.Reads.{items_sent, data_reply, read_bytes}
use Rattle.board.specs.Board.{Outcome, silent_of, sent_of, sent_or_silent, obeyed_in, to_second, board_in}
use Rattle.demands.specs.Frames.{seen_by, writes, Heeds, Answers, ReadErrs, WriteErrs}
use Rattle.board.proofs.Lengths.{echo_long, data_long}
use Rattle.board.proofs.Cases.{board_obeys, obeys_other, obeys_read, obeys_write}
use Rattle.store.proofs.Verdicts.{write_when}
use Rattle.demands.proofs.Seen.{seen_passes}
use Rattle.demands.proofs.Gives.{Gives}
use Rattle.demands.proofs.Gives.Gives.{other, misread, shows, miswritten, stores}

-- ---- bytes with their CRC behind them

record Sealed (bytes : List ℕ) : Type 0 where
  before : List ℕ
  is : bytes ≡ sealed before

error_sealed : (frame : List ℕ) (code : ErrorCode) (bytes : List ℕ) → bytes ≡ error_reply frame code → Sealed bytes
error_sealed frame code bytes e = record { before = address_of frame ∷ (function_of frame + 0x80) ∷ error_number code ∷ []; is = e }

-- ---- in the buffer

pub sent_beyond : (bytes b : List ℕ) → length bytes ≤ length b → drop (length bytes) (sets b 0 bytes) ≡ drop (length bytes) b
sent_beyond bytes b h = ap (drop (length bytes)) (sets_front b bytes h) ∙ drop_at bytes _ (length bytes) refl

pub sent_length : {k n : ℕ} → ◌≡◌ {A = Result (Option ℕ) Refusal} (Ok (Some k)) (Ok (Some n)) → k ≡ n
sent_length e = cc

pub sent_same : (x y : List ℕ) (m n : Meter) (b : List ℕ) → length x ≤ length b → length y ≤ length b → sent_of x m b ≡ sent_of y n b → x ≡ y
sent_same x y m n b h k e =
    let long : length x ≡ length y = sent_length (ap (λ (o : Outcome). o.handled.reply) e) in
    sym (sets_taken b x h) ∙ ap₂ (λ (j : ℕ) (l : List ℕ). take j l) long (ap (λ (o : Outcome). o.buffer) e) ∙ sets_taken b y k

-- ---- an echo has the function of the frame

pub echo_function : (frame : List ℕ) → 6 ≤ length frame → function_of (echo_reply frame) ≡ function_of frame
echo_function frame h =
    let six = length-take-le 6 frame h in
    get_or-append (take 6 frame) (on_line (crc_of (take 6 frame))) 0 1 (omega arith) ∙ get_or-take 6 frame 1 0 (omega arith)

-- ---- an error reply tells its code

pub one_code : (frame : List ℕ) (c d : ErrorCode) → error_reply frame c ≡ error_reply frame d → c ≡ d
one_code frame c d e = one_reason_each.errors c d (ap (λ (l : List ℕ). get_or l 2 0) e)

-- its function is another than that of data or an echo
not_data : {A : Type 0} (frame words : List ℕ) (code : ErrorCode) → data_reply frame words ≡ error_reply frame code → A
not_data frame words code e =
    let f : function_of frame ≡ function_of frame + 0x80 = ap (λ (l : List ℕ). get_or l 1 0) e in
    let y : ⊥ = omega arith in absurd y

not_echo : {A : Type 0} (frame : List ℕ) (code : ErrorCode) → 6 ≤ length frame → echo_reply frame ≡ error_reply frame code → A
not_echo frame code h e =
    let f : function_of frame ≡ function_of frame + 0x80 = sym (echo_function frame h) ∙ ap function_of e in
    let y : ⊥ = omega arith in absurd y

module _ (v : View) (good : T (passes v)) where
  -- ---- what is given is sent

  module _ (m : Meter) (frame b : List ℕ) where
    obeyed : Heeds m frame b → board_in v m frame b ≡ obeyed_in (seen_by v m frame) (not (to_second m.given frame)) m frame b
    obeyed h = sym (board_obeys v m frame b h.within (le-ltb _ _ h.room) h.heard)

    pub gives_reply : Heeds m frame b → (bytes : List ℕ) (n : Meter) → Gives v m frame bytes n → board_in v m frame b ≡ sent_or_silent frame bytes n b
    gives_reply h bytes n (other r w e k) = rw (e, k) (obeyed h ∙ sym (obeys_other (seen_by v m frame) (not (to_second m.given frame)) m frame b r w))
    gives_reply h bytes n (misread code r s e k) = rw (e, k) (obeyed h ∙ sym (obeys_read (seen_by v m frame) (not (to_second m.given frame)) m frame b r) ∙ ap (λ (x : List ℕ). sent_or_silent frame x m b) (ap (read_bytes (seen_by v m frame) m.given.order (shown_of m) frame) s))
    gives_reply h bytes n (shows first count r s e k) = rw (e, k) (obeyed h ∙ sym (obeys_read (seen_by v m frame) (not (to_second m.given frame)) m frame b r) ∙ ap (λ (x : List ℕ). sent_or_silent frame x m b) (ap (read_bytes (seen_by v m frame) m.given.order (shown_of m) frame) s))
    gives_reply h bytes n (miswritten code w j e k) =
        let o = obeyed h ∙ sym (obeys_write (seen_by v m frame) (not (to_second m.given frame)) m frame b w) in
        rw (e, k) (o ∙ rw ((write_when m frame).kept code j, j) refl)
    gives_reply h bytes n (stores w j e k) =
        let o = obeyed h ∙ sym (obeys_write (seen_by v m frame) (not (to_second m.given frame)) m frame b w) in
        rw (e, k) (o ∙ rw ((write_when m frame).stored j, j) refl)

    pub gives_sent : Answers m frame b → (bytes : List ℕ) (n : Meter) → Gives v m frame bytes n → board_in v m frame b ≡ sent_of bytes n b
    gives_sent a bytes n g = gives_reply a.heeds bytes n g ∙ rw (ne_eqb (address_of frame) 0 a.own) refl

    pub gives_quiet : Heeds m frame b → address_of frame ≡ 0 → (bytes : List ℕ) (n : Meter) → Gives v m frame bytes n → board_in v m frame b ≡ silent_of n b
    gives_quiet h z bytes n g = gives_reply h bytes n g ∙ rw (eq-eqb (address_of frame) 0 z) refl

  -- ---- its length and its CRC

  pub gives_long : (m : Meter) (frame bytes : List ℕ) (n : Meter) → Gives v m frame bytes n → length bytes ≤ 256
  gives_long m frame bytes n (other r w e k) = rw e (omega arith)
  gives_long m frame bytes n (misread code r s e k) = rw e (omega arith)
  gives_long m frame bytes n (shows first count r s e k) = rw e (data_long (seen_by v m frame) (seen_passes v good m frame) m.given.order (shown_of m) frame first count s)
  gives_long m frame bytes n (miswritten code w j e k) = rw e (omega arith)
  gives_long m frame bytes n (stores w j e k) = rw e (echo_long frame)

  gives_sealed : (m : Meter) (frame bytes : List ℕ) (n : Meter) → Gives v m frame bytes n → Sealed bytes
  gives_sealed m frame bytes n (other r w e k) = error_sealed frame Function bytes e
  gives_sealed m frame bytes n (misread code r s e k) = error_sealed frame code bytes e
  gives_sealed m frame bytes n (shows first count r s e k) =
      record { before = address_of frame ∷ function_of frame ∷ 2 * word_number frame ∷ items_sent m.given.order (shown_of m) (run_items (seen_by v m frame).seen first count); is = e }
  gives_sealed m frame bytes n (miswritten code w j e k) = error_sealed frame code bytes e
  gives_sealed m frame bytes n (stores w j e k) = record { before = take 6 frame; is = e }

  pub gives_whole : (m : Meter) (frame bytes : List ℕ) (n : Meter) → Gives v m frame bytes n → intact bytes ≡ true
  gives_whole m frame bytes n g = let z = gives_sealed m frame bytes n g in ap intact z.is ∙ intact_is_sealed.passes z.before

  -- ---- what led to an error reply

  pub data Faults (code : ErrorCode) (m : Meter) (frame : List ℕ) : Type 0 where
    unknown : is_read frame ≡ false → writes m frame ≡ false → Function ≡ code → Faults code m frame
    bad_read : ReadErrs (seen_by v m frame) code frame → Faults code m frame
    bad_write : WriteErrs code m frame → Faults code m frame

  pub faults : (m : Meter) (frame bytes : List ℕ) (n : Meter) (code : ErrorCode) → Gives v m frame bytes n → bytes ≡ error_reply frame code → Faults code m frame
  faults m frame bytes n code (other r w e k) h = unknown r w (one_code frame Function code (sym e ∙ h))
  faults m frame bytes n code (misread c r s e k) h = bad_read (r, s ∙ ap Err (one_code frame c code (sym e ∙ h)))
  faults m frame bytes n code (shows first count r s e k) h =
      not_data frame (items_sent m.given.order (shown_of m) (run_items (seen_by v m frame).seen first count)) code (sym e ∙ h)
  faults m frame bytes n code (miswritten c w j e k) h = bad_write (w, j ∙ ap Some (one_code frame c code (sym e ∙ h)))
  faults m frame bytes n code (stores w j e k) h =
      not_echo frame code (omega (arith, (shaped_length frame ((write_when m frame).legal.0 j).0).0)) (sym e ∙ h)
