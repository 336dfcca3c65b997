-- All that is stated of the board, by its five outcomes and by what a heeded frame gives.
use Rattle.std.specs.Prelude.{Err, None, Ok, Some, Option, Result}
use mathlib.Core.Path.{◌≡◌, refl, sym, ap, ◌∙◌}
use mathlib.Core.Logic.{◌↔◌, ◌⊎◌, inl, inr}
use mathlib.Core.Bool.{Bool, true, false, cond, false≢true}
use mathlib.Core.List.{List}
use Prim.Native.Nat.{ℕ, ◌≤◌, ◌<◌}
use native.Mathlib.Omega.{arith}
use lib.Dec.{T}
use lib.ListN.{length, take, drop}
use lib.Seq.{sets}
use borrow.Author.Tests.{lt-ltb, le-ltb, eq-eqb, ne_eqb}
use Rattle.refusal.specs.declared.Refusal.{Refusal}
use Rattle.refusal.specs.declared.ErrorCode.{ErrorCode}
use Rattle.refusal.specs.declared.ErrorCode.TheVariants.{Function, Address, Data}
use Rattle.refusal.specs.Numbers.{error_number, refused_by}
use Rattle.refusal.proofs.Distinct.{one_reason_each, case_in, number_in}
use Rattle.crc.specs.Crc.{intact}
use Rattle.directory.specs.Views.{View, passes}
use Rattle.modbus.specs.Frame.{is_read, write_values}
use Rattle.modbus.specs.Replies.{error_reply}
use Rattle.modbus.proofs.Judged.{read_when}
use Rattle.modbus.proofs.Stores.{sets_taken}
use Rattle.average.specs.declared.Average.{Average}
use Rattle.average.specs.Windows.{opened_of, recoded_by}
use Rattle.meter.specs.declared.groups.Setup.{Setup}
use Rattle.meter.specs.declared.Meter.{Meter}
use Rattle.meter.specs.Groups.{code_of, with_standard, with_output}
use Rattle.meter.specs.Meters.{meter_ok}
use Rattle.store.specs.Writes.{to_standard, stored_of, verdict_told}
use Rattle.board.specs.Board.{Outcome, reply_told, board_in}
use Rattle.demands.specs.Frames.{unheard, seen_by, writes, Heeds, Answers, SendsError, ReadErrs, WriteErrs, Quiet, Stores, Altered, Opened, FrameGives, FramesWhen, Obeys, Untouched, WindowOpened, RepliesSealed, BufferUnseen}
use Rattle.demands.specs.RoundTrip.{reply_in, reply_to}
use Rattle.board.proofs.Lengths.{board_short}
use Rattle.board.proofs.Cases.{board_1, board_2, board_silent}
use Rattle.store.proofs.Verdicts.{write_when, write_within}
use Rattle.demands.proofs.Gives.{Gives, Case, case}
use Rattle.demands.proofs.Gives.Gives.{other, misread, shows, miswritten, stores}
use Rattle.demands.proofs.Gives.Case.{out, short, unheeded, for_all, for_one}
use Rattle.demands.proofs.Replies.{gives_sent, gives_quiet, gives_long, gives_whole, sent_beyond, sent_length, sent_same, Faults, faults}
use Rattle.demands.proofs.Replies.Faults.{unknown, bad_read, bad_write}

-- ---- answers are told apart by their numbers

-- the numbers of a reply give it back
pub reply_back : (a b : Result (Option ℕ) Refusal) → reply_told a ≡ reply_told b → a ≡ b
reply_back (Ok None) (Ok None) e = refl
reply_back (Ok None) (Ok (Some n)) e = absurd (omega (arith, ap case_in e))
reply_back (Ok None) (Err r) e = absurd (omega (arith, ap case_in e))
reply_back (Ok (Some n)) (Ok None) e = absurd (omega (arith, ap case_in e))
reply_back (Ok (Some n)) (Ok (Some k)) e = ap (λ (n : ℕ). Ok (Some n)) (ap number_in e)
reply_back (Ok (Some n)) (Err r) e = absurd (omega (arith, ap case_in e))
reply_back (Err r) (Ok None) e = absurd (omega (arith, ap case_in e))
reply_back (Err r) (Ok (Some n)) e = absurd (omega (arith, ap case_in e))
reply_back (Err r) (Err s) e = ap Err (one_reason_each.refusals r s (ap number_in e))

abbrev said : Outcome → Result (Option ℕ) Refusal
said o = o.handled.reply

-- an outcome that is known has its answer
abbrev heard_as_lem : {x y : Outcome} {r : Result (Option ℕ) Refusal} → x ≡ y → said x ≡ r → said y ≡ r
heard_as_lem e h = sym (ap said e) ∙ h

-- and its numbers
abbrev told_as : {x y : Outcome} {numbers : List ℕ} → x ≡ y → reply_told (said x) ≡ numbers → reply_told (said y) ≡ numbers
told_as e h = sym (ap (λ (o : Outcome). reply_told (said o)) e) ∙ h

-- two cases of other numbers
apart {ℓ} : {A : Type ℓ} {x y : Result (Option ℕ) Refusal} → (case_in (reply_told x) ≡ case_in (reply_told y) → ⊥) → x ≡ y → A
apart n e = absurd (n (ap (λ (r : Result (Option ℕ) Refusal). case_in (reply_told r)) e))

-- a record after a frame: as it was, or with a legal write stored
abbrev pub Kept : Meter → List ℕ → List ℕ → Meter → Type 0
Kept m frame b n = (n ≡ m) ⊎ (Heeds m frame b × Stores m frame × (n ≡ stored_of m frame))

opened_so : (before after : Average) → after ≡ opened_of before → Opened before after
opened_so before after e = record {
  seconds = ap (λ (a : Average). a.window.seconds) e;
  sum = ap (λ (a : Average). a.window.sum) e;
  last = ap (λ (a : Average). a.last) e;
  peak = ap (λ (a : Average). a.peak) e;
}

five : (frame : List ℕ) (code : ErrorCode) → length (error_reply frame code) ≡ 5
five frame code = refl

module _ (v : View) (good : T (passes v)) where
  -- ---- refusals and silence

  module _ (m : Meter) (frame b : List ℕ) where
    -- the number of a refusal, and what it is due to
    data Refuses (n : ℕ) : Type 0 where
      by_record : n ≡ 1 → meter_ok m ≡ false → Refuses n
      by_buffer : n ≡ 2 → meter_ok m ≡ true → length b < 256 → Refuses n

    refuses : Case v m frame b → (n : ℕ) → FrameGives v m frame b (refused_by n) → Refuses n
    refuses (out h e) n r = by_record (sym (ap number_in (told_as e r))) h
    refuses (short h k e) n r = by_buffer (sym (ap number_in (told_as e r))) h k
    refuses (unheeded h k q e) n r = absurd (omega (arith, ap case_in (told_as e r)))
    refuses (for_all bytes k h z g e) n r = absurd (omega (arith, ap case_in (told_as e r)))
    refuses (for_one bytes k a g e) n r = absurd (omega (arith, ap case_in (told_as e r)))

    row_1 : Refuses 1 → meter_ok m ≡ false
    row_1 (by_record e h) = h
    row_1 (by_buffer e h k) = absurd (omega (arith, e))

    row_2 : Refuses 2 → (meter_ok m ≡ true) × (length b < 256)
    row_2 (by_record e h) = absurd (omega (arith, e))
    row_2 (by_buffer e h k) = (h, k)

    only : (n : ℕ) → Refuses n → (n ≡ 1) ⊎ (n ≡ 2)
    only n (by_record e h) = inl e
    only n (by_buffer e h k) = inr e

    silent_to : Case v m frame b → said (board_in v m frame b) ≡ Ok None → (meter_ok m ≡ true) × (256 ≤ length b) × Quiet m frame
    silent_to (out h e) r = apart (λ z. omega arith) (heard_as_lem e r)
    silent_to (short h k e) r = apart (λ z. omega arith) (heard_as_lem e r)
    silent_to (unheeded h k q e) r = (h, k, inl q)
    silent_to (for_all bytes n h z g e) r = (h.within, h.room, inr z)
    silent_to (for_one bytes n a g e) r = apart (λ z. omega arith) (heard_as_lem e r)

    silent_from : Case v m frame b → meter_ok m ≡ true → 256 ≤ length b → Quiet m frame → said (board_in v m frame b) ≡ Ok None
    silent_from (out h e) k l q = absurd (false≢true (sym h ∙ k))
    silent_from (short h s e) k l q = absurd (omega arith)
    silent_from (unheeded h s p e) k l q = ap said e
    silent_from (for_all bytes n h z g e) k l q = ap said e
    silent_from (for_one bytes n a g e) k l (inl q) = absurd (false≢true (sym a.heeds.heard ∙ q))
    silent_from (for_one bytes n a g e) k l (inr z) = absurd (a.own z)

  -- ---- error codes

  module _ (m : Meter) (frame b : List ℕ) (code : ErrorCode) where
    errs_to : Case v m frame b → SendsError v m frame b (error_number code) → Answers m frame b × Faults v good code m frame
    errs_to (out h e) r = apart (λ z. omega arith) (ap said (sym e ∙ r))
    errs_to (short h k e) r = apart (λ z. omega arith) (ap said (sym e ∙ r))
    errs_to (unheeded h k q e) r = apart (λ z. omega arith) (ap said (sym e ∙ r))
    errs_to (for_all bytes n h z g e) r = apart (λ z. omega arith) (ap said (sym e ∙ r))
    errs_to (for_one bytes n a g e) r =
        let room = a.heeds.room in
        (a, faults v good m frame bytes n code g (sent_same bytes (error_reply frame code) n m b (omega (arith, gives_long v good m frame bytes n g)) (omega (arith, five frame code)) (sym e ∙ r)))

    errs_from : Answers m frame b → ReadErrs (seen_by v m frame) code frame ⊎ WriteErrs code m frame → SendsError v m frame b (error_number code)
    errs_from a (inl r) = gives_sent v good m frame b a (error_reply frame code) m (misread code r.0 r.1 refl refl)
    errs_from a (inr w) = gives_sent v good m frame b a (error_reply frame code) m (miswritten code w.0 w.1 refl refl)

    -- a code that is not 01 is due to a read or a write
    named : (Function ≡ code → ⊥) → Faults v good code m frame → ReadErrs (seen_by v m frame) code frame ⊎ WriteErrs code m frame
    named n (unknown r w e) = absurd (n e)
    named n (bad_read h) = inl h
    named n (bad_write h) = inr h

    errs_when : (Function ≡ code → ⊥) → SendsError v m frame b (error_number code) ↔ (Answers m frame b × (ReadErrs (seen_by v m frame) code frame ⊎ WriteErrs code m frame))
    errs_when n = (λ h. let t = errs_to (case v m frame b) h in (t.0, named n t.1), λ h. errs_from h.0 h.1)

  -- 01 is due to neither
  no_function : (m : Meter) (frame : List ℕ) → Faults v good Function m frame → (is_read frame ≡ false) × (writes m frame ≡ false)
  no_function m frame (unknown r w e) = (r, w)
  no_function m frame (bad_read h) = absurd ((read_when (seen_by v m frame) frame).never h.1)
  no_function m frame (bad_write h) = absurd (neither ((write_when m frame).only 1 (ap verdict_told h.1)))
    where
      neither : (error_number Function ≡ 2) ⊎ (error_number Function ≡ 3) → ⊥
      neither (inl e) = omega (arith, e)
      neither (inr e) = omega (arith, e)

  module _ (m : Meter) (frame b : List ℕ) where
    pub frames_when : FramesWhen v m frame b
    frames_when = record {
      row_1 = (λ h. row_1 m frame b (refuses m frame b (case v m frame b) 1 h), λ h. ap (λ (o : Outcome). reply_told (said o)) (sym (board_1 v m frame b h)));
      row_2 = (λ h. row_2 m frame b (refuses m frame b (case v m frame b) 2 h), λ h. ap (λ (o : Outcome). reply_told (said o)) (sym (board_2 v m frame b h.0 (lt-ltb _ _ h.1))));
      only = λ n h. only m frame b n (refuses m frame b (case v m frame b) n h);
      silent = (silent_to m frame b (case v m frame b), λ h. silent_from m frame b (case v m frame b) h.0 h.1 h.2);
      error_01 = (
        λ h. let t = errs_to m frame b Function (case v m frame b) h in let f = no_function m frame t.1 in (t.0, f.0, f.1),
        λ h. gives_sent v good m frame b h.0 (error_reply frame Function) m (other h.1 h.2 refl refl),
      );
      error_02 = errs_when m frame b Address (λ e. let z : 1 ≡ 2 = ap error_number e in omega arith);
      error_03 = errs_when m frame b Data (λ e. let z : 1 ≡ 3 = ap error_number e in omega arith);
    }

    pub obeys : Obeys v m frame b
    obeys =
        record {
          reads = λ first count a r s. gives_sent v good m frame b a _ m (shows first count r s refl refl);
          writes = λ a w. gives_sent v good m frame b a _ _ (stores w.0 w.1 refl refl);
          for_all = λ h z w. gives_quiet v good m frame b h z _ _ (stores w.0 w.1 refl refl);
        }

  -- ---- what stays as it was

  module _ (m : Meter) (frame b : List ℕ) where
    gives_kept : (bytes : List ℕ) (n : Meter) → Heeds m frame b → Gives v m frame bytes n → Kept m frame b n
    gives_kept bytes n h (other r w e k) = inl k
    gives_kept bytes n h (misread code r s e k) = inl k
    gives_kept bytes n h (shows first count r s e k) = inl k
    gives_kept bytes n h (miswritten code w j e k) = inl k
    gives_kept bytes n h (stores w j e k) = inr (h, (w, j), k)

  module _ (m : Meter) (frame b : List ℕ) where
    refused : Case v m frame b → (reason : Refusal) → said (board_in v m frame b) ≡ Err reason → ((board_in v m frame b).handled.meter ≡ m) × ((board_in v m frame b).buffer ≡ b)
    refused (out h e) reason r = (ap (λ (o : Outcome). o.handled.meter) e, ap (λ (o : Outcome). o.buffer) e)
    refused (short h k e) reason r = (ap (λ (o : Outcome). o.handled.meter) e, ap (λ (o : Outcome). o.buffer) e)
    refused (unheeded h k q e) reason r = apart (λ z. omega arith) (heard_as_lem e r)
    refused (for_all bytes n h z g e) reason r = apart (λ z. omega arith) (heard_as_lem e r)
    refused (for_one bytes n a g e) reason r = apart (λ z. omega arith) (heard_as_lem e r)

    not_heeded : Case v m frame b → unheard m frame ≡ true → ((board_in v m frame b).handled.meter ≡ m) × ((board_in v m frame b).buffer ≡ b)
    not_heeded (out h e) q = (ap (λ (o : Outcome). o.handled.meter) e, ap (λ (o : Outcome). o.buffer) e)
    not_heeded (short h k e) q = (ap (λ (o : Outcome). o.handled.meter) e, ap (λ (o : Outcome). o.buffer) e)
    not_heeded (unheeded h k s e) q = (ap (λ (o : Outcome). o.handled.meter) e, ap (λ (o : Outcome). o.buffer) e)
    not_heeded (for_all bytes n h z g e) q = absurd (false≢true (sym h.heard ∙ q))
    not_heeded (for_one bytes n a g e) q = absurd (false≢true (sym a.heeds.heard ∙ q))

    silent : Case v m frame b → said (board_in v m frame b) ≡ Ok None → (board_in v m frame b).buffer ≡ b
    silent (out h e) r = apart (λ z. omega arith) (heard_as_lem e r)
    silent (short h k e) r = apart (λ z. omega arith) (heard_as_lem e r)
    silent (unheeded h k q e) r = ap (λ (o : Outcome). o.buffer) e
    silent (for_all bytes n h z g e) r = ap (λ (o : Outcome). o.buffer) e
    silent (for_one bytes n a g e) r = apart (λ z. omega arith) (heard_as_lem e r)

    -- a reply that was sent: who it is for, what it is, and the buffer then
    record Reply-sent (k : ℕ) : Type 0 where
      bytes : List ℕ
      next : Meter
      answers : Answers m frame b
      gives : Gives v m frame bytes next
      long : length bytes ≡ k
      after : (board_in v m frame b).buffer ≡ sets b 0 bytes

    sent : Case v m frame b → (k : ℕ) → said (board_in v m frame b) ≡ Ok (Some k) → Reply-sent k
    sent (out h e) k r = apart (λ z. omega arith) (heard_as_lem e r)
    sent (short h l e) k r = apart (λ z. omega arith) (heard_as_lem e r)
    sent (unheeded h l q e) k r = apart (λ z. omega arith) (heard_as_lem e r)
    sent (for_all bytes n h z g e) k r = apart (λ z. omega arith) (heard_as_lem e r)
    sent (for_one bytes n a g e) k r =
        record { bytes = bytes; next = n; answers = a; gives = g; long = sent_length (heard_as_lem e r); after = ap (λ (o : Outcome). o.buffer) e }

    module _ (k : ℕ) (s : Reply-sent k) where
      within_buffer : length s.bytes ≤ length b
      within_buffer = let room = s.answers.heeds.room in omega (arith, gives_long v good m frame s.bytes s.next s.gives)

      front : take k (board_in v m frame b).buffer ≡ s.bytes
      front = rw (s.after, ← s.long) (sets_taken b s.bytes within_buffer)

      beyond : drop k (board_in v m frame b).buffer ≡ drop k b
      beyond = rw (s.after, ← s.long) (sent_beyond s.bytes b within_buffer)

    -- a reply that was sent, as it stands at the start of the buffer
    pub record Sent-bytes : Type 0 where
      pub bytes : List ℕ
      pub next : Meter
      pub gives : Gives v m frame bytes next
      pub reply : reply_to v m frame b ≡ bytes

    pub sent_reply : (k : ℕ) → said (board_in v m frame b) ≡ Ok (Some k) → Sent-bytes
    sent_reply k r =
        let s = sent (case v m frame b) k r in
        record { bytes = s.bytes; next = s.next; gives = s.gives; reply = ap (λ (x : Result (Option ℕ) Refusal). reply_in x (board_in v m frame b).buffer) r ∙ front k s }

    altered : Case v m frame b → Kept m frame b (board_in v m frame b).handled.meter
    altered (out h e) = inl (ap (λ (o : Outcome). o.handled.meter) e)
    altered (short h k e) = inl (ap (λ (o : Outcome). o.handled.meter) e)
    altered (unheeded h k q e) = inl (ap (λ (o : Outcome). o.handled.meter) e)
    altered (for_all bytes n h z g e) = rw e (gives_kept m frame b bytes n h g)
    altered (for_one bytes n a g e) = rw e (gives_kept m frame b bytes n a.heeds g)

    -- what becomes of the record
    pub kept : Kept m frame b (board_in v m frame b).handled.meter
    kept = altered (case v m frame b)

    alters : (n : Meter) → Kept m frame b n → (n ≡ m) ⊎ Altered m frame b n
    alters n (inl e) = inl e
    alters n (inr s) =
        let setup = ap (λ (x : Meter). x.setup) s.2 in
        inr
        (record {
          heeds = s.0;
          stores = s.1;
          group = setup;
          window = ap (λ (x : Meter). x.average) s.2 ∙ ap (λ (x : Setup). recoded_by (code_of m.setup) (code_of x) m.average) (sym setup);
          given = ap (λ (x : Meter). x.given) s.2;
          counters = ap (λ (x : Meter). x.counters) s.2;
          latest = ap (λ (x : Meter). x.latest) s.2;
        })

    pub untouched : Untouched v m frame b
    untouched =
        record {
          refused = refused (case v m frame b);
          unheard = not_heeded (case v m frame b);
          silent = silent (case v m frame b);
          beyond = λ n h. beyond n (sent (case v m frame b) n h);
          altered = alters _ kept;
          for_all = λ n z h. (sent (case v m frame b) n h).answers.own z;
        }

    -- by the code before and after
    abbrev Opens : Meter → Type 0
    Opens n =
        ((code_of n.setup ≡ code_of m.setup → ⊥) → n.average ≡ opened_of m.average)
        × (code_of n.setup ≡ code_of m.setup → n.average ≡ m.average)
        × ((code_of n.setup ≡ code_of m.setup → ⊥) → Heeds m frame b × Stores m frame × (to_standard frame ≡ true))

    opens : (n : Meter) → (n ≡ m) ⊎ Altered m frame b n → Opens n
    opens n (inl e) =
        let same = ap (λ (x : Meter). code_of x.setup) e in
        (λ changed. absurd (changed same), λ c. ap (λ (x : Meter). x.average) e, λ changed. absurd (changed same))
    opens n (inr a) = (
      λ changed. a.window ∙ ap (λ (t : Bool). cond t m.average (opened_of m.average)) (ne_eqb _ _ (λ e. changed (sym e))),
      λ same. a.window ∙ ap (λ (t : Bool). cond t m.average (opened_of m.average)) (eq-eqb _ _ (sym same)),
      λ changed. (a.heeds, a.stores, standard (to_standard frame) refl changed),
    )
      where
        standard : (t : Bool) → to_standard frame ≡ t → (code_of n.setup ≡ code_of m.setup → ⊥) → to_standard frame ≡ true
        standard true e changed = e
        standard false e changed =
            absurd (changed (ap code_of a.group ∙ ap (λ (t : Bool). code_of (cond t (with_standard m.setup (write_values frame)) (with_output m.setup (write_values frame)))) e))

    pub window_opened : WindowOpened v m frame b
    window_opened =
        let o = opens _ untouched.altered in
        record { opened = λ changed. opened_so m.average _ (o.0 changed); kept = o.1; only = o.2 }

    pub replies_sealed : RepliesSealed v m frame b
    replies_sealed =
        record {
          long = board_short v good m frame b;
          whole = λ n h. let s = sent (case v m frame b) n h in ap intact (front n s) ∙ gives_whole v good m frame s.bytes s.next s.gives;
        }

  -- ---- within limits

  kept_within : (m : Meter) (frame b : List ℕ) (n : Meter) → meter_ok m ≡ true → Kept m frame b n → meter_ok n ≡ true
  kept_within m frame b n h (inl e) = ap meter_ok e ∙ h
  kept_within m frame b n h (inr s) = ap meter_ok (s.2 ∙ sym ((write_when m frame).stored s.1.1)) ∙ write_within m frame h

  -- a frame keeps a record within limits
  pub frame_within : (m : Meter) (frame b : List ℕ) → meter_ok m ≡ true → meter_ok (board_in v m frame b).handled.meter ≡ true
  frame_within m frame b h = kept_within m frame b _ h (kept m frame b)

  -- ---- the buffer is not seen

  module _ (m : Meter) (frame a b : List ℕ) (ra : 256 ≤ length a) (rb : 256 ≤ length b) where
    moved : Heeds m frame a → Heeds m frame b
    moved h = record { within = h.within; room = rb; heard = h.heard }

    own_moved : Answers m frame a → Answers m frame b
    own_moved h = record { heeds = moved h.heeds; own = h.own }

    abbrev handled : {x y : Outcome} → x ≡ y → x.handled ≡ y.handled
    handled e = ap (λ (o : Outcome). o.handled) e

    same : Case v m frame a → (board_in v m frame a).handled ≡ (board_in v m frame b).handled
    same (out h e) = handled e ∙ handled (board_1 v m frame b h)
    same (short h k e) = absurd (omega arith)
    same (unheeded h k q e) = handled e ∙ handled (board_silent v m frame b h (le-ltb _ _ rb) q)
    same (for_all bytes n h z g e) = handled e ∙ sym (handled (gives_quiet v good m frame b (moved h) z bytes n g))
    same (for_one bytes n h g e) = handled e ∙ sym (handled (gives_sent v good m frame b (own_moved h) bytes n g))

    bytes_same : (n : ℕ) → said (board_in v m frame a) ≡ Ok (Some n) → take n (board_in v m frame a).buffer ≡ take n (board_in v m frame b).buffer
    bytes_same n h =
        let s = sent m frame a (case v m frame a) n h in
        let e = gives_sent v good m frame b (own_moved s.answers) s.bytes s.next s.gives in
        let there : Reply-sent m frame b n = record { bytes = s.bytes; next = s.next; answers = own_moved s.answers; gives = s.gives; long = s.long; after = ap (λ (o : Outcome). o.buffer) e } in
        front m frame a n s ∙ sym (front m frame b n there)

  pub buffer_unseen : (m : Meter) (frame b : List ℕ) → BufferUnseen v m frame b
  buffer_unseen m frame b =
      record {
        same = λ a ra rb. same m frame a b ra rb (case v m frame a);
        bytes = λ a n ra rb. bytes_same m frame a b ra rb n;
      }
