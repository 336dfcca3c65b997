-- A tenant's frame is judged over the items for it, and may not write; what these show is all that its replies are made of. The four energies, the
-- sample, the ratios and three of request 1's figures are all that is shown but setup.
use Rattle.std.specs.Prelude.{Ok, Some}
use mathlib.Core.Path.{◌≡◌, refl, sym, ap, ap₂, ◌∙◌}
use mathlib.Core.Logic.{◌⊎◌, inl, inr}
use mathlib.Core.Bool.{Bool, true, false, ◌&&◌, ◌||◌, not, cond, and-false, false≢true}
use mathlib.Core.List.{List, [], ◌∷◌, ◌++◌}
use Prim.Native.Nat.{ℕ, zero, suc, ◌+◌, ◌*◌, ◌/◌, ◌%◌, ◌≤◌, ◌<◌}
use native.Mathlib.Nat.{mod-le, mod-eq_of_lt, mul-le-mul_right, div-lt_iff_lt-mul, pos_of_ne-zero}
use native.Mathlib.Omega.{arith}
use lib.Dec.{T, leb, ltb, eqb}
use lib.ListN.{length, get_or, replicate}
use borrow.Author.Tests.{le-ltb, lt-ltb, le-leb, lt-leb, leb-false, eq-eqb, ne_eqb, not-true}
use Rattle.refusal.specs.declared.ErrorCode.TheVariants.{Function}
use Rattle.crc.specs.Crc.{intact}
use Rattle.crc.proofs.Laws.{intact_is_sealed}
use Rattle.words.specs.declared.Order.{Order}
use Rattle.words.specs.Words.{sent, exchanged}
use Rattle.ratio.specs.Ratios.{t_of}
use Rattle.ratio.specs.Powers.{power_limit}
use Rattle.ratio.specs.Steps.{step_of}
use Rattle.ratio.proofs.Steps.{step_laws}
use Rattle.counts.specs.Counting.{register_of}
use Rattle.counts.proofs.Joins.{join_split}
use Rattle.setup.specs.Ranges.{word_ok, group_ok}
use Rattle.directory.specs.declared.Item.{Item}
use Rattle.directory.specs.Item.{none}
use Rattle.directory.specs.Quantity.{quantity, low, high, wrap, plain, word_identifier, setup2000}
use Rattle.directory.specs.Run.{run_items, span}
use Rattle.directory.specs.Views.{View, passes}
use Rattle.directory.specs.Tenant.{for_tenant, tenant_of, hidden, hides}
use Rattle.directory.proofs.Order.{every_at}
use Rattle.directory.proofs.Views.{passes_tested}
use Rattle.directory.proofs.Tenant.{tenant_passes, tenant_long, tenant_sees, leading_most}
use Rattle.modbus.specs.Frame.{address_of, function_of, silence, is_read, is_write}
use Rattle.modbus.specs.Read.{read_in}
use Rattle.modbus.specs.Replies.{error_bytes, error_reply}
use Rattle.modbus.proofs.Frames.{neither, by_length, by_damage, by_function, by_crc}
use Rattle.modbus.proofs.Judged.{legal_read}
use Rattle.modbus.proofs.Stores.{sets_taken}
use Rattle.average.specs.Windows.{average_ok, coded_minutes}
use Rattle.average.specs.declared.Average.{Average}
use Rattle.meter.specs.declared.energies.Counters.{Counters}
use Rattle.meter.specs.declared.given.Given.{Given}
use Rattle.meter.specs.declared.Meter.{Meter}
use Rattle.meter.specs.Groups.{code_of}
use Rattle.meter.specs.Samples.{sample_ok, in_force}
use Rattle.meter.proofs.Accepts.{made_within}
use Rattle.meter.specs.Meters.{meter_ok, with_setup, with_counters, energy_at}
use Rattle.registers.specs.Shown.{power_values, signed_word_values, sign_values, count_values, low_values, high_values, wrap_values, factor_values, plain_values, shown_of}
use Rattle.registers.specs.Typed.{Typed}
use Rattle.registers.proofs.Widths.{typed_shows, setup_unseen}
use Rattle.collector.proofs.Places.{run_length, run_at}
use Rattle.collector.specs.When.{Asks, value_in}
use Rattle.board.specs.Reads.{items_sent, data_reply, read_reply}
use Rattle.board.specs.Board.{Outcome, silent_of, sent_of, to_second, address_for, view_for, board_in}
use Rattle.board.proofs.Cases.{board_silent, board_obeys, obeys_read}
use Rattle.demands.specs.Frames.{unheard, seen_by, writes, Answers, Altered}
use Rattle.demands.specs.RoundTrip.{reply_in, reply_to}
use Rattle.demands.specs.Polled.{request_for}
use Rattle.demands.specs.Histories.{Event, after_event, after_all}
use Rattle.demands.specs.Demand3.{sooner}
use Rattle.demands.specs.Tenant.{Alike, NamesSecond, SecondNamed, Sound, without_tenant, FromTenant, AtSecond, TenantAsks, TenantAltersNothing, SameReply, SameToTenant, ShowTheSame, AnswersAlike, TenantLearns, CountsAlone, plain_meter, other_meter, UnlikeButAlike}
use Rattle.demands.proofs.Seen.{second_named, second_some, to_second_lem}
use Rattle.demands.proofs.Gives.{Gives, Case, case}
use Rattle.demands.proofs.Gives.Gives.{other, misread, shows, miswritten, stores}
use Rattle.demands.proofs.Gives.Case.{out, short, unheeded, for_all, for_one}
use Rattle.demands.proofs.Replies.{gives_sent, gives_long}
use Rattle.demands.proofs.Frames.{untouched, window_opened, frame_within, sent_reply}
use Rattle.demands.proofs.Polls.{asked_whole, value_read, value_other}
use Rattle.demands.proofs.Polled.{asked_alone}
use Rattle.demands.proofs.Histories.{after_events}
use Rattle.demands.proofs.Demand3.{whole, then, counts}

-- ---- what is shown of two meters that are alike

module _ (m n : Meter) (a : Alike m n) where
  -- with the setup of one, all that is shown is
  pub shown_alike : (q : ℕ) → shown_of m q ≡ shown_of (with_setup n m.setup) q
  unfolding shown_of power_values signed_word_values sign_values count_values low_values high_values wrap_values factor_values plain_values
  shown_alike q =
      λ i.
      shown_of
      (record {
        given = record { address = m.given.address; second = m.given.second; ratios = a.ratios i; order = m.given.order };
        counters = record {
          active = record {
            positive = record { wh = a.energies 0 i; remainder = m.counters.active.positive.remainder };
            negative = record { wh = a.energies 1 i; remainder = m.counters.active.negative.remainder };
          };
          reactive = record {
            positive = record { wh = a.energies 2 i; remainder = m.counters.reactive.positive.remainder };
            negative = record { wh = a.energies 3 i; remainder = m.counters.reactive.negative.remainder };
          };
        };
        latest = a.latest i;
        average = record { window = record { seconds = a.seconds i; sum = m.average.window.sum }; last = a.average i; peak = a.peak i };
        setup = m.setup;
      })
      q

  -- and of all but setup words, whatever the setup
  same_shown : (q : ℕ) → q < quantity plain (setup2000 0) → shown_of m q ≡ shown_of n q
  same_shown q h = shown_alike q ∙ (setup_unseen n m.setup).others q h

-- what is not hidden is no setup word
open_quantity : (q : ℕ) → not (hidden q) ≡ true → q < quantity plain (setup2000 0)
open_quantity q h =
    let a = neither (leb (quantity plain (setup2000 0)) q || eqb q (quantity plain word_identifier) || eqb (q / 64) wrap || eqb (q / 64) low) (eqb (q / 64) high) (not-true _ h) in
    let b = neither (leb (quantity plain (setup2000 0)) q || eqb q (quantity plain word_identifier) || eqb (q / 64) wrap) (eqb (q / 64) low) a.0 in
    let c = neither (leb (quantity plain (setup2000 0)) q || eqb q (quantity plain word_identifier)) (eqb (q / 64) wrap) b.0 in
    leb-false _ _ (neither (leb (quantity plain (setup2000 0)) q) (eqb q (quantity plain word_identifier)) c.0).0

-- ---- the words of items that show the same

items_same : (o : Order) (f g : ℕ → ℕ) (its : List Item) → ((i : ℕ) → i < length its → f (get_or its i none).quantity ≡ g (get_or its i none).quantity) → items_sent o f its ≡ items_sent o g its
unfolding items_sent
items_same o f g [] same = refl
items_same o f g (it ∷ its) same =
    let first = same 0 (omega arith) in
    let rest = items_same o f g its (λ i l. same (suc i) (omega (arith, l))) in
    λ i. sent o it.words (first i) ++ rest i

-- ---- a frame to the second address, of which two meters have the same

module _ (m : Meter) (frame : List ℕ) (t : to_second m.given frame ≡ true) where
  -- silence goes by that address
  second_silence : unheard m frame ≡ silence m.given.second frame
  second_silence = ap (λ (b : Bool). silence (address_for m.given b) frame) t

  second_seen : (v : View) → seen_by v m frame ≡ tenant_of v
  second_seen v = ap (view_for v) t

  -- and it may not write
  second_reads : writes m frame ≡ false
  second_reads = ap (λ (b : Bool). not b && is_write frame) t

  named_some : address_of frame ≡ 0 → ⊥
  named_some z = second_some m.given frame t (sym (second_named m.given frame t) ∙ z)

named_second : (m : Meter) (frame : List ℕ) → NamesSecond m frame → to_second m.given frame ≡ true
named_second m frame h = to_second_lem m.given frame h.some h.named

pub second_is_named : (m : Meter) (frame : List ℕ) → SecondNamed m frame
second_is_named m frame =
    record { means = (λ t. record { some = second_some m.given frame t; named = second_named m.given frame t }, named_second m frame) }

also_second : (m n : Meter) (frame : List ℕ) → m.given.second ≡ n.given.second → to_second m.given frame ≡ true → to_second n.given frame ≡ true
also_second m n frame e t =
    to_second_lem n.given frame (λ z. second_some m.given frame t (e ∙ z)) (second_named m.given frame t ∙ e)

module _ (v : View) (good : T (passes v)) where
  -- ---- two meters of one order that show a tenant the same

  module _ (m n : Meter) (eo : m.given.order ≡ n.given.order) (same : ShowTheSame v m n) (frame : List ℕ) (t : to_second m.given frame ≡ true) (u : to_second n.given frame ≡ true) where
    both_see : seen_by v m frame ≡ seen_by v n frame
    both_see = second_seen m frame t v ∙ sym (second_seen n frame u v)

    run_same : (first count : ℕ) → read_in (seen_by v m frame) frame ≡ Ok (span first count) → items_sent m.given.order (shown_of m) (run_items (seen_by v m frame).seen first count) ≡ items_sent n.given.order (shown_of n) (run_items (seen_by v n frame).seen first count)
    run_same first count s =
        let w = tenant_of v in
        let read : read_in w frame ≡ Ok (span first count) = ap (λ (x : View). read_in x frame) (sym (second_seen m frame t v)) ∙ s in
        let inside = (legal_read w (tenant_passes v good) read).inside in
        let long = run_length w.seen first count inside in
        ap (λ (x : View). items_sent m.given.order (shown_of m) (run_items x.seen first count)) (second_seen m frame t v)
        ∙ items_same m.given.order (shown_of m) (shown_of n) (run_items w.seen first count) (λ i l. at first count inside i (omega (arith, l, long)))
        ∙ ap₂ (λ (o : Order) (x : View). items_sent o (shown_of n) (run_items x.seen first count)) eo (sym (second_seen n frame u v))
      where
        at : (first count : ℕ) → first + count ≤ length (tenant_of v).seen → (i : ℕ) → i < count → shown_of m (get_or (run_items (tenant_of v).seen first count) i none).quantity ≡ shown_of n (get_or (run_items (tenant_of v).seen first count) i none).quantity
        at first count inside i l =
            let here = run_at (tenant_of v).seen first count i l in
            ap (λ (it : Item). shown_of m it.quantity) here
            ∙ same (first + i) (omega (arith, inside, l))
            ∙ ap (λ (it : Item). shown_of n it.quantity) (sym here)

    no_write : {A : Type 0} → writes m frame ≡ true → A
    no_write w = absurd (false≢true (sym (second_reads m frame t) ∙ w))

    -- the same bytes are given, and neither record is another after
    gives_same : (bytes : List ℕ) (x : Meter) → Gives v m frame bytes x → Gives v n frame bytes n
    gives_same bytes x (other r w e k) = other r (second_reads n frame u) e refl
    gives_same bytes x (misread code r s e k) = misread code r (ap (λ (y : View). read_in y frame) (sym both_see) ∙ s) e refl
    gives_same bytes x (shows first count r s e k) =
        shows first count r (ap (λ (y : View). read_in y frame) (sym both_see) ∙ s) (e ∙ ap (data_reply frame) (run_same first count s)) refl
    gives_same bytes x (miswritten code w j e k) = no_write w
    gives_same bytes x (stores w j e k) = no_write w

    module _ (a b : List ℕ) (hm : meter_ok m ≡ true) (hn : meter_ok n ≡ true) (e2 : m.given.second ≡ n.given.second) (ra : 256 ≤ length a) (rb : 256 ≤ length b) where
      quiet_same : unheard n frame ≡ unheard m frame
      quiet_same = second_silence n frame u ∙ ap (λ (x : ℕ). silence x frame) (sym e2) ∙ sym (second_silence m frame t)

      same_reply : Case v m frame a → SameReply v m n frame a b
      same_reply (out h e) = absurd (false≢true (sym h ∙ hm))
      same_reply (short h k e) = absurd (omega (arith, k, ra))
      same_reply (unheeded h k q e) =
          let there = board_silent v n frame b hn (le-ltb _ _ rb) (quiet_same ∙ q) in
          record {
            answer = ap (λ (o : Outcome). o.handled.reply) (e) ∙ ap (λ (o : Outcome). o.handled.reply) there;
            bytes = ap (λ (o : Outcome). reply_in o.handled.reply o.buffer) e ∙ ap (λ (o : Outcome). reply_in o.handled.reply o.buffer) there;
          }
      same_reply (for_all bytes x h z g e) = absurd (named_some m frame t z)
      same_reply (for_one bytes x h g e) =
          let answers : Answers n frame b = record { heeds = record { within = hn; room = rb; heard = quiet_same ∙ h.heeds.heard }; own = h.own } in
          let there = gives_sent v good n frame b answers bytes n (gives_same bytes x g) in
          let long = gives_long v good m frame bytes x g in
          record {
            answer = ap (λ (o : Outcome). o.handled.reply) e ∙ sym (ap (λ (o : Outcome). o.handled.reply) there);
            bytes =
                ap (λ (o : Outcome). reply_in o.handled.reply o.buffer) e ∙ sets_taken a bytes (omega (arith, long, ra))
                ∙ sym (ap (λ (o : Outcome). reply_in o.handled.reply o.buffer) there ∙ sets_taken b bytes (omega (arith, long, rb)));
          }

  no_more : (m n : Meter) → meter_ok m ≡ true → meter_ok n ≡ true → m.given.second ≡ n.given.second → m.given.order ≡ n.given.order → ShowTheSame v m n → SameToTenant v m n
  no_more m n hm hn e2 eo same frame a b named ra rb =
      let t = named_second m frame named in
      same_reply m n eo same frame t (also_second m n frame e2 t) a b hm hn e2 ra rb (case v m frame a)

  alike : T (hides v) → (m n : Meter) → meter_ok m ≡ true → meter_ok n ≡ true → Alike m n → SameToTenant v m n
  alike h m n hm hn a =
      no_more m n hm hn a.second a.order (λ i l. same_shown m n a _ (open_quantity _ (every_at (λ (it : Item). not (hidden it.quantity)) (tenant_of v).seen h i l)))

  -- a record that a frame leaves with the same code is alike
  left_alike : (m : Meter) (frame b : List ℕ) → code_of (board_in v m frame b).handled.meter.setup ≡ code_of m.setup → Alike m (board_in v m frame b).handled.meter
  left_alike m frame b same =
      let n = (board_in v m frame b).handled.meter in
      let figures : m.average ≡ n.average = sym ((window_opened v good m frame b).kept same) in
      let rest = by n (untouched v good m frame b).altered in
      record {
        second = ap (λ (g : Given). g.second) rest.0;
        ratios = ap (λ (g : Given). g.ratios) rest.0;
        order = ap (λ (g : Given). g.order) rest.0;
        latest = rest.2;
        energies = λ e. counted n e rest.1;
        average = ap (λ (a : Average). a.last) figures;
        peak = ap (λ (a : Average). a.peak) figures;
        seconds = ap (λ (a : Average). a.window.seconds) figures;
      }
    where
      by : (n : Meter) → (n ≡ m) ⊎ Altered m frame b n → (m.given ≡ n.given) × (m.counters ≡ n.counters) × (m.latest ≡ n.latest)
      by n (inl e) = (ap (λ (x : Meter). x.given) (sym e), ap (λ (x : Meter). x.counters) (sym e), ap (λ (x : Meter). x.latest) (sym e))
      by n (inr a) = (sym a.given, sym a.counters, sym a.latest)

      counted : (n : Meter) (e : ℕ) → m.counters ≡ n.counters → (energy_at e m).wh ≡ (energy_at e n).wh
      counted n e same = ap (λ (c : Counters). (energy_at e (with_counters n c)).wh) same

  pub answers_alike : T (hides v) → AnswersAlike v
  answers_alike h =
      let within = (after_events v good).within in
      record {
        alike = alike h;
        always = λ g k xs ys made-g made-k a. alike h _ _ (within _ xs (made_within g made-g)) (within _ ys (made_within k made-k)) a;
        frame = λ m frame b hm same. alike h m _ hm (frame_within v good m frame b hm) (left_alike m frame b same);
      }

  -- ---- what an item shows stands in the reply to its read

  module _ (address i : ℕ) (some : address ≡ 0 → ⊥) (l : i < length (tenant_of v).seen) where
    abbrev b : List ℕ
    b = replicate 256 0

    room : 256 ≤ length b
    room = omega arith

    abbrev it : Item
    it = get_or (tenant_of v).seen i none

    abbrev request : List ℕ
    request = request_for address it

    -- a read of the items for a tenant, and so of the whole directory
    abbrev tenant_read : Asks (tenant_of v) request
    tenant_read = asked_alone (tenant_of v) (tenant_passes v good) address i (pos_of_ne-zero some) l

    abbrev asks : Asks v request
    asks = asked_whole v good true tenant_read

    -- where it stands in the whole directory
    here : get_or v.seen (i + 0) none ≡ it
    here = let place : i + 0 ≡ i = omega arith in ap (λ (k : ℕ). get_or v.seen k none) place ∙ sym ((tenant_sees v good).same i l)

    known : i + 0 < length v.seen
    known = omega (arith, l, tenant_long v, leading_most for_tenant v.seen)

    -- of a meter with this second address
    module _ (x : Meter) (ok : meter_ok x ≡ true) (typed : Typed x) (e : address ≡ x.given.second) where
      second : to_second x.given request ≡ true
      second = to_second_lem x.given request (λ z. some (e ∙ z)) e

      seen : read_in (seen_by v x request) request ≡ Ok (span i 1)
      seen = ap (λ (w : View). read_in w request) (second_seen x request second v) ∙ tenant_read.items

      stands : value_in v x.given.order asks (reply_to v x request b) 0 ≡ shown_of x it.quantity
      stands =
          value_read v good x request b (record { within = ok; room = room; named = inr second }) asks seen 0 (omega arith) (typed_shows v.seen (passes_tested v good) (i + 0) known x typed ok)
          ∙ ap (λ (y : Item). shown_of x y.quantity) here

      stands_other : it.words ≡ 2 → (o : Order) → (x.given.order ≡ o → ⊥) → value_in v o asks (reply_to v x request b) 0 ≡ exchanged (shown_of x it.quantity)
      stands_other two o d =
          value_other v good x request b (record { within = ok; room = room; named = inr second }) asks seen 0 (omega arith) (typed_shows v.seen (passes_tested v good) (i + 0) known x typed ok) (ap (λ (y : Item). y.words) here ∙ two) o d
          ∙ ap (λ (y : Item). exchanged (shown_of x y.quantity)) here

  -- what the one shows stands in the reply of the other
  in_reply : (m n : Meter) → meter_ok m ≡ true → Typed m → (some : m.given.second ≡ 0 → ⊥) → SameToTenant v m n → (i : ℕ) (l : i < length (tenant_of v).seen) → shown_of m (get_or (tenant_of v).seen i none).quantity ≡ value_in v m.given.order (asks m.given.second i some l) (reply_to v n (request m.given.second i some l) (replicate 256 0)) 0
  in_reply m n hm tm some same i l =
      let address = m.given.second in
      sym (stands address i some l m hm tm refl)
      ∙ ap (λ (reply : List ℕ). value_in v m.given.order (asks address i some l) reply 0) (same (request address i some l) (b address i some l) (b address i some l) (record { some = some; named = refl }) (room address i some l) (room address i some l)).bytes

  no_less : (m n : Meter) → meter_ok m ≡ true → meter_ok n ≡ true → Typed m → Typed n → m.given.second ≡ n.given.second → m.given.order ≡ n.given.order → (m.given.second ≡ 0 → ⊥) → SameToTenant v m n → ShowTheSame v m n
  no_less m n hm hn tm tn e2 eo some same i l =
      in_reply m n hm tm some same i l
      ∙ ap (λ (o : Order). value_in v o (asks m.given.second i some l) (reply_to v n (request m.given.second i some l) (replicate 256 0)) 0) eo
      ∙ stands m.given.second i some l n hn tn e2

  other_order : (m n : Meter) → meter_ok m ≡ true → meter_ok n ≡ true → Typed m → Typed n → m.given.second ≡ n.given.second → (m.given.order ≡ n.given.order → ⊥) → (m.given.second ≡ 0 → ⊥) → SameToTenant v m n → (i : ℕ) → i < length (tenant_of v).seen → (get_or (tenant_of v).seen i none).words ≡ 2 → shown_of m (get_or (tenant_of v).seen i none).quantity ≡ exchanged (shown_of n (get_or (tenant_of v).seen i none).quantity)
  other_order m n hm hn tm tn e2 d some same i l two =
      in_reply m n hm tm some same i l ∙ stands_other m.given.second i some l n hn tn e2 two m.given.order (λ e. d (sym e))

  pub tenant_learns : TenantLearns v
  tenant_learns = record { no_more = no_more; no_less = no_less; other_order = other_order }

  -- ---- what is done with its frames

  module _ (m : Meter) (frame b : List ℕ) (from : FromTenant v m frame b) where
    t : to_second m.given frame ≡ true
    t = named_second m frame from.second

    kept_silent : silence m.given.second frame ≡ true → board_in v m frame b ≡ silent_of m b
    kept_silent q = sym (board_silent v m frame b from.within (le-ltb _ _ from.room) (second_silence m frame t ∙ q))

    damaged : (length frame < 4) ⊎ (256 < length frame) ⊎ (intact frame ≡ false) → board_in v m frame b ≡ silent_of m b
    damaged (inl h) = kept_silent (sym (by_length m.given.second frame (rw (lt-ltb (length frame) 4 h) refl)))
    damaged (inr (inl h)) = kept_silent (sym (by_length m.given.second frame (rw (le-ltb (length frame) 4 (omega (arith, h)), lt-ltb 256 (length frame) h) refl)))
    damaged (inr (inr h)) = kept_silent (sym (by_damage m.given.second frame h))

    too_high : 0x80 ≤ function_of frame → board_in v m frame b ≡ silent_of m b
    too_high h = kept_silent (sym (by_function m.given.second frame (le-leb _ _ h)))

    -- a sound frame is heard
    heard : Sound frame → function_of frame < 0x80 → silence m.given.second frame ≡ false
    heard s f =
        let fits : (ltb (length frame) 4 || ltb 256 (length frame)) ≡ false = rw (le-ltb (length frame) 4 s.least, le-ltb 256 (length frame) s.most) refl in
        let ours : (not (eqb (address_of frame) 0) && not (eqb (address_of frame) m.given.second)) ≡ false = rw (eq-eqb _ _ (second_named m.given frame t), and-false (not (eqb (address_of frame) 0))) refl in
        sym (by_crc m.given.second frame fits ours (lt-leb _ _ f)) ∙ ap not s.crc

    heeds : Sound frame → function_of frame < 0x80 → Answers m frame b
    heeds s f = record { heeds = record { within = from.within; room = from.room; heard = second_silence m frame t ∙ heard s f }; own = named_some m frame t }

    unknown : Sound frame → function_of frame < 0x80 → (function_of frame ≡ 0x03 → ⊥) → board_in v m frame b ≡ sent_of (error_bytes frame 1) m b
    unknown s f n = gives_sent v good m frame b (heeds s f) (error_reply frame Function) m (other (ne_eqb _ _ n) (second_reads m frame t) refl refl)

    reads : Sound frame → function_of frame ≡ 0x03 → board_in v m frame b ≡ sent_of (read_reply (tenant_of v) m.given.order (shown_of m) frame) m b
    reads s f =
        let a = heeds s (omega (arith, f)) in
        let read : is_read frame ≡ true = eq-eqb _ _ f in
        sym (board_obeys v m frame b from.within (le-ltb _ _ from.room) a.heeds.heard)
        ∙ sym (obeys_read (view_for v (to_second m.given frame)) (not (to_second m.given frame)) m frame b read)
        ∙ rw (ne_eqb (address_of frame) 0 a.own) (ap (λ (w : View). sent_of (read_reply w m.given.order (shown_of m) frame) m b) (second_seen m frame t v))

    -- a reply begins with the address of the frame
    begins : (bytes : List ℕ) (x : Meter) → Gives v m frame bytes x → address_of bytes ≡ address_of frame
    begins bytes x (other r w e k) = ap address_of e
    begins bytes x (misread code r s e k) = ap address_of e
    begins bytes x (shows first count r s e k) = ap address_of e
    begins bytes x (miswritten code w j e k) = absurd (false≢true (sym (second_reads m frame t) ∙ w))
    begins bytes x (stores w j e k) = absurd (false≢true (sym (second_reads m frame t) ∙ w))

    address : (n : ℕ) → (board_in v m frame b).handled.reply ≡ Ok (Some n) → address_of (reply_to v m frame b) ≡ m.given.second
    address n e =
        let s = sent_reply v good m frame b n e in
        ap address_of s.reply ∙ begins s.bytes s.next s.gives ∙ second_named m.given frame t

  pub at_second : (m : Meter) (frame b : List ℕ) → AtSecond v m frame b
  at_second m frame b = record { damaged = damaged m frame b; high = too_high m frame b; unknown = unknown m frame b; reads = reads m frame b; address = address m frame b }

  pub tenant_asks : TenantAsks v
  unfolding meter_ok sample_ok in_force power_limit average_ok coded_minutes group_ok word_ok
  tenant_asks = record {
    from = λ f. record { within = refl; room = omega arith; second = record { some = λ z. omega (arith, z); named = refl } };
    sound = λ f. record { least = omega arith; most = omega arith; crc = intact_is_sealed.passes (9 ∷ f ∷ []) };
  }

  -- ---- it alters nothing

  tenant_kept : (m : Meter) (frame b : List ℕ) → to_second m.given frame ≡ true → (board_in v m frame b).handled.meter ≡ m
  tenant_kept m frame b t = by (untouched v good m frame b).altered
    where
      by : ((board_in v m frame b).handled.meter ≡ m) ⊎ Altered m frame b (board_in v m frame b).handled.meter → (board_in v m frame b).handled.meter ≡ m
      by (inl e) = e
      by (inr a) = absurd (false≢true (sym (second_reads m frame t) ∙ a.stores.0))

  -- what a meter was given stays, event by event
  given_stays : (m : Meter) (x : Event) → (after_event v m x).given ≡ m.given
  unfolding after_all
  given_stays m x = (after_events v good).given m (x ∷ [])

  left_out : (g : Given) (m : Meter) (xs : List Event) → m.given ≡ g → after_all v m xs ≡ after_all v m (without_tenant g xs)
  unfolding after_all without_tenant
  left_out g m [] e = refl
  left_out g m (Event.sample s ∷ xs) e = left_out g (after_event v m (Event.sample s)) xs (given_stays m (Event.sample s) ∙ e)
  left_out g m (Event.frame f b ∷ xs) e =
      by (to_second g f) refl (left_out g m xs e) (left_out g (after_event v m (Event.frame f b)) xs (given_stays m (Event.frame f b) ∙ e))
    where
      by : (t : Bool) → to_second g f ≡ t → after_all v m xs ≡ after_all v m (without_tenant g xs) → after_all v (after_event v m (Event.frame f b)) xs ≡ after_all v (after_event v m (Event.frame f b)) (without_tenant g xs) → after_all v m (Event.frame f b ∷ xs) ≡ after_all v m (cond t (without_tenant g xs) (Event.frame f b ∷ without_tenant g xs))
      by true h skipped kept = ap (λ (x : Meter). after_all v x xs) (tenant_kept m f b (ap (λ (y : Given). to_second y f) e ∙ h)) ∙ skipped
      by false h skipped kept = kept

  pub alters_nothing : TenantAltersNothing v
  alters_nothing = record { frame = λ m frame b named. tenant_kept m frame b (named_second m frame named); events = λ m xs. left_out m.given m xs refl }

  -- ---- a register alone

  pub counts_alone : CountsAlone v
  counts_alone h e four p =
      let t = t_of h.given.ratios in
      let wh = whole v good h e four in
      let step = step_of t in
      let some : 0 < step = omega (arith, step_laws.least t) in
      let steps = wh.0 / step in
      let fewer : steps % 100000000 * step ≤ steps * step = mul-le-mul_right step (mod-le steps 100000000) in
      record {
        count = register_of t wh;
        reads = counts v good h e four (sooner v h) (then v good h e four) p;
        above = omega (arith, fewer, join_split.above t wh);
        below = λ few.
            let all : wh.0 < 100000000 * step = omega (arith, few) in
            let one-turn : steps % 100000000 ≡ steps = mod-eq_of_lt ((div-lt_iff_lt-mul some).1 all) in
            let same : steps % 100000000 * step ≡ steps * step = ap (λ (n : ℕ). n * step) one-turn in
            omega (arith, same, join_split.below t wh);
      }

-- ---- two meters that are alike, and unlike

pub unlike_but_alike : UnlikeButAlike
unfolding meter_ok sample_ok in_force power_limit average_ok coded_minutes group_ok word_ok
unlike_but_alike = record {
  plain = refl;
  other = refl;
  alike = record { second = refl; ratios = refl; order = refl; latest = refl; energies = four_alike; average = refl; peak = refl; seconds = refl };
}
  where
    four_alike : (e : ℕ) → (energy_at e plain_meter).wh ≡ (energy_at e other_meter).wh
    four_alike zero = refl
    four_alike (suc zero) = refl
    four_alike (suc (suc zero)) = refl
    four_alike (suc (suc (suc zero))) = refl
    four_alike (suc (suc (suc (suc e)))) = refl
