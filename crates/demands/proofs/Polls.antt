-- A reply to a read is a data reply: as long as it says, with its CRC, and with each item's words where the collector looks for them.
use Rattle.std.specs.Prelude.{Err, Ok}
use mathlib.Core.Path.{◌≡◌, refl, sym, ap, subst, ◌∙◌}
use mathlib.Core.Logic.{◌↔◌, ◌⊎◌, inl, inr}
use mathlib.Core.Bool.{Bool, true, false, not, false≢true, and-eq-true_iff}
use mathlib.Core.List.{List, [], ◌∷◌, ◌++◌, append_assoc}
use Prim.Native.Nat.{ℕ, zero, suc, ◌+◌, ◌*◌, ◌^◌, ◌≤◌, ◌<◌}
use native.Mathlib.Nat.{lt_of_lt_of_le, pow-le-pow_right}
use native.Mathlib.Omega.{arith}
use lib.Dec.{T}
use lib.ListN.{length, get_or, take, drop}
use borrow.Author.Tests.{eqb-true, eq-eqb, le-ltb}
use Rattle.refusal.specs.declared.ErrorCode.{ErrorCode}
use Rattle.refusal.specs.declared.ErrorCode.TheVariants.{Function, Address}
use Rattle.refusal.specs.Numbers.{refused_by, error_by}
use Rattle.crc.specs.Crc.{crc_of, on_line}
use Rattle.crc.proofs.Laws.{length_sealed, intact_is_sealed}
use Rattle.words.specs.declared.Order.{Order}
use Rattle.words.specs.Words.{sent, value_at, exchanged}
use Rattle.words.proofs.Laws.{read_back_lem, orders}
use Rattle.ratio.specs.Ratios.{ratios_ok}
use Rattle.directory.specs.declared.Item.{Item}
use Rattle.directory.specs.Item.{none}
use Rattle.directory.specs.Run.{run_items, span}
use Rattle.directory.specs.Views.{View, passes}
use Rattle.directory.specs.Tenant.{tenant_of}
use Rattle.directory.proofs.Order.{ruled_narrow}
use Rattle.directory.proofs.Rules.{directory_rules}
use Rattle.directory.proofs.Shapes.{shape}
use Rattle.directory.proofs.Views.{passes_tested, passes_ruled, passes_room}
use Rattle.modbus.specs.Frame.{address_of, function_of, word_number, is_read, is_write, silence}
use Rattle.modbus.specs.Replies.{error_bytes, error_reply, echo_reply}
use Rattle.modbus.proofs.Frames.{shaped_length}
use Rattle.modbus.proofs.Stores.{sets_taken}
use Rattle.modbus.specs.Read.{read_in}
use Rattle.modbus.proofs.Judged.{legal_read, tenant_reads}
use Rattle.meter.specs.declared.Meter.{Meter}
use Rattle.meter.specs.declared.given.Given.{Given}
use Rattle.meter.specs.Meters.{meter_t, meter_ok}
use Rattle.meter.proofs.Parts.{own_ratios, other_address}
use Rattle.store.proofs.Verdicts.{write_when}
use Rattle.registers.specs.Shown.{shown_of}
use Rattle.registers.specs.Typed.{Typed}
use Rattle.registers.proofs.Widths.{Shows, in_room, typed_shows}
use Rattle.reading.specs.declared.Answer.TheVariants.{Reading}
use Rattle.reading.specs.Told.{told}
use Rattle.reading.specs.Readings.{reading_of}
use Rattle.board.specs.Reads.{items_sent, data_reply}
use Rattle.board.specs.Board.{Outcome, sent_of, to_second, address_for, view_for}
use Rattle.demands.specs.Frames.{seen_by, Answers}
use Rattle.board.proofs.Sent.{length_items}
use Rattle.demands.proofs.Gives.{Gives, Case, case}
use Rattle.demands.proofs.Gives.Gives.{other, misread, shows, miswritten, stores}
use Rattle.demands.proofs.Gives.Case.{out, short, unheeded, for_all, for_one}
use Rattle.demands.proofs.Replies.{gives_long, gives_whole, echo_function}
use Rattle.demands.proofs.Frames.{obeys, frames_when}
use Rattle.demands.proofs.Seen.{to_own, named_address, whole}
use Rattle.collector.specs.declared.Nameplate.{Nameplate}
use Rattle.replies.specs.Judged.{is_read_error}
use Rattle.collector.specs.Collector.{place_of, collector_in}
use Rattle.collector.specs.When.{Asks, Asked, Fits, item_at, value_in, ReplyGives}
use Rattle.replies.proofs.Requests.{Hears, hears, heard_so}
use Rattle.collector.proofs.Places.{run_length, run_at}
use Rattle.collector.proofs.When.{to_reading, replies_when}
use Rattle.demands.specs.Meaning.{meaning_of}
use Rattle.demands.proofs.Shown.{item_read}
use Rattle.demands.specs.RoundTrip.{reply_in, Names, plate_of, reply_to, Meets, WithData, RoundTrip}
use Rattle.demands.specs.Demand3.{Poll, collected}
use Rattle.demands.specs.Orders.{named, read_by}

-- ---- the words of an item, among those of a run

split : (o : Order) (shown : ℕ → ℕ) (its : List Item) (i : ℕ) → i < length its → items_sent o shown its ≡ items_sent o shown (take i its) ++ (sent o (get_or its i none).words (shown (get_or its i none).quantity) ++ items_sent o shown (drop (suc i) its))
unfolding items_sent
split o shown [] i l = absurd (omega (arith, l))
split o shown (it ∷ its) zero l = refl
split o shown (it ∷ its) (suc i) l =
    ap (λ (x : List ℕ). sent o it.words (shown it.quantity) ++ x) (split o shown its i (omega (arith, l))) ∙ sym (append_assoc (sent o it.words (shown it.quantity)) _ _)

-- what an L was sent as, read in the other order
pub read_other : (o p : Order) (n x : ℕ) → n ≡ 2 → x < 65536 ^ n → (p ≡ o → ⊥) → (before after : List ℕ) → value_at o n (before ++ sent p n x ++ after) (length before) ≡ exchanged x
read_other o p n x two fits d before after =
    (λ i. value_at o (two i) (before ++ sent p (two i) x ++ after) (length before))
    ∙ orders.other p o x before after d (subst (λ (k : ℕ). x < 65536 ^ k) two fits)

-- a word is two bytes
two_bytes : (n : ℕ) → n ≤ 2 → 256 ^ (2 * n) ≡ 65536 ^ n
two_bytes zero h = refl
two_bytes (suc zero) h = refl
two_bytes (suc (suc zero)) h = refl
two_bytes (suc (suc (suc n))) h = absurd (omega (arith, h))

-- ---- what has another function than data

no_read : {A : Type 0} → is_read [] ≡ true → A
no_read e = absurd (false≢true e)

no_error : {A : Type 0} (frame bytes : List ℕ) (code : ErrorCode) → bytes ≡ error_reply frame code → is_read bytes ≡ true → A
no_error frame bytes code e h =
    let f : function_of frame + 0x80 ≡ 0x03 = eqb-true (function_of frame + 0x80) 0x03 (sym (ap is_read e) ∙ h) in
    let y : ⊥ = omega (arith, f) in absurd y

no_echo : {A : Type 0} (frame bytes : List ℕ) → 6 ≤ length frame → is_write frame ≡ true → bytes ≡ echo_reply frame → is_read bytes ≡ true → A
no_echo frame bytes long w e h =
    let second : function_of (echo_reply frame) ≡ function_of frame = echo_function frame long in
    let f : function_of frame ≡ 0x03 = sym second ∙ eqb-true (function_of (echo_reply frame)) 0x03 (sym (ap is_read e) ∙ h) in
    let y : ⊥ = omega (arith, f, eqb-true (function_of frame) 0x10 w) in absurd y

-- a request is judged by the address that it names
judged : (m : Meter) (request b : List ℕ) → Meets m request b → address_for m.given (to_second m.given request) ≡ address_of request
judged m request b meets = named_address m.given request (other_address m meets.within) meets.named

module _ (v : View) (good : T (passes v)) where
  -- what is asked of a part is asked of the whole
  abbrev pub asked_whole : (tenant : Bool) {request : List ℕ} → Asks (view_for v tenant) request → Asks v request
  asked_whole tenant {request} a = record { hears = a.hears; first = a.first; count = a.count; items = (whole v good tenant request a.first a.count a.items).items }

  -- ---- the reply

  module _ (m : Meter) (request b : List ℕ) (meets : Meets m request b) (a : Asks v request) (seen : read_in (seen_by v m request) request ≡ Ok (span a.first a.count)) where
    abbrev its : List Item
    its = run_items v.seen a.first a.count

    -- the order of the meter
    abbrev order : Order
    order = m.given.order

    abbrev reply : List ℕ
    reply = data_reply request (items_sent order (shown_of m) its)

    h : Hears request
    h = hears request a.hears

    answers : Answers m request b
    answers = record { heeds = record { within = meets.within; room = meets.room; heard = ap (λ (x : ℕ). silence x request) (judged m request b meets) ∙ h.loud }; own = h.own }

    -- the items that the meter sends are those of the whole directory
    part : run_items (seen_by v m request).seen a.first a.count ≡ its
    part = (whole v good (to_second m.given request) request a.first a.count seen).run

    gives : Gives v m request reply m
    gives = shows a.first a.count h.read seen (ap (λ (l : List Item). data_reply request (items_sent order (shown_of m) l)) (sym part)) refl

    pub replies : reply_to v m request b ≡ reply
    replies =
        let o = (obeys v good m request b).reads a.first a.count answers h.read seen ∙ ap (λ (l : List Item). sent_of (data_reply request (items_sent order (shown_of m) l)) m b) part in
        ap (λ (x : Outcome). reply_in x.handled.reply x.buffer) o ∙ sets_taken b reply (omega (arith, gives_long v good m request reply m gives, meets.room))

    -- ---- as the collector judges it

    long : length reply ≡ 5 + 2 * word_number request
    long =
        let bs = address_of request ∷ function_of request ∷ 2 * word_number request ∷ items_sent order (shown_of m) its in
        length_sealed bs ∙ omega (arith, length_items order (shown_of m) its, (legal_read v good a.items).sends)

    ratios : ratios_ok m.given.ratios ≡ true
    ratios = own_ratios m meets.within

    -- the function of the reply is the request's
    function : function_of reply ≡ 0x03
    function = eqb-true (function_of request) 0x03 h.read

    pub fits : Fits v request reply m.given.ratios
    fits =
        let other : is_read_error reply ≡ false = rw function refl in
        let same : is_read reply ≡ true = rw function refl in
        record {
          sound = record {
            asked = record { ratios = ratios; asks = a };
            long = simp (le-ltb (length reply) 5 (omega (arith, long)), le-ltb 256 (length reply) (omega (arith, long, (legal_read v good a.items).most, passes_room v good)));
            whole = gives_whole v good m request reply m gives;
            own = simp (eq-eqb (address_of request) (address_of request) refl, same);
          };
          words = other;
          fits = simp (eq-eqb (2 * word_number request) (2 * word_number request) refl, eq-eqb (length reply) (5 + 2 * word_number request) long);
        }

    -- ---- item by item

    module _ (index : ℕ) (below : index < a.count) where
      abbrev it : Item
      it = item_at v a index

      inside : a.first + a.count ≤ length v.seen
      inside = (legal_read v good a.items).inside

      known : a.first + index < length v.seen
      known = omega (arith, inside, below)

      fitting_words : Shows m it.quantity → shown_of m it.quantity < 65536 ^ it.words
      fitting_words fit =
          let room = (shape it ((directory_rules v.seen (passes_tested v good)).shapes (a.first + index) known)).roomy in
          let narrow = ruled_narrow v.seen (passes_ruled v good) (a.first + index) known in
          rw (sym (two_bytes it.words narrow.few)) (lt_of_lt_of_le (in_room v.seen (passes_tested v good) (a.first + index) known fit.fits) (pow-le-pow_right (omega arith) room))

      -- ---- its words, where they stand

      -- what is read where they stand, whatever stands before and behind them
      value_as : (o : Order) (x : ℕ) → ((before after : List ℕ) → value_at o it.words (before ++ sent order it.words (shown_of m it.quantity) ++ after) (length before) ≡ x) → value_in v o a reply index ≡ x
      value_as o x reads =
          let words = sent order it.words (shown_of m it.quantity) in
          let before = address_of request ∷ function_of request ∷ 2 * word_number request ∷ items_sent order (shown_of m) (take index its) in
          let after = items_sent order (shown_of m) (drop (suc index) its) in
          let crc = on_line (crc_of (address_of request ∷ function_of request ∷ 2 * word_number request ∷ items_sent order (shown_of m) its)) in
          let same = run_at v.seen a.first a.count index below in
          let parts : items_sent order (shown_of m) its ≡ items_sent order (shown_of m) (take index its) ++ (words ++ after) =
          split order (shown_of m) its index (omega (arith, below, run_length v.seen a.first a.count inside)) ∙ ap (λ (x : Item). items_sent order (shown_of m) (take index its) ++ (sent order x.words (shown_of m x.quantity) ++ after)) same in
          let whole : reply ≡ before ++ words ++ (after ++ crc) =
          ap (λ (l : List ℕ). (address_of request ∷ function_of request ∷ 2 * word_number request ∷ l) ++ crc) parts
          ∙ append_assoc before (words ++ after) crc
          ∙ ap (λ (l : List ℕ). before ++ l) (append_assoc words after crc)
          ∙ sym (append_assoc before words (after ++ crc)) in
          let here : place_of its index ≡ length before = omega (arith, length_items order (shown_of m) (take index its)) in
          ap (λ (at : ℕ). value_at o it.words reply at) here
          ∙ ap (λ (l : List ℕ). value_at o it.words l (length before)) whole
          ∙ reads before (after ++ crc)

      value_back : Shows m it.quantity → value_in v order a reply index ≡ shown_of m it.quantity
      value_back fit = value_as order (shown_of m it.quantity) (λ before after. read_back_lem.between order it.words (shown_of m it.quantity) before after (fitting_words fit))

      -- ---- and what the collector makes of them, through the bytes of the reply, told the ratios and some order

      pub read_as : (o : Order) (x : ℕ) → value_in v o a reply index ≡ x → collector_in v request (reply_to v m request b) (record { ratios = m.given.ratios; order = o }) index ≡ reading_of (meter_t m) it x
      unfolding fits
      read_as o x e =
          ap (λ (l : List ℕ). collector_in v request l (record { ratios = m.given.ratios; order = o }) index) replies
          ∙ to_reading v good request reply (record { ratios = m.given.ratios; order = o }) index (record { fits = fits; below = below })
          ∙ ap (reading_of (meter_t m) it) e

      pub collects : Shows m it.quantity → collector_in v request (reply_to v m request b) (plate_of m.given) index ≡ Reading (meaning_of m it.quantity)
      collects fit = read_as order _ (value_back fit) ∙ item_read v.seen (passes_tested v good) m meets.within (a.first + index) known fit

      pub value_other : Shows m it.quantity → it.words ≡ 2 → (o : Order) → (order ≡ o → ⊥) → value_in v o a (reply_to v m request b) index ≡ exchanged (shown_of m it.quantity)
      value_other fit two o d =
          ap (λ (x : List ℕ). value_in v o a x index) replies
          ∙ value_as o (exchanged (shown_of m it.quantity)) (read_other o order it.words (shown_of m it.quantity) two (fitting_words fit) d)

      -- what the item shows stands in the reply
      pub value_read : Shows m it.quantity → value_in v order a (reply_to v m request b) index ≡ shown_of m it.quantity
      value_read fit = ap (λ (x : List ℕ). value_in v order a x index) replies ∙ value_back fit

    pub past : (index : ℕ) → a.count ≤ index → ReplyGives v request reply (plate_of m.given) index (refused_by 12)
    unfolding fits
    past index over = (replies_when v good request reply (plate_of m.given) index).row_12.1 (record { fits = fits; past = over })

  -- ---- an error reply to such a request

  error_given : (request : List ℕ) (plate : Nameplate) (index code : ℕ) → Asked v request plate.ratios → 1 ≤ code → code ≤ 3 → ReplyGives v request (error_bytes request code) plate index (error_by code)
  error_given request plate index code asked some most =
      ((replies_when v good request reply plate index).error code).1
      (record {
        sound = record {
          asked = asked;
          long = refl;
          whole = intact_is_sealed.passes (address_of request ∷ (function_of request + 0x80) ∷ code ∷ []);
          own = simp (eq-eqb (address_of request) (address_of request) refl, error, other);
        };
        error = error;
        long = refl;
        says = refl;
        some = some;
        most = most;
      })
    where
      reply : List ℕ
      reply = error_bytes request code

      three : function_of request ≡ 0x03
      three = eqb-true (function_of request) 0x03 (hears request asked.asks.hears).read

      error : is_read_error reply ≡ true
      error = rw three refl

      other : is_read reply ≡ false
      other = rw three refl

  -- ---- a reply of function 0x03 is due to such a request alone

  module _ (m : Meter) (request b : List ℕ) (meets : Meets m request b) where
    -- what is given is a data reply, or has another function
    from_data : (bytes : List ℕ) (n : Meter) → Answers m request b → is_read bytes ≡ true → Gives v m request bytes n → Asks (seen_by v m request) request
    from_data bytes n ans h (other r w e k) = no_error request bytes Function e h
    from_data bytes n ans h (misread code r s e k) = no_error request bytes code e h
    from_data bytes n ans h (shows first count r s e k) =
        let loud : silence (address_of request) request ≡ false = ap (λ (x : ℕ). silence x request) (sym (judged m request b meets)) ∙ ans.heeds.heard in
        record { hears = heard_so request (record { own = ans.own; read = r; loud = loud }); first = first; count = count; items = s }
    from_data bytes n ans h (miswritten code w j e k) = no_error request bytes code e h
    from_data bytes n ans h (stores w j e k) = no_echo request bytes (omega (arith, (shaped_length request ((write_when m request).legal.0 j).0).0)) ((and-eq-true_iff (not (to_second m.given request)) (is_write request)).0 w).1 e h

    from_reply : is_read (reply_to v m request b) ≡ true → Case v m request b → Asks (seen_by v m request) request
    from_reply h (out w e) = absurd (false≢true (sym w ∙ meets.within))
    from_reply h (short w l e) = absurd (omega (arith, l, meets.room))
    from_reply h (unheeded w l s e) = no_read (sym (ap (λ (x : Outcome). is_read (reply_in x.handled.reply x.buffer)) e) ∙ h)
    from_reply h (for_all bytes n w z g e) = no_read (sym (ap (λ (x : Outcome). is_read (reply_in x.handled.reply x.buffer)) e) ∙ h)
    from_reply h (for_one bytes n w g e) =
        let said : reply_to v m request b ≡ bytes =
        ap (λ (x : Outcome). reply_in x.handled.reply x.buffer) e ∙ sets_taken b bytes (omega (arith, gives_long v good m request bytes n g, meets.room)) in
        from_data bytes n w (sym (ap is_read said) ∙ h) g

    -- what the address named may ask for, as asked of the whole
    abbrev asks : Asks (seen_by v m request) request → Asks v request
    asks a = asked_whole (to_second m.given request) a

    same : Asks (seen_by v m request) request ↔ (is_read (reply_to v m request b) ≡ true)
    same = (λ a. ap is_read (replies m request b meets (asks a) a.items) ∙ (hears request a.hears).read, λ h. from_reply h (case v m request b))

    -- at the own address that is all
    all : address_of request ≡ m.given.address → seen_by v m request ≡ v
    all e = ap (view_for v) (to_own m.given request (other_address m meets.within) e)

    pub with_data : WithData v m request b
    with_data = record { same = same; own = λ e. subst (λ (w : View). Asks w request ↔ (is_read (reply_to v m request b) ≡ true)) (all e) same }

    -- what the whole directory answers with data, and the meter does not, has error 02
    refuses : Asks v request → is_read (reply_to v m request b) ≡ false → read_in (seen_by v m request) request ≡ Err Address
    refuses a h = by (to_second m.given request) (λ i. false≢true (sym h ∙ same.0 (record { hears = a.hears; first = a.first; count = a.count; items = i })))
      where
        by : (tenant : Bool) → (read_in (view_for v tenant) request ≡ Ok (span a.first a.count) → ⊥) → read_in (view_for v tenant) request ≡ Err Address
        by false n = absurd (n a.items)
        by true n = either (tenant_reads v good request).either
          where
            either : (read_in (tenant_of v) request ≡ read_in v request) ⊎ (read_in (tenant_of v) request ≡ Err Address) → read_in (tenant_of v) request ≡ Err Address
            either (inl e) = absurd (n (e ∙ a.items))
            either (inr e) = e

    refused : Asks v request → is_read (reply_to v m request b) ≡ false → reply_to v m request b ≡ error_bytes request 2
    refused a h =
        let hear = hears request a.hears in
        let ans : Answers m request b = record { heeds = record { within = meets.within; room = meets.room; heard = ap (λ (x : ℕ). silence x request) (judged m request b meets) ∙ hear.loud }; own = hear.own } in
        let o = (frames_when v good m request b).error_02.1 (ans, inl (hear.read, refuses a h)) in
        ap (λ (x : Outcome). reply_in x.handled.reply x.buffer) o ∙ sets_taken b (error_bytes request 2) (omega (arith, meets.room))

    pub round_trip : RoundTrip v m request b
    round_trip = record {
      reads = λ index typed a below.
          let w = asks a in
          collects m request b meets w a.items index below (typed_shows v.seen (passes_tested v good) (a.first + index) (known m request b meets w a.items index below) m typed meets.within)
          ∙ ap (λ (it : Item). Reading (meaning_of m it.quantity)) (sym ((whole v good (to_second m.given request) request a.first a.count a.items).item index below));
      past = λ index a over. ap (λ (reply : List ℕ). told (collector_in v request reply (plate_of m.given) index)) (replies m request b meets (asks a) a.items) ∙ past m request b meets (asks a) a.items index over;
      error = error_given request;
      other = λ reply plate index ok own h. (replies_when v good request reply plate index).row_7.1 (ok, λ a. false≢true (sym h ∙ (with_data.own own).0 a));
      not_for_tenant = λ plate index asked h. ap (λ (x : List ℕ). told (collector_in v request x plate index)) (refused asked.asks h) ∙ error_given request plate index 2 asked (omega arith) (omega arith);
    }

  -- ---- a poll of a meter that was given so

  module _ (m : Meter) {g : Given} (within : meter_ok m ≡ true) (given : m.given ≡ g) {q : ℕ} (p : Poll v g q) where
    abbrev tenant : Bool
    tenant = to_second g p.request

    -- what it asks for, of the whole directory
    abbrev pub polls : Asks v p.request
    polls = asked_whole tenant p.asks

    -- the item polled
    abbrev pub polled_item : Item
    polled_item = item_at v polls p.index

    pub same_item : item_at (view_for v tenant) p.asks p.index ≡ polled_item
    same_item = (whole v good tenant p.request p.asks.first p.asks.count p.asks.items).item p.index p.below

    pub shows_it : polled_item.quantity ≡ q
    shows_it = ap (λ (it : Item). it.quantity) (sym same_item) ∙ p.shows

    meeting : Meets m p.request p.buffer
    meeting = record { within = within; room = p.room; named = subst (λ (x : Given). Names x p.request) (sym given) p.named }

    seeing : read_in (seen_by v m p.request) p.request ≡ Ok (span p.asks.first p.asks.count)
    seeing = ap (λ (x : Given). read_in (view_for v (to_second x p.request)) p.request) given ∙ p.asks.items

    pub poll_reads : Shows m q → collected v m p ≡ Reading (meaning_of m q)
    poll_reads fit =
        ap (λ (x : Given). collector_in v p.request (reply_to v m p.request p.buffer) (plate_of x) p.index) (sym given)
        ∙ collects m p.request p.buffer meeting polls seeing p.index p.below (rw shows_it fit)
        ∙ ap (λ (x : ℕ). Reading (meaning_of m x)) shows_it

    -- told some order: by what is read where the words stand
    pub poll_read_as : (o : Order) (x : ℕ) → ((before after : List ℕ) → value_at o polled_item.words (before ++ sent m.given.order polled_item.words (shown_of m polled_item.quantity) ++ after) (length before) ≡ x) → read_by v m p o ≡ reading_of (meter_t m) polled_item x
    poll_read_as o x reads =
        ap (λ (y : Given). collector_in v p.request (reply_to v m p.request p.buffer) (named y.ratios o) p.index) (sym given)
        ∙ read_as m p.request p.buffer meeting polls seeing p.index p.below o x (value_as m p.request p.buffer meeting polls seeing p.index p.below o x reads)

    -- ---- the same of a meter as a program holds it: what the item shows fits its words

    module _ (typed : Typed m) where
      pub known_item : p.asks.first + p.index < length v.seen
      known_item = omega (arith, p.below, (legal_read v good polls.items).inside)

      shows_typed : Shows m polled_item.quantity
      shows_typed = typed_shows v.seen (passes_tested v good) (p.asks.first + p.index) known_item m typed within

      pub fits_words : shown_of m polled_item.quantity < 65536 ^ polled_item.words
      fits_words = fitting_words m p.request p.buffer meeting polls seeing p.index p.below shows_typed

      pub item_means : reading_of (meter_t m) polled_item (shown_of m polled_item.quantity) ≡ Reading (meaning_of m polled_item.quantity)
      item_means = item_read v.seen (passes_tested v good) m within (p.asks.first + p.index) known_item shows_typed

      pub typed_reads : collected v m p ≡ Reading (meaning_of m q)
      typed_reads = poll_reads (subst (λ (x : ℕ). Shows m x) shows_it shows_typed)
