-- When each answer is given: every call comes to one of the rows or rules, and each of them leads to its answer alone.
use mathlib.Core.Path.{◌≡◌, refl, sym, ap, subst, ◌∙◌}
use mathlib.Core.Logic.{◌↔◌, ◌⊎◌, inl, inr}
use mathlib.Core.Bool.{Bool, true, false, ◌||◌, not, cond, false≢true}
use mathlib.Core.List.{List}
use Prim.Native.Nat.{ℕ, ◌/◌, ◌≤◌, ◌<◌}
use native.Mathlib.Omega.{arith}
use lib.Dec.{T, ltb, eqb}
use lib.ListN.{length, get_or}
use borrow.Author.Tests.{ltb-true, ltb-false, eqb-true, eqb-false, eq-eqb, ne_eqb, not-false}
use Rattle.std.specs.Prelude.{Result, Ok, Err}
use Rattle.refusal.specs.declared.Refusal.{Refusal}
use Rattle.refusal.specs.declared.Refusal.TheVariants.{RatioOutOfLimits, NotARead, ReplyLength, ReplyCrc, ReplyForeign, ReplyMisfit, IndexPastItems, ValueImpossible}
use Rattle.refusal.specs.declared.ErrorCode.{ErrorCode}
use Rattle.refusal.specs.declared.ErrorCode.TheVariants.{Function, Address, Data}
use Rattle.refusal.specs.Numbers.{refusal_number, error_number, refused_by}
use Rattle.refusal.proofs.Distinct.{case_in}
use Rattle.refusal.proofs.Exactly.{Due, refused_as, error_as, else_as, Says, row_of, number_of, code_of_lem, code_said, else_of}
use Rattle.crc.specs.Crc.{intact}
use Rattle.words.specs.declared.Order.{Order}
use Rattle.words.specs.Words.{value_at}
use Rattle.ratio.specs.declared.Ratios.{Ratios}
use Rattle.ratio.specs.Ratios.{ratios_ok, t_of}
use Rattle.directory.specs.declared.Item.{Item}
use Rattle.directory.specs.declared.Span.{Span}
use Rattle.directory.specs.Item.{none}
use Rattle.directory.specs.Run.{run_items, span}
use Rattle.directory.specs.Views.{View, passes}
use Rattle.directory.proofs.Errors.{no_run}
use Rattle.modbus.specs.Frame.{address_of}
use Rattle.modbus.specs.Read.{read_in}
use Rattle.modbus.proofs.Frames.{neither}
use Rattle.modbus.proofs.Judged.{legal_read}
use Rattle.reading.specs.declared.Quantity.{Quantity}
use Rattle.reading.specs.declared.Quantity.TheVariants.{Plain}
use Rattle.reading.specs.declared.Answer.{Answer}
use Rattle.reading.specs.declared.Answer.TheVariants.{Reading, Error, Refused}
use Rattle.reading.specs.Told.{told}
use Rattle.reading.specs.Readings.{thirteen, quantities_of, reading_of}
use Rattle.reading.proofs.Cells.{quantity_in}
use Rattle.replies.specs.declared.Unread.{Unread}
use Rattle.replies.specs.declared.Unread.TheVariants as unread
use Rattle.collector.specs.declared.Nameplate.{Nameplate}
use Rattle.replies.specs.Judged.{heard, length_wrong, is_read_error, foreign, third_of, code_of, error_of, misfit, reply_of, judged_in}
use Rattle.collector.specs.Collector.{place_of, item_of, on_data, collector_in}
use Rattle.collector.specs.Whole.{is_thirteen}
use Rattle.collector.specs.When.{Asks, Asked, Sound, Fits, asked_by, Holds, item_at, value_in, error_misfit, ForeignReply, Misfits, Past, Impossible, ReplyGives, GivesCode, Reads, RepliesWhen, NotMisread}
use Rattle.collector.proofs.Places.{run_length, run_at, item_past, item_reads}
use Rattle.replies.proofs.Judged.{length_refused, crc_refused, foreign_refused, error_given, misfit_refused, data_given, fitting}

-- ---- the error code of a reply

error_refused : (reply : List ℕ) → error_misfit reply ≡ true → error_of reply ≡ unread.Refused ReplyMisfit
unfolding error_of
error_refused reply h = by (eqb (length reply) 5) refl
  where
    n : ℕ
    n = third_of reply

    none_of : (a b : Bool) → ltb n 1 ≡ a → ltb 3 n ≡ b → (a || b) ≡ true → code_of n ≡ unread.Refused ReplyMisfit
    none_of true b e f g = let z : n ≡ 0 = omega (arith, ltb-true n 1 e) in rw z refl
    none_of false true e f g =
        let over : 3 < n = ltb-true 3 n f in
        simp (ne_eqb n 1 (λ z. omega (arith, over, z)), ne_eqb n 2 (λ z. omega (arith, over, z)), ne_eqb n 3 (λ z. omega (arith, over, z)))
    none_of false false e f g = absurd (false≢true g)

    by : (t : Bool) → eqb (length reply) 5 ≡ t → cond (not (eqb (length reply) 5)) (unread.Refused ReplyMisfit) (code_of n) ≡ unread.Refused ReplyMisfit
    by false e = rw e refl
    by true e = ap (λ (t : Bool). cond (not t) (unread.Refused ReplyMisfit) (code_of n)) e ∙ none_of (ltb n 1) (ltb 3 n) refl refl (sym (ap (λ (t : Bool). not t || (ltb n 1 || ltb 3 n)) e) ∙ h)

error_code : (reply : List ℕ) (code : ErrorCode) → length reply ≡ 5 → third_of reply ≡ error_number code → error_of reply ≡ unread.Error code
unfolding error_of
error_code reply Function five says = simp (eq-eqb (length reply) 5 five, says)
error_code reply Address five says = simp (eq-eqb (length reply) 5 five, says)
error_code reply Data five says = simp (eq-eqb (length reply) 5 five, says)

-- ---- the value of an item

module _ (t : ℕ) (it : Item) (v : ℕ) where
  pub impossible : thirteen it v ≡ true → reading_of t it v ≡ Refused ValueImpossible
  unfolding reading_of
  impossible h = rw h refl

  pub possible : thirteen it v ≡ false → reading_of t it v ≡ Reading (get_or (quantities_of t it v) (it.quantity / 64) (Plain v))
  unfolding reading_of
  possible h = rw h refl

-- an item that is not refused with 13 is read
pub item_possible : (o : Order) (t : ℕ) (its : List Item) (reply : List ℕ) (index : ℕ) → index < length its → is_thirteen (item_of o t its reply index) ≡ false → (q : Quantity) × (item_of o t its reply index ≡ Reading q)
item_possible o t its reply index below h = by (thirteen it value) refl
  where
    it : Item
    it = get_or its index none

    value : ℕ
    value = value_at o it.words reply (place_of its index)

    is : item_of o t its reply index ≡ reading_of t it value
    is = item_reads o t its reply index below

    by : (b : Bool) → thirteen it value ≡ b → (q : Quantity) × (item_of o t its reply index ≡ Reading q)
    by true e = absurd (false≢true (sym h ∙ ap is_thirteen (is ∙ impossible t it value e)))
    by false e = (_, is ∙ possible t it value e)

module _ (v : View) (good : T (passes v)) where
  -- ---- request and reply: each row and rule leads to its judgement

  module _ (request reply : List ℕ) (r : Ratios) where
    abbrev judged : Result Span Unread
    judged = judged_in v request reply r

    -- 3 and 7 to 11
    pub data Row : Refusal → Type 0 where
      row_3 : ratios_ok r ≡ false → Row RatioOutOfLimits
      row_7 : (ratios_ok r ≡ true) × (Asks v request → ⊥) → Row NotARead
      row_8 : Asked v request r × (length_wrong reply ≡ true) → Row ReplyLength
      row_9 : Asked v request r × (length_wrong reply ≡ false) × (intact reply ≡ false) → Row ReplyCrc
      row_10 : ForeignReply v request reply r → Row ReplyForeign
      row_11 : Misfits v request reply r → Row ReplyMisfit

    -- what each says
    pub three : Row RatioOutOfLimits → ratios_ok r ≡ false
    three (row_3 h) = h

    pub seven : Row NotARead → (ratios_ok r ≡ true) × (Asks v request → ⊥)
    seven (row_7 h) = h

    pub eight : Row ReplyLength → Asked v request r × (length_wrong reply ≡ true)
    eight (row_8 h) = h

    pub nine : Row ReplyCrc → Asked v request r × (length_wrong reply ≡ false) × (intact reply ≡ false)
    nine (row_9 h) = h

    pub ten : Row ReplyForeign → ForeignReply v request reply r
    ten (row_10 h) = h

    pub eleven : Row ReplyMisfit → Misfits v request reply r
    eleven (row_11 h) = h

    -- and its number
    pub row_number : {reason : Refusal} → Row reason → (refusal_number reason ≡ 3) ⊎ ((7 ≤ refusal_number reason) × (refusal_number reason ≤ 11))
    row_number (row_3 h) = inl refl
    row_number (row_7 h) = inr (omega arith, omega arith)
    row_number (row_8 h) = inr (omega arith, omega arith)
    row_number (row_9 h) = inr (omega arith, omega arith)
    row_number (row_10 h) = inr (omega arith, omega arith)
    row_number (row_11 h) = inr (omega arith, omega arith)

    to_reply : (a : Asked v request r) → judged ≡ reply_of request reply (span a.asks.first a.asks.count)
    unfolding judged_in
    to_reply a = rw (a.ratios, a.asks.hears, a.asks.items) refl

    ratio_row : ratios_ok r ≡ false → judged ≡ Err (unread.Refused RatioOutOfLimits)
    unfolding judged_in
    ratio_row h = rw h refl

    request_row : ratios_ok r ≡ true → (Asks v request → ⊥) → judged ≡ Err (unread.Refused NotARead)
    unfolding judged_in
    request_row ok other = by (heard request) (read_in v request) refl refl
      where
        by : (t : Bool) (s : Result Span ErrorCode) → heard request ≡ t → read_in v request ≡ s → judged ≡ Err (unread.Refused NotARead)
        by false s e f = rw (ok, e) refl
        by true (Err code) e f = rw (ok, e, f) refl
        by true (Ok s) e f = absurd (other (record { hears = e; first = s.first; count = s.count; items = f }))

    pub refused : {reason : Refusal} → Row reason → judged ≡ Err (unread.Refused reason)
    refused (row_3 h) = ratio_row h
    refused (row_7 h) = request_row h.0 h.1
    refused (row_8 h) = to_reply h.0 ∙ sym (length_refused _ _ _ h.1)
    refused (row_9 h) = to_reply h.0 ∙ sym (crc_refused _ _ _ h.1 h.2)
    refused (row_10 h) = to_reply h.0 ∙ sym (foreign_refused _ _ _ h.1 h.2 h.3)
    refused (row_11 (h, inl m)) =
        to_reply h.asked ∙ sym (error_given _ _ _ h.long h.whole h.own m.0) ∙ ap Err (error_refused reply m.1)
    refused (row_11 (h, inr m)) = to_reply h.asked ∙ sym (misfit_refused _ _ _ h.long h.whole h.own m.0 m.1)

    pub coded : (code : ErrorCode) → GivesCode v request reply r (error_number code) → judged ≡ Err (unread.Error code)
    coded code h =
        let s = h.sound in
        to_reply s.asked ∙ sym (error_given _ _ _ s.long s.whole s.own h.error) ∙ ap Err (error_code reply code h.long h.says)

    pub held : (f : Fits v request reply r) → judged ≡ Ok (span (asked_by v f).first (asked_by v f).count)
    held f =
        let h = f.sound in
        to_reply h.asked ∙ sym (data_given request reply (span h.asked.asks.first h.asked.asks.count) h.long h.whole h.own f.words f.fits)

    -- ---- every request with its reply comes to one of them

    pub data Judging : Type 0 where
      refuses : (reason : Refusal) → Row reason → Judging
      errors : (code : ErrorCode) → GivesCode v request reply r (error_number code) → Judging
      holds : Fits v request reply r → Judging

    -- the code of an error reply
    at_code : (h : Sound v request reply r) → is_read_error reply ≡ true → error_misfit reply ≡ false → Judging
    at_code h e m = by (eqb n 1) (eqb n 2) refl refl
      where
        n : ℕ
        n = third_of reply

        parts : (not (eqb (length reply) 5) ≡ false) × ((ltb n 1 || ltb 3 n) ≡ false)
        parts = neither (not (eqb (length reply) 5)) (ltb n 1 || ltb 3 n) m

        five : length reply ≡ 5
        five = eqb-true (length reply) 5 (not-false _ parts.0)

        range : (1 ≤ n) × (n ≤ 3)
        range = let t = neither (ltb n 1) (ltb 3 n) parts.1 in (ltb-false n 1 t.0, ltb-false 3 n t.1)

        by : (a b : Bool) → eqb n 1 ≡ a → eqb n 2 ≡ b → Judging
        by true b x y = errors Function (record { sound = h; error = e; long = five; says = eqb-true n 1 x; some = omega arith; most = omega arith })
        by false true x y = errors Address (record { sound = h; error = e; long = five; says = eqb-true n 2 y; some = omega arith; most = omega arith })
        by false false x y = errors Data (record { sound = h; error = e; long = five; says = omega (arith, range, eqb-false n 1 x, eqb-false n 2 y); some = omega arith; most = omega arith })

    -- 11
    at_shape : (h : Sound v request reply r) → Judging
    at_shape h = by (is_read_error reply) (error_misfit reply) (misfit request reply) refl refl refl
      where
        by : (e m d : Bool) → is_read_error reply ≡ e → error_misfit reply ≡ m → misfit request reply ≡ d → Judging
        by true true d x y z = refuses ReplyMisfit (row_11 (h, inl (x, y)))
        by true false d x y z = at_code h x y
        by false m true x y z = refuses ReplyMisfit (row_11 (h, inr (x, z)))
        by false m false x y z = holds (record { sound = h; words = x; fits = z })

    -- 8 to 10
    at_reply : (a : Asked v request r) → Judging
    at_reply a = by (length_wrong reply) (intact reply) (foreign request reply) refl refl refl
      where
        by : (l i f : Bool) → length_wrong reply ≡ l → intact reply ≡ i → foreign request reply ≡ f → Judging
        by true i f x y z = refuses ReplyLength (row_8 (a, x))
        by false false f x y z = refuses ReplyCrc (row_9 (a, x, y))
        by false true true x y z = refuses ReplyForeign (row_10 (a, x, y, z))
        by false true false x y z = at_shape (record { asked = a; long = x; whole = y; own = z })

    -- 3 and 7
    pub judging : Judging
    judging = by (ratios_ok r) (heard request) (read_in v request) refl refl refl
      where
        by : (o h : Bool) (s : Result Span ErrorCode) → ratios_ok r ≡ o → heard request ≡ h → read_in v request ≡ s → Judging
        by false h s x y z = refuses RatioOutOfLimits (row_3 x)
        by true false s x y z = refuses NotARead (row_7 (x, λ asks. false≢true (sym y ∙ asks.hears)))
        by true true (Err code) x y z = refuses NotARead (row_7 (x, λ asks. no_run code z asks.items))
        by true true (Ok s) x y z = at_reply (record { ratios = x; asks = record { hears = y; first = s.first; count = s.count; items = z } })

  -- ---- an item of it

  module _ (request reply : List ℕ) (plate : Nameplate) (index : ℕ) where
    abbrev r : Ratios
    r = plate.ratios

    abbrev given : Answer
    given = collector_in v request reply plate index

    -- what is given once request and reply are judged
    abbrev on : Result Span Unread → Answer
    on judgement = on_data v judgement (λ its. item_of plate.order (t_of r) its reply index)

    pub to_judged : given ≡ on (judged_in v request reply r)
    unfolding collector_in
    to_judged = refl

    pub to_reading : (h : Holds v request reply r index) → given ≡ reading_of (t_of r) (item_at v h.fits.sound.asked.asks index) (value_in v plate.order h.fits.sound.asked.asks reply index)
    to_reading h =
        let a = h.fits.sound.asked.asks in
        let its = run_items v.seen a.first a.count in
        to_judged
        ∙ ap on (held request reply r h.fits)
        ∙ item_reads plate.order (t_of r) its reply index (omega (arith, h.below, run_length v.seen a.first a.count (legal_read v good a.items).inside))
        ∙ ap (λ (it : Item). reading_of (t_of r) it (value_at plate.order it.words reply (place_of its index))) (run_at v.seen a.first a.count index h.below)

    -- the rows of an item's call
    pub data Refuses : Refusal → Type 0 where
      by_row : {reason : Refusal} → Row request reply r reason → Refuses reason
      row_12 : Past v request reply r index → Refuses IndexPastItems
      row_13 : Impossible v request reply plate index → Refuses ValueImpossible

    pub item_refused : {reason : Refusal} → Refuses reason → given ≡ Refused reason
    item_refused (by_row w) = to_judged ∙ ap on (refused request reply r w)
    item_refused (row_12 h) =
        let a = h.fits.sound.asked.asks in
        to_judged ∙ ap on (held request reply r h.fits) ∙ sym (item_past _ _ _ _ _ (omega (arith, h.past, run_length v.seen a.first a.count (legal_read v good a.items).inside)))
    item_refused (row_13 h) = to_reading h.holds ∙ impossible _ _ _ h.value

    pub item_coded : (code : ErrorCode) → GivesCode v request reply r (error_number code) → given ≡ Error code
    item_coded code h = to_judged ∙ ap on (coded request reply r code h)

    pub item_read : (q : Quantity) → Reads v request reply plate index q → given ≡ Reading q
    item_read q h = to_reading h.holds ∙ h.reading

    -- ---- every call comes to one of them

    abbrev Some : Type 0
    Some = (q : Quantity) × Reads v request reply plate index q

    abbrev Outcome : Type 0
    Outcome = Due (told given) Refuses (GivesCode v request reply r) Some

    pub says : Says (told given) Refuses (GivesCode v request reply r) Some
    says = record { refusal = λ w. ap told (item_refused w); error = λ code e. ap told (item_coded code e); other = λ e. ap (λ (a : Answer). case_in (told a)) (item_read e.0 e.1) }

    -- 13, or the reading
    at_item : (h : Holds v request reply r index) → Outcome
    at_item h = by (thirteen (item_at v a index) (value_in v plate.order a reply index)) refl
      where
        a : Asks v request
        a = h.fits.sound.asked.asks

        by : (t : Bool) → thirteen (item_at v a index) (value_in v plate.order a reply index) ≡ t → Outcome
        by true e = refused_as ValueImpossible (row_13 (record { holds = h; value = e }))
        by false e = else_as (_, record { holds = h; reading = possible _ _ _ e })

    -- 12
    at_index : (f : Fits v request reply r) → Outcome
    at_index f = by (ltb index n) refl
      where
        n : ℕ
        n = f.sound.asked.asks.count

        by : (t : Bool) → ltb index n ≡ t → Outcome
        by true e = at_item (record { fits = f; below = ltb-true index n e })
        by false e = refused_as IndexPastItems (row_12 (record { fits = f; past = ltb-false index n e }))

    pub outcome : Outcome
    outcome = by (judging request reply r)
      where
        by : Judging request reply r → Outcome
        by (refuses reason w) = refused_as reason (by_row w)
        by (errors code e) = error_as code e
        by (holds f) = at_index f

    -- ---- and to no two

    by_number : (reason : Refusal) {Means : Type 0} → (Refuses reason → Means) → (Means → Refuses reason) → ReplyGives v request reply plate index (refused_by (refusal_number reason)) ↔ Means
    by_number reason to from = (λ h. to (row_of _ _ _ _ says reason h outcome), λ w. says.refusal (from w))

    -- of those below 12, a row of the reply's
    of_reply : {reason : Refusal} → Refuses reason → refusal_number reason < 12 → Row request reply r reason
    of_reply (by_row w) h = w
    of_reply (row_12 w) h = absurd (omega (arith, h))
    of_reply (row_13 w) h = absurd (omega (arith, h))

    by_reply : (reason : Refusal) → refusal_number reason < 12 → {Means : Type 0} → (Row request reply r reason → Means) → (Means → Row request reply r reason) → ReplyGives v request reply plate index (refused_by (refusal_number reason)) ↔ Means
    by_reply reason small to from = by_number reason (λ w. to (of_reply w small)) (λ s. by_row (from s))

    twelve : Refuses IndexPastItems → Past v request reply r index
    twelve (row_12 h) = h
    twelve (by_row w) = elim w [ ]

    thirteenth : Refuses ValueImpossible → Impossible v request reply plate index
    thirteenth (row_13 h) = h
    thirteenth (by_row w) = elim w [ ]

    -- the numbers of the rows
    abbrev Among : ℕ → Type 0
    Among n = (n ≡ 3) ⊎ ((7 ≤ n) × (n ≤ 13))

    numbered : (reason : Refusal) → Refuses reason → Among (refusal_number reason)
    numbered reason (by_row w) = by (row_number request reply r w)
      where
        by : (refusal_number reason ≡ 3) ⊎ ((7 ≤ refusal_number reason) × (refusal_number reason ≤ 11)) → Among (refusal_number reason)
        by (inl e) = inl e
        by (inr e) = inr (e.0, omega (arith, e.1))
    numbered reason (row_12 h) = inr (omega arith, omega arith)
    numbered reason (row_13 h) = inr (omega arith, omega arith)

    only_reading : (q : Quantity) → given ≡ Reading q → Reads v request reply plate index q
    only_reading q h =
        let e = else_of _ _ _ _ says (ap (λ (a : Answer). case_in (told a)) h) outcome in
        subst (λ (c : Quantity). Reads v request reply plate index c) (ap (quantity_in q) (sym (item_read e.0 e.1) ∙ h)) e.1

    pub replies_when : RepliesWhen v request reply plate index
    replies_when = record {
      row_3 = by_reply RatioOutOfLimits (omega arith) (three request reply r) row_3;
      row_7 = by_reply NotARead (omega arith) (seven request reply r) row_7;
      row_8 = by_reply ReplyLength (omega arith) (eight request reply r) row_8;
      row_9 = by_reply ReplyCrc (omega arith) (nine request reply r) row_9;
      row_10 = by_reply ReplyForeign (omega arith) (ten request reply r) row_10;
      row_11 = by_reply ReplyMisfit (omega arith) (eleven request reply r) row_11;
      row_12 = by_number IndexPastItems twelve row_12;
      row_13 = by_number ValueImpossible thirteenth row_13;
      only = λ n h. number_of _ _ _ _ says Among numbered n h outcome;
      error = λ n. (λ h. code_of_lem _ _ _ _ says n h outcome, λ e. code_said _ _ _ _ says n e.some e.most e);
      reading = λ q. (only_reading q, item_read q);
    }

-- ---- what follows

same_address : (request reply : List ℕ) → foreign request reply ≡ false → address_of reply ≡ address_of request
same_address request reply h =
    let n = neither (not (eqb (address_of reply) (address_of request))) _ h in
    eqb-true (address_of reply) (address_of request) (not-false _ n.0)

module _ (v : View) (good : T (passes v)) (request reply : List ℕ) (plate : Nameplate) (index : ℕ) where
  pub not_misread : NotMisread v request reply plate index
  not_misread = record {
    reading = λ q h. let f = (((replies_when v good request reply plate index).reading q).0 h).holds.fits in (f.sound.whole, same_address request reply f.sound.own, fitting request reply f.fits);
    error = λ code h. let s = (((replies_when v good request reply plate index).error (error_number code)).0 (ap told h)).sound in (s.whole, same_address request reply s.own);
  }
