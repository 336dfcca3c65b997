-- When the whole call gives which answer, and that its rows are what asking one by one gives.
use mathlib.Core.Path.{◌≡◌, refl, sym, ap, ap₂, subst, ◌∙◌}
use mathlib.Core.Logic.{◌↔◌, ◌⊎◌, inl, inr}
use mathlib.Core.Bool.{Bool, true, false, or-true, false≢true}
use mathlib.Core.List.{List, [], ◌∷◌, map}
use Prim.Native.Nat.{ℕ, ◌+◌, ◌≤◌, ◌<◌}
use native.Mathlib.Omega.{arith}
use lib.Dec.{T, ltb}
use lib.ListN.{length, get_or}
use lib.Seq.{sets, length-sets}
use borrow.Author.Tests.{ltb-true, ltb-false, lt-ltb, le-ltb}
use Rattle.std.specs.Prelude.{Result, Ok, Err}
use Rattle.refusal.specs.declared.Refusal.{Refusal}
use Rattle.refusal.specs.declared.Refusal.TheVariants.{RatioOutOfLimits, NotARead, ReplyLength, ReplyCrc, ReplyForeign, ReplyMisfit, ValueImpossible, RowShort}
use Rattle.refusal.specs.declared.ErrorCode.{ErrorCode}
use Rattle.refusal.specs.Numbers.{refusal_number, error_number, refused_by, error_by}
use Rattle.refusal.proofs.Distinct.{one_reason_each, case_in, number_in}
use Rattle.refusal.proofs.Exactly.{Due, refused_as, error_as, else_as, Says, row_of, number_of, code_of_lem, code_said, else_of}
use Rattle.words.proofs.Laws.{value_fits}
use Rattle.ratio.specs.declared.Ratios.{Ratios}
use Rattle.ratio.specs.Ratios.{t_of}
use Rattle.directory.specs.declared.Item.{Item}
use Rattle.directory.specs.Run.{span}
use Rattle.directory.specs.Views.{View, passes}
use Rattle.directory.proofs.Order.{ruled_narrow}
use Rattle.directory.proofs.Views.{passes_ruled}
use Rattle.modbus.proofs.Judged.{legal_read}
use Rattle.reading.specs.declared.Quantity.{Quantity}
use Rattle.reading.specs.declared.Quantity.TheVariants.{Plain}
use Rattle.reading.specs.declared.Answer.{Answer}
use Rattle.reading.specs.declared.Answer.TheVariants as answer
use Rattle.reading.specs.Told.{kind_of}
use Rattle.reading.specs.Readings.{thirteen, reading_of}
use Rattle.reading.specs.Cells.{cell_of, read_back}
use Rattle.reading.proofs.Cells.{Back, reading_back}
use Rattle.replies.specs.declared.Unread.{Unread}
use Rattle.replies.specs.declared.Unread.TheVariants.{Error, Refused}
use Rattle.collector.specs.declared.Nameplate.{Nameplate}
use Rattle.collector.specs.Collector.{collector_in}
use Rattle.collector.specs.When.{Fits, asked_by, item_at, value_in, GivesCode, ReplyGives}
use Rattle.collector.specs.Whole.{whole_told, in_turn, is_thirteen, any_thirteen, Rows, kept_by, filled_by, whole_in, WholeGives, Short, SomeImpossible, AllRead, WholeWhen, CellsOf, OneByOne}
use Rattle.collector.proofs.When as when
use Rattle.collector.proofs.When.{Row, row_3, row_7, row_8, row_9, row_10, row_11, three, seven, eight, nine, ten, eleven, row_number, refused, coded, held, Judging, judging, impossible, possible, replies_when}
use Rattle.collector.proofs.Turns.{turns_length, none_at, any_at, any_where, Read, read_length, read_all, read_at, turns_read, cell_in, cell_beyond}
use Rattle.collector.proofs.Rows.{short, short_kept, refused_kept, all_filled, whole_unread, whole_data}

-- ---- the numbers of an answer name it

pub one_whole_each : (x y : Result ℕ Unread) → whole_told x ≡ whole_told y → x ≡ y
one_whole_each (Ok n) (Ok k) h = ap Ok (ap number_in h)
one_whole_each (Ok n) (Err (Error code)) h = absurd (let z = ap case_in h in omega (arith, z))
one_whole_each (Ok n) (Err (Refused reason)) h = absurd (let z = ap case_in h in omega (arith, z))
one_whole_each (Err (Error code)) (Ok n) h = absurd (let z = ap case_in h in omega (arith, z))
one_whole_each (Err (Error code)) (Err (Error other)) h = ap (λ (c : ErrorCode). Err (Error c)) (one_reason_each.errors code other (ap number_in h))
one_whole_each (Err (Error code)) (Err (Refused reason)) h = absurd (let z = ap case_in h in omega (arith, z))
one_whole_each (Err (Refused reason)) (Ok n) h = absurd (let z = ap case_in h in omega (arith, z))
one_whole_each (Err (Refused reason)) (Err (Error code)) h = absurd (let z = ap case_in h in omega (arith, z))
one_whole_each (Err (Refused reason)) (Err (Refused other)) h = ap (λ (c : Refusal). Err (Refused c)) (one_reason_each.refusals reason other (ap number_in h))

-- ---- a reading or 13, as an item's value is possible or not

tells_13 : (t : ℕ) (it : Item) (v : ℕ) → is_thirteen (reading_of t it v) ≡ thirteen it v
tells_13 t it v = by (thirteen it v) refl
  where
    by : (b : Bool) → thirteen it v ≡ b → is_thirteen (reading_of t it v) ≡ b
    by true e = ap is_thirteen (impossible t it v e)
    by false e = ap is_thirteen (possible t it v e)

module _ (v : View) (good : T (passes v)) (request reply : List ℕ) (plate : Nameplate) (values kinds : List ℕ) where
  abbrev r : Ratios
  r = plate.ratios

  abbrev ask : ℕ → Answer
  ask = collector_in v request reply plate

  abbrev given : Rows
  given = whole_in v request reply plate values kinds

  -- ---- data

  module _ (f : Fits v request reply r) where
    abbrev count : ℕ
    count = (asked_by v f).count

    abbrev answers : List Answer
    answers = in_turn count ask

    to_data : given ≡ filled_by answers values kinds
    to_data = whole_data v request reply plate values kinds (span (asked_by v f).first count) (held v good request reply r f)

    long : length answers ≡ count
    long = turns_length count ask

    -- the reading of an item
    reads : (index : ℕ) → index < count → ask index ≡ reading_of (t_of r) (item_at v (asked_by v f) index) (value_in v plate.order (asked_by v f) reply index)
    reads index b = when.to_reading v good request reply plate index (record { fits = f; below = b })

    thirteen_at : (index : ℕ) → index < count → is_thirteen (ask index) ≡ thirteen (item_at v (asked_by v f) index) (value_in v plate.order (asked_by v f) reply index)
    thirteen_at index b = ap is_thirteen (reads index b) ∙ tells_13 (t_of r) (item_at v (asked_by v f) index) (value_in v plate.order (asked_by v f) reply index)

    -- the rows as the tests see them
    as_short : (length values < count) ⊎ (length kinds < count) → short answers values kinds ≡ true
    as_short (inl h) = rw (lt-ltb (length values) (length answers) (omega (arith, h, long))) refl
    as_short (inr h) = rw (lt-ltb (length kinds) (length answers) (omega (arith, h, long))) (or-true (ltb (length values) (length answers)))

    as_roomy : count ≤ length values → count ≤ length kinds → short answers values kinds ≡ false
    as_roomy a b = rw (le-ltb (length values) (length answers) (omega (arith, a, long)), le-ltb (length kinds) (length answers) (omega (arith, b, long))) refl

  -- ---- each row and rule leads to its answer

  data Refuses : Refusal → Type 0 where
    by_row : {reason : Refusal} → Row v good request reply r reason → Refuses reason
    row_13 : SomeImpossible v request reply plate values kinds → Refuses ValueImpossible
    row_15 : Short v request reply plate values kinds → Refuses RowShort

  refused_whole : {reason : Refusal} → Refuses reason → given ≡ kept_by (Err (Refused reason)) values kinds
  refused_whole (by_row w) = whole_unread v request reply plate values kinds _ (refused v good request reply r w)
  refused_whole (row_13 h) =
      let f = h.roomy.fits in
      to_data f ∙ refused_kept (answers f) values kinds (as_roomy f h.roomy.values_room h.roomy.kinds_room) (any_at (count f) ask h.index h.below (thirteen_at f h.index h.below ∙ h.value))
  refused_whole (row_15 h) = to_data h.fits ∙ short_kept (answers h.fits) values kinds (as_short h.fits h.short)

  coded_whole : (code : ErrorCode) → GivesCode v request reply r (error_number code) → given ≡ kept_by (Err (Error code)) values kinds
  coded_whole code e = whole_unread v request reply plate values kinds _ (coded v good request reply r code e)

  -- all are read: the readings, and the rows with them
  record Readings (n : ℕ) : Type 0 where
    pub fits : Fits v request reply r
    pub count_is : (asked_by v fits).count ≡ n
    pub values_room : n ≤ length values
    pub kinds_room : n ≤ length kinds
    pub qs : List Quantity
    pub read : Read n ask qs
    pub rows : given ≡ record { answer = Ok n; values = sets values 0 (map cell_of qs); kinds = sets kinds 0 (map kind_of qs) }

  -- an item that is not refused with 13 is read
  unrefused : (f : Fits v request reply r) (i : ℕ) → i < count f → is_thirteen (ask i) ≡ false → (q : Quantity) × (ask i ≡ answer.Reading q)
  unrefused f i b h = (_, reads f i b ∙ possible (t_of r) (item_at v (asked_by v f) i) (value_in v plate.order (asked_by v f) reply i) (sym (thirteen_at f i b) ∙ h))

  at_count : (f : Fits v request reply r) → count f ≤ length values → count f ≤ length kinds → ((i : ℕ) → i < count f → thirteen (item_at v (asked_by v f) i) (value_in v plate.order (asked_by v f) reply i) ≡ false) → Readings (count f)
  at_count f a b none = record {
    fits = f;
    count_is = refl;
    values_room = a;
    kinds_room = b;
    qs = all.0;
    read = all.1;
    rows = to_data f ∙ all_filled (answers f) values kinds (as_roomy f a b) unfound ∙ ap₂ filled (long f) (read_all (count f) ask all.0 all.1);
  }
    where
      unfound : any_thirteen (answers f) ≡ false
      unfound = by (any_thirteen (answers f)) refl
        where
          by : (t : Bool) → any_thirteen (answers f) ≡ t → any_thirteen (answers f) ≡ false
          by true e = let w = any_where (count f) ask e in absurd (false≢true (sym (none w.0 w.1) ∙ sym (thirteen_at f w.0 w.1) ∙ w.2))
          by false e = e

      all : (qs : List Quantity) × Read (count f) ask qs
      all = turns_read (count f) ask (unrefused f) unfound

      filled : ℕ → List Quantity → Rows
      filled n qs = record { answer = Ok n; values = sets values 0 (map cell_of qs); kinds = sets kinds 0 (map kind_of qs) }

  all_read : (n : ℕ) → AllRead v request reply plate values kinds n → Readings n
  all_read n a = subst Readings a.count (at_count a.roomy.fits a.roomy.values_room a.roomy.kinds_room (λ i b. a.possible i (omega (arith, b, a.count))))

  -- where each call gives a reading, all are read
  pub all_given : (f : Fits v request reply r) → count f ≤ length values → count f ≤ length kinds → ((i : ℕ) → i < count f → (q : Quantity) × (ask i ≡ answer.Reading q)) → AllRead v request reply plate values kinds (count f)
  all_given f a b each = record {
    roomy = record { fits = f; values_room = a; kinds_room = b };
    count = refl;
    possible = λ i below. sym (thirteen_at f i below) ∙ ap is_thirteen (each i below).1;
  }

  -- ---- every call comes to one of them

  abbrev All : Type 0
  All = (n : ℕ) × AllRead v request reply plate values kinds n

  abbrev Outcome : Type 0
  Outcome = Due (whole_told given.answer) Refuses (GivesCode v request reply r) All

  read_told : (n : ℕ) → AllRead v request reply plate values kinds n → WholeGives v request reply plate values kinds (0 ∷ n ∷ [])
  read_told n a = ap (λ (o : Rows). whole_told o.answer) (all_read n a).rows

  says : Says (whole_told given.answer) Refuses (GivesCode v request reply r) All
  says = record { refusal = λ w. ap (λ (o : Rows). whole_told o.answer) (refused_whole w); error = λ code e. ap (λ (o : Rows). whole_told o.answer) (coded_whole code e); other = λ e. ap case_in (read_told e.0 e.1) }

  at_data : (f : Fits v request reply r) → Outcome
  at_data f = by (ltb (length values) n) (ltb (length kinds) n) (any_thirteen (answers f)) refl refl refl
    where
      n : ℕ
      n = count f

      by : (a b t : Bool) → ltb (length values) n ≡ a → ltb (length kinds) n ≡ b → any_thirteen (answers f) ≡ t → Outcome
      by true b t x y z = refused_as RowShort (row_15 (record { fits = f; short = inl (ltb-true (length values) n x) }))
      by false true t x y z = refused_as RowShort (row_15 (record { fits = f; short = inr (ltb-true (length kinds) n y) }))
      by false false true x y z =
          let w = any_where n ask z in
          refused_as ValueImpossible (row_13 (record { roomy = record { fits = f; values_room = ltb-false (length values) n x; kinds_room = ltb-false (length kinds) n y }; index = w.0; below = w.1; value = sym (thirteen_at f w.0 w.1) ∙ w.2 }))
      by false false false x y z =
          else_as (n, record { roomy = record { fits = f; values_room = ltb-false (length values) n x; kinds_room = ltb-false (length kinds) n y }; count = refl; possible = λ i b. sym (thirteen_at f i b) ∙ none_at n ask z i b })

  outcome : Outcome
  outcome = by (judging v good request reply r)
    where
      by : Judging v good request reply r → Outcome
      by (when.refuses reason w) = refused_as reason (by_row w)
      by (when.errors code e) = error_as code e
      by (when.holds f) = at_data f

  -- ---- and to no two

  by_number : (reason : Refusal) {Means : Type 0} → (Refuses reason → Means) → (Means → Refuses reason) → WholeGives v request reply plate values kinds (refused_by (refusal_number reason)) ↔ Means
  by_number reason to from = (λ h. to (row_of _ _ _ _ says reason h outcome), λ w. says.refusal (from w))

  -- of those below 12, a row of the reply's
  of_reply : {reason : Refusal} → Refuses reason → refusal_number reason < 12 → Row v good request reply r reason
  of_reply (by_row w) h = w
  of_reply (row_13 w) h = absurd (omega (arith, h))
  of_reply (row_15 w) h = absurd (omega (arith, h))

  by_reply : (reason : Refusal) → refusal_number reason < 12 → {Means : Type 0} → (Row v good request reply r reason → Means) → (Means → Row v good request reply r reason) → WholeGives v request reply plate values kinds (refused_by (refusal_number reason)) ↔ Means
  by_reply reason small to from = by_number reason (λ w. to (of_reply w small)) (λ s. by_row (from s))

  thirteenth : Refuses ValueImpossible → SomeImpossible v request reply plate values kinds
  thirteenth (row_13 h) = h
  thirteenth (by_row w) = elim w [ ]

  fifteenth : Refuses RowShort → Short v request reply plate values kinds
  fifteenth (row_15 h) = h
  fifteenth (by_row w) = elim w [ ]

  -- the numbers of the rows: 12 is not among them
  abbrev Among : ℕ → Type 0
  Among n = (n ≡ 3) ⊎ ((7 ≤ n) × (n ≤ 11)) ⊎ (n ≡ 13) ⊎ (n ≡ 15)

  numbered : (reason : Refusal) → Refuses reason → Among (refusal_number reason)
  numbered reason (by_row w) = by (row_number v good request reply r w)
    where
      by : (refusal_number reason ≡ 3) ⊎ ((7 ≤ refusal_number reason) × (refusal_number reason ≤ 11)) → Among (refusal_number reason)
      by (inl e) = inl e
      by (inr e) = inr (inl e)
  numbered reason (row_13 h) = inr (inr (inl refl))
  numbered reason (row_15 h) = inr (inr (inr refl))

  only_read : (n : ℕ) → WholeGives v request reply plate values kinds (0 ∷ n ∷ []) → AllRead v request reply plate values kinds n
  only_read n h =
      let e = else_of _ _ _ _ says (ap case_in h) outcome in
      subst (λ (j : ℕ). AllRead v request reply plate values kinds j) (ap number_in (sym (read_told e.0 e.1) ∙ h)) e.1

  pub whole_when : WholeWhen v request reply plate values kinds
  whole_when = record {
    row_3 = by_reply RatioOutOfLimits (omega arith) (three v good request reply r) row_3;
    row_7 = by_reply NotARead (omega arith) (seven v good request reply r) row_7;
    row_8 = by_reply ReplyLength (omega arith) (eight v good request reply r) row_8;
    row_9 = by_reply ReplyCrc (omega arith) (nine v good request reply r) row_9;
    row_10 = by_reply ReplyForeign (omega arith) (ten v good request reply r) row_10;
    row_11 = by_reply ReplyMisfit (omega arith) (eleven v good request reply r) row_11;
    error = λ n. (λ h. code_of_lem _ _ _ _ says n h outcome, λ e. code_said _ _ _ _ says n e.some e.most e);
    row_15 = by_number RowShort fifteenth row_15;
    row_13 = by_number ValueImpossible thirteenth row_13;
    items = λ n. (only_read n, read_told n);
    only = λ n h. number_of _ _ _ _ says Among numbered n h outcome;
  }

  -- ---- the rows

  kept_values : ((n : ℕ) → WholeGives v request reply plate values kinds (0 ∷ n ∷ []) → ⊥) → Outcome → (given.values ≡ values) × (given.kinds ≡ kinds)
  kept_values none (refused_as x w) = (ap (λ (o : Rows). o.values) (refused_whole w), ap (λ (o : Rows). o.kinds) (refused_whole w))
  kept_values none (error_as code e) = (ap (λ (o : Rows). o.values) (coded_whole code e), ap (λ (o : Rows). o.kinds) (coded_whole code e))
  kept_values none (else_as e) = absurd (none e.0 (read_told e.0 e.1))

  row_lengths : Outcome → (length given.values ≡ length values) × (length given.kinds ≡ length kinds)
  row_lengths (refused_as x w) = (ap (λ (o : Rows). length o.values) (refused_whole w), ap (λ (o : Rows). length o.kinds) (refused_whole w))
  row_lengths (error_as code e) = (ap (λ (o : Rows). length o.values) (coded_whole code e), ap (λ (o : Rows). length o.kinds) (coded_whole code e))
  row_lengths (else_as e) =
      let t = all_read e.0 e.1 in
      (ap (λ (o : Rows). length o.values) t.rows ∙ length-sets values 0 (map cell_of t.qs), ap (λ (o : Rows). length o.kinds) t.rows ∙ length-sets kinds 0 (map kind_of t.qs))

  -- where n items are read
  module _ (n : ℕ) (says-n : WholeGives v request reply plate values kinds (0 ∷ n ∷ [])) where
    found : Readings n
    found = all_read n (only_read n says-n)

    many : length found.qs ≡ n
    many = read_length n ask found.qs found.read

    abbrev at : ℕ → Quantity
    at index = get_or found.qs index (Plain 0)

    cells_of : (index : ℕ) → index < n → CellsOf v request reply plate values kinds index
    cells_of index b = record {
      reading = at index;
      given = read_at n ask found.qs found.read index (Plain 0) b;
      value = ap (λ (o : Rows). get_or o.values index 0) found.rows ∙ cell_in cell_of values found.qs index (omega (arith, many, found.values_room)) (Plain 0) (omega (arith, b, many));
      kind = ap (λ (o : Rows). get_or o.kinds index 0) found.rows ∙ cell_in kind_of kinds found.qs index (omega (arith, many, found.kinds_room)) (Plain 0) (omega (arith, b, many));
    }

    cells_beyond : (index : ℕ) → n ≤ index → (get_or given.values index 0 ≡ get_or values index 0) × (get_or given.kinds index 0 ≡ get_or kinds index 0) × ReplyGives v request reply plate index (refused_by 12)
    cells_beyond index b = (
      ap (λ (o : Rows). get_or o.values index 0) found.rows ∙ cell_beyond cell_of values found.qs index (omega (arith, many, found.values_room)) (omega (arith, b, many)),
      ap (λ (o : Rows). get_or o.kinds index 0) found.rows ∙ cell_beyond kind_of kinds found.qs index (omega (arith, many, found.kinds_room)) (omega (arith, b, many)),
      (replies_when v good request reply plate index).row_12.1 (record { fits = found.fits; past = omega (arith, b, found.count_is) }),
    )

    -- a reply of bytes: each reading comes back
    back_at : ((i : ℕ) → get_or reply i 0 < 256) → (index : ℕ) → index < n → Back (t_of r) (at index)
    back_at bytes index b =
        let f = found.fits in
        let a = asked_by v f in
        let inside : index < a.count = omega (arith, b, found.count_is) in
        let narrow = ruled_narrow v.seen (passes_ruled v good) (a.first + index) (omega (arith, inside, (legal_read v good a.items).inside)) in
        reading_back (t_of r) (item_at v a index) (value_in v plate.order a reply index) narrow.few (value_fits reply bytes plate.order (item_at v a index).words _) (at index) (sym (reads f index inside) ∙ read_at n ask found.qs found.read index (Plain 0) b)

  -- ---- as each call alone gives it

  codes : (code index : ℕ) → WholeGives v request reply plate values kinds (error_by code) ↔ ReplyGives v request reply plate index (error_by code)
  codes code index =
      let one = (replies_when v good request reply plate index).error code in
      (λ h. one.1 ((whole_when.error code).0 h), λ h. (whole_when.error code).1 (one.0 h))

  -- a row of the reply's is given by both
  abbrev OfReply : ℕ → Type 0
  OfReply n = (n ≡ 3) ⊎ ((7 ≤ n) × (n ≤ 11))

  outside : {A : Type 0} (n : ℕ) → 12 ≤ n → OfReply n → A
  outside n h (inl e) = absurd (omega (arith, e, h))
  outside n h (inr e) = absurd (omega (arith, e.1, h))

  to_each : (index : ℕ) (reason : Refusal) → Refuses reason → OfReply (refusal_number reason) → ReplyGives v request reply plate index (refused_by (refusal_number reason))
  to_each index reason (by_row w) among = (when.says v good request reply plate index).refusal (when.by_row w)
  to_each index reason (row_13 w) among = outside 13 (omega arith) among
  to_each index reason (row_15 w) among = outside 15 (omega arith) among

  from_each : (index : ℕ) (reason : Refusal) → when.Refuses v good request reply plate index reason → OfReply (refusal_number reason) → WholeGives v request reply plate values kinds (refused_by (refusal_number reason))
  from_each index reason (when.by_row w) among = says.refusal (by_row w)
  from_each index reason (when.row_12 w) among = outside 12 (omega arith) among
  from_each index reason (when.row_13 w) among = outside 13 (omega arith) among

  pub one_by_one : OneByOne v request reply plate values kinds
  unfolding cells_of
  one_by_one = record {
    code = codes;
    judged = λ number index among. (
      λ h. number_of _ _ _ _ says (λ (n : ℕ). OfReply n → ReplyGives v request reply plate index (refused_by n)) (to_each index) number h outcome among,
      λ h. number_of _ _ _ _ (when.says v good request reply plate index) (λ (n : ℕ). OfReply n → WholeGives v request reply plate values kinds (refused_by n)) (from_each index) number h (when.outcome v good request reply plate index) among,
    );
    kept = λ none. kept_values none outcome;
    lengths = row_lengths outcome;
    each = cells_of;
    beyond = cells_beyond;
    back = λ n h bytes index b.
        let c = cells_of n h index b in
        c.given ∙ ap answer.Reading (sym (back_at n h bytes index b).back ∙ ap₂ (read_back (t_of r)) (sym c.kind) (sym c.value));
    cells = λ n h bytes index b.
        let c = cells_of n h index b in
        let t = back_at n h bytes index b in
        (omega (arith, c.value, t.cell), omega (arith, c.kind, t.some), omega (arith, c.kind, t.most));
  }
