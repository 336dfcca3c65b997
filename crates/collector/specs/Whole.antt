-- Paper 02, request 4: one call for a whole reply. It is said by the calls one by one: what each gives, for every index in turn.
use Rattle.std.specs.Prelude.{◌≡◌, ◌↔◌, ◌⊎◌, ℕ, zero, suc, ◌^◌, ◌≤◌, ◌<◌, Bool, true, false, ◌||◌, cond, List, [], ◌∷◌, ◌++◌, map, ltb, eqb, length, get_or, Result, Ok, Err}
use Rattle.std.proofs.lemmas.List.Edits.{sets}
use Rattle.refusal.specs.declared.Refusal.TheVariants.{ValueImpossible, RowShort}
use Rattle.refusal.specs.Numbers.{refusal_number, error_number, refused_by, error_by}
use Rattle.crc.specs.Crc.{intact}
use Rattle.ratio.specs.declared.Ratios.{Ratios}
use Rattle.ratio.specs.Ratios.{ratios_ok, t_of}
use Rattle.directory.specs.declared.Span.{Span}
use Rattle.directory.specs.Views.{View}
use Rattle.own.specs.Own.{own}
use Rattle.reading.specs.declared.Quantity.{Quantity}
use Rattle.reading.specs.declared.Answer.{Answer}
use Rattle.reading.specs.declared.Answer.TheVariants as answer
use Rattle.reading.specs.Told.{kind_of}
use Rattle.reading.specs.Readings.{thirteen}
use Rattle.reading.specs.Cells.{cell_of, read_back}
use Rattle.collector.specs.declared.Nameplate.{Nameplate}
use Rattle.replies.specs.declared.Unread.{Unread}
use Rattle.replies.specs.declared.Unread.TheVariants.{Error, Refused}
use Rattle.replies.specs.Judged.{length_wrong, judged_in}
use Rattle.collector.specs.Collector.{collector_in}
use Rattle.collector.specs.When.{Asks, Asked, Fits, asked_by, item_at, value_in, ForeignReply, Misfits, GivesCode, ReplyGives}

-- an answer in numbers: 0 and how many items; the meter's error code; the number of the refusal
abbrev pub whole_told : Result ℕ Unread → List ℕ
whole_told (Ok n) = 0 ∷ n ∷ []
whole_told (Err (Error code)) = error_by (error_number code)
whole_told (Err (Refused reason)) = refused_by (refusal_number reason)

-- asking one by one, for every index in turn, so many
unfoldable pub in_turn : ℕ → (ℕ → Answer) → List Answer
in_turn zero ask = []
in_turn (suc n) ask = in_turn n ask ++ (ask n ∷ [])

-- an item is refused with 13
abbrev pub is_thirteen : Answer → Bool
is_thirteen (answer.Reading q) = false
is_thirteen (answer.Error code) = false
is_thirteen (answer.Refused reason) = eqb (refusal_number reason) 13

-- any item is
unfoldable pub any_thirteen : List Answer → Bool
any_thirteen [] = false
any_thirteen (a ∷ rest) = is_thirteen a || any_thirteen rest

-- the readings given
unfoldable pub readings_in : List Answer → List Quantity
readings_in [] = []
readings_in (answer.Reading q ∷ rest) = q ∷ readings_in rest
readings_in (answer.Error code ∷ rest) = readings_in rest
readings_in (answer.Refused reason ∷ rest) = readings_in rest

-- what the call leads to: its answer, and both rows
pub record Rows : Type 0 where
  pub answer : Result ℕ Unread
  pub values : List ℕ
  pub kinds : List ℕ

-- refusals and error codes leave both rows
abbrev pub kept_by : Result ℕ Unread → List ℕ → List ℕ → Rows
kept_by answer values kinds = record { answer = answer; values = values; kinds = kinds }

-- the rows by what was given for every index in turn: values in the one, kind numbers in the other; cells beyond the items stay
unfoldable pub filled_by : List Answer → List ℕ → List ℕ → Rows
filled_by answers values kinds =
    -- 15, a row shorter than the items, before 13
    cond (ltb (length values) (length answers) || ltb (length kinds) (length answers)) (kept_by (Err (Refused RowShort)) values kinds)
    -- if any item is refused with 13, that is given
    (cond (any_thirteen answers) (kept_by (Err (Refused ValueImpossible)) values kinds)
    (record {
      answer = Ok (length answers);
      values = sets values 0 (map cell_of (readings_in answers));
      kinds = sets kinds 0 (map kind_of (readings_in answers));
    }))

-- 3, 7 to 11 and the error code are given as to each call; of data, every index in turn
abbrev pub on_reply : Result Span Unread → (ℕ → Rows) → List ℕ → List ℕ → Rows
on_reply (Ok asked) go values kinds = go asked.count
on_reply (Err why) go values kinds = kept_by (Err why) values kinds

-- what the call gives and fills, over a view
unfoldable pub whole_in : View → List ℕ → List ℕ → Nameplate → List ℕ → List ℕ → Rows
whole_in v request reply plate values kinds =
    on_reply (judged_in v request reply plate.ratios)
    (λ count. filled_by (in_turn count (collector_in v request reply plate)) values kinds)
    values kinds

-- of a meter with paper 01's own directory
abbrev pub whole_of : List ℕ → List ℕ → Nameplate → List ℕ → List ℕ → Rows
whole_of request reply plate values kinds = whole_in own request reply plate values kinds

-- all that a contract allows: the answer and both rows are those of the definition
pub record Filled (defined : Rows) (x : Result ℕ Unread) (values kinds : List ℕ) : Type 0 where
  pub answers : x ≡ defined.answer
  pub cells : values ≡ defined.values
  pub numbers : kinds ≡ defined.kinds

-- ---- over a view, of a request and its reply, told a nameplate, and two rows

module _ (v : View) (request reply : List ℕ) (plate : Nameplate) (values kinds : List ℕ) where
  -- the ratios on it
  abbrev r : Ratios
  r = plate.ratios

  -- what the call gives and fills
  abbrev pub whole : Rows
  whole = whole_in v request reply plate values kinds

  -- the value of an item's words
  abbrev valued : (fits : Fits v request reply r) → ℕ → ℕ
  valued fits index = value_in v plate.order (asked_by v fits) reply index

  -- its answer in the paper's numbers
  abbrev pub WholeGives : List ℕ → Type 0
  WholeGives numbers = whole_told whole.answer ≡ numbers

  -- 15: the reply fits, and a row is shorter than the items
  pub record Short : Type 0 where
    pub fits : Fits v request reply r
    pub short : (length values < (asked_by v fits).count) ⊎ (length kinds < (asked_by v fits).count)

  -- 15 is passed: each row is as long as the items at the least
  pub record Roomy : Type 0 where
    pub fits : Fits v request reply r
    pub values_room : (asked_by v fits).count ≤ length values
    pub kinds_room : (asked_by v fits).count ≤ length kinds

  -- 13 at one item at the least
  pub record SomeImpossible : Type 0 where
    pub roomy : Roomy
    pub index : ℕ
    pub below : index < (asked_by v roomy.fits).count
    pub value : thirteen (item_at v (asked_by v roomy.fits) index) (valued roomy.fits index) ≡ true

  -- and at none of them
  pub record AllRead (n : ℕ) : Type 0 where
    pub roomy : Roomy
    pub count : (asked_by v roomy.fits).count ≡ n
    pub possible :
        (index : ℕ) → index < n →
        thirteen (item_at v (asked_by v roomy.fits) index) (valued roomy.fits index) ≡ false

  -- STATEMENT: when each refusal is given, by its number and in the request's order, first that applies, and no other number: 12 cannot
  -- occur; when each error code; when the rows are filled
  pub record WholeWhen : Type 0 where
    pub row_3 : WholeGives (refused_by 3) ↔ (ratios_ok r ≡ false)
    pub row_7 : WholeGives (refused_by 7) ↔ ((ratios_ok r ≡ true) × (Asks v request → ⊥))
    pub row_8 : WholeGives (refused_by 8) ↔ (Asked v request r × (length_wrong reply ≡ true))
    pub row_9 : WholeGives (refused_by 9) ↔ (Asked v request r × (length_wrong reply ≡ false) × (intact reply ≡ false))
    pub row_10 : WholeGives (refused_by 10) ↔ ForeignReply v request reply r
    pub row_11 : WholeGives (refused_by 11) ↔ Misfits v request reply r
    pub error : (code : ℕ) → WholeGives (error_by code) ↔ GivesCode v request reply r code
    pub row_15 : WholeGives (refused_by 15) ↔ Short
    pub row_13 : WholeGives (refused_by 13) ↔ SomeImpossible
    pub items : (n : ℕ) → WholeGives (0 ∷ n ∷ []) ↔ AllRead n
    pub only : (n : ℕ) → WholeGives (refused_by n) → (n ≡ 3) ⊎ ((7 ≤ n) × (n ≤ 11)) ⊎ (n ≡ 13) ⊎ (n ≡ 15)

  -- what stands in the cells of an index: value and kind of the reading that its call gives
  pub record CellsOf (index : ℕ) : Type 0 where
    pub reading : Quantity
    pub given : collector_in v request reply plate index ≡ answer.Reading reading
    pub value : get_or whole.values index 0 ≡ cell_of reading
    pub kind : get_or whole.kinds index 0 ≡ kind_of reading

  -- STATEMENT: together this is what asking one by one gives for every index in turn. Refusals and error codes leave both rows; of n items
  -- the first n cells are the readings, the cells beyond stay, and n is the first index that is refused with 12. No reading is lost:
  -- of a reply of bytes, told the ratios, kind and value give each reading back, the value being one of 64 bits
  pub record OneByOne : Type 0 where
    pub code : (code index : ℕ) → WholeGives (error_by code) ↔ ReplyGives v request reply plate index (error_by code)
    pub judged :
        (number index : ℕ) → (number ≡ 3) ⊎ ((7 ≤ number) × (number ≤ 11)) →
        WholeGives (refused_by number) ↔ ReplyGives v request reply plate index (refused_by number)
    pub kept : ((n : ℕ) → WholeGives (0 ∷ n ∷ []) → ⊥) → (whole.values ≡ values) × (whole.kinds ≡ kinds)
    pub lengths : (length whole.values ≡ length values) × (length whole.kinds ≡ length kinds)
    pub each : (n : ℕ) → WholeGives (0 ∷ n ∷ []) → (index : ℕ) → index < n → CellsOf index
    pub beyond :
        (n : ℕ) → WholeGives (0 ∷ n ∷ []) → (index : ℕ) → n ≤ index →
        (get_or whole.values index 0 ≡ get_or values index 0) × (get_or whole.kinds index 0 ≡ get_or kinds index 0)
        × ReplyGives v request reply plate index (refused_by 12)
    pub back :
        (n : ℕ) → WholeGives (0 ∷ n ∷ []) → ((i : ℕ) → get_or reply i 0 < 256) → (index : ℕ) → index < n →
        collector_in v request reply plate index
        ≡ answer.Reading (read_back (t_of r) (get_or whole.kinds index 0) (get_or whole.values index 0))
    pub cells :
        (n : ℕ) → WholeGives (0 ∷ n ∷ []) → ((i : ℕ) → get_or reply i 0 < 256) → (index : ℕ) → index < n →
        (get_or whole.values index 0 < 2 ^ 64) × (1 ≤ get_or whole.kinds index 0) × (get_or whole.kinds index 0 ≤ 16)
