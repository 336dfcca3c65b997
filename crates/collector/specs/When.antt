-- Paper 01, "Refusal numbers", rows 3 and 7 to 14: when each answer is given, and what no reply can be misread as.
use Rattle.std.specs.Prelude.{◌≡◌, ◌↔◌, ◌⊎◌, ℕ, ◌+◌, ◌*◌, ◌≤◌, ◌<◌, Bool, true, false, ◌||◌, not, List, ltb, eqb, length, get_or, Ok}
use Rattle.refusal.specs.declared.ErrorCode.{ErrorCode}
use Rattle.refusal.specs.Numbers.{refused_by, error_by}
use Rattle.crc.specs.Crc.{intact}
use Rattle.words.specs.declared.Order.{Order}
use Rattle.words.specs.Words.{value_at}
use Rattle.ratio.specs.declared.Ratios.{Ratios}
use Rattle.ratio.specs.Ratios.{ratios_ok, t_of}
use Rattle.counts.specs.declared.Count.{Count}
use Rattle.counts.specs.Counting.{top_count, top_low, top_high, join_of, join_halves_of, join_told}
use Rattle.directory.specs.declared.Item.{Item}
use Rattle.directory.specs.Item.{none}
use Rattle.directory.specs.Run.{span, run_items}
use Rattle.directory.specs.Views.{View}
use Rattle.modbus.specs.Frame.{address_of, word_number}
use Rattle.modbus.specs.Read.{read_in}
use Rattle.reading.specs.declared.Quantity.{Quantity}
use Rattle.reading.specs.declared.Answer.{Answer}
use Rattle.reading.specs.declared.Answer.TheVariants.{Reading, Error}
use Rattle.reading.specs.Told.{told}
use Rattle.reading.specs.Readings.{thirteen, reading_of}
use Rattle.collector.specs.declared.Nameplate.{Nameplate}
use Rattle.replies.specs.Judged.{heard, length_wrong, is_read_error, foreign, third_of, misfit}
use Rattle.collector.specs.Collector.{place_of, collector_in}

-- 11, of 0x83: length not 5 or code not 1 to 3
abbrev pub error_misfit : List ℕ → Bool
error_misfit reply = not (eqb (length reply) 5) || (ltb (third_of reply) 1 || ltb 3 (third_of reply))

-- ---- over a view: the directory and the most words of the meter that was asked

module _ (v : View) where
  -- a read that a meter of that own address, 1 to 255, answers with data, and the items that it asks for
  pub record Asks (request : List ℕ) : Type 0 where
    pub hears : heard request ≡ true
    pub first : ℕ
    pub count : ℕ
    pub items : read_in v request ≡ Ok (span first count)

  -- 3 and 7 are passed
  pub record Asked (request : List ℕ) (r : Ratios) : Type 0 where
    pub ratios : ratios_ok r ≡ true
    pub asks : Asks request

  -- 8 to 10 are passed as well
  pub record Sound (request reply : List ℕ) (r : Ratios) : Type 0 where
    pub asked : Asked request r
    pub long : length_wrong reply ≡ false
    pub whole : intact reply ≡ true
    pub own : foreign request reply ≡ false

  -- 11 is passed as well, by a reply of function 0x03
  pub record Fits (request reply : List ℕ) (r : Ratios) : Type 0 where
    pub sound : Sound request reply r
    pub words : is_read_error reply ≡ false
    pub fits : misfit request reply ≡ false

  -- what was asked for, of a reply that fits
  abbrev pub asked_by : {request reply : List ℕ} {r : Ratios} → Fits request reply r → Asks request
  asked_by fits = fits.sound.asked.asks

  -- 12 is passed as well
  pub record Holds (request reply : List ℕ) (r : Ratios) (index : ℕ) : Type 0 where
    pub fits : Fits request reply r
    pub below : index < (asked_by fits).count

  -- the item of an index
  abbrev pub item_at : {request : List ℕ} → Asks request → ℕ → Item
  item_at asks index = get_or v.seen (asks.first + index) none

  -- the value of its words in the reply, in the order told
  abbrev pub value_in : {request : List ℕ} → Order → Asks request → List ℕ → ℕ → ℕ
  value_in o asks reply index =
      value_at o (item_at asks index).words reply (place_of (run_items v.seen asks.first asks.count) index)

  -- 10: reply address differs, or function neither 0x03 nor 0x83
  abbrev pub ForeignReply : List ℕ → List ℕ → Ratios → Type 0
  ForeignReply request reply r =
      Asked request r × (length_wrong reply ≡ false) × (intact reply ≡ true) × (foreign request reply ≡ true)

  -- 11: an error reply of another length or code, or data of another byte number or length
  abbrev pub Misfits : List ℕ → List ℕ → Ratios → Type 0
  Misfits request reply r =
      Sound request reply r ×
      (((is_read_error reply ≡ true) × (error_misfit reply ≡ true)) ⊎ ((is_read_error reply ≡ false) × (misfit request reply ≡ true)))

  -- 12: index not below the number of items
  pub record Past (request reply : List ℕ) (r : Ratios) (index : ℕ) : Type 0 where
    pub fits : Fits request reply r
    pub past : (asked_by fits).count ≤ index

  -- 13: value impossible
  pub record Impossible (request reply : List ℕ) (plate : Nameplate) (index : ℕ) : Type 0 where
    pub holds : Holds request reply plate.ratios index
    pub value : thirteen (item_at (asked_by holds.fits) index) (value_in plate.order (asked_by holds.fits) reply index) ≡ true

  -- the meter's error code, given after 11 whatever the index
  pub record GivesCode (request reply : List ℕ) (r : Ratios) (code : ℕ) : Type 0 where
    pub sound : Sound request reply r
    pub error : is_read_error reply ≡ true
    pub long : length reply ≡ 5
    pub says : third_of reply ≡ code
    pub some : 1 ≤ code
    pub most : code ≤ 3

  -- the reading of the item asked
  pub record Reads (request reply : List ℕ) (plate : Nameplate) (index : ℕ) (q : Quantity) : Type 0 where
    pub holds : Holds request reply plate.ratios index
    pub reading :
        reading_of (t_of plate.ratios) (item_at (asked_by holds.fits) index)
        (value_in plate.order (asked_by holds.fits) reply index) ≡ Reading q

  -- ---- a reply to a request, of which one item is asked, told a nameplate

  module _ (request reply : List ℕ) (plate : Nameplate) (index : ℕ) where
    -- the ratios on it
    abbrev r : Ratios
    r = plate.ratios

    -- what the collector gives
    abbrev given : Answer
    given = collector_in v request reply plate index

    -- the same in the paper's numbers
    abbrev pub ReplyGives : List ℕ → Type 0
    ReplyGives numbers = told given ≡ numbers

    -- STATEMENT: when each refusal is given, by its number and in the paper's reading order, first that applies, and no other number;
    -- when each error code; when each reading
    pub record RepliesWhen : Type 0 where
      pub row_3 : ReplyGives (refused_by 3) ↔ (ratios_ok r ≡ false)
      pub row_7 : ReplyGives (refused_by 7) ↔ ((ratios_ok r ≡ true) × (Asks request → ⊥))
      pub row_8 : ReplyGives (refused_by 8) ↔ (Asked request r × (length_wrong reply ≡ true))
      pub row_9 : ReplyGives (refused_by 9) ↔ (Asked request r × (length_wrong reply ≡ false) × (intact reply ≡ false))
      pub row_10 : ReplyGives (refused_by 10) ↔ ForeignReply request reply r
      pub row_11 : ReplyGives (refused_by 11) ↔ Misfits request reply r
      pub row_12 : ReplyGives (refused_by 12) ↔ Past request reply r index
      pub row_13 : ReplyGives (refused_by 13) ↔ Impossible request reply plate index
      pub only : (n : ℕ) → ReplyGives (refused_by n) → (n ≡ 3) ⊎ ((7 ≤ n) × (n ≤ 13))
      pub error : (code : ℕ) → ReplyGives (error_by code) ↔ GivesCode request reply r code
      pub reading : (q : Quantity) → (given ≡ Reading q) ↔ Reads request reply plate index q

    -- STATEMENT: nothing is read out of a reply whose CRC is wrong, whose address is another's, or whose words are not as many as were
    -- asked
    pub record NotMisread : Type 0 where
      pub reading :
          (q : Quantity) → given ≡ Reading q →
          (intact reply ≡ true) × (address_of reply ≡ address_of request) × (length reply ≡ 5 + 2 * word_number request)
      pub error : (code : ErrorCode) → given ≡ Error code → (intact reply ≡ true) × (address_of reply ≡ address_of request)

-- STATEMENT: when a join is refused with 3 (counts only) and then with 14, count, Low or High over its top, and with no other number
pub record JoinsWhen (r : Ratios) (c : Count) (wrap : ℕ) : Type 0 where
  pub row_3 : (join_told (join_of r c wrap) ≡ refused_by 3) ↔ (ratios_ok r ≡ false)
  pub row_14 : (join_told (join_of r c wrap) ≡ refused_by 14) ↔ ((ratios_ok r ≡ true) × (top_count < c.0))
  pub only : (n : ℕ) → join_told (join_of r c wrap) ≡ refused_by n → (n ≡ 3) ⊎ (n ≡ 14)
  pub halves : (low high n : ℕ) → (join_told (join_halves_of low high) ≡ refused_by n) ↔ ((n ≡ 14) × ((top_low < low) ⊎ (top_high < high)))
