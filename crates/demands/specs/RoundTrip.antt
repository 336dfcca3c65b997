-- Board and collector together: what refusal 7 means by "answers with data" (paper 01, "Refusal numbers"), and the round trip from a
-- meter's record through the bytes of its reply to the reading (demand 2).
use Rattle.refusal.specs.declared.Refusal.{Refusal}
use Rattle.std.specs.Prelude.{◌≡◌, ◌↔◌, ◌⊎◌, ℕ, ◌≤◌, ◌<◌, true, false, List, [], length, take, Err, None, Ok, Some, Option, Result}
use Rattle.refusal.specs.Numbers.{refused_by, error_by}
use Rattle.ratio.specs.Ratios.{ratios_ok}
use Rattle.directory.specs.Views.{View}
use Rattle.modbus.specs.Frame.{address_of, is_read}
use Rattle.modbus.specs.Replies.{error_bytes}
use Rattle.meter.specs.declared.given.Given.{Given}
use Rattle.meter.specs.declared.Meter.{Meter}
use Rattle.meter.specs.Meters.{meter_ok}
use Rattle.registers.specs.Typed.{Typed}
use Rattle.board.specs.Board.{to_second, board_in}
use Rattle.reading.specs.declared.Answer.TheVariants.{Reading}
use Rattle.collector.specs.declared.Nameplate.{Nameplate}
use Rattle.collector.specs.Collector.{collector_in}
use Rattle.collector.specs.When.{Asks, Asked, item_at, ReplyGives}
use Rattle.demands.specs.Frames.{seen_by}
use Rattle.demands.specs.Meaning.{meaning_of}

-- the bytes of a reply, at the start of the buffer; none where there is no reply
abbrev pub reply_in : Result (Option ℕ) Refusal → List ℕ → List ℕ
reply_in (Ok None) buffer = []
reply_in (Err reason) buffer = []
reply_in (Ok (Some n)) buffer = take n buffer

-- a request names a meter by its own address, or by its second
abbrev pub Names : Given → List ℕ → Type 0
Names g request = (address_of request ≡ g.address) ⊎ (to_second g request ≡ true)

-- a meter's own nameplate: its ratios and its order, by what it was given
abbrev pub plate_of : Given → Nameplate
plate_of g = record { ratios = g.ratios; order = g.order }

-- a meter within limits, which a request names, with room for its reply
pub record Meets (m : Meter) (request b : List ℕ) : Type 0 where
  pub within : meter_ok m ≡ true
  pub room : 256 ≤ length b
  pub named : Names m.given request

-- ---- over a view: the directory and the most words that reads go by

module _ (v : View) where
  -- what a meter replies to a request
  abbrev pub reply_to : Meter → List ℕ → List ℕ → List ℕ
  reply_to m request b = reply_in (board_in v m request b).handled.reply (board_in v m request b).buffer

  -- ---- a meter within limits, which a request names, with room for its reply

  module _ (m : Meter) (request b : List ℕ) where
    -- STATEMENT: the requests that the collector takes for a read that a meter of that own address answers with data are just those
    -- that every such meter answers with data, a reply of function 0x03; at the second address, just the reads of items for a tenant
    pub record WithData : Type 0 where
      pub same : Asks (seen_by v m request) request ↔ (is_read (reply_to m request b) ≡ true)
      pub own : address_of request ≡ m.given.address → Asks v request ↔ (is_read (reply_to m request b) ≡ true)

    -- STATEMENT: told the meter's own nameplate, the collector gives for every index just the reading of that item's quantity, and 12 past
    -- the items; an error reply to such a request gives its code, whatever the index; a request that the own address does not answer
    -- with data is 7, whatever the reply. The collector is not told which address it is: where the own would answer with data and
    -- the second does not, the meter's reply gives code 02
    pub record RoundTrip : Type 0 where
      pub reads :
          (index : ℕ) → Typed m → (a : Asks (seen_by v m request) request) → index < a.count →
          collector_in v request (reply_to m request b) (plate_of m.given) index
          ≡ Reading (meaning_of m (item_at (seen_by v m request) a index).quantity)
      pub past :
          (index : ℕ) → (a : Asks (seen_by v m request) request) → a.count ≤ index →
          ReplyGives v request (reply_to m request b) (plate_of m.given) index (refused_by 12)
      pub error :
          (plate : Nameplate) (index code : ℕ) → Asked v request plate.ratios → 1 ≤ code → code ≤ 3 →
          ReplyGives v request (error_bytes request code) plate index (error_by code)
      pub other :
          (reply : List ℕ) (plate : Nameplate) (index : ℕ) → ratios_ok plate.ratios ≡ true → address_of request ≡ m.given.address →
          is_read (reply_to m request b) ≡ false → ReplyGives v request reply plate index (refused_by 7)
      pub not_for_tenant :
          (plate : Nameplate) (index : ℕ) → Asked v request plate.ratios → is_read (reply_to m request b) ≡ false →
          ReplyGives v request (reply_to m request b) plate index (error_by 2)
