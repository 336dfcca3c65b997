-- Each item of the directory can be asked for by itself, so no promise of a read is empty: the places of `ThreeTables` among them; and
-- each item for a tenant at the second address (paper 02, request 3).
use Rattle.directory.specs.Run.{span}
use Rattle.std.specs.Prelude.{◌≡◌, ℕ, ◌≤◌, ◌<◌, true, List, [], ◌∷◌, ◌++◌, length, get_or, Ok}
use Rattle.crc.specs.Crc.{sealed}
use Rattle.words.specs.Words.{word}
use Rattle.directory.specs.declared.Item.{Item}
use Rattle.directory.specs.Item.{none}
use Rattle.directory.specs.Views.{View}
use Rattle.directory.specs.Tenant.{tenant_of}
use Rattle.modbus.specs.Frame.{is_read}
use Rattle.modbus.specs.Read.{read_in}
use Rattle.meter.specs.declared.Meter.{Meter}
use Rattle.meter.specs.Meters.{meter_ok}
use Rattle.replies.specs.Judged.{heard}
use Rattle.demands.specs.RoundTrip.{reply_to}

-- the read of one item
abbrev pub request_for : ℕ → Item → List ℕ
request_for address it = sealed ((address ∷ 0x03 ∷ []) ++ word it.start ++ word it.words)

-- ---- over a view: the directory and the most words that reads go by

module _ (v : View) where
  -- STATEMENT: each item is heard and found by its read, which a meter within limits answers with data, at the second address too if it
  -- is for a tenant: it neither refuses nor stays silent
  pub record EveryItemPolled : Type 0 where
    pub hears : (address i : ℕ) → 1 ≤ address → i < length v.seen → heard (request_for address (get_or v.seen i none)) ≡ true
    pub items : (address i : ℕ) → i < length v.seen → read_in v (request_for address (get_or v.seen i none)) ≡ Ok (span i 1)
    pub data_sent :
        (m : Meter) (i : ℕ) (b : List ℕ) → meter_ok m ≡ true → i < length v.seen → 256 ≤ length b →
        is_read (reply_to v m (request_for m.given.address (get_or v.seen i none)) b) ≡ true
    pub tenant_sent :
        (m : Meter) (i : ℕ) (b : List ℕ) → meter_ok m ≡ true → (m.given.second ≡ 0 → ⊥) → i < length (tenant_of v).seen → 256 ≤ length b →
        is_read (reply_to v m (request_for m.given.second (get_or (tenant_of v).seen i none)) b) ≡ true
