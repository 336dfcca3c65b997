-- Paper 02, request 3: what a tenant can do and learn at the second address. It changes nothing, and it learns what the items for it show
-- and no more: two meters that are alike in these answer it alike, whatever else they hold. Request 5: alike in order too.
use Rattle.std.specs.Prelude.{◌≡◌, ◌↔◌, ◌⊎◌, ℕ, ◌+◌, ◌*◌, ◌≤◌, ◌<◌, true, false, cond, List, [], ◌∷◌, ◌++◌, length, get_or, replicate, Ok, Some}
use Rattle.crc.specs.Crc.{sealed, intact}
use Rattle.words.specs.declared.Order.TheVariants.{UpperFirst}
use Rattle.words.specs.Words.{exchanged}
use Rattle.ratio.specs.Ratios.{t_of}
use Rattle.ratio.specs.Steps.{step_of}
use Rattle.counts.specs.declared.Count.{Count}
use Rattle.counts.specs.Counting.{energy_of}
use Rattle.directory.specs.Item.{none}
use Rattle.directory.specs.Quantity.{quantity, energy_count}
use Rattle.directory.specs.Views.{View}
use Rattle.directory.specs.Tenant.{tenant_of}
use Rattle.modbus.specs.Frame.{address_of, function_of}
use Rattle.modbus.specs.Replies.{error_bytes}
use Rattle.reading.specs.declared.Quantity.TheVariants as read
use Rattle.reading.specs.declared.Answer.{Answer}
use Rattle.reading.specs.declared.Answer.TheVariants.{Reading}
use Rattle.meter.specs.declared.energies.Energy.{Energy}
use Rattle.meter.specs.declared.energies.Energies.{Energies}
use Rattle.meter.specs.declared.given.Given.{Given}
use Rattle.meter.specs.declared.Meter.{Meter}
use Rattle.meter.specs.Samples.{no_sample}
use Rattle.meter.specs.Groups.{no_setup, code_of}
use Rattle.meter.specs.Energies.{no_counters}
use Rattle.meter.specs.Meters.{meter_ok, new_of, energy_at}
use Rattle.registers.specs.Shown.{shown_of}
use Rattle.registers.specs.Typed.{Typed}
use Rattle.board.specs.Reads.{read_reply}
use Rattle.board.specs.Board.{Outcome, silent_of, sent_of, to_second, board_in}
use Rattle.demands.specs.Histories.{Event, after_all}
use Rattle.demands.specs.RoundTrip.{reply_to}
use Rattle.demands.specs.Demand3.{History, sooner, exact_at, Poll, collected}

-- two meters alike in second address, ratios, order (request 5), latest sample, energies (their whole Wh) and request 1's figures (average,
-- peak and open seconds): setup, own address, remainders and the open sum may differ
pub record Alike (m n : Meter) : Type 0 where
  pub second : m.given.second ≡ n.given.second
  pub ratios : m.given.ratios ≡ n.given.ratios
  pub order : m.given.order ≡ n.given.order
  pub latest : m.latest ≡ n.latest
  pub energies : (e : ℕ) → (energy_at e m).wh ≡ (energy_at e n).wh
  pub average : m.average.last ≡ n.average.last
  pub peak : m.average.peak ≡ n.average.peak
  pub seconds : m.average.window.seconds ≡ n.average.window.seconds

-- a frame names a meter's second address, and there is one: not 0
pub record NamesSecond (m : Meter) (frame : List ℕ) : Type 0 where
  pub some : m.given.second ≡ 0 → ⊥
  pub named : address_of frame ≡ m.given.second

-- STATEMENT: that is what the board takes for a frame to the second address, and no other: none to address 0, and none to a meter that has
-- no second address
pub record SecondNamed (m : Meter) (frame : List ℕ) : Type 0 where
  pub means : (to_second m.given frame ≡ true) ↔ NamesSecond m frame

-- a frame that is not damaged
pub record Sound (frame : List ℕ) : Type 0 where
  pub least : 4 ≤ length frame
  pub most : length frame ≤ 256
  pub crc : intact frame ≡ true

-- a meter with second address 9, one second after new
abbrev pub plain_meter : Meter
plain_meter =
    record {
      given = record { address = 1; second = 9; ratios = record { kta = 1; ktv = 10 }; order = UpperFirst };
      counters = no_counters;
      latest = no_sample;
      average = record { window = record { seconds = 1; sum = 0 }; last = 0; peak = 0 };
      setup = no_setup;
    }

-- no whole Wh, but the largest remainders
abbrev almost : Energies
almost =
    let e : Energy = record { wh = record { 0 = 0 }; remainder = 359999 } in
    record { positive = e; negative = e }

-- another, of another own address, with other remainders, another open sum and every setup word another
abbrev pub other_meter : Meter
other_meter =
    record {
      given = record { address = 2; second = 9; ratios = record { kta = 1; ktv = 10 }; order = UpperFirst };
      counters = record { active = almost; reactive = almost };
      latest = no_sample;
      average = record { window = record { seconds = 1; sum = 100 }; last = 0; peak = 0 };
      setup = record { standard = replicate 10 1 ++ (6 ∷ 3 ∷ 10 ∷ 10 ∷ 10 ∷ 1 ∷ []); output = replicate 21 1 ++ (5 ∷ 6 ∷ 1 ∷ []) };
    }

-- some events without the frames to the second address
unfoldable pub without_tenant : Given → List Event → List Event
without_tenant g [] = []
without_tenant g (Event.sample s ∷ xs) = Event.sample s ∷ without_tenant g xs
without_tenant g (Event.frame bytes buffer ∷ xs) =
    cond (to_second g bytes) (without_tenant g xs) (Event.frame bytes buffer ∷ without_tenant g xs)

-- ---- over a view: the directory and the most words that reads go by

module _ (v : View) where
  -- ---- a frame to the second address of a meter within limits, with room for the reply

  module _ (m : Meter) (frame b : List ℕ) where
    -- what the meter does with it
    abbrev answered : Outcome
    answered = board_in v m frame b

    -- such a frame
    pub record FromTenant : Type 0 where
      pub within : meter_ok m ≡ true
      pub room : 256 ≤ length b
      pub second : NamesSecond m frame

    -- STATEMENT: one that is damaged, or has function 0x80 or above, is met with silence; any other function but 0x03 is error 01, whatever
    -- the length; 0x03 is answered as ever, over the items for a tenant; and each reply is with that address
    pub record AtSecond : Type 0 where
      pub damaged : FromTenant → (length frame < 4) ⊎ (256 < length frame) ⊎ (intact frame ≡ false) → answered ≡ silent_of m b
      pub high : FromTenant → 0x80 ≤ function_of frame → answered ≡ silent_of m b
      pub unknown :
          FromTenant → Sound frame → function_of frame < 0x80 → (function_of frame ≡ 0x03 → ⊥) →
          answered ≡ sent_of (error_bytes frame 1) m b
      pub reads :
          FromTenant → Sound frame → function_of frame ≡ 0x03 →
          answered ≡ sent_of (read_reply (tenant_of v) m.given.order (shown_of m) frame) m b
      pub address : FromTenant → (n : ℕ) → answered.handled.reply ≡ Ok (Some n) → address_of (reply_to v m frame b) ≡ m.given.second

  -- STATEMENT: there are such frames, of every function and not damaged: four bytes
  pub record TenantAsks : Type 0 where
    pub from : (f : ℕ) → FromTenant plain_meter (sealed (9 ∷ f ∷ [])) (replicate 256 0)
    pub sound : (f : ℕ) → Sound (sealed (9 ∷ f ∷ []))

  -- STATEMENT: no frame to the second address changes the record, whatever it is; so a meter's history is the same without them
  pub record TenantAltersNothing : Type 0 where
    pub frame : (m : Meter) (frame b : List ℕ) → NamesSecond m frame → (board_in v m frame b).handled.meter ≡ m
    pub events : (m : Meter) (xs : List Event) → after_all v m xs ≡ after_all v m (without_tenant m.given xs)

  -- two meters give a frame the same answer and the same reply bytes, whatever the two buffers hold
  pub record SameReply (m n : Meter) (frame a b : List ℕ) : Type 0 where
    pub answer : (board_in v m frame a).handled.reply ≡ (board_in v n frame b).handled.reply
    pub bytes : reply_to v m frame a ≡ reply_to v n frame b

  -- two meters answer every frame to the second address alike
  abbrev pub SameToTenant : Meter → Meter → Type 0
  SameToTenant m n =
      (frame a b : List ℕ) → NamesSecond m frame → 256 ≤ length a → 256 ≤ length b → SameReply m n frame a b

  -- two meters show a tenant the same
  abbrev pub ShowTheSame : Meter → Meter → Type 0
  ShowTheSame m n =
      (i : ℕ) → i < length (tenant_of v).seen →
      shown_of m (get_or (tenant_of v).seen i none).quantity ≡ shown_of n (get_or (tenant_of v).seen i none).quantity

  -- STATEMENT: two meters within limits, alike in what request 3 names, answer every frame to the second address alike, however their
  -- setup, own addresses and remainders differ; so do accepted new meters after any events that leave them alike; and so does a meter
  -- before and after any frame to any address, unless this changes the code at 0x200a, which opens a new window. (Of a view that
  -- hides setup: `hides`.)
  pub record AnswersAlike : Type 0 where
    pub alike : (m n : Meter) → meter_ok m ≡ true → meter_ok n ≡ true → Alike m n → SameToTenant m n
    pub always :
        (g h : Given) (xs ys : List Event) → (new_of g).answer ≡ Ok tt → (new_of h).answer ≡ Ok tt →
        Alike (after_all v (new_of g).meter xs) (after_all v (new_of h).meter ys) →
        SameToTenant (after_all v (new_of g).meter xs) (after_all v (new_of h).meter ys)
    pub frame :
        (m : Meter) (frame b : List ℕ) → meter_ok m ≡ true →
        code_of (board_in v m frame b).handled.meter.setup ≡ code_of m.setup →
        SameToTenant m (board_in v m frame b).handled.meter

  -- STATEMENT: a tenant learns what the items for it show, and no more: two meters within limits of the same second address and order
  -- answer it alike exactly when these show the same; two of different orders only if what every L for it shows of the one is that of the
  -- other with its words exchanged (request 5)
  pub record TenantLearns : Type 0 where
    pub no_more :
        (m n : Meter) → meter_ok m ≡ true → meter_ok n ≡ true → m.given.second ≡ n.given.second → m.given.order ≡ n.given.order →
        ShowTheSame m n → SameToTenant m n
    pub no_less :
        (m n : Meter) → meter_ok m ≡ true → meter_ok n ≡ true → Typed m → Typed n → m.given.second ≡ n.given.second →
        m.given.order ≡ n.given.order → (m.given.second ≡ 0 → ⊥) → SameToTenant m n → ShowTheSame m n
    pub other_order :
        (m n : Meter) → meter_ok m ≡ true → meter_ok n ≡ true → Typed m → Typed n → m.given.second ≡ n.given.second →
        (m.given.order ≡ n.given.order → ⊥) → (m.given.second ≡ 0 → ⊥) → SameToTenant m n →
        (i : ℕ) → i < length (tenant_of v).seen → (get_or (tenant_of v).seen i none).words ≡ 2 →
        shown_of m (get_or (tenant_of v).seen i none).quantity ≡ exchanged (shown_of n (get_or (tenant_of v).seen i none).quantity)

  -- a register read alone, without its wrap: never above the exact energy and, while it has not wrapped, below it by less than one step
  pub record CountAlone (h : History v) (e : ℕ) (register : Answer) : Type 0 where
    pub count : Count
    pub reads : register ≡ Reading (read.Energy count (step_of (t_of h.given.ratios)) (energy_of (t_of h.given.ratios) count.0))
    pub above : (energy_of (t_of h.given.ratios) count.0).0 * 360000 ≤ exact_at v e h
    pub below :
        exact_at v e h < 100000000 * step_of (t_of h.given.ratios) * 360000 →
        exact_at v e h < ((energy_of (t_of h.given.ratios) count.0).0 + step_of (t_of h.given.ratios)) * 360000

  -- STATEMENT: each of the four energies is read so, in any history, wherever its register stands and at either address
  abbrev pub CountsAlone : Type 0
  CountsAlone =
      (h : History v) (e : ℕ) → e < 4 → (p : Poll v h.given (quantity energy_count e)) →
      CountAlone h e (collected v (sooner v h) p)

-- STATEMENT: there are two such meters: within limits, alike to a tenant, and unlike in all that it must not see
pub record UnlikeButAlike : Type 0 where
  pub plain : meter_ok plain_meter ≡ true
  pub other : meter_ok other_meter ≡ true
  pub alike : Alike plain_meter other_meter
