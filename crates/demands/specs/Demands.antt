-- The customer's three demands: what each is in one line, and the statements that it comes to. Every STATEMENT of the tree is a part.
use Rattle.std.specs.Prelude.{◌≡◌, Bool, true, List, ℕ, T, Ok}
use Rattle.refusal.specs.Numbers.{OneReasonEach}
use Rattle.crc.specs.Crc.{CrcFits, IntactIsSealed, Put, PutSeals}
use Rattle.words.specs.Words.{ByteSent, ReadBack, Orders}
use Rattle.words.specs.Signed.{SignedBack}
use Rattle.lines.specs.Lines.{TextBack}
use Rattle.ratio.specs.declared.Ratios.{Ratios}
use Rattle.ratio.specs.Steps.{RowsMeet, StepRows}
use Rattle.counts.specs.declared.Count.{Count}
use Rattle.counts.specs.Counting.{JoinSplit}
use Rattle.directory.specs.declared.Item.{Item}
use Rattle.directory.specs.Order.{ruled, tested}
use Rattle.directory.specs.Rules.{DirectoryRules}
use Rattle.directory.specs.Run.{run_in, RunSends, span}
use Rattle.directory.specs.Views.{View, passes}
use Rattle.directory.specs.Tenant.{hides, TenantSees}
use Rattle.own.specs.OwnRules.{OwnPasses, TenantView, ThreeTables, AveragePlaces}
use Rattle.own.specs.Kinds.{KindsInOrder}
use Rattle.directory.specs.Bites.{TestsBite}
use Rattle.modbus.specs.Read.{ReadWhen, TenantReads}
use Rattle.reading.specs.Told.{OneAnswerEach}
use Rattle.collector.specs.declared.Nameplate.{Nameplate}
use Rattle.collector.specs.When.{RepliesWhen, NotMisread, JoinsWhen}
use Rattle.collector.specs.Whole.{WholeWhen, OneByOne}
use Rattle.average.specs.declared.Average.{Average}
use Rattle.average.specs.Windows.{WindowLengths, AverageLimits, LimitsBite}
use Rattle.meter.specs.declared.samples.Sample.{Sample}
use Rattle.meter.specs.declared.groups.Setup.{Setup}
use Rattle.meter.specs.declared.given.Given.{Given}
use Rattle.meter.specs.declared.Meter.{Meter}
use Rattle.meter.specs.Energies.{ZeroToNeither}
use Rattle.meter.specs.Meters.{meter_ok}
use Rattle.meter.specs.Carried.{SumsCarried}
use Rattle.meter.specs.Accepts.{NewAnswers, AddressLimits, SampleAnswers, SetupIdle, CodeCounts}
use Rattle.store.specs.Writes.{WriteWhen}
use Rattle.transcript.specs.Transcript.{TextWritten}
use Rattle.registers.specs.Typed.{Typed, EveryCase, SetupUnseen}
use Rattle.demands.specs.Frames.{FramesWhen, Obeys, Untouched, WindowOpened, RepliesSealed, BufferUnseen}
use Rattle.demands.specs.RoundTrip.{Meets, WithData, RoundTrip}
use Rattle.demands.specs.Histories.{TypesKept, AfterEvents, SetupIdleAlways}
use Rattle.demands.specs.Polled.{EveryItemPolled}
use Rattle.demands.specs.Demand3.{Demand3}
use Rattle.demands.specs.LastRows.{LastRows, LastRatios, FirstRows}
use Rattle.demands.specs.Tenant.{SecondNamed, AtSecond, TenantAsks, TenantAltersNothing, AnswersAlike, TenantLearns, CountsAlone, UnlikeButAlike}
use Rattle.demands.specs.Averages.{AveragesAlways}
use Rattle.demands.specs.NotEmpty.{NotEmpty, ReadsAlways}
use Rattle.demands.specs.Wholes.{WholeAlways, WholeDemand3}
use Rattle.demands.specs.Determined.{Determined, Numbered}
use Rattle.demands.specs.ShutOut.{ShutOut}
use Rattle.demands.specs.Starred.{ExamplesHold}
use Rattle.demands.specs.Orders.{OrdersAlways, VoltsRead, VoltsPolled, OrderExamples}

-- what is said of every view that passes the tests, paper 01's own among them (`OwnPasses.passed`)
abbrev pub EveryView : (View → Type 0) → Type 0
EveryView Of = (v : View) → T (passes v) → Of v

-- of every frame and buffer handed to any meter
abbrev pub EveryFrame : (View → Meter → List ℕ → List ℕ → Type 0) → Type 0
EveryFrame Of = EveryView (λ v. (m : Meter) (frame buffer : List ℕ) → Of v m frame buffer)

-- of every request to a meter within limits, of the address that it names, with room for the reply
abbrev pub EveryMeeting : (View → Meter → List ℕ → List ℕ → Type 0) → Type 0
EveryMeeting Of = EveryView (λ v. (m : Meter) (request buffer : List ℕ) → Meets m request buffer → Of v m request buffer)

-- of every reply to any request, whatever the nameplate told and the item asked
abbrev pub EveryReply : (View → List ℕ → List ℕ → Nameplate → ℕ → Type 0) → Type 0
EveryReply Of = EveryView (λ v. (request reply : List ℕ) (plate : Nameplate) (index : ℕ) → Of v request reply plate index)

-- and whatever the two rows lent
abbrev pub EveryRows : (View → List ℕ → List ℕ → Nameplate → List ℕ → List ℕ → Type 0) → Type 0
EveryRows Of = EveryView (λ v. (request reply : List ℕ) (plate : Nameplate) (values kinds : List ℕ) → Of v request reply plate values kinds)

-- STATEMENT: demand 1: no frame, sample, record or reply stops the board or the collector, and what is damaged, foreign or refused
-- leaves the meter and the reply buffer untouched, but for the error reply due. (That no call stops: none has a requires, and each
-- is proved to return its definition's outcome.)
pub record Demand1 : Type 0 where
  pub samples : (m : Meter) (s : Sample) → SampleAnswers m s
  pub frames : EveryFrame Untouched
  pub unseen : EveryFrame BufferUnseen
  pub replies : EveryReply NotMisread
  pub records : EveryView AfterEvents

-- STATEMENT: what board and collector share: the numbers of answers, CRC, words, steps, directory, lines
pub record Ground : Type 0 where
  pub reasons : OneReasonEach
  pub answers : OneAnswerEach
  pub numbered : Numbered
  pub crc : CrcFits
  pub damaged : IntactIsSealed
  pub put : (before : List ℕ) (n : ℕ) (room : Bool) (after : List ℕ) → Put before n room after → PutSeals before n room after
  pub bytes : ByteSent
  pub words : ReadBack
  pub orders : Orders
  pub signed : SignedBack
  pub rows : RowsMeet
  pub steps : StepRows
  pub directory : (dir : List Item) → T (tested dir) → DirectoryRules dir
  pub own : OwnPasses
  pub tests : TestsBite
  pub kinds : KindsInOrder
  pub places : ThreeTables
  pub average_places : AveragePlaces
  pub runs :
      (dir : List Item) (start words first count : ℕ) → T (ruled dir) → run_in dir start words ≡ Ok (span first count) →
      RunSends dir words first count
  pub lines : TextBack

-- STATEMENT: demand 2, its first half: every reply is, byte for byte, the one that paper 01 gives
pub record Replies : Type 0 where
  pub new_meters : (g : Given) → NewAnswers g
  pub addresses : (m : Meter) → AddressLimits m
  pub frames : EveryFrame FramesWhen
  pub obeys : EveryFrame Obeys
  pub whole : EveryFrame RepliesSealed
  pub reads : (v : View) (frame : List ℕ) → ReadWhen v frame
  pub writes : (m : Meter) (frame : List ℕ) → WriteWhen m frame
  pub shown : (m : Meter) → Typed m → meter_ok m ≡ true → EveryCase m
  pub sums : (s : Sample) → SumsCarried s
  pub zero : ZeroToNeither
  pub window_lengths : WindowLengths
  pub averages : (t code : ℕ) (a : Average) → AverageLimits t code a
  pub average_limits : LimitsBite
  pub setup_idle : (m : Meter) (s : Sample) (setup : Setup) (a : Average) → SetupIdle m s setup a
  pub setup_always : EveryView SetupIdleAlways
  pub code_counts : CodeCounts
  pub windows : EveryFrame WindowOpened
  pub setup_unseen : (m : Meter) (setup : Setup) → SetupUnseen m setup

-- STATEMENT: demand 2, its second half: the collector turns each reply into the one reading assigned, or the one refusal
pub record Readings : Type 0 where
  pub answers : EveryReply RepliesWhen
  pub joins : (r : Ratios) (c : Count) (wrap : ℕ) → JoinsWhen r c wrap
  pub split : JoinSplit
  pub with_data : EveryMeeting WithData
  pub readings : EveryMeeting RoundTrip
  pub typed : EveryView TypesKept
  pub always : EveryView ReadsAlways
  pub averages : EveryView AveragesAlways
  pub first_rows : EveryView FirstRows
  pub last_rows : EveryView LastRows
  pub last_ratios : EveryView LastRatios

-- STATEMENT: demand 2, with what both halves rest on; each call's outcome is determined, the paper's examples come out, and `bench`
-- writes the text that the paper asks for
pub record Demand2 : Type 0 where
  pub ground : Ground
  pub replies : Replies
  pub readings : Readings
  pub determined : Determined
  pub examples : ExamplesHold
  pub bench : TextWritten

-- STATEMENT: request 3, of the second address: what a tenant sees, which frames are its, what is done with them, that they alter nothing,
-- that two meters which are alike answer it alike, and just what it learns; what a register is worth that it reads alone. (That every
-- item for it is read as its quantity is in `RoundTrip`, `ReadsAlways` and `EveryItemPolled`, of either address.)
pub record Tenants : Type 0 where
  pub view : TenantView
  pub sees : EveryView TenantSees
  pub reads : EveryView (λ v. (frame : List ℕ) → TenantReads v frame)
  pub named : (m : Meter) (frame : List ℕ) → SecondNamed m frame
  pub frames : EveryFrame AtSecond
  pub asks : EveryView TenantAsks
  pub alters_nothing : EveryView TenantAltersNothing
  pub alike : (v : View) → T (passes v) → T (hides v) → AnswersAlike v
  pub unlike : UnlikeButAlike
  pub learns : EveryView TenantLearns
  pub counts : EveryView CountsAlone

-- STATEMENT: request 4, of the call for a whole reply: when it gives what, that it is asking one by one and loses no reading, that every
-- reply of a meter is read by it, and demand 3 of what stands in the rows
pub record Wholes : Type 0 where
  pub when : EveryRows WholeWhen
  pub one_by_one : EveryRows OneByOne
  pub always : EveryView WholeAlways
  pub energies : EveryView WholeDemand3

-- STATEMENT: request 5, of the order of words: which one a meter has, what is read where both ends name the same and where they do not,
-- that there is an L that shows it, and examples. (What an order is to words is `Orders`; that each reply goes by the record's, at either
-- address, is `Obeys.reads`; demand 3 and the round trip are told the meter's own, `plate_of`.)
pub record BuyersOrder : Type 0 where
  pub always : EveryView OrdersAlways
  pub volts : EveryView VoltsRead
  pub polled : VoltsPolled
  pub examples : OrderExamples

-- STATEMENT: the three; demand 3: one energy, read in any of the three places, is never above the exact energy of the samples
-- accepted so far, and below it by less than one step. None of it is empty, and it leaves no room for the wrong meters that the
-- paper names
pub record Demands : Type 0 where
  pub one : Demand1
  pub two : Demand2
  pub three : EveryView Demand3
  pub polled : EveryView EveryItemPolled
  pub not_empty : EveryView NotEmpty
  pub tight : EveryView ShutOut
  pub tenants : Tenants
  pub wholes : Wholes
  pub buyers_order : BuyersOrder
