-- Paper 01, "How tight the contracts are": for every input each public call has its answer, new record and buffer bytes determined, refused
-- calls too. The contract of most calls is one equation: the outcome, record and all, is a definition of the arguments, and two
-- outcomes that equal the same are equal. Six calls promise more than one thing. Each names all that its contract allows in one
-- predicate, which its `ensures` cites and which is spoken of here: a promise taken out of it leaves two outcomes allowed. `Meter::sound`
-- says of its two cases what its `ensures` says, word for word.
use Rattle.std.specs.Prelude.{◌≡◌, ℕ, Bool, false, List, Option, MatchOption, Result, ⊤}
use Rattle.refusal.specs.declared.Refusal.{Refusal}
use Rattle.refusal.specs.declared.ErrorCode.{ErrorCode}
use Rattle.crc.specs.Crc.{Put}
use Rattle.lines.specs.Lines.{FrameRead, TextPut}
use Rattle.counts.specs.declared.WattHours.{WattHours}
use Rattle.counts.specs.Counting.{join_told}
use Rattle.meter.specs.declared.Meter.{Meter}
use Rattle.meter.specs.declared.sound.Sound.{Sound}
use Rattle.meter.specs.Meters.{meter_ok, answer_told}
use Rattle.store.specs.Writes.{verdict_told}
use Rattle.board.specs.declared.Handled.{Handled}
use Rattle.board.specs.Board.{reply_told, Allowed, board_of}
use Rattle.transcript.specs.Transcript.{Transcribed}
use Rattle.replies.specs.declared.Unread.{Unread}
use Rattle.collector.specs.declared.Nameplate.{Nameplate}
use Rattle.collector.specs.Whole.{whole_told, Filled, whole_of}

-- STATEMENT: any two outcomes that a contract allows are equal: of `board::handle`, `crc::put`, `lines::frame`, `lines::text`,
-- `transcript::of` and `collector::read_whole`, and of `Meter::sound`
pub record Determined : Type 0 where
  pub frame :
      (m : Meter) (frame b : List ℕ) (x y : Handled) (p q : List ℕ) → Allowed (board_of m frame b) x p →
      Allowed (board_of m frame b) y q → (x ≡ y) × (p ≡ q)
  pub put : (before : List ℕ) (n : ℕ) (x y : Bool) (p q : List ℕ) → Put before n x p → Put before n y q → (x ≡ y) × (p ≡ q)
  pub line :
      (line before : List ℕ) (x y : Option ℕ) (p q : List ℕ) → FrameRead line before x p → FrameRead line before y q → (x ≡ y) × (p ≡ q)
  pub text :
      (frame before : List ℕ) (x y : Option ℕ) (p q : List ℕ) → TextPut frame before x p → TextPut frame before y q → (x ≡ y) × (p ≡ q)
  pub transcript :
      (input before : List ℕ) (x y : Option ℕ) (p q : List ℕ) → Transcribed input before x p → Transcribed input before y q →
      (x ≡ y) × (p ≡ q)
  pub whole :
      (request reply : List ℕ) (plate : Nameplate) (values kinds : List ℕ) (x y : Result ℕ Unread) (p q i j : List ℕ) →
      Filled (whole_of request reply plate values kinds) x p i → Filled (whole_of request reply plate values kinds) y q j →
      (x ≡ y) × (p ≡ q) × (i ≡ j)
  pub sound :
      (m : Meter) (x y : Option Sound) → MatchOption x (meter_ok m ≡ false) (λ sound. sound.meter ≡ m) →
      MatchOption y (meter_ok m ≡ false) (λ sound. sound.meter ≡ m) → x ≡ y

-- STATEMENT: the paper's numbers and values of an answer name one answer, so that a promise of them is a promise of the answer; of
-- a collector's answer it is `OneAnswerEach`
pub record Numbered : Type 0 where
  pub answers : (x y : Result ⊤ Refusal) → answer_told x ≡ answer_told y → x ≡ y
  pub verdicts : (x y : Option ErrorCode) → verdict_told x ≡ verdict_told y → x ≡ y
  pub replies : (x y : Result (Option ℕ) Refusal) → reply_told x ≡ reply_told y → x ≡ y
  pub joins : (x y : Result WattHours Refusal) → join_told x ≡ join_told y → x ≡ y
  pub wholes : (x y : Result ℕ Unread) → whole_told x ≡ whole_told y → x ≡ y
