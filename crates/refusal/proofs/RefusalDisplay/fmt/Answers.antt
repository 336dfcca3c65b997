-- A refusal is printed as its number and its row's words, of which each arm has its own.
use Rattle.std.proofs.Common.{◌≡◌, refl, rules}
use Rattle.std.proofs.Output.{has_written_append, has_written_of_eq}
use Rattle.refusal.specs.Words.{refusal_words}
use Rattle.refusal.proofs.RefusalDisplay.fmt.Goals as goal
use Rattle.refusal.proofs.RefusalDisplay.fmt.Goals.{in-MeterOutOfLimits, in-BufferShort, in-RatioOutOfLimits, in-OwnAddressZero, in-SampleOutOfLimits, in-EnergyPastTop, in-NotARead, in-ReplyLength, in-ReplyCrc, in-ReplyForeign, in-ReplyMisfit, in-IndexPastItems, in-ValueImpossible, in-JoinPastTop, in-RowShort}

pub returns-clause-writes : goal.returns-clause-writes
returns-clause-writes g c =
    let words : c.match-self.write_str.now ≡ refusal_words c.args.self.now = elim c.match-self.branch [
      | in-MeterOutOfLimits w ↦ search rules
      | in-BufferShort w ↦ search rules
      | in-RatioOutOfLimits w ↦ search rules
      | in-OwnAddressZero w ↦ search rules
      | in-SampleOutOfLimits w ↦ search rules
      | in-EnergyPastTop w ↦ search rules
      | in-NotARead w ↦ search rules
      | in-ReplyLength w ↦ search rules
      | in-ReplyCrc w ↦ search rules
      | in-ReplyForeign w ↦ search rules
      | in-ReplyMisfit w ↦ search rules
      | in-IndexPastItems w ↦ search rules
      | in-ValueImpossible w ↦ search rules
      | in-JoinPastTop w ↦ search rules
      | in-RowShort w ↦ search rules
    ] in
    λ plain ok.
    let first = c.in_ok-write.ensures.writes plain (search rules) in
    let last = c.write_str.ensures.writes first.plain ok in
    has_written_of_eq _ _ _ _ _ (rw (words, c.number.ensures) refl) (has_written_append _ _ _ _ _ _ first last)
