-- What programs ask a meter, and how they hear what a board or a collector answers.
use Rattle.std.specs.Prelude.{◌≡◌, ℕ, ◌/◌, ◌%◌, List, [], ◌∷◌, ◌++◌, length, take, replicate, Result, Ok, Err, Option, Some, None}
use Rattle.std.specs.Borrow.{Bor}
use Rattle.crc.specs.Crc.{sealed}
use Rattle.refusal.specs.declared.Refusal.{Refusal}
use Rattle.board.specs.Board.{Outcome}
use Rattle.reading.specs.declared.Quantity.{Quantity}
use Rattle.reading.specs.declared.Answer.{Answer}
use Rattle.reading.specs.declared.Answer.TheVariants as answer
use Rattle.replies.specs.declared.Unread.{Unread}
use Rattle.replies.specs.declared.Unread.TheVariants as unread

-- a read of some words
abbrev pub read_of : ℕ → ℕ → ℕ → List ℕ
read_of address start words = sealed (address ∷ 0x03 ∷ start / 256 ∷ start % 256 ∷ 0 ∷ words ∷ [])

-- a write of the 16 words from 0x2000 on, all 0 but the ones at 0x2003 and 0x200a
abbrev pub write_of : ℕ → ℕ → ℕ → List ℕ
write_of address word code =
    let head = address ∷ 0x10 ∷ 0x20 ∷ 0x00 ∷ 0x00 ∷ 16 ∷ 32 ∷ [] in
    sealed (head ++ replicate 7 0 ++ word ∷ replicate 13 0 ++ code ∷ replicate 10 0)

-- the bytes of a board's reply, its silence, or its refusal
abbrev pub HeardOf : Outcome → Result (Option (Bor (List ℕ))) Refusal → Type 0
HeardOf o (Ok (Some reply)) = (o.handled.reply ≡ Ok (Some (length reply.now))) × (reply.now ≡ take (length reply.now) o.buffer)
HeardOf o (Ok None) = o.handled.reply ≡ Ok None
HeardOf o (Err reason) = o.handled.reply ≡ Err reason

-- the collector's answer, of what a program takes it as
abbrev pub answer_of : Result Quantity Unread → Answer
answer_of (Ok quantity) = answer.Reading quantity
answer_of (Err (unread.Error code)) = answer.Error code
answer_of (Err (unread.Refused reason)) = answer.Refused reason
