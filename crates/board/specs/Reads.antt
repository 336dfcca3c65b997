-- Paper 01, "What the meter does with a frame", step 4: the reply to a read.
use Rattle.std.specs.Prelude.{ℕ, ◌*◌, List, [], ◌∷◌, ◌++◌, Result, Ok, Err}
use Rattle.refusal.specs.declared.ErrorCode.{ErrorCode}
use Rattle.crc.specs.Crc.{sealed}
use Rattle.words.specs.declared.Order.{Order}
use Rattle.words.specs.Words.{sent}
use Rattle.directory.specs.declared.Item.{Item}
use Rattle.directory.specs.declared.Span.{Span}
use Rattle.directory.specs.Run.{run_items}
use Rattle.directory.specs.Views.{View}
use Rattle.modbus.specs.Frame.{address_of, function_of, word_number}
use Rattle.modbus.specs.Read.{read_in}
use Rattle.modbus.specs.Replies.{error_reply}

-- the words of some items, one item behind the other, each with what is shown of its quantity: L two words in an order, W and B one
unfoldable pub items_sent : Order → (ℕ → ℕ) → List Item → List ℕ
items_sent o shown [] = []
items_sent o shown (it ∷ its) = sent o it.words (shown it.quantity) ++ items_sent o shown its

-- data: address, function, byte number, the words
abbrev pub data_reply : List ℕ → List ℕ → List ℕ
data_reply frame words = sealed (address_of frame ∷ function_of frame ∷ 2 * word_number frame ∷ words)

-- the reply to a read: an error, or else data
abbrev pub read_bytes : View → Order → (ℕ → ℕ) → List ℕ → Result Span ErrorCode → List ℕ
read_bytes v o shown frame (Err code) = error_reply frame code
read_bytes v o shown frame (Ok asked) = data_reply frame (items_sent o shown (run_items v.seen asked.first asked.count))

-- 4. the reply to a frame that is a read, as it is judged over a view
abbrev pub read_reply : View → Order → (ℕ → ℕ) → List ℕ → List ℕ
read_reply v o shown frame = read_bytes v o shown frame (read_in v frame)
