-- Paper 01, "What the meter does with a frame", step 4, over any directory: where a read starts, and the run of its items.
use Rattle.std.specs.Prelude.{◌≡◌, ℕ, zero, suc, ◌+◌, ◌≤◌, List, [], ◌∷◌, Bool, cond, length, get_or, take, drop, eqb, Option, Some, None, Result, Ok, Err}
use Rattle.refusal.specs.declared.ErrorCode.{ErrorCode}
use Rattle.refusal.specs.declared.ErrorCode.TheVariants.{Address, Data}
use Rattle.directory.specs.declared.Item.{Item}
use Rattle.directory.specs.declared.Span.{Span}
use Rattle.directory.specs.Item.{none, ends}

-- the first item, by its index, and how many
abbrev pub span : ℕ → ℕ → Span
span first count = record { first = first; count = count }

-- the index, counted from i, of the first item that starts at an address
unfoldable pub find_in : List Item → ℕ → ℕ → Option ℕ
find_in [] address i = None
find_in (it ∷ its) address i = cond (eqb it.start address) (Some i) (find_in its address (i + 1))

-- no item starts there: error 02; else it goes on with the item that was found
abbrev pub on_item : List Item → Option ℕ → (ℕ → Item → Result Span ErrorCode) → Result Span ErrorCode
on_item dir None go = Err Address
on_item dir (Some i) go = go i (get_or dir i none)

-- L is sent as two words
abbrev pub is_l : Item → Bool
is_l it = eqb it.words 2

-- the run goes item by item, each next starting where the one before ends: `count` items are passed, and some words are
-- still due at an address. If only the first half of an L is due: error 03
unfoldable pub run_from : List Item → ℕ → ℕ → ℕ → ℕ → Result Span ErrorCode
run_from dir first count address zero = Ok (span first count)
run_from dir first count address (suc zero) =
    on_item dir (find_in dir address 0)
    (λ _ it. cond (is_l it)
    (Err Data)
    (Ok (span first (count + 1))))
run_from dir first count address (suc (suc due)) =
    on_item dir (find_in dir address 0)
    (λ _ it. cond (is_l it)
    (run_from dir first (count + 1) (ends it) due)
    (run_from dir first (count + 1) (ends it) (suc due)))

-- start not the first address of an item: error 02; else the run from there, for the words asked
unfoldable pub run_in : List Item → ℕ → ℕ → Result Span ErrorCode
run_in dir start words = on_item dir (find_in dir start 0) (λ first _. run_from dir first 0 start words)

-- the items of a run
abbrev pub run_items : List Item → ℕ → ℕ → List Item
run_items dir first count = take count (drop first dir)

-- the words that some items send
unfoldable pub words_of : List Item → ℕ
words_of [] = 0
words_of (it ∷ its) = it.words + words_of its

-- STATEMENT: over any directory, the items of a run stand in it, and send just the words asked
pub record RunSends (dir : List Item) (words first count : ℕ) : Type 0 where
  pub inside : first + count ≤ length dir
  pub sends : words_of (run_items dir first count) ≡ words
