-- Paper 02, request 3: what a tenant sees of a directory. Which items it sees goes by their addresses, what it must not see by their
-- quantities: that the two agree is a computed test of a view.
use Rattle.std.specs.Prelude.{◌≡◌, ◌↔◌, ℕ, suc, ◌/◌, ◌<◌, Bool, true, ◌&&◌, ◌||◌, not, cond, List, [], ◌∷◌, leb, eqb, length, get_or, take}
use Rattle.directory.specs.declared.Item.{Item}
use Rattle.directory.specs.Item.{none, in_bytes, ends}
use Rattle.directory.specs.Quantity.{quantity, low, high, wrap, plain, word_identifier, setup2000}
use Rattle.directory.specs.Order.{every}
use Rattle.directory.specs.Views.{View}

-- the byte block, and words 0x1000 to 0x103d
abbrev pub for_tenant : Item → Bool
for_tenant it = in_bytes it || (leb 0x1000 it.start && leb (ends it) 0x103e)

-- how many items, from the first on, pass a test
unfoldable pub leading : (Item → Bool) → List Item → ℕ
leading test [] = 0
leading test (it ∷ its) = cond (test it) (suc (leading test its)) 0

-- a tenant's view: the first items of the directory, as far as they are for it, and as many words
abbrev pub tenant_of : View → View
tenant_of v = record { seen = take (leading for_tenant v.seen) v.seen; most = v.most }

-- setup is hidden, and with it wraps, exact halves and the identifier 0x1114; setup words are numbered last
abbrev pub hidden : ℕ → Bool
hidden q =
    leb (quantity plain (setup2000 0)) q || eqb q (quantity plain word_identifier) ||
    eqb (q / 64) wrap || eqb (q / 64) low || eqb (q / 64) high

-- its test: none of the items that a tenant sees shows any of that
abbrev pub hides : View → Bool
hides v = every (λ (it : Item). not (hidden it.quantity)) (tenant_of v).seen

-- STATEMENT: of a view that passes the tests, a tenant sees the items for it, all of these and no other: they are the first
pub record TenantSees (v : View) : Type 0 where
  pub just :
      (i : ℕ) → i < length v.seen →
      (i < length (tenant_of v).seen) ↔ (for_tenant (get_or v.seen i none) ≡ true)
  pub same : (i : ℕ) → i < length (tenant_of v).seen → get_or (tenant_of v).seen i none ≡ get_or v.seen i none
