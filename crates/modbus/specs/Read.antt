-- Paper 01, "What the meter does with a frame", step 4: how a read is judged over a view, a directory and the most words of a read. The
-- meter answers by it, and the collector knows by it which requests are answered with data.
use Rattle.std.specs.Prelude.{◌≡◌, ◌↔◌, ◌⊎◌, ℕ, ◌+◌, ◌≤◌, ◌<◌, Bool, true, false, ◌||◌, not, cond, List, ltb, eqb, length, Result, Ok, Err}
use Rattle.refusal.specs.declared.ErrorCode.{ErrorCode}
use Rattle.refusal.specs.declared.ErrorCode.TheVariants.{Function, Address, Data}
use Rattle.directory.specs.declared.Span.{Span}
use Rattle.directory.specs.Run.{run_in, span}
use Rattle.directory.specs.Views.{View}
use Rattle.directory.specs.Tenant.{tenant_of}
use Rattle.modbus.specs.Frame.{start_of, word_number}

-- word number outside 1 to the most
abbrev pub number_wrong : ℕ → ℕ → Bool
number_wrong most n = ltb n 1 || ltb most n

-- step 4: how a read is judged over a view
unfoldable pub read_in : View → List ℕ → Result Span ErrorCode
read_in v frame =
    -- length not 8, or word number outside 1 to the most (120): error 03
    cond (not (eqb (length frame) 8) || number_wrong v.most (word_number frame)) (Err Data)
    -- start, and the run item by item: error 02, or 03 for half an L; else data
    (run_in v.seen (start_of frame) (word_number frame))

module _ (v : View) (frame : List ℕ) where
  -- the word number is outside 1 to the most
  abbrev wrong : Bool
  wrong = number_wrong v.most (word_number frame)

  -- the run for the words asked
  abbrev run_asked : Result Span ErrorCode
  run_asked = run_in v.seen (start_of frame) (word_number frame)

  -- STATEMENT: when a read is answered with error 02, when with error 03, and when with data; error 01 is never due to one
  pub record ReadWhen : Type 0 where
    pub error_02 : (read_in v frame ≡ Err Address) ↔ ((length frame ≡ 8) × (wrong ≡ false) × (run_asked ≡ Err Address))
    pub error_03 : (read_in v frame ≡ Err Data) ↔ ((length frame ≡ 8 → ⊥) ⊎ (wrong ≡ true) ⊎ (run_asked ≡ Err Data))
    pub items :
        (first count : ℕ) →
        (read_in v frame ≡ Ok (span first count)) ↔ ((length frame ≡ 8) × (wrong ≡ false) × (run_asked ≡ Ok (span first count)))
    pub never : read_in v frame ≡ Err Function → ⊥

  -- STATEMENT: a tenant's read (request 3) is judged as over the whole directory, or gets error 02. One that the whole directory answers
  -- with data is answered with the same items if these are all for the tenant; if not, it would leave the view, and gets error 02
  pub record TenantReads : Type 0 where
    pub either : (read_in (tenant_of v) frame ≡ read_in v frame) ⊎ (read_in (tenant_of v) frame ≡ Err Address)
    pub inside :
        (first count : ℕ) → read_in v frame ≡ Ok (span first count) → first + count ≤ length (tenant_of v).seen →
        read_in (tenant_of v) frame ≡ Ok (span first count)
    pub leaves :
        (first count : ℕ) → read_in v frame ≡ Ok (span first count) → length (tenant_of v).seen < first + count →
        read_in (tenant_of v) frame ≡ Err Address
