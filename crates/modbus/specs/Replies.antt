-- Paper 01, "What the meter does with a frame": the bytes of a reply that carries no measurement, CRC included.
use Rattle.std.specs.Prelude.{ℕ, ◌+◌, List, [], ◌∷◌, take}
use Rattle.refusal.specs.declared.ErrorCode.{ErrorCode}
use Rattle.refusal.specs.Numbers.{error_number}
use Rattle.crc.specs.Crc.{sealed}
use Rattle.modbus.specs.Frame.{address_of, function_of}

-- an error reply is address, function + 0x80, code, CRC
abbrev pub error_bytes : List ℕ → ℕ → List ℕ
error_bytes frame code = sealed (address_of frame ∷ (function_of frame + 0x80) ∷ code ∷ [])

-- the error reply of an error code
abbrev pub error_reply : List ℕ → ErrorCode → List ℕ
error_reply frame code = error_bytes frame (error_number code)

-- address, function, start and word number, a frame's first six bytes, are echoed
abbrev pub echo_reply : List ℕ → List ℕ
echo_reply frame = sealed (take 6 frame)
