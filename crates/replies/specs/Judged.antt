-- Paper 01, "Collector" and "Refusal numbers", 3 and 7 to 11: what a request and its reply come to before any item is looked at, over a
-- view, the directory and the most words of the meter that was asked.
use Rattle.std.specs.Prelude.{ℕ, ◌+◌, ◌*◌, Bool, ◌&&◌, ◌||◌, not, cond, List, ltb, eqb, length, get_or, Result, Ok, Err}
use Rattle.refusal.specs.declared.Refusal.TheVariants.{RatioOutOfLimits, NotARead, ReplyLength, ReplyCrc, ReplyForeign, ReplyMisfit}
use Rattle.refusal.specs.declared.ErrorCode.{ErrorCode}
use Rattle.refusal.specs.declared.UnknownCode.{UnknownCode}
use Rattle.refusal.specs.Numbers.{code_named}
use Rattle.refusal.specs.Words.{refusal_text, error_text}
use Rattle.crc.specs.Crc.{intact}
use Rattle.ratio.specs.declared.Ratios.{Ratios}
use Rattle.ratio.specs.Ratios.{ratios_ok}
use Rattle.directory.specs.declared.Span.{Span}
use Rattle.directory.specs.Views.{View}
use Rattle.modbus.specs.Frame.{address_of, function_of, is_read, word_number, silence}
use Rattle.modbus.specs.Read.{read_in}
use Rattle.reading.specs.declared.Answer.{Answer}
use Rattle.reading.specs.declared.Answer.TheVariants as answer
use Rattle.replies.specs.declared.Unread.{Unread}
use Rattle.replies.specs.declared.Unread.TheVariants.{Error, Refused}

-- what is answered where nothing is read: the error code or the refusal, handed on
abbrev pub unread : Unread → Answer
unread (Error code) = answer.Error code
unread (Refused reason) = answer.Refused reason

-- and what is printed there: that error code or that refusal
abbrev pub unread_text : Unread → List ℕ
unread_text (Error code) = error_text code
unread_text (Refused reason) = refusal_text reason

-- a read that a meter of that own address, 1 to 255, does not keep silent on
unfoldable pub heard : List ℕ → Bool
heard request = not (eqb (address_of request) 0) && (is_read request && not (silence (address_of request) request))

-- 7. request is not a read that a meter of that own address, 1 to 255, answers with data; else the items that it asks for
abbrev pub on_items : Result Span ErrorCode → (Span → Result Span Unread) → Result Span Unread
on_items (Err code) go = Err (Refused NotARead)
on_items (Ok asked) go = go asked

-- 8. reply under 5 or over 256 bytes
abbrev pub length_wrong : List ℕ → Bool
length_wrong reply = ltb (length reply) 5 || ltb 256 (length reply)

-- function 0x83
abbrev pub is_read_error : List ℕ → Bool
is_read_error reply = eqb (function_of reply) 0x83

-- 10. reply address differs, or function neither 0x03 nor 0x83
abbrev pub foreign : List ℕ → List ℕ → Bool
foreign request reply = not (eqb (address_of reply) (address_of request)) || (not (is_read reply) && not (is_read_error reply))

-- behind address and function: of an error reply the code, of data the byte number
abbrev pub third_of : List ℕ → ℕ
third_of reply = get_or reply 2 0

-- the error code that a number names; 11: code not 1 to 3
abbrev pub on_code : Result ErrorCode UnknownCode → Unread
on_code (Ok code) = Error code
on_code (Err unknown) = Refused ReplyMisfit

abbrev pub code_of : ℕ → Unread
code_of n = on_code (code_named n)

-- 11, of 0x83: length not 5, or the code not one; else the error code is given
unfoldable pub error_of : List ℕ → Unread
error_of reply = cond (not (eqb (length reply) 5)) (Refused ReplyMisfit) (code_of (third_of reply))

-- 11, of 0x03: byte number not twice the words asked, or length not 5 plus it
abbrev pub misfit : List ℕ → List ℕ → Bool
misfit request reply = not (eqb (third_of reply) (2 * word_number request)) || not (eqb (length reply) (5 + third_of reply))

-- what a reply to a read comes to before any item is looked at, what was asked where it fits: the first that applies
unfoldable pub reply_of : {A : Type 0} → List ℕ → List ℕ → A → Result A Unread
reply_of request reply asked =
    -- 8, 9 (reply CRC wrong), 10
    cond (length_wrong reply) (Err (Refused ReplyLength))
    (cond (not (intact reply)) (Err (Refused ReplyCrc))
    (cond (foreign request reply) (Err (Refused ReplyForeign))
    -- 11 or the error code
    (cond (is_read_error reply) (Err (error_of reply))
    (cond (misfit request reply) (Err (Refused ReplyMisfit))
    (Ok asked)))))

-- what a request and its reply come to, over a view, before any item is looked at: the first that applies
unfoldable pub judged_in : View → List ℕ → List ℕ → Ratios → Result Span Unread
judged_in v request reply r =
    -- 3. KTA or KTV out of limits
    cond (not (ratios_ok r)) (Err (Refused RatioOutOfLimits))
    -- 7, then the reply
    (cond (not (heard request)) (Err (Refused NotARead))
    (on_items (read_in v request) (reply_of request reply)))
